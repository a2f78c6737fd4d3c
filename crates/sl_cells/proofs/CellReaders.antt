-- Each reader of a cell, a key, a change or a write reads exactly the texts of those that fit.
use Rattle.std.proofs.Common.{◌≡◌, ℕ, zero, suc, ◌+◌, ◌^◌, ◌<◌, ◌≤◌, List, [], ◌∷◌, ◌++◌, length, replicate, take, drop, Option, Some, None, Bool, true, false, cond, ltb, eqb, ◌&&◌, refl, sym, ap, subst, ◌∙◌, append_assoc, arith}
use Rattle.std.specs.List.{list_all}
use Rattle.std.proofs.lemmas.Bool.{and_parts, and_from, ltb-true, lt-ltb, eqb-true}
use Rattle.std.proofs.lemmas.Option.{cond_some}
use Rattle.std.proofs.lemmas.List.{take_at, drop_at, length-append, length-replicate}
use Rattle.sl_defs.specs.Items.{u32_text, u64_text, opaque_text, padding, IsOpaque, AreBytes, ◌>>=◌, u64_at}
use Rattle.sl_defs.proofs.ItemLaws.{bind_some, Takes, length-u32_text, opaque_text_is}
use Rattle.sl_defs.proofs.Readers.{IsReader, Took, u32_reader, u64_reader, structure, mapped_takes, mapped_found}
use Rattle.sl_types.specs.declared.attributes.Fattr.{Fattr}
use Rattle.sl_types.specs.declared.writes.Write.{Write}
use Rattle.sl_types.specs.Numbers.{kind_number}
use Rattle.sl_xdr.specs.Reading.{flag_at, number_of_flag}
use Rattle.sl_items.specs.Reading.{bytes_at, kind_at, time_at, fattr_at, fattr_made, fattr_front_at, fattr_place_at, fattr_times_at}
use Rattle.sl_items.specs.Spelling.{IsBytes, FitsU64, FitsBytes, FitsTime, FitsFattr, time_text, fattr_text, fattr_front_text, fattr_place_text, fattr_times_text}
use Rattle.sl_items.proofs.DataReaders.{bytes_reader, kind_reader, flag_reader}
use Rattle.sl_defs.specs.declared.setup.Time.{Time}
use Rattle.sl_cells.specs.declared.cells.AttrCell.{AttrCell}
use Rattle.sl_cells.specs.declared.cells.NameCell.{NameCell}
use Rattle.sl_cells.specs.declared.keys.CellKey.{CellKey}
use Rattle.sl_cells.specs.declared.keys.CellKey.TheVariants as key
use Rattle.sl_cells.specs.declared.changes.Change.{Change}
use Rattle.sl_cells.specs.declared.changes.Change.TheVariants as change
use Rattle.sl_cells.specs.Reading.{padding_in, padded_at, is_id, id_at, id_or_none_at, object_at, attr_cell_at, name_cell_at, name_key, key_body_at, key_at, take_name_change, change_body_at, change_at, write_at}
use Rattle.sl_cells.specs.Texts.{Spelled, IsId, IsIdOrNone, FitsObject, attr_cell_text, FitsAttrCell, name_cell_text, FitsNameCell, key_number, key_body_text, key_text, FitsKey, change_number, change_body_text, change_text, FitsChange, write_text, FitsWrite}
use Rattle.sl_cells.proofs.OneSpelling.{Reads, respelled, refitted, pair, guard, tagged, maybe}

-- ---- items

pub kind_reads : Reads kind_at (λ k. u32_text (kind_number k)) (λ k. Unit {0})
kind_reads = respelled kind_reader (λ k text is. (is, tt)) (λ k text is. is.0)

pub flag_reads : Reads flag_at (λ b. u32_text (number_of_flag b)) (λ b. Unit {0})
flag_reads = respelled flag_reader (λ b text is. (is, tt)) (λ b text is. is.0)

pub time_reads : Reads time_at time_text FitsTime
unfolding time_at time_text
time_reads =
    refitted
    (structure (pair u32_reader u32_reader) (λ x. record { sec = x.0; nsec = x.1 }) (λ (t : Time). (t.sec, t.nsec)) (λ t. refl) (λ x. refl))
    (λ t f. record { sec = f.0; nsec = f.1 })
    (λ t f. (f.sec, f.nsec))

fattr_reads : Reads fattr_at fattr_text FitsFattr
unfolding fattr_at fattr_front_at fattr_place_at fattr_times_at fattr_text fattr_front_text fattr_place_text fattr_times_text
fattr_reads =
    refitted
    (structure
    (pair
    (pair kind_reads (pair u32_reader (pair u32_reader (pair u32_reader (pair u32_reader (pair u64_reader u64_reader))))))
    (pair
    (pair u32_reader (pair u32_reader (pair u64_reader u64_reader)))
    (pair time_reads (pair time_reads time_reads))))
    fattr_made
    (λ a. (
      (a.kind, (a.mode, (a.nlink, (a.uid, (a.gid, (a.size, a.used)))))),
      ((a.major, (a.minor, (a.fsid, a.fileid))), (a.atime, (a.mtime, a.ctime))),
    ))
    (λ a. refl)
    (λ x. refl))
    (λ a f. record {
      mode = f.0.1.0;
      nlink = f.0.1.1.0;
      uid = f.0.1.1.1.0;
      gid = f.0.1.1.1.1.0;
      size = f.0.1.1.1.1.1.0;
      used = f.0.1.1.1.1.1.1;
      major = f.1.0.0;
      minor = f.1.0.1.0;
      fsid = f.1.0.1.1.0;
      fileid = f.1.0.1.1.1;
      atime = f.1.1.0;
      mtime = f.1.1.1.0;
      ctime = f.1.1.1.1;
    })
    (λ a f. (
      (tt, (f.mode, (f.nlink, (f.uid, (f.gid, (f.size, f.used)))))),
      ((f.major, (f.minor, (f.fsid, f.fileid))), (f.atime, (f.mtime, f.ctime))),
    ))

-- ---- opaques with padding of zeros

all_zero : (bytes : List ℕ) (n : ℕ) → length bytes ≡ n → list_all (λ b. eqb b 0) bytes ≡ true → bytes ≡ replicate n 0
all_zero [] zero len e = refl
all_zero [] (suc n) len e = absurd (omega (arith, len))
all_zero (b ∷ bs) zero len e = absurd (omega (arith, len))
all_zero (b ∷ bs) (suc n) len e =
    let g = and_parts (eqb b 0) (list_all (λ b. eqb b 0) bs) e in
    rw (eqb-true b 0 g.0, all_zero bs n (omega (arith, len)) g.1) refl

zeros_pass : (n : ℕ) → list_all (λ b. eqb b 0) (replicate n 0) ≡ true
zeros_pass zero = refl
zeros_pass (suc n) = zeros_pass n

-- the padding of an opaque that stands in front
padding_is : (body pad rest : List ℕ) → length pad ≡ padding (length body) → padding_in ((u32_text (length body) ++ (body ++ pad)) ++ rest) body ≡ pad
padding_is body pad rest len =
    let front = u32_text (length body) ++ body in
    let regrouped : (u32_text (length body) ++ (body ++ pad)) ++ rest ≡ front ++ (pad ++ rest) = ap (λ (t : List ℕ). t ++ rest) (sym (append_assoc (u32_text (length body)) body pad)) ∙ append_assoc front pad rest in
    let front_len : length front ≡ 4 + length body = length-append (u32_text (length body)) body ∙ ap (λ (k : ℕ). k + length body) (length-u32_text (length body)) in
    ap (λ (t : List ℕ). take (padding (length body)) (drop (4 + length body) t)) regrouped
    ∙ ap (take (padding (length body))) (drop_at front (pad ++ rest) (4 + length body) front_len)
    ∙ take_at pad rest (padding (length body)) len

pub padded_reads : Reads padded_at opaque_text FitsBytes
unfolding padded_at opaque_text
padded_reads = record {
  takes = λ bytes x fits e.
      let b = bind_some (bytes_at bytes) (λ (y : List ℕ × List ℕ). cond (list_all (λ b. eqb b 0) (padding_in bytes y.0)) (Some y) None) x e in
      let g = cond_some (list_all (λ b. eqb b 0) (padding_in bytes b.0.0)) b.0 x b.2 in
      let k = bytes_reader.takes bytes b.0 fits b.1 in
      let body = b.0.0 in
      let is = k.1 in
      let stands : padding_in bytes body ≡ is.pad = ap (λ (t : List ℕ). padding_in t body) (k.2.parts ∙ ap (λ (t : List ℕ). t ++ b.0.1) is.spelled) ∙ padding_is body is.pad b.0.1 is.pad_length in
      let zero : is.pad ≡ replicate (padding (length body)) 0 = all_zero is.pad (padding (length body)) is.pad_length (ap (list_all (λ b. eqb b 0)) (sym stands) ∙ g.0) in
      subst (λ (x : List ℕ × List ℕ). Took (Spelled opaque_text FitsBytes) bytes x) g.1 (k.0, (is.spelled ∙ ap (λ (pad : List ℕ). u32_text (length body) ++ (body ++ pad)) zero, is.short), k.2);
  found = λ body text rest is.
      let o : IsOpaque text body = subst (λ (t : List ℕ). IsOpaque t body) (sym is.0) (opaque_text_is body is.1) in
      let pad = replicate {A = ℕ} (padding (length body)) 0 in
      let stands : padding_in (text ++ rest) body ≡ pad = ap (λ (t : List ℕ). padding_in (t ++ rest) body) is.0 ∙ padding_is body pad rest (length-replicate (padding (length body)) 0) in
      let clean : list_all (λ b. eqb b 0) (padding_in (text ++ rest) body) ≡ true = ap (list_all (λ b. eqb b 0)) stands ∙ zeros_pass (padding (length body)) in
      rw (bytes_reader.found body text rest o, clean) refl;
}

-- ---- numbers of objects

pub id_passes : (n : ℕ) → (1 ≤ n) × (n < 2 ^ 46) → is_id n ≡ true
id_passes n f = and_from (ltb 0 n) (ltb n (2 ^ 46)) (lt-ltb 0 n (omega (arith, f.0))) (lt-ltb n (2 ^ 46) f.1)

pub id_is : (n : ℕ) → is_id n ≡ true → IsId n
id_is n e = let g = and_parts (ltb 0 n) (ltb n (2 ^ 46)) e in (omega (arith, ltb-true 0 n g.0), ltb-true n (2 ^ 46) g.1)

pub id_reads : Reads id_at u64_text IsId
unfolding id_at
id_reads = refitted (guard u64_reader is_id) (λ n f. id_is n f.1) (λ n f. (omega (arith, f.1), id_passes n f))

pub id_or_none_reads : Reads id_or_none_at u64_text IsIdOrNone
unfolding id_or_none_at
id_or_none_reads = refitted (guard u64_reader _) (λ n f. ltb-true n (2 ^ 46) f.1) (λ n f. (omega (arith, f), lt-ltb n (2 ^ 46) f))

pub object_reads : Reads object_at fattr_text FitsObject
unfolding object_at
object_reads = refitted (guard fattr_reads _) (λ a f. (f.0, id_is a.fileid f.1)) (λ a f. (f.0, id_passes a.fileid f.1))

-- ---- cells

pub attr_cell_reads : Reads attr_cell_at attr_cell_text FitsAttrCell
unfolding attr_cell_at attr_cell_text
attr_cell_reads =
    structure
    (pair object_reads (pair id_or_none_reads (pair u64_reader (pair u64_reader (pair (maybe u64_reader) padded_reads)))))
    _
    (λ c. (c.attributes, (c.parent, (c.entries, (c.made, (c.verifier, c.link))))))
    (λ c. refl)
    (λ x. refl)

pub name_cell_reads : Reads name_cell_at name_cell_text FitsNameCell
unfolding name_cell_at name_cell_text
name_cell_reads =
    structure
    (pair id_reads (pair padded_reads (pair id_reads (pair kind_reads u64_reader))))
    _
    (λ c. (c.dir, (c.name, (c.fileid, (c.kind, c.cookie)))))
    (λ c. refl)
    (λ x. refl)

-- ---- keys

abbrev IsKeyBody : ℕ → CellKey → List ℕ → Type 0
IsKeyBody n k text = Spelled key_body_text FitsKey k text × (key_number k ≡ n)

key_takes : (n : ℕ) (bytes : List ℕ) (x : CellKey × List ℕ) → AreBytes bytes → key_body_at n bytes ≡ Some x → Took (IsKeyBody n) bytes x
unfolding key_body_at
key_takes zero bytes x fits e = absurd cc
key_takes (suc zero) bytes x fits e = mapped_takes id_reads (IsKeyBody 1) key.Attr (λ n text is. (is, refl)) bytes x fits e
key_takes (suc (suc zero)) bytes x fits e = mapped_takes (pair id_reads padded_reads) (IsKeyBody 2) name_key (λ n text is. (is, refl)) bytes x fits e
key_takes (suc (suc (suc n))) bytes x fits e = absurd cc

key_found : (k : CellKey) (text rest : List ℕ) → Spelled key_body_text FitsKey k text → key_body_at (key_number k) (text ++ rest) ≡ Some (k, rest)
unfolding key_body_at
key_found (key.Attr fileid) text rest is = mapped_found id_reads key.Attr fileid text rest is
key_found (key.Name dir name) text rest is = mapped_found (pair id_reads padded_reads) name_key (dir, name) text rest is

key_number_fits : (k : CellKey) → key_number k < 2 ^ 32
key_number_fits (key.Attr fileid) = omega arith
key_number_fits (key.Name dir name) = omega arith

pub key_reads : Reads key_at key_text FitsKey
unfolding key_at key_text
key_reads = tagged (record { takes = key_takes; found = key_found; number_fits = key_number_fits })

-- ---- changes

abbrev IsChangeBody : ℕ → Change → List ℕ → Type 0
IsChangeBody n c text = Spelled change_body_text FitsChange c text × (change_number c ≡ n)

change_takes : (n : ℕ) (bytes : List ℕ) (x : Change × List ℕ) → AreBytes bytes → change_body_at n bytes ≡ Some x → Took (IsChangeBody n) bytes x
unfolding change_body_at
change_takes zero bytes x fits e = absurd cc
change_takes (suc zero) bytes x fits e = mapped_takes attr_cell_reads (IsChangeBody 1) change.PutAttr (λ c text is. (is, refl)) bytes x fits e
change_takes (suc (suc zero)) bytes x fits e = mapped_takes id_reads (IsChangeBody 2) change.TakeAttr (λ n text is. (is, refl)) bytes x fits e
change_takes (suc (suc (suc zero))) bytes x fits e = mapped_takes name_cell_reads (IsChangeBody 3) change.PutName (λ c text is. (is, refl)) bytes x fits e
change_takes (suc (suc (suc (suc zero)))) bytes x fits e = mapped_takes (pair id_reads padded_reads) (IsChangeBody 4) take_name_change (λ n text is. (is, refl)) bytes x fits e
change_takes (suc (suc (suc (suc (suc zero))))) bytes x fits e = mapped_takes object_reads (IsChangeBody 5) change.SetFattr (λ a text is. (is, refl)) bytes x fits e
change_takes (suc (suc (suc (suc (suc (suc n)))))) bytes x fits e = absurd cc

change_found : (c : Change) (text rest : List ℕ) → Spelled change_body_text FitsChange c text → change_body_at (change_number c) (text ++ rest) ≡ Some (c, rest)
unfolding change_body_at
change_found (change.PutAttr cell) text rest is = mapped_found attr_cell_reads change.PutAttr cell text rest is
change_found (change.TakeAttr fileid) text rest is = mapped_found id_reads change.TakeAttr fileid text rest is
change_found (change.PutName cell) text rest is = mapped_found name_cell_reads change.PutName cell text rest is
change_found (change.TakeName dir name) text rest is = mapped_found (pair id_reads padded_reads) take_name_change (dir, name) text rest is
change_found (change.SetFattr attributes) text rest is = mapped_found object_reads change.SetFattr attributes text rest is

change_number_fits : (c : Change) → change_number c < 2 ^ 32
change_number_fits (change.PutAttr cell) = omega arith
change_number_fits (change.TakeAttr fileid) = omega arith
change_number_fits (change.PutName cell) = omega arith
change_number_fits (change.TakeName dir name) = omega arith
change_number_fits (change.SetFattr attributes) = omega arith

pub change_reads : Reads change_at change_text FitsChange
unfolding change_at change_text
change_reads = tagged (record { takes = change_takes; found = change_found; number_fits = change_number_fits })

-- ---- writes

pub write_reads : Reads write_at write_text FitsWrite
unfolding write_at write_text
write_reads = structure (pair u64_reader padded_reads) _ (λ (w : Write). (w.offset, w.bytes)) (λ w. refl) (λ x. refl)
