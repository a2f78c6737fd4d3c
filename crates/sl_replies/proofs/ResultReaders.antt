-- Each reader of a procedure's results reads exactly what the grammar spells.
use Rattle.std.proofs.Common.{◌≡◌, ℕ, zero, suc, ◌^◌, ◌<◌, ◌≤◌, Bool, true, false, cond, eqb, List, [], ◌∷◌, ◌++◌, length, Some, Result, Ok, Err, refl, sym, ap, ◌∙◌, append_assoc, append-nil, arith}
use Rattle.std.proofs.lemmas.Bool.{eqb-true}
use Rattle.std.proofs.lemmas.List.{length-append}
use Rattle.std.specs.Prelude.{find, ◌==◌, if◌then◌else◌}
use Rattle.sl_defs.specs.Items.{u32_text, AreBytes}
use Rattle.sl_defs.specs.Parts.{◌⨾◌, IsVoid, IsU64, IsOptional, void_at, mapped, ◌⊗◌, optional_at}
use Rattle.sl_defs.proofs.ItemLaws.{Takes-then, length-u32_text}
use Rattle.sl_defs.proofs.Readers.{IsReader, Took, step, same_some, made, takes_nothing, u32_reader, u64_reader, both, mapped_takes, mapped_found, structure, enumeration, optional}
use Rattle.sl_types.specs.declared.kind.Status.{Status}
use Rattle.sl_types.specs.declared.kind.Status.TheVariants as status
use Rattle.sl_types.specs.declared.reply.AttrFault.{AttrFault}
use Rattle.sl_types.specs.declared.reply.WccFault.{WccFault}
use Rattle.sl_types.specs.declared.reply.ReaddirOk.{ReaddirOk}
use Rattle.sl_types.specs.declared.reply.ReaddirplusOk.{ReaddirplusOk}
use Rattle.sl_types.specs.Numbers.{status_number, statuses, status_of, is_ok_status}
use Rattle.sl_items.proofs.DataReaders.{fh_reader, bytes_reader, time_reader, fattr_reader, stable_reader, flag_reader}
use Rattle.sl_replies.specs.Results.{IsStatus, IsFlag, IsPostOpAttr, IsPostOpFh, IsWccAttr, IsWcc, IsList, IsResult, IsLookupOk, IsAccessOk, IsReadlinkOk, IsReadOk, IsWriteOk, IsMakeOk, IsEntry, IsEntryPlus, IsFsstatOk, IsFsinfoOk, IsPathconfOk, IsCommitOk}
use Rattle.sl_replies.specs.Reading.{Reader, status_at, post_op_attr_at, post_op_fh_at, wcc_attr_at, wcc_at, list_at, result_at, attr_fault_at, wcc_fault_at, lookup_ok_at, access_ok_at, readlink_ok_at, read_ok_at, write_ok_at, make_ok_at, entry_at, readdir_ok_at, entry_plus_at, readdirplus_ok_at, fsstat_ok_at, fsinfo_ok_at, pathconf_ok_at, commit_ok_at}

-- ---- statuses

-- what is found in a list passes the test
find_passes : (n : ℕ) (all : List Status) (s : Status) → find (λ s. status_number s == n) all ≡ Some s → status_number s ≡ n
find_passes n [] s e = absurd cc
find_passes n (x ∷ xs) s e = elim (eqb (status_number x) n) as (λ b. eqb (status_number x) n ≡ b → cond b (Some x) (find (λ s. status_number s == n) xs) ≡ Some s → status_number s ≡ n) [
  | true ↦ λ is h. ap status_number (sym (same_some x s h)) ∙ eqb-true _ _ is
  | false ↦ λ is h. find_passes n xs s h
] refl e

status_back : (s : Status) → status_of (status_number s) ≡ Some s
status_back status.Ok = refl
status_back status.Perm = refl
status_back status.NoEnt = refl
status_back status.Acces = refl
status_back status.Exist = refl
status_back status.NotDir = refl
status_back status.IsDir = refl
status_back status.Inval = refl
status_back status.FBig = refl
status_back status.NoSpc = refl
status_back status.MLink = refl
status_back status.NameTooLong = refl
status_back status.NotEmpty = refl
status_back status.Stale = refl
status_back status.BadHandle = refl
status_back status.NotSync = refl
status_back status.BadCookie = refl
status_back status.TooSmall = refl
status_back status.BadType = refl

status_fits : (s : Status) → status_number s < 2 ^ 32
status_fits status.Ok = omega arith
status_fits status.Perm = omega arith
status_fits status.NoEnt = omega arith
status_fits status.Acces = omega arith
status_fits status.Exist = omega arith
status_fits status.NotDir = omega arith
status_fits status.IsDir = omega arith
status_fits status.Inval = omega arith
status_fits status.FBig = omega arith
status_fits status.NoSpc = omega arith
status_fits status.MLink = omega arith
status_fits status.NameTooLong = omega arith
status_fits status.NotEmpty = omega arith
status_fits status.Stale = omega arith
status_fits status.BadHandle = omega arith
status_fits status.NotSync = omega arith
status_fits status.BadCookie = omega arith
status_fits status.TooSmall = omega arith
status_fits status.BadType = omega arith

pub status_reader : IsReader status_at IsStatus
unfolding status_at
status_reader = enumeration (record { there = λ n s e. find_passes n statuses s e; back = status_back; fits = status_fits })

ok_is : (s : Status) → is_ok_status s ≡ true → s ≡ status.Ok
ok_is status.Ok e = refl
ok_is other e = absurd cc

-- ---- attributes that may be absent

pub post_op_attr_reader : IsReader post_op_attr_at IsPostOpAttr
post_op_attr_reader = optional fattr_reader

pub post_op_fh_reader : IsReader post_op_fh_at IsPostOpFh
post_op_fh_reader = optional fh_reader

wcc_attr_reader : IsReader wcc_attr_at IsWccAttr
unfolding wcc_attr_at
wcc_attr_reader = both u64_reader (both time_reader time_reader)

wcc_fields : IsReader (optional_at wcc_attr_at ⊗ post_op_attr_at) (λ x. IsOptional IsWccAttr x.0 ⨾ IsPostOpAttr x.1)
wcc_fields = both (optional wcc_attr_reader) post_op_attr_reader

-- what stood there before is forgotten
pub wcc_reader : IsReader wcc_at IsWcc
unfolding wcc_at
wcc_reader = record {
  takes = mapped_takes wcc_fields IsWcc (λ x. record { after = x.1 }) (λ x text is. (x.0, is));
  found = λ w text rest is. mapped_found wcc_fields (λ x. record { after = x.1 }) (is.0, w.after) text rest is.1;
}

-- ---- results and failures

-- what follows a status as a failure of that status
pub IsFaultReader : {B : Type 0} → (Status → Reader B) → (B → Status) → (B → List ℕ → Type 0) → Type 0
IsFaultReader fault status_in IsFault = (s : Status) → IsReader (fault s) (λ f text. IsFault f text × (status_in f ≡ s))

module _ {A B : Type 0} {ok_at : Reader A} {IsOk : A → List ℕ → Type 0} (ok : IsReader ok_at IsOk) {fault_at : Status → Reader B} {status_in : B → Status} {IsFault : B → List ℕ → Type 0} (fault : (s : Status) → IsReader (fault_at s) (λ f text. IsFault f text × (status_in f ≡ s))) where
  -- the results of this status, behind the status
  abbrev Behind : List ℕ → Result A B → List ℕ → Type 0
  Behind front r text = IsResult IsOk status_in IsFault r (front ++ text)

  outcome_takes : (s : Status) (front bytes : List ℕ) (x : Result A B × List ℕ) → IsStatus s front → AreBytes bytes
      → (if is_ok_status s then mapped Ok ok_at else mapped Err (fault_at s)) bytes ≡ Some x → Took (Behind front) bytes x
  outcome_takes s front bytes x is fits e =
      elim (is_ok_status s) as (λ b. is_ok_status s ≡ b → cond b (mapped Ok ok_at) (mapped Err (fault_at s)) bytes ≡ Some x → Took (Behind front) bytes x) [
        | true ↦ λ test h. mapped_takes ok (Behind front) Ok (λ a text t. (front, text, is ∙ ap (λ (s : Status). u32_text (status_number s)) (ok_is s test), t, refl)) bytes x fits h
        | false ↦ λ test h. mapped_takes (fault s) (Behind front) Err (λ f text t. (ap is_ok_status t.1 ∙ test, (front, text, is ∙ ap (λ (s : Status). u32_text (status_number s)) (sym t.1), t.0, refl))) bytes x fits h
      ] refl e

  result_takes : (bytes : List ℕ) (x : Result A B × List ℕ) → AreBytes bytes → result_at ok_at fault_at bytes ≡ Some x → Took (IsResult IsOk status_in IsFault) bytes x
  unfolding result_at
  result_takes bytes x fits e =
      step status_reader bytes _ x (Took (IsResult IsOk status_in IsFault) bytes x) fits e (λ s rest front is t e'.
      let o = outcome_takes s front rest x is t.rest_fits e' in
      (front ++ o.0, o.1, Takes-then bytes front rest o.0 x.1 t o.2))

  result_found : (r : Result A B) (text rest : List ℕ) → IsResult IsOk status_in IsFault r text → result_at ok_at fault_at (text ++ rest) ≡ Some (r, rest)
  unfolding result_at
  result_found (Ok a) text rest is =
      ap (result_at ok_at fault_at) (ap (λ t. t ++ rest) is.4 ∙ append_assoc is.0 is.1 rest)
      ∙ rw (status_reader.found status.Ok is.0 (is.1 ++ rest) is.2) (mapped_found ok Ok a is.1 rest is.3)
  result_found (Err f) text rest is =
      let parts = is.1 in
      ap (result_at ok_at fault_at) (ap (λ t. t ++ rest) parts.4 ∙ append_assoc parts.0 parts.1 rest)
      ∙ rw (status_reader.found (status_in f) parts.0 (parts.1 ++ rest) parts.2, is.0) (mapped_found (fault (status_in f)) Err f parts.1 rest (parts.3, refl))

  pub results : IsReader (result_at ok_at fault_at) (IsResult IsOk status_in IsFault)
  results = record { takes = result_takes; found = result_found }

pub no_fault_reader : (s : Status) → IsReader (void_at s) (λ f text. IsVoid text × (f ≡ s))
no_fault_reader s = record {
  takes = λ bytes x fits e. made (λ f text. IsVoid text × (f ≡ s)) bytes s bytes [] x e (refl, refl) (takes_nothing bytes fits);
  found = λ f text rest is. rw is.0 (ap (λ (s : Status). Some (s, rest)) (sym is.1));
}

pub attr_fault_reader : (s : Status) → IsReader (attr_fault_at s) (λ (f : AttrFault) text. IsPostOpAttr f.attributes text × (f.status ≡ s))
unfolding attr_fault_at
attr_fault_reader s = record {
  takes = mapped_takes post_op_attr_reader (λ (f : AttrFault) text. IsPostOpAttr f.attributes text × (f.status ≡ s)) (λ a. record { status = s; attributes = a }) (λ a text is. (is, refl));
  found = λ f text rest is. mapped_found post_op_attr_reader (λ a. record { status = s; attributes = a }) f.attributes text rest is.0 ∙ ap (λ (s : Status). let fault : AttrFault = record { status = s; attributes = f.attributes } in Some (fault, rest)) (sym is.1);
}

pub wcc_fault_reader : (s : Status) → IsReader (wcc_fault_at s) (λ (f : WccFault) text. IsWcc f.wcc text × (f.status ≡ s))
unfolding wcc_fault_at
wcc_fault_reader s = record {
  takes = mapped_takes wcc_reader (λ (f : WccFault) text. IsWcc f.wcc text × (f.status ≡ s)) (λ w. record { status = s; wcc = w }) (λ w text is. (is, refl));
  found = λ f text rest is. mapped_found wcc_reader (λ w. record { status = s; wcc = w }) f.wcc text rest is.0 ∙ ap (λ (s : Status). let fault : WccFault = record { status = s; wcc = f.wcc } in Some (fault, rest)) (sym is.1);
}

-- ---- lists

-- a list of fewer elements than most
abbrev pub IsShort : {A : Type 0} → (A → List ℕ → Type 0) → ℕ → List A → List ℕ → Type 0
IsShort Is most xs text = IsList Is xs text × (length xs < most)

module _ {A : Type 0} {read : Reader A} {Is : A → List ℕ → Type 0} (r : IsReader read Is) where
  -- a list of fewer elements than one more, whose first flag stands in front
  abbrev Next : ℕ → List ℕ → List A → List ℕ → Type 0
  Next n front xs text = IsShort Is (suc n) xs (front ++ text)

  abbrev joined : A × List A → List A
  joined x = x.0 ∷ x.1

  more_takes : (n : ℕ) (l : IsReader (list_at read n) (IsShort Is n)) (more : Bool) (front bytes : List ℕ) (x : List A × List ℕ) → IsFlag more front → AreBytes bytes
      → (if more then mapped joined (read ⊗ list_at read n) else void_at []) bytes ≡ Some x → Took (Next n front) bytes x
  more_takes n l true front bytes x is fits e = mapped_takes (both r l) (Next n front) joined (λ p text t. ((front, text, is, (t.0, t.1, t.2, t.3.0, t.4), refl), omega (arith, t.3.1))) bytes x fits e
  more_takes n l false front bytes x is fits e = made (Next n front) bytes [] bytes [] x e (append-nil front ∙ is, omega arith) (takes_nothing bytes fits)

  next_takes : (n : ℕ) (l : IsReader (list_at read n) (IsShort Is n)) (bytes : List ℕ) (x : List A × List ℕ) → AreBytes bytes → list_at read (suc n) bytes ≡ Some x → Took (IsShort Is (suc n)) bytes x
  unfolding list_at
  next_takes n l bytes x fits e =
      step flag_reader bytes _ x (Took (IsShort Is (suc n)) bytes x) fits e (λ more rest front is t e'.
      let o = more_takes n l more front rest x is t.rest_fits e' in
      (front ++ o.0, o.1, Takes-then bytes front rest o.0 x.1 t o.2))

  next_found : (n : ℕ) (l : IsReader (list_at read n) (IsShort Is n)) (xs : List A) (text rest : List ℕ) → IsShort Is (suc n) xs text → list_at read (suc n) (text ++ rest) ≡ Some (xs, rest)
  unfolding list_at
  next_found n l [] text rest is = rw (flag_reader.found false text rest is.0) refl
  next_found n l (a ∷ others) text rest is =
      let parts = is.0 in
      let tail = parts.3 in
      ap (list_at read (suc n)) (ap (λ t. t ++ rest) parts.4 ∙ append_assoc parts.0 parts.1 rest)
      ∙ rw (flag_reader.found true parts.0 (parts.1 ++ rest) parts.2) (mapped_found (both r l) joined (a, others) parts.1 rest (tail.0, tail.1, tail.2, (tail.3, omega (arith, is.1)), tail.4))

  pub lists : (most : ℕ) → IsReader (list_at read most) (IsShort Is most)
  unfolding list_at
  lists zero = record { takes = λ bytes x fits e. absurd cc; found = λ xs text rest is. absurd (omega (arith, is.1)) }
  lists (suc n) = record { takes = next_takes n (lists n); found = next_found n (lists n) }

-- a list has fewer elements than bytes
list_long : {A : Type 0} (Is : A → List ℕ → Type 0) (xs : List A) (text : List ℕ) → IsList Is xs text → length xs < length text
list_long Is [] text is = omega (arith, ap length is, length-u32_text 0)
list_long Is (x ∷ xs) text is =
    let others = list_long Is xs is.3.1 is.3.3 in
    omega (arith, others, ap length is.4, length-append is.0 is.1, ap length is.2, length-u32_text 1, ap length is.3.4, length-append is.3.0 is.3.1)

module _ {A : Type 0} (Is : A → List ℕ → Type 0) (First Second Last : List ℕ → Type 0) (xs : List A) (most : ℕ) where
  -- the third part of a structure as a list of any length, and as a short one
  pub any_length : (text : List ℕ) → (First ⨾ Second ⨾ IsShort Is most xs ⨾ Last) text → (First ⨾ Second ⨾ IsList Is xs ⨾ Last) text
  any_length text is = (is.0, is.1, is.2, (is.3.0, is.3.1, is.3.2, (is.3.3.0, is.3.3.1, is.3.3.2.0, is.3.3.3, is.3.3.4), is.3.4), is.4)

  pub short_enough : (text : List ℕ) → length text ≤ most → (First ⨾ Second ⨾ IsList Is xs ⨾ Last) text → (First ⨾ Second ⨾ IsShort Is most xs ⨾ Last) text
  short_enough text fits is =
      let entries = is.3.3 in
      let few : length xs < most = omega (arith, fits, list_long Is xs entries.0 entries.2, ap length is.4, length-append is.0 is.1, ap length is.3.4, length-append is.3.0 is.3.1, ap length entries.4, length-append entries.0 entries.1) in
      (is.0, is.1, is.2, (is.3.0, is.3.1, is.3.2, (entries.0, entries.1, (entries.2, few), entries.3, entries.4), is.3.4), is.4)

-- ---- the results of each procedure after status OK

pub lookup_ok_reader : IsReader lookup_ok_at IsLookupOk
unfolding lookup_ok_at
lookup_ok_reader = structure (both fh_reader (both post_op_attr_reader post_op_attr_reader)) _ (λ ok. (ok.object, (ok.attributes, ok.dir_attributes))) (λ ok. refl) (λ x. refl)

pub access_ok_reader : IsReader access_ok_at IsAccessOk
unfolding access_ok_at
access_ok_reader = structure (both post_op_attr_reader u32_reader) _ (λ ok. (ok.attributes, ok.bits)) (λ ok. refl) (λ x. refl)

pub readlink_ok_reader : IsReader readlink_ok_at IsReadlinkOk
unfolding readlink_ok_at
readlink_ok_reader = structure (both post_op_attr_reader bytes_reader) _ (λ ok. (ok.attributes, ok.path)) (λ ok. refl) (λ x. refl)

pub read_ok_reader : IsReader read_ok_at IsReadOk
unfolding read_ok_at
read_ok_reader = structure (both post_op_attr_reader (both u32_reader (both flag_reader bytes_reader))) _ (λ ok. (ok.attributes, (ok.count, (ok.eof, ok.bytes)))) (λ ok. refl) (λ x. refl)

pub write_ok_reader : IsReader write_ok_at IsWriteOk
unfolding write_ok_at
write_ok_reader = structure (both wcc_reader (both u32_reader (both stable_reader u64_reader))) _ (λ ok. (ok.wcc, (ok.count, (ok.committed, ok.verifier)))) (λ ok. refl) (λ x. refl)

pub make_ok_reader : IsReader make_ok_at IsMakeOk
unfolding make_ok_at
make_ok_reader = structure (both post_op_fh_reader (both post_op_attr_reader wcc_reader)) _ (λ ok. (ok.object, (ok.attributes, ok.wcc))) (λ ok. refl) (λ x. refl)

entry_reader : IsReader entry_at IsEntry
unfolding entry_at
entry_reader = structure (both u64_reader (both bytes_reader u64_reader)) _ (λ e. (e.fileid, (e.name, e.cookie))) (λ e. refl) (λ x. refl)

abbrev pub IsReaddirShort : ℕ → ReaddirOk → List ℕ → Type 0
IsReaddirShort most ok = IsPostOpAttr ok.attributes ⨾ IsU64 ok.cookie_verifier ⨾ IsShort IsEntry most ok.entries ⨾ IsFlag ok.eof

pub readdir_ok_reader : (most : ℕ) → IsReader (readdir_ok_at most) (IsReaddirShort most)
unfolding readdir_ok_at
readdir_ok_reader most = structure (both post_op_attr_reader (both u64_reader (both (lists entry_reader most) flag_reader))) _ (λ ok. (ok.attributes, (ok.cookie_verifier, (ok.entries, ok.eof)))) (λ ok. refl) (λ x. refl)

entry_plus_reader : IsReader entry_plus_at IsEntryPlus
unfolding entry_plus_at
entry_plus_reader = structure (both u64_reader (both bytes_reader (both u64_reader (both post_op_attr_reader post_op_fh_reader)))) _ (λ e. (e.fileid, (e.name, (e.cookie, (e.attributes, e.handle))))) (λ e. refl) (λ x. refl)

abbrev pub IsReaddirplusShort : ℕ → ReaddirplusOk → List ℕ → Type 0
IsReaddirplusShort most ok = IsPostOpAttr ok.attributes ⨾ IsU64 ok.cookie_verifier ⨾ IsShort IsEntryPlus most ok.entries ⨾ IsFlag ok.eof

pub readdirplus_ok_reader : (most : ℕ) → IsReader (readdirplus_ok_at most) (IsReaddirplusShort most)
unfolding readdirplus_ok_at
readdirplus_ok_reader most = structure (both post_op_attr_reader (both u64_reader (both (lists entry_plus_reader most) flag_reader))) _ (λ ok. (ok.attributes, (ok.cookie_verifier, (ok.entries, ok.eof)))) (λ ok. refl) (λ x. refl)

pub fsstat_ok_reader : IsReader fsstat_ok_at IsFsstatOk
unfolding fsstat_ok_at
fsstat_ok_reader =
    structure
    (both post_op_attr_reader (both u64_reader (both u64_reader (both u64_reader (both u64_reader (both u64_reader (both u64_reader u32_reader)))))))
    _
    (λ ok. (ok.attributes, (ok.total_bytes, (ok.free_bytes, (ok.available_bytes, (ok.total_files, (ok.free_files, (ok.available_files, ok.invariant_seconds))))))))
    (λ ok. refl)
    (λ x. refl)

pub fsinfo_ok_reader : IsReader fsinfo_ok_at IsFsinfoOk
unfolding fsinfo_ok_at
fsinfo_ok_reader =
    structure
    (both post_op_attr_reader (both u32_reader (both u32_reader (both u32_reader (both u32_reader (both u32_reader (both u32_reader (both u32_reader (both u64_reader (both time_reader u32_reader))))))))))
    _
    (λ ok. (ok.attributes, (ok.read_max, (ok.read_preferred, (ok.read_multiple, (ok.write_max, (ok.write_preferred, (ok.write_multiple, (ok.readdir_preferred, (ok.max_file_size, (ok.time_delta, ok.properties)))))))))))
    (λ ok. refl)
    (λ x. refl)

pub pathconf_ok_reader : IsReader pathconf_ok_at IsPathconfOk
unfolding pathconf_ok_at
pathconf_ok_reader =
    structure
    (both post_op_attr_reader (both u32_reader (both u32_reader (both flag_reader (both flag_reader (both flag_reader flag_reader))))))
    _
    (λ ok. (ok.attributes, (ok.link_max, (ok.name_max, (ok.no_trunc, (ok.chown_restricted, (ok.case_insensitive, ok.case_preserving)))))))
    (λ ok. refl)
    (λ x. refl)

pub commit_ok_reader : IsReader commit_ok_at IsCommitOk
unfolding commit_ok_at
commit_ok_reader = structure (both wcc_reader u64_reader) _ (λ ok. (ok.wcc, ok.verifier)) (λ ok. refl) (λ x. refl)
