-- The fields of a reply that are edited have their slots.
use Rattle.std.proofs.Common.{◌≡◌, ℕ, ◌+◌, ◌-◌, ◌^◌, ◌<◌, true, false, cond, eqb, List, [], ◌++◌, length, take, drop, Option, Some, None, refl, sym, ap, subst, ◌∙◌, append_assoc, arith}
use Rattle.std.proofs.lemmas.Bool.{eqb-true}
use Rattle.std.proofs.lemmas.List.{length-append, length-take, length-drop, take-append-drop}
use Rattle.sl_defs.specs.Items.{u32_text, ◌>>=◌}
use Rattle.sl_defs.specs.Parts.{◌⨾◌, IsU32, IsU64, IsEnum}
use Rattle.sl_defs.specs.Rpc.{accepted_text}
use Rattle.sl_defs.proofs.ItemLaws.{u32_found, length-u32_text, length-u64_text}
use Rattle.sl_types.specs.declared.attributes.Fattr.{Fattr}
use Rattle.sl_types.specs.declared.reply.Reply.{Reply}
use Rattle.sl_defs.specs.declared.setup.Time.{Time}
use Rattle.sl_types.specs.Numbers.{kind_number}
use Rattle.sl_items.specs.Spelling.{IsFh, IsTime, IsFattrFront, IsFattrPlace, IsFattrTimes, IsFattr}
use Rattle.sl_replies.specs.Results.{IsFlag, IsReplyTo, procedure_of}
use Rattle.sl_edit.specs.declared.span.Span.{Span}
use Rattle.sl_edit.specs.Packets.{IsReplyPacket}
use Rattle.sl_edit.specs.Fields.{attributes_of, with_attributes, verifier_of, with_verifier, eof_of, with_eof, object_of, with_object, keepers_in, with_keepers_in, with_keepers}
use Rattle.sl_edit.specs.Edits.{HasSlot, IsItself, IsSlot}
use Rattle.sl_edit.specs.Spans.{span_of, xid_span, fh_span, results_in, attributes_in, attributes_span, verifier_in, verifier_span, eof_in, eof_span, object_in, keepers_within, keepers_span}
use Rattle.sl_edit.specs.Laws.{ReplyXidsHaveSlots, AttributesHaveSlots, VerifiersHaveSlots, EndMarksHaveSlots, KeepersHaveSlots}
use Rattle.sl_edit.proofs.Middles.{span_same, three, middle, middle_found, slot}
use Rattle.sl_edit.proofs.CallSlots.{fh_found, item_middle, other_item}
use Rattle.sl_edit.proofs.Inner.{At, AtIf, at_end, passes_word}
use Rattle.sl_edit.proofs.ReplyFields.{flag_length, attributes_stand, verifier_stands, end_mark_stands, object_stands}

-- ---- lengths

-- a structure is as long as its fields
lengths : (First Second : List ℕ → Type 0) (m n : ℕ) (text : List ℕ) → ((first : List ℕ) → First first → length first ≡ m) → ((second : List ℕ) → Second second → length second ≡ n) → (First ⨾ Second) text → length text ≡ m + n
lengths First Second m n text long also is = omega (arith, ap length is.4, length-append is.0 is.1, long is.0 is.2, also is.1 is.3)

u32_long : (n : ℕ) (text : List ℕ) → IsU32 n text → length text ≡ 4
u32_long n text is = ap length is.0 ∙ length-u32_text n

u64_long : (n : ℕ) (text : List ℕ) → IsU64 n text → length text ≡ 8
u64_long n text is = ap length is.0 ∙ length-u64_text n

enum_long : {A : Type 0} (number : A → ℕ) (a : A) (text : List ℕ) → IsEnum number a text → length text ≡ 4
enum_long number a text is = ap length is ∙ length-u32_text (number a)

time_long : (t : Time) (text : List ℕ) → IsTime t text → length text ≡ 8
time_long t text is = lengths _ _ 4 4 text (u32_long t.sec) (u32_long t.nsec) is

front_long : (a : Fattr) (text : List ℕ) → IsFattrFront a text → length text ≡ 36
front_long a text is = lengths _ _ 4 32 text (enum_long kind_number a.kind) (λ t. lengths _ _ 4 28 t (u32_long a.mode) (λ t. lengths _ _ 4 24 t (u32_long a.nlink) (λ t. lengths _ _ 4 20 t (u32_long a.uid) (λ t. lengths _ _ 4 16 t (u32_long a.gid) (λ t. lengths _ _ 8 8 t (u64_long a.size) (u64_long a.used)))))) is

place_long : (a : Fattr) (text : List ℕ) → IsFattrPlace a text → length text ≡ 24
place_long a text is = lengths _ _ 4 20 text (u32_long a.major) (λ t. lengths _ _ 4 16 t (u32_long a.minor) (λ t. lengths _ _ 8 8 t (u64_long a.fsid) (u64_long a.fileid))) is

times_long : (a : Fattr) (text : List ℕ) → IsFattrTimes a text → length text ≡ 24
times_long a text is = lengths _ _ 8 16 text (time_long a.atime) (λ t. lengths _ _ 8 8 t (time_long a.mtime) (time_long a.ctime)) is

fattr_long : (a : Fattr) (text : List ℕ) → IsFattr a text → length text ≡ 84
fattr_long a text is = lengths _ _ 36 48 text (front_long a) (λ t. lengths _ _ 24 24 t (place_long a) (times_long a)) is

-- ---- the head of an accepted reply

-- behind its xid
abbrev behind_xid : List ℕ
behind_xid = u32_text 1 ++ (u32_text 0 ++ (u32_text 0 ++ (u32_text 0 ++ u32_text 0)))

head_parts : (xid : ℕ) (results : List ℕ) → accepted_text xid 0 ++ results ≡ u32_text xid ++ (behind_xid ++ results)
unfolding accepted_text
head_parts xid results = append_assoc (u32_text xid) behind_xid results

words : (results : List ℕ) → behind_xid ++ results ≡ u32_text 1 ++ (u32_text 0 ++ (u32_text 0 ++ (u32_text 0 ++ (u32_text 0 ++ results))))
words results =
    append_assoc (u32_text 1) (u32_text 0 ++ (u32_text 0 ++ (u32_text 0 ++ u32_text 0))) results
    ∙ ap (λ (t : List ℕ). u32_text 1 ++ t) (append_assoc (u32_text 0) (u32_text 0 ++ (u32_text 0 ++ u32_text 0)) results
    ∙ ap (λ (t : List ℕ). u32_text 0 ++ t) (append_assoc (u32_text 0) (u32_text 0 ++ u32_text 0) results
    ∙ ap (λ (t : List ℕ). u32_text 0 ++ t) (append_assoc (u32_text 0) (u32_text 0) results)))

pub results_found : (xid : ℕ) (results : List ℕ) → xid < 2 ^ 32 → results_in (accepted_text xid 0 ++ results) ≡ Some results
unfolding results_in
results_found xid results fits =
    ap results_in (head_parts xid results ∙ ap (λ (t : List ℕ). u32_text xid ++ t) (words results))
    ∙ rw (
      u32_found xid (u32_text 1 ++ (u32_text 0 ++ (u32_text 0 ++ (u32_text 0 ++ (u32_text 0 ++ results))))) fits,
      passes_word 1 (u32_text 0 ++ (u32_text 0 ++ (u32_text 0 ++ (u32_text 0 ++ results)))) (omega arith),
      passes_word 0 (u32_text 0 ++ (u32_text 0 ++ (u32_text 0 ++ results))) (omega arith),
      passes_word 0 (u32_text 0 ++ (u32_text 0 ++ results)) (omega arith),
      passes_word 0 (u32_text 0 ++ results) (omega arith),
      passes_word 0 results (omega arith),
    ) refl

-- ---- a field of the results

module _ {V : Type 0} (Spells : V → List ℕ → Type 0) (size : ℕ) (sized : (v : V) (text : List ℕ) → Spells v text → length text ≡ size) (procedure : ℕ) (packet : List ℕ) (xid : ℕ) (r : Reply) (is : IsReplyPacket procedure packet xid r) (with_value : V → Reply) (from : List ℕ → Option (List ℕ)) where
  abbrev Says : V → List ℕ → Type 0
  Says v new = IsReplyPacket procedure new xid (with_value v)

  -- where reading finds it
  abbrev found_at : Option Span
  found_at = results_in packet >>= (λ results. from results >>= (λ field. span_of packet field size))

  results_are : results_in packet ≡ Some is.results
  results_are = ap results_in is.whole ∙ results_found xid is.results is.fits

  absent : from is.results ≡ None → found_at ≡ None
  absent none = rw (results_are, none) refl

  module _ (value : V) (a : At Spells (λ v. IsReplyTo (procedure_of r) (with_value v)) from value is.results) where
    abbrev before : List ℕ
    before = accepted_text xid 0 ++ a.before

    in_field : packet ≡ three before a.field a.after
    in_field = is.whole ∙ ap (λ (t : List ℕ). accepted_text xid 0 ++ t) a.parts ∙ sym (append_assoc (accepted_text xid 0) a.before (a.field ++ a.after))

    present : found_at ≡ Some (middle before a.field a.after)
    present =
        rw (results_are, a.found)
        (ap (λ (t : List ℕ). span_of t (a.field ++ a.after) size) in_field
        ∙ ap (span_of (three before a.field a.after) (a.field ++ a.after)) (sym (sized value a.field a.is))
        ∙ middle_found before a.field a.after)

    says : (v : V) (text : List ℕ) → Spells v text → Says v (before ++ (text ++ a.after))
    says v text spells =
        let reads = a.again v text spells in
        record {
          results = a.before ++ (text ++ a.after);
          fits = is.fits;
          is_reply = (reads.0, reads.1 ∙ is.is_reply.1);
          whole = append_assoc (accepted_text xid 0) a.before (text ++ a.after);
        }

    field_slot : IsSlot Spells Says packet (middle before a.field a.after) value
    field_slot = subst (λ (t : List ℕ). IsSlot Spells Says t (middle before a.field a.after) value) (sym in_field) (slot before a.field a.after Spells Says value a.is (λ v text spells same. says v text spells))

  field_has : (o : Option V) → AtIf Spells (λ v. IsReplyTo (procedure_of r) (with_value v)) from o is.results → HasSlot Spells Says packet found_at o
  field_has None none = subst (λ (s : Option Span). HasSlot Spells Says packet s None) (sym (absent none)) tt
  field_has (Some value) a = subst (λ (s : Option Span). HasSlot Spells Says packet s (Some value)) (sym (present value a)) (field_slot value a)

pub attributes : AttributesHaveSlots
unfolding attributes_span
attributes procedure packet xid r is =
    field_has IsFattr 84 fattr_long procedure packet xid r is (λ a. with_attributes a r) (attributes_in procedure) (attributes_of r)
    (subst (λ (n : ℕ). AtIf IsFattr (λ a. IsReplyTo (procedure_of r) (with_attributes a r)) (attributes_in n) (attributes_of r) is.results) is.is_reply.1
    (at_end IsFattr (λ a. IsReplyTo (procedure_of r) (with_attributes a r)) (attributes_in (procedure_of r)) (attributes_of r) is.results (attributes_stand r is.results is.is_reply.0)))

pub verifiers : VerifiersHaveSlots
unfolding verifier_span
verifiers procedure packet xid r is =
    field_has IsU64 8 u64_long procedure packet xid r is (λ v. with_verifier v r) (verifier_in procedure) (verifier_of r)
    (subst (λ (n : ℕ). AtIf IsU64 (λ v. IsReplyTo (procedure_of r) (with_verifier v r)) (verifier_in n) (verifier_of r) is.results) is.is_reply.1
    (at_end IsU64 (λ v. IsReplyTo (procedure_of r) (with_verifier v r)) (verifier_in (procedure_of r)) (verifier_of r) is.results (verifier_stands r is.results is.is_reply.0)))

pub end_marks : EndMarksHaveSlots
unfolding eof_span
end_marks procedure packet xid r is =
    field_has IsFlag 4 flag_length procedure packet xid r is (λ b. with_eof b r) (eof_in procedure) (eof_of r)
    (subst (λ (n : ℕ). AtIf IsFlag (λ b. IsReplyTo (procedure_of r) (with_eof b r)) (eof_in n) (eof_of r) is.results) is.is_reply.1
    (end_mark_stands r is.results is.is_reply.0))

-- ---- the xid

module _ (procedure : ℕ) (packet : List ℕ) (xid : ℕ) (r : Reply) (is : IsReplyPacket procedure packet xid r) where
  abbrev SaysXid : ℕ → List ℕ → Type 0
  SaysXid x new = IsReplyPacket procedure new x r

  abbrev after_xid : List ℕ
  after_xid = behind_xid ++ is.results

  in_xid : packet ≡ three [] (u32_text xid) after_xid
  in_xid = is.whole ∙ head_parts xid is.results

  xid_found : xid_span packet ≡ Some (middle [] (u32_text xid) after_xid)
  xid_found =
      ap xid_span in_xid
      ∙ ap (span_of (three [] (u32_text xid) after_xid) (three [] (u32_text xid) after_xid)) (sym (length-u32_text xid))
      ∙ middle_found [] (u32_text xid) after_xid

  says_xid : (x : ℕ) → x < 2 ^ 32 → SaysXid x (u32_text x ++ after_xid)
  says_xid x fits = record { results = is.results; fits = fits; is_reply = is.is_reply; whole = sym (head_parts x is.results) }

  pub xid_has : HasSlot IsU32 SaysXid packet (xid_span packet) (Some xid)
  xid_has =
      let own = slot [] (u32_text xid) after_xid IsU32 SaysXid xid (refl, is.fits) (λ x text number same. subst (λ (t : List ℕ). SaysXid x (t ++ after_xid)) (sym number.0) (says_xid x number.1)) in
      let there = subst (λ (t : List ℕ). IsSlot IsU32 SaysXid t (middle [] (u32_text xid) after_xid) xid) (sym in_xid) own in
      subst (λ (s : Option Span). HasSlot IsU32 SaysXid packet s (Some xid)) (sym xid_found) there

pub xids : ReplyXidsHaveSlots
xids procedure packet xid r is = xid_has procedure packet xid r is

-- ---- where a returned handle names the keepers of its object

module _ (procedure : ℕ) (packet : List ℕ) (xid : ℕ) (r : Reply) (is : IsReplyPacket procedure packet xid r) where
  abbrev SaysKeepers : List ℕ → List ℕ → Type 0
  SaysKeepers keepers new = IsReplyPacket procedure new xid (with_keepers keepers r)

  -- where the handle stands that the results begin with, if there is one
  abbrev Object : Option (List ℕ) → Type 0
  Object o = AtIf IsFh (λ v. IsReplyTo (procedure_of r) (with_object v r)) (object_in procedure) o is.results

  reads_results : results_in packet ≡ Some is.results
  reads_results = ap results_in is.whole ∙ results_found xid is.results is.fits

  no_object : object_in procedure is.results ≡ None → keepers_span procedure packet ≡ None
  unfolding keepers_span
  no_object none = rw (reads_results, none) refl

  module _ (fh : List ℕ) (named : object_of r ≡ Some fh) (a : Object (Some fh)) where
    abbrev item : List ℕ
    item = a.field

    abbrev opaque_is : IsFh fh item
    opaque_is = a.is

    abbrev front : List ℕ
    front = accepted_text xid 0 ++ a.before

    abbrev number : List ℕ
    number = u32_text (length fh)

    abbrev pad : List ℕ
    pad = opaque_is.0.pad

    abbrev rest : List ℕ
    rest = pad ++ a.after

    in_item : packet ≡ front ++ (item ++ a.after)
    in_item = is.whole ∙ ap (λ (t : List ℕ). accepted_text xid 0 ++ t) a.parts ∙ sym (append_assoc (accepted_text xid 0) a.before (item ++ a.after))

    handle_found : keepers_span procedure packet ≡ keepers_within (middle (front ++ number) fh rest)
    unfolding keepers_span
    handle_found =
        rw (reads_results, a.found)
        (ap (λ (t : List ℕ). fh_span t (item ++ a.after) >>= keepers_within) in_item
        ∙ rw (fh_found front fh item a.after opaque_is) refl)

    handle_size : length (front ++ number) + length fh - length (front ++ number) ≡ length fh
    handle_size = omega arith

    module _ (long : length fh ≡ 32) where
      abbrev until_keepers : List ℕ
      until_keepers = (front ++ number) ++ take 28 fh

      abbrev keepers : List ℕ
      keepers = drop 28 fh

      keepers_long : length keepers ≡ 4
      keepers_long = omega (arith, length-drop 28 fh, long)

      front_long' : length (take 28 fh) ≡ 28
      front_long' = omega (arith, length-take 28 fh, long)

      regroup : (last : List ℕ) → (front ++ number) ++ ((take 28 fh ++ last) ++ rest) ≡ until_keepers ++ (last ++ rest)
      regroup last = ap (λ (t : List ℕ). (front ++ number) ++ t) (append_assoc (take 28 fh) last rest) ∙ sym (append_assoc (front ++ number) (take 28 fh) (last ++ rest))

      in_three : packet ≡ three until_keepers keepers rest
      in_three =
          in_item ∙ item_middle front fh item a.after opaque_is.0
          ∙ ap (λ (t : List ℕ). (front ++ number) ++ (t ++ rest)) (sym (take-append-drop 28 fh))
          ∙ regroup keepers

      span_is : keepers_within (middle (front ++ number) fh rest) ≡ Some (middle until_keepers keepers rest)
      span_is =
          let from : length (front ++ number) + length fh - 4 ≡ length until_keepers = omega (arith, long, length-append (front ++ number) (take 28 fh), front_long') in
          let to : length (front ++ number) + length fh ≡ length until_keepers + length keepers = omega (arith, long, length-append (front ++ number) (take 28 fh), front_long', keepers_long) in
          let test : eqb (length (front ++ number) + length fh - length (front ++ number)) 32 ≡ true = rw (handle_size, long) refl in
          rw test (ap Some (span_same (length (front ++ number) + length fh - 4) (length (front ++ number) + length fh) (length until_keepers) (length until_keepers + length keepers) from to))

      says_last : (last : List ℕ) → length last ≡ 4 → SaysKeepers last (until_keepers ++ (last ++ rest))
      says_last last same =
          let fh' = take 28 fh ++ last in
          let size : length fh' ≡ length fh = omega (arith, length-append (take 28 fh) last, front_long', same, long) in
          let item' = number ++ (fh' ++ pad) in
          let reads = a.again fh' item' (other_item fh fh' item opaque_is size) in
          let reads_so : IsReplyTo (procedure_of r) (with_keepers last r) (a.before ++ (item' ++ a.after)) = subst (λ (o : Option (List ℕ)). IsReplyTo (procedure_of r) (with_keepers_in last o r) (a.before ++ (item' ++ a.after))) (sym named) reads in
          let whole : until_keepers ++ (last ++ rest) ≡ accepted_text xid 0 ++ (a.before ++ (item' ++ a.after)) =
          sym (regroup last)
          ∙ append_assoc front number (fh' ++ rest)
          ∙ ap (λ (t : List ℕ). front ++ t) (ap (λ (t : List ℕ). number ++ t) (sym (append_assoc fh' pad a.after)) ∙ sym (append_assoc number (fh' ++ pad) a.after))
          ∙ append_assoc (accepted_text xid 0) a.before (item' ++ a.after) in
          record { results = a.before ++ (item' ++ a.after); fits = is.fits; is_reply = (reads_so.0, reads_so.1 ∙ is.is_reply.1); whole = whole }

      keepers_slot : IsSlot IsItself SaysKeepers packet (middle until_keepers keepers rest) keepers
      keepers_slot =
          subst (λ (t : List ℕ). IsSlot IsItself SaysKeepers t (middle until_keepers keepers rest) keepers) (sym in_three)
          (slot until_keepers keepers rest IsItself SaysKeepers keepers refl (λ other text itself same. subst (λ (t : List ℕ). SaysKeepers other (until_keepers ++ (t ++ rest))) (sym itself) (says_last other (ap length (sym itself) ∙ same ∙ keepers_long))))

    -- a handle of another length names no keepers
    keepers_if : HasSlot IsItself SaysKeepers packet (keepers_within (middle (front ++ number) fh rest)) (keepers_in (Some fh))
    keepers_if =
        elim (eqb (length fh) 32) as (λ b. eqb (length fh) 32 ≡ b → HasSlot IsItself SaysKeepers packet (keepers_within (middle (front ++ number) fh rest)) (cond b (Some (drop 28 fh)) None)) [
          | true ↦ λ e.
              let long = eqb-true _ _ e in
              subst (λ (s : Option Span). HasSlot IsItself SaysKeepers packet s (Some (drop 28 fh))) (sym (span_is long)) (keepers_slot long)
          | false ↦ λ e.
              let nowhere : keepers_within (middle (front ++ number) fh rest) ≡ None = rw (handle_size, e) refl in
              subst (λ (s : Option Span). HasSlot IsItself SaysKeepers packet s None) (sym nowhere) tt
        ] refl

    keepers_some : HasSlot IsItself SaysKeepers packet (keepers_span procedure packet) (keepers_in (Some fh))
    keepers_some = subst (λ (s : Option Span). HasSlot IsItself SaysKeepers packet s (keepers_in (Some fh))) (sym handle_found) keepers_if

  keepers_has : (o : Option (List ℕ)) → object_of r ≡ o → Object o → HasSlot IsItself SaysKeepers packet (keepers_span procedure packet) (keepers_in o)
  keepers_has None named none = subst (λ (s : Option Span). HasSlot IsItself SaysKeepers packet s None) (sym (no_object none)) tt
  keepers_has (Some fh) named a = keepers_some fh named a

pub keepers_of_objects : KeepersHaveSlots
keepers_of_objects procedure packet xid r is =
    keepers_has procedure packet xid r is (object_of r) refl
    (subst (λ (n : ℕ). AtIf IsFh (λ v. IsReplyTo (procedure_of r) (with_object v r)) (object_in n) (object_of r) is.results) is.is_reply.1
    (at_end IsFh (λ v. IsReplyTo (procedure_of r) (with_object v r)) (object_in (procedure_of r)) (object_of r) is.results (object_stands r is.results is.is_reply.0)))
