-- A packet in three parts: the interval of the middle one, and the packet with another text there.
use Rattle.std.proofs.Common.{◌≡◌, ℕ, ◌+◌, ◌-◌, true, leb, List, ◌++◌, length, take, drop, Some, refl, sym, ap, subst, ◌∙◌, append_assoc, arith}
use Rattle.std.proofs.lemmas.Bool.{le-leb}
use Rattle.std.proofs.lemmas.List.{take_at, drop_at, length-append}
use Rattle.sl_edit.specs.declared.span.Span.{Span}
use Rattle.sl_edit.specs.Edits.{IsOrdered, bytes_in, spliced, IsSlot}
use Rattle.sl_edit.specs.Spans.{span_of}

pub span_same : (f t f' t' : ℕ) → f ≡ f' → t ≡ t' → ◌≡◌ {A = Span} (record { from = f; to = t }) (record { from = f'; to = t' })
span_same f t f' t' p q = rw (p, q) refl

module _ (before field after : List ℕ) where
  abbrev pub three : List ℕ
  three = before ++ (field ++ after)

  -- the interval of the middle part
  abbrev pub middle : Span
  middle = record { from = length before; to = length before + length field }

  pub length_of_three : length three ≡ length before + (length field + length after)
  length_of_three = omega (arith, length-append before (field ++ after), length-append field after)

  pub middle_bytes : bytes_in three middle ≡ field
  middle_bytes =
      let size : length before + length field - length before ≡ length field = omega arith in
      let behind : drop (length before) three ≡ field ++ after = drop_at before (field ++ after) (length before) refl in
      rw (behind, size) (take_at field after (length field) refl)

  pub middle_spliced : (text : List ℕ) → spliced three middle text ≡ before ++ (text ++ after)
  middle_spliced text =
      let front : take (length before) three ≡ before = take_at before (field ++ after) (length before) refl in
      let regrouped : (before ++ field) ++ after ≡ three = append_assoc before field after in
      let back : drop (length before + length field) three ≡ after = ap (λ (t : List ℕ). drop (length before + length field) t) (sym regrouped) ∙ drop_at (before ++ field) after (length before + length field) (length-append before field) in
      rw (front, back) refl

  pub middle_within : IsOrdered three middle
  middle_within = record { ordered = omega arith; inside = omega (arith, length_of_three) }

  pub middle_found : span_of three (field ++ after) (length field) ≡ Some middle
  unfolding span_of
  middle_found =
      let from : length three - length (field ++ after) ≡ length before = omega (arith, length_of_three, length-append field after) in
      let fits : leb (length before + length field) (length three) ≡ true = le-leb _ _ (omega (arith, length_of_three)) in
      rw (from, fits) refl

  -- the middle part is the slot of a field, if it spells the field, and other texts of its length say others
  pub slot : {V : Type 0} (Spells Says : V → List ℕ → Type 0) (value : V) → Spells value field → ((other : V) (text : List ℕ) → Spells other text → length text ≡ length field → Says other (before ++ (text ++ after))) → IsSlot Spells Says three middle value
  slot Spells Says value spells says =
      let size : length before + length field - length before ≡ length field = omega arith in
      record {
        place = middle_within;
        spelled = subst (Spells value) (sym middle_bytes) spells;
        says = λ other text is same. subst (Says other) (sym (middle_spliced text)) (says other text is (same ∙ size));
      }
