-- The servers of a span of bytes: of those below the threshold, and of the units above.
use Rattle.std.proofs.Common.{◌≡◌, ℕ, ◌+◌, ◌-◌, ◌*◌, ◌/◌, ◌%◌, ◌<◌, ◌≤◌, max, true, false, ◌⊎◌, ◌↔◌, inl, inr, refl, sym, ◌∙◌, ap, arith}
use Rattle.std.specs.Prelude.{nat_lt}
use Rattle.std.proofs.lemmas.Bool.{cases_lt, lt-ltb, le-ltb}
use Rattle.sl_route.specs.declared.class.Class.TheVariants as class
use Rattle.sl_route.specs.Places.{Places, server_of, server_of_byte, HoldsOne}
use Rattle.sl_route.specs.Spans.{site_of_unit, HoldsUnit, HoldsSmall}

module _ (p : Places) (fileid : ℕ) where
  -- the server of a byte below the threshold
  small_byte : (offset : ℕ) → offset < 65536 → server_of_byte p fileid offset ≡ server_of p class.Small (fileid % 16)
  unfolding server_of_byte
  small_byte offset lt = let t : nat_lt offset 65536 ≡ true = lt-ltb offset 65536 lt in rw t refl

  -- the server of a byte above
  unit_byte : (offset : ℕ) → 65536 ≤ offset → server_of_byte p fileid offset ≡ server_of p class.Node (site_of_unit fileid (offset / 8192))
  unfolding server_of_byte
  unit_byte offset le = let t : nat_lt offset 65536 ≡ false = le-ltb offset 65536 le in rw t refl

  module _ (from to a above : ℕ) (is : above ≡ max from 65536) where
    -- the server holds one of the units above
    abbrev HoldsAbove : Type 0
    HoldsAbove = HoldsUnit p fileid (above / 8192) ((to - 1) / 8192 + 1) a

    from_small : HoldsSmall p fileid from to a → HoldsOne p fileid from to a
    from_small h = record { offset = from; above = omega arith; below = h.some; server = h.server ∙ sym (small_byte from h.below) }

    at_byte : (offset : ℕ) → above ≤ offset → offset < to → (h : HoldsAbove) → offset / 8192 ≡ h.unit → HoldsOne p fileid from to a
    at_byte offset le lt h same = record {
      offset = offset;
      above = omega arith;
      below = lt;
      server = h.server ∙ ap (λ (u : ℕ). server_of p class.Node (site_of_unit fileid u)) (sym same) ∙ sym (unit_byte offset (omega arith));
    }

    -- a unit's first byte that the span has
    from_units : above < to → HoldsAbove → HoldsOne p fileid from to a
    from_units lt h = elim (cases_lt (h.unit * 8192) above) [
      | inl begun ↦ at_byte above (omega arith) lt h (omega (arith, h.above))
      | inr whole ↦ at_byte (h.unit * 8192) whole (omega (arith, h.below)) h (omega arith)
    ]

    to_parts : HoldsOne p fileid from to a → HoldsSmall p fileid from to a ⊎ HoldsAbove
    to_parts h = elim (cases_lt h.offset 65536) [
      | inl small ↦ inl (record {
        some = omega (arith, h.above, h.below);
        below = omega (arith, h.above);
        server = h.server ∙ small_byte h.offset small;
      })
      | inr large ↦ inr (record {
        unit = h.offset / 8192;
        above = omega (arith, h.above);
        below = omega (arith, h.below);
        server = h.server ∙ unit_byte h.offset large;
      })
    ]

    -- a set that has the servers of both parts, where the span passes the threshold
    pub in_parts : (X Y : Type 0) → X ↔ (Y ⊎ HoldsAbove) → Y ↔ HoldsSmall p fileid from to a → above < to → X ↔ HoldsOne p fileid from to a
    in_parts X Y both small lt = (
      λ x. elim (both.0 x) [ inl y ↦ from_small (small.0 y) | inr units ↦ from_units lt units ],
      λ h. elim (to_parts h) [ inl s ↦ both.1 (inl (small.1 s)) | inr units ↦ both.1 (inr units) ],
    )

    below_threshold : to ≤ above → HoldsOne p fileid from to a → HoldsSmall p fileid from to a
    below_threshold le h = record {
      some = omega (arith, h.above, h.below);
      below = omega (arith, h.above, h.below);
      server = h.server ∙ small_byte h.offset (omega (arith, h.above, h.below));
    }

    -- a set that has the server of the first, where it doesn't
    pub in_one_part : (Y : Type 0) → Y ↔ HoldsSmall p fileid from to a → to ≤ above → Y ↔ HoldsOne p fileid from to a
    in_one_part Y small le = (λ y. from_small (small.0 y), λ h. small.1 (below_threshold le h))
