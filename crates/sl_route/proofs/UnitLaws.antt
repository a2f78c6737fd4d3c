-- The servers of more units of a file than sites are those of the first 64.
use Rattle.std.proofs.Common.{◌≡◌, ℕ, ◌+◌, ◌-◌, ◌%◌, ◌≤◌, min, ◌⊎◌, ◌↔◌, inl, inr, ◌∙◌, ap, arith}
use Rattle.sl_route.specs.declared.class.Class.TheVariants as class
use Rattle.sl_route.specs.Places.{Places, server_of}
use Rattle.sl_route.specs.Spans.{site_of_unit, HoldsUnit}

module _ (p : Places) (fileid first : ℕ) where
  -- the unit among the first 64 that has the site of this one
  abbrev early : ℕ → ℕ
  early unit = first + (unit - first) % 64

  early_site : (unit : ℕ) → first ≤ unit → site_of_unit fileid unit ≡ site_of_unit fileid (early unit)
  early_site unit le = omega arith

  module _ (stop end a : ℕ) (is : stop ≡ min end (first + 64)) where
    from_early : HoldsUnit p fileid first stop a → HoldsUnit p fileid first end a
    from_early h = record { unit = h.unit; above = h.above; below = omega (arith, h.below); server = h.server }

    to_early : HoldsUnit p fileid first end a → HoldsUnit p fileid first stop a
    to_early h = record {
      unit = early h.unit;
      above = omega arith;
      below = omega (arith, h.above, h.below);
      server = h.server ∙ ap (λ (s : ℕ). server_of p class.Node s) (early_site h.unit h.above);
    }

    -- so a set that has those has all
    pub sites_repeat : (X Y : Type 0) → X ↔ (Y ⊎ HoldsUnit p fileid first stop a) → X ↔ (Y ⊎ HoldsUnit p fileid first end a)
    sites_repeat X Y so_far = (
      λ x. elim (so_far.0 x) [ inl y ↦ inl y | inr held ↦ inr (from_early held) ],
      λ h. elim h [ inl y ↦ so_far.1 (inl y) | inr held ↦ so_far.1 (inr (to_early held)) ],
    )
