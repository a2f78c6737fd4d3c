-- What differs where the root's mode was changed.
use Rattle.std.proofs.Common.{◌≡◌, ◌≢◌, ℕ, refl, sym, ap, ◌∙◌, Option, None, inl, inr, Bool, true, false, unwrap_or, cond, arith}
use Rattle.std.specs.Cmp.{nat_cmp_total}
use Rattle.std.specs.Ordering.{nat_cmp, eq_by_cmp}
use Rattle.std.proofs.lemmas.Map.Lookups.{CmpEqualImpliesEq, exact_pairs, exact_unsigned}
use Rattle.std.specs.FinMap.{FinMap, get, retain_keys, get-empty, get-retain_keys}
use Rattle.sl_model.specs.Plan.{Key, NodeKey, NameKey}
use Rattle.sl_model.specs.Volume.{place_cmp, seen, put_seen}
use Rattle.sl_model.specs.Perform.{fresh}
use Rattle.sl_history.specs.Placing.{carrier, key_server}
use Rattle.sl_history.specs.Wired.{Differs, DiffersAt}
use Rattle.sl_examples.specs.Histories.{start}
use Rattle.sl_refusals.specs.Answers.{changed_root}
use Rattle.sl_refusals.specs.Places.{wide}
use Rattle.sl_refusals.proofs.Lookups.{put_past, flushed_past}
use Rattle.sl_refusals.proofs.Looks.{before, after}

-- ---- what differs

pub exact_places : CmpEqualImpliesEq place_cmp
exact_places = exact_pairs nat_cmp nat_cmp exact_unsigned exact_unsigned

either_none : {A : Type 0} (b : Bool) (o : Option A) → o ≡ None → cond b o None ≡ None
either_none true o is = is
either_none false o is = refl

-- where there are no bytes, none are left
pub none_left : (m : FinMap place_cmp ℕ) (keeps : ℕ × ℕ → Bool) → ((q : ℕ × ℕ) → get m q ≡ None) → (q : ℕ × ℕ) → get (retain_keys m keeps) q ≡ None
none_left m keeps none q = get-retain_keys m keeps q (λ x tied. ap keeps (sym (exact_places q x tied))) ∙ either_none (keeps q) (get m q) (none q)

pub no_bytes : (q : ℕ × ℕ) → get start.written q ≡ None
unfolding fresh
no_bytes q = get-empty place_cmp q

pub no_byte_differs : (f at : ℕ) → DiffersAt before after f at → ⊥
no_byte_differs f at differ = differ (ap (λ o. unwrap_or o 0) (no_bytes (f, at) ∙ sym (none_left start.written _ no_bytes (f, at))))

pub same_key : (q k : ℕ) → eq_by_cmp nat_cmp q k ≡ true → q ≡ k
same_key q k is = grind (arith, is)

-- a node that differs is the root
node_differs : (f : ℕ) (same : Bool) → eq_by_cmp nat_cmp f 1 ≡ same → (get before.nodes f ≢ get after.nodes f) → f ≡ 1
node_differs f true is differ = same_key f 1 is
node_differs f false is differ =
    absurd (differ (sym (put_past nat_cmp_total (put_seen before.nodes 1 (seen before 1)) 1 changed_root f _ is (flushed_past before.nodes 1 (seen before 1) f _ is refl))))

pub cells_lie : (k : Key) → Differs before after k → key_server wide k ≡ 16
unfolding carrier
cells_lie (NodeKey f) (inl differ) = ap (λ f. key_server wide (NodeKey f)) (node_differs f _ refl differ)
cells_lie (NodeKey f) (inr differ) = absurd (differ refl)
cells_lie (NameKey d named) differ = absurd (differ refl)
