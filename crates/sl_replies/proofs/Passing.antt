-- A list that is passed over element by element.
use Rattle.std.proofs.Common.{◌≡◌, ℕ, suc, ◌+◌, ◌-◌, ◌<◌, true, false, List, [], ◌∷◌, Option, Some, None, refl, ap, ◌∙◌, arith}
use Rattle.sl_defs.specs.Items.{◌>>=◌}
use Rattle.sl_defs.specs.Parts.{mapped, ◌⊗◌}
use Rattle.sl_xdr.specs.Reading.{flag_at}
use Rattle.sl_items.specs.Skipping.{behind}
use Rattle.sl_replies.specs.Reading.{Reader, list_at}

-- So many elements were passed over: what is left behind the list is what is left behind the others.
pub record Passed {A : Type 0} (read : Reader A) (most done : ℕ) (bytes rest : List ℕ) : Type 0 where
  pub left : (k : ℕ) → k + done ≡ most → behind (list_at read most bytes) ≡ behind (list_at read k rest)

module _ {A : Type 0} (read : Reader A) where
  pub begins : (most : ℕ) (bytes : List ℕ) → Passed read most 0 bytes bytes
  begins most bytes = record { left = λ k e. let same : most ≡ k = omega arith in ap (λ (n : ℕ). behind (list_at read n bytes)) same }

  others : (x : A) (r : Option (List A × List ℕ)) → behind (mapped (λ (z : A × List A). z.0 ∷ z.1) (λ _. ◌>>=◌ {A = List A × List ℕ} {B = (A × List A) × List ℕ} r (λ y. Some ((x, y.0), y.1))) []) ≡ behind r
  others x None = refl
  others x (Some y) = refl

  one_more : (k : ℕ) (first : Option (A × List ℕ)) (r2 : List ℕ) → behind first ≡ Some r2 → behind (mapped (λ (z : A × List A). z.0 ∷ z.1) ((λ _. first) ⊗ list_at read k) []) ≡ behind (list_at read k r2)
  one_more k None r2 e = absurd cc
  one_more k (Some x) r2 e = let same : x.1 ≡ r2 = cc in others x.0 (list_at read k x.1) ∙ ap (λ (r : List ℕ). behind (list_at read k r)) same

  none_more : (k : ℕ) (first : Option (A × List ℕ)) → behind first ≡ None → behind (mapped (λ (z : A × List A). z.0 ∷ z.1) ((λ _. first) ⊗ list_at read k) []) ≡ None
  none_more k None e = refl
  none_more k (Some x) e = absurd cc

  next_is : (k : ℕ) (rest r1 r2 : List ℕ) → flag_at rest ≡ Some (true, r1) → behind (read r1) ≡ Some r2 → behind (list_at read (suc k) rest) ≡ behind (list_at read k r2)
  unfolding list_at
  next_is k rest r1 r2 more e = rw more (one_more k (read r1) r2 e)

  end_is : (k : ℕ) (rest r1 : List ℕ) → flag_at rest ≡ Some (false, r1) → behind (list_at read (suc k) rest) ≡ Some r1
  unfolding list_at
  end_is k rest r1 e = rw e refl

  no_flag_is : (k : ℕ) (rest : List ℕ) → flag_at rest ≡ None → behind (list_at read (suc k) rest) ≡ None
  unfolding list_at
  no_flag_is k rest e = rw e refl

  no_element_is : (k : ℕ) (rest r1 : List ℕ) → flag_at rest ≡ Some (true, r1) → behind (read r1) ≡ None → behind (list_at read (suc k) rest) ≡ None
  unfolding list_at
  no_element_is k rest r1 more e = rw more (none_more k (read r1) e)

  module _ (most done : ℕ) (bytes rest : List ℕ) (so : Passed read most done bytes rest) where
    pub goes_on : (r1 r2 : List ℕ) → flag_at rest ≡ Some (true, r1) → behind (read r1) ≡ Some r2 → Passed read most (done + 1) bytes r2
    goes_on r1 r2 more e = record { left = λ k sum. so.left (suc k) (omega arith) ∙ next_is k rest r1 r2 more e }

    some_left : done < most → (k : ℕ) × (suc k + done ≡ most)
    some_left lt = (most - suc done, omega arith)

    pub ends : (r1 : List ℕ) → done < most → flag_at rest ≡ Some (false, r1) → behind (list_at read most bytes) ≡ Some r1
    ends r1 lt e = let k = some_left lt in so.left (suc k.0) k.1 ∙ end_is k.0 rest r1 e

    pub no_flag : done < most → flag_at rest ≡ None → behind (list_at read most bytes) ≡ None
    no_flag lt e = let k = some_left lt in so.left (suc k.0) k.1 ∙ no_flag_is k.0 rest e

    pub no_element : (r1 : List ℕ) → done < most → flag_at rest ≡ Some (true, r1) → behind (read r1) ≡ None → behind (list_at read most bytes) ≡ None
    no_element r1 lt more e = let k = some_left lt in so.left (suc k.0) k.1 ∙ no_element_is k.0 rest r1 more e

  pub too_many : (most : ℕ) (bytes rest : List ℕ) → Passed read most most bytes rest → behind (list_at read most bytes) ≡ None
  unfolding list_at
  too_many most bytes rest so = so.left 0 (omega arith)
