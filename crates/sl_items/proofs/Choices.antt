-- A reader that is chosen by a number.
use Rattle.std.proofs.Common.{◌≡◌, ℕ, true, false, cond, eqb, List, Option, refl}
use Rattle.std.proofs.lemmas.Bool.{eqb-true}

-- What was read was read by the first, where the numbers are equal, or by the second.
pub chosen : {A : Type 0} (n m : ℕ) (f g : List ℕ → Option A) (bytes : List ℕ) (z : Option A) (P : Type 0) → cond (eqb n m) f g bytes ≡ z → (n ≡ m → f bytes ≡ z → P) → (g bytes ≡ z → P) → P
chosen n m f g bytes z P e k l =
    elim (eqb n m) as (λ b. eqb n m ≡ b → cond b f g bytes ≡ z → P) [
      | true ↦ λ is h. k (eqb-true n m is) h
      | false ↦ λ is h. l h
    ] refl e
