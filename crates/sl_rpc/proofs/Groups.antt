-- Numbers read one after the other into a list.
use Rattle.std.proofs.Common.{◌≡◌, ℕ, suc, false, true, ◌+◌, ◌-◌, ◌<◌, List, [], ◌∷◌, ◌++◌, length, Option, Some, None, Result, Ok, Err, refl, sym, ap, ◌∙◌, append_assoc, arith}
use Rattle.std.proofs.lemmas.List.{append-nil, length-append}
use Rattle.std.specs.Prelude.{IsErr}
use Rattle.sl_defs.specs.Items.{Gives, ◌>>=◌, u32_at}
use Rattle.sl_defs.specs.Rpc.{u32s_at}

-- what was read, behind these numbers
abbrev pub behind : List ℕ → Option (List ℕ × List ℕ) → Option (List ℕ × List ℕ)
behind front None = None
behind front (Some x) = Some (front ++ x.0, x.1)

-- So many of the count's numbers were read, and all of them are these and those that are left.
pub record SoFar (count done : ℕ) (bytes numbers rest : List ℕ) : Type 0 where
  pub many : length numbers ≡ done
  pub left : (k : ℕ) → k + done ≡ count → u32s_at count bytes ≡ behind numbers (u32s_at k rest)

behind_none : (r : Option (List ℕ × List ℕ)) → r ≡ behind [] r
behind_none None = refl
behind_none (Some x) = refl

pub begins : (count : ℕ) (bytes : List ℕ) → SoFar count 0 bytes [] bytes
begins count bytes = record { many = refl; left = λ k e. let same : count ≡ k = omega arith in ap (λ (n : ℕ). u32s_at n bytes) same ∙ behind_none (u32s_at k bytes) }

behind_one : (numbers : List ℕ) (n : ℕ) (r : Option (List ℕ × List ℕ)) → behind numbers (r >>= λ x. Some (n ∷ x.0, x.1)) ≡ behind (numbers ++ n ∷ []) r
behind_one numbers n None = refl
behind_one numbers n (Some x) = ap (λ (front : List ℕ). Some (front, x.1)) (sym (append_assoc numbers (n ∷ []) x.0))

next_is : (k : ℕ) (numbers rest : List ℕ) (n : ℕ) (rest' : List ℕ) → u32_at rest ≡ Some (n, rest') → behind numbers (u32s_at (suc k) rest) ≡ behind (numbers ++ n ∷ []) (u32s_at k rest')
unfolding u32s_at
next_is k numbers rest n rest' e = rw e (behind_one numbers n (u32s_at k rest'))

none_is : (k : ℕ) (numbers rest : List ℕ) → u32_at rest ≡ None → behind numbers (u32s_at (suc k) rest) ≡ None
unfolding u32s_at
none_is k numbers rest e = rw e refl

pub goes_on : (count done : ℕ) (bytes numbers rest : List ℕ) (n : ℕ) (rest' : List ℕ) → SoFar count done bytes numbers rest → u32_at rest ≡ Some (n, rest') → SoFar count (done + 1) bytes (numbers ++ n ∷ []) rest'
goes_on count done bytes numbers rest n rest' so e = record {
  many = omega (arith, length-append numbers (n ∷ []), so.many);
  left = λ k sum. so.left (suc k) (omega arith) ∙ next_is k numbers rest n rest' e;
}

pub fails : (count done : ℕ) (bytes numbers rest : List ℕ) → SoFar count done bytes numbers rest → done < count → u32_at rest ≡ None → u32s_at count bytes ≡ None
fails count done bytes numbers rest so lt e =
    let some : (k : ℕ) × (suc k + done ≡ count) = (count - suc done, omega arith) in
    so.left (suc some.0) some.1 ∙ none_is some.0 numbers rest e

pub ends : (count : ℕ) (bytes numbers rest : List ℕ) → SoFar count count bytes numbers rest → u32s_at count bytes ≡ Some (numbers, rest)
unfolding u32s_at
ends count bytes numbers rest so = so.left 0 (omega arith) ∙ ap (λ (front : List ℕ). Some (front, rest)) (append-nil numbers)

pub gives_none : {X Y E : Type 0} (view : X → Y) (r : Result X E) (read : Option Y) → IsErr r → read ≡ None → Gives view r read
gives_none view (Ok x) read is e = let clash : false ≡ true = is in absurd cc
gives_none view (Err err) read is e = e
