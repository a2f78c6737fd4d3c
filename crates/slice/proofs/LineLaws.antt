-- Lines of a text, and words at their front.
use Rattle.std.proofs.Common.{◌≡◌, ℕ, ◌+◌, ◌<◌, false, List, [], ◌∷◌, ◌++◌, length, get_or, take, drop, All, sym, ap, ◌∙◌, arith}
use Rattle.std.specs.List.{slice_split}
use Rattle.std.proofs.lemmas.Bool.{eq-eqb, ne_eqb}
use Rattle.std.proofs.lemmas.List.{take-append-drop, drop_more, length-take, get_or-take}
use Rattle.std.proofs.lemmas.List.Splits.{slice_split_at, slice_split_none}
use Rattle.std.proofs.lemmas.List.Elements.{All-from_get_or}
use Rattle.slice.specs.Schedule.{is_end}

pub split_here : (text : List ℕ) (i : ℕ) → i < length text → get_or text i 0 ≡ 10 → ((k : ℕ) → k < i → get_or text k 0 ≡ 10 → ⊥) → slice_split is_end text ≡ take i text ∷ slice_split is_end (drop (i + 1) text)
split_here text i lt here before =
    let none : All (λ x. is_end x ≡ false) (take i text) = All-from_get_or (λ x. is_end x ≡ false) (take i text) 0 (λ k h. let small : k < i = omega (arith, length-take i text) in rw (get_or-take i text k 0 small) (ne_eqb _ _ (before k small))) in
    let parts : text ≡ take i text ++ get_or text i 0 ∷ drop (i + 1) text = sym (take-append-drop i text) ∙ ap (λ (t : List ℕ). take i text ++ t) (drop_more text i 0 lt) in
    ap (slice_split is_end) parts ∙ slice_split_at is_end (take i text) (get_or text i 0) (drop (i + 1) text) none (eq-eqb _ _ here)

pub split_none : (text : List ℕ) → ((k : ℕ) → k < length text → get_or text k 0 ≡ 10 → ⊥) → slice_split is_end text ≡ text ∷ []
split_none text h = slice_split_none is_end text (All-from_get_or (λ x. is_end x ≡ false) text 0 (λ k lt. ne_eqb _ _ (h k lt)))
