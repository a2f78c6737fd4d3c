-- The first line of a text.
use Rattle.std.proofs.Common.{◌≡◌, ◌≢◌, ℕ, ◌+◌, ◌<◌, List, [], ◌∷◌, ◌++◌, length, get_or, take, drop, ap, sym, ◌∙◌, append_assoc, arith}
use Rattle.std.proofs.lemmas.List.{take-append-drop, drop_more, length-take, get_or-take}
use Rattle.std.proofs.lemmas.List.Elements.{All-from_get_or}
use Rattle.sl_defs.specs.Histories.{ended}
use Rattle.sl_past.specs.Transcripts.{HasNoEnd}

-- none stands among the first bytes
pub none_before : (text : List ℕ) (i : ℕ) → ((k : ℕ) → k < i → get_or text k 0 ≡ 10 → ⊥) → HasNoEnd (take i text)
none_before text i none = All-from_get_or (λ b. b ≢ 10) (take i text) 0 (λ k lt e.
    let small : k < i = omega (arith, length-take i text) in
    none k small (sym (get_or-take i text k 0 small) ∙ e))

-- none stands in the text
pub none_at_all : (text : List ℕ) → ((k : ℕ) → k < length text → get_or text k 0 ≡ 10 → ⊥) → HasNoEnd text
none_at_all text none = All-from_get_or (λ b. b ≢ 10) text 0 none

-- the text is what stands before its end of line at this place, and what stands behind
pub cut_at : (text : List ℕ) (i : ℕ) → i < length text → get_or text i 0 ≡ 10 → text ≡ ended (take i text) ++ drop (i + 1) text
cut_at text i lt here =
    sym (take-append-drop i text) ∙ ap (λ (t : List ℕ). take i text ++ t) (drop_more text i 0 lt) ∙ ap (λ (b : ℕ). take i text ++ b ∷ drop (i + 1) text) here
    ∙ sym (append_assoc (take i text) (10 ∷ []) (drop (i + 1) text))
