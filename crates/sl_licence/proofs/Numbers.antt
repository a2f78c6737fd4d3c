-- Whether a request among these numbers was told that no fileid is left.
use Rattle.std.proofs.Common.{◌≡◌, ℕ, true, List, get_or, take, length, ◌<◌, ◌≤◌, ◌+◌, ap, sym, subst, ◌∙◌, inl, inr, eqb-true}
use Rattle.std.proofs.lemmas.Bool.{or_cases}
use Rattle.std.proofs.lemmas.List.Folds.{list_any_more}
use Rattle.std.specs.Prelude.{◌==◌}
use Rattle.sl_history.specs.Turns.{History}
use Rattle.std.proofs.lemmas.List.{take_all}
use Rattle.sl_history.specs.Licensed.{IsTold, is_in}
use Rattle.sl_licence.specs.declared.mints.Mints.{Mints}
use Rattle.sl_licence.specs.Mints.{AreMintsOf, IsRefused, numbers_at}
use Rattle.sl_licence.proofs.Minting.{told_refused}

abbrev pub NoneRefused : History → Mints → ℕ → List ℕ → Type 0
NoneRefused h m n ks = (k : ℕ) → is_in k ks ≡ true → IsRefused h m k n → ⊥

pub none_more : (h : History) (m : Mints) (n i : ℕ) (ks : List ℕ) (d : ℕ) → i < length ks → (IsRefused h m (get_or ks i d) n → ⊥) → NoneRefused h m n (take i ks) → NoneRefused h m n (take (i + 1) ks)
none_more h m n i ks d within never none k among refused =
    elim (or_cases (is_in k (take i ks)) (get_or ks i d == k) (sym (list_any_more (λ x. x == k) ks i d within) ∙ among)) as (λ w. ⊥) [
      | inl before ↦ none k before refused
      | inr here ↦ never (subst (λ (x : ℕ). IsRefused h m x n) (sym (eqb-true (get_or ks i d) k here)) refused)
    ]

pub untold : (h : History) (m : Mints) (n : ℕ) (ks : List ℕ) (i : ℕ) → ks ≡ numbers_at m.numbers n → length ks ≤ i → NoneRefused h m n (take i ks) → AreMintsOf h m → IsTold h n → ⊥
untold h m n ks i same all none are told =
    let parts = told_refused h m n are told in
    none told.sent.number (ap (is_in told.sent.number) (take_all i ks all ∙ same) ∙ parts.0) parts.1
