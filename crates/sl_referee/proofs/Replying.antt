-- Whether a remark is among those of a turn.
use Rattle.std.proofs.Common.{◌≡◌, ℕ, ◌+◌, ◌<◌, ◌≤◌, List, length, get_or, refl, ap, sym, ◌∙◌, arith, ◌⊎◌, inl, inr}
use Rattle.std.proofs.lemmas.Bool.{cases_eq}
use Rattle.std.proofs.lemmas.List.{length-map}
use Rattle.std.proofs.lemmas.Option.{same_Some, slice_get-get_or, slice_get-map, slice_get_read, slice_get_within, get_or_from_slice_get}
use Rattle.std.specs.Prelude.{Some, Contains, map, option_map}
use Rattle.std.specs.List.{slice_get}
use Rattle.sl_history.specs.Turns as turns
use Rattle.sl_past.specs.Words.{remark_of}
use Rattle.sl_past.specs.declared.remark.Remark.{Remark}

-- the remark isn't among the first k
abbrev pub NotYet : List Remark → turns.Remark → ℕ → Type 0
NotYet rs x k = (m : ℕ) → m < k → slice_get (map remark_of rs) m ≡ Some x → ⊥

item_of : (rs : List Remark) (k : ℕ) (r : Remark) → k < length rs → r ≡ get_or rs k r → slice_get (map remark_of rs) k ≡ Some (remark_of r)
item_of rs k r within is = slice_get-map remark_of rs k ∙ ap (option_map remark_of) (slice_get_read rs (length rs) k r refl within is)

pub is_there : (rs : List Remark) (x : turns.Remark) (k : ℕ) (r : Remark) → k < length rs → r ≡ get_or rs k r → remark_of r ≡ x → Contains (map remark_of rs) x
is_there rs x k r within is same =
    let got = item_of rs k r within is ∙ ap (λ (y : turns.Remark). Some y) same in
    (k, slice_get_within (map remark_of rs) k x got, get_or_from_slice_get (map remark_of rs) k x x got)

pub nowhere : (rs : List Remark) (x : turns.Remark) (k : ℕ) → length rs ≤ k → NotYet rs x k → Contains (map remark_of rs) x → ⊥
nowhere rs x k all none there =
    let long : length (map remark_of rs) ≡ length rs = length-map rs remark_of in
    none there.0 (omega (arith, all, there.1, long)) (slice_get-get_or (map remark_of rs) there.0 x there.1 ∙ ap (λ (y : turns.Remark). Some y) there.2)

pub not_here : (rs : List Remark) (x : turns.Remark) (k : ℕ) (r : Remark) → k < length rs → r ≡ get_or rs k r → (remark_of r ≡ x → ⊥) → NotYet rs x k → NotYet rs x (k + 1)
not_here rs x k r within is other none = λ m below got.
    elim (cases_eq m k) as (λ (w : (m ≡ k) ⊎ (m ≡ k → ⊥)). ⊥) [
      | inl e ↦ other (same_Some (remark_of r) x (sym (item_of rs k r within is) ∙ ap (slice_get (map remark_of rs)) (sym e) ∙ got))
      | inr apart ↦ none m (omega (arith, below, apart)) got
    ]
