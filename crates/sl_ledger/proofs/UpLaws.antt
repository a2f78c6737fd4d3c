-- How those who are up follow a history.
use Rattle.std.proofs.Common.{◌≡◌, ℕ, zero, suc, ◌+◌, ◌<◌, eqb, eqb-true, eq-eqb, true≢false, Bool, true, false, not, ◌&&◌, List, ◌∷◌, length, get_or, set, sym, refl, ap, ◌∙◌, arith}
use Rattle.std.proofs.Math.Bool.{and-true}
use Rattle.std.proofs.Math.ListN.{replicate}
use Rattle.std.proofs.lemmas.List.{get_or-set_other}
use Rattle.std.proofs.lemmas.Grind.{get_or-set_at}
use Rattle.std.specs.Prelude.{◌==◌, if◌then◌else◌, slice_index_or}
use Rattle.sl_defs.specs.Histories.{Happening}
use Rattle.sl_defs.specs.declared.setup.Time.{Time}
use Rattle.sl_history.specs.Turns.{Remark, Down, Turn, History, begun, noted}
use Rattle.sl_history.specs.Frames.{is_down, is_up, up_by}
use Rattle.sl_ledger.specs.declared.actors.Actors.{Actors}
use Rattle.sl_ledger.specs.Ups.{AreUp, up_at}
use Rattle.sl_ledger.proofs.NotedLaws.{is_up-begun, is_up-noted}

pub up_begun : (past : History) (x : Happening) (moment : Time) (actors actors' : Actors) → AreUp past actors → ((a : ℕ) → a < 256 → up_at actors' a ≡ up_by x a (up_at actors a))
    → AreUp (begun past x moment) actors'
up_begun past x moment actors actors' is now = λ a small. now a small ∙ ap (up_by x a) (is a small) ∙ sym (is_up-begun past x moment a)

pub up_quiet : (t : Turn) (past : History) (r : Remark) (actors : Actors) → ((a : ℕ) → is_down a r ≡ false) → AreUp (t ∷ past) actors → AreUp (noted (t ∷ past) r) actors
up_quiet t past r actors other is = λ a small. is a small ∙ sym (is_up-noted t past r a ∙ ap (λ b. is_up (t ∷ past) a && not b) (other a) ∙ and-true (is_up (t ∷ past) a))

pub up_down : (t : Turn) (past : History) (b : ℕ) (actors actors' : Actors) → AreUp (t ∷ past) actors
    → ((a : ℕ) → a < 256 → up_at actors' a ≡ (if a == b then false else up_at actors a)) → AreUp (noted (t ∷ past) (Down b)) actors'
up_down t past b actors actors' is now = λ a small. now a small ∙ either (a == b) (up_at actors a) (is_up (t ∷ past) a) (is a small) ∙ sym (is_up-noted t past (Down b) a)
  where
    either : (c u v : Bool) → u ≡ v → (if c then false else u) ≡ (v && not c)
    either true u true e = refl
    either true u false e = refl
    either false u v e = e ∙ sym (and-true v)

pub none_up : (n a : ℕ) → slice_index_or (replicate n false) a false ≡ false
none_up zero zero = refl
none_up zero (suc a) = refl
none_up (suc n) zero = refl
none_up (suc n) (suc a) = none_up n a

-- one actor more is as the volume has it
pub put_next : (up : List Bool) (i : ℕ) (v : Bool) (of : ℕ → Bool) → i < length up → v ≡ of i → ((a : ℕ) → a < i → get_or up a false ≡ of a)
    → (a : ℕ) → a < i + 1 → get_or (set up i v) a false ≡ of a
put_next up i v of within here before a below = either (eqb a i) refl
  where
    either : (b : Bool) → eqb a i ≡ b → get_or (set up i v) a false ≡ of a
    either true e = get_or-set_at up i a v false (eqb-true a i e) within ∙ here ∙ ap of (sym (eqb-true a i e))
    either false e =
        let apart = λ (same : a ≡ i). true≢false (sym (eq-eqb a i same) ∙ e) in
        get_or-set_other up i a v false apart ∙ before a (omega (arith, below, apart))
