-- Worlds and their histories.
use Rattle.std.proofs.Common.{◌≡◌, T, not, List, [], ◌∷◌, Option, Some, is_some, unwrap_or, sym, ap, subst, ◌∙◌}
use Rattle.sl_defs.specs.declared.event.Event.{Event}
use Rattle.sl_history.specs.Turns.{Remark, History}
use Rattle.sl_arrivals.specs.Arrivals.{AnswersAtOnce}
use Rattle.sl_arrivals.proofs.Histories.{runs_answer_at_once}
use Rattle.sl_getattr.proofs.Histories.{is_run}
use Rattle.sl_world.specs.declared.world.World.{World}
use Rattle.sl_world.specs.Worlds.{Follows, GoesOn, turn}
use Rattle.sl_defs.specs.declared.setup.Setup.{Setup}
use Rattle.sl_getattr.specs.Laws.{GetattrHistoriesAreLegal, GetattrHistoriesAreLicensed, GetattrHistoriesAreWired, GetattrHistoriesAreFenced, GetattrHistoriesRemember}
use Rattle.slice.specs.Replays.{IsHistory, Stood, KeepsClaims, IsClaimed}

pub is_of : (v : World) (h : History) → Stood v h → IsHistory h
is_of v [] s = tt
is_of v (t ∷ past) s = (v, s)

-- each datagram that needs no server is answered at once in it
pub answers : (h : History) → IsHistory h → AnswersAtOnce h
answers [] is = tt
answers (t ∷ past) is = runs_answer_at_once is.0.proxy.setup (t ∷ past) is.1.follows.world (is_run is.0.proxy.setup (t ∷ past) is.1.follows.world is.1.follows.run)

pub stood_more : (v w : World) (e : Event) (remarks : List Remark) (past : History) → GoesOn v w e remarks → ((h : History) → Follows v h → Follows w (turn v e remarks ∷ h))
    → Stood v past → Stood w (turn v e remarks ∷ past)
stood_more v w e remarks past goes follows s = record { follows = follows past s.follows; volume = s.volume ∙ ap Some (sym goes.setup); one = ap (λ z. z.dirs) goes.setup ∙ s.one }

-- ---- what is claimed

-- the laws on runs of a new volume, in which no call but GETATTR comes
pub record GetattrLaws : Type 0 where
  pub legal : GetattrHistoriesAreLegal
  pub licensed : GetattrHistoriesAreLicensed
  pub wired : GetattrHistoriesAreWired
  pub fenced : GetattrHistoriesAreFenced
  pub remembers : GetattrHistoriesRemember

same_setup : (a b : Setup) → Some a ≡ Some b → a ≡ b
same_setup a b e = ap (λ o. unwrap_or o a) e

pub claimed : GetattrLaws → (h : History) → IsHistory h → IsClaimed h
claimed laws [] is s volume built = absurd (subst (λ o. T (not (is_some o))) volume tt)
claimed laws (t ∷ past) (v, stood) s volume built =
    subst (λ z. KeepsClaims z (t ∷ past)) (same_setup v.proxy.setup s (sym stood.volume ∙ volume)) (record {
      legal = laws.legal v.proxy.setup (t ∷ past) stood.follows.world stood.one stood.follows.run built;
      licensed = laws.licensed v.proxy.setup (t ∷ past) stood.follows.world stood.one stood.follows.run built;
      wired = laws.wired v.proxy.setup (t ∷ past) stood.follows.world stood.one stood.follows.run built;
      fenced = laws.fenced v.proxy.setup (t ∷ past) stood.follows.world stood.one stood.follows.run built;
      remembers = laws.remembers v.proxy.setup (t ∷ past) stood.follows.world stood.one stood.follows.run built;
    })
