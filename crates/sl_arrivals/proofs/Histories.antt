-- Datagrams in a history: the turn's law, where the history says what the world is.
use Rattle.std.proofs.Common.{◌≡◌, ◌+◌, [], ◌∷◌, refl, subst, sym}
use Rattle.sl_defs.specs.Histories.{Happening, Opens, Reaches, Happens, event_count}
use Rattle.sl_defs.specs.declared.event.Event.{Event}
use Rattle.sl_defs.specs.declared.event.Event.TheVariants as event
use Rattle.sl_history.specs.Turns.{Turn, History, events}
use Rattle.sl_history.specs.Frames as history
use Rattle.sl_history.specs.Arrivals.{datagram}
use Rattle.sl_machine.specs.World.{World}
use Rattle.sl_machine.specs.Runs.{TurnRun}
use Rattle.sl_transport.specs.Flying.{FliesAlike}
use Rattle.sl_transport.specs.Acting.{AreUpAlike}
use Rattle.sl_transport.proofs.Alike.{flies_alike}
use Rattle.sl_transport.proofs.Sending.{up_alike}
use Rattle.sl_arrivals.specs.Arrivals.{AreNotesIf, AreNotesOf, RunsAnswerAtOnce}
use Rattle.sl_arrivals.proofs.Arrivals.{arrivals_are_noted}

by_event : (past : History) (w w' : World) (t : Turn) (e : Event) → t.happening ≡ Happens e → FliesAlike past w → AreUpAlike past w → TurnRun w t w' → AreNotesOf past t (Happens e)
by_event past w w' t (event.Call client bytes) is flies ups run =
    subst (λ n. AreNotesIf (history.is_up past 0) n (datagram bytes) t.remarks) (numbered t.happening is)
    (subst (λ up. AreNotesIf up (w.event + 1) (datagram bytes) t.remarks) (sym (ups 0)) (arrivals_are_noted w w' t client bytes is run))
  where
    numbered : (x : Happening) → x ≡ Happens (event.Call client bytes) → w.event + 1 ≡ events past + event_count x
    numbered x same = rw (same, flies.event) refl
by_event past w w' t (event.Give k) is flies ups run = tt
by_event past w w' t (event.Copy k) is flies ups run = tt
by_event past w w' t (event.Drop k) is flies ups run = tt
by_event past w w' t event.Tick is flies ups run = tt
by_event past w w' t (event.Stop a image) is flies ups run = tt
by_event past w w' t (event.Start a) is flies ups run = tt
by_event past w w' t (event.Fuse a k image) is flies ups run = tt
by_event past w w' t (event.Fail a k) is flies ups run = tt

by_happening : (past : History) (w w' : World) (t : Turn) (x : Happening) → t.happening ≡ x → FliesAlike past w → AreUpAlike past w → TurnRun w t w' → AreNotesOf past t x
by_happening past w w' t (Opens setup) is flies ups run = tt
by_happening past w w' t (Reaches moment) is flies ups run = tt
by_happening past w w' t (Happens e) is flies ups run = by_event past w w' t e is flies ups run

pub runs_answer_at_once : RunsAnswerAtOnce
runs_answer_at_once setup [] w run = tt
runs_answer_at_once setup (t ∷ past) w run =
    (runs_answer_at_once setup past run.0 run.1, by_happening past run.0 w t t.happening refl (flies_alike setup past run.0 run.1) (up_alike setup past run.0 run.1) run.3)
