-- The laws on such runs.
use Rattle.std.specs.Prelude.{◌≡◌, [], ◌∷◌}
use Rattle.sl_defs.specs.declared.setup.Setup.{Setup}
use Rattle.sl_model.specs.Perform.{fresh}
use Rattle.sl_history.specs.Turns.{History, datagram_of}
use Rattle.sl_history.specs.Legal.{Legal}
use Rattle.sl_history.specs.Fenced.{Fenced}
use Rattle.sl_history.specs.Licensed.{Licensed, dropping, due_drop}
use Rattle.sl_history.specs.Remembering.{Remembers}
use Rattle.sl_history.specs.Wired.{Wired}
use Rattle.sl_machine.specs.World.{World}
use Rattle.sl_getattr.specs.Built.{AreBuilt, NewRun}

abbrev pub GetattrHistoriesAreLegal : Type 0
GetattrHistoriesAreLegal = (s : Setup) (h : History) (w : World) → s.dirs ≡ 1 → NewRun s h w → AreBuilt h → Legal (fresh s.volume) h

abbrev pub GetattrHistoriesAreLicensed : Type 0
GetattrHistoriesAreLicensed = (s : Setup) (h : History) (w : World) → s.dirs ≡ 1 → NewRun s h w → AreBuilt h → Licensed (fresh s.volume) h

abbrev pub GetattrHistoriesAreFenced : Type 0
GetattrHistoriesAreFenced = (s : Setup) (h : History) (w : World) → s.dirs ≡ 1 → NewRun s h w → AreBuilt h → Fenced h

abbrev pub GetattrHistoriesAreWired : Type 0
GetattrHistoriesAreWired = (s : Setup) (h : History) (w : World) → s.dirs ≡ 1 → NewRun s h w → AreBuilt h → Wired s (fresh s.volume) h

abbrev pub GetattrHistoriesRemember : Type 0
GetattrHistoriesRemember = (s : Setup) (h : History) (w : World) → s.dirs ≡ 1 → NewRun s h w → AreBuilt h → Remembers h

-- In each turn exactly a datagram that has to be dropped is, by the note that says why.
abbrev pub DropsAreExact : History → Type 0
DropsAreExact [] = Unit {0}
DropsAreExact (t ∷ past) = DropsAreExact past × (dropping t.remarks ≡ due_drop past t (datagram_of t.happening))

abbrev pub GetattrDropsAreExact : Type 0
GetattrDropsAreExact = (s : Setup) (h : History) (w : World) → s.dirs ≡ 1 → NewRun s h w → AreBuilt h → DropsAreExact h
