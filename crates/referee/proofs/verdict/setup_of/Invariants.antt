use Rattle.std.proofs.Common.{◌≡◌, drop}
use Rattle.referee.specs.Verdicts.{setup_of}
use Rattle.referee.proofs.verdict.setup_of.Given as goal

-- the turns that are left open the same volume as all
abbrev pub invariant-loop-turn : goal.invariant-loop-turn
invariant-loop-turn l = setup_of (drop l.turn-index l.history) ≡ setup_of l.history
