use Rattle.std.proofs.Common.{◌≡◌, ◌<◌, ℕ, length, false}
use Rattle.std.specs.Prelude.{slice_index_or}
use Rattle.sl_history.specs.Frames.{has_actor}
use Rattle.sl_ledger.proofs.actors.actors_of.Given as goal

-- the actors with smaller numbers are as the volume has them
abbrev pub invariant-loop-actor : goal.invariant-loop-actor
invariant-loop-actor l = record {
  long : length l.up ≡ 256;
  known : (a : ℕ) → a < l.actor → slice_index_or l.up a false ≡ has_actor l.setup a;
}
