-- Turns in which something is lost, stops or fails.
use Rattle.std.specs.Prelude.{Bool, not, ◌||◌}
use Rattle.sl_history.specs.Turns.{Turn}
use Rattle.sl_history.specs.Completing.{disturbs, no_one_down}

abbrev pub is_disturbed_turn : Turn → Bool
is_disturbed_turn t = disturbs t.happening || not (no_one_down t.remarks)
