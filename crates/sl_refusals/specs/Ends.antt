-- Histories in which nothing is lost, stops or fails.
use Rattle.std.specs.Prelude.{[], ◌∷◌}
use Rattle.sl_defs.specs.declared.event.Event.TheVariants as event
use Rattle.sl_history.specs.Turns.{History}
use Rattle.sl_history.specs.Completing.{Completed}
use Rattle.sl_examples.specs.Histories.{turn, opened, welcomed}
use Rattle.sl_refusals.specs.Packets.{asks, look_at_root}

-- more frames are given than Hello and Welcome
abbrev pub given_more : History
given_more = turn (event.Give 3) [] ∷ welcomed

-- Hello is given, and no Welcome comes
abbrev pub unwelcomed : History
unwelcomed = turn (event.Give 1) [] ∷ opened

-- a call comes, and nothing is sent for it
abbrev pub unanswered : History
unanswered = turn (event.Call 0 (asks look_at_root)) [] ∷ welcomed

-- Few frames are given; and once none is in flight the proxy is welcomed, and no call waits.
abbrev pub EndsAreToldApart : Type 0
EndsAreToldApart = Completed welcomed × (Completed given_more → ⊥) × (Completed unwelcomed → ⊥) × (Completed unanswered → ⊥)
