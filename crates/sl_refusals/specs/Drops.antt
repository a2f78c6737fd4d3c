-- Datagrams that are dropped.
use Rattle.std.specs.Prelude.{ℕ, zero, suc, List, [], ◌∷◌}
use Rattle.sl_defs.specs.declared.event.Event.TheVariants as event
use Rattle.sl_history.specs.Turns.{Remark, Junk, Full, Lost, History}
use Rattle.sl_history.specs.Licensed.{Licensed}
use Rattle.sl_examples.specs.Histories.{start, turn, opened, welcomed}
use Rattle.sl_refusals.specs.Packets.{asks, look_at_root}

-- no call header
abbrev pub no_call : List Remark → History
no_call remarks = turn (event.Call 0 []) remarks ∷ welcomed

-- a call while the proxy is up, and one while it is down
abbrev pub asked_up : List Remark → History
asked_up remarks = turn (event.Call 0 (asks look_at_root)) remarks ∷ welcomed

abbrev pub asked_down : List Remark → History
asked_down remarks = turn (event.Call 0 (asks look_at_root)) remarks ∷ turn (event.Stop 0 0) [] ∷ opened

-- What is no call is junk, and has to be.
abbrev pub JunkIsToldApart : Type 0
JunkIsToldApart =
    Licensed start (no_call (Junk 3 ∷ [])) × (Licensed start (no_call []) → ⊥) × (Licensed start (no_call (Junk 2 ∷ [])) → ⊥)
    × (Licensed start (asked_up (Junk 3 ∷ [])) → ⊥)

-- What comes while the proxy is down is lost, and has to be; what comes while it is up, welcomed and has few calls isn't
-- dropped.
abbrev pub LossesAreToldApart : Type 0
LossesAreToldApart =
    Licensed start (asked_down (Lost 2 ∷ [])) × Licensed start (asked_up []) × (Licensed start (asked_down []) → ⊥)
    × (Licensed start (asked_up (Lost 3 ∷ [])) → ⊥) × (Licensed start (asked_up (Full 3 ∷ [])) → ⊥)

-- so many calls wait, each for the root's attributes
unfoldable pub crowd : ℕ → History
crowd zero = welcomed
crowd (suc n) = turn (event.Call 0 (asks look_at_root)) [] ∷ crowd n

-- one more call, of which this is noted
abbrev pub asked_in_crowd : ℕ → List Remark → History
asked_in_crowd n remarks = turn (event.Call 0 (asks look_at_root)) remarks ∷ crowd n

-- A call that finds 256 others waiting is dropped as full, and has to be; one that finds 255 isn't.
abbrev pub CrowdsAreToldApart : Type 0
CrowdsAreToldApart =
    Licensed start (asked_in_crowd 255 []) × Licensed start (asked_in_crowd 256 (Full 259 ∷ []))
    × (Licensed start (asked_in_crowd 256 []) → ⊥) × (Licensed start (asked_in_crowd 255 (Full 258 ∷ [])) → ⊥)
