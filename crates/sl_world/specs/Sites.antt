-- What an actor has seen, as the machine holds it.
use Rattle.std.specs.Prelude.{ℕ, [], max, nat_lt, if◌then◌else◌}
use Rattle.std.specs.FinMap as map
use Rattle.sl_frames.specs.declared.frame.Frame.{Frame}
use Rattle.sl_machine.specs.Memory as memory
use Rattle.sl_world.specs.declared.site.Site.{Site}

-- nothing is kept, and nothing parked
abbrev pub bare : ℕ → ℕ → memory.Site
bare fence low = record { fence = fence; low = low; kept = map.empty; parked = [] }

abbrev pub site_of : Site → memory.Site
site_of s = bare s.fence s.low

-- under a greater fence the low tag begins anew
abbrev pub low_seen : Site → Frame → ℕ
low_seen s f = if nat_lt s.fence f.fence then f.low else max s.low f.low

-- a frame was seen whose fence is not older
abbrev pub seen_by : Site → Frame → Site
seen_by s f = record { fence = f.fence; low = low_seen s f }

-- what was seen then, of any frame: one of an older fence changes nothing
abbrev pub when_seen : Site → Frame → Site
when_seen s f = if nat_lt f.fence s.fence then s else seen_by s f
