-- What a proxy's step says, and which calls a proxy turns away.
use Rattle.std.specs.Prelude.{◌≡◌, ℕ, List, [], ◌∷◌, Option, Some, None, Result, Ok, Err, not, nat_le, if◌then◌else◌}
use Rattle.std.specs.FinMap as map
use Rattle.sl_types.specs.declared.handle.Handle.{Handle}
use Rattle.sl_types.specs.declared.handle.InternalHandle.{InternalHandle}
use Rattle.sl_policy.specs.Sites.{site_of}
use Rattle.sl_frames.specs.declared.frame.Frame.{Frame}
use Rattle.sl_frames.specs.declared.body.Body.TheVariants as body
use Rattle.sl_history.specs.Turns.{Remark, Early, Full}
use Rattle.sl_history.specs.Arrivals.{most_waiting}
use Rattle.sl_world.specs.declared.proxy.Proxy.{Proxy}
use Rattle.sl_world.specs.declared.step.Step.{Step}
use Rattle.sl_world.specs.declared.step.StepFault.{StepFault}
use Rattle.sl_world.specs.declared.step.StepFault.TheVariants.{NoMemory}
use Rattle.sl_world.specs.Proxying.{low_of}

-- This is noted, and nothing is sent, unless memory runs out.
abbrev pub Noting : Remark → Result Step StepFault → Type 0
Noting note (Ok step) = (step.frames ≡ []) × (step.notes ≡ note ∷ [])
Noting note (Err NoMemory) = Unit {0}
Noting note (Err other) = ⊥

-- This is sent, and nothing is noted, unless memory runs out.
abbrev pub Sending : Frame → Result Step StepFault → Type 0
Sending frame (Ok step) = (step.frames ≡ frame ∷ []) × (step.notes ≡ [])
Sending frame (Err NoMemory) = Unit {0}
Sending frame (Err other) = ⊥

-- The note that a call is dropped by, if it has to be: before the Welcome, and while too many wait.
abbrev pub turned_away : Proxy → ℕ → Option Remark
turned_away p n = if not p.welcomed then Some (Early n) else if nat_le most_waiting (map.len p.pending) then Some (Full n) else None

-- the frame that asks a directory server under this tag, for the call that arrived in that event
abbrev pub request : Proxy → ℕ → ℕ → ℕ → List ℕ → Frame
request p to tag arrival packet = record {
  from = 0;
  to = to;
  fence = p.fence;
  tag = tag;
  low = low_of p;
  op = 0;
  boot = 0;
  arrival = arrival;
  «body» = body.Forward 0 packet;
}

-- a client's handle as a directory server is given it
abbrev pub internal : Handle → ℕ → InternalHandle
internal h to = record { handle = h; site = site_of h.fileid; actor = to }
