-- What becomes of a frame at its receiver, before it does anything for it. The first test that applies decides.
use Rattle.std.specs.Prelude.{ℕ, ◌==◌, List, [], ◌∷◌, ◌++◌, Option, Some, None, Bool, true, false, not, ◌&&◌, ◌||◌, nat_lt, nat_le, max, filter, if◌then◌else◌}
use Rattle.std.specs.List.{list_any}
use Rattle.std.specs.FinMap as map
use Rattle.sl_frames.specs.declared.frame.Frame.{Frame}
use Rattle.sl_frames.specs.declared.body.Body.{Body}
use Rattle.sl_frames.specs.declared.body.Body.TheVariants as body
use Rattle.sl_history.specs.Licensed.{is_request}
use Rattle.sl_history.specs.Arrivals.{asked_in, datagram, Asked, is_changing}
use Rattle.sl_machine.specs.Records.{Held}
use Rattle.sl_machine.specs.Memory.{Site}

pub data Verdict : Type 0 where
  -- it is of an older fence
  OldFence : Verdict
  -- its kind is none for this actor, or it is an Apply of no operation that is known here
  Stray : Verdict
  -- its operation is finished
  Finished : Verdict
  -- the server is locked for another operation
  Parks : Verdict
  -- its answer is kept
  IsKept : Frame → Verdict
  -- its tag is one that the proxy no longer waits for
  BelowLow : Verdict
  -- it is answered, or done
  Answers : Verdict

-- ---- what was seen

-- a greater low of the held fence is held, and the answers below it go
abbrev pub lowered : ℕ → Site → Site
lowered low s = record s { low = max s.low low; kept = map.retain_keys s.kept (λ tag. nat_le (max s.low low) tag) }

-- at a greater fence kept answers go
abbrev pub renewed : Frame → Site → Site
renewed f s = record s { fence = f.fence; low = f.low; kept = map.empty }

abbrev pub seen : Frame → Site → Site
seen f s = if f.fence == s.fence then lowered f.low s else s

-- ---- kinds

-- votes of servers are taken of any fence
abbrev pub is_vote : Body → Bool
is_vote body.Grant = true
is_vote body.Refuse = true
is_vote body.Ack = true
is_vote other = false

-- what is sent for an operation
abbrev pub is_operating : Body → Bool
is_operating (body.Lock work) = true
is_operating body.Apply = true
is_operating body.Release = true
is_operating other = false

abbrev pub is_apply : Body → Bool
is_apply body.Apply = true
is_apply other = false

-- the kinds that a directory server takes, a data server, and the coordinator
abbrev pub for_directory : Body → Bool
for_directory (body.Forward chosen packet) = true
for_directory (body.Ask keys) = true
for_directory (body.List dir cookie limit) = true
for_directory (body.Mint site) = true
for_directory other = is_operating other

abbrev pub for_store : Body → Bool
for_store (body.Forward chosen packet) = true
for_store other = is_operating other

abbrev pub for_coordinator : Body → Bool
for_coordinator body.Hello = true
for_coordinator (body.Intent i) = true
for_coordinator other = is_vote other

-- ---- tests

abbrev pub is_locked_for : ℕ → Option Held → Bool
is_locked_for op None = false
is_locked_for op (Some h) = h.op == op

abbrev pub is_locked : Option Held → Bool
is_locked None = false
is_locked (Some h) = true

-- What blocks a frame at a locked server: every frame that isn't of the operation.
abbrev pub blocks : Frame → Option Held → Bool
blocks f locked = is_locked locked && not (is_operating f.body && is_locked_for f.op locked)

abbrev pub kept_or : Option Frame → Verdict → Verdict
kept_or (Some answer) other = IsKept answer
kept_or None other = other

abbrev pub of_request : Site → Frame → Verdict
of_request s f = kept_or (map.get s.kept f.tag) (if nat_lt f.tag s.low then BelowLow else Answers)

-- The verdict on a frame: over which kinds are taken, the operation that the actor is locked for, and the greatest one
-- that it has finished.
unfoldable pub verdict : (Body → Bool) → Option Held → ℕ → Site → Frame → Verdict
verdict takes locked last s f =
    if nat_lt f.fence s.fence && not (is_vote f.body) then OldFence
    else if not (takes f.body) then Stray
    else if is_operating f.body && nat_le f.op last then Finished
    else if is_apply f.body && not (is_locked_for f.op locked) then Stray
    else if blocks f locked then Parks
    else if is_request f.body then of_request s f
    else Answers

-- ---- parked frames

abbrev pub is_same_request : Frame → Frame → Bool
is_same_request f g = g.fence == f.fence && g.tag == f.tag

-- One frame is parked of each fence and tag. What is sent for an operation never parks.
abbrev pub parked : Frame → Site → Site
parked f s = if is_operating f.body || list_any (is_same_request f) s.parked then s else record s { parked = s.parked ++ f ∷ [] }

abbrev pub is_changing_call : Option Asked → Bool
is_changing_call None = false
is_changing_call (Some a) = is_changing a.call

-- a call that may change something is forwarded
abbrev pub forwards_change : Body → Bool
forwards_change (body.Forward chosen packet) = is_changing_call (asked_in (datagram packet))
forwards_change other = false

-- They are taken up in this order: first the calls that may change something, then the others.
abbrev pub taken_up : List Frame → List Frame
taken_up fs = filter (λ (f : Frame). forwards_change f.body) fs ++ filter (λ (f : Frame). not (forwards_change f.body)) fs

-- an answer is kept
abbrev pub keeping : ℕ → Frame → Site → Site
keeping tag answer s = record s { kept = map.insert s.kept tag answer }

-- the answer to a frame
abbrev pub answering : ℕ → ℕ → Frame → Body → Frame
answering actor boot f b = record { from = actor; to = f.from; fence = f.fence; tag = f.tag; low = 0; op = f.op; boot = boot; arrival = 0; «body» = b }
