-- What an actor's memory is at its opening, by the records that its disk has, and what is noted then.
use Rattle.std.specs.Prelude.{◌≡◌, ℕ, ◌==◌, ◌<◌, ◌≤◌, List, [], ◌∷◌, Option, Some, None, Bool, true, false, ◌&&◌, nat_lt, max, length, if◌then◌else◌}
use Rattle.std.specs.FinMap as map
use Rattle.sl_records.specs.declared.started.Started.{Started}
use Rattle.sl_records.specs.declared.coordinator.LogEntry.TheVariants as log
use Rattle.sl_records.specs.declared.done.Did.{Did}
use Rattle.sl_records.specs.declared.directory.DirRecord.TheVariants as dir
use Rattle.sl_frames.specs.declared.frame.Frame.{Frame}
use Rattle.sl_frames.specs.declared.body.Body.{Body}
use Rattle.sl_frames.specs.declared.body.Body.TheVariants as body
use Rattle.sl_history.specs.Turns.{Remark}
use Rattle.sl_history.specs.Turns as note
use Rattle.sl_history.specs.Frames.{or_else}
use Rattle.sl_machine.specs.Records.{Record, OfLog, OfDir, fence_of, started_of, with_op, decision_of}
use Rattle.sl_machine.specs.Memory.{Site, Coord, Actor}
use Rattle.sl_machine.specs.Coordinators.{decided_frame, effect_note}

-- ---- the records of a disk, as an opening finds them

-- A record in limbo is found or not.
pub data Found (a : Actor) (rs : List Record) : Type 0 where
  WithoutLimbo : rs ≡ a.records → Found a rs
  WithLimbo : (r : Record) → a.limbo ≡ Some r → rs ≡ r ∷ a.records → Found a rs

-- ---- low tags

-- the low of a request that a record tells, under a fence
abbrev pub low_if : ℕ → ℕ → ℕ → ℕ
low_if fence own low = if own == fence then low else 0

abbrev pub low_in : ℕ → Record → ℕ
low_in fence (OfDir (dir.Mint m)) = low_if fence m.fence m.low
low_in fence (OfDir (dir.Did d)) = low_if fence d.request.fence d.request.low
low_in fence (OfLog (log.Intent s)) = low_if fence s.request.fence s.request.low
low_in fence other = 0

-- the greatest low of a fence
abbrev pub low_of : ℕ → List Record → ℕ
low_of fence [] = 0
low_of fence (r ∷ rs) = max (low_in fence r) (low_of fence rs)

-- ---- answers that records keep

abbrev pub restored : ℕ → ℕ → ℕ → Body → Frame
restored actor fence tag b = record { from = actor; to = 0; fence = fence; tag = tag; low = 0; op = 0; boot = 0; arrival = 0; «body» = b }

abbrev pub answer_if : ℕ → ℕ → ℕ → ℕ → ℕ → Body → Option Frame
answer_if actor fence tag own_fence own_tag b = if own_fence == fence && own_tag == tag then Some (restored actor fence tag b) else None

abbrev pub answer_in : ℕ → ℕ → ℕ → Record → Option Frame
answer_in actor fence tag (OfDir (dir.Mint m)) = answer_if actor fence tag m.fence m.tag (body.Minted m.fileid)
answer_in actor fence tag (OfDir (dir.Did d)) = answer_if actor fence tag d.request.fence d.request.tag (body.Packet d.reply)
answer_in actor fence tag other = None

-- the answer that a directory server's records have to the request of a fence and tag
abbrev pub answer_of : ℕ → List Record → ℕ → ℕ → Option Frame
answer_of actor [] fence tag = None
answer_of actor (r ∷ rs) fence tag = or_else (answer_in actor fence tag r) (answer_of actor rs fence tag)

-- What a directory server holds: the fence, the low and the kept answers that its records tell.
pub record RestoredSite (actor : ℕ) (rs : List Record) (s : Site) : Type 0 where
  pub fence : s.fence ≡ fence_of rs
  pub low : s.low ≡ low_of s.fence rs
  pub kept : (tag : ℕ) → s.low ≤ tag → map.get s.kept tag ≡ answer_of actor rs s.fence tag
  pub gone : (tag : ℕ) → tag < s.low → map.get s.kept tag ≡ None
  pub parked : s.parked ≡ []

-- ---- the coordinator's answers: the decisions that its log has

abbrev pub decided_by : Started → Option Bool → Option Frame
decided_by s None = None
decided_by s (Some agreed) = Some (decided_frame s agreed)

abbrev pub decided_for : List Record → ℕ → ℕ → List Started → Option Frame
decided_for rs fence tag [] = None
decided_for rs fence tag (s ∷ ss) =
    if s.request.fence == fence && s.request.tag == tag then decided_by s (decision_of rs s.op) else decided_for rs fence tag ss

pub record RestoredCoord (rs : List Record) (m : Coord) : Type 0 where
  pub fence : m.site.fence ≡ fence_of rs
  pub low : m.site.low ≡ low_of m.site.fence rs
  pub kept : (tag : ℕ) → m.site.low ≤ tag → map.get m.site.kept tag ≡ decided_for rs m.site.fence tag (started_of rs)
  pub gone : (tag : ℕ) → tag < m.site.low → map.get m.site.kept tag ≡ None
  pub parked : m.site.parked ≡ []
  pub queue : m.queue ≡ []
  pub granted : m.granted ≡ []
  pub acknowledged : m.acknowledged ≡ []
  pub owes : m.owes ≡ false
  pub heard : m.heard ≡ false

-- ---- an effect that was recorded and never noted

abbrev pub did_note : Did → Remark
did_note d = note.Did d.request.arrival d.moment (record { fileid = d.chosen; kept = false })

abbrev pub decided_note : Option Started → List Remark
decided_note None = []
decided_note (Some s) = effect_note s ∷ []

abbrev pub notes_in : List Record → Record → List Remark
notes_in before (OfDir (dir.Did d)) = did_note d ∷ []
notes_in before (OfLog (log.Decide op true)) = decided_note (with_op op (started_of before))
notes_in before other = []

abbrev pub last_notes : List Record → List Remark
last_notes [] = []
last_notes (r ∷ rs) = notes_in rs r

-- What the last record says is noted at an opening, where it wasn't before.
abbrev pub settled : ℕ → List Record → List Remark
settled noted rs = if nat_lt noted (length rs) then last_notes rs else []
