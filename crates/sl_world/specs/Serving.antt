-- What a directory server holds that has the root alone, and what is claimed of its steps.
use Rattle.std.specs.Prelude.{◌≡◌, ℕ, true, ◌==◌, ◌&&◌, ◌||◌, List, [], ◌∷◌, ◌++◌, Result, Ok, Err, Option, Some, None, Bool, nat_lt, if◌then◌else◌}
use Rattle.std.specs.FinMap as map
use Rattle.sl_defs.specs.Rpc.{accepted_text}
use Rattle.sl_replies.specs.Texts.{reply_text}
use Rattle.sl_types.specs.declared.attributes.Fattr.{Fattr}
use Rattle.sl_types.specs.declared.call.Call.{Call}
use Rattle.sl_types.specs.declared.call.Call.TheVariants as call
use Rattle.sl_types.specs.declared.handle.Handle.{Handle}
use Rattle.sl_types.specs.Handles.{handle_of}
use Rattle.sl_types.specs.declared.kind.Kind.TheVariants as kind
use Rattle.sl_types.specs.declared.kind.Status.{Status}
use Rattle.sl_types.specs.declared.kind.Status.TheVariants as status
use Rattle.sl_types.specs.declared.reply.Reply.TheVariants as reply
use Rattle.sl_model.specs.Checks.{same_kind}
use Rattle.sl_model.specs.Looking.{attributes}
use Rattle.sl_model.specs.Perform.{new_root}
use Rattle.sl_frames.specs.Actors.{is_directory}
use Rattle.sl_frames.specs.declared.frame.Frame.{Frame}
use Rattle.sl_frames.specs.declared.body.Body.{Body}
use Rattle.sl_frames.specs.declared.body.Body.TheVariants as body
use Rattle.sl_history.specs.Arrivals.{Asked, asked_in, datagram}
use Rattle.sl_machine.specs.Records.{Record, Cells, cells_of, locked_in, root_cell}
use Rattle.sl_machine.specs.Memory.{Actor, OfSite}
use Rattle.sl_machine.specs.World.{Scene, Given}
use Rattle.sl_machine.specs.Verdicts.{answering}
use Rattle.sl_machine.specs.Packets.{outer}
use Rattle.sl_world.specs.declared.directory.Directory.{Directory}
use Rattle.sl_world.specs.declared.step.Step.{Step}
use Rattle.sl_world.specs.declared.step.StepFault.{StepFault}
use Rattle.sl_world.specs.declared.step.StepFault.TheVariants.{NotBuilt, Spent, NoMemory}
use Rattle.sl_world.specs.Acting.{IsStep}
use Rattle.sl_world.specs.Sites.{site_of, seen_by}

-- the cells of a new volume
abbrev pub root_alone : ℕ → Cells
root_alone volume = record { objects = map.insert map.empty 1 (root_cell volume); names = map.empty }

-- its records have the root, and no lock
pub record HasRoot (volume : ℕ) (rs : List Record) : Type 0 where
  pub cells : cells_of rs ≡ root_alone volume
  pub unlocked : locked_in rs ≡ None

-- ---- GETATTR (RFC 1813, section 3.3.1)

abbrev pub is_root : ℕ → Handle → Bool
is_root volume h = h.fileid == 1 && (volume == h.volume && same_kind kind.Dir h.kind)

abbrev pub look_by : ℕ → Option Handle → Result Fattr Status
look_by volume None = Err status.BadHandle
look_by volume (Some h) = if is_root volume h then Ok (attributes (new_root volume)) else Err status.Stale

-- the attributes of what a handle among the servers names, where the root alone is there
abbrev pub look : ℕ → List ℕ → Result Fattr Status
look volume object = look_by volume (handle_of (outer object))

-- ---- what is done for a forwarded packet

-- a GETATTR asks for this object; other calls are not built
pub data Forwarded : Type 0 where
  IsNoCall : Forwarded
  IsGetattr : Asked → List ℕ → Forwarded
  IsOther : Forwarded

abbrev pub forwarded_call : Asked → Call → Forwarded
forwarded_call a (call.Getattr object) = IsGetattr a object
forwarded_call a other = IsOther

abbrev pub forwarded_by : Option Asked → Forwarded
forwarded_by None = IsNoCall
forwarded_by (Some a) = forwarded_call a a.call

abbrev pub forwarded : Body → Forwarded
forwarded (body.Forward chosen packet) = forwarded_by (asked_in (datagram packet))
forwarded other = IsOther

-- the answer to a GETATTR of this object
abbrev pub answer_to_getattr : Directory → Frame → ℕ → List ℕ → List Frame
answer_to_getattr d f xid object = answering d.actor 0 f (body.Packet (accepted_text xid 0 ++ reply_text (reply.Getattr (look d.volume object)))) ∷ []

-- the answer to a packet that isn't passed over
abbrev pub answer_of : Directory → Frame → Forwarded → List Frame
answer_of d f (IsGetattr a object) = answer_to_getattr d f a.xid object
answer_of d f other = []

-- a frame of an older fence, or of a tag that the proxy no longer waits for, is passed over
abbrev pub is_passed : Directory → Frame → Bool
is_passed d f = nat_lt f.fence d.site.fence || nat_lt f.tag (seen_by d.site f).low

abbrev pub unless_passed : Directory → Frame → List Frame → List Frame
unless_passed d f frames = if is_passed d f then [] else frames

abbrev pub answered : Directory → Frame → List Frame
answered d f = unless_passed d f (answer_of d f (forwarded f.«body»))

abbrev pub served : Directory → Frame → Directory
served d f = if nat_lt f.fence d.site.fence then d else record d { site = seen_by d.site f }

-- ---- what is claimed of a step

abbrev pub IsBuilt : Forwarded → Type 0
IsBuilt IsOther = ⊥
IsBuilt other = Unit {0}

-- What it sends for what was forwarded, and what it has seen then.
abbrev pub Serves : Directory → Directory → Frame → Forwarded → Result Step StepFault → Type 0
Serves old new f what (Ok step) = IsBuilt what × (step.frames ≡ unless_passed old f (answer_of old f what)) × (step.notes ≡ []) × (new ≡ served old f)
Serves old new f what (Err NotBuilt) = IsBuilt what → ⊥
Serves old new f what (Err NoMemory) = Unit {0}
Serves old new f what (Err Spent) = ⊥

-- what it does for the frame is a step that the machine says, where it is a directory server
abbrev pub MayAnswer : Directory → Directory → Frame → Step → Type 0
MayAnswer old new f step =
    is_directory old.actor ≡ true → (x : Scene) (a : Actor) (e : ℕ) → x.actor ≡ old.actor → a.memory ≡ Some (OfSite (site_of old.site)) → HasRoot old.volume a.records
    → IsStep x a (Given f e) step.frames step.notes (OfSite (site_of new.site)) (HasRoot old.volume)

-- Whatever else its records are, what it does for the frame is a step that the machine says. What is done for a forwarded
-- GETATTR is built, and no count is spent.
abbrev pub GivesAnswer : Directory → Directory → Frame → Result Step StepFault → Type 0
GivesAnswer old new f (Ok step) = MayAnswer old new f step × (new.actor ≡ old.actor) × (new.volume ≡ old.volume)
GivesAnswer old new f (Err NotBuilt) = IsBuilt (forwarded f.«body») → ⊥
GivesAnswer old new f (Err NoMemory) = Unit {0}
GivesAnswer old new f (Err Spent) = ⊥
