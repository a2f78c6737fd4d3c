-- What holds of one server.
use Rattle.std.specs.Prelude.{◌≡◌, ◌≢◌, ℕ, ◌≤◌, List, [], Some, true, false, Result, Ok, Err}
use Rattle.std.specs.FinMap as map
use Rattle.sl_defs.specs.declared.setup.Time.{Time}
use Rattle.sl_defs.specs.declared.note.Choice.{Choice}
use Rattle.sl_types.specs.declared.kind.Status.{Status}
use Rattle.sl_types.specs.declared.kind.Status.TheVariants as status
use Rattle.sl_types.specs.declared.cred.Cred.{Cred}
use Rattle.sl_types.specs.declared.call.Call.{Call}
use Rattle.sl_types.specs.declared.reply.Reply.{Reply}
use Rattle.sl_types.specs.declared.reply.Reply.TheVariants as reply
use Rattle.sl_types.specs.declared.reply.AttrFault.{AttrFault}
use Rattle.sl_types.specs.declared.reply.WccFault.{WccFault}
use Rattle.sl_model.specs.declared.node.Node.{Node}
use Rattle.sl_model.specs.Plan.{Plan, Done, Look, run}
use Rattle.sl_model.specs.Volume.{Volume, Change, PutNode, changed, after_changes, restart, byte_at, seen, sight}
use Rattle.sl_model.specs.Looking.{Outcome}
use Rattle.sl_model.specs.Tree.{Tree}
use Rattle.sl_model.specs.Gathered.{Gathered, Gathers, Fits, IsBlind, is_unstable, node_in, sight_in, wanted, needs_of, effect_from, effect_of, cells_of, cells_after}
use Rattle.sl_model.specs.Procedures.{is_reading, plan}
use Rattle.sl_model.specs.Perform.{ends, perform}

abbrev pub attr_status : {A : Type 0} → Result A AttrFault → Status
attr_status (Ok a) = status.Ok
attr_status (Err e) = e.status

abbrev pub wcc_status : {A : Type 0} → Result A WccFault → Status
wcc_status (Ok a) = status.Ok
wcc_status (Err e) = e.status

abbrev pub plain_status : {A : Type 0} → Result A Status → Status
plain_status (Ok a) = status.Ok
plain_status (Err s) = s

-- the status of a reply; NULL's is always OK
abbrev pub status_of : Reply → Status
status_of reply.Null = status.Ok
status_of (reply.Getattr r) = plain_status r
status_of (reply.Setattr s wcc) = s
status_of (reply.Lookup r) = attr_status r
status_of (reply.Access r) = attr_status r
status_of (reply.Readlink r) = attr_status r
status_of (reply.Read r) = attr_status r
status_of (reply.Write r) = wcc_status r
status_of (reply.Create r) = wcc_status r
status_of (reply.Mkdir r) = wcc_status r
status_of (reply.Symlink r) = wcc_status r
status_of (reply.Mknod r) = wcc_status r
status_of (reply.Remove s wcc) = s
status_of (reply.Rmdir s wcc) = s
status_of (reply.Rename s from to) = s
status_of (reply.Link s attributes wcc) = s
status_of (reply.Readdir r) = attr_status r
status_of (reply.Readdirplus r) = attr_status r
status_of (reply.Fsstat r) = attr_status r
status_of (reply.Fsinfo r) = attr_status r
status_of (reply.Pathconf r) = attr_status r
status_of (reply.Commit r) = wcc_status r

-- A call that only asks leaves the volume as it is.
abbrev pub ReadingKeeps : Type 0
ReadingKeeps = (v : Volume) (call : Call) (cred : Cred) (now : Time) (choice : Choice) → is_reading call ≡ true → (perform v call cred now choice).0 ≡ v

-- So does a call whose reply isn't OK: a making that is refused uses no fileid, too.
abbrev pub FailureKeeps : Type 0
FailureKeeps = (v : Volume) (call : Call) (cred : Cred) (now : Time) (choice : Choice) → status_of (perform v call cred now choice).1 ≢ status.Ok → (perform v call cred now choice).0 ≡ v

-- Where a file's node is put with a size, the bytes from there on are zero.
abbrev pub CutsBytes : Type 0
CutsBytes = (v : Volume) (f : ℕ) (n : Node) (at : ℕ) → n.size ≤ at → byte_at (changed (PutNode f n) v) f at ≡ 0

-- And they stay zero where the file then grows.
abbrev pub GrowsByZeros : Type 0
GrowsByZeros = (v : Volume) (f : ℕ) (less more : Node) (at : ℕ) → less.size ≤ at → byte_at (changed (PutNode f more) (changed (PutNode f less) v)) f at ≡ 0

-- What a plan answers from what was gathered is the answer over the volume, and its changes are those that the volume
-- undergoes, in its cells too.
pub record IsRight (v : Volume) (effect : Outcome) (after : Volume × Reply) : Type 0 where
  pub reply : effect.answer ≡ after.1
  pub volume : after_changes effect.changes v ≡ after.0
  pub cells : cells_after effect.changes (cells_of v) ≡ cells_of after.0

-- Any plan that is blind to what unstable writes change, whatever its failure answers.
abbrev pub PlansSuffice : Type 0
PlansSuffice = (v : Volume) (g : Gathered) (fault : Status → Reply) (p : Plan Outcome) → Tree v → IsBlind p → Fits g v p
    → wanted g p ≡ [] → IsRight v (effect_from fault (run (sight_in g) p)) (ends v fault (run (sight v) p))

-- Each call's plan is.
abbrev pub CallsAreBlind : Type 0
CallsAreBlind = (c : Call) (cred : Cred) (now : Time) (choice : Choice) → IsBlind (plan c cred now choice)

-- A plan that isn't blind ends otherwise over a view than over the volume: wherever the view isn't the node, that is one
-- that answers what it looks at.
abbrev pub LookingTells : Type 0
LookingTells = (v : Volume) (g : Gathered) (f : ℕ) → node_in g.cells f ≡ Some (seen v f) → seen v f ≢ map.get v.nodes f
    → (wanted g (Look f Done) ≡ []) × (run (sight_in g) (Look f Done) ≢ run (sight v) (Look f Done))

-- So what a call is told need only be right where it asks.
abbrev pub CellsSuffice : Type 0
CellsSuffice = (v : Volume) (g : Gathered) (c : Call) (cred : Cred) (now : Time) (choice : Choice) → Tree v → Fits g v (plan c cred now choice)
    → needs_of g c cred now choice ≡ [] → IsRight v (effect_of g c cred now choice) (perform v c cred now choice)

-- What the volume shows is right wherever a plan asks.
abbrev pub ViewsFit : Type 0
ViewsFit = (v : Volume) (g : Gathered) (p : Plan Outcome) → Tree v → Gathers g v → Fits g v p

-- So the views suffice, whatever is unstable.
abbrev pub ViewsSuffice : Type 0
ViewsSuffice = (v : Volume) (g : Gathered) (c : Call) (cred : Cred) (now : Time) (choice : Choice) → Tree v → Gathers g v
    → needs_of g c cred now choice ≡ [] → IsRight v (effect_of g c cred now choice) (perform v c cred now choice)

-- The view of what has no unstable writes is its node.
abbrev pub CleanIsSeen : Type 0
CleanIsSeen = (v : Volume) (f : ℕ) → Tree v → is_unstable f v.unstable ≡ false → seen v f ≡ map.get v.nodes f

-- The cells after any changes are those of the volume after them.
abbrev pub CellsFollow : Type 0
CellsFollow = (v : Volume) (cs : List Change) → cells_after cs (cells_of v) ≡ cells_of (after_changes cs v)

-- A restart leaves a tree a tree.
abbrev pub RestartKeepsTree : Type 0
RestartKeepsTree = (v : Volume) (verifier : ℕ) → Tree v → Tree (restart verifier v)
