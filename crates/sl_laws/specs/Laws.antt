-- Laws of the one server: what stays a tree, and what stays as it is.
use Rattle.std.proofs.Common.{zero, suc}
use Rattle.std.specs.Prelude.{◌≡◌, ◌≢◌, ℕ, ◌+◌, ◌≤◌, ◌==◌, ◌&&◌, List, [], ◌∷◌, Some, None, Bool, true, false, nat_le, nat_lt, length}
use Rattle.std.specs.List.{AllByRecursion}
use Rattle.std.specs.FinMap as map
use Rattle.sl_defs.specs.declared.setup.Time.{Time}
use Rattle.sl_defs.specs.declared.note.Choice.{Choice}
use Rattle.sl_types.specs.declared.kind.Status.TheVariants as status
use Rattle.sl_types.specs.declared.cred.Cred.{Cred}
use Rattle.sl_types.specs.declared.call.Call.{Call}
use Rattle.sl_model.specs.declared.node.Node.{Node}
use Rattle.sl_model.specs.Volume.{Volume, Change, PutNode, TakeNode, PutName, TakeName, PutText, PutBytes, AddWrite, changed, after_changes, flush, restart, byte_at, is_dir}
use Rattle.sl_model.specs.Tree.{Tree, Nodes}
use Rattle.sl_model.specs.Laws.{status_of}
use Rattle.sl_model.specs.Perform.{perform, fresh}

-- A new volume is a tree.
abbrev pub FreshIsTree : Type 0
FreshIsTree = (number : ℕ) → Tree (fresh number)

-- Flush of any file leaves a tree a tree.
abbrev pub FlushKeepsTree : Type 0
FlushKeepsTree = (v : Volume) (f : ℕ) → Tree v → Tree (flush f v)

-- the parents lead up from d to the root in so many steps, each through a live node
abbrev pub Climbs : Nodes → ℕ → ℕ → Type 0
Climbs m d zero = d ≡ 1
Climbs m d (suc k) = (d ≢ 1) × (n : Node) × (map.get m d ≡ Some n) × Climbs m n.parent k

-- In a tree the parents lead from each live directory to the root, in at most as many steps as there are nodes.
abbrev pub ParentsEndAtRoot : Type 0
ParentsEndAtRoot = (v : Volume) (d : ℕ) (n : Node) → Tree v → map.get v.nodes d ≡ Some n → is_dir n.kind ≡ true → (k : ℕ) × (k ≤ map.len v.nodes) × Climbs v.nodes d k

-- A call whose reply isn't OK uses no fileid.
abbrev pub RefusedUsesNoId : Type 0
RefusedUsesNoId = (v : Volume) (call : Call) (cred : Cred) (now : Time) (choice : Choice) → status_of (perform v call cred now choice).1 ≢ status.Ok
    → (perform v call cred now choice).0.used ≡ v.used

-- so many bytes of file g, from an offset on, take in the byte of file f at that place
abbrev pub takes_in : ℕ → ℕ → ℕ → ℕ → ℕ → Bool
takes_in f at g offset count = g == f && (nat_le offset at && nat_lt at (offset + count))

-- the change writes the byte of file f at that place
abbrev pub writes_byte : ℕ → ℕ → Change → Bool
writes_byte f at (PutBytes g offset bytes) = takes_in f at g offset (length bytes)
writes_byte f at (AddWrite w) = takes_in f at w.fileid w.offset (length w.bytes)
writes_byte f at _ = false

-- Where a file's node is put with a size, a byte from there on is zero in the view, and stays so through all changes
-- that don't write it.
abbrev pub CutsStayZero : Type 0
CutsStayZero = (v : Volume) (f : ℕ) (n : Node) (at : ℕ) (cs : List Change) → n.size ≤ at → AllByRecursion (λ c. writes_byte f at c ≡ false) cs
    → byte_at (after_changes cs (changed (PutNode f n) v)) f at ≡ 0

-- what a change may touch: a file with its node, bytes and unstable writes, a name of a directory, the text of a link,
-- and the end of the list of unstable writes
pub data Place : Type 0 where
  File : ℕ → Place
  NameIn : ℕ → List ℕ → Place
  TextOf : ℕ → Place
  End : Place

abbrev pub places : Change → List Place
places (PutNode f n) = File f ∷ []
places (TakeNode f) = File f ∷ TextOf f ∷ []
places (PutName d name e) = NameIn d name ∷ []
places (TakeName d name) = NameIn d name ∷ []
places (PutText f text) = TextOf f ∷ []
places (PutBytes f offset bytes) = File f ∷ []
places (AddWrite w) = File w.fileid ∷ End ∷ []

abbrev pub Differ : Place → Place → Type 0
Differ (File f) (File g) = f ≢ g
Differ (NameIn d m) (NameIn e k) = ◌≢◌ {A = ℕ × List ℕ} (d, m) (e, k)
Differ (TextOf f) (TextOf g) = f ≢ g
Differ End End = ⊥
Differ _ _ = Unit {0}

-- no place that a touches is one that b touches
abbrev pub AreApart : Change → Change → Type 0
AreApart a b = AllByRecursion (λ p. AllByRecursion (λ q. Differ p q) (places b)) (places a)

-- Two changes at different places give the same volume in either order.
abbrev pub ChangesCommute : Type 0
ChangesCommute = (v : Volume) (a b : Change) → AreApart a b → changed a (changed b v) ≡ changed b (changed a v)

-- the fileid of the choice is 0, or no object ever had it
abbrev pub IsFree : Volume → Choice → Type 0
IsFree v choice = choice.fileid ≢ 0 → map.get v.used choice.fileid ≡ None

-- Every call leaves a tree a tree, whatever its answer, where the choice's fileid is free.
abbrev pub PerformKeepsTree : Type 0
PerformKeepsTree = (v : Volume) (call : Call) (cred : Cred) (now : Time) (choice : Choice) → Tree v → IsFree v choice → Tree (perform v call cred now choice).0

-- A call after which each object has a fileid that was used before, so that none was made, uses no fileid.
abbrev pub MakingsAloneUseIds : Type 0
MakingsAloneUseIds = (v : Volume) (call : Call) (cred : Cred) (now : Time) (choice : Choice) → Tree v → IsFree v choice
    → ((f : ℕ) (n : Node) → map.get (perform v call cred now choice).0.nodes f ≡ Some n → map.get v.used f ≡ Some tt) → (perform v call cred now choice).0.used ≡ v.used

-- what happens to a volume: a call is performed, a file is flushed, or the server restarts with a verifier
pub data Event : Type 0 where
  Performed : Call → Cred → Time → Choice → Event
  Flushed : ℕ → Event
  Restarted : ℕ → Event

abbrev pub happened : Event → Volume → Volume
happened (Performed call cred now choice) v = (perform v call cred now choice).0
happened (Flushed f) v = flush f v
happened (Restarted verifier) v = restart verifier v

abbrev pub after_events : List Event → Volume → Volume
after_events [] v = v
after_events (e ∷ es) v = after_events es (happened e v)

-- the choice of a call that is performed is free there
abbrev pub MayHappen : Event → Volume → Type 0
MayHappen (Performed call cred now choice) v = IsFree v choice
MayHappen _ v = Unit {0}

abbrev pub MayAllHappen : List Event → Volume → Type 0
MayAllHappen [] v = Unit {0}
MayAllHappen (e ∷ es) v = MayHappen e v × MayAllHappen es (happened e v)

-- Whatever happens to a new volume, it stays a tree.
abbrev pub AlwaysATree : Type 0
AlwaysATree = (number : ℕ) (es : List Event) → MayAllHappen es (fresh number) → Tree (after_events es (fresh number))
