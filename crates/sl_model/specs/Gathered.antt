-- The same procedures over cells that were gathered: what a call still needs, and what it answers and changes.
use Rattle.std.proofs.Common.{zero, suc}
use Rattle.std.specs.Prelude.{◌≡◌, ℕ, ◌==◌, ◌&&◌, List, [], ◌∷◌, length, Option, Some, None, Bool, true, false, nat_eq, Result, Ok, Err, if◌then◌else◌}
use Rattle.std.specs.List.{list_any}
use Rattle.std.specs.Cmp.Lexicographic.{pointwise}
use Rattle.std.specs.FinMap as map
use Rattle.std.specs.FinMap.{FinMap}
use Rattle.std.specs.Ordering.{nat_cmp}
use Rattle.sl_defs.specs.declared.setup.Time.{Time}
use Rattle.sl_defs.specs.declared.note.Choice.{Choice}
use Rattle.sl_types.specs.declared.kind.Status.{Status}
use Rattle.sl_types.specs.declared.cred.Cred.{Cred}
use Rattle.sl_types.specs.declared.call.Call.{Call}
use Rattle.sl_types.specs.declared.reply.Reply.{Reply}
use Rattle.sl_model.specs.declared.node.Node.{Node}
use Rattle.sl_model.specs.declared.node.Entry.{Entry}
use Rattle.sl_model.specs.declared.node.Listed.{Listed}
use Rattle.sl_model.specs.Plan.{Plan, Done, Stop, Look, See, Find, Climb, Names, Text, Bytes, Verifier, Want, Key, NodeKey, NameKey, Sight, run}
use Rattle.sl_model.specs.Volume.{Volume, Unstable, Change, PutNode, TakeNode, PutName, TakeName, PutText, PutBytes, AddWrite, name_cmp, is_reg, seen, sight}
use Rattle.sl_model.specs.Looking.{Outcome}
use Rattle.sl_model.specs.Procedures.{plan, fault}

-- ---- cells

-- a cell that was asked for: what stands there
pub data Cell : Type 0 where
  AtNode : ℕ → Option Node → Cell
  AtName : ℕ → List ℕ → Option Entry → Cell

-- The cells that were gathered, and what else a call is told: listings, the texts of links, bytes, the verifier.
pub record Gathered : Type 0 where
  pub cells : List Cell
  pub names : ℕ → ℕ → List Listed
  pub text : ℕ → List ℕ
  pub bytes : ℕ → ℕ → ℕ → List ℕ
  pub verifier : ℕ

abbrev pub node_in : List Cell → ℕ → Option (Option Node)
node_in [] f = None
node_in (AtNode g o ∷ cs) f = if f == g then Some o else node_in cs f
node_in (AtName d name o ∷ cs) f = node_in cs f

abbrev pub name_in : List Cell → ℕ → List ℕ → Option (Option Entry)
name_in [] d name = None
name_in (AtNode g o ∷ cs) d name = name_in cs d name
name_in (AtName e other o ∷ cs) d name = if d == e && pointwise nat_eq name other then Some o else name_in cs d name

-- how climbing ends among these cells: with an answer, or at a node that isn't there
pub data Climbed : Type 0 where
  Ends : Bool → Climbed
  Wants : ℕ → Climbed

abbrev pub climb_on : (ℕ → Climbed) → ℕ → Option (Option Node) → Climbed
climb_on next d None = Wants d
climb_on next d (Some None) = Ends false
climb_on next d (Some (Some n)) = next n.parent

abbrev pub climbed : ℕ → List Cell → ℕ → ℕ → Climbed
climbed zero cs a d = Wants d
climbed (suc steps) cs a d = if d == a then Ends true else if d == 1 then Ends false else climb_on (climbed steps cs a) d (node_in cs d)

abbrev pub ended : Climbed → Bool
ended (Ends b) = b
ended (Wants f) = false

abbrev pub known : {A : Type 0} → Option (Option A) → Option A
known None = None
known (Some o) = o

-- what can be looked up in them
abbrev pub sight_in : Gathered → Sight
sight_in g = record {
  look = λ f. known (node_in g.cells f);
  see = λ f. known (node_in g.cells f);
  find = λ d name. known (name_in g.cells d name);
  below = λ a d. ended (climbed (suc (length g.cells)) g.cells a d);
  names = g.names;
  text = g.text;
  bytes = g.bytes;
  verifier = g.verifier;
}

-- ---- what is still needed

abbrev pub wants_node : ℕ → (Option Node → List Key) → Option (Option Node) → List Key
wants_node f next None = NodeKey f ∷ []
wants_node f next (Some o) = next o

abbrev pub wants_name : ℕ → List ℕ → (Option Entry → List Key) → Option (Option Entry) → List Key
wants_name d name next None = NameKey d name ∷ []
wants_name d name next (Some o) = next o

abbrev pub wants_climb : (Bool → List Key) → Climbed → List Key
wants_climb next (Ends b) = next b
wants_climb next (Wants f) = NodeKey f ∷ []

abbrev pub is_known : {A : Type 0} → Option A → Bool
is_known None = false
is_known (Some a) = true

abbrev pub has_cell : List Cell → Key → Bool
has_cell cs (NodeKey f) = is_known (node_in cs f)
has_cell cs (NameKey d name) = is_known (name_in cs d name)

-- those of the keys whose cells aren't there
abbrev pub missing : List Cell → List Key → List Key
missing cs [] = []
missing cs (k ∷ ks) = if has_cell cs k then missing cs ks else k ∷ missing cs ks

abbrev pub or_next : List Key → List Key → List Key
or_next [] next = next
or_next (k ∷ ks) next = k ∷ ks

-- the keys that a plan wants next, of which no cell was gathered
abbrev pub wanted : {A : Type 0} → Gathered → Plan A → List Key
wanted g (Done a) = []
wanted g (Stop s) = []
wanted g (Look f k) = wants_node f (λ o. wanted g (k o)) (node_in g.cells f)
wanted g (See f k) = wants_node f (λ o. wanted g (k o)) (node_in g.cells f)
wanted g (Find d name k) = wants_name d name (λ o. wanted g (k o)) (name_in g.cells d name)
wanted g (Climb a d k) = wants_climb (λ b. wanted g (k b)) (climbed (suc (length g.cells)) g.cells a d)
wanted g (Names d c k) = wanted g (k (g.names d c))
wanted g (Text f k) = wanted g (k (g.text f))
wanted g (Bytes f at count k) = wanted g (k (g.bytes f at count))
wanted g (Verifier k) = wanted g (k g.verifier)
wanted g (Want ks p) = or_next (missing g.cells ks) (wanted g p)

abbrev pub needs_of : Gathered → Call → Cred → Time → Choice → List Key
needs_of g c cred now choice = wanted g (plan c cred now choice)

-- ---- what a call answers and changes

abbrev pub effect_from : (Status → Reply) → Result Outcome Status → Outcome
effect_from fault (Ok o) = o
effect_from fault (Err s) = record { changes = []; answer = fault s }

abbrev pub effect_of : Gathered → Call → Cred → Time → Choice → Outcome
effect_of g c cred now choice = effect_from (fault c) (run (sight_in g) (plan c cred now choice))

-- ---- a volume's cells

pub record VolumeCells : Type 0 where
  pub nodes : FinMap nat_cmp Node
  pub names : FinMap name_cmp Entry
  pub texts : FinMap nat_cmp (List ℕ)

abbrev pub cells_of : Volume → VolumeCells
cells_of v = record { nodes = v.nodes; names = v.names; texts = v.texts }

-- cells change as the volume does; bytes and unstable writes are no cells
abbrev pub changed_cells : Change → VolumeCells → VolumeCells
changed_cells (PutNode f n) c = record c { nodes = map.insert c.nodes f n }
changed_cells (TakeNode f) c = record c { nodes = map.remove c.nodes f; texts = map.remove c.texts f }
changed_cells (PutName d name e) c = record c { names = map.insert c.names (d, name) e }
changed_cells (TakeName d name) c = record c { names = map.remove c.names (d, name) }
changed_cells (PutText f text) c = record c { texts = map.insert c.texts f text }
changed_cells (PutBytes f at bytes) c = c
changed_cells (AddWrite w) c = c

abbrev pub cells_after : List Change → VolumeCells → VolumeCells
cells_after [] c = c
cells_after (x ∷ xs) c = cells_after xs (changed_cells x c)

-- ---- when what was gathered is that of a volume

abbrev pub parent_in : Option Node → Option ℕ
parent_in None = None
parent_in (Some n) = Some n.parent

-- Nodes that differ at most in what unstable writes change: the size and two times, and those of a regular file alone.
pub record IsLike (n m : Node) : Type 0 where
  pub same : n ≡ record m { size = n.size; mtime = n.mtime; ctime = n.ctime }
  pub other : is_reg m.kind ≡ false → n ≡ m

abbrev pub AreLike : Option Node → Option Node → Type 0
AreLike None None = Unit {0}
AreLike (Some n) (Some m) = IsLike n m
AreLike _ _ = ⊥

-- What a plan is told on its way is the volume's. A cell that it sees is the view; one that it only looks at may differ
-- from the node in what unstable writes change; and where it climbs, the cells have the right parents.
abbrev pub Fits : {A : Type 0} → Gathered → Volume → Plan A → Type 0
Fits g v (Done a) = Unit {0}
Fits g v (Stop s) = Unit {0}
Fits g v (Look f k) = ((o : Option Node) → node_in g.cells f ≡ Some o → AreLike o (map.get v.nodes f)) × Fits g v (k (known (node_in g.cells f)))
Fits g v (See f k) = ((o : Option Node) → node_in g.cells f ≡ Some o → o ≡ seen v f) × Fits g v (k (known (node_in g.cells f)))
Fits g v (Find d name k) = ((o : Option Entry) → name_in g.cells d name ≡ Some o → o ≡ map.get v.names (d, name)) × Fits g v (k (known (name_in g.cells d name)))
Fits g v (Climb a d k) = ((f : ℕ) (o : Option Node) → node_in g.cells f ≡ Some o → parent_in o ≡ parent_in (map.get v.nodes f))
    × Fits g v (k (ended (climbed (suc (length g.cells)) g.cells a d)))
Fits g v (Names d c k) = (g.names d c ≡ (sight v).names d c) × Fits g v (k (g.names d c))
Fits g v (Text f k) = (g.text f ≡ (sight v).text f) × Fits g v (k (g.text f))
Fits g v (Bytes f at count k) = (g.bytes f at count ≡ (sight v).bytes f at count) × Fits g v (k (g.bytes f at count))
Fits g v (Verifier k) = (g.verifier ≡ v.verifier) × Fits g v (k g.verifier)
Fits g v (Want ks p) = Fits g v p

-- All that was gathered is what the volume shows: each node's cell is its view.
pub record Gathers (g : Gathered) (v : Volume) : Type 0 where
  pub nodes : (f : ℕ) (o : Option Node) → node_in g.cells f ≡ Some o → o ≡ seen v f
  pub found : (d : ℕ) (name : List ℕ) (o : Option Entry) → name_in g.cells d name ≡ Some o → o ≡ map.get v.names (d, name)
  pub names : (d cookie : ℕ) → g.names d cookie ≡ (sight v).names d cookie
  pub text : (f : ℕ) → g.text f ≡ (sight v).text f
  pub bytes : (f at count : ℕ) → g.bytes f at count ≡ (sight v).bytes f at count
  pub verifier : g.verifier ≡ v.verifier

-- A plan doesn't end otherwise where what it looks at differs in what unstable writes change.
abbrev pub IsBlind : {A : Type 0} → Plan A → Type 0
IsBlind (Done a) = Unit {0}
IsBlind (Stop s) = Unit {0}
IsBlind (Look f k) = ((n m : Node) (s : Sight) → IsLike n m → run s (k (Some n)) ≡ run s (k (Some m))) × ((o : Option Node) → IsBlind (k o))
IsBlind (See f k) = (o : Option Node) → IsBlind (k o)
IsBlind (Find d name k) = (o : Option Entry) → IsBlind (k o)
IsBlind (Climb a d k) = (b : Bool) → IsBlind (k b)
IsBlind (Names d c k) = (xs : List Listed) → IsBlind (k xs)
IsBlind (Text f k) = (text : List ℕ) → IsBlind (k text)
IsBlind (Bytes f at count k) = (bytes : List ℕ) → IsBlind (k bytes)
IsBlind (Verifier k) = (w : ℕ) → IsBlind (k w)
IsBlind (Want ks p) = IsBlind p

-- whether a file has unstable writes
abbrev pub is_unstable : ℕ → List Unstable → Bool
is_unstable f ws = list_any (λ (w : Unstable). w.fileid == f) ws
