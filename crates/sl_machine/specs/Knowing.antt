-- What a call knows by what it was told, what it still needs, and its effect.
use Rattle.std.specs.Prelude.{ℕ, ◌==◌, List, [], ◌∷◌, ◌++◌, Option, Some, None, Bool, true, false, not, ◌&&◌, ◌||◌, nat_le, nat_lt, nat_eq, replicate, filter, map, if◌then◌else◌, option_to_list}
use Rattle.std.specs.Cmp.Lexicographic.{pointwise}
use Rattle.std.specs.Option.{unwrap_or}
use Rattle.sl_defs.specs.declared.setup.Time.{Time}
use Rattle.sl_defs.specs.declared.note.Choice.{Choice}
use Rattle.sl_types.specs.declared.attributes.Fattr.{Fattr}
use Rattle.sl_types.specs.declared.call.Call.{Call}
use Rattle.sl_types.specs.declared.call.Call.TheVariants as call
use Rattle.sl_types.specs.declared.kind.Status.TheVariants as status
use Rattle.sl_types.specs.declared.cred.Cred.{Cred}
use Rattle.sl_model.specs.declared.node.Node.{Node}
use Rattle.sl_model.specs.declared.node.Entry.{Entry}
use Rattle.sl_model.specs.declared.node.Listed.{Listed}
use Rattle.sl_model.specs.Plan.{Plan, Done, Stop, Look, See, Find, Climb, Names, Text, Bytes, Verifier, Want, Key, NodeKey, NameKey}
use Rattle.sl_model.specs.Looking.{Outcome, found, handle_to, attributes}
use Rattle.sl_model.specs.Gathered.{Gathered, Cell, AtNode, AtName, node_in, name_in, wanted, effect_of}
use Rattle.sl_model.specs.Procedures.{plan, fault}
use Rattle.sl_cells.specs.declared.cells.AttrCell.{AttrCell}
use Rattle.sl_cells.specs.declared.cells.NameCell.{NameCell}
use Rattle.sl_cells.specs.declared.keys.CellKey.{CellKey}
use Rattle.sl_cells.specs.declared.keys.CellKey.TheVariants as key
use Rattle.sl_frames.specs.declared.found.FoundCell.{FoundCell}
use Rattle.sl_frames.specs.declared.found.FoundCell.TheVariants as answer
use Rattle.sl_machine.specs.Calls.{Place}
use Rattle.sl_machine.specs.Memory.{Told, ServerNames}

-- ---- what was told, as the one server's plans see it

abbrev pub node_of : AttrCell → Node
node_of c = record {
  kind = c.attributes.kind;
  mode = c.attributes.mode;
  nlink = c.attributes.nlink;
  uid = c.attributes.uid;
  gid = c.attributes.gid;
  size = c.attributes.size;
  major = c.attributes.major;
  minor = c.attributes.minor;
  fsid = c.attributes.fsid;
  fileid = c.attributes.fileid;
  atime = c.attributes.atime;
  mtime = c.attributes.mtime;
  ctime = c.attributes.ctime;
  parent = c.parent;
  entries = c.entries;
  made = c.made;
  verifier = c.verifier;
}

-- of a regular file nothing stands in its cell that its attributes don't say, but for what a call sets alone
abbrev pub file_cell : Fattr → AttrCell
file_cell a = record { attributes = a; parent = 0; entries = 0; made = 0; verifier = None; link = [] }

abbrev pub entry_of : NameCell → Entry
entry_of c = record { fileid = c.fileid; kind = c.kind; cookie = c.cookie }

abbrev pub node_found : FoundCell → Option Node
node_found (answer.Attr c) = Some (node_of c)
node_found other = None

abbrev pub entry_found : FoundCell → Option Entry
entry_found (answer.Name c) = Some (entry_of c)
entry_found other = None

abbrev pub cell_told : CellKey × FoundCell → Cell
cell_told (key.Attr f, c) = AtNode f (node_found c)
cell_told (key.Name d name, c) = AtName d name (entry_found c)

abbrev pub own_cell : Option Fattr → List Cell
own_cell None = []
own_cell (Some a) = AtNode a.fileid (Some (node_of (file_cell a))) ∷ []

abbrev pub link_found : ℕ → CellKey × FoundCell → List ℕ
link_found f (key.Attr g, answer.Attr c) = if f == g then c.link else []
link_found f other = []

abbrev pub link_told : List (CellKey × FoundCell) → ℕ → List ℕ
link_told [] f = []
link_told (c ∷ cs) f = link_found f c ++ link_told cs f

-- ---- names of several servers

-- into a list by rising cookie
abbrev pub placed : NameCell → List NameCell → List NameCell
placed c [] = c ∷ []
placed c (d ∷ ds) = if nat_lt d.cookie c.cookie then d ∷ placed c ds else c ∷ d ∷ ds

abbrev pub all_placed : List NameCell → List NameCell → List NameCell
all_placed [] ds = ds
all_placed (c ∷ cs) ds = placed c (all_placed cs ds)

abbrev pub all_names : List ServerNames → List NameCell
all_names [] = []
all_names (n ∷ ns) = all_placed n.cells (all_names ns)

-- the last cookie that a server with more names told
abbrev pub last_cookie : List NameCell → ℕ → ℕ
last_cookie [] cookie = cookie
last_cookie (c ∷ cs) cookie = last_cookie cs c.cookie

abbrev pub within : List ServerNames → ℕ → Bool
within [] cookie = true
within (n ∷ ns) cookie = (not n.more || nat_le cookie (last_cookie n.cells 0)) && within ns cookie

-- The names that are surely all there are so far: those up to the least last cookie of a server that has more.
abbrev pub merged : List ServerNames → List NameCell
merged ns = filter (λ (c : NameCell). within ns c.cookie) (all_names ns)

abbrev pub line_of : NameCell → Listed
line_of c = record { name = c.name; fileid = c.fileid; kind = c.kind; cookie = c.cookie }

-- Everything that a call was told. Bytes of files aren't told here, and stand as zeros; the write verifier is the proxy's
-- fence.
abbrev pub known : ℕ → Told → Gathered
known fence t = record {
  cells = map cell_told t.cells ++ own_cell t.attributes;
  names = λ d cookie. map line_of (merged t.names);
  text = λ f. link_told t.cells f;
  bytes = λ f at count. replicate count 0;
  verifier = fence;
}

-- ---- what is still needed

-- the plan without the keys that it would like to be asked for together
unfoldable pub unhurried : {A : Type 0} → Plan A → Plan A
unhurried (Done a) = Done a
unhurried (Stop s) = Stop s
unhurried (Look f k) = Look f (λ o. unhurried (k o))
unhurried (See f k) = See f (λ o. unhurried (k o))
unhurried (Find d n k) = Find d n (λ o. unhurried (k o))
unhurried (Climb a d k) = Climb a d (λ b. unhurried (k b))
unhurried (Names d c k) = Names d c (λ xs. unhurried (k xs))
unhurried (Text f k) = Text f (λ text. unhurried (k text))
unhurried (Bytes f at n k) = Bytes f at n (λ bytes. unhurried (k bytes))
unhurried (Verifier k) = Verifier (λ v. unhurried (k v))
unhurried (Want ks p) = unhurried p

-- the keys that decide the answer, and whose cells weren't told
abbrev pub needed : Gathered → Call → Cred → Time → Choice → List Key
needed g c cred now choice = wanted g (unhurried (plan c cred now choice))

abbrev pub entry_at : Gathered → Place → Option Entry
entry_at g p = unwrap_or (name_in g.cells p.dir p.name) None

-- what the call's names lead to
abbrev pub entries_at : Gathered → List Place → List Entry
entries_at g [] = []
entries_at g (p ∷ ps) = option_to_list (entry_at g p) ++ entries_at g ps

-- a call that asks for all of these, but not for one twice
abbrev pub same_key : Key → Key → Bool
same_key (NodeKey f) (NodeKey g) = f == g
same_key (NameKey d name) (NameKey e other) = d == e && pointwise nat_eq name other
same_key a b = false

abbrev pub each_once : List Key → List Key
each_once [] = []
each_once (k ∷ ks) = k ∷ filter (λ j. not (same_key j k)) (each_once ks)

abbrev pub cell_key : Key → CellKey
cell_key (NodeKey f) = key.Attr f
cell_key (NameKey d name) = key.Name d name

abbrev pub key_of : CellKey → Key
key_of (key.Attr f) = NodeKey f
key_of (key.Name d name) = NameKey d name

-- ---- effects

abbrev pub node_at : Gathered → ℕ → Option Node
node_at g f = unwrap_or (node_in g.cells f) None

-- a name that is there is in a directory that is there, so LOOKUP needs no more than the object
abbrev pub found_object : Call → Entry → Option Node → Outcome
found_object c e None = record { changes = []; answer = fault c status.Stale }
found_object c e (Some n) = record { changes = []; answer = found (handle_to n) (Some (attributes n)) }

abbrev pub looked_up : Gathered → Call → Outcome → Option Entry → Outcome
looked_up g c absent None = absent
looked_up g c absent (Some e) = found_object c e (node_at g e.fileid)

abbrev pub first_entry : Gathered → List Place → Option Entry
first_entry g [] = None
first_entry g (p ∷ ps) = entry_at g p

abbrev pub is_lookup : Call → Bool
is_lookup (call.Lookup dir name) = true
is_lookup other = false

-- what the call answers and changes by what it was told
unfoldable pub effect : Gathered → List Place → Call → Cred → Time → Choice → Outcome
effect g places c cred now choice =
    if is_lookup c then looked_up g c (effect_of g c cred now choice) (first_entry g places) else effect_of g c cred now choice
