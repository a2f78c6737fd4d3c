-- An effect as the servers' works: cells to change, by the servers that have them, and bytes to keep, put, cut and drop.
use Rattle.std.proofs.Common.{zero, suc}
use Rattle.std.specs.Prelude.{ℕ, ◌+◌, ◌-◌, ◌*◌, ◌/◌, ◌==◌, List, [], ◌∷◌, ◌++◌, Option, Some, None, Bool, true, false, ◌&&◌, ◌||◌, nat_lt, min, max, filter, if◌then◌else◌}
use Rattle.std.specs.List.{list_any, list_all}
use Rattle.std.specs.Option.{unwrap_or}
use Rattle.std.specs.Ordering.{nat_cmp}
use Rattle.std.specs.FinMap.{FinMap}
use Rattle.std.specs.FinMap as map
use Rattle.sl_defs.specs.declared.setup.Setup.{Setup}
use Rattle.sl_types.specs.declared.call.Call.{Call}
use Rattle.sl_types.specs.declared.call.Call.TheVariants as call
use Rattle.sl_route.specs.declared.class.Class.{Class}
use Rattle.sl_route.specs.declared.class.Class.TheVariants as class
use Rattle.sl_route.specs.Places.{first_server, threshold, unit_size}
use Rattle.sl_model.specs.declared.node.Node.{Node}
use Rattle.sl_model.specs.Plan.{Key}
use Rattle.sl_model.specs.Volume.{PutNode, TakeNode, PutName, TakeName, PutText, PutBytes, AddWrite, is_dir, is_reg}
use Rattle.sl_model.specs.Volume as volume
use Rattle.sl_model.specs.Looking.{attributes}
use Rattle.sl_model.specs.Gathered.{Gathered}
use Rattle.sl_cells.specs.declared.cells.AttrCell.{AttrCell}
use Rattle.sl_cells.specs.declared.changes.Change.{Change}
use Rattle.sl_cells.specs.declared.changes.Change.TheVariants as change
use Rattle.sl_frames.specs.declared.work.Work.{Work}
use Rattle.sl_frames.specs.declared.work.Work.TheVariants as work
use Rattle.sl_frames.specs.declared.intent.Part.{Part}
use Rattle.sl_history.specs.Wired.{name_cell}
use Rattle.sl_history.specs.Placing.{servers, object_server, name_server, key_server, byte_server}
use Rattle.sl_machine.specs.Memory.{Dirty}
use Rattle.sl_machine.specs.Knowing.{node_at}

-- ---- cells that change

-- the text of a link that is made, or is there
abbrev pub text_made : List volume.Change → ℕ → Option (List ℕ)
text_made [] f = None
text_made (PutText g text ∷ cs) f = if f == g then Some text else text_made cs f
text_made (c ∷ cs) f = text_made cs f

abbrev pub object_cell : Node → List ℕ → AttrCell
object_cell n text = record { attributes = attributes n; parent = n.parent; entries = n.entries; made = n.made; verifier = n.verifier; link = text }

abbrev pub cell_change : Gathered → List volume.Change → volume.Change → List Change
cell_change g all (PutNode f n) = change.PutAttr (object_cell n (unwrap_or (text_made all f) (g.text f))) ∷ []
cell_change g all (TakeNode f) = change.TakeAttr f ∷ []
cell_change g all (PutName d name e) = change.PutName (name_cell d name e) ∷ []
cell_change g all (TakeName d name) = change.TakeName d name ∷ []
cell_change g all other = []

-- the same cell is put again later
abbrev pub puts_object : ℕ → Change → Bool
puts_object f (change.PutAttr c) = c.attributes.fileid == f
puts_object f other = false

abbrev pub is_overtaken : Change → List Change → Bool
is_overtaken (change.PutAttr c) later = list_any (puts_object c.attributes.fileid) later
is_overtaken other later = false

-- each cell is put once: where a rename stays in one directory, that directory changes twice
abbrev pub each_put : List Change → List Change
each_put [] = []
each_put (c ∷ cs) = if is_overtaken c cs then each_put cs else c ∷ each_put cs

abbrev pub all_cells : Gathered → List volume.Change → List volume.Change → List Change
all_cells g all [] = []
all_cells g all (c ∷ cs) = cell_change g all c ++ all_cells g all cs

-- a WRITE changes attributes alone
abbrev pub is_write : Call → Bool
is_write (call.Write file offset count asked bytes) = true
is_write other = false

abbrev pub attributes_alone : List volume.Change → List Change
attributes_alone [] = []
attributes_alone (PutNode f n ∷ cs) = change.SetFattr (attributes n) ∷ attributes_alone cs
attributes_alone (c ∷ cs) = attributes_alone cs

unfoldable pub cell_changes : Gathered → Call → List volume.Change → List Change
cell_changes g c changes = if is_write c then attributes_alone changes else each_put (all_cells g changes changes)

-- the server of a change
abbrev pub change_server : Setup → Change → ℕ
change_server s (change.PutAttr c) = object_server s c.attributes.fileid
change_server s (change.TakeAttr f) = object_server s f
change_server s (change.PutName c) = name_server s c.dir c.name
change_server s (change.TakeName d name) = name_server s d name
change_server s (change.SetFattr a) = object_server s a.fileid

-- ---- bytes that go

-- bytes of a file from an offset up to another go, or the whole file
pub record Going : Type 0 where
  pub fileid : ℕ
  pub from : ℕ
  pub to : ℕ
  pub whole : Bool

-- an empty file has no bytes that go
abbrev pub dropped_file : ℕ → Option Node → List Going
dropped_file f None = []
dropped_file f (Some n) = if is_reg n.kind && nat_lt 0 n.size then record { fileid = f; from = 0; to = n.size; whole = true } ∷ [] else []

abbrev pub shortened : ℕ → Option Node → Node → List Going
shortened f None after = []
shortened f (Some n) after =
    if is_reg n.kind && nat_lt after.size n.size then record { fileid = f; from = after.size; to = n.size; whole = false } ∷ [] else []

abbrev pub going_by : Gathered → volume.Change → List Going
going_by g (TakeNode f) = dropped_file f (node_at g f)
going_by g (PutNode f n) = shortened f (node_at g f) n
going_by g other = []

abbrev pub going : Gathered → List volume.Change → List Going
going g [] = []
going g (c ∷ cs) = going_by g c ++ going g cs

-- ---- data servers

abbrev pub numbers : ℕ → ℕ → List ℕ
numbers first zero = []
numbers first (suc n) = first ∷ numbers (first + 1) n

abbrev pub class_servers : Setup → Class → List ℕ
class_servers s c = numbers (first_server c) (servers s c)

abbrev pub data_servers : Setup → List ℕ
data_servers s = class_servers s class.Small ++ class_servers s class.Node

-- the server has one of so many units from this one on
abbrev pub has_unit : Setup → ℕ → ℕ → ℕ → ℕ → Bool
has_unit s f server u zero = false
has_unit s f server u (suc n) = byte_server s f (u * unit_size) == server || has_unit s f server (u + 1) n

-- units go round the 64 sites, so that no more than so many tell anything
abbrev pub units_from : ℕ → ℕ → ℕ
units_from from to = if nat_lt from to then min 64 ((to - 1) / unit_size - from / unit_size + 1) else 0

-- The server has one of a file's bytes from an offset up to another: below the threshold all bytes are with one server.
unfoldable pub has_byte : Setup → ℕ → ℕ → ℕ → ℕ → Bool
has_byte s f from to server =
    (nat_lt from to && (nat_lt from threshold && byte_server s f 0 == server))
    || has_unit s f server (max from threshold / unit_size) (units_from (max from threshold) to)

abbrev pub has_going : Setup → ℕ → Going → Bool
has_going s server x = has_byte s x.fileid x.from x.to server

abbrev pub going_work : Going → Work
going_work x = if x.whole then work.Drop x.fileid else work.Cut x.fileid x.from

-- ---- parts of an intent, by rising server

abbrev pub part : ℕ → ℕ → Work → Part
part server boot w = record { actor = server; boot = boot; work = w }

abbrev pub changes_at : Setup → ℕ → List Change → List Change
changes_at s server cs = filter (λ c. change_server s c == server) cs

abbrev pub if_some : ℕ → List Change → List Part
if_some server [] = []
if_some server (c ∷ cs) = part server 0 (work.Change (c ∷ cs)) ∷ []

abbrev pub cell_parts : Setup → List Change → List ℕ → List Part
cell_parts s cs [] = []
cell_parts s cs (server ∷ rest) = if_some server (changes_at s server cs) ++ cell_parts s cs rest

abbrev pub first_going : List Going → List Work
first_going [] = []
first_going (x ∷ xs) = going_work x ∷ []

abbrev pub byte_part : ℕ → List Work → List Part
byte_part server [] = []
byte_part server (w ∷ ws) = part server 0 w ∷ []

abbrev pub byte_parts : Setup → List Going → List ℕ → List Part
byte_parts s xs [] = []
byte_parts s xs (server ∷ rest) = byte_part server (first_going (filter (has_going s server) xs)) ++ byte_parts s xs rest

-- what an operation on names and attributes needs of each server
unfoldable pub parts_of : Setup → List Change → List Going → List Part
parts_of s cs xs = cell_parts s cs (class_servers s class.Dir) ++ byte_parts s xs (data_servers s)

-- a stable WRITE: the file's attributes, and the bytes
unfoldable pub write_parts : Setup → List Change → ℕ → ℕ → List ℕ → List Part
write_parts s cs f offset bytes = cell_parts s cs (class_servers s class.Dir) ++ part (byte_server s f offset) 0 (work.Put f offset bytes) ∷ []

-- a flush: the file's attributes, and at each server that has unstable writes of it, with the boot that is relied on, to
-- keep them
abbrev pub keep_parts : ℕ → FinMap nat_cmp ℕ → List ℕ → List Part
keep_parts f boots [] = []
keep_parts f boots (server ∷ rest) = part server (unwrap_or (map.get boots server) 0) (work.Keep f []) ∷ keep_parts f boots rest

unfoldable pub flush_parts : Setup → FinMap nat_cmp ℕ → ℕ → Dirty → List Part
flush_parts s boots f d = part (object_server s f) 0 (work.Change (change.SetFattr d.attributes ∷ [])) ∷ keep_parts f boots d.servers

-- ---- one server alone

-- all cells that were asked for or change are with this server
abbrev pub all_with : Setup → ℕ → List Key → List Change → Bool
all_with s server ks cs = list_all (λ k. key_server s k == server) ks && list_all (λ c. change_server s c == server) cs
