-- A volume, what stands unstable in it, and what can be looked up.
use Rattle.std.proofs.Common.{zero, suc}
use Rattle.std.specs.Prelude.{ℕ, ◌+◌, ◌-◌, ◌==◌, List, [], ◌∷◌, ◌++◌, Option, Some, None, Bool, true, false, not, ◌||◌, ◌&&◌, nat_lt, nat_le, max, slice_index, if◌then◌else◌, length}
use Rattle.std.specs.Option.{unwrap_or}
use Rattle.std.specs.declared.cmp.Ordering.{Ordering}
use Rattle.std.specs.Ordering.{nat_cmp, ordering_then}
use Rattle.std.specs.Cmp.Lexicographic.{slice_cmp}
use Rattle.std.specs.FinMap.{FinMap}
use Rattle.std.specs.FinMap as map
use Rattle.sl_defs.specs.declared.setup.Time.{Time}
use Rattle.sl_types.specs.declared.kind.Kind.{Kind}
use Rattle.sl_types.specs.declared.kind.Kind.TheVariants as kind
use Rattle.sl_model.specs.declared.node.Node.{Node}
use Rattle.sl_model.specs.declared.node.Entry.{Entry}
use Rattle.sl_model.specs.declared.node.Listed.{Listed}
use Rattle.sl_model.specs.Plan.{Sight}

-- names are in the order of their directories, and then of their bytes
abbrev pub name_cmp : ℕ × List ℕ → ℕ × List ℕ → Ordering
name_cmp a b = ordering_then (nat_cmp a.0 b.0) (slice_cmp nat_cmp a.1 b.1)

-- and bytes in the order of their files, and then of their offsets
abbrev pub place_cmp : ℕ × ℕ → ℕ × ℕ → Ordering
place_cmp a b = ordering_then (nat_cmp a.0 b.0) (nat_cmp a.1 b.1)

-- a write of bytes to a file, from an offset on and at a moment, that isn't stable yet (RFC 1813, section 3.3.7)
pub record Unstable : Type 0 where
  pub fileid : ℕ
  pub offset : ℕ
  pub bytes : List ℕ
  pub moment : Time

-- A volume: the file system behind the handles (RFC 1813, section 2.5, for the attributes of a node).
pub record Volume : Type 0 where
  pub number : ℕ
  -- the node of each live object, by its fileid
  pub nodes : FinMap nat_cmp Node
  -- what each name of each directory leads to
  pub names : FinMap name_cmp Entry
  -- the text of each symbolic link
  pub texts : FinMap nat_cmp (List ℕ)
  -- the written bytes of each file, by file and offset; the others below its size are zero
  pub written : FinMap place_cmp ℕ
  -- the unstable writes of all files, from the oldest on
  pub unstable : List Unstable
  -- the write verifier (RFC 1813, section 3.3.7, `writeverf3`)
  pub verifier : ℕ
  -- every fileid that an object ever had
  pub used : FinMap nat_cmp (Unit {0})

abbrev pub is_dir : Kind → Bool
is_dir kind.Dir = true
is_dir _ = false

abbrev pub is_reg : Kind → Bool
is_reg kind.Reg = true
is_reg _ = false

abbrev pub is_lnk : Kind → Bool
is_lnk kind.Lnk = true
is_lnk _ = false

-- ---- a file as its unstable writes make it

-- the node after a write at that moment, which ends at that offset: both times are the moment
abbrev pub written_to : ℕ → Time → Node → Node
written_to end moment n = record n { size = max n.size end; mtime = moment; ctime = moment }

-- after one unstable write, if it is of this file
abbrev pub after_write : Unstable → Node → Node
after_write w n = if w.fileid == n.fileid then written_to (w.offset + length w.bytes) w.moment n else n

-- after all of them, from the oldest on
abbrev pub after_writes : List Unstable → Node → Node
after_writes [] n = n
after_writes (w ∷ ws) n = after_writes ws (after_write w n)

abbrev pub seen_as : List Unstable → Option Node → Option Node
seen_as ws None = None
seen_as ws (Some n) = Some (after_writes ws n)

-- the view of an object: its node with its unstable writes
abbrev pub seen : Volume → ℕ → Option Node
seen v f = seen_as v.unstable (map.get v.nodes f)

-- a file's byte after a write, where it was b
abbrev pub byte_after_write : ℕ → ℕ → Unstable → ℕ → ℕ
byte_after_write f at w b = if w.fileid == f && (nat_le w.offset at && nat_lt at (w.offset + length w.bytes)) then slice_index w.bytes (at - w.offset) else b

abbrev pub byte_after : ℕ → ℕ → List Unstable → ℕ → ℕ
byte_after f at [] b = b
byte_after f at (w ∷ ws) b = byte_after f at ws (byte_after_write f at w b)

-- a file's byte in its view; what was never written is zero
abbrev pub byte_at : Volume → ℕ → ℕ → ℕ
byte_at v f at = byte_after f at v.unstable (unwrap_or (map.get v.written (f, at)) 0)

-- from an offset on, so many
abbrev pub bytes_from : Volume → ℕ → ℕ → ℕ → List ℕ
bytes_from v f at zero = []
bytes_from v f at (suc count) = byte_at v f at ∷ bytes_from v f (at + 1) count

-- ---- the unstable writes become stable, or are forgotten

-- these bytes of a file, from an offset on
abbrev pub put_bytes : ℕ → ℕ → List ℕ → FinMap place_cmp ℕ → FinMap place_cmp ℕ
put_bytes f at [] m = m
put_bytes f at (b ∷ bs) m = put_bytes f (at + 1) bs (map.insert m (f, at) b)

-- those of a file's unstable writes, from the oldest on
abbrev pub put_writes : ℕ → List Unstable → FinMap place_cmp ℕ → FinMap place_cmp ℕ
put_writes f [] m = m
put_writes f (w ∷ ws) m = put_writes f ws (if w.fileid == f then put_bytes f w.offset w.bytes m else m)

-- the unstable writes of all other files
abbrev pub without_file : ℕ → List Unstable → List Unstable
without_file f [] = []
without_file f (w ∷ ws) = if w.fileid == f then without_file f ws else w ∷ without_file f ws

abbrev pub put_seen : FinMap nat_cmp Node → ℕ → Option Node → FinMap nat_cmp Node
put_seen nodes f None = nodes
put_seen nodes f (Some n) = map.insert nodes f n

-- Flush: the file becomes its view, and has no unstable write (RFC 1813, section 3.3.21: what COMMIT flushes).
abbrev pub flush : ℕ → Volume → Volume
flush f v = record v { nodes = put_seen v.nodes f (seen v f); written = put_writes f v.unstable v.written; unstable = without_file f v.unstable }

-- Restart: the unstable writes are lost, all together, and there is a new verifier (RFC 1813, section 3.3.7, `writeverf3`).
abbrev pub restart : ℕ → Volume → Volume
restart verifier v = record v { unstable = []; verifier = verifier }

-- ---- changes

-- what a call changes: one thing at one key
pub data Change : Type 0 where
  PutNode : ℕ → Node → Change
  TakeNode : ℕ → Change
  PutName : ℕ → List ℕ → Entry → Change
  TakeName : ℕ → List ℕ → Change
  PutText : ℕ → List ℕ → Change
  PutBytes : ℕ → ℕ → List ℕ → Change
  AddWrite : Unstable → Change

-- no bytes of the file from a place on
abbrev pub cut_at : ℕ → ℕ → FinMap place_cmp ℕ → FinMap place_cmp ℕ
cut_at f size m = map.retain_keys m (λ k. not (k.0 == f) || nat_lt k.1 size)

-- A file whose node is put has its unstable writes made stable first, and no bytes past the node's size then. An
-- object that is taken goes with its text, its bytes and its unstable writes.
abbrev pub changed : Change → Volume → Volume
changed (PutNode f n) v =
    let w = flush f v in
    record w { nodes = map.insert w.nodes f n; written = cut_at f n.size w.written; used = map.insert w.used f tt }
changed (TakeNode f) v = record v { nodes = map.remove v.nodes f; texts = map.remove v.texts f; written = cut_at f 0 v.written; unstable = without_file f v.unstable }
changed (PutName d name e) v = record v { names = map.insert v.names (d, name) e }
changed (TakeName d name) v = record v { names = map.remove v.names (d, name) }
changed (PutText f text) v = record v { texts = map.insert v.texts f text }
changed (PutBytes f at bytes) v = record v { written = put_bytes f at bytes v.written }
changed (AddWrite w) v = record v { unstable = v.unstable ++ w ∷ [] }

abbrev pub after_changes : List Change → Volume → Volume
after_changes [] v = v
after_changes (c ∷ cs) v = after_changes cs (changed c v)

-- ---- listings

-- into a list by rising cookie, before the first whose cookie isn't below its own
abbrev pub placed : Listed → List Listed → List Listed
placed x [] = x ∷ []
placed x (y ∷ ys) = if nat_lt y.cookie x.cookie then y ∷ placed x ys else x ∷ y ∷ ys

-- a list with one name more, where that name is of the directory and its cookie above the given one
abbrev pub listing_with : ℕ → ℕ → (ℕ × List ℕ) × Entry → List Listed → List Listed
listing_with d cookie e xs =
    if e.0.0 == d && nat_lt cookie e.1.cookie then placed (record { name = e.0.1; fileid = e.1.fileid; kind = e.1.kind; cookie = e.1.cookie }) xs else xs

-- a directory's names whose cookies are above the given one, by rising cookie, put one after another into a list
abbrev pub listed : ℕ → ℕ → List Listed → List ((ℕ × List ℕ) × Entry) → List Listed
listed d cookie xs [] = xs
listed d cookie xs (e ∷ es) = listed d cookie (listing_with d cookie e xs) es

-- ---- what can be looked up in a volume

abbrev pub below_on : (ℕ → Bool) → Option Node → Bool
below_on next None = false
below_on next (Some n) = next n.parent

-- whether d is the directory a or below it, as far as so many parents up
abbrev pub below_within : ℕ → FinMap nat_cmp Node → ℕ → ℕ → Bool
below_within zero nodes a d = true
below_within (suc steps) nodes a d =
    if d == a then true else
    if d == 1 then false else
    below_on (below_within steps nodes a) (map.get nodes d)

abbrev pub sight : Volume → Sight
sight v = record {
  look = λ f. map.get v.nodes f;
  see = λ f. seen v f;
  find = λ d name. map.get v.names (d, name);
  below = λ a d. below_within (suc (map.len v.nodes)) v.nodes a d;
  names = λ d cookie. listed d cookie [] (map.entries v.names);
  text = λ f. unwrap_or (map.get v.texts f) [];
  bytes = λ f at count. bytes_from v f at count;
  verifier = v.verifier;
}
