-- Tree: what holds of every volume that calls lead to (RFC 1813, section 4.3: the file system is a tree of directories).
use Rattle.std.proofs.Common.{zero, suc}
use Rattle.std.specs.Prelude.{◌≡◌, ◌≢◌, ℕ, ◌+◌, ◌*◌, ◌≤◌, ◌⊎◌, ◌==◌, ◌&&◌, List, [], ◌∷◌, Some, None, Bool, true, false, cond, if◌then◌else◌}
use Rattle.std.specs.List.{AllByRecursion}
use Rattle.std.specs.FinMap as map
use Rattle.std.specs.FinMap.{FinMap}
use Rattle.std.specs.Ordering.{nat_cmp}
use Rattle.sl_model.specs.declared.node.Node.{Node}
use Rattle.sl_model.specs.declared.node.Entry.{Entry}
use Rattle.sl_model.specs.Volume.{Volume, Unstable, name_cmp, is_dir, is_reg}

-- the parents lead up in so many steps, to the root or to no node
abbrev pub Path : FinMap nat_cmp Node → ℕ → ℕ → Type 0
Path m d zero = (d ≡ 1) ⊎ (map.get m d ≡ None)
Path m d (suc k) = (d ≢ 1) × (n : Node) × (map.get m d ≡ Some n) × Path m n.parent k

-- how many entries pass the test
abbrev pub tally : {A : Type 0} → (A → Bool) → List A → ℕ
tally p [] = 0
tally p (x ∷ xs) = cond (p x) 1 0 + tally p xs

-- how many names pass the test
unfoldable pub count_of : (ℕ × List ℕ → Entry → Bool) → FinMap name_cmp Entry → ℕ
count_of p m = tally (λ (e : (ℕ × List ℕ) × Entry). p e.0 e.1) (map.entries m)

abbrev pub leads_to : ℕ → ℕ × List ℕ → Entry → Bool
leads_to f k e = e.fileid == f

abbrev pub stands_in : ℕ → ℕ × List ℕ → Entry → Bool
stands_in d k e = k.0 == d

abbrev pub is_subdirectory : ℕ → ℕ × List ℕ → Entry → Bool
is_subdirectory d k e = k.0 == d && is_dir e.kind

-- the names that a node has: the root none, each other directory one, and all else as many as its nlink
abbrev pub names_due : ℕ → Node → ℕ
names_due f n = if is_dir n.kind then (if f == 1 then 0 else 1) else n.nlink

abbrev pub Nodes : Type 0
Nodes = FinMap nat_cmp Node

abbrev pub Names : Type 0
Names = FinMap name_cmp Entry

-- a name stands in a live directory
pub record IsHome (d : ℕ) (e : Entry) (nodes : Nodes) : Type 0 where
  pub node : Node
  pub at : map.get nodes d ≡ Some node
  pub is_directory : is_dir node.kind ≡ true
  pub cookie : e.cookie ≤ 2 + node.made

-- and leads to a node of its kind; where that is a directory, this is its parent
pub record Leads (d : ℕ) (e : Entry) (nodes : Nodes) : Type 0 where
  pub node : Node
  pub at : map.get nodes e.fileid ≡ Some node
  pub same_kind : node.kind ≡ e.kind
  pub parent : is_dir node.kind ≡ true → node.parent ≡ d

-- what a directory counts
pub record Counts (f : ℕ) (n : Node) (names : Names) : Type 0 where
  pub nlink : n.nlink ≡ 2 + count_of (is_subdirectory f) names
  pub entries : n.entries ≡ count_of (stands_in f) names
  pub size : n.size ≡ 32 * n.entries

pub record OwnIs (number f : ℕ) (n : Node) : Type 0 where
  pub fileid : n.fileid ≡ f
  pub fsid : n.fsid ≡ number

-- what is neither
pub record IsOther (n : Node) : Type 0 where
  pub nlink : 1 ≤ n.nlink
  pub parent : n.parent ≡ 0

-- the root of the tree
pub record HasRoot (nodes : Nodes) : Type 0 where
  pub node : Node
  pub at : map.get nodes 1 ≡ Some node
  pub is_directory : is_dir node.kind ≡ true
  pub parent : node.parent ≡ 1

-- Nodes and names form a tree, where each node f has owed f names fewer than it ought to.
pub record IsTree (owed : ℕ → ℕ) (number : ℕ) (nodes : Nodes) (names : Names) : Type 0 where
  pub own : (f : ℕ) (n : Node) → map.get nodes f ≡ Some n → OwnIs number f n
  pub root : HasRoot nodes
  pub no_zero : map.get nodes 0 ≡ None
  pub homes : (d : ℕ) (m : List ℕ) (e : Entry) → map.get names (d, m) ≡ Some e → IsHome d e nodes
  pub leads : (d : ℕ) (m : List ℕ) (e : Entry) → map.get names (d, m) ≡ Some e → Leads d e nodes
  pub cookies : (d : ℕ) (m k : List ℕ) (e g : Entry) → map.get names (d, m) ≡ Some e → map.get names (d, k) ≡ Some g → e.cookie ≡ g.cookie → m ≡ k
  pub named : (f : ℕ) (n : Node) → map.get nodes f ≡ Some n → count_of (leads_to f) names + owed f ≡ names_due f n
  pub directories : (f : ℕ) (n : Node) → map.get nodes f ≡ Some n → is_dir n.kind ≡ true → Counts f n names
  pub others : (f : ℕ) (n : Node) → map.get nodes f ≡ Some n → is_dir n.kind ≡ false → IsOther n
  -- the parents lead to the root
  pub paths : (f : ℕ) → (k : ℕ) × Path nodes f k

abbrev pub nothing : ℕ → ℕ
nothing f = 0

-- only node f owes a name
abbrev pub one_of : ℕ → ℕ → ℕ
one_of f g = if f == g then 1 else 0

-- of a regular file
abbrev pub IsOfFile : Nodes → Unstable → Type 0
IsOfFile nodes w = (n : Node) × (map.get nodes w.fileid ≡ Some n) × (is_reg n.kind ≡ true)

pub record Tree (v : Volume) : Type 0 where
  pub tree : IsTree nothing v.number v.nodes v.names
  pub used : (f : ℕ) (n : Node) → map.get v.nodes f ≡ Some n → map.get v.used f ≡ Some tt
  pub unstable : AllByRecursion (IsOfFile v.nodes) v.unstable
