-- On which site of the directory servers a name and a new object go. A site is a number below 64.
use Rattle.std.specs.Prelude.{ℕ, ◌/◌, ◌%◌, ◌^◌, List, ◌++◌, Bool, true, false, take, nat_lt, slice_index, if◌then◌else◌}
use Rattle.std.specs.Int.{w64, from_be_bytes}
use Rattle.md5.specs.Md5.{md5}
use Rattle.sl_defs.specs.Items.{u64_text}
use Rattle.sl_defs.specs.declared.setup.Policy.{Policy}
use Rattle.sl_defs.specs.declared.setup.Policy.TheVariants as policy

-- the site of an object, which its fileid tells
abbrev pub site_of : ℕ → ℕ
site_of fileid = fileid / 2 ^ 40

-- a name's hash: the MD5 of the directory's fileid and the name
unfoldable pub hash : ℕ → List ℕ → List ℕ
hash dir name = md5 (u64_text dir ++ name)

-- the site that the hash gives: its first eight bytes as a number
unfoldable pub hash_site : ℕ → List ℕ → ℕ
hash_site dir name = from_be_bytes w64 (take 8 (hash dir name)) % 64

-- under Switch, whether a new directory of that name leaves the site of its parent
unfoldable pub is_switched : ℕ → ℕ → List ℕ → Bool
is_switched p dir name = nat_lt (slice_index (hash dir name) 8) p

-- the site of a name's cell
abbrev pub name_site : Policy → ℕ → List ℕ → ℕ
name_site policy.Hash dir name = hash_site dir name
name_site (policy.Switch p) dir name = site_of dir

-- the site of a new object
abbrev pub object_site : Policy → ℕ → List ℕ → Bool → ℕ
object_site policy.Hash dir name is_dir = hash_site dir name
object_site (policy.Switch p) dir name false = site_of dir
object_site (policy.Switch p) dir name true = if is_switched p dir name then hash_site dir name else site_of dir
