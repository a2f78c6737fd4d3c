-- Reading the arguments of each procedure from the front of some bytes.
use Rattle.std.specs.Prelude.{ℕ, zero, suc, List, Option, None, ◌==◌, if◌then◌else◌}
use Rattle.sl_defs.specs.Items.{u32_at, u64_at}
use Rattle.sl_defs.specs.Parts.{void_at, mapped, ◌⊗◌, union_at, optional_at}
use Rattle.sl_defs.specs.declared.setup.Time.{Time}
use Rattle.sl_types.specs.declared.attributes.Sattr.{Sattr}
use Rattle.sl_types.specs.declared.call.Stable.{Stable}
use Rattle.sl_types.specs.declared.call.CreateHow.{CreateHow}
use Rattle.sl_types.specs.declared.call.CreateHow.TheVariants as how
use Rattle.sl_types.specs.declared.call.Device.{Device}
use Rattle.sl_types.specs.declared.call.NodeData.{NodeData}
use Rattle.sl_types.specs.declared.call.NodeData.TheVariants as node
use Rattle.sl_types.specs.declared.call.Call.{Call}
use Rattle.sl_types.specs.declared.call.Call.TheVariants.{Null, Getattr, Setattr, Lookup, Access, Readlink, Read, Write, Create, Mkdir, Symlink, Mknod, Remove, Rmdir, Rename, Link, Readdir, Readdirplus, Fsstat, Fsinfo, Pathconf, Commit}
use Rattle.sl_items.specs.Reading.{fh_at, bytes_at, time_at, sattr_at, stable_at}

-- a reader of values of this type
abbrev pub Reader : Type 0 → Type 0
Reader A = List ℕ → Option (A × List ℕ)

-- ---- parts of arguments

unfoldable pub dir_op_at : Reader (List ℕ × List ℕ)
dir_op_at = fh_at ⊗ bytes_at

unfoldable pub create_arm_at : ℕ → Reader CreateHow
create_arm_at zero = mapped how.Unchecked sattr_at
create_arm_at (suc zero) = mapped how.Guarded sattr_at
create_arm_at (suc (suc zero)) = mapped how.Exclusive u64_at
create_arm_at (suc (suc (suc n))) = λ _. None

unfoldable pub create_how_at : Reader CreateHow
create_how_at = union_at create_arm_at

unfoldable pub device_at : Reader Device
device_at = mapped (λ x. record { attributes = x.0; major = x.1.0; minor = x.1.1 }) (sattr_at ⊗ u32_at ⊗ u32_at)

unfoldable pub node_arm_at : ℕ → Reader NodeData
node_arm_at zero = λ _. None
node_arm_at (suc zero) = void_at node.Reg
node_arm_at (suc (suc zero)) = void_at node.Dir
node_arm_at (suc (suc (suc zero))) = mapped node.Blk device_at
node_arm_at (suc (suc (suc (suc zero)))) = mapped node.Chr device_at
node_arm_at (suc (suc (suc (suc (suc zero))))) = void_at node.Lnk
node_arm_at (suc (suc (suc (suc (suc (suc zero)))))) = mapped node.Sock sattr_at
node_arm_at (suc (suc (suc (suc (suc (suc (suc zero))))))) = mapped node.Fifo sattr_at
node_arm_at (suc (suc (suc (suc (suc (suc (suc (suc n)))))))) = λ _. None

unfoldable pub node_data_at : Reader NodeData
node_data_at = union_at node_arm_at

-- ---- the fields of each procedure, and the call made of them

abbrev pub setattr_call : List ℕ × (Sattr × Option Time) → Call
setattr_call (object, (new_attributes, guard)) = Setattr object new_attributes guard

unfoldable pub setattr_at : Reader Call
setattr_at = mapped setattr_call (fh_at ⊗ sattr_at ⊗ optional_at time_at)

abbrev pub access_call : List ℕ × ℕ → Call
access_call (object, access) = Access object access

unfoldable pub access_at : Reader Call
access_at = mapped access_call (fh_at ⊗ u32_at)

abbrev pub read_call : List ℕ × (ℕ × ℕ) → Call
read_call (file, (offset, count)) = Read file offset count

unfoldable pub read_at : Reader Call
read_at = mapped read_call (fh_at ⊗ u64_at ⊗ u32_at)

abbrev pub write_call : List ℕ × (ℕ × (ℕ × (Stable × List ℕ))) → Call
write_call (file, (offset, (count, (stable_how, bytes)))) = Write file offset count stable_how bytes

unfoldable pub write_at : Reader Call
write_at = mapped write_call (fh_at ⊗ u64_at ⊗ u32_at ⊗ stable_at ⊗ bytes_at)

abbrev pub create_call : (List ℕ × List ℕ) × CreateHow → Call
create_call ((dir, name), how) = Create dir name how

unfoldable pub create_at : Reader Call
create_at = mapped create_call (dir_op_at ⊗ create_how_at)

abbrev pub mkdir_call : (List ℕ × List ℕ) × Sattr → Call
mkdir_call ((dir, name), attributes) = Mkdir dir name attributes

unfoldable pub mkdir_at : Reader Call
mkdir_at = mapped mkdir_call (dir_op_at ⊗ sattr_at)

abbrev pub symlink_call : (List ℕ × List ℕ) × (Sattr × List ℕ) → Call
symlink_call ((dir, name), (symlink_attributes, symlink_data)) = Symlink dir name symlink_attributes symlink_data

unfoldable pub symlink_at : Reader Call
symlink_at = mapped symlink_call (dir_op_at ⊗ sattr_at ⊗ bytes_at)

abbrev pub mknod_call : (List ℕ × List ℕ) × NodeData → Call
mknod_call ((dir, name), what) = Mknod dir name what

unfoldable pub mknod_at : Reader Call
mknod_at = mapped mknod_call (dir_op_at ⊗ node_data_at)

abbrev pub rename_call : (List ℕ × List ℕ) × (List ℕ × List ℕ) → Call
rename_call ((from_dir, from_name), (to_dir, to_name)) = Rename from_dir from_name to_dir to_name

unfoldable pub rename_at : Reader Call
rename_at = mapped rename_call (dir_op_at ⊗ dir_op_at)

abbrev pub link_call : List ℕ × (List ℕ × List ℕ) → Call
link_call (file, (link_dir, link_name)) = Link file link_dir link_name

unfoldable pub link_at : Reader Call
link_at = mapped link_call (fh_at ⊗ dir_op_at)

abbrev pub readdir_call : List ℕ × (ℕ × (ℕ × ℕ)) → Call
readdir_call (dir, (cookie, (cookieverf, count))) = Readdir dir cookie cookieverf count

unfoldable pub readdir_at : Reader Call
readdir_at = mapped readdir_call (fh_at ⊗ u64_at ⊗ u64_at ⊗ u32_at)

abbrev pub readdirplus_call : List ℕ × (ℕ × (ℕ × (ℕ × ℕ))) → Call
readdirplus_call (dir, (cookie, (cookieverf, (dircount, maxcount)))) = Readdirplus dir cookie cookieverf dircount maxcount

unfoldable pub readdirplus_at : Reader Call
readdirplus_at = mapped readdirplus_call (fh_at ⊗ u64_at ⊗ u64_at ⊗ u32_at ⊗ u32_at)

abbrev pub commit_call : List ℕ × (ℕ × ℕ) → Call
commit_call (file, (offset, count)) = Commit file offset count

unfoldable pub commit_at : Reader Call
commit_at = mapped commit_call (fh_at ⊗ u64_at ⊗ u32_at)

-- a handle alone, and a directory and a name alone
abbrev pub object_at : (List ℕ → Call) → Reader Call
object_at call = mapped call fh_at

abbrev pub entry_call : (List ℕ → List ℕ → Call) → List ℕ × List ℕ → Call
entry_call call (dir, name) = call dir name

abbrev pub entry_at : (List ℕ → List ℕ → Call) → Reader Call
entry_at call = mapped (entry_call call) dir_op_at

-- the arguments of a procedure
unfoldable pub args_at : ℕ → Reader Call
args_at n =
    if n == 0 then void_at Null
    else if n == 1 then object_at Getattr
    else if n == 2 then setattr_at
    else if n == 3 then entry_at Lookup
    else if n == 4 then access_at
    else if n == 5 then object_at Readlink
    else if n == 6 then read_at
    else if n == 7 then write_at
    else if n == 8 then create_at
    else if n == 9 then mkdir_at
    else if n == 10 then symlink_at
    else if n == 11 then mknod_at
    else if n == 12 then entry_at Remove
    else if n == 13 then entry_at Rmdir
    else if n == 14 then rename_at
    else if n == 15 then link_at
    else if n == 16 then readdir_at
    else if n == 17 then readdirplus_at
    else if n == 18 then object_at Fsstat
    else if n == 19 then object_at Fsinfo
    else if n == 20 then object_at Pathconf
    else if n == 21 then commit_at
    else λ _. None
