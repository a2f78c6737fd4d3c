-- The arguments of each procedure (RFC 1813, section 3.3): which texts spell a call's, and their canonical text.
use Rattle.std.specs.Prelude.{◌≡◌, ℕ, List, [], ◌++◌, IfSome}
use Rattle.sl_defs.specs.Items.{u32_text, u64_text, opaque_text}
use Rattle.sl_defs.specs.Parts.{◌⨾◌, IsVoid, IsU32, IsU64, IsUnion, IsOptional, optional_text}
use Rattle.sl_types.specs.declared.call.CreateHow.{CreateHow}
use Rattle.sl_types.specs.declared.call.CreateHow.TheVariants as how
use Rattle.sl_types.specs.declared.call.Device.{Device}
use Rattle.sl_types.specs.declared.call.NodeData.{NodeData}
use Rattle.sl_types.specs.declared.call.NodeData.TheVariants as node
use Rattle.sl_types.specs.declared.call.Call.{Call}
use Rattle.sl_types.specs.declared.call.Call.TheVariants.{Null, Getattr, Setattr, Lookup, Access, Readlink, Read, Write, Create, Mkdir, Symlink, Mknod, Remove, Rmdir, Rename, Link, Readdir, Readdirplus, Fsstat, Fsinfo, Pathconf, Commit}
use Rattle.sl_items.specs.Spelling.{IsFh, IsBytes, IsTime, IsSattr, IsStable, stable_number, time_text, sattr_text, FitsU32, FitsU64, FitsTime, FitsSattr, FitsFh, FitsBytes}

-- ---- parts of arguments

-- diropargs3 (section 2.5): a directory and a name in it
abbrev pub IsDirOp : List ℕ → List ℕ → List ℕ → Type 0
IsDirOp dir name = IsFh dir ⨾ IsBytes name

-- createmode3 (section 3.3.8): UNCHECKED, GUARDED, EXCLUSIVE
abbrev pub create_mode : CreateHow → ℕ
create_mode (how.Unchecked obj_attributes) = 0
create_mode (how.Guarded obj_attributes) = 1
create_mode (how.Exclusive verf) = 2

-- createhow3 (section 3.3.8)
abbrev pub IsCreateArm : CreateHow → List ℕ → Type 0
IsCreateArm (how.Unchecked obj_attributes) = IsSattr obj_attributes
IsCreateArm (how.Guarded obj_attributes) = IsSattr obj_attributes
IsCreateArm (how.Exclusive verf) = IsU64 verf

abbrev pub IsCreateHow : CreateHow → List ℕ → Type 0
IsCreateHow = IsUnion create_mode IsCreateArm

-- devicedata3 (section 3.3.11)
abbrev pub IsDevice : Device → List ℕ → Type 0
IsDevice d = IsSattr d.attributes ⨾ IsU32 d.major ⨾ IsU32 d.minor

-- the number of the kind that MKNOD is asked for (section 2.5, ftype3)
abbrev pub node_kind : NodeData → ℕ
node_kind node.Reg = 1
node_kind node.Dir = 2
node_kind (node.Blk device) = 3
node_kind (node.Chr device) = 4
node_kind node.Lnk = 5
node_kind (node.Sock pipe_attributes) = 6
node_kind (node.Fifo pipe_attributes) = 7

-- mknoddata3 (section 3.3.11)
abbrev pub IsNodeArm : NodeData → List ℕ → Type 0
IsNodeArm node.Reg = IsVoid
IsNodeArm node.Dir = IsVoid
IsNodeArm (node.Blk device) = IsDevice device
IsNodeArm (node.Chr device) = IsDevice device
IsNodeArm node.Lnk = IsVoid
IsNodeArm (node.Sock pipe_attributes) = IsSattr pipe_attributes
IsNodeArm (node.Fifo pipe_attributes) = IsSattr pipe_attributes

abbrev pub IsNodeData : NodeData → List ℕ → Type 0
IsNodeData = IsUnion node_kind IsNodeArm

-- ---- the grammar: procedure n is that of section 3.3.n

abbrev pub procedure_of : Call → ℕ
procedure_of Null = 0
procedure_of (Getattr object) = 1
procedure_of (Setattr object new_attributes guard) = 2
procedure_of (Lookup dir name) = 3
procedure_of (Access object access) = 4
procedure_of (Readlink symlink) = 5
procedure_of (Read file offset count) = 6
procedure_of (Write file offset count stable_how bytes) = 7
procedure_of (Create dir name how) = 8
procedure_of (Mkdir dir name attributes) = 9
procedure_of (Symlink dir name symlink_attributes symlink_data) = 10
procedure_of (Mknod dir name what) = 11
procedure_of (Remove dir name) = 12
procedure_of (Rmdir dir name) = 13
procedure_of (Rename from_dir from_name to_dir to_name) = 14
procedure_of (Link file link_dir link_name) = 15
procedure_of (Readdir dir cookie cookieverf count) = 16
procedure_of (Readdirplus dir cookie cookieverf dircount maxcount) = 17
procedure_of (Fsstat fsroot) = 18
procedure_of (Fsinfo fsroot) = 19
procedure_of (Pathconf object) = 20
procedure_of (Commit file offset count) = 21

-- These bytes spell the call's arguments.
abbrev pub IsArgs : Call → List ℕ → Type 0
-- 3.3.0
IsArgs Null = IsVoid
-- 3.3.1, GETATTR3args
IsArgs (Getattr object) = IsFh object
-- 3.3.2, SETATTR3args; the guard is a sattrguard3
IsArgs (Setattr object new_attributes guard) = IsFh object ⨾ IsSattr new_attributes ⨾ IsOptional IsTime guard
-- 3.3.3, LOOKUP3args
IsArgs (Lookup dir name) = IsDirOp dir name
-- 3.3.4, ACCESS3args
IsArgs (Access object access) = IsFh object ⨾ IsU32 access
-- 3.3.5, READLINK3args
IsArgs (Readlink symlink) = IsFh symlink
-- 3.3.6, READ3args
IsArgs (Read file offset count) = IsFh file ⨾ IsU64 offset ⨾ IsU32 count
-- 3.3.7, WRITE3args
IsArgs (Write file offset count stable_how bytes) = IsFh file ⨾ IsU64 offset ⨾ IsU32 count ⨾ IsStable stable_how ⨾ IsBytes bytes
-- 3.3.8, CREATE3args
IsArgs (Create dir name how) = IsDirOp dir name ⨾ IsCreateHow how
-- 3.3.9, MKDIR3args
IsArgs (Mkdir dir name attributes) = IsDirOp dir name ⨾ IsSattr attributes
-- 3.3.10, SYMLINK3args
IsArgs (Symlink dir name symlink_attributes symlink_data) = IsDirOp dir name ⨾ IsSattr symlink_attributes ⨾ IsBytes symlink_data
-- 3.3.11, MKNOD3args
IsArgs (Mknod dir name what) = IsDirOp dir name ⨾ IsNodeData what
-- 3.3.12, REMOVE3args
IsArgs (Remove dir name) = IsDirOp dir name
-- 3.3.13, RMDIR3args
IsArgs (Rmdir dir name) = IsDirOp dir name
-- 3.3.14, RENAME3args
IsArgs (Rename from_dir from_name to_dir to_name) = IsDirOp from_dir from_name ⨾ IsDirOp to_dir to_name
-- 3.3.15, LINK3args
IsArgs (Link file link_dir link_name) = IsFh file ⨾ IsDirOp link_dir link_name
-- 3.3.16, READDIR3args
IsArgs (Readdir dir cookie cookieverf count) = IsFh dir ⨾ IsU64 cookie ⨾ IsU64 cookieverf ⨾ IsU32 count
-- 3.3.17, READDIRPLUS3args
IsArgs (Readdirplus dir cookie cookieverf dircount maxcount) = IsFh dir ⨾ IsU64 cookie ⨾ IsU64 cookieverf ⨾ IsU32 dircount ⨾ IsU32 maxcount
-- 3.3.18, FSSTAT3args
IsArgs (Fsstat fsroot) = IsFh fsroot
-- 3.3.19, FSINFO3args
IsArgs (Fsinfo fsroot) = IsFh fsroot
-- 3.3.20, PATHCONF3args
IsArgs (Pathconf object) = IsFh object
-- 3.3.21, COMMIT3args
IsArgs (Commit file offset count) = IsFh file ⨾ IsU64 offset ⨾ IsU32 count

-- The bytes begin with the arguments of a call of this procedure; anything may follow.
pub record BeginsWithArgs (procedure : ℕ) (call : Call) (bytes : List ℕ) : Type 0 where
  pub number : procedure_of call ≡ procedure
  pub text : List ℕ
  pub rest : List ℕ
  pub args : IsArgs call text
  pub whole : bytes ≡ text ++ rest

-- ---- canonical texts, whose padding is zero

unfoldable pub dir_op_text : List ℕ → List ℕ → List ℕ
dir_op_text dir name = opaque_text dir ++ opaque_text name

unfoldable pub create_how_text : CreateHow → List ℕ
create_how_text (how.Unchecked obj_attributes) = u32_text 0 ++ sattr_text obj_attributes
create_how_text (how.Guarded obj_attributes) = u32_text 1 ++ sattr_text obj_attributes
create_how_text (how.Exclusive verf) = u32_text 2 ++ u64_text verf

unfoldable pub device_text : Device → List ℕ
device_text d = sattr_text d.attributes ++ (u32_text d.major ++ u32_text d.minor)

unfoldable pub node_data_text : NodeData → List ℕ
node_data_text node.Reg = u32_text 1
node_data_text node.Dir = u32_text 2
node_data_text (node.Blk device) = u32_text 3 ++ device_text device
node_data_text (node.Chr device) = u32_text 4 ++ device_text device
node_data_text node.Lnk = u32_text 5
node_data_text (node.Sock pipe_attributes) = u32_text 6 ++ sattr_text pipe_attributes
node_data_text (node.Fifo pipe_attributes) = u32_text 7 ++ sattr_text pipe_attributes

unfoldable pub args_text : Call → List ℕ
args_text Null = []
args_text (Getattr object) = opaque_text object
args_text (Setattr object new_attributes guard) = opaque_text object ++ (sattr_text new_attributes ++ optional_text time_text guard)
args_text (Lookup dir name) = dir_op_text dir name
args_text (Access object access) = opaque_text object ++ u32_text access
args_text (Readlink symlink) = opaque_text symlink
args_text (Read file offset count) = opaque_text file ++ (u64_text offset ++ u32_text count)
args_text (Write file offset count stable_how bytes) = opaque_text file ++ (u64_text offset ++ (u32_text count ++ (u32_text (stable_number stable_how) ++ opaque_text bytes)))
args_text (Create dir name how) = dir_op_text dir name ++ create_how_text how
args_text (Mkdir dir name attributes) = dir_op_text dir name ++ sattr_text attributes
args_text (Symlink dir name symlink_attributes symlink_data) = dir_op_text dir name ++ (sattr_text symlink_attributes ++ opaque_text symlink_data)
args_text (Mknod dir name what) = dir_op_text dir name ++ node_data_text what
args_text (Remove dir name) = dir_op_text dir name
args_text (Rmdir dir name) = dir_op_text dir name
args_text (Rename from_dir from_name to_dir to_name) = dir_op_text from_dir from_name ++ dir_op_text to_dir to_name
args_text (Link file link_dir link_name) = opaque_text file ++ dir_op_text link_dir link_name
args_text (Readdir dir cookie cookieverf count) = opaque_text dir ++ (u64_text cookie ++ (u64_text cookieverf ++ u32_text count))
args_text (Readdirplus dir cookie cookieverf dircount maxcount) = opaque_text dir ++ (u64_text cookie ++ (u64_text cookieverf ++ (u32_text dircount ++ u32_text maxcount)))
args_text (Fsstat fsroot) = opaque_text fsroot
args_text (Fsinfo fsroot) = opaque_text fsroot
args_text (Pathconf object) = opaque_text object
args_text (Commit file offset count) = opaque_text file ++ (u64_text offset ++ u32_text count)

-- ---- calls of the grammar: lengths and numbers in range

abbrev pub FitsDirOp : List ℕ → List ℕ → Type 0
FitsDirOp dir name = FitsFh dir × FitsBytes name

-- Every length is in range: handles have at most 64 bytes, all else fewer than 2 ^ 32.
abbrev pub FitsLengths : Call → Type 0
FitsLengths Null = Unit {0}
FitsLengths (Getattr object) = FitsFh object
FitsLengths (Setattr object new_attributes guard) = FitsFh object
FitsLengths (Lookup dir name) = FitsDirOp dir name
FitsLengths (Access object access) = FitsFh object
FitsLengths (Readlink symlink) = FitsFh symlink
FitsLengths (Read file offset count) = FitsFh file
FitsLengths (Write file offset count stable_how bytes) = FitsFh file × FitsBytes bytes
FitsLengths (Create dir name how) = FitsDirOp dir name
FitsLengths (Mkdir dir name attributes) = FitsDirOp dir name
FitsLengths (Symlink dir name symlink_attributes symlink_data) = FitsDirOp dir name × FitsBytes symlink_data
FitsLengths (Mknod dir name what) = FitsDirOp dir name
FitsLengths (Remove dir name) = FitsDirOp dir name
FitsLengths (Rmdir dir name) = FitsDirOp dir name
FitsLengths (Rename from_dir from_name to_dir to_name) = FitsDirOp from_dir from_name × FitsDirOp to_dir to_name
FitsLengths (Link file link_dir link_name) = FitsFh file × FitsDirOp link_dir link_name
FitsLengths (Readdir dir cookie cookieverf count) = FitsFh dir
FitsLengths (Readdirplus dir cookie cookieverf dircount maxcount) = FitsFh dir
FitsLengths (Fsstat fsroot) = FitsFh fsroot
FitsLengths (Fsinfo fsroot) = FitsFh fsroot
FitsLengths (Pathconf object) = FitsFh object
FitsLengths (Commit file offset count) = FitsFh file

abbrev pub FitsCreateHow : CreateHow → Type 0
FitsCreateHow (how.Unchecked obj_attributes) = FitsSattr obj_attributes
FitsCreateHow (how.Guarded obj_attributes) = FitsSattr obj_attributes
FitsCreateHow (how.Exclusive verf) = FitsU64 verf

pub record FitsDevice (d : Device) : Type 0 where
  pub attributes : FitsSattr d.attributes
  pub major : FitsU32 d.major
  pub minor : FitsU32 d.minor

abbrev pub FitsNodeData : NodeData → Type 0
FitsNodeData node.Reg = Unit {0}
FitsNodeData node.Dir = Unit {0}
FitsNodeData (node.Blk device) = FitsDevice device
FitsNodeData (node.Chr device) = FitsDevice device
FitsNodeData node.Lnk = Unit {0}
FitsNodeData (node.Sock pipe_attributes) = FitsSattr pipe_attributes
FitsNodeData (node.Fifo pipe_attributes) = FitsSattr pipe_attributes

-- Every number is in the range of its type, as each number of a program is.
abbrev pub FitsNumbers : Call → Type 0
FitsNumbers Null = Unit {0}
FitsNumbers (Getattr object) = Unit {0}
FitsNumbers (Setattr object new_attributes guard) = FitsSattr new_attributes × IfSome guard FitsTime
FitsNumbers (Lookup dir name) = Unit {0}
FitsNumbers (Access object access) = FitsU32 access
FitsNumbers (Readlink symlink) = Unit {0}
FitsNumbers (Read file offset count) = FitsU64 offset × FitsU32 count
FitsNumbers (Write file offset count stable_how bytes) = FitsU64 offset × FitsU32 count
FitsNumbers (Create dir name how) = FitsCreateHow how
FitsNumbers (Mkdir dir name attributes) = FitsSattr attributes
FitsNumbers (Symlink dir name symlink_attributes symlink_data) = FitsSattr symlink_attributes
FitsNumbers (Mknod dir name what) = FitsNodeData what
FitsNumbers (Remove dir name) = Unit {0}
FitsNumbers (Rmdir dir name) = Unit {0}
FitsNumbers (Rename from_dir from_name to_dir to_name) = Unit {0}
FitsNumbers (Link file link_dir link_name) = Unit {0}
FitsNumbers (Readdir dir cookie cookieverf count) = FitsU64 cookie × FitsU64 cookieverf × FitsU32 count
FitsNumbers (Readdirplus dir cookie cookieverf dircount maxcount) = FitsU64 cookie × FitsU64 cookieverf × FitsU32 dircount × FitsU32 maxcount
FitsNumbers (Fsstat fsroot) = Unit {0}
FitsNumbers (Fsinfo fsroot) = Unit {0}
FitsNumbers (Pathconf object) = Unit {0}
FitsNumbers (Commit file offset count) = FitsU64 offset × FitsU32 count
