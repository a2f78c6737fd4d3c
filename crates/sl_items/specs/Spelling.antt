-- Which texts spell the basic data types (RFC 1813, section 2.5, but where another is named), and the canonical text of each.
use Rattle.std.specs.Prelude.{ℕ, ◌^◌, ◌<◌, ◌≤◌, List, ◌++◌, length, IfSome}
use Rattle.sl_defs.specs.Items.{u32_text, u64_text, IsOpaque}
use Rattle.sl_defs.specs.Parts.{◌⨾◌, IsVoid, IsU32, IsU64, IsOpaqueOf, IsEnum, IsUnion, IsOptional, optional_text}
use Rattle.sl_defs.specs.declared.setup.Time.{Time}
use Rattle.sl_types.specs.declared.attributes.SetTime.{SetTime}
use Rattle.sl_types.specs.declared.attributes.SetTime.TheVariants.{Keep, Server, Client}
use Rattle.sl_types.specs.declared.attributes.Sattr.{Sattr}
use Rattle.sl_types.specs.declared.attributes.Fattr.{Fattr}
use Rattle.sl_types.specs.declared.kind.Kind.{Kind}
use Rattle.sl_types.specs.declared.call.Stable.{Stable}
use Rattle.sl_types.specs.declared.call.Stable.TheVariants.{Unstable, DataSync, FileSync}
use Rattle.sl_types.specs.Numbers.{kind_number}

-- nfs_fh3: a file handle of at most 64 bytes
abbrev pub IsFh : List ℕ → List ℕ → Type 0
IsFh = IsOpaqueOf 64

-- filename3, nfspath3 and other bytes of any length
abbrev pub IsBytes : List ℕ → List ℕ → Type 0
IsBytes body text = IsOpaque text body

-- ftype3
abbrev pub IsKind : Kind → List ℕ → Type 0
IsKind = IsEnum kind_number

-- stable_how (section 3.3.7)
abbrev pub stable_number : Stable → ℕ
stable_number Unstable = 0
stable_number DataSync = 1
stable_number FileSync = 2

abbrev pub IsStable : Stable → List ℕ → Type 0
IsStable = IsEnum stable_number

-- nfstime3
abbrev pub IsTime : Time → List ℕ → Type 0
IsTime t = IsU32 t.sec ⨾ IsU32 t.nsec

-- time_how: DONT_CHANGE, SET_TO_SERVER_TIME, SET_TO_CLIENT_TIME
abbrev pub time_how : SetTime → ℕ
time_how Keep = 0
time_how Server = 1
time_how (Client t) = 2

abbrev pub IsGivenTime : SetTime → List ℕ → Type 0
IsGivenTime Keep = IsVoid
IsGivenTime Server = IsVoid
IsGivenTime (Client t) = IsTime t

-- set_atime and set_mtime
abbrev pub IsSetTime : SetTime → List ℕ → Type 0
IsSetTime = IsUnion time_how IsGivenTime

-- sattr3
abbrev pub IsSattr : Sattr → List ℕ → Type 0
IsSattr s = IsOptional IsU32 s.mode ⨾ IsOptional IsU32 s.uid ⨾ IsOptional IsU32 s.gid ⨾ IsOptional IsU64 s.size ⨾ IsSetTime s.atime ⨾ IsSetTime s.mtime

-- fattr3: what the object is, where it lies, and its times
abbrev pub IsFattrFront : Fattr → List ℕ → Type 0
IsFattrFront a = IsKind a.kind ⨾ IsU32 a.mode ⨾ IsU32 a.nlink ⨾ IsU32 a.uid ⨾ IsU32 a.gid ⨾ IsU64 a.size ⨾ IsU64 a.used

abbrev pub IsFattrPlace : Fattr → List ℕ → Type 0
IsFattrPlace a = IsU32 a.major ⨾ IsU32 a.minor ⨾ IsU64 a.fsid ⨾ IsU64 a.fileid

abbrev pub IsFattrTimes : Fattr → List ℕ → Type 0
IsFattrTimes a = IsTime a.atime ⨾ IsTime a.mtime ⨾ IsTime a.ctime

abbrev pub IsFattr : Fattr → List ℕ → Type 0
IsFattr a = IsFattrFront a ⨾ IsFattrPlace a ⨾ IsFattrTimes a

-- ---- canonical texts

unfoldable pub time_text : Time → List ℕ
time_text t = u32_text t.sec ++ u32_text t.nsec

unfoldable pub set_time_text : SetTime → List ℕ
set_time_text Keep = u32_text 0
set_time_text Server = u32_text 1
set_time_text (Client t) = u32_text 2 ++ time_text t

unfoldable pub sattr_text : Sattr → List ℕ
sattr_text s = optional_text u32_text s.mode ++ (optional_text u32_text s.uid ++ (optional_text u32_text s.gid ++ (optional_text u64_text s.size ++ (set_time_text s.atime ++ set_time_text s.mtime))))

unfoldable pub fattr_front_text : Fattr → List ℕ
fattr_front_text a = u32_text (kind_number a.kind) ++ (u32_text a.mode ++ (u32_text a.nlink ++ (u32_text a.uid ++ (u32_text a.gid ++ (u64_text a.size ++ u64_text a.used)))))

unfoldable pub fattr_place_text : Fattr → List ℕ
fattr_place_text a = u32_text a.major ++ (u32_text a.minor ++ (u64_text a.fsid ++ u64_text a.fileid))

unfoldable pub fattr_times_text : Fattr → List ℕ
fattr_times_text a = time_text a.atime ++ (time_text a.mtime ++ time_text a.ctime)

unfoldable pub fattr_text : Fattr → List ℕ
fattr_text a = fattr_front_text a ++ (fattr_place_text a ++ fattr_times_text a)

-- ---- numbers in range, and lengths

abbrev pub FitsU32 : ℕ → Type 0
FitsU32 n = n < 2 ^ 32

abbrev pub FitsU64 : ℕ → Type 0
FitsU64 n = n < 2 ^ 64

pub record FitsTime (t : Time) : Type 0 where
  pub sec : t.sec < 2 ^ 32
  pub nsec : t.nsec < 2 ^ 32

abbrev pub FitsSetTime : SetTime → Type 0
FitsSetTime Keep = Unit {0}
FitsSetTime Server = Unit {0}
FitsSetTime (Client t) = FitsTime t

pub record FitsSattr (s : Sattr) : Type 0 where
  pub mode : IfSome s.mode FitsU32
  pub uid : IfSome s.uid FitsU32
  pub gid : IfSome s.gid FitsU32
  pub size : IfSome s.size FitsU64
  pub atime : FitsSetTime s.atime
  pub mtime : FitsSetTime s.mtime

pub record FitsFattr (a : Fattr) : Type 0 where
  pub mode : a.mode < 2 ^ 32
  pub nlink : a.nlink < 2 ^ 32
  pub uid : a.uid < 2 ^ 32
  pub gid : a.gid < 2 ^ 32
  pub size : a.size < 2 ^ 64
  pub used : a.used < 2 ^ 64
  pub major : a.major < 2 ^ 32
  pub minor : a.minor < 2 ^ 32
  pub fsid : a.fsid < 2 ^ 64
  pub fileid : a.fileid < 2 ^ 64
  pub atime : FitsTime a.atime
  pub mtime : FitsTime a.mtime
  pub ctime : FitsTime a.ctime

-- a handle of at most 64 bytes
abbrev pub FitsFh : List ℕ → Type 0
FitsFh fh = length fh ≤ 64

-- bytes whose number is a number of four bytes
abbrev pub FitsBytes : List ℕ → Type 0
FitsBytes bytes = length bytes < 2 ^ 32
