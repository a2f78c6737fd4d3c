-- Reading the basic data types from the front of some bytes.
use Rattle.std.specs.Prelude.{◌≡◌, ℕ, zero, suc, List, Option, Some, None, Result, Ok, Err}
use Rattle.sl_defs.specs.Items.{u32_at, u64_at, opaque_at}
use Rattle.sl_defs.specs.Parts.{void_at, mapped, ◌⊗◌, enum_at, union_at, optional_at}
use Rattle.sl_defs.specs.declared.setup.Time.{Time}
use Rattle.sl_types.specs.declared.attributes.SetTime.{SetTime}
use Rattle.sl_types.specs.declared.attributes.SetTime.TheVariants.{Keep, Server, Client}
use Rattle.sl_types.specs.declared.attributes.Sattr.{Sattr}
use Rattle.sl_types.specs.declared.attributes.Fattr.{Fattr}
use Rattle.sl_types.specs.declared.kind.Kind.{Kind}
use Rattle.sl_types.specs.declared.call.Stable.{Stable}
use Rattle.sl_types.specs.declared.call.Stable.TheVariants.{Unstable, DataSync, FileSync}
use Rattle.sl_types.specs.declared.fault.ArgsFault.{ArgsFault}
use Rattle.sl_types.specs.declared.fault.ArgsFault.TheVariants as fault
use Rattle.sl_types.specs.Handles.{kind_of}

unfoldable pub fh_at : List ℕ → Option (List ℕ × List ℕ)
fh_at = opaque_at 64

unfoldable pub bytes_at : List ℕ → Option (List ℕ × List ℕ)
bytes_at = opaque_at 4294967295

unfoldable pub kind_at : List ℕ → Option (Kind × List ℕ)
kind_at = enum_at kind_of

abbrev pub stable_of : ℕ → Option Stable
stable_of zero = Some Unstable
stable_of (suc zero) = Some DataSync
stable_of (suc (suc zero)) = Some FileSync
stable_of (suc (suc (suc n))) = None

unfoldable pub stable_at : List ℕ → Option (Stable × List ℕ)
stable_at = enum_at stable_of

unfoldable pub time_at : List ℕ → Option (Time × List ℕ)
time_at = mapped (λ x. record { sec = x.0; nsec = x.1 }) (u32_at ⊗ u32_at)

unfoldable pub given_time_at : ℕ → List ℕ → Option (SetTime × List ℕ)
given_time_at zero = void_at Keep
given_time_at (suc zero) = void_at Server
given_time_at (suc (suc zero)) = mapped Client time_at
given_time_at (suc (suc (suc n))) = λ _. None

unfoldable pub set_time_at : List ℕ → Option (SetTime × List ℕ)
set_time_at = union_at given_time_at

unfoldable pub sattr_at : List ℕ → Option (Sattr × List ℕ)
sattr_at =
    mapped
    (λ x. record { mode = x.0; uid = x.1.0; gid = x.1.1.0; size = x.1.1.1.0; atime = x.1.1.1.1.0; mtime = x.1.1.1.1.1 })
    (optional_at u32_at ⊗ optional_at u32_at ⊗ optional_at u32_at ⊗ optional_at u64_at ⊗ set_time_at ⊗ set_time_at)

-- the fields of fattr3: up to `used`, up to `fileid`, and the times
abbrev pub FattrFront : Type 0
FattrFront = Kind × (ℕ × (ℕ × (ℕ × (ℕ × (ℕ × ℕ)))))

abbrev pub FattrPlace : Type 0
FattrPlace = ℕ × (ℕ × (ℕ × ℕ))

abbrev pub FattrTimes : Type 0
FattrTimes = Time × (Time × Time)

unfoldable pub fattr_front_at : List ℕ → Option (FattrFront × List ℕ)
fattr_front_at = kind_at ⊗ u32_at ⊗ u32_at ⊗ u32_at ⊗ u32_at ⊗ u64_at ⊗ u64_at

unfoldable pub fattr_place_at : List ℕ → Option (FattrPlace × List ℕ)
fattr_place_at = u32_at ⊗ u32_at ⊗ u64_at ⊗ u64_at

unfoldable pub fattr_times_at : List ℕ → Option (FattrTimes × List ℕ)
fattr_times_at = time_at ⊗ time_at ⊗ time_at

abbrev pub fattr_made : FattrFront × (FattrPlace × FattrTimes) → Fattr
fattr_made x = record {
  kind = x.0.0;
  mode = x.0.1.0;
  nlink = x.0.1.1.0;
  uid = x.0.1.1.1.0;
  gid = x.0.1.1.1.1.0;
  size = x.0.1.1.1.1.1.0;
  used = x.0.1.1.1.1.1.1;
  major = x.1.0.0;
  minor = x.1.0.1.0;
  fsid = x.1.0.1.1.0;
  fileid = x.1.0.1.1.1;
  atime = x.1.1.0;
  mtime = x.1.1.1.0;
  ctime = x.1.1.1.1;
}

unfoldable pub fattr_at : List ℕ → Option (Fattr × List ℕ)
fattr_at = mapped fattr_made (fattr_front_at ⊗ fattr_place_at ⊗ fattr_times_at)

-- ---- answers of readers that may run out of memory

-- Garbage where nothing is read; of memory nothing is said
abbrev pub Fails : {Y : Type 0} → ArgsFault → Option Y → Type 0
Fails fault.Garbage read = read ≡ None
Fails fault.NoMemory read = Unit {0}

-- What a reader answered, seen by view, is what reading from the front gives, unless memory ran out.
abbrev pub GivesArgs : {X Y : Type 0} → (X → Y) → Result X ArgsFault → Option Y → Type 0
GivesArgs view (Ok x) read = read ≡ Some (view x)
GivesArgs view (Err e) read = Fails e read
