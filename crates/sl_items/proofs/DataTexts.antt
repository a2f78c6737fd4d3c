-- The canonical text of a value in range is one that spells it.
use Rattle.std.proofs.Common.{ℕ, List, [], Option, refl, sym, append-nil, arith}
use Rattle.std.specs.Prelude.{IfSome}
use Rattle.sl_defs.specs.Items.{u32_text, u64_text, opaque_text}
use Rattle.sl_defs.specs.Parts.{IsU32, IsU64, IsOptional, optional_text}
use Rattle.sl_defs.specs.declared.setup.Time.{Time}
use Rattle.sl_defs.proofs.ItemLaws.{opaque_text_is}
use Rattle.sl_defs.proofs.Readers.{optional_spells}
use Rattle.sl_types.specs.declared.attributes.SetTime.{SetTime}
use Rattle.sl_types.specs.declared.attributes.SetTime.TheVariants.{Keep, Server, Client}
use Rattle.sl_types.specs.declared.attributes.Sattr.{Sattr}
use Rattle.sl_types.specs.declared.attributes.Fattr.{Fattr}
use Rattle.sl_items.specs.Spelling.{IsFh, IsBytes, IsTime, IsSetTime, IsSattr, IsFattr, IsFattrFront, IsFattrPlace, IsFattrTimes, time_text, set_time_text, sattr_text, fattr_text, fattr_front_text, fattr_place_text, fattr_times_text, FitsU32, FitsU64, FitsTime, FitsSetTime, FitsSattr, FitsFattr, FitsFh, FitsBytes}

pub fh_spells : (fh : List ℕ) → FitsFh fh → IsFh fh (opaque_text fh)
fh_spells fh fits = (opaque_text_is fh (omega arith), fits)

pub bytes_spells : (bytes : List ℕ) → FitsBytes bytes → IsBytes bytes (opaque_text bytes)
bytes_spells bytes fits = opaque_text_is bytes fits

u32_spells : (n : ℕ) → FitsU32 n → IsU32 n (u32_text n)
u32_spells n fits = (refl, fits)

u64_spells : (n : ℕ) → FitsU64 n → IsU64 n (u64_text n)
u64_spells n fits = (refl, fits)

pub time_spells : (t : Time) → FitsTime t → IsTime t (time_text t)
unfolding time_text
time_spells t fits = (u32_text t.sec, u32_text t.nsec, (refl, fits.sec), (refl, fits.nsec), refl)

pub set_time_spells : (t : SetTime) → FitsSetTime t → IsSetTime t (set_time_text t)
unfolding set_time_text
set_time_spells Keep fits = (u32_text 0, [], (refl, omega arith), refl, sym (append-nil (u32_text 0)))
set_time_spells Server fits = (u32_text 1, [], (refl, omega arith), refl, sym (append-nil (u32_text 1)))
set_time_spells (Client t) fits = (u32_text 2, time_text t, (refl, omega arith), time_spells t fits, refl)

pub optional_u32_spells : (o : Option ℕ) → IfSome o FitsU32 → IsOptional IsU32 o (optional_text u32_text o)
optional_u32_spells = optional_spells IsU32 u32_text FitsU32 u32_spells

pub optional_u64_spells : (o : Option ℕ) → IfSome o FitsU64 → IsOptional IsU64 o (optional_text u64_text o)
optional_u64_spells = optional_spells IsU64 u64_text FitsU64 u64_spells

pub optional_time_spells : (o : Option Time) → IfSome o FitsTime → IsOptional IsTime o (optional_text time_text o)
optional_time_spells = optional_spells IsTime time_text FitsTime time_spells

pub optional_fh_spells : (o : Option (List ℕ)) → IfSome o FitsFh → IsOptional IsFh o (optional_text opaque_text o)
optional_fh_spells = optional_spells IsFh opaque_text FitsFh fh_spells

pub sattr_spells : (s : Sattr) → FitsSattr s → IsSattr s (sattr_text s)
unfolding sattr_text
sattr_spells s fits =
    let mode = optional_u32_spells s.mode fits.mode in
    let uid = optional_u32_spells s.uid fits.uid in
    let gid = optional_u32_spells s.gid fits.gid in
    let size = optional_u64_spells s.size fits.size in
    let atime = set_time_spells s.atime fits.atime in
    let mtime = set_time_spells s.mtime fits.mtime in
    (_, _, mode, (_, _, uid, (_, _, gid, (_, _, size, (_, _, atime, mtime, refl), refl), refl), refl), refl)

fattr_front_spells : (a : Fattr) → FitsFattr a → IsFattrFront a (fattr_front_text a)
unfolding fattr_front_text
fattr_front_spells a fits = (_, _, refl, (_, _, (refl, fits.mode), (_, _, (refl, fits.nlink), (_, _, (refl, fits.uid), (_, _, (refl, fits.gid), (_, _, (refl, fits.size), (refl, fits.used), refl), refl), refl), refl), refl), refl)

fattr_place_spells : (a : Fattr) → FitsFattr a → IsFattrPlace a (fattr_place_text a)
unfolding fattr_place_text
fattr_place_spells a fits = (_, _, (refl, fits.major), (_, _, (refl, fits.minor), (_, _, (refl, fits.fsid), (refl, fits.fileid), refl), refl), refl)

fattr_times_spells : (a : Fattr) → FitsFattr a → IsFattrTimes a (fattr_times_text a)
unfolding fattr_times_text
fattr_times_spells a fits = (_, _, time_spells a.atime fits.atime, (_, _, time_spells a.mtime fits.mtime, time_spells a.ctime fits.ctime, refl), refl)

pub fattr_spells : (a : Fattr) → FitsFattr a → IsFattr a (fattr_text a)
unfolding fattr_text
fattr_spells a fits = (_, _, fattr_front_spells a fits, (_, _, fattr_place_spells a fits, fattr_times_spells a fits, refl), refl)

pub optional_fattr_spells : (o : Option Fattr) → IfSome o FitsFattr → IsOptional IsFattr o (optional_text fattr_text o)
optional_fattr_spells = optional_spells IsFattr fattr_text FitsFattr fattr_spells
