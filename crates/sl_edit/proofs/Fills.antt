-- Items written one behind the other.
use Rattle.std.proofs.Common.{◌≡◌, ℕ, ◌+◌, List, ◌++◌, length, append_assoc, arith}
use Rattle.std.proofs.lemmas.List.{length-append, take_all}
use Rattle.sl_defs.proofs.ItemLaws.{length-u32_text, length-u64_text}
use Rattle.sl_defs.specs.Items.{u32_text, u64_text}
use Rattle.sl_defs.specs.declared.setup.Time.{Time}
use Rattle.sl_types.specs.declared.attributes.Fattr.{Fattr}
use Rattle.sl_types.specs.Numbers.{kind_number}
use Rattle.sl_items.specs.Spelling.{time_text, fattr_front_text, fattr_place_text, fattr_times_text}

pub length-time_text : (t : Time) → length (time_text t) ≡ 8
unfolding time_text
length-time_text t = omega (arith, length-append (u32_text t.sec) (u32_text t.nsec), length-u32_text t.sec, length-u32_text t.nsec)

pub length-place : (a : Fattr) → length (fattr_place_text a) ≡ 24
unfolding fattr_place_text
length-place a =
    omega (
      arith,
      length-append (u32_text a.major) (u32_text a.minor ++ (u64_text a.fsid ++ u64_text a.fileid)),
      length-append (u32_text a.minor) (u64_text a.fsid ++ u64_text a.fileid),
      length-append (u64_text a.fsid) (u64_text a.fileid),
      length-u32_text a.major,
      length-u32_text a.minor,
      length-u64_text a.fsid,
      length-u64_text a.fileid,
    )

pub length-times : (a : Fattr) → length (fattr_times_text a) ≡ 24
unfolding fattr_times_text
length-times a =
    omega (
      arith,
      length-append (time_text a.atime) (time_text a.mtime ++ time_text a.ctime),
      length-append (time_text a.mtime) (time_text a.ctime),
      length-time_text a.atime,
      length-time_text a.mtime,
      length-time_text a.ctime,
    )

pub length-front : (a : Fattr) → length (fattr_front_text a) ≡ 36
unfolding fattr_front_text
length-front a =
    let r6 = u64_text a.size ++ u64_text a.used in
    let r5 = u32_text a.gid ++ r6 in
    let r4 = u32_text a.uid ++ r5 in
    let r3 = u32_text a.nlink ++ r4 in
    let r2 = u32_text a.mode ++ r3 in
    omega (
      arith,
      length-append (u32_text (kind_number a.kind)) r2,
      length-append (u32_text a.mode) r3,
      length-append (u32_text a.nlink) r4,
      length-append (u32_text a.uid) r5,
      length-append (u32_text a.gid) r6,
      length-append (u64_text a.size) (u64_text a.used),
      length-u32_text (kind_number a.kind),
      length-u32_text a.mode,
      length-u32_text a.nlink,
      length-u32_text a.uid,
      length-u32_text a.gid,
      length-u64_text a.size,
      length-u64_text a.used,
    )

pub ruleset fills = (append_assoc, length-append, take_all, length-u32_text, length-u64_text, length-time_text, length-place, length-times, length-front)
