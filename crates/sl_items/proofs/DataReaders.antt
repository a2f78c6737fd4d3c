-- Each reader of a basic data type reads exactly what its relation spells.
use Rattle.std.proofs.Common.{◌≡◌, ℕ, zero, suc, ◌^◌, ◌<◌, List, [], ◌++◌, Some, Bool, true, false, refl, sym, ap, arith}
use Rattle.sl_defs.specs.Items.{AreBytes}
use Rattle.sl_defs.specs.Parts.{IsEnum}
use Rattle.sl_defs.specs.declared.setup.Time.{Time}
use Rattle.sl_defs.proofs.Readers.{IsReader, Took, same_some, made, takes_nothing, u32_reader, u64_reader, opaque_reader, both, mapped_takes, mapped_found, structure, enumeration, union, optional}
use Rattle.sl_types.specs.declared.attributes.SetTime.{SetTime}
use Rattle.sl_types.specs.declared.attributes.SetTime.TheVariants.{Keep, Server, Client}
use Rattle.sl_types.specs.declared.kind.Kind.{Kind}
use Rattle.sl_types.specs.declared.kind.Kind.TheVariants.{Reg, Dir, Blk, Chr, Lnk, Sock, Fifo}
use Rattle.sl_types.specs.declared.call.Stable.{Stable}
use Rattle.sl_types.specs.declared.call.Stable.TheVariants.{Unstable, DataSync, FileSync}
use Rattle.sl_types.specs.Handles.{kind_of}
use Rattle.sl_types.specs.Numbers.{kind_number}
use Rattle.sl_xdr.specs.Reading.{flag_at, flag_of, number_of_flag}
use Rattle.sl_items.specs.Spelling.{IsFh, IsBytes, IsKind, stable_number, IsStable, IsTime, time_how, IsGivenTime, IsSetTime, IsSattr, IsFattr}
use Rattle.sl_items.specs.Reading.{fh_at, bytes_at, kind_at, stable_of, stable_at, time_at, given_time_at, set_time_at, sattr_at, fattr_front_at, fattr_place_at, fattr_times_at, fattr_made, fattr_at}

-- ---- handles and other bytes

pub fh_reader : IsReader fh_at IsFh
unfolding fh_at
fh_reader = opaque_reader 64

-- a number of four bytes bounds every length
pub bytes_reader : IsReader bytes_at IsBytes
unfolding bytes_at
bytes_reader = record {
  takes = λ bytes x fits e. let t = (opaque_reader 4294967295).takes bytes x fits e in (t.0, t.1.0, t.2);
  found = λ body text rest is. (opaque_reader 4294967295).found body text rest (is, omega (arith, is.short));
}

-- ---- enumerations

kind_there : (n : ℕ) (k : Kind) → kind_of n ≡ Some k → kind_number k ≡ n
kind_there zero k e = absurd cc
kind_there (suc zero) k e = ap kind_number (sym (same_some Reg k e))
kind_there (suc (suc zero)) k e = ap kind_number (sym (same_some Dir k e))
kind_there (suc (suc (suc zero))) k e = ap kind_number (sym (same_some Blk k e))
kind_there (suc (suc (suc (suc zero)))) k e = ap kind_number (sym (same_some Chr k e))
kind_there (suc (suc (suc (suc (suc zero))))) k e = ap kind_number (sym (same_some Lnk k e))
kind_there (suc (suc (suc (suc (suc (suc zero)))))) k e = ap kind_number (sym (same_some Sock k e))
kind_there (suc (suc (suc (suc (suc (suc (suc zero))))))) k e = ap kind_number (sym (same_some Fifo k e))
kind_there (suc (suc (suc (suc (suc (suc (suc (suc n)))))))) k e = absurd cc

kind_back : (k : Kind) → kind_of (kind_number k) ≡ Some k
kind_back Reg = refl
kind_back Dir = refl
kind_back Blk = refl
kind_back Chr = refl
kind_back Lnk = refl
kind_back Sock = refl
kind_back Fifo = refl

kind_fits : (k : Kind) → kind_number k < 2 ^ 32
kind_fits Reg = omega arith
kind_fits Dir = omega arith
kind_fits Blk = omega arith
kind_fits Chr = omega arith
kind_fits Lnk = omega arith
kind_fits Sock = omega arith
kind_fits Fifo = omega arith

pub kind_reader : IsReader kind_at IsKind
unfolding kind_at
kind_reader = enumeration (record { there = kind_there; back = kind_back; fits = kind_fits })

stable_there : (n : ℕ) (s : Stable) → stable_of n ≡ Some s → stable_number s ≡ n
stable_there zero s e = ap stable_number (sym (same_some Unstable s e))
stable_there (suc zero) s e = ap stable_number (sym (same_some DataSync s e))
stable_there (suc (suc zero)) s e = ap stable_number (sym (same_some FileSync s e))
stable_there (suc (suc (suc n))) s e = absurd cc

stable_back : (s : Stable) → stable_of (stable_number s) ≡ Some s
stable_back Unstable = refl
stable_back DataSync = refl
stable_back FileSync = refl

stable_fits : (s : Stable) → stable_number s < 2 ^ 32
stable_fits Unstable = omega arith
stable_fits DataSync = omega arith
stable_fits FileSync = omega arith

pub stable_reader : IsReader stable_at IsStable
unfolding stable_at
stable_reader = enumeration (record { there = stable_there; back = stable_back; fits = stable_fits })

-- ---- times

pub time_reader : IsReader time_at IsTime
unfolding time_at
time_reader = structure (both u32_reader u32_reader) (λ x. record { sec = x.0; nsec = x.1 }) (λ (t : Time). (t.sec, t.nsec)) (λ t. refl) (λ x. refl)

given_time_takes : (n : ℕ) (bytes : List ℕ) (x : SetTime × List ℕ) → AreBytes bytes → given_time_at n bytes ≡ Some x → Took (λ t text. IsGivenTime t text × (time_how t ≡ n)) bytes x
unfolding given_time_at
given_time_takes zero bytes x fits e = made (λ t text. IsGivenTime t text × (time_how t ≡ 0)) bytes Keep bytes [] x e (refl, refl) (takes_nothing bytes fits)
given_time_takes (suc zero) bytes x fits e = made (λ t text. IsGivenTime t text × (time_how t ≡ 1)) bytes Server bytes [] x e (refl, refl) (takes_nothing bytes fits)
given_time_takes (suc (suc zero)) bytes x fits e = mapped_takes time_reader (λ t text. IsGivenTime t text × (time_how t ≡ 2)) Client (λ t text is. (is, refl)) bytes x fits e
given_time_takes (suc (suc (suc n))) bytes x fits e = absurd cc

given_time_found : (t : SetTime) (text rest : List ℕ) → IsGivenTime t text → given_time_at (time_how t) (text ++ rest) ≡ Some (t, rest)
unfolding given_time_at
given_time_found Keep text rest is = rw is refl
given_time_found Server text rest is = rw is refl
given_time_found (Client t) text rest is = mapped_found time_reader Client t text rest is

time_how_fits : (t : SetTime) → time_how t < 2 ^ 32
time_how_fits Keep = omega arith
time_how_fits Server = omega arith
time_how_fits (Client t) = omega arith

pub set_time_reader : IsReader set_time_at IsSetTime
unfolding set_time_at
set_time_reader = union (record { takes = given_time_takes; found = given_time_found; number_fits = time_how_fits })

-- ---- attributes

pub sattr_reader : IsReader sattr_at IsSattr
unfolding sattr_at
sattr_reader =
    structure
    (both (optional u32_reader) (both (optional u32_reader) (both (optional u32_reader) (both (optional u64_reader) (both set_time_reader set_time_reader)))))
    _
    (λ s. (s.mode, (s.uid, (s.gid, (s.size, (s.atime, s.mtime))))))
    (λ s. refl)
    (λ x. refl)

pub fattr_reader : IsReader fattr_at IsFattr
unfolding fattr_at fattr_front_at fattr_place_at fattr_times_at
fattr_reader =
    structure
    (both
    (both kind_reader (both u32_reader (both u32_reader (both u32_reader (both u32_reader (both u64_reader u64_reader))))))
    (both
    (both u32_reader (both u32_reader (both u64_reader u64_reader)))
    (both time_reader (both time_reader time_reader))))
    fattr_made
    (λ a. (
      (a.kind, (a.mode, (a.nlink, (a.uid, (a.gid, (a.size, a.used)))))),
      ((a.major, (a.minor, (a.fsid, a.fileid))), (a.atime, (a.mtime, a.ctime))),
    ))
    (λ a. refl)
    (λ x. refl)

-- ---- flags

flag_there : (n : ℕ) (b : Bool) → flag_of n ≡ Some b → number_of_flag b ≡ n
flag_there zero b e = ap number_of_flag (sym (same_some false b e))
flag_there (suc zero) b e = ap number_of_flag (sym (same_some true b e))
flag_there (suc (suc n)) b e = absurd cc

flag_back : (b : Bool) → flag_of (number_of_flag b) ≡ Some b
flag_back false = refl
flag_back true = refl

flag_fits : (b : Bool) → number_of_flag b < 2 ^ 32
flag_fits false = omega arith
flag_fits true = omega arith

pub flag_reader : IsReader flag_at (IsEnum number_of_flag)
unfolding flag_at
flag_reader = enumeration (record { there = flag_there; back = flag_back; fits = flag_fits })
