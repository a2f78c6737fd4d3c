-- The numbers of kinds and statuses in packets (RFC 1813, sections 2.5 and 2.6).
use Rattle.std.specs.Prelude.{ℕ, List, [], ◌∷◌, Option, Bool, true, false, ◌==◌, find}
use Rattle.sl_types.specs.declared.kind.Kind.{Kind}
use Rattle.sl_types.specs.declared.kind.Kind.TheVariants as kind
use Rattle.sl_types.specs.declared.kind.Status.{Status}
use Rattle.sl_types.specs.declared.kind.Status.TheVariants as status

abbrev pub kind_number : Kind → ℕ
kind_number kind.Reg = 1
kind_number kind.Dir = 2
kind_number kind.Blk = 3
kind_number kind.Chr = 4
kind_number kind.Lnk = 5
kind_number kind.Sock = 6
kind_number kind.Fifo = 7

abbrev pub status_number : Status → ℕ
status_number status.Ok = 0
status_number status.Perm = 1
status_number status.NoEnt = 2
status_number status.Acces = 13
status_number status.Exist = 17
status_number status.NotDir = 20
status_number status.IsDir = 21
status_number status.Inval = 22
status_number status.FBig = 27
status_number status.NoSpc = 28
status_number status.MLink = 31
status_number status.NameTooLong = 63
status_number status.NotEmpty = 66
status_number status.Stale = 70
status_number status.BadHandle = 10001
status_number status.NotSync = 10002
status_number status.BadCookie = 10003
status_number status.TooSmall = 10005
status_number status.BadType = 10007

-- all of them
abbrev pub statuses : List Status
statuses =
    status.Ok ∷ status.Perm ∷ status.NoEnt ∷ status.Acces ∷ status.Exist ∷ status.NotDir ∷ status.IsDir ∷ status.Inval ∷ status.FBig
    ∷ status.NoSpc ∷ status.MLink ∷ status.NameTooLong ∷ status.NotEmpty ∷ status.Stale ∷ status.BadHandle ∷ status.NotSync
    ∷ status.BadCookie ∷ status.TooSmall ∷ status.BadType ∷ []

-- the status of this number, if there is one
abbrev pub status_of : ℕ → Option Status
status_of n = find (λ s. status_number s == n) statuses

-- whether the call succeeded
abbrev pub is_ok_status : Status → Bool
is_ok_status status.Ok = true
is_ok_status other = false
