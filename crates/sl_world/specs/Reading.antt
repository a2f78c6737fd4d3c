-- What a directory server reads of a forwarded packet.
use Rattle.std.specs.Prelude.{◌≡◌, Option, Some, None, Result, Ok, Err}
use Rattle.sl_world.specs.declared.directory.Getattr.{Getattr}
use Rattle.sl_world.specs.declared.step.StepFault.{StepFault}
use Rattle.sl_world.specs.declared.step.StepFault.TheVariants.{NotBuilt, Spent, NoMemory}
use Rattle.sl_world.specs.Serving.{Forwarded, IsNoCall, IsGetattr, IsOther}

-- it is this GETATTR
abbrev pub Asks : Getattr → Forwarded → Type 0
Asks g (IsGetattr a object) = (g.xid ≡ a.xid) × (g.object ≡ object)
Asks g other = ⊥

-- what was read is what was forwarded
abbrev pub Reads : Forwarded → Result (Option Getattr) StepFault → Type 0
Reads what (Ok (Some g)) = Asks g what
Reads what (Ok None) = what ≡ IsNoCall
Reads what (Err NotBuilt) = what ≡ IsOther
Reads what (Err NoMemory) = Unit {0}
Reads what (Err Spent) = ⊥
