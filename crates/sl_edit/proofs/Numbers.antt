-- The number of how stable a write is to be fits four bytes.
use Rattle.std.proofs.Common.{◌^◌, ◌<◌, arith}
use Rattle.sl_types.specs.declared.call.Stable.{Stable}
use Rattle.sl_types.specs.declared.call.Stable.TheVariants.{Unstable, DataSync, FileSync}
use Rattle.sl_items.specs.Spelling.{stable_number}

pub stable_fits : (s : Stable) → stable_number s < 2 ^ 32
stable_fits Unstable = omega arith
stable_fits DataSync = omega arith
stable_fits FileSync = omega arith
