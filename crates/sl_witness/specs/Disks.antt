-- What disks with no record hold.
use Rattle.std.specs.Prelude.{[]}
use Rattle.sl_defs.specs.declared.setup.Setup.{Setup}
use Rattle.sl_model.specs.Perform.{fresh}
use Rattle.sl_machine.specs.Disks.{Disks, Scattered, Sound}

-- nothing was ever recorded
abbrev pub no_records : Disks
no_records i = []

-- Empty disks hold a new volume: each of its parts lies with its server, and its root's fileid was given out.
abbrev pub EmptyDisksAreSound : Type 0
EmptyDisksAreSound = (s : Setup) → Sound s (fresh s.volume) no_records × Scattered s (fresh s.volume) no_records
