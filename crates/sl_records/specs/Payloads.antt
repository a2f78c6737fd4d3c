-- What reading a payload answers.
use Rattle.std.specs.Prelude.{◌≡◌, Option, Some, None, Result, Ok, Err}
use Rattle.sl_records.specs.declared.fault.RecordFault.{RecordFault}
use Rattle.sl_records.specs.declared.fault.RecordFault.TheVariants as fault

-- BadRecord where nothing is read; of memory nothing is said
abbrev pub Fails : {A : Type 0} → RecordFault → Option A → Type 0
Fails fault.BadRecord read = read ≡ None
Fails fault.NoMemory read = Unit {0}

-- What was answered is what the whole bytes spell, unless memory ran out.
abbrev pub GivesRecord : {A : Type 0} → Result A RecordFault → Option A → Type 0
GivesRecord (Ok x) read = read ≡ Some x
GivesRecord (Err e) read = Fails e read
