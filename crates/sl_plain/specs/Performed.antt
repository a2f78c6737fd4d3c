-- What the program answers to a call.
use Rattle.std.specs.Prelude.{◌≡◌, Result, Ok, Err}
use Rattle.sl_defs.specs.declared.setup.Time.{Time}
use Rattle.sl_defs.specs.declared.note.Choice.{Choice}
use Rattle.sl_types.specs.declared.cred.Cred.{Cred}
use Rattle.sl_types.specs.declared.call.Call.{Call}
use Rattle.sl_types.specs.declared.reply.Reply.{Reply}
use Rattle.sl_types.specs.declared.fault.Ended.{Ended}
use Rattle.sl_types.specs.declared.fault.Ended.TheVariants.{NoMemory, Spent}
use Rattle.sl_model.specs.Plan.{run}
use Rattle.sl_model.specs.Volume.{Volume, sight}
use Rattle.sl_model.specs.Procedures.{plan}
use Rattle.sl_model.specs.Perform.{perform}
use Rattle.sl_plain.specs.Outcomes.{IsSpent}

-- A reply is the one server's, and so is the volume then. The answer `Spent` comes only where the call would put a
-- number that passes the end of its type, and leaves the volume as it was.
abbrev pub Performs : Volume → Volume → Call → Cred → Time → Choice → Result Reply Ended → Type 0
Performs old new call cred now choice (Ok reply) = (new, reply) ≡ perform old call cred now choice
Performs old new call cred now choice (Err NoMemory) = Unit {0}
Performs old new call cred now choice (Err Spent) = (new ≡ old) × IsSpent (run (sight old) (plan call cred now choice))

abbrev pub PerformsOn : Volume → Call → Cred → Time → Choice → Result (Volume × Reply) Ended → Type 0
PerformsOn old call cred now choice (Ok after) = after ≡ perform old call cred now choice
PerformsOn old call cred now choice (Err NoMemory) = Unit {0}
PerformsOn old call cred now choice (Err Spent) = IsSpent (run (sight old) (plan call cred now choice))
