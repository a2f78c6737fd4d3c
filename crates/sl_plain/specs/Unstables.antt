-- What the program's unstable writes stand for.
use Rattle.sl_model.specs.Volume.{Unstable}
use Rattle.sl_plain.specs.declared.pending.Pending.{Pending}

abbrev pub write_of : Pending → Unstable
write_of p = record { fileid = p.fileid; offset = p.offset; bytes = p.bytes; moment = p.moment }
