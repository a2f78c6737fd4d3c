-- Whether what servers tell is true, remark by remark.
use Rattle.sl_defs.specs.declared.setup.Setup.{Setup}
use Rattle.sl_model.specs.Volume.{Volume}
use Rattle.sl_history.specs.Turns.{Remark, Sent, History}
use Rattle.sl_history.specs.Licensed.{request}
use Rattle.sl_history.specs.Wired.{IsTrueIf}

abbrev pub IsTrueRemark : Setup → Volume → History → Remark → Type 0
IsTrueRemark setup v h (Sent k f) = IsTrueIf setup v f (request h f.fence f.tag)
IsTrueRemark setup v h other = Unit {0}
