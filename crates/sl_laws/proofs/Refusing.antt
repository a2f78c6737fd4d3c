-- What is refused uses no fileid.
use Rattle.std.proofs.Common.{ap}
use Rattle.sl_model.specs.Volume.{Volume}
use Rattle.sl_model.proofs.Keeping.{failure_keeps}
use Rattle.sl_laws.specs.Laws.{RefusedUsesNoId}

pub refused_makings_use_no_id : RefusedUsesNoId
refused_makings_use_no_id v call cred now choice wrong = ap (λ (w : Volume). w.used) (failure_keeps v call cred now choice wrong)
