use Rattle.sl_model.proofs.Zeros.{cuts_bytes}
use Rattle.sl_model.proofs.laws.cuts_bytes.Goals as goal

pub returns : goal.returns
returns c = cuts_bytes
