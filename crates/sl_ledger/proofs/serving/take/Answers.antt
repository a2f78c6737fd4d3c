use Rattle.sl_ledger.proofs.ServingLaws.{idle}
use Rattle.sl_ledger.proofs.serving.take.Goals as goal

pub returns-in_default-clause-serves : goal.returns-in_default-clause-serves
returns-in_default-clause-serves c = λ h is. idle c.args.remark.now h c.args.volume.now c.in_default.not-Did c.in_default.not-Flush c.in_default.not-Verf
