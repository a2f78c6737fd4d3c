use Rattle.sl_calls.proofs.Texts.{on_ok_spelled}
use Rattle.sl_calls.proofs.writing.write_args.Goals as goal

pub returns-else-is_err-clause-spelled : goal.returns-else-is_err-clause-spelled
returns-else-is_err-clause-spelled c = on_ok_spelled c.put_args-written.result c.args.call.now c.requires c.put_args-written.ensures.fits
