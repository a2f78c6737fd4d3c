use Rattle.sl_calls.proofs.Calls.{args_found}
use Rattle.sl_calls.proofs.laws.spellings_are_read.Goals as goal

pub returns : goal.returns
returns c = args_found
