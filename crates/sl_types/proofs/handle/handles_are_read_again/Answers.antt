use Rattle.sl_types.proofs.HandleLaws.{handle_found}
use Rattle.sl_types.proofs.handle.handles_are_read_again.Goals as goal

pub returns : goal.returns
returns c = handle_found
