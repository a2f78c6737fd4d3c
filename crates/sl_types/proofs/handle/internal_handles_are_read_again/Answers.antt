use Rattle.sl_types.proofs.HandleLaws.{internal_found}
use Rattle.sl_types.proofs.handle.internal_handles_are_read_again.Goals as goal

pub returns : goal.returns
returns c = internal_found
