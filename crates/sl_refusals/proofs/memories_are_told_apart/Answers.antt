use Rattle.sl_refusals.proofs.Memories.{memories_are_told_apart}
use Rattle.sl_refusals.proofs.memories_are_told_apart.Goals as goal

pub returns : goal.returns
returns c = memories_are_told_apart
