use Rattle.sl_examples.proofs.Replies.{replies_are_told_apart}
use Rattle.sl_examples.proofs.replies_are_told_apart.Goals as goal

pub returns : goal.returns
returns c = replies_are_told_apart
