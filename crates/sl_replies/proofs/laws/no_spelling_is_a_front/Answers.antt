use Rattle.sl_replies.proofs.Canonical.{begins_none}
use Rattle.sl_replies.proofs.laws.no_spelling_is_a_front.Goals as goal

pub returns : goal.returns
returns c = begins_none
