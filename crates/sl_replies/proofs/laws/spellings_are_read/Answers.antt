use Rattle.sl_replies.proofs.Canonical.{spelled_is_read}
use Rattle.sl_replies.proofs.laws.spellings_are_read.Goals as goal

pub returns : goal.returns
returns c = spelled_is_read
