use Rattle.sl_replies.proofs.Canonical.{reply_spells}
use Rattle.sl_replies.proofs.laws.canonical_texts_spell.Goals as goal

pub returns : goal.returns
returns c = reply_spells
