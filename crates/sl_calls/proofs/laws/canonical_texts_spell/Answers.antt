use Rattle.sl_calls.proofs.Texts.{args_spell}
use Rattle.sl_calls.proofs.laws.canonical_texts_spell.Goals as goal

pub returns : goal.returns
returns c = args_spell
