use Rattle.sl_text.proofs.WordLaws.{behind_is}
use Rattle.sl_text.proofs.words.behind.Goals as goal

pub returns : goal.returns
returns c = behind_is c.args.text.now c.args.word.now c.strip_prefix.result c.strip_prefix.ensures.cases
