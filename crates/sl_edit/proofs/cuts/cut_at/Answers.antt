use Rattle.std.proofs.Common.{refl}
use Rattle.sl_edit.proofs.cuts.cut_at.Goals as goal

pub returns-clause-cut : goal.returns-clause-cut
returns-clause-cut c = rw (c.put_word-2.ensures, c.put_word.ensures, c.pad-end.ensures.padded) refl
