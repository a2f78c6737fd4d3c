use Rattle.std.proofs.Common.{sym, ◌∙◌}
use Rattle.sl_past.proofs.Others.{no_frame}
use Rattle.sl_past.proofs.notes.read_remark.Goals as goal

pub returns-in-Ok-clause-bad : goal.returns-in-Ok-clause-bad
returns-in-Ok-clause-bad c = λ bad remark fits is e. no_frame c.in-Ok.note remark fits is (c.remark_in.ensures.bad bad) (sym c.in-Ok.ensures.found.1 ∙ e)
