use Rattle.std.proofs.lemmas.Result.{IfOk-weaker}
use Rattle.reread.proofs.Answered.{line_is}
use Rattle.reread.proofs.texts.reread_line.Goals as goal

pub returns-in-Ok : goal.returns-in-Ok
returns-in-Ok c = IfOk-weaker c.printed_line.result _ _ (λ answer e. line_is c.args.text.now answer.items _ c.in-Ok.line c.in-Ok.ensures.found.0 c.in-Ok.ensures.found.1 e) c.printed_line.ensures
