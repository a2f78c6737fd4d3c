use Rattle.std.proofs.lemmas.Result.{IfOk-weaker}
use Rattle.reread.proofs.Answered.{note_is}
use Rattle.reread.proofs.texts.reread_note.Goals as goal

pub returns-in-Ok : goal.returns-in-Ok
returns-in-Ok c = IfOk-weaker c.printed_note.result _ _ (λ answer e. note_is c.args.text.now answer.items c.in-Ok.note c.in-Ok.ensures.found.0 c.in-Ok.ensures.found.1 e) c.printed_note.ensures
