use Rattle.std.proofs.Common.{subst}
use Rattle.sl_wiring.specs.declared.question.Question.{Question}
use Rattle.sl_wiring.specs.Given.{HasOneMore, put_by}
use Rattle.sl_wiring.proofs.Granting.{exact_questions, question_cmp, questions_total}
use Rattle.sl_wiring.proofs.Saying.{on_ok}
use Rattle.sl_wiring.proofs.Sets.{one_more}
use Rattle.sl_wiring.proofs.given.Given.take.Goals as goal

pub returns-clause-questions : goal.returns-clause-questions
returns-clause-questions c =
    on_ok c.take.result (HasOneMore c.args.self.now.questions.keys c.insert.new.self.keys (put_by c.args.frame.now))
    (subst (λ (q : Question). HasOneMore c.args.self.now.questions.keys c.insert.new.self.keys q) c.put_by.ensures
    (one_more question_cmp questions_total exact_questions c.args.self.now.questions c.insert.new.self c.put_by.result c.in-Ok.ensures.updates))
