use Rattle.std.proofs.Common.{◌∙◌, ap}
use Rattle.std.specs.BTreeSet.{contains}
use Rattle.sl_wiring.specs.Given.{behind}
use Rattle.sl_wiring.proofs.Granting.{exact_questions, question_cmp, questions_total}
use Rattle.sl_wiring.proofs.Sets.{has_key}
use Rattle.sl_wiring.proofs.given.Given.asks.Goals as goal

pub returns : goal.returns
returns c =
    has_key question_cmp questions_total exact_questions c.args.self.now.questions (behind c.args.answer.now c.args.kind) c.contains.result
    (c.contains.ensures ∙ ap (contains question_cmp c.args.self.now.questions) c.behind.ensures)
