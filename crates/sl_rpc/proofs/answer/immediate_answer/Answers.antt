use Rattle.sl_rpc.specs.declared.head.Head.TheVariants as head
use Rattle.sl_rpc.proofs.Answers.{answer_is, no_answer}
use Rattle.sl_rpc.proofs.answer.immediate_answer.Goals as goal

pub returns-clause-header : goal.returns-clause-header
returns-clause-header c = answer_is c.answer.result c.args.head.now c.answer.ensures

pub returns-clause-no_call : goal.returns-clause-no_call
returns-clause-no_call c = no_answer c.answer.result c.args.head.now head.NotCall c.answer.ensures
