use Rattle.sl_past.specs.Words.{remark_of}
use Rattle.sl_ledger.proofs.ServingLaws.{follows}
use Rattle.sl_ledger.proofs.serving.serve.Goals as goal

pub returns-clause-follows : goal.returns-clause-follows
returns-clause-follows c = follows c.args.ledger.now (remark_of c.args.remark.now) c.args.volume.now c.take.new.volume c.take.result c.take.ensures.serves
