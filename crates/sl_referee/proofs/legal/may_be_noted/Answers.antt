use Rattle.sl_referee.proofs.Turning.{at_start}
use Rattle.sl_referee.proofs.legal.may_be_noted.Goals as goal

pub loop-remark-init : goal.loop-remark-init
loop-remark-init c = λ start past is. at_start start c.args.turn.now past c.remarks-remark-items.result.now c.args.docket.now c.remarks-remark-items.ensures is
