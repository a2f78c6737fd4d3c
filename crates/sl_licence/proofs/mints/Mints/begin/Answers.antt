use Rattle.std.proofs.Common.{[], sym}
use Rattle.sl_licence.proofs.Minting.{begins_with, begins_without}
use Rattle.sl_licence.proofs.Saying.{on_ok_one}
use Rattle.sl_licence.proofs.mints.Mints.begin.Goals as goal

pub returns-in-Some : goal.returns-in-Some
returns-in-Some c =
    on_ok_one c.reach.result (λ tells past happening moment is are.
    begins_with past happening moment c.in-Some.frame.now c.args.self.now c.reach.new.self
    (sym (c.in-Some.ensures (record { happening = happening; moment = moment; remarks = [] }) past is)) tells are) c.reach.ensures

pub returns-in-None : goal.returns-in-None
returns-in-None c = λ past happening moment is are.
    begins_without past happening moment c.args.self.now (sym (c.in-None.ensures (record { happening = happening; moment = moment; remarks = [] }) past is)) are
