use Rattle.std.proofs.Common.{[]}
use Rattle.sl_past.specs.Words.{happening_of}
use Rattle.sl_recall.proofs.ForgetLaws.{begins}
use Rattle.sl_recall.proofs.memory.Memory.begin.Goals as goal

pub returns-clause-begins : goal.returns-clause-begins
returns-clause-begins c = λ past moment is.
    let x = happening_of c.args.happening.now in
    let ledger = c.in_ok-begin-2.ensures past moment is.ledger in
    record {
      ledger = ledger;
      follows = record {
        tellings = c.in_ok-begin.ensures.begins past x moment (c.events.ensures past is.ledger) c.is_datagram.ensures is.follows.tellings;
        forgot = begins past x moment c.args.self.now.forgot is.follows.forgot;
        changes = c.begin-3.ensures past x moment (c.brought.ensures (record { happening = x; moment = moment; remarks = [] }) past ledger) is.follows.changes;
      };
    }
