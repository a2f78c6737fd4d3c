use Rattle.std.proofs.Common.{Ok, ap}
use Rattle.sl_past.specs.Words.{happening_of}
use Rattle.sl_licence.proofs.Turning.{due_is, not_exactly, turn_begins}
use Rattle.sl_licence.proofs.licensed.is_licensed_turn.Goals as goal

pub returns-then-not-drop_exactly-clause-decides : goal.returns-then-not-drop_exactly-clause-decides
returns-then-not-drop_exactly-clause-decides c = λ start past is are.
    let t = c.args.turn.now in
    let begins = turn_begins start past t (happening_of c.happening.result.now) c.args.docket.now c.begin.new.self c.happening.ensures (c.in-Ok.ensures start past) is in
    not_exactly start past t c.remarks.result.now c.due_drop.result c.drop_exactly.result c.remarks.ensures c.if-not-drop_exactly.true c.drop_exactly.ensures
    (due_is start past t c.args.docket.now c.begin.new.self c.ledger.result.now c.ledger-2.result.now c.next_met-door.result c.due_drop.result c.ledger.ensures c.ledger-2.ensures
    c.next_met-door.ensures c.due_drop.ensures is begins)

pub returns-in-Ok-end-clause-takes : goal.returns-in-Ok-end-clause-takes
returns-in-Ok-end-clause-takes c = λ ok start past is are.
    let t = c.args.turn.now in
    let begins = turn_begins start past t (happening_of c.happening.result.now) c.args.docket.now c.begin.new.self c.happening.ensures (c.in-Ok.ensures start past) is in
    let noted = c.in_ok-may.ensures.takes c.new-wanted.ensures.items (ap (λ b. Ok b) c.if-not-may.false) start past begins are in
    (noted, c.in-Ok-end.ensures start t past noted are)
