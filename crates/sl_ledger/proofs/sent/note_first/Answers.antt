use Rattle.std.proofs.Common.{sym}
use Rattle.sl_ledger.proofs.SentLaws.{first_noted}
use Rattle.sl_ledger.proofs.sent.note_first.Goals as goal

pub returns-in-Ok : goal.returns-in-Ok
returns-in-Ok c =
    first_noted c.args.requests.now c.insert.new.self c.args.fence c.args.tag c.args.spot (sym c.if-contains_key.ensures) c.in-Ok.ensures.updates.0
