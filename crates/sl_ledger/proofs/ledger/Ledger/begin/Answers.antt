use Rattle.std.proofs.Common.{refl}
use Rattle.sl_past.specs.Words.{happening_of}
use Rattle.sl_ledger.proofs.LedgerLaws.{ledger_begun}
use Rattle.sl_ledger.proofs.UpLaws.{up_begun}
use Rattle.sl_ledger.proofs.ledger.Ledger.begin.Goals as goal

pub returns : goal.returns
returns c = λ past moment is.
    let l = c.args.self.now in
    let x = happening_of c.args.happening.now in
    ledger_begun past x moment l
    (record { arrivals = c.begin.new.self; sent = c.begin-2.new.self; up = c.begin-3.new.self; was_up = l.up; last_hello = l.last_hello; last_verf = l.last_verf })
    is (c.in_ok-begin.ensures past moment is.arrived) (c.begin-2.ensures past moment is.sent) (up_begun past x moment l.up c.begin-3.new.self is.up c.begin-3.ensures)
    refl refl refl
