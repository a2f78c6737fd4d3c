use Rattle.std.proofs.Common.{None, refl}
use Rattle.sl_ledger.proofs.LedgerLaws.{ledger_none}
use Rattle.sl_ledger.proofs.ledger.Ledger.new.Goals as goal

pub returns : goal.returns
returns c =
    ledger_none (record { arrivals = c.in_ok-new.field-0; sent = c.new-2.result; up = c.new-3.result; was_up = c.new-4.result; last_hello = None; last_verf = None })
    c.in_ok-new.ensures c.new-2.ensures c.new-3.ensures refl refl
