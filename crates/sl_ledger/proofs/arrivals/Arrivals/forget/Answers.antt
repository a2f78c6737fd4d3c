use Rattle.std.proofs.Common.{refl}
use Rattle.sl_ledger.proofs.ArrivalLaws.{arrivals_forgotten}
use Rattle.sl_ledger.proofs.arrivals.Arrivals.forget.Goals as goal

pub returns : goal.returns
returns c = λ t past v is.
    let a = c.args.self.now in
    arrivals_forgotten t past v a (record { datagrams = a.datagrams; is_event = a.is_event; waiting = c.clear.new.self }) is refl refl c.clear.ensures.items
