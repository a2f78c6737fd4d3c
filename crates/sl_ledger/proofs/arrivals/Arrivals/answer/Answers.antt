use Rattle.std.proofs.Common.{refl}
use Rattle.sl_ledger.proofs.ArrivalLaws.{arrivals_answered}
use Rattle.sl_ledger.proofs.arrivals.Arrivals.answer.Goals as goal

pub returns : goal.returns
returns c = λ t past e bytes is.
    let a = c.args.self.now in
    arrivals_answered t past c.args.arrival e bytes a (record { datagrams = a.datagrams; is_event = a.is_event; waiting = c.take_out.new.waiting }) is refl refl c.take_out.ensures
