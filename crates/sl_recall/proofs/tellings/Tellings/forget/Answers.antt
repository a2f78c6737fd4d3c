use Rattle.std.proofs.Common.{refl}
use Rattle.sl_recall.proofs.TellLaws.{forgotten}
use Rattle.sl_recall.proofs.tellings.Tellings.forget.Goals as goal

pub returns-clause-forgets : goal.returns-clause-forgets
returns-clause-forgets c = λ t past r f is.
    forgotten t past r c.args.self.now (record { told = c.args.self.now.told; fresh = c.clear.new.self; datagrams = c.args.self.now.datagrams }) is f refl refl c.clear.ensures.items
