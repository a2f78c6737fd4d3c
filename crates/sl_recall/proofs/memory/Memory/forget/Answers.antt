use Rattle.std.proofs.Common.{◌∷◌, refl}
use Rattle.sl_recall.proofs.MemoryLaws.{forgotten}
use Rattle.sl_recall.proofs.memory.Memory.forget.Goals as goal

pub returns-clause-follows : goal.returns-clause-follows
returns-clause-follows c = λ t past r f is.
    forgotten t past r c.args.self.now (record { ledger = c.args.self.now.ledger; tellings = c.forget.new.self; forgot = c.events-self.result; changes = c.args.self.now.changes }) f is.follows
    (c.forget.ensures.forgets t past r f.forgets_all is.follows.tellings) (c.events-self.ensures (t ∷ past) is.ledger) refl
