use Rattle.std.proofs.Common.{refl}
use Rattle.sl_recall.proofs.ForgetLaws.{nothing_forgotten}
use Rattle.sl_recall.proofs.memory.Memory.new.Goals as goal

pub returns-clause-begins : goal.returns-clause-begins
returns-clause-begins c = record { ledger = c.in_ok-new.ensures; follows = record { tellings = c.new-2.ensures.begins; forgot = nothing_forgotten 0 refl; changes = c.new-3.ensures } }
