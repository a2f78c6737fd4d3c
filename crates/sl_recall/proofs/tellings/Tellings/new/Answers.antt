use Rattle.std.proofs.Common.{rules}
use Rattle.sl_recall.proofs.TellLaws.{nothing_told}
use Rattle.sl_recall.proofs.tellings.Tellings.new.Goals as goal

pub returns-clause-begins : goal.returns-clause-begins
returns-clause-begins c = nothing_told (record { told = c.new.result; fresh = c.new-2.result; datagrams = 0 }) (λ f e. search rules) c.new-2.ensures.items
