use Rattle.std.proofs.Common.{◌≡◌, ℕ, ◌<◌, [], get_or}
use Rattle.journal_keeper.specs.Numbered.{record_text}
use Rattle.journal_keeper.proofs.numbered.are_numbered.Given as goal

abbrev pub invariant-loop-number : goal.invariant-loop-number
invariant-loop-number l = (place : ℕ) → place < l.number → get_or l.records place [] ≡ record_text place
