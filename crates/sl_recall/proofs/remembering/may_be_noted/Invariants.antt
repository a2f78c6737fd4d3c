use Rattle.std.proofs.Common.{◌≡◌}
use Rattle.sl_history.specs.Turns.{History, begun}
use Rattle.sl_history.specs.Remembering.{AllMayBeNoted}
use Rattle.sl_recall.specs.Memories.{IsMemoryOf}
use Rattle.sl_recall.proofs.Walks.{Here}
use Rattle.sl_recall.proofs.remembering.may_be_noted.Given as goal

abbrev pub invariant-loop-remark : goal.invariant-loop-remark
invariant-loop-remark l =
    (l.memory.tellings.datagrams ≡ l.fn.memory.tellings.datagrams)
    × ((past : History) → IsMemoryOf (begun past l.turn.happening l.turn.moment) l.fn.memory → Here IsMemoryOf (AllMayBeNoted l.turn past) l.turn past l.remark-items l.remark-index l.memory)
