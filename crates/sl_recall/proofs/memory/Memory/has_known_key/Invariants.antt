use Rattle.std.proofs.Common.{◌≤◌, drop}
use Rattle.sl_history.specs.Turns.{History, events}
use Rattle.sl_recall.specs.Memories.{IsMemoryOf}
use Rattle.sl_recall.proofs.AskingLaws.{Unnamed}
use Rattle.sl_recall.proofs.memory.Memory.has_known_key.Given as goal

-- no known file is named by the keys so far
abbrev pub invariant-loop-key : goal.invariant-loop-key
invariant-loop-key l = (h : History) → IsMemoryOf h l.self → l.call ≤ events h → Unnamed h l.call l.directory l.keys (drop l.key-index l.keys)
