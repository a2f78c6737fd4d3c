use Rattle.std.specs.FinMap as map
use Rattle.sl_plain.specs.Differing.{IsUnlike}
use Rattle.sl_plain.proofs.DifferingLaws.{Gathering}
use Rattle.sl_plain.proofs.nodes.Nodes.put_unlike.Given as goal

-- with the nodes that are left they are all
abbrev pub invariant-loop-fileid : goal.invariant-loop-fileid
invariant-loop-fileid l = Gathering (IsUnlike l.other) (map.entries l.self) l.initial.unlike.items l.fileid-iterator l.unlike.items
