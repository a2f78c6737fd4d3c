use Rattle.std.proofs.Common.{ℕ, ◌⊎◌, ◌↔◌}
use Rattle.sl_route.specs.Spans.{Has, HoldsUnit}
use Rattle.sl_route.proofs.table.Table.with_units.Given as goal

abbrev pub invariant-loop-unit : goal.invariant-loop-unit
invariant-loop-unit l = (actor : ℕ) → Has l.set actor ↔ (Has l.fn.set actor ⊎ HoldsUnit l.self l.fileid l.first l.unit actor)
