use Rattle.std.proofs.Common.{◌≡◌, ◌++◌, drop}
use Rattle.std.specs.Prelude.{map}
use Rattle.sl_model.specs.Looking as looking
use Rattle.sl_plain.proofs.listing.plus_lines.Given as goal

-- with those of what is left they are all
abbrev pub invariant-loop-line : goal.invariant-loop-line
invariant-loop-line l = l.entries.items ++ map (looking.plus_line l.volume) (drop l.line-index l.lines) ≡ map (looking.plus_line l.volume) l.lines
