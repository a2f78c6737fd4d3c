use Rattle.std.proofs.Common.{◌≡◌, ◌+◌, drop}
use Rattle.sl_plain.specs.Found.{fit_count}
use Rattle.sl_plain.proofs.listing.fitting.Given as goal

-- with those of what is left that fit, they are all
abbrev pub invariant-loop-line : goal.invariant-loop-line
invariant-loop-line l = (l.count ≡ l.line-index) × (l.count + fit_count l.fixed l.left (drop l.line-index l.lines) ≡ fit_count l.fixed l.room l.lines)
