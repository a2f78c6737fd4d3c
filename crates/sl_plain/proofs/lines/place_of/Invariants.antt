use Rattle.std.proofs.Common.{◌≡◌, ◌+◌, drop}
use Rattle.sl_plain.specs.Found.{place_in}
use Rattle.sl_plain.proofs.lines.place_of.Given as goal

-- with those before it among what is left, they are all
abbrev pub invariant-loop-line : goal.invariant-loop-line
invariant-loop-line l = (l.before ≡ l.line-index) × (l.before + place_in l.cookie (drop l.line-index l.lines) ≡ place_in l.cookie l.lines)
