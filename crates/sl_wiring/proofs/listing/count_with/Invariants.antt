use Rattle.std.proofs.Common.{◌≡◌, ◌≤◌, length, take}
use Rattle.std.specs.Prelude.{filter}
use Rattle.sl_history.specs.Wired.{lies_with}
use Rattle.sl_wiring.proofs.listing.count_with.Given as goal

abbrev pub invariant-loop-line : goal.invariant-loop-line
invariant-loop-line l = record {
  small : l.count ≤ l.line-index;
  counted : l.count ≡ length (filter (lies_with l.setup l.dir l.server) (take l.line-index l.lines));
}
