use Rattle.std.proofs.Common.{◌≤◌, drop}
use Rattle.sl_history.specs.Wired.{lies_with}
use Rattle.sl_wiring.proofs.LineLaws.{FrontLeft}
use Rattle.sl_wiring.proofs.listing.are_front.Given as goal

abbrev pub invariant-loop-line : goal.invariant-loop-line
invariant-loop-line l = record {
  within : l.size ≤ l.limit;
  front : FrontLeft l.dir l.limit (lies_with l.setup l.dir l.server) l.lines l.cells l.size (drop l.line-index l.lines) l.rest;
}
