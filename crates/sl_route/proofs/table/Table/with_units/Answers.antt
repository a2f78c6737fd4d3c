use Rattle.std.proofs.Common.{◌≡◌, ◌+◌, min, arith}
use Rattle.sl_route.proofs.UnitLaws.{sites_repeat}
use Rattle.sl_route.proofs.table.Table.with_units.Goals as goal

pub returns : goal.returns
returns c = λ actor.
    let all : c.loop-unit.unit ≡ min c.args.end (c.args.first + 64) = omega arith in
    sites_repeat c.args.self.now c.args.fileid c.args.first c.loop-unit.unit c.args.end actor all _ _ (c.loop-unit.invariant actor)
