use Rattle.std.proofs.Common.{◌^◌, ◌-◌, arith}
use Rattle.sl_recall.proofs.CountLaws.{bounded}
use Rattle.sl_recall.proofs.counts.is_bounded.Goals as goal

pub returns : goal.returns
returns c = bounded c.args.history.now c.given.result c.calls.result c.ticks.result c.copies.result c.most_frames.result (2 ^ 64 - 1) c.given.ensures c.calls.ensures c.ticks.ensures c.copies.ensures (omega (arith, c.given.type_inv)) c.most_frames.ensures
