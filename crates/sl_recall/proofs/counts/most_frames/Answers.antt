use Rattle.std.proofs.Common.{◌^◌, ◌-◌, arith}
use Rattle.sl_recall.proofs.CountLaws.{frames_stop}
use Rattle.sl_recall.proofs.counts.most_frames.Goals as goal

pub returns : goal.returns
returns c = frames_stop (2 ^ 64 - 1) c.args.calls c.args.ticks c.args.copies (omega (arith, c.ranges.calls.fits)) (omega (arith, c.ranges.ticks.fits)) (omega (arith, c.ranges.copies.fits)) (omega arith)
    _ _ _ _ _ _ _ _ _ _ _ _ _
    c.saturating_add.ensures c.saturating_mul-pairs.ensures c.saturating_mul-waits.ensures c.saturating_mul.ensures c.saturating_add-2.ensures c.saturating_mul-2.ensures c.saturating_add-3.ensures
    c.saturating_mul-3.ensures c.saturating_add-4.ensures c.saturating_mul-4.ensures c.saturating_add-5.ensures c.saturating_mul-5.ensures c.saturating_add-6.ensures
