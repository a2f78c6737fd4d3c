use Rattle.std.proofs.Common.{arith}
use Rattle.sl_frames.proofs.FrameReaders.{frame_takes, is_only, is_none}
use Rattle.sl_frames.proofs.Shorts.{body_short}
use Rattle.sl_frames.proofs.frame.Frame.read.Goals as goal

pub returns-in-Ok-clause-found : goal.returns-in-Ok-clause-found
returns-in-Ok-clause-found c = frame_takes c.args.bytes.now c.in-Ok.frame (λ i. omega (arith, c.type_inv.bytes i)) c.in-Ok.ensures

pub returns-in-Ok-clause-only : goal.returns-in-Ok-clause-only
returns-in-Ok-clause-only c = is_only c.args.bytes.now c.in-Ok.frame c.in-Ok.ensures

pub returns-in-Ok-clause-short : goal.returns-in-Ok-clause-short
returns-in-Ok-clause-short c =
    let found = frame_takes c.args.bytes.now c.in-Ok.frame (λ i. omega (arith, c.type_inv.bytes i)) c.in-Ok.ensures in
    body_short c.in-Ok.frame.«body» found.1.«body»

pub returns-in-Err-Garbage-clause-bad : goal.returns-in-Err-Garbage-clause-bad
returns-in-Err-Garbage-clause-bad c = λ same f is. is_none c.args.bytes.now c.in-Err-Garbage.field-0 c.in-Err-Garbage.field-0-is c.in-Err-Garbage.ensures f is
