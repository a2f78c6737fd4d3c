use Rattle.std.proofs.Common.{length, ap, ◌∙◌, arith}
use Rattle.std.proofs.lemmas.List.{length-append, length-take}
use Rattle.slice.proofs.Steps.{add_block, stops_reading}
use Rattle.slice.proofs.run.read_all.Goals as goal

pub returns-in-Err-clause-read : goal.returns-in-Err-clause-read
returns-in-Err-clause-read g c = stops_reading c.in-Err.end _ _ _ _ c.loop.text.items c.loop.invariant.consumed (omega (arith, length-take c.min-room.result c.loop.block, c.min-room.ensures, c.len.ensures, c.loop.text.ok.0, c.loop.invariant.few)) c.in-Err.ensures.read.1

pub returns-then-len-gt-LIMIT-clause-read : goal.returns-then-len-gt-LIMIT-clause-read
returns-then-len-gt-LIMIT-clause-read g c =
    let added = c.in-Ok.ensures.read in
    let size = ap length added.added ∙ length-append c.loop.text.items added.bytes in
    record {
      bytes = c.read_block.new.text.items;
      consumed = add_block _ _ _ _ _ c.loop.text.items c.read_block.new.text.items c.loop.invariant.consumed added;
      more = omega (arith, c.if-len-gt-LIMIT.true, c.len-in-loop.ensures, c.read_block.new.text.ok.0);
      bounded = omega (arith, size, added.count, added.fits, length-take c.min-room.result c.loop.block, c.min-room.ensures, c.len.ensures, c.loop.text.ok.0, c.loop.invariant.few);
    }

pub loop-preserved : goal.loop-preserved
loop-preserved g c =
    let added = c.in-Ok.ensures.read in
    let size = ap length added.added ∙ length-append c.loop.text.items added.bytes in
    record {
      consumed = add_block _ _ _ _ _ c.loop.text.items c.read_block.new.text.items c.loop.invariant.consumed added;
      few = omega (arith, c.if-len-gt-LIMIT.false, c.len-in-loop.ensures);
      turns = omega (arith, size, added.count, c.if-count-eq0.false, c.loop.invariant.turns, c.loop.text.ok.0, c.read_block.new.text.ok.0);
      later = omega (arith, c.read_block.ensures.later, c.loop.invariant.later);
    }
