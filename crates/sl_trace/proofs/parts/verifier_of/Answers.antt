use Rattle.std.proofs.Common.{◌∙◌, sym}
use Rattle.sl_trace.proofs.Kept.{verifier_read, verifier_again}
use Rattle.sl_trace.proofs.parts.verifier_of.Goals as goal

pub returns-in-Ok : goal.returns-in-Ok
returns-in-Ok c = λ v lt e.
    let read = verifier_read c.args.text.now v c.decode_to_slice.result c.decode_to_slice.new.out e c.decode_to_slice.ensures.value in
    c.from_be_bytes.ensures ∙ verifier_again v c.decode_to_slice.new.out lt read.1

pub returns-in-Err : goal.returns-in-Err
returns-in-Err c = λ v lt e.
    let read = verifier_read c.args.text.now v c.decode_to_slice.result c.decode_to_slice.new.out e c.decode_to_slice.ensures.value in
    let clash = sym c.in-Err.is ∙ read.0 in
    absurd cc
