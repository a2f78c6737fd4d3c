use Rattle.std.proofs.Common.{refl, arith}
use Rattle.std.specs.Prelude.{decimal}
use Rattle.sl_text.proofs.WordLaws.{decimal_no_space}
use Rattle.plainly.specs.Answers.{call_text}
use Rattle.plainly.proofs.Kept.{number_of_kept, kept_fits, kept_again}
use Rattle.plainly.proofs.calls.call_of.Goals as goal

pub returns-in-Ok : goal.returns-in-Ok
unfolding call_text
returns-in-Ok c = λ at choice datagram fits e.
    let sec = c.cut.ensures (decimal at.sec) _ (decimal_no_space at.sec (omega (arith, fits.sec))) e in
    let nsec = c.cut-2.ensures (decimal at.nsec) _ (decimal_no_space at.nsec (omega (arith, fits.nsec))) sec.1 in
    let fileid = c.cut-3.ensures (decimal choice.fileid) _ (decimal_no_space choice.fileid fits.fileid) nsec.1 in
    let kept = c.cut-4.ensures (decimal (number_of_kept choice.kept)) _ (decimal_no_space (number_of_kept choice.kept) (kept_fits choice.kept)) fileid.1 in (
      rw (c.number_u32.ensures at.sec fits.sec sec.0, c.number_u32-2.ensures at.nsec fits.nsec nsec.0) refl,
      rw (c.number_u64.ensures choice.fileid fits.fileid fileid.0, c.number_u64-2.ensures (number_of_kept choice.kept) (kept_fits choice.kept) kept.0, kept_again choice.kept) refl,
      c.in-Ok.ensures datagram fits.are_bytes kept.1,
    )
