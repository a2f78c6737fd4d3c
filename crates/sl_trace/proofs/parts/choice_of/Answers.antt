use Rattle.std.proofs.Common.{refl}
use Rattle.std.specs.Prelude.{decimal}
use Rattle.sl_defs.specs.Transcripts.{choice_text}
use Rattle.sl_text.proofs.WordLaws.{decimal_no_space}
use Rattle.sl_trace.proofs.Kept.{number_of_kept, kept_fits, kept_again}
use Rattle.sl_trace.proofs.parts.choice_of.Goals as goal

pub returns : goal.returns
unfolding choice_text
returns c = λ choice fits e.
    let parts = c.cut.ensures (decimal choice.fileid) (decimal (number_of_kept choice.kept)) (decimal_no_space choice.fileid fits) e in
    rw (c.number_u64.ensures choice.fileid fits parts.0, c.number_u64-2.ensures (number_of_kept choice.kept) (kept_fits choice.kept) parts.1, kept_again choice.kept) refl
