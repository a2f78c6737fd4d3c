use Rattle.std.proofs.Common.{◌∷◌, sym, subst}
use Rattle.sl_history.specs.Turns.{noted}
use Rattle.sl_past.specs.Words.{remark_of}
use Rattle.sl_past.specs.declared.remark.Remark.{Remark}
use Rattle.sl_licence.specs.Evidence.{MayUse}
use Rattle.sl_licence.specs.Flushes.{AreFlushesOf}
use Rattle.sl_licence.proofs.Flushing.{flushed, noted_else}
use Rattle.sl_licence.proofs.Noting.{no_flush}
use Rattle.sl_licence.proofs.Saying.{on_ok_both}
use Rattle.sl_licence.proofs.flushes.Flushes.note.Goals as goal

pub returns-in-Flush : goal.returns-in-Flush
returns-in-Flush c =
    on_ok_both c.flush.result (λ given counts t past are.
    subst (λ (x : Remark). MayUse (t ∷ past) (remark_of x) → AreFlushesOf (noted (t ∷ past) (remark_of x)) c.flush.new.self) (sym c.in-Flush.is)
    (λ some. flushed t past c.in-Flush.file c.args.self.now c.flush.new.self given counts are some)) c.flush.ensures.given c.flush.ensures.counts

pub returns-in_default : goal.returns-in_default
returns-in_default c = λ t past are some. noted_else t past (remark_of c.args.remark.now) c.args.self.now (no_flush c.args.remark.now c.in_default.not-Flush) are
