use Rattle.std.proofs.Common.{◌∷◌, sym, subst}
use Rattle.sl_history.specs.Turns.{noted}
use Rattle.sl_past.specs.Words.{remark_of}
use Rattle.sl_past.specs.declared.remark.Remark.{Remark}
use Rattle.sl_licence.specs.Dirty.{AreFlushing}
use Rattle.sl_licence.proofs.Dirtying.{flushing_goes_on}
use Rattle.sl_licence.proofs.Flowing.{no_flushing}
use Rattle.sl_licence.proofs.Saying.{on_ok_one}
use Rattle.sl_history.specs.Turns as turns
use Rattle.sl_licence.proofs.dirty.Flushing.note.Goals as goal

pub returns-in-Flush : goal.returns-in-Flush
returns-in-Flush c =
    on_ok_one c.add_to.result (λ items t past are.
    subst (λ (x : Remark). AreFlushing (noted (t ∷ past) (remark_of x)) (record { files = c.add_to.new.files })) (sym c.in-Flush.is)
    (flushing_goes_on t past (turns.Flush c.in-Flush.file) c.args.self.now (record { files = c.add_to.new.files }) items are)) c.add_to.ensures

pub returns-in-Verf : goal.returns-in-Verf
returns-in-Verf c = λ t past are.
    subst (λ (x : Remark). AreFlushing (noted (t ∷ past) (remark_of x)) (record { files = c.clear.new.self })) (sym c.in-Verf.is)
    (flushing_goes_on t past (turns.Verf c.in-Verf.field-0) c.args.self.now (record { files = c.clear.new.self }) c.clear.ensures.items are)

pub returns-in_default : goal.returns-in_default
returns-in_default c = λ t past are.
    flushing_goes_on t past (remark_of c.args.remark.now) c.args.self.now c.args.self.now (no_flushing c.args.remark.now c.in_default.not-Flush c.in_default.not-Verf c.args.self.now.files.items) are
