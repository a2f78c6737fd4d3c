use Rattle.std.proofs.Common.{refl, sym, ◌∙◌}
use Rattle.std.specs.Prelude.{Some, None}
use Rattle.sl_licence.proofs.Dirtying.{flushing_ends}
use Rattle.sl_licence.proofs.dirty.Flushing.begin.Goals as goal

pub returns-in-Some : goal.returns-in-Some
returns-in-Some c = λ past happening moment is are.
    flushing_ends past happening moment (Some c.in-Some.file) c.args.self.now (record { files = c.take_out.new.files }) (sym c.in-Some.is ∙ c.ended_by.ensures past happening moment is) c.take_out.ensures are

pub returns-in_default : goal.returns-in_default
returns-in_default c = λ past happening moment is are.
    flushing_ends past happening moment None c.args.self.now c.args.self.now (sym c.in_default.is ∙ c.ended_by.ensures past happening moment is) refl are
