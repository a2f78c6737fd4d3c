use Rattle.std.proofs.Common.{Ok, Err, sym, ap, ◌∙◌, if◌then◌else◌}
use Rattle.sl_types.specs.declared.kind.Status.TheVariants as status
use Rattle.sl_model.specs.Looking.{attributes}
use Rattle.sl_model.specs.Perform.{new_root}
use Rattle.sl_world.specs.Serving.{look_by}
use Rattle.sl_world.proofs.Outside.{none_outside, one_outside}
use Rattle.sl_world.proofs.directory.Directory.look.Goals as goal

pub returns-in-None : goal.returns-in-None
returns-in-None c = sym (ap (look_by c.args.self.now.volume) (none_outside c.args.object.now (sym c.in-None.ensures.exact)))

pub returns-in-Some : goal.returns-in-Some
returns-in-Some c =
    ap Ok c.root_attributes.ensures
    ∙ ap (λ b. if b then Ok (attributes (new_root c.args.self.now.volume)) else Err status.Stale) (c.if-is_root.ensures.is)
    ∙ sym (ap (look_by c.args.self.now.volume) (one_outside c.args.object.now c.in-Some.internal c.is_root.ensures.fits (sym c.in-Some.ensures.exact)))

pub returns-in-Some-2 : goal.returns-in-Some-2
returns-in-Some-2 c =
    ap (λ b. if b then Ok (attributes (new_root c.args.self.now.volume)) else Err status.Stale) (c.if-is_root.ensures.is)
    ∙ sym (ap (look_by c.args.self.now.volume) (one_outside c.args.object.now c.in-Some.internal c.is_root.ensures.fits (sym c.in-Some.ensures.exact)))
