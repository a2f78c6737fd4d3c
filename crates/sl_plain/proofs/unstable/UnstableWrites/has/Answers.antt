use Rattle.std.proofs.Common.{◌∙◌, ap}
use Rattle.std.specs.Prelude.{◌==◌}
use Rattle.std.specs.List.{list_any}
use Rattle.sl_model.specs.Gathered.{is_unstable}
use Rattle.sl_plain.specs.declared.pending.Pending.{Pending}
use Rattle.sl_plain.proofs.UnstableLaws.{any_of_file}
use Rattle.sl_plain.proofs.unstable.UnstableWrites.has.Goals as goal

pub returns : goal.returns
returns c = c.any_of.ensures ∙ ap (list_any (λ (p : Pending). p.fileid == c.args.file)) c.as_slice.ensures.value ∙ any_of_file c.args.file c.self.inside.items.items ∙ ap (is_unstable c.args.file) c.self.view_is
