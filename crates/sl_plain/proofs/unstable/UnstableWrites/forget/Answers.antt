use Rattle.std.proofs.Common.{◌∙◌, ap, rules}
use Rattle.std.specs.Prelude.{◌==◌, not, map}
use Rattle.std.proofs.lemmas.Fn.{filter_same}
use Rattle.sl_model.specs.Volume.{without_file}
use Rattle.sl_plain.specs.declared.pending.Pending.{Pending}
use Rattle.sl_plain.specs.Unstables.{write_of}
use Rattle.sl_plain.proofs.UnstableLaws.{others}
use Rattle.sl_plain.proofs.unstable.UnstableWrites.forget.Goals as goal

pub returns : goal.returns
returns c =
    let left = filter_same _ (λ (p : Pending). not (p.fileid == c.args.file)) _ (λ x b f' k. search rules) _ _ c.retain.ensures.filtered in
    ap (map write_of) left ∙ others c.args.file c.self.inside.items.items ∙ ap (without_file c.args.file) c.self.view_is
