use Rattle.std.proofs.Common.{rules}
use Rattle.std.specs.Prelude.{◌==◌, ℕ, not}
use Rattle.std.proofs.lemmas.Fn.{filter_same}
use Rattle.sl_licence.proofs.dirty.take_out.Goals as goal

pub returns : goal.returns
returns c = filter_same _ (λ (k : ℕ). not (k == c.args.file)) _ (λ x b f' k. search rules) _ _ c.retain.ensures.filtered
