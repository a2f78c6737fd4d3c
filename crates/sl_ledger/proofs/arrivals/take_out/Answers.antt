use Rattle.std.proofs.Common.{rules}
use Rattle.std.specs.Prelude.{◌==◌, ℕ, not}
use Rattle.std.proofs.lemmas.Fn.{filter_same}
use Rattle.sl_ledger.proofs.arrivals.take_out.Goals as goal

pub returns : goal.returns
returns c = filter_same _ (λ (k : ℕ). not (k == c.args.arrival)) _ (λ x b f' k. search rules) _ _ c.retain.ensures.filtered
