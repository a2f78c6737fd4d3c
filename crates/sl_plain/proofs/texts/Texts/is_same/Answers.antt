use Rattle.std.proofs.Common.{sym}
use Rattle.std.specs.Ordering.{nat_cmp}
use Rattle.std.proofs.lemmas.Cmp.{nat_cmp_total}
use Rattle.std.proofs.lemmas.Map.Lookups.{exact_unsigned}
use Rattle.sl_plain.proofs.DifferingLaws.{both_within, within_same}
use Rattle.sl_plain.proofs.texts.Texts.is_same.Goals as goal

pub returns-then-is_within : goal.returns-then-is_within
returns-then-is_within c =
    (λ t. both_within nat_cmp nat_cmp_total exact_unsigned c.args.self.now c.args.other.now (c.is_within.ensures.0 c.if-is_within.true) (c.is_within-then-is_within.ensures.0 t), λ e. c.is_within-then-is_within.ensures.1 (within_same c.args.other.now c.args.self.now (sym e)))
