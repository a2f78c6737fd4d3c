use Rattle.std.proofs.Common.{sym}
use Rattle.sl_model.specs.Volume.{place_cmp}
use Rattle.sl_plain.proofs.MapLaws.{places_total, exact_places}
use Rattle.sl_plain.proofs.DifferingLaws.{both_within, within_same}
use Rattle.sl_plain.proofs.written.Written.is_same.Goals as goal

pub returns-then-is_within : goal.returns-then-is_within
returns-then-is_within c =
    (λ t. both_within place_cmp places_total exact_places c.args.self.now c.args.other.now (c.is_within.ensures.0 c.if-is_within.true) (c.is_within-then-is_within.ensures.0 t), λ e. c.is_within-then-is_within.ensures.1 (within_same c.args.other.now c.args.self.now (sym e)))
