use Rattle.std.proofs.Common.{◌∙◌, rules, tests}
use Rattle.std.proofs.lemmas.Iterator.{YieldsList-from_slice}
use Rattle.std.proofs.lemmas.Iterator.Consumers.{YieldsList-from_filter, count_from_yields_List}
use Rattle.std.proofs.lemmas.List.Sums.{length-filter}
use Rattle.sl_history.specs.Turns.{Turn}
use Rattle.sl_history.specs.Completing as completing
use Rattle.sl_recall.proofs.counts.given.Goals as goal

pub returns : goal.returns
returns c =
    count_from_yields_List c.filter.result _ c.count.ensures.ran
    (YieldsList-from_filter _ (λ (t : Turn). completing.is_given t.happening) (YieldsList-from_slice c.args.history.now (cc)) c.filter.ensures.closure (λ x r q k. search (rules, tests)))
    ∙ length-filter (λ (t : Turn). completing.is_given t.happening) c.args.history.now
