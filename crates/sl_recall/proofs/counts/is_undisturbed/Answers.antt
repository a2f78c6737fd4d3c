use Rattle.std.proofs.Common.{not, sym, ap, ◌∙◌}
use Rattle.sl_recall.proofs.CountLaws.{undisturbed_is}
use Rattle.sl_recall.proofs.counts.is_undisturbed.Goals as goal

pub returns : goal.returns
returns c = ap not c.is_disturbed.ensures ∙ sym (undisturbed_is c.args.history.now)
