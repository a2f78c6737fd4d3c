use Rattle.std.proofs.Common.{sym, ap, ◌∙◌}
use Rattle.std.specs.Prelude.{option_and_then}
use Rattle.sl_history.specs.Arrivals.{asked_in}
use Rattle.sl_ledger.proofs.ArrivalLaws.{asked_arrived}
use Rattle.sl_ledger.proofs.arrivals.Arrivals.asked.Goals as goal

pub returns : goal.returns
returns c = λ h is. c.asked_in.ensures ∙ ap (option_and_then asked_in) (c.datagram.ensures h is) ∙ sym (asked_arrived h c.args.event)
