use Rattle.std.proofs.Common.{[], sym, ap, ◌∙◌}
use Rattle.std.specs.Prelude.{option_map}
use Rattle.std.specs.Option.{option_copied}
use Rattle.sl_history.specs.Turns.{Turn, begun}
use Rattle.sl_wiring.specs.Dockets.{arrival_of}
use Rattle.sl_wiring.proofs.Docketing.{answered_is}
use Rattle.sl_wiring.proofs.docket.answered_by.Goals as goal

pub returns : goal.returns
returns c = λ past x moment is.
    let t : Turn = record { happening = x; moment = moment; remarks = [] } in
    answered_is past x moment c.in_ok-frame.frame.now c.arrival_of.result (sym (c.reached.ensures t past is) ∙ ap option_copied c.in_ok-frame.was)
    (c.arrival_of.ensures ∙ ap (option_map arrival_of) (c.request.ensures (begun past x moment) is))
