use Rattle.std.proofs.Common.{◌∙◌, ap, subst, None, Err, []}
use Rattle.sl_defs.specs.Schedules.{line_text, IsLine}
use Rattle.slice.proofs.Going.{first_done, bad_stops, unread_stops}
use Rattle.slice.proofs.perform.perform_first.Goals as goal

pub returns-in-Ok-Volume-clause-done : goal.returns-in-Ok-Volume-clause-done
returns-in-Ok-Volume-clause-done g c =
    let read = c.in-Ok-Volume in
    first_done read.setup c.args.text.now (read.ensures.found.1 ∙ ap line_text read.field-0-is) (subst (IsLine None) read.field-0-is read.ensures.found.0) c.open.result _ _ c.open.ensures.done

pub returns-in-Err-Bad-clause-done : goal.returns-in-Err-Bad-clause-done
returns-in-Err-Bad-clause-done g c = bad_stops c.args.text.now [] _ (λ l fits place e. c.in-Err-Bad.ensures.bad (ap Err c.in-Err-Bad.field-0-is) l fits place e) tt

pub returns-clause-done : goal.returns-clause-done
returns-clause-done g c = unread_stops c.args.text.now [] _ tt
