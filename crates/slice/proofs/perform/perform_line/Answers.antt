use Rattle.std.proofs.Common.{◌∙◌, ap, subst, Some, Err}
use Rattle.sl_defs.specs.Schedules.{line_text, IsLine}
use Rattle.sl_defs.specs.declared.event.Line.TheVariants as line
use Rattle.slice.proofs.Histories.{is_of}
use Rattle.slice.proofs.Going.{text_done, remark_passes, moment_stops, bad_stops, unread_stops, placed, unplaced}
use Rattle.slice.proofs.perform.perform_line.Goals as goal

pub returns-in-Ok-Happens-clause-done : goal.returns-in-Ok-Happens-clause-done
returns-in-Ok-Happens-clause-done g c = λ past s.
    let read = c.in-Ok-Happens in
    let v = c.args.world.now in
    text_done (line.Happens read.event) c.args.text.now past (read.ensures.found.1 ∙ ap line_text read.field-0-is)
    (placed v past (line.Happens read.event) s (subst (IsLine (Some v.proxy.setup)) read.field-0-is read.ensures.found.0))
    c.perform_event.result c.perform_event.new.world _ _ (c.perform_event.ensures.done past s)

pub returns-in-Ok-Flow-clause-done : goal.returns-in-Ok-Flow-clause-done
returns-in-Ok-Flow-clause-done g c = λ past s.
    let read = c.in-Ok-Flow in
    let v = c.args.world.now in
    text_done (line.Flow read.most) c.args.text.now past (read.ensures.found.1 ∙ ap line_text read.field-0-is)
    (placed v past (line.Flow read.most) s (subst (IsLine (Some v.proxy.setup)) read.field-0-is read.ensures.found.0))
    c.flow.result c.flow.new.world _ _ (c.flow.ensures.done past s)

pub returns-in-Ok-Remark-clause-done : goal.returns-in-Ok-Remark-clause-done
returns-in-Ok-Remark-clause-done g c = λ past s.
    let read = c.in-Ok-Remark in
    let v = c.args.world.now in
    remark_passes read.field-0-0 c.args.text.now past v _ (read.ensures.found.1 ∙ ap line_text read.field-0-is)
    (placed v past (line.Remark read.field-0-0) s (subst (IsLine (Some v.proxy.setup)) read.field-0-is read.ensures.found.0)) s

pub returns-in-Ok-At-clause-done : goal.returns-in-Ok-At-clause-done
returns-in-Ok-At-clause-done g c = λ past s.
    let read = c.in-Ok-At in
    let v = c.args.world.now in
    moment_stops read.field-0-0 c.args.text.now past v _ (read.ensures.found.1 ∙ ap line_text read.field-0-is)
    (placed v past (line.At read.field-0-0) s (subst (IsLine (Some v.proxy.setup)) read.field-0-is read.ensures.found.0)) s

pub returns-in-Err-Bad-clause-done : goal.returns-in-Err-Bad-clause-done
returns-in-Err-Bad-clause-done g c = λ past s.
    let v = c.args.world.now in
    bad_stops c.args.text.now past _ (λ l fits place e. c.in-Err-Bad.ensures.bad (ap Err c.in-Err-Bad.field-0-is) l fits (unplaced v past l s place) e) (is_of v past s)

pub returns-clause-done : goal.returns-clause-done
returns-clause-done g c = λ past s. unread_stops c.args.text.now past _ (is_of c.args.world.now past s)
