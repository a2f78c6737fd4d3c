use Rattle.std.proofs.Common.{List, false, ap, sym, ◌∙◌}
use Rattle.std.specs.List.{list_any}
use Rattle.sl_model.specs.Volume.{Volume}
use Rattle.sl_licence.specs.declared.crowds.Crowd.{Crowd}
use Rattle.sl_licence.specs.Crowds.{had, had_if}
use Rattle.sl_licence.proofs.Crowding.{had_before, had_now, many_then}
use Rattle.sl_licence.proofs.crowds.Crowds.had_many.Goals as goal

pub returns-then-any_had : goal.returns-then-any_had
returns-then-any_had c = λ start t past newest flushing volume are.
    had_before start t past c.args.n c.args.file
    (sym (are.had c.args.n c.args.file) ∙ ap (λ (cs : List Crowd). list_any (had c.args.n c.args.file) cs) (sym c.as_slice.ensures.value) ∙ sym c.any_had.ensures ∙ c.if-any_had.true)

pub returns-in_default : goal.returns-in_default
returns-in_default c = λ start t past newest flushing volume are.
    had_now start t past c.args.n c.args.file false
    (sym (are.had c.args.n c.args.file) ∙ ap (λ (cs : List Crowd). list_any (had c.args.n c.args.file) cs) (sym c.as_slice.ensures.value) ∙ sym c.any_had.ensures ∙ c.if-any_had.false)
    (ap (had_if c.args.n c.args.file) (sym c.in_default.is) ∙ c.in_ok-now.ensures c.args.n c.args.file
    ∙ many_then start t past c.args.newest c.args.n c.args.file c.args.flushing.now.files.items c.args.volume.now.unstable newest flushing.files (ap (λ (v : Volume). v.unstable) volume))

pub returns : goal.returns
returns c = λ start t past newest flushing volume are.
    had_now start t past c.args.n c.args.file c.had.result
    (sym (are.had c.args.n c.args.file) ∙ ap (λ (cs : List Crowd). list_any (had c.args.n c.args.file) cs) (sym c.as_slice.ensures.value) ∙ sym c.any_had.ensures ∙ c.if-any_had.false)
    (c.had.ensures ∙ ap (had_if c.args.n c.args.file) (sym c.in-Some.is) ∙ c.in_ok-now.ensures c.args.n c.args.file
    ∙ many_then start t past c.args.newest c.args.n c.args.file c.args.flushing.now.files.items c.args.volume.now.unstable newest flushing.files (ap (λ (v : Volume). v.unstable) volume))
