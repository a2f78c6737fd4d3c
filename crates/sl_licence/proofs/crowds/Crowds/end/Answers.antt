use Rattle.std.proofs.Common.{Some, ap, sym, ◌∙◌}
use Rattle.std.specs.List.{list_any}
use Rattle.sl_model.specs.Volume.{Volume}
use Rattle.sl_licence.specs.Crowds.{had, had_if}
use Rattle.sl_licence.proofs.Crowding.{as_before, ends_with, many_then, pushed}
use Rattle.sl_licence.proofs.Saying.{on_ok_one}
use Rattle.sl_licence.proofs.crowds.Crowds.end.Goals as goal

pub returns-in_default : goal.returns-in_default
returns-in_default c = λ start t past newest flushing volume are.
    as_before start t past c.args.self.now
    (λ n f. ap (had_if n f) (sym c.in_default.is) ∙ c.in_ok-crowd.ensures n f
    ∙ many_then start t past c.args.event n f c.args.flushing.now.files.items c.args.volume.now.unstable newest flushing.files (ap (λ (v : Volume). v.unstable) volume)) are

pub returns : goal.returns
returns c =
    on_ok_one c.push_crowd.result (λ items start t past newest flushing volume are.
    ends_with start t past c.args.self.now (record { crowds = c.push_crowd.new.crowds }) (Some c.in-Some.crowd)
    (λ n f. ap (list_any (had n f)) items ∙ pushed c.args.self.now.crowds.items c.in-Some.crowd n f)
    (λ n f. ap (had_if n f) (sym c.in-Some.is) ∙ c.in_ok-crowd.ensures n f
    ∙ many_then start t past c.args.event n f c.args.flushing.now.files.items c.args.volume.now.unstable newest flushing.files (ap (λ (v : Volume). v.unstable) volume)) are) c.push_crowd.ensures
