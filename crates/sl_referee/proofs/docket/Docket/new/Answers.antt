use Rattle.std.proofs.Common.{[], ◌∷◌, ◌++◌, List, false, refl, ap, ◌∙◌}
use Rattle.sl_referee.specs.declared.case.Case.{Case}
use Rattle.sl_referee.proofs.Opening.{new_docket}
use Rattle.sl_referee.proofs.docket.Docket.new.Goals as goal

pub returns-clause-begins : goal.returns-clause-begins
returns-clause-begins c =
    new_docket (record { cases = c.push_case.new.cases; volume = c.args.volume; ends = c.new.result; is_proxy_up = false; is_event = false }) c.no_case.result
    (c.in_ok-push_case.ensures.pushed ∙ ap (λ (cs : List Case). cs ++ c.no_case.result ∷ []) c.new-cases.ensures.items) c.new.ensures.items refl refl
    c.no_case.ensures.datagram c.no_case.ensures.effect c.no_case.ensures.replied
