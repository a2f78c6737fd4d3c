use Rattle.std.proofs.Common.{Option, sym, subst, ◌∙◌}
use Rattle.sl_wiring.specs.declared.grants.Grant.{Grant}
use Rattle.sl_wiring.specs.Given.{HasMore}
use Rattle.sl_wiring.proofs.Granting.{exact_grants, grant_cmp, grants_total}
use Rattle.sl_wiring.proofs.Sets.{one_more}
use Rattle.sl_wiring.proofs.grants.Grants.take.Goals as goal

pub returns-in-Ok : goal.returns-in-Ok
returns-in-Ok c =
    subst (λ (g : Option Grant). HasMore c.args.self.now.items.keys c.insert.new.self.keys g) (sym c.in-Some.is ∙ c.grant_by.ensures)
    (one_more grant_cmp grants_total exact_grants c.args.self.now.items c.insert.new.self c.in-Some.grant c.in-Ok.ensures.updates)
