use Rattle.std.proofs.Common.{ℕ, sym, subst, ◌∙◌}
use Rattle.std.specs.List.{All, Contains}
use Rattle.sl_wiring.proofs.Serving.{some_is}
use Rattle.sl_wiring.proofs.grants.Grants.has_all.Goals as goal

pub returns-in-Some : goal.returns-in-Some
returns-in-Some c = (
  λ said. record { op = c.in-Some.op; now = λ granted e. some_is c.in-Some.op granted (sym c.in-Some.is ∙ e); each = c.has_each.ensures.0 said },
  λ one. c.has_each.ensures.1
      (subst (λ (n : ℕ). All (λ server. Contains c.args.self.now.items.keys (record { op = n; server = server })) c.args.servers.now) (one.now c.in-Some.op c.in-Some.is) one.each),
)
