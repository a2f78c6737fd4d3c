use Rattle.std.proofs.Common.{◌≡◌, subst, rules}
use Rattle.sl_world.specs.Proxying.{IsOut}
use Rattle.sl_world.proofs.Trees.{first_out, out_of}
use Rattle.sl_world.proofs.looks.Looks.sent_to.Goals as goal

pub loop-event-init : goal.loop-event-init
loop-event-init c =
    let all : c.self.inside.calls.entries ≡ c.into_iter-event-iterator.result = search rules in
    subst (λ es. IsOut c.args.self.now c.args.server c.args.tag (first_out c.args.server c.args.tag es)) all
    (subst (λ m. IsOut m c.args.server c.args.tag (first_out c.args.server c.args.tag c.self.inside.calls.entries)) c.self.view_is
    (out_of c.args.server c.args.tag c.self.inside.calls.entries c.iter-event-items.ensures.ordered))
