use Rattle.sl_world.proofs.Arriving.{other_fence, other_sender, welcomed_before, welcome_noted}
use Rattle.sl_world.proofs.Using.{unused_welcome, used_nothing}
use Rattle.sl_world.proofs.proxy.Proxy.greet.Goals as goal
use Rattle.sl_world.proofs.proxy.Proxy.greet.Goals.{then-frame-self-via-then-frame-self, then-frame-self-via-else-frame-self+then-frame-ne-COORDINATOR, then-frame-self-via-else-frame-self+else-frame-ne-COORDINATOR+then-self}

pub returns-then-frame-self : goal.returns-then-frame-self
returns-then-frame-self c = record {
  gives = λ e. used_nothing c.args.self.now c.args.frame.now e c.silent.result
      (unused_welcome c.args.self.now c.args.frame.now c.requires
      (elim c.then-frame-self.branch [
        | then-frame-self-via-then-frame-self w ↦ other_fence c.args.frame.now.fence c.args.self.now.fence _ w.if-frame-self.true
        | then-frame-self-via-else-frame-self+then-frame-ne-COORDINATOR w ↦ other_sender c.args.frame.now.fence c.args.self.now.fence c.args.frame.now.from _ w.if-frame-ne-COORDINATOR.true
        | then-frame-self-via-else-frame-self+else-frame-ne-COORDINATOR+then-self w ↦ welcomed_before c.args.frame.now.fence c.args.self.now.fence c.args.frame.now.from c.args.self.now.welcomed w.if-self.true
      ]))
      c.silent.ensures.frames c.silent.ensures.notes;
}

pub returns : goal.returns
returns c = record {
  gives = λ e. welcome_noted c.args.self.now c.args.frame.now e c.noting.result c.requires c.if-frame-self.false c.if-frame-ne-COORDINATOR.false c.if-self.false c.noting.ensures;
}
