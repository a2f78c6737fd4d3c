use Rattle.sl_defs.specs.declared.bytes.NoMemory.{NoMemory}
use Rattle.sl_wiring.proofs.SceneLaws.{scene_flush}
use Rattle.sl_wiring.proofs.docket.Docket.is_wired_flush.Goals as goal

pub returns : goal.returns
returns c = λ setup start t past before is.
    scene_flush NoMemory setup start t past before c.args.self.now c.args.self.now.volume c.args.after.now c.in_ok-servers.servers.items c.as_slice.result.now c.is_granted.result is c.in_ok-servers.ensures
    c.as_slice.ensures.value c.is_granted.ensures
