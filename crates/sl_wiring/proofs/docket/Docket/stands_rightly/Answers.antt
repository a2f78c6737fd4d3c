use Rattle.std.proofs.lemmas.Bool.{iff_false}
use Rattle.std.proofs.Common.{sym, ◌∙◌}
use Rattle.sl_defs.specs.declared.bytes.NoMemory.{NoMemory}
use Rattle.sl_wiring.proofs.SceneLaws.{scene_granted, scene_nobody, scene_says}
use Rattle.sl_wiring.proofs.docket.Docket.stands_rightly.Goals as goal

pub returns-then-is_granted : goal.returns-then-is_granted
returns-then-is_granted c = λ setup start t past before is.
    scene_granted setup start t past before c.args.self.now c.args.self.now.volume c.args.after.now c.in_ok-servers.servers.items c.as_slice.result.now is c.in_ok-servers.ensures c.as_slice.ensures.value
    (c.is_granted.ensures.0 c.if-is_granted.true)

pub returns-in-Some : goal.returns-in-Some
returns-in-Some c = λ setup start t past before is.
    scene_says NoMemory setup start t past before c.args.self.now c.args.self.now.volume c.args.after.now c.in_ok-servers.servers.items c.as_slice.result.now c.as_slice-in-Some.result.now c.in-Some.server
    c.are_all.result is c.in_ok-servers.ensures c.as_slice.ensures.value c.as_slice-in-Some.ensures.value (iff_false c.is_granted.ensures c.if-is_granted.false)
    (sym c.acting_directory.ensures ∙ c.in-Some.is) c.are_all.ensures

pub returns : goal.returns
returns c = λ setup start t past before is.
    scene_nobody setup start t past before c.args.self.now c.args.self.now.volume c.args.after.now c.in_ok-servers.servers.items c.as_slice.result.now is c.in_ok-servers.ensures c.as_slice.ensures.value
    (iff_false c.is_granted.ensures c.if-is_granted.false) (sym c.acting_directory.ensures ∙ c.in-None.is)
