use Rattle.std.proofs.Common.{Some, None, sym, ◌∙◌}
use Rattle.sl_defs.specs.declared.bytes.NoMemory.{NoMemory}
use Rattle.sl_wiring.proofs.KindLaws.{wires_as}
use Rattle.sl_wiring.proofs.Saying.{says_bool, says_same}
use Rattle.sl_wiring.proofs.docket.Docket.is_wired_effect.Goals as goal

pub returns-in-Some : goal.returns-in-Some
returns-in-Some c = λ setup start t past before is.
    let wires = wires_as setup past t c.args.self.now.volume c.args.after.now c.args.arrival c.args.kept c.args.call.now (Some (c.in-Some.file, c.in-Some.offset)) (sym c.in-Some.is ∙ c.unkept_write.ensures) in
    let both = c.is_packet_for.ensures setup start t past before is in
    says_bool NoMemory c.is_packet_for.result (λ said. wires.1 (both.0 said), λ effect. both.1 (wires.0 effect))

pub returns-in-None : goal.returns-in-None
returns-in-None c = λ setup start t past before is.
    let wires = wires_as setup past t c.args.self.now.volume c.args.after.now c.args.arrival c.args.kept c.args.call.now None (sym c.in-None.is ∙ c.unkept_write.ensures) in
    says_same c.stands_rightly.result (λ stands. wires.1 stands) (λ effect. wires.0 effect) (c.stands_rightly.ensures setup start t past before is)
