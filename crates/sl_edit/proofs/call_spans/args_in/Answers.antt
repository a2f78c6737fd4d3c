use Rattle.std.proofs.Common.{ℕ, List, Some, ap, sym, subst, ◌∙◌, arith}
use Rattle.sl_rpc.specs.Heads.{IsHeadOf}
use Rattle.sl_edit.proofs.Wholes.{args_of_call, no_args}
use Rattle.sl_edit.proofs.call_spans.args_in.Goals as goal

pub returns-in-Some : goal.returns-in-Some
returns-in-Some c = let found = args_of_call c.args.packet.now c.in-Call.xid c.in-Call.procedure c.in-Call.args c.in-Call.cred (subst (IsHeadOf c.args.packet.now) c.in-Call.is c.read_call.ensures) in found ∙ ap (λ (r : List ℕ). Some (c.in-Call.procedure, r)) (sym c.in-Some.ensures.cases.2)

pub returns-in_default : goal.returns-in_default
returns-in_default c = no_args c.args.packet.now c.read_call.result (λ i. omega (arith, c.type_inv.packet i)) c.read_call.ensures (λ xid procedure args cred e. c.in_default.not-Call xid procedure cred args e)
