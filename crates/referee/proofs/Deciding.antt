-- What an answer says of a claim.
use Rattle.std.proofs.Common.{◌≡◌, sym, subst, Bool, true, false, Result, Ok, Err, IfOk, IfErr}
use Rattle.sl_history.specs.Deciding.{Says}
use Rattle.sl_referee.specs.declared.fault.RefereeFault.{RefereeFault}
use Rattle.sl_referee.specs.declared.fault.RefereeFault.TheVariants as fault
use Rattle.sl_ledger.specs.declared.fault.AuditFault.{AuditFault}
use Rattle.sl_ledger.specs.declared.fault.AuditFault.TheVariants as audit
use Rattle.referee.specs.declared.verdict.Answer.{Answer}
use Rattle.referee.specs.Verdicts.{IsAudited, IsFound, IsJudged, plain_answer}

pub plain_is : (E : Type 0) (claim spent long : Type 0) (holds : Bool) → Says {E = E} (Ok holds) claim → IsFound claim spent long (plain_answer holds)
plain_is E claim spent long true says = says
plain_is E claim spent long false says = says

judged : (claim : Type 0) (stops : RefereeFault → Type 0) (r : Result Bool RefereeFault) (answer : Answer) → Says r claim → IfErr r stops → IsJudged r answer
    → IsFound claim (stops fault.Spent) (stops fault.TooLong) answer
judged claim stops (Ok holds) answer says stopped is = subst (λ (y : Answer). IsFound claim (stops fault.Spent) (stops fault.TooLong) y) (sym is) (plain_is RefereeFault claim (stops fault.Spent) (stops fault.TooLong) holds says)
judged claim stops (Err fault.Spent) answer says stopped is = subst (λ (y : Answer). IsFound claim (stops fault.Spent) (stops fault.TooLong) y) (sym is) stopped
judged claim stops (Err fault.TooLong) answer says stopped is = subst (λ (y : Answer). IsFound claim (stops fault.Spent) (stops fault.TooLong) y) (sym is) stopped
judged claim stops (Err fault.NoMemory) answer says stopped is = absurd is

pub judged_is : {E : Type 0} (claim : Type 0) (stops : RefereeFault → Type 0) (r : Result Bool RefereeFault) (answer : Result Answer E) → Says r claim → IfErr r stops → IfOk answer (IsJudged r)
    → IfOk answer (IsFound claim (stops fault.Spent) (stops fault.TooLong))
judged_is claim stops r (Ok answer) says stopped is = judged claim stops r answer says stopped is
judged_is claim stops r (Err e) says stopped is = tt

audited : (claim : Type 0) (stops : AuditFault → Type 0) (r : Result Bool AuditFault) (answer : Answer) → Says r claim → IfErr r stops → IsAudited r answer
    → IsFound claim (stops audit.Spent) ⊥ answer
audited claim stops (Ok holds) answer says stopped is = subst (λ (y : Answer). IsFound claim (stops audit.Spent) ⊥ y) (sym is) (plain_is AuditFault claim (stops audit.Spent) ⊥ holds says)
audited claim stops (Err audit.Spent) answer says stopped is = subst (λ (y : Answer). IsFound claim (stops audit.Spent) ⊥ y) (sym is) stopped
audited claim stops (Err audit.NoMemory) answer says stopped is = absurd is

pub audited_is : {E : Type 0} (claim : Type 0) (stops : AuditFault → Type 0) (r : Result Bool AuditFault) (answer : Result Answer E) → Says r claim → IfErr r stops → IfOk answer (IsAudited r)
    → IfOk answer (IsFound claim (stops audit.Spent) ⊥)
audited_is claim stops r (Ok answer) says stopped is = audited claim stops r answer says stopped is
audited_is claim stops r (Err e) says stopped is = tt
