use Rattle.std.proofs.Common.{sym, ap}
use Rattle.std.proofs.lemmas.Bool.{iff_false}
use Rattle.sl_defs.specs.declared.bytes.NoMemory.{NoMemory}
use Rattle.sl_defs.specs.declared.setup.Setup.{Setup}
use Rattle.sl_history.specs.Wired.{IsOfSite}
use Rattle.sl_wiring.proofs.Saying.{says_same, says_true}
use Rattle.sl_wiring.proofs.docket.Docket.is_wired_call.Goals as goal

pub returns : goal.returns
returns c = λ setup start t past before is.
    let site : IsOfSite setup c.args.self.now.volume c.args.after.now c.args.choice.fileid =
    says_true NoMemory c.in_ok-of_site.of_site (IsOfSite setup c.args.self.now.volume c.args.after.now c.args.choice.fileid) c.if-not-of_site.false
    (c.in_ok-of_site.ensures setup (ap (λ (s : Setup). s.policy) (sym is.setup_is))) in
    says_same c.is_wired_effect.result (λ effect. record { stands = λ differs. effect; site = site }) (λ did. did.stands (λ same. iff_false c.is_same.ensures c.if-is_same.false same))
    (c.is_wired_effect.ensures setup start t past before is)
