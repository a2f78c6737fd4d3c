use Rattle.std.proofs.Common.{◌∷◌, sym, subst}
use Rattle.sl_history.specs.Turns.{noted}
use Rattle.sl_past.specs.Words.{remark_of}
use Rattle.sl_past.specs.declared.remark.Remark.{Remark}
use Rattle.sl_licence.specs.Mints.{AreMintsOf}
use Rattle.sl_licence.proofs.Minting.{noted_else, sends}
use Rattle.sl_licence.proofs.Noting.{no_sending}
use Rattle.sl_licence.proofs.Saying.{on_ok_one}
use Rattle.sl_licence.proofs.mints.Mints.note.Goals as goal

pub returns-in-Sent : goal.returns-in-Sent
returns-in-Sent c =
    on_ok_one c.send.result (λ asks t past are.
    subst (λ (x : Remark). AreMintsOf (noted (t ∷ past) (remark_of x)) c.send.new.self) (sym c.in-Sent.is)
    (sends t past c.in-Sent.number c.in-Sent.frame c.args.self.now c.send.new.self asks are)) c.send.ensures

pub returns-in_default : goal.returns-in_default
returns-in_default c = λ t past are. noted_else t past (remark_of c.args.remark.now) c.args.self.now (no_sending c.args.remark.now c.in_default.not-Sent) are
