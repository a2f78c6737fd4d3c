use Rattle.std.proofs.Common.{◌≡◌, ◌↔◌, ◌∷◌, true, refl, subst}
use Rattle.sl_model.specs.Volume.{Volume}
use Rattle.sl_past.specs.Words.{remark_of}
use Rattle.sl_licence.specs.Evidence.{HasSpace}
use Rattle.sl_licence.proofs.Judging.{judges_by}
use Rattle.sl_licence.proofs.docket.Docket.judge.Goals as goal

pub returns : goal.returns
returns c =
    let d = c.args.self.now in
    let r = remark_of c.args.remark.now in
    record {
      judges = judges_by c.args.crowds.now d (record { evidence = d.evidence; volume = c.serve.new.volume }) r c.in-Ok.may c.has_space.result c.if-not-may.false c.in-Ok.ensures
          (λ start t past is.
          subst (λ (v : Volume). (c.has_space.result ≡ true) ↔ HasSpace v (t ∷ past) r) is.volume
          (c.has_space.ensures (t ∷ past) d.volume is.evidence (c.in_ok-reply.ensures.serves (t ∷ past) is.evidence.ledger).1))
          (λ start t past is. (refl, c.in_ok-reply.ensures.follows start t past is.evidence.ledger is.volume));
    }
