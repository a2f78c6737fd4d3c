use Rattle.std.proofs.Common.{refl}
use Rattle.sl_past.specs.Words.{happening_of}
use Rattle.sl_ledger.proofs.SentLaws.{sent_begun}
use Rattle.sl_ledger.proofs.sent.SentFrames.begin.Goals as goal

pub returns : goal.returns
returns c = λ past moment is.
    let s = c.args.self.now in
    sent_begun past (happening_of c.args.happening.now) moment s
    (record { frames = s.frames; older = c.count-self.result; by_number = s.by_number; requests = s.requests; flying = c.land.new.flying; given = c.place_given-self.result })
    is refl c.count-self.ensures refl refl c.place_given-self.ensures c.land.ensures
