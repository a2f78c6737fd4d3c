use Rattle.std.proofs.Common.{Bool, ◌||◌, ap, sym, ◌∙◌}
use Rattle.sl_history.specs.Licensed.{stops_one}
use Rattle.sl_past.specs.Words.{happening_of}
use Rattle.sl_licence.proofs.Histories.{lost-begun}
use Rattle.sl_licence.proofs.Sending.{begun_sent}
use Rattle.sl_licence.proofs.evidence.Evidence.begin.Goals as goal

pub returns : goal.returns
returns c = λ past moment is.
    let happening = happening_of c.args.happening.now in
    let ledger = c.in_ok-begin.ensures past moment is.ledger in
    record {
      ledger = ledger;
      lost = c.lost_as_begins-self.ensures past moment ledger ∙ ap (λ (b : Bool). b || stops_one past happening) is.lost ∙ sym (lost-begun past happening moment);
      flushes = c.in_ok-begin-2.ensures past happening moment ledger is.flushes;
      requests = begun_sent past happening moment c.args.self.now.requests is.requests;
      flushing = c.begin-2.ensures past happening moment ledger is.flushing;
      mints = c.in_ok-begin-3.ensures past happening moment ledger is.mints;
    }
