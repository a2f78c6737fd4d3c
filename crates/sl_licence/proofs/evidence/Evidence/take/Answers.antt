use Rattle.std.proofs.Common.{[], ◌∷◌, ap, sym, ◌∙◌}
use Rattle.sl_history.specs.Licensed.{lost_on}
use Rattle.sl_past.specs.Words.{remark_of}
use Rattle.sl_licence.proofs.Histories.{lost-noted}
use Rattle.sl_licence.proofs.evidence.Evidence.take.Goals as goal

pub returns-clause-taken : goal.returns-clause-taken
returns-clause-taken c = λ t past is may.
    let r = remark_of c.args.remark.now in
    record {
      ledger = c.in_ok-note.ensures t past is.ledger;
      lost = c.lost_by-self.ensures ∙ ap (lost_on (r ∷ [])) is.lost ∙ sym (lost-noted t past r);
      flushes = c.in_ok-note-2.ensures t past is.flushes may;
      requests = c.in_ok-new.ensures.noted t past is.requests;
      flushing = c.in_ok-note-3.ensures t past is.flushing;
      mints = c.in_ok-note-4.ensures t past is.mints;
    }
