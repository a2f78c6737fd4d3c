use Rattle.std.proofs.Common.{◌∷◌}
use Rattle.sl_history.specs.Turns.{so_far}
use Rattle.sl_history.specs.Wired.{MayNote}
use Rattle.sl_past.specs.Words.{remark_of}
use Rattle.sl_ledger.specs.declared.fault.AuditFault.{AuditFault}
use Rattle.sl_wiring.proofs.Saying.{says_true}
use Rattle.sl_wiring.proofs.wired.note.Goals as goal

pub returns : goal.returns
returns c = record {
  notes = record {
    decides = λ setup start t past before happens is.
        says_true AuditFault c.in_ok-may.may (MayNote setup start past t (so_far t before ∷ past) (remark_of c.args.remark.now)) c.if-not-may.false
        (c.in_ok-may.ensures.decides setup start t past before happens is);
    takes = λ _ setup start t past before is. c.in_ok-take.ensures.taken setup start (so_far t before) past is;
    stopped = λ setup start h is. tt;
  };
}
