use Rattle.std.proofs.Common.{◌∷◌, ap}
use Rattle.sl_history.specs.Turns.{Did, Flush, Sent, so_far}
use Rattle.sl_history.specs.Wired.{MayNote}
use Rattle.sl_past.specs.Words.{remark_of}
use Rattle.sl_wiring.proofs.NoteLaws.{audited_says, did_says, flush_says}
use Rattle.sl_wiring.proofs.wired.may_note.Goals as goal

pub returns-in-Sent-clause-decides : goal.returns-in-Sent-clause-decides
returns-in-Sent-clause-decides c = λ setup start t past before happens is.
    audited_says c.is_sent.result c.audited.result (remark_of c.args.remark.now) (Sent c.in-Sent.number c.in-Sent.frame) (MayNote setup start past t (so_far t before ∷ past)) c.audited.ensures
    (ap remark_of c.in-Sent.is) (c.is_sent.ensures setup start t past before happens is)

pub returns-in_ok-after-in-Did-clause-decides : goal.returns-in_ok-after-in-Did-clause-decides
returns-in_ok-after-in-Did-clause-decides c = λ setup start t past before happens is.
    let h = so_far t before ∷ past in
    let did = ap remark_of c.in-Did.is in
    audited_says c.is_wired_did.result c.audited-in-Did.result (remark_of c.args.remark.now) (Did c.in-Did.arrival c.in-Did.at c.in-Did.choice) (MayNote setup start past t h) c.audited-in-Did.ensures did
    (did_says setup start t past h c.is_wired_did.result c.args.docket.now.volume c.in_ok-after-in-Did.after (remark_of c.args.remark.now) c.in-Did.arrival c.in-Did.at c.in-Did.choice is.volume
    (c.in_ok-after-in-Did.ensures.after setup start h is) did (c.is_wired_did.ensures setup start t past before is))

pub returns-in_ok-after-in-Flush-clause-decides : goal.returns-in_ok-after-in-Flush-clause-decides
returns-in_ok-after-in-Flush-clause-decides c = λ setup start t past before happens is.
    let h = so_far t before ∷ past in
    let flush = ap remark_of c.in-Flush.is in
    audited_says c.is_wired_flush.result c.audited-in-Flush.result (remark_of c.args.remark.now) (Flush c.in-Flush.field-0) (MayNote setup start past t h) c.audited-in-Flush.ensures flush
    (flush_says setup start t past h c.is_wired_flush.result c.args.docket.now.volume c.in_ok-after-in-Flush.after (remark_of c.args.remark.now) c.in-Flush.field-0 is.volume
    (c.in_ok-after-in-Flush.ensures.after setup start h is) flush (c.is_wired_flush.ensures setup start t past before is))
