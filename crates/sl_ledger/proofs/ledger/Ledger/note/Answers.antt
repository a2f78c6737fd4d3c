use Rattle.std.proofs.Common.{◌∷◌, Some, refl, sym, subst}
use Rattle.std.proofs.lemmas.Result.{on_ok_weaker}
use Rattle.sl_history.specs.Turns.{Early, Full, Junk, Lost, noted}
use Rattle.sl_past.specs.Words.{remark_of}
use Rattle.sl_past.specs.declared.remark.Remark.{Remark}
use Rattle.sl_ledger.specs.declared.ledger.Ledger.{Ledger}
use Rattle.sl_ledger.specs.Ledgers.{IsLedgerOf}
use Rattle.sl_ledger.proofs.LedgerLaws.{drop_early, drop_full, drop_junk, drop_lost, ledger_did, ledger_down, ledger_dropped, ledger_flushed, ledger_replied, ledger_verified}
use Rattle.sl_ledger.proofs.ledger.Ledger.note.Goals as goal

pub returns-in-Sent : goal.returns-in-Sent
returns-in-Sent c =
    on_ok_weaker c.note_frame.result (λ now t past is.
    subst (λ (x : Remark). IsLedgerOf (noted (t ∷ past) (remark_of x)) c.note_frame.new.self) (sym c.in-Sent.is) (now t past is))
    c.note_frame.ensures

pub returns-in-Verf : goal.returns-in-Verf
returns-in-Verf c = λ t past is.
    let l = c.args.self.now in
    let l' : Ledger = record { arrivals = c.forget.new.self; sent = l.sent; up = l.up; was_up = l.was_up; last_hello = l.last_hello; last_verf = Some c.in-Verf.verifier } in
    subst (λ (x : Remark). IsLedgerOf (noted (t ∷ past) (remark_of x)) l') (sym c.in-Verf.is)
    (ledger_verified t past c.in-Verf.verifier l l' is (c.forget.ensures t past c.in-Verf.verifier is.arrived) refl refl refl refl refl)

pub returns-in-Replied : goal.returns-in-Replied
returns-in-Replied c = λ t past is.
    let l = c.args.self.now in
    let l' = record l { arrivals = c.answer.new.self } in
    subst (λ (x : Remark). IsLedgerOf (noted (t ∷ past) (remark_of x)) l') (sym c.in-Replied.is)
    (ledger_replied t past c.in-Replied.arrival c.in-Replied.event c.in-Replied.bytes l l' is (c.answer.ensures t past c.in-Replied.event c.in-Replied.bytes is.arrived) refl refl refl refl refl)

pub returns-in-Junk : goal.returns-in-Junk
returns-in-Junk c = λ t past is.
    let l = c.args.self.now in
    let l' = record l { arrivals = c.turn_away.new.self } in
    subst (λ (x : Remark). IsLedgerOf (noted (t ∷ past) (remark_of x)) l') (sym c.in-Junk.is)
    (ledger_dropped t past c.in-Junk.arrival (Junk c.in-Junk.arrival) l l' (drop_junk c.in-Junk.arrival) is c.turn_away.ensures refl refl refl refl refl)

pub returns-in-Early : goal.returns-in-Early
returns-in-Early c = λ t past is.
    let l = c.args.self.now in
    let l' = record l { arrivals = c.turn_away-in-Early.new.self } in
    subst (λ (x : Remark). IsLedgerOf (noted (t ∷ past) (remark_of x)) l') (sym c.in-Early.is)
    (ledger_dropped t past c.in-Early.arrival (Early c.in-Early.arrival) l l' (drop_early c.in-Early.arrival) is c.turn_away-in-Early.ensures refl refl refl refl refl)

pub returns-in-Full : goal.returns-in-Full
returns-in-Full c = λ t past is.
    let l = c.args.self.now in
    let l' = record l { arrivals = c.turn_away-in-Full.new.self } in
    subst (λ (x : Remark). IsLedgerOf (noted (t ∷ past) (remark_of x)) l') (sym c.in-Full.is)
    (ledger_dropped t past c.in-Full.arrival (Full c.in-Full.arrival) l l' (drop_full c.in-Full.arrival) is c.turn_away-in-Full.ensures refl refl refl refl refl)

pub returns-in-Lost : goal.returns-in-Lost
returns-in-Lost c = λ t past is.
    let l = c.args.self.now in
    let l' = record l { arrivals = c.turn_away-in-Lost.new.self } in
    subst (λ (x : Remark). IsLedgerOf (noted (t ∷ past) (remark_of x)) l') (sym c.in-Lost.is)
    (ledger_dropped t past c.in-Lost.arrival (Lost c.in-Lost.arrival) l l' (drop_lost c.in-Lost.arrival) is c.turn_away-in-Lost.ensures refl refl refl refl refl)

pub returns-in-Down : goal.returns-in-Down
returns-in-Down c = λ t past is.
    let l = c.args.self.now in
    let l' = record l { up = c.put.new.self } in
    subst (λ (x : Remark). IsLedgerOf (noted (t ∷ past) (remark_of x)) l') (sym c.in-Down.is)
    (ledger_down t past c.in-Down.actor l l' is refl refl c.put.ensures refl refl refl)

pub returns-in-Did : goal.returns-in-Did
returns-in-Did c = λ t past is.
    let l = c.args.self.now in
    let l' = l in
    subst (λ (x : Remark). IsLedgerOf (noted (t ∷ past) (remark_of x)) l') (sym c.in-Did.is)
    (ledger_did t past c.in-Did.arrival c.in-Did.at c.in-Did.choice l is)

pub returns-in-Flush : goal.returns-in-Flush
returns-in-Flush c = λ t past is.
    let l = c.args.self.now in
    let l' = l in
    subst (λ (x : Remark). IsLedgerOf (noted (t ∷ past) (remark_of x)) l') (sym c.in-Flush.is)
    (ledger_flushed t past c.in-Flush.field-0 l is)
