use Rattle.std.proofs.Common.{Ok, true, sym, refl, subst}
use Rattle.sl_past.specs.Words.{remark_of}
use Rattle.sl_past.specs.declared.remark.Remark.{Remark}
use Rattle.sl_referee.specs.Notes.{Notes}
use Rattle.sl_referee.proofs.Taking.{down, early, flush_notes, full, junk, lost, sent, verified}
use Rattle.sl_referee.proofs.docket.Docket.note.Goals as goal

pub returns-in-Flush : goal.returns-in-Flush
returns-in-Flush c =
    let d = c.args.self.now in
    record { notes = subst (λ (x : Remark). Notes d (c.note_flush.new.self) c.args.now (remark_of x) (c.note_flush.result)) (sym c.in-Flush.is) (flush_notes d c.note_flush.new.self c.args.now c.in-Flush.file c.note_flush.result c.note_flush.ensures.flushed c.note_flush.ensures.stopped) }

pub returns-in-Verf : goal.returns-in-Verf
returns-in-Verf c =
    let d = c.args.self.now in
    record { notes = subst (λ (x : Remark). Notes d (record d { volume = c.restart.new.self }) c.args.now (remark_of x) (Ok true)) (sym c.in-Verf.is) (verified d (record d { volume = c.restart.new.self }) c.args.now c.in-Verf.verifier refl c.restart.ensures refl refl refl) }

pub returns-in-Down : goal.returns-in-Down
returns-in-Down c =
    let d = c.args.self.now in
    record { notes = subst (λ (x : Remark). Notes d (record d { is_proxy_up = c.stays_up-self.result }) c.args.now (remark_of x) (Ok true)) (sym c.in-Down.is) (down d (record d { is_proxy_up = c.stays_up-self.result }) c.args.now c.in-Down.actor refl refl refl c.stays_up-self.ensures refl) }

pub returns-in-Sent : goal.returns-in-Sent
returns-in-Sent c =
    let d = c.args.self.now in
    record { notes = subst (λ (x : Remark). Notes d (d) c.args.now (remark_of x) (Ok true)) (sym c.in-Sent.is) (sent d c.args.now c.in-Sent.number c.in-Sent.frame) }

pub returns-in-Junk : goal.returns-in-Junk
returns-in-Junk c =
    let d = c.args.self.now in
    record { notes = subst (λ (x : Remark). Notes d (c.note_drop.new.self) c.args.now (remark_of x) (Ok c.note_drop.result)) (sym c.in-Junk.is) (junk d c.note_drop.new.self c.args.now c.in-Junk.arrival c.note_drop.result c.note_drop.ensures.notes) }

pub returns-in-Early : goal.returns-in-Early
returns-in-Early c =
    let d = c.args.self.now in
    record { notes = subst (λ (x : Remark). Notes d (c.note_drop-in-Early.new.self) c.args.now (remark_of x) (Ok c.note_drop-in-Early.result)) (sym c.in-Early.is) (early d c.note_drop-in-Early.new.self c.args.now c.in-Early.arrival c.note_drop-in-Early.result c.note_drop-in-Early.ensures.notes) }

pub returns-in-Full : goal.returns-in-Full
returns-in-Full c =
    let d = c.args.self.now in
    record { notes = subst (λ (x : Remark). Notes d (c.note_drop-in-Full.new.self) c.args.now (remark_of x) (Ok c.note_drop-in-Full.result)) (sym c.in-Full.is) (full d c.note_drop-in-Full.new.self c.args.now c.in-Full.arrival c.note_drop-in-Full.result c.note_drop-in-Full.ensures.notes) }

pub returns-in-Lost : goal.returns-in-Lost
returns-in-Lost c =
    let d = c.args.self.now in
    record { notes = subst (λ (x : Remark). Notes d (c.note_drop-in-Lost.new.self) c.args.now (remark_of x) (Ok c.note_drop-in-Lost.result)) (sym c.in-Lost.is) (lost d c.note_drop-in-Lost.new.self c.args.now c.in-Lost.arrival c.note_drop-in-Lost.result c.note_drop-in-Lost.ensures.notes) }
