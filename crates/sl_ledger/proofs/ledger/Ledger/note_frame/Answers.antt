use Rattle.std.proofs.Common.{◌∷◌, refl, subst}
use Rattle.std.proofs.lemmas.Result.{on_ok_weaker}
use Rattle.sl_frames.specs.declared.frame.Frame.{Frame}
use Rattle.sl_history.specs.Turns.{Sent, noted}
use Rattle.sl_ledger.specs.Sending.{AreSentIn}
use Rattle.sl_ledger.proofs.LedgerLaws.{ledger_sent}
use Rattle.sl_ledger.proofs.ledger.Ledger.note_frame.Goals as goal

pub returns : goal.returns
returns c =
    let l = c.args.self.now in
    on_ok_weaker c.send.result (λ now t past is.
    ledger_sent t past c.args.number c.args.frame.now l
    (record { arrivals = l.arrivals; sent = c.send.new.self; up = l.up; was_up = l.was_up; last_hello = c.hello_or-self.result; last_verf = l.last_verf }) is refl
    (subst (λ (f : Frame). AreSentIn (noted (t ∷ past) (Sent c.args.number f)) c.send.new.self) c.in-Ok.ensures
    (now t past is.sent (c.events.ensures.newest (t ∷ past) is.arrived)))
    refl refl c.hello_or-self.ensures refl)
    c.send.ensures
