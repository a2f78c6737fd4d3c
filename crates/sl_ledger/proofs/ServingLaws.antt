-- How the one server's volume follows a history.
use Rattle.std.proofs.Common.{◌≡◌, ℕ, Bool, true, false, cond, List, [], ◌∷◌, ◌++◌, refl, ap, sym, ◌∙◌, Result, Ok, Err, IfOk, OnOk}
use Rattle.std.specs.Prelude.{Option, Some, None, option_and_then}
use Rattle.sl_defs.specs.declared.setup.Time.{Time}
use Rattle.sl_defs.specs.declared.note.Choice.{Choice}
use Rattle.sl_types.specs.declared.reply.Reply.{Reply}
use Rattle.sl_model.specs.Volume.{Volume}
use Rattle.sl_history.specs.Turns.{Remark, Sent, Did, Flush, Verf, Replied, Junk, Early, Full, Lost, Down, Turn, History, is_event, noted, so_far, turn_of}
use Rattle.sl_history.specs.Arrivals.{Asked, asked, asked_by}
use Rattle.sl_history.specs.Volumes.{after_note, after_notes, performed, volume_after}
use Rattle.sl_past.specs.Words.{remark_of}
use Rattle.sl_past.specs.declared.remark.Remark as past
use Rattle.sl_past.specs.declared.remark.Remark.TheVariants as remark
use Rattle.sl_ledger.specs.declared.ledger.Ledger.{Ledger}
use Rattle.sl_ledger.specs.Ledgers.{IsLedgerOf}
use Rattle.sl_ledger.specs.Replies.{IsReplyOf}

-- ---- calls

asked_either : (b : Bool) (t t' : Turn) (o : Option Turn) → asked_by t' ≡ asked_by t
    → option_and_then asked_by (cond b (Some t') o) ≡ option_and_then asked_by (cond b (Some t) o)
asked_either true t t' o e = e
asked_either false t t' o e = refl

pub asked-noted : (t : Turn) (past : History) (r : Remark) (n : ℕ) → asked (noted (t ∷ past) r) n ≡ asked (t ∷ past) n
unfolding asked turn_of
asked-noted t past r n = asked_either (is_event past t n) t (so_far t (t.remarks ++ r ∷ [])) (turn_of past n) refl

-- ---- volumes

after_note_same : (h h' : History) → ((n : ℕ) → asked h' n ≡ asked h n) → (r : Remark) (v : Volume) → after_note h' r v ≡ after_note h r v
after_note_same h h' e (Sent k f) v = refl
after_note_same h h' e (Did n at choice) v = ap (λ (a : Option Asked). performed a at choice v) (e n)
after_note_same h h' e (Flush f) v = refl
after_note_same h h' e (Verf x) v = refl
after_note_same h h' e (Replied n x bytes) v = refl
after_note_same h h' e (Junk n) v = refl
after_note_same h h' e (Early n) v = refl
after_note_same h h' e (Full n) v = refl
after_note_same h h' e (Lost n) v = refl
after_note_same h h' e (Down a) v = refl

after_notes_same : (h h' : History) → ((n : ℕ) → asked h' n ≡ asked h n) → (rs : List Remark) (v : Volume) → after_notes h' rs v ≡ after_notes h rs v
after_notes_same h h' e [] v = refl
after_notes_same h h' e (r ∷ rs) v = ap (after_notes h' rs) (after_note_same h h' e r v) ∙ after_notes_same h h' e rs (after_note h r v)

after_notes-append : (h : History) (rs : List Remark) (r : Remark) (v : Volume) → after_notes h (rs ++ r ∷ []) v ≡ after_note h r (after_notes h rs v)
after_notes-append h [] r v = refl
after_notes-append h (x ∷ rs) r v = after_notes-append h rs r (after_note h x v)

pub volume_after-noted : (start : Volume) (t : Turn) (past : History) (r : Remark)
    → volume_after start (noted (t ∷ past) r) ≡ after_note (t ∷ past) r (volume_after start (t ∷ past))
unfolding volume_after
volume_after-noted start t past r =
    after_notes_same (t ∷ past) (noted (t ∷ past) r) (asked-noted t past r) (t.remarks ++ r ∷ []) (volume_after start past)
    ∙ after_notes-append (t ∷ past) t.remarks r (volume_after start past)

pub follows : {E : Type 0} → (l : Ledger) (r : Remark) (old new : Volume) (result : Result (Option Reply) E)
    → IfOk result (λ reply. (h : History) → IsLedgerOf h l → (new ≡ after_note h r old) × IsReplyOf reply h r old)
    → OnOk result ((start : Volume) (t : Turn) (past : History) → IsLedgerOf (t ∷ past) l → old ≡ volume_after start (t ∷ past) → new ≡ volume_after start (noted (t ∷ past) r))
follows l r old new (Ok reply) serves = λ start t past is e. (serves (t ∷ past) is).0 ∙ ap (after_note (t ∷ past) r) e ∙ sym (volume_after-noted start t past r)
follows l r old new (Err e) serves = tt

-- a note that has no effect
pub idle : (x : past.Remark) (h : History) (v : Volume) → ((n : ℕ) (at : Time) (choice : Choice) → x ≡ remark.Did n at choice → ⊥) → ((f : ℕ) → x ≡ remark.Flush f → ⊥)
    → ((n : ℕ) → x ≡ remark.Verf n → ⊥) → (v ≡ after_note h (remark_of x) v) × IsReplyOf None h (remark_of x) v
idle (remark.Sent k f) h v a b c = (refl, refl)
idle (remark.Did n at choice) h v a b c = absurd (a n at choice refl)
idle (remark.Flush f) h v a b c = absurd (b f refl)
idle (remark.Verf n) h v a b c = absurd (c n refl)
idle (remark.Replied n e bytes) h v a b c = (refl, refl)
idle (remark.Junk n) h v a b c = (refl, refl)
idle (remark.Early n) h v a b c = (refl, refl)
idle (remark.Full n) h v a b c = (refl, refl)
idle (remark.Lost n) h v a b c = (refl, refl)
idle (remark.Down n) h v a b c = (refl, refl)
