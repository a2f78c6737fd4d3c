-- The one server's volume as the notes of a history leave it: at its end, and at the end of each event.
use Rattle.std.specs.Prelude.{ℕ, ◌==◌, List, [], ◌∷◌, Option, Some, None, nat_le, if◌then◌else◌}
use Rattle.sl_defs.specs.declared.setup.Time.{Time}
use Rattle.sl_defs.specs.declared.note.Choice.{Choice}
use Rattle.sl_types.specs.declared.reply.Reply.{Reply}
use Rattle.sl_model.specs.Volume.{Volume, flush, restart}
use Rattle.sl_model.specs.Perform.{perform}
use Rattle.sl_history.specs.Turns.{Remark, Did, Flush, Verf, History, events}
use Rattle.sl_history.specs.Arrivals.{Asked, asked}
use Rattle.sl_history.specs.Frames.{or_else}

-- a call is performed
abbrev pub performed : Option Asked → Time → Choice → Volume → Volume
performed None at choice v = v
performed (Some a) at choice v = (perform v a.call a.cred at choice).0

-- the volume after a note: calls are named by the events in which they came
abbrev pub after_note : History → Remark → Volume → Volume
after_note h (Did n at choice) v = performed (asked h n) at choice v
after_note h (Flush f) v = flush f v
after_note h (Verf verifier) v = restart verifier v
after_note h other v = v

abbrev pub after_notes : History → List Remark → Volume → Volume
after_notes h [] v = v
after_notes h (r ∷ rs) v = after_notes h rs (after_note h r v)

-- the volume after a history that began with this one
unfoldable pub volume_after : Volume → History → Volume
volume_after start [] = start
volume_after start (t ∷ past) = after_notes (t ∷ past) t.remarks (volume_after start past)

-- the volume at the end of an event; of the newest event, after what is noted of it
unfoldable pub volume_at : Volume → History → ℕ → Volume
volume_at start [] e = start
volume_at start (t ∷ past) e = if nat_le (events (t ∷ past)) e then volume_after start (t ∷ past) else volume_at start past e

-- ---- how a call took effect

-- The event in which it was noted, the volume before, and at which moment and with which choice.
pub record Effect : Type 0 where
  pub event : ℕ
  pub before : Volume
  pub at : Time
  pub choice : Choice

abbrev pub effect_among : History → ℕ → List Remark → Volume → Option Effect
effect_among h n [] v = None
effect_among h n (Did k at choice ∷ rs) v =
    if k == n then Some (record { event = events h; before = v; at = at; choice = choice })
    else effect_among h n rs (after_note h (Did k at choice) v)
effect_among h n (r ∷ rs) v = effect_among h n rs (after_note h r v)

-- how the call of event n took effect, if it did
unfoldable pub effect : Volume → History → ℕ → Option Effect
effect start [] n = None
effect start (t ∷ past) n = or_else (effect start past n) (effect_among (t ∷ past) n t.remarks (volume_after start past))

-- the volume after it, and the reply
abbrev pub outcome : Asked → Effect → Volume × Reply
outcome a e = perform e.before a.call a.cred e.at e.choice
