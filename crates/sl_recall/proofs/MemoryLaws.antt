-- What a memory keeps, from note to note.
use Rattle.std.proofs.Common.{◌≡◌, ℕ, ◌<◌, true, false, ◌&&◌, List, [], ◌∷◌, refl, sym, subst, ◌++◌}
use Rattle.std.specs.Prelude.{◌==◌}
use Rattle.sl_history.specs.Turns.{Remark, Sent, Did, Down, Flush, Verf, Junk, Early, Full, Lost, Replied, Turn, History, events, noted}
use Rattle.sl_history.specs.Arrivals.{asked, drops}
use Rattle.sl_history.specs.Remembering.{forgets, is_idle, tells_among, tells_by}
use Rattle.sl_defs.specs.declared.setup.Time.{Time}
use Rattle.sl_defs.specs.declared.note.Choice.{Choice}
use Rattle.sl_frames.specs.declared.frame.Frame.{Frame}
use Rattle.sl_recall.specs.declared.memory.Memory.{Memory}
use Rattle.sl_recall.specs.Changing.{AreChangesOf, IsForgotten}
use Rattle.sl_recall.specs.Droppings.{Forgets, IsDropOf}
use Rattle.sl_recall.specs.Memories.{Follows}
use Rattle.sl_recall.specs.Telling.{AreTellingsOf}
use Rattle.sl_recall.proofs.ChangeLaws as changes
use Rattle.sl_recall.proofs.ForgetLaws as forgetting
use Rattle.sl_recall.proofs.TellLaws as tellings

-- a note that says nothing of files and drops nothing
pub passed : (t : Turn) (past : History) (r : Remark) (m : Memory) → Follows (t ∷ past) m → forgets r ≡ false → ((k : ℕ) → drops k r ≡ false)
    → ((n f : ℕ) → events (t ∷ past) < n → tells_among t past n f t.remarks (r ∷ []) ≡ false) → Follows (noted (t ∷ past) r) m
passed t past r m is f d s = record {
  tellings = tellings.stays t past r m.tellings is.tellings f s;
  forgot = forgetting.stays t past r m.forgot f is.forgot;
  changes = changes.stay t past m.changes r is.changes d;
}

pub sent : (t : Turn) (past : History) (k : ℕ) (f : Frame) (m : Memory) → Follows (t ∷ past) m → Follows (noted (t ∷ past) (Sent k f)) m
sent t past k f m is = passed t past (Sent k f) m is refl (λ j. refl) (λ n g h. refl)

pub did : (t : Turn) (past : History) (k : ℕ) (at : Time) (choice : Choice) (m : Memory) → Follows (t ∷ past) m → Follows (noted (t ∷ past) (Did k at choice)) m
did t past k at choice m is = passed t past (Did k at choice) m is refl (λ j. refl) (λ n g h. refl)

pub down : (t : Turn) (past : History) (a : ℕ) (m : Memory) → Follows (t ∷ past) m → Follows (noted (t ∷ past) (Down a)) m
down t past a m is = passed t past (Down a) m is refl (λ j. refl) (λ n g h. refl)

pub junk : (k : ℕ) → IsDropOf k (Junk k)
junk k = record { drops_it = λ m. refl; forgets_none = refl; tells_none = λ t past n f before. refl }

pub early : (k : ℕ) → IsDropOf k (Early k)
early k = record { drops_it = λ m. refl; forgets_none = refl; tells_none = λ t past n f before. refl }

pub full : (k : ℕ) → IsDropOf k (Full k)
full k = record { drops_it = λ m. refl; forgets_none = refl; tells_none = λ t past n f before. refl }

pub lost : (k : ℕ) → IsDropOf k (Lost k)
lost k = record { drops_it = λ m. refl; forgets_none = refl; tells_none = λ t past n f before. refl }

pub flush : (f : ℕ) → Forgets (Flush f)
flush f = record { forgets_all = refl; drops_none = λ m. refl }

pub verf : (v : ℕ) → Forgets (Verf v)
verf v = record { forgets_all = refl; drops_none = λ m. refl }

-- a drop, where the changes follow it
pub dropped : (t : Turn) (past : History) (k : ℕ) (r : Remark) (m m' : Memory) → IsDropOf k r → Follows (t ∷ past) m → m'.tellings ≡ m.tellings → m'.forgot ≡ m.forgot → AreChangesOf (noted (t ∷ past) r) m'.changes
    → Follows (noted (t ∷ past) r) m'
dropped t past k r m m' d is same_tellings same_forgot changed = record {
  tellings = subst (AreTellingsOf (noted (t ∷ past) r)) (sym same_tellings) (tellings.stays t past r m.tellings is.tellings d.forgets_none (λ n f h. d.tells_none t past n f t.remarks));
  forgot = subst (IsForgotten (noted (t ∷ past) r)) (sym same_forgot) (forgetting.stays t past r m.forgot d.forgets_none is.forgot);
  changes = changed;
}

-- a note that makes forget
pub forgotten : (t : Turn) (past : History) (r : Remark) (m m' : Memory) → Forgets r → Follows (t ∷ past) m → AreTellingsOf (noted (t ∷ past) r) m'.tellings → m'.forgot ≡ events (t ∷ past) → m'.changes ≡ m.changes
    → Follows (noted (t ∷ past) r) m'
forgotten t past r m m' f is told forgot same = record {
  tellings = told;
  forgot = forgetting.forgotten t past r m'.forgot f.forgets_all forgot;
  changes = subst (AreChangesOf (noted (t ∷ past) r)) (sym same) (changes.stay t past m.changes r is.changes f.drops_none);
}

-- a reply that tells nothing, or tells while a call waits that may change it
pub untold : (t : Turn) (past : History) (k e : ℕ) (bytes : List ℕ) (m : Memory) → Follows (t ∷ past) m → ((n f : ℕ) → events (t ∷ past) < n → (tells_by f bytes (asked (t ∷ past) k) && is_idle (t ∷ past) n) ≡ false)
    → Follows (noted (t ∷ past) (Replied k e bytes)) m
untold t past k e bytes m is silent = record {
  tellings = tellings.unlearned t past k e bytes m.tellings is.tellings silent;
  forgot = forgetting.stays t past (Replied k e bytes) m.forgot refl is.forgot;
  changes = changes.stay t past m.changes (Replied k e bytes) is.changes (λ j. refl);
}

pub told : (t : Turn) (past : History) (k e file : ℕ) (bytes : List ℕ) (m m' : Memory) → Follows (t ∷ past) m → ((n : ℕ) → events (t ∷ past) < n → is_idle (t ∷ past) n ≡ true)
    → ((f : ℕ) → tells_by f bytes (asked (t ∷ past) k) ≡ (file == f)) → m'.tellings.told ≡ m.tellings.told → m'.tellings.fresh.items ≡ m.tellings.fresh.items ++ file ∷ [] → m'.tellings.datagrams ≡ m.tellings.datagrams
    → m'.forgot ≡ m.forgot → m'.changes ≡ m.changes → Follows (noted (t ∷ past) (Replied k e bytes)) m'
told t past k e file bytes m m' is idle tells same more count same_forgot same_changes = record {
  tellings = tellings.learned t past k e file bytes m.tellings m'.tellings is.tellings idle tells same count more;
  forgot = subst (IsForgotten (noted (t ∷ past) (Replied k e bytes))) (sym same_forgot) (forgetting.stays t past (Replied k e bytes) m.forgot refl is.forgot);
  changes = subst (AreChangesOf (noted (t ∷ past) (Replied k e bytes))) (sym same_changes) (changes.stay t past m.changes (Replied k e bytes) is.changes (λ j. refl));
}
