-- What replies told of files, and when.
use Rattle.std.specs.Prelude.{◌≡◌, ℕ, ◌+◌, ◌<◌, ◌≤◌, [], ◌∷◌, Option, Some, None, Bool, false, is_some}
use Rattle.std.specs.BTreeMap.{BTreeMap}
use Rattle.std.specs.BTreeMap as tree
use Rattle.sl_model.specs.Volume.{place_cmp}
use Rattle.sl_history.specs.Turns.{History, events}
use Rattle.sl_history.specs.Licensed.{is_in}
use Rattle.sl_history.specs.Remembering.{datagrams_since, tells, tells_among}
use Rattle.sl_recall.specs.declared.tellings.Telling.{Telling}
use Rattle.sl_recall.specs.declared.tellings.Tellings.{Tellings}
use Rattle.sl_recall.specs.Changing.{past_of}

-- how many datagrams had come when the file's attributes were told in an event, if they were
abbrev pub told_at : BTreeMap (ℕ × ℕ) ℕ → ℕ → ℕ → Option ℕ
told_at m f e = tree.get place_cmp m (f, e)

-- the newest turn told them
abbrev pub tells_now : History → ℕ → ℕ → Bool
tells_now [] n f = false
tells_now (t ∷ past) n f = tells_among t past n f [] t.remarks

-- What was told in the history. A later call n, for which it matters, doesn't change it.
pub record AreTellingsOf (h : History) (x : Tellings) : Type 0 where
  pub told : (f e n : ℕ) → e < n → tells (past_of h) n e f ≡ is_some (told_at x.told f e)
  pub within : (f e d : ℕ) → told_at x.told f e ≡ Some d → e ≤ events (past_of h)
  pub since : (f e d : ℕ) → told_at x.told f e ≡ Some d → d + datagrams_since h e ≡ x.datagrams
  pub fresh : (n f : ℕ) → events h < n → tells_now h n f ≡ is_in f x.fresh.items

-- It is the last time that a file's attributes were told before an event.
pub record IsLast (m : BTreeMap (ℕ × ℕ) ℕ) (f n : ℕ) (t : Telling) : Type 0 where
  pub is : told_at m f t.event ≡ Some t.datagrams
  pub before : t.event < n
  pub last : (e d : ℕ) → e < n → told_at m f e ≡ Some d → e ≤ t.event

abbrev pub IsLastBefore : BTreeMap (ℕ × ℕ) ℕ → ℕ → ℕ → Option Telling → Type 0
IsLastBefore m f n None = (e d : ℕ) → e < n → told_at m f e ≡ Some d → ⊥
IsLastBefore m f n (Some t) = IsLast m f n t
