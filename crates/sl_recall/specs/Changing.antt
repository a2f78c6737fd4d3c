-- What makes the proxy forget: calls that may change something, write verifiers and flushes.
use Rattle.std.specs.Prelude.{◌≡◌, ℕ, ◌==◌, ◌<◌, ◌≤◌, [], ◌∷◌, Bool, true, not, ◌&&◌, ◌||◌, nat_le, if◌then◌else◌, ◌⊎◌}
use Rattle.std.specs.List.{list_any}
use Rattle.sl_history.specs.Turns.{Turn, History, events}
use Rattle.sl_history.specs.Arrivals.{asked_by, drops_any}
use Rattle.sl_history.specs.Remembering.{changes_by, comes, forgets}
use Rattle.sl_recall.specs.declared.changes.Changes.{Changes}

abbrev pub past_of : History → History
past_of [] = []
past_of (t ∷ past) = past

-- behind event e no call but n came that may change something
unfoldable pub is_unchanged : History → ℕ → ℕ → Bool
is_unchanged [] e n = true
is_unchanged (t ∷ past) e n = if nat_le (events (t ∷ past)) e then true else is_unchanged past e n && not (comes past t n)

-- behind event e no write verifier and no flush is noted
unfoldable pub is_unforgotten : History → ℕ → Bool
is_unforgotten [] e = true
is_unforgotten (t ∷ past) e = if nat_le (events (t ∷ past)) e then true else is_unforgotten past e && not (list_any forgets t.remarks)

-- the event of the call that the turn brings, where it may change something, else 0
abbrev pub brought : History → Turn → ℕ
brought past t = if changes_by (asked_by t) then events (t ∷ past) else 0

-- where it isn't dropped
abbrev pub change_in : History → ℕ
change_in [] = 0
change_in (t ∷ past) = if drops_any (events (t ∷ past)) t.remarks then 0 else brought past t

-- the call didn't come behind event e, or it is n
abbrev pub is_no_other : ℕ → ℕ → ℕ → Bool
is_no_other change e n = nat_le change e || change == n

-- The last calls of the history that may change something.
pub record AreChangesOf (h : History) (c : Changes) : Type 0 where
  pub newest : c.newest ≡ change_in h
  pub past : (e n : ℕ) → is_unchanged (past_of h) e n ≡ (is_no_other c.last e n && is_no_other c.before e n)
  pub within : c.last ≤ events (past_of h)
  pub order : ((c.last ≡ 0) × (c.before ≡ 0)) ⊎ (c.before < c.last)

-- The event in which a write verifier or a flush was noted last.
pub record IsForgotten (h : History) (forgot : ℕ) : Type 0 where
  pub is : (e : ℕ) → is_unforgotten h e ≡ nat_le forgot e
  pub within : forgot ≤ events h
