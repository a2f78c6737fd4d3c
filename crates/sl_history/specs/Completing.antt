-- What holds of a history in which nothing is lost, stops or fails: everything is answered, by a bounded number of frames.
use Rattle.std.specs.Prelude.{◌≡◌, ℕ, ◌+◌, ◌*◌, ◌≤◌, List, [], ◌∷◌, Bool, true, false, not, ◌&&◌, if◌then◌else◌}
use Rattle.sl_defs.specs.Histories.{Happening, Happens}
use Rattle.sl_defs.specs.declared.event.Event.TheVariants as event
use Rattle.sl_history.specs.Turns.{Remark, Down, History}
use Rattle.sl_history.specs.Frames.{in_flight}
use Rattle.sl_history.specs.Arrivals.{waiting, is_welcomed}

-- ---- counts of events

abbrev pub is_call : Happening → Bool
is_call (Happens (event.Call client bytes)) = true
is_call other = false

abbrev pub is_tick : Happening → Bool
is_tick (Happens event.Tick) = true
is_tick other = false

abbrev pub is_copy : Happening → Bool
is_copy (Happens (event.Copy k)) = true
is_copy other = false

abbrev pub is_given : Happening → Bool
is_given (Happens (event.Give k)) = true
is_given (Happens (event.Copy k)) = true
is_given other = false

unfoldable pub count : (Happening → Bool) → History → ℕ
count is [] = 0
count is (t ∷ past) = count is past + (if is t.happening then 1 else 0)

-- ---- nothing is lost, stops or fails

abbrev pub disturbs : Happening → Bool
disturbs (Happens (event.Drop k)) = true
disturbs (Happens (event.Stop a image)) = true
disturbs (Happens (event.Start a)) = true
disturbs (Happens (event.Fuse a after image)) = true
disturbs (Happens (event.Fail a after)) = true
disturbs other = false

abbrev pub no_one_down : List Remark → Bool
no_one_down [] = true
no_one_down (Down a ∷ rs) = false
no_one_down (r ∷ rs) = no_one_down rs

unfoldable pub is_undisturbed : History → Bool
is_undisturbed [] = true
is_undisturbed (t ∷ past) = is_undisturbed past && (not (disturbs t.happening) && no_one_down t.remarks)

-- So many frames are given at most: with n calls, t ticks and r copies.
abbrev pub most_frames : ℕ → ℕ → ℕ → ℕ
most_frames n t r = 2 + 256 * n + 2 * n * (n + 1) + 80 * n * t + 2 * t + 4 * r

abbrev pub NothingFlies : History → Type 0
NothingFlies h = (k : ℕ) → in_flight h k ≡ false

-- Once nothing is in flight the proxy is welcomed and no call waits; and that comes after so many frames.
pub record Completes (h : History) : Type 0 where
  pub bounded : count is_given h ≤ most_frames (count is_call h) (count is_tick h) (count is_copy h)
  pub welcomed : NothingFlies h → is_welcomed h ≡ true
  pub answered : NothingFlies h → waiting h ≡ []

abbrev pub Completed : History → Type 0
Completed h = is_undisturbed h ≡ true → Completes h
