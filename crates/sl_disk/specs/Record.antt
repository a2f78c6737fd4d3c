-- What a shelf in memory tells, read off the record of its calls.
use Rattle.std.specs.Prelude.{◌≡◌, ℕ, ◌≤◌, ◌<◌, ◌==◌, true, List, [], ◌∷◌, ◌++◌, length, take, get_or, if◌then◌else◌, None, refl}
use Rattle.std.proofs.Common.{sym, subst, arith}
use Rattle.std.proofs.lemmas.List.{take_all}
use Rattle.sl_disk.specs.Shelf.{Told, Situation}
use Rattle.sl_disk.specs.Images.{DiskState, IsImage, image}
use Rattle.sl_disk.specs.declared.record.Change.{Change}
use Rattle.sl_disk.specs.declared.record.Change.TheVariants.{Took, Synced, Left, StoppedAt}
use Rattle.sl_disk.specs.declared.record.Call.{Call}
use Rattle.sl_disk.specs.declared.script.Script.{Script}

-- what a change makes of a disk
abbrev pub changed : Change → DiskState → DiskState
changed (Took step) state = record state { steps = state.steps ++ step ∷ [] }
changed Synced state = record { synced = image 1 state; steps = [] }
changed (Left i) state = record { synced = image i state; steps = [] }
changed (StoppedAt step i) state = record { synced = image i (record state { steps = state.steps ++ step ∷ [] }); steps = [] }

-- the disk after these calls, the first of them first
abbrev pub goes_through : ℕ → DiskState → List Call → DiskState
goes_through d state [] = state
goes_through d state (call ∷ calls) = goes_through d (if call.disk == d then changed call.change state else state) calls

-- a disk of a new shelf, which is empty, after these calls
abbrev pub disk_after : List Call → ℕ → DiskState
disk_after calls d = goes_through d (record { synced = []; steps = [] }) calls

-- a disk that was never armed, and has not failed
abbrev pub no_script : Script
no_script = record { armed = None; arms = 0; last_arm = None; crashes = 0; last_crash = None; faults = 0; stops = 0 }

abbrev pub told : DiskState → Script → Told
told state script =
    record {
      is_modelled = true;
      contents = image 1 state;
      faults = script.faults;
      stops = script.stops;
      armed = script.armed;
      arms = script.arms;
      last_arm = script.last_arm;
      crashes = script.crashes;
      last_crash = script.last_crash;
    }

-- Some moment since t, the moments being the numbers of the calls before them.
abbrev pub situation : List Call → List Script → Situation
situation calls scripts =
    record {
      disk = λ d. told (disk_after calls d) (get_or scripts d no_script);
      may_leave = λ d c. IsImage (disk_after calls d) c;
      moment = length calls;
      left_since = λ d t c. (k : ℕ) × (t ≤ k) × (k ≤ length calls) × IsImage (disk_after (take k calls) d) c;
      left_together = λ t f. (k : ℕ) × (t ≤ k) × (k ≤ length calls) × ((d : ℕ) → d < 64 → IsImage (disk_after (take k calls) d) (f d));
    }

-- ---- the laws of a shelf

pub shows : (calls : List Call) (scripts : List Script) (d : ℕ) → (situation calls scripts).may_leave d ((situation calls scripts).disk d).contents
shows calls scripts d = (1, refl)

module _ (calls : List Call) (scripts : List Script) where
  all_of_them : take (length calls) calls ≡ calls
  all_of_them = take_all (length calls) calls (omega arith)

  pub counts_now : (d t : ℕ) (c : List ℕ) → t ≤ length calls → (situation calls scripts).may_leave d c → (situation calls scripts).left_since d t c
  counts_now d t c le now = (length calls, le, omega arith, subst (λ (l : List Call). IsImage (disk_after l d) c) (sym all_of_them) now)

  only_now : (d k : ℕ) (c : List ℕ) → length calls ≤ k → IsImage (disk_after (take k calls) d) c → IsImage (disk_after calls d) c
  only_now d k c le left = subst (λ (l : List Call). IsImage (disk_after l d) c) (take_all k calls le) left

  pub since_now : (d : ℕ) (c : List ℕ) → (situation calls scripts).left_since d (length calls) c → (situation calls scripts).may_leave d c
  since_now d c left = only_now d left.0 c left.1 left.3

  pub together_now : (t : ℕ) (f : ℕ → List ℕ) → t ≤ length calls → ((d : ℕ) → d < 64 → (situation calls scripts).may_leave d (f d)) → (situation calls scripts).left_together t f
  together_now t f le now = (length calls, le, omega arith, λ d below. subst (λ (l : List Call). IsImage (disk_after l d) (f d)) (sym all_of_them) (now d below))

  pub only_together : (f : ℕ → List ℕ) → (situation calls scripts).left_together (length calls) f → (d : ℕ) → d < 64 → (situation calls scripts).may_leave d (f d)
  only_together f left d below = only_now d left.0 (f d) left.1 (left.3 d below)

  pub each_of_them : (t : ℕ) (f : ℕ → List ℕ) → (situation calls scripts).left_together t f → (d : ℕ) → d < 64 → (situation calls scripts).left_since d t (f d)
  each_of_them t f left d below = (left.0, left.1, left.2, left.3 d below)
