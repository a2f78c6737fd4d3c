-- The storages, and the record that they follow.
use Rattle.std.proofs.Common.{◌≡◌, ◌≢◌, ℕ, zero, suc, ◌<◌, ◌==◌, cond, List, [], ◌∷◌, ◌++◌, length, get_or, set, replicate, refl, sym, ◌∙◌, ap, subst, arith, inl, inr}
use Rattle.std.proofs.lemmas.Bool.{cases_eq}
use Rattle.std.proofs.lemmas.Bool.Decides.{nat_tests}
use Rattle.sl_disk.specs.Images.{DiskState, after_steps}
use Rattle.sl_disk.specs.Record.{changed, goes_through, disk_after, situation, told, no_script}
use Rattle.sl_disk.specs.Shelf.{IsNew}
use Rattle.sl_disk.specs.declared.script.Script.{Script}
use Rattle.sl_disk.specs.Stored.{Follow, AreEmpty, storage_state, state_of}
use Rattle.sl_disk.specs.declared.storage.Storage.{Storage}
use Rattle.sl_disk.specs.declared.record.Call.{Call}
use Rattle.sl_disk.specs.declared.record.Change.{Change}

pub set_here : (xs : List Storage) (i : ℕ) (s : Storage) → i < length xs → storage_state (set xs i s) i ≡ state_of s
set_here [] i s below = absurd (omega arith)
set_here (x ∷ xs) zero s below = refl
set_here (x ∷ xs) (suc i) s below = set_here xs i s (omega arith)

pub set_elsewhere : (xs : List Storage) (i d : ℕ) (s : Storage) → d ≢ i → storage_state (set xs i s) d ≡ storage_state xs d
set_elsewhere [] i d s other = refl
set_elsewhere (x ∷ xs) zero zero s other = absurd (other refl)
set_elsewhere (x ∷ xs) zero (suc d) s other = refl
set_elsewhere (x ∷ xs) (suc i) zero s other = refl
set_elsewhere (x ∷ xs) (suc i) (suc d) s other = set_elsewhere xs i d s (λ e. other (ap suc e))

pub read_here : (xs : List Storage) (i : ℕ) (x : Storage) → x ≡ get_or xs i x → i < length xs → state_of x ≡ storage_state xs i
read_here [] i x is below = absurd (omega arith)
read_here (y ∷ xs) zero x is below = ap state_of is
read_here (y ∷ xs) (suc i) x is below = read_here xs i x is (omega arith)

-- ---- one call more

through_push : (d : ℕ) (state : DiskState) (calls : List Call) (call : Call) → goes_through d state (calls ++ call ∷ []) ≡ cond (call.disk == d) (changed call.change (goes_through d state calls)) (goes_through d state calls)
through_push d state [] call = refl
through_push d state (c ∷ calls) call = through_push d (cond (c.disk == d) (changed c.change state) state) calls call

-- the disk of the call is changed
pub push_here : (calls : List Call) (disk : ℕ) (change : Change) → disk_after (calls ++ (record { disk = disk; change = change }) ∷ []) disk ≡ changed change (disk_after calls disk)
push_here calls disk change =
    through_push disk (record { synced = []; steps = [] }) calls (record { disk = disk; change = change }) ∙ same_disk
  where
    same_disk : cond (disk == disk) (changed change (disk_after calls disk)) (disk_after calls disk) ≡ changed change (disk_after calls disk)
    same_disk = grind (arith, nat_tests)

-- and no other
pub push_elsewhere : (calls : List Call) (disk d : ℕ) (change : Change) → d ≢ disk → disk_after (calls ++ (record { disk = disk; change = change }) ∷ []) d ≡ disk_after calls d
push_elsewhere calls disk d change other =
    through_push d (record { synced = []; steps = [] }) calls (record { disk = disk; change = change }) ∙ other_disk
  where
    other_disk : cond (disk == d) (changed change (disk_after calls d)) (disk_after calls d) ≡ disk_after calls d
    other_disk = grind (arith, nat_tests)

pub follow_push : (xs ys : List Storage) (calls : List Call) (disk : ℕ) (change : Change) → storage_state ys disk ≡ changed change (storage_state xs disk)
    → ((d : ℕ) → d ≢ disk → storage_state ys d ≡ storage_state xs d) → Follow xs calls → Follow ys (calls ++ (record { disk = disk; change = change }) ∷ [])
follow_push xs ys calls disk change here elsewhere follow d = elim (cases_eq d disk) [
  | inl same ↦
      let P : ℕ → Type 0 = λ n. storage_state ys n ≡ disk_after (calls ++ (record { disk = disk; change = change }) ∷ []) n in
      subst P (sym same) (here ∙ ap (changed change) (follow disk) ∙ sym (push_here calls disk change))
  | inr other ↦ elsewhere d other ∙ follow d ∙ sym (push_elsewhere calls disk d change other)
]

-- ---- a new shelf

pub empty_push : (xs : List Storage) (s : Storage) → AreEmpty xs → state_of s ≡ (record { synced = []; steps = [] }) → AreEmpty (xs ++ s ∷ [])
empty_push [] s empty is zero = is
empty_push [] s empty is (suc d) = refl
empty_push (x ∷ xs) s empty is zero = empty 0
empty_push (x ∷ xs) s empty is (suc d) = empty_push xs s (λ k. empty (suc k)) is d

pub all_new : (n d : ℕ) → get_or (replicate n no_script) d no_script ≡ no_script
all_new zero d = refl
all_new (suc n) zero = refl
all_new (suc n) (suc d) = all_new n d

pub is_new : (calls : List Call) (scripts : List Script) (n : ℕ) → calls ≡ [] → scripts ≡ replicate n no_script → IsNew (situation calls scripts)
is_new calls scripts n none is =
    subst (λ (l : List Call). IsNew (situation l scripts)) (sym none) (record {
      told = λ d. ap (λ (s : Script). told (record { synced = []; steps = [] }) s) (ap (λ (l : List Script). get_or l d no_script) is ∙ all_new n d);
      images = λ d c left. left.1 ∙ nothing left.0;
    })
  where
    nothing : (i : ℕ) → after_steps i [] [] ≡ []
    nothing i = refl
