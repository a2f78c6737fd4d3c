-- That a device call of a shelf in memory keeps to what every device call keeps to.
use Rattle.std.proofs.Common.{◌≡◌, ◌≢◌, ◌⊎◌, ◌↔◌, ℕ, ◌+◌, ◌<◌, ◌≤◌, List, [], ◌∷◌, ◌++◌, length, get_or, set, take, refl, sym, ap, subst, arith, inl, inr, Option, Some, None, Result, Ok, Err, IsErrOf, length-append}
use Rattle.std.proofs.lemmas.List.{take-append-le, take_all, get_or-set_same, get_or-set_other}
use Rattle.std.proofs.lemmas.Bool.{cases_lt}
use Rattle.sl_disk.specs.Shelf.{Told, LeavesOthers, Elapses, SameImages, Counts, KeepsScript, MeetsArm, Called, one_on}
use Rattle.sl_disk.specs.Images.{DiskState, IsImage}
use Rattle.sl_disk.specs.Record.{disk_after, situation, no_script, told}
use Rattle.sl_disk.specs.Performing.{noting, Worked, Faulted, script_at, when_done, when_failed, when_stopped}
use Rattle.sl_disk.specs.declared.record.Call.{Call}
use Rattle.sl_disk.specs.declared.record.Change.{Change}
use Rattle.sl_disk.specs.declared.record.Work.{Work}
use Rattle.sl_disk.specs.declared.script.Script.{Script}
use Rattle.sl_disk.specs.declared.shelf.ShelfFault.{ShelfFault}
use Rattle.sl_disk.specs.declared.shelf.ShelfFault.TheVariants.{Failed, Stopped, NoMemory}
use Rattle.sl_disk.proofs.Replays.{push_elsewhere}

same_images : (P : List ℕ → Type 0) → SameImages P P
same_images P c = (λ p. p, λ p. p)

-- ---- the record with one change more, or with none

pub noting_elsewhere : (calls : List Call) (disk d : ℕ) (change : Option Change) → d ≢ disk → disk_after (noting disk change calls) d ≡ disk_after calls d
noting_elsewhere calls disk d None other = refl
noting_elsewhere calls disk d (Some change) other = push_elsewhere calls disk d change other

-- time goes on where nothing is noted
pub elapses_same : (calls : List Call) (scripts after : List Script) → Elapses (situation calls scripts) (situation calls after)
elapses_same calls scripts after = record {
  later = omega arith;
  nothing_else = λ d t c le left. inl left;
  keeps = λ d t c le left. left;
  no_others_together = λ t f le left. inl left;
  keeps_together = λ t f le left. left;
}

module _ (calls : List Call) (call : Call) where
  earlier : (k : ℕ) → k ≤ length calls → take k (calls ++ call ∷ []) ≡ take k calls
  earlier k le = take-append-le k calls (call ∷ []) le

  size : length (calls ++ call ∷ []) ≡ length calls + 1
  size = length-append calls (call ∷ [])

  pub elapses_push : (scripts after : List Script) → Elapses (situation calls scripts) (situation (calls ++ call ∷ []) after)
  elapses_push scripts after = record {
    later = omega (arith, size);
    nothing_else = λ d t c le left. since d t c left.0 left.1 left.2 left.3;
    keeps = λ d t c le left. (left.0, left.1, omega (arith, size, left.2), subst (λ (l : List Call). IsImage (disk_after l d) c) (sym (earlier left.0 left.2)) left.3);
    no_others_together = λ t f le left. together t f left.0 left.1 left.2 left.3;
    keeps_together = λ t f le left. (left.0, left.1, omega (arith, size, left.2), λ d below. subst (λ (l : List Call). IsImage (disk_after l d) (f d)) (sym (earlier left.0 left.2)) (left.3 d below));
  }
    where
      since : (d t : ℕ) (c : List ℕ) (k : ℕ) → t ≤ k → k ≤ length (calls ++ call ∷ []) → IsImage (disk_after (take k (calls ++ call ∷ [])) d) c
          → ((situation calls scripts).left_since d t c) ⊎ ((situation (calls ++ call ∷ []) after).may_leave d c)
      since d t c k from to left = elim (cases_lt (length calls) k) [
        | inl last ↦ inr (subst (λ (l : List Call). IsImage (disk_after l d) c) (take_all k (calls ++ call ∷ []) (omega (arith, size))) left)
        | inr before ↦ inl (k, from, before, subst (λ (l : List Call). IsImage (disk_after l d) c) (earlier k before) left)
      ]

      together : (t : ℕ) (f : ℕ → List ℕ) (k : ℕ) → t ≤ k → k ≤ length (calls ++ call ∷ []) → ((d : ℕ) → d < 64 → IsImage (disk_after (take k (calls ++ call ∷ [])) d) (f d))
          → ((situation calls scripts).left_together t f) ⊎ ((d : ℕ) → d < 64 → (situation (calls ++ call ∷ []) after).may_leave d (f d))
      together t f k from to left = elim (cases_lt (length calls) k) [
        | inl last ↦ inr (λ d below. subst (λ (l : List Call). IsImage (disk_after l d) (f d)) (take_all k (calls ++ call ∷ []) (omega (arith, size))) (left d below))
        | inr before ↦ inl (k, from, before, λ d below. subst (λ (l : List Call). IsImage (disk_after l d) (f d)) (earlier k before) (left d below))
      ]

pub elapses_noting : (disk : ℕ) (change : Option Change) (calls : List Call) (scripts after : List Script) → Elapses (situation calls scripts) (situation (noting disk change calls) after)
elapses_noting disk None calls scripts after = elapses_same calls scripts after
elapses_noting disk (Some change) calls scripts after = elapses_push calls (record { disk = disk; change = change }) scripts after

-- the other disks, where one disk's script is set
pub others_noting : (disk : ℕ) (change : Option Change) (calls : List Call) (scripts : List Script) (script : Script) → LeavesOthers disk (situation calls scripts) (situation (noting disk change calls) (set scripts disk script))
others_noting disk change calls scripts script = record {
  told = λ d other.
      let state : disk_after (noting disk change calls) d ≡ disk_after calls d = noting_elsewhere calls disk d change other in
      let its_script : get_or (set scripts disk script) d no_script ≡ get_or scripts d no_script = get_or-set_other scripts disk d script no_script other in
      λ i. told (state i) (its_script i);
  images = λ d other c. subst (λ (s : DiskState). IsImage (disk_after calls d) c ↔ IsImage s c) (sym (noting_elsewhere calls disk d change other)) (same_images (IsImage (disk_after calls d)) c);
}

-- ---- a whole call

-- what is told of the disk whose script is set
here : (disk : ℕ) (calls later : List Call) (scripts : List Script) (script : Script) → disk < length scripts → (situation later (set scripts disk script)).disk disk ≡ told (disk_after later disk) script
here disk calls later scripts script known = ap (λ (s : Script). told (disk_after later disk) s) (get_or-set_same scripts disk script no_script known)

-- A call that notes this change and sets this script is told so.
module _ {T : Type 0} (disk : ℕ) (change : Option Change) (calls : List Call) (scripts : List Script) (script : Script) (result : Result T ShelfFault) (known : disk < length scripts)
    (counts : Counts result (told (disk_after calls disk) (script_at scripts disk)) (told (disk_after (noting disk change calls) disk) script))
    (kept : KeepsScript (told (disk_after calls disk) (script_at scripts disk)) (told (disk_after (noting disk change calls) disk) script))
    (armed : MeetsArm (script_at scripts disk).armed script.armed result)
    (memory : IsErrOf result NoMemory → ⊥) where
  pub called_noting : Called disk (situation calls scripts) (situation (noting disk change calls) (set scripts disk script)) result
  called_noting =
      let state = disk_after (noting disk change calls) disk in
      let same : told state script ≡ told state (get_or (set scripts disk script) disk no_script) =
      ap (λ (s : Script). told state s) (sym (get_or-set_same scripts disk script no_script known)) in
      let before = told (disk_after calls disk) (script_at scripts disk) in
      record {
        others = others_noting disk change calls scripts script;
        time = elapses_noting disk change calls scripts (set scripts disk script);
        counts = subst (λ (t : Told). Counts result before t) same counts;
        script = subst (λ (t : Told). KeepsScript before t) same kept;
        armed = λ modelled. subst (λ (t : Told). MeetsArm before.armed t.armed result) same armed;
        no_memory = λ none. absurd (memory none);
      }

-- A call that found no memory changed nothing.
pub called_none : {T : Type 0} (disk : ℕ) (calls : List Call) (scripts : List Script) (result : Result T ShelfFault) → IsErrOf result NoMemory → Called disk (situation calls scripts) (situation calls scripts) result
called_none {T} disk calls scripts result none =
    let P : Result T ShelfFault → Type 0 = λ r. Called disk (situation calls scripts) (situation calls scripts) r in
    subst P (sym none) (record {
      others = record { told = λ d other. refl; images = λ d other. same_images (IsImage (disk_after calls d)) };
      time = elapses_same calls scripts scripts;
      counts = record { faults = refl; stops = refl };
      script = record { model = refl; arms = refl; last_arm = refl; crashes = refl; last_crash = refl };
      armed = λ modelled. record { answer = tt; left = λ never. absurd (never refl) };
      no_memory = λ is. record { told = refl; images = same_images (IsImage (disk_after calls disk)) };
    })

pub called_worked : {T : Type 0} (disk : ℕ) (work : Work) (calls later : List Call) (scripts after : List Script) (x : T) → disk < length scripts → Worked disk work calls later scripts after
    → Called disk (situation calls scripts) (situation later after) (let r : Result T ShelfFault = Ok x in r)
called_worked {T} disk work calls later scripts after x known worked =
    let script : Script = record (script_at scripts disk) { armed = one_on (script_at scripts disk).armed } in
    let r : Result T ShelfFault = Ok x in
    let is : Called disk (situation calls scripts) (situation (noting disk (when_done work) calls) (set scripts disk script)) r =
    called_noting disk (when_done work) calls scripts script r known
    (record { faults = refl; stops = refl })
    (record { model = refl; arms = refl; last_arm = refl; crashes = refl; last_crash = refl })
    (record { answer = worked.not_due; left = λ _. refl })
    (λ is. cc) in
    let Q : List Call → Type 0 = λ l. Called disk (situation calls scripts) (situation l (set scripts disk script)) r in
    let R : List Script → Type 0 = λ l. Called disk (situation calls scripts) (situation later l) r in
    subst R (sym worked.script) (subst Q (sym worked.noted) is)

pub called_faulted : {T : Type 0} (disk : ℕ) (work : Work) (calls later : List Call) (scripts after : List Script) (fault : ShelfFault) → disk < length scripts → Faulted fault disk work calls later scripts after
    → Called disk (situation calls scripts) (situation later after) (let r : Result T ShelfFault = Err fault in r)
called_faulted {T} disk work calls later scripts after Failed known missed =
    let script : Script = record (script_at scripts disk) { armed = one_on (script_at scripts disk).armed; faults = missed.count } in
    let r : Result T ShelfFault = Err Failed in
    let is : Called disk (situation calls scripts) (situation (noting disk (when_failed work) calls) (set scripts disk script)) r =
    called_noting disk (when_failed work) calls scripts script r known
    (missed.rose, refl)
    (record { model = refl; arms = refl; last_arm = refl; crashes = refl; last_crash = refl })
    (record { answer = missed.is_due; left = λ _. refl })
    (λ is. cc) in
    let Q : List Call → Type 0 = λ l. Called disk (situation calls scripts) (situation l (set scripts disk script)) r in
    let R : List Script → Type 0 = λ l. Called disk (situation calls scripts) (situation later l) r in
    subst R (sym missed.script) (subst Q (sym missed.noted) is)
called_faulted {T} disk work calls later scripts after Stopped known broke =
    let script : Script = record (script_at scripts disk) { armed = one_on (script_at scripts disk).armed; stops = broke.count } in
    let r : Result T ShelfFault = Err Stopped in
    let is : Called disk (situation calls scripts) (situation (noting disk (when_stopped broke.image work) calls) (set scripts disk script)) r =
    called_noting disk (when_stopped broke.image work) calls scripts script r known
    (refl, broke.rose)
    (record { model = refl; arms = refl; last_arm = refl; crashes = refl; last_crash = refl })
    (record { answer = (broke.image, broke.is_due); left = λ _. refl })
    (λ is. cc) in
    let Q : List Call → Type 0 = λ l. Called disk (situation calls scripts) (situation l (set scripts disk script)) r in
    let R : List Script → Type 0 = λ l. Called disk (situation calls scripts) (situation later l) r in
    subst R (sym broke.script) (subst Q (sym broke.noted) is)
called_faulted {T} disk work calls later scripts after NoMemory known stayed =
    let r : Result T ShelfFault = Err NoMemory in
    let is : Called disk (situation calls scripts) (situation calls scripts) r = called_none disk calls scripts r refl in
    let Q : List Call → Type 0 = λ l. Called disk (situation calls scripts) (situation l scripts) r in
    let R : List Script → Type 0 = λ l. Called disk (situation calls scripts) (situation later l) r in
    subst R (sym stayed.scripts_same) (subst Q (sym stayed.calls_same) is)
