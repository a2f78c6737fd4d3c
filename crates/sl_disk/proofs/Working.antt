-- What a device call of a shelf in memory does to its own disk.
use Rattle.std.proofs.Common.{◌≡◌, ℕ, ◌+◌, ◌%◌, ◌^◌, ◌<◌, Bool, true, false, List, [], ◌∷◌, ◌++◌, length, set, refl, sym, ◌∙◌, ap, subst, Some, Result, Ok, Err, OnOk}
use Rattle.std.proofs.lemmas.List.{get_or-set_same}
use Rattle.sl_disk.specs.Shelf.{SameImages, Called, Follows, NoMore, Only, OnlyLooks, Leaves}
use Rattle.sl_disk.specs.Images.{DiskState, IsImage, image, shown, after_steps, as_read}
use Rattle.sl_disk.specs.Record.{changed, disk_after, situation, told, no_script}
use Rattle.sl_disk.specs.Performing.{noting, Worked, Performs, script_at}
use Rattle.sl_disk.specs.declared.record.Call.{Call}
use Rattle.sl_disk.specs.declared.record.Change.{Change}
use Rattle.sl_disk.specs.declared.record.Change.TheVariants.{Took, Synced, Left, StoppedAt}
use Rattle.sl_disk.specs.declared.record.Work.TheVariants.{Look, Alter, Sync}
use Rattle.sl_disk.specs.declared.script.Script.{Script}
use Rattle.sl_disk.specs.declared.steps.Edit.{Edit}
use Rattle.sl_disk.specs.declared.shelf.ShelfFault.{ShelfFault}
use Rattle.sl_disk.specs.declared.shelf.ShelfFault.TheVariants.{Failed, Stopped, NoMemory}
use Rattle.sl_disk.proofs.Pieces.{after-append}
use Rattle.sl_disk.proofs.Replays.{push_here}
use Rattle.sl_disk.proofs.Keeping.{called_worked, called_faulted}

-- every call keeps to what every device call keeps to
pub calls : {T : Type 0} (disk : ℕ) (work : _) (before later : List Call) (scripts after : List Script) (result : Result T ShelfFault) → disk < length scripts → Performs disk work before later scripts after result
    → Called disk (situation before scripts) (situation later after) result
calls disk work before later scripts after (Ok x) known done = called_worked disk work before later scripts after x known done
calls disk work before later scripts after (Err fault) known missed = called_faulted disk work before later scripts after fault known missed

-- the disk itself, where this change is noted
state_noted : (disk : ℕ) (change : Change) (before later : List Call) → later ≡ noting disk (Some change) before → disk_after later disk ≡ changed change (disk_after before disk)
state_noted disk change before later noted = ap (λ (l : List Call). disk_after l disk) noted ∙ push_here before disk change

-- ---- a step

module _ (R : List ℕ → List ℕ → Type 0) (edit : Edit) (shows : (i : ℕ) (failed : Bool) (file : List ℕ) → R file (shown i edit failed file)) (stays : (file : List ℕ) → R file file) where
  one_step : (i : ℕ) (failed : Bool) (state : DiskState) → R (image i state) (after_steps i state.synced (state.steps ++ (record { edit = edit; failed = failed }) ∷ []))
  one_step i failed state = subst (R (image i state)) (sym (after-append i state.synced state.steps ((record { edit = edit; failed = failed }) ∷ []))) (shows i failed (image i state))

  took : (failed : Bool) (state : DiskState) → Follows R (IsImage state) (IsImage (changed (Took (record { edit = edit; failed = failed })) state))
  took failed state c left = (image left.0 state, (left.0, refl), subst (R (image left.0 state)) (sym left.1) (one_step left.0 failed state))

  stopped : (i : ℕ) (state : DiskState) → Follows R (IsImage state) (IsImage (changed (StoppedAt (record { edit = edit; failed = false }) i) state))
  stopped i state c left = (image i state, (i, refl), subst (R (image i state)) (sym (left.1 ∙ unmoved left.0)) (one_step i false state))
    where
      unmoved : (k : ℕ) → image k (changed (StoppedAt (record { edit = edit; failed = false }) i) state) ≡ after_steps i state.synced (state.steps ++ (record { edit = edit; failed = false }) ∷ [])
      unmoved k = refl

  pub altered : (disk : ℕ) (before later : List Call) (scripts after : List Script) {T : Type 0} (result : Result T ShelfFault) → Performs disk (Alter edit) before later scripts after result
      → Follows R (IsImage (disk_after before disk)) (IsImage (disk_after later disk))
  altered disk before later scripts after (Ok x) done =
      subst (λ (s : DiskState). Follows R (IsImage (disk_after before disk)) (IsImage s)) (sym (state_noted disk _ before later done.noted)) (took false (disk_after before disk))
  altered disk before later scripts after (Err Failed) missed =
      subst (λ (s : DiskState). Follows R (IsImage (disk_after before disk)) (IsImage s)) (sym (state_noted disk _ before later missed.noted)) (took true (disk_after before disk))
  altered disk before later scripts after (Err Stopped) broke =
      subst (λ (s : DiskState). Follows R (IsImage (disk_after before disk)) (IsImage s)) (sym (state_noted disk _ before later broke.noted)) (stopped broke.image (disk_after before disk))
  altered disk before later scripts after (Err NoMemory) stayed =
      subst (λ (l : List Call). Follows R (IsImage (disk_after before disk)) (IsImage (disk_after l disk))) (sym stayed.calls_same) (λ c left. (c, left, stays c))

-- what a read gives then
pub altered_contents : {T : Type 0} (disk : ℕ) (edit : Edit) (before later : List Call) (scripts after : List Script) (result : Result T ShelfFault) → Performs disk (Alter edit) before later scripts after result
    → OnOk result (image 1 (disk_after later disk) ≡ as_read edit false (image 1 (disk_after before disk)))
altered_contents disk edit before later scripts after (Ok x) done =
    ap (image 1) (state_noted disk _ before later done.noted) ∙ after-append 1 (disk_after before disk).synced (disk_after before disk).steps ((record { edit = edit; failed = false }) ∷ [])
altered_contents disk edit before later scripts after (Err fault) missed = tt

-- ---- an image that is left

left_only : (i : ℕ) (state : DiskState) (c : List ℕ) → IsImage (changed (Left i) state) c → IsImage state c
left_only i state c left = (i, left.1)

synced_only : (state : DiskState) (c : List ℕ) → IsImage (changed Synced state) c → IsImage state c
synced_only state c left = (1, left.1)

-- ---- a sync

pub synced_images : {T : Type 0} (disk : ℕ) (before later : List Call) (scripts after : List Script) (result : Result T ShelfFault) → Performs disk Sync before later scripts after result
    → NoMore (IsImage (disk_after before disk)) (IsImage (disk_after later disk))
synced_images disk before later scripts after (Ok x) done =
    subst (λ (s : DiskState). NoMore (IsImage (disk_after before disk)) (IsImage s)) (sym (state_noted disk _ before later done.noted)) (synced_only (disk_after before disk))
synced_images disk before later scripts after (Err Failed) missed =
    subst (λ (l : List Call). NoMore (IsImage (disk_after before disk)) (IsImage (disk_after l disk))) (sym missed.noted) (λ c left. left)
synced_images disk before later scripts after (Err Stopped) broke =
    subst (λ (s : DiskState). NoMore (IsImage (disk_after before disk)) (IsImage s)) (sym (state_noted disk _ before later broke.noted)) (left_only broke.image (disk_after before disk))
synced_images disk before later scripts after (Err NoMemory) stayed =
    subst (λ (l : List Call). NoMore (IsImage (disk_after before disk)) (IsImage (disk_after l disk))) (sym stayed.calls_same) (λ c left. left)

pub synced_contents : {T : Type 0} (disk : ℕ) (before later : List Call) (scripts after : List Script) (result : Result T ShelfFault) → Performs disk Sync before later scripts after result
    → OnOk result (image 1 (disk_after later disk) ≡ image 1 (disk_after before disk))
synced_contents disk before later scripts after (Ok x) done = ap (image 1) (state_noted disk _ before later done.noted)
synced_contents disk before later scripts after (Err fault) missed = tt

pub synced_durable : {T : Type 0} (disk : ℕ) (before later : List Call) (scripts after : List Script) (result : Result T ShelfFault) → Performs disk Sync before later scripts after result
    → OnOk result (Only (image 1 (disk_after before disk)) (IsImage (disk_after later disk)))
synced_durable disk before later scripts after (Ok x) done =
    subst (λ (s : DiskState). Only (image 1 (disk_after before disk)) (IsImage s)) (sym (state_noted disk _ before later done.noted)) (λ c left. left.1)
synced_durable disk before later scripts after (Err fault) missed = tt

-- ---- a look

pub looks : {T : Type 0} (disk : ℕ) (before later : List Call) (scripts after : List Script) (result : Result T ShelfFault) → Performs disk Look before later scripts after result
    → OnlyLooks disk (situation before scripts) (situation later after) result
looks disk before later scripts after (Ok x) done = unmoved done.noted
  where
    unmoved : later ≡ before → OnlyLooks disk (situation before scripts) (situation later after) (Ok x)
    unmoved same = record {
      contents = λ modelled other. ap (λ (l : List Call). image 1 (disk_after l disk)) same;
      images = λ other. subst (λ (l : List Call). SameImages (IsImage (disk_after before disk)) (IsImage (disk_after l disk))) (sym same) (λ c. (λ p. p, λ p. p));
      no_more = subst (λ (l : List Call). NoMore (IsImage (disk_after before disk)) (IsImage (disk_after l disk))) (sym same) (λ c p. p);
    }
looks disk before later scripts after (Err Failed) missed = record {
  contents = λ modelled other. ap (λ (l : List Call). image 1 (disk_after l disk)) missed.noted;
  images = λ other. subst (λ (l : List Call). SameImages (IsImage (disk_after before disk)) (IsImage (disk_after l disk))) (sym missed.noted) (λ c. (λ p. p, λ p. p));
  no_more = subst (λ (l : List Call). NoMore (IsImage (disk_after before disk)) (IsImage (disk_after l disk))) (sym missed.noted) (λ c p. p);
}
looks disk before later scripts after (Err Stopped) broke = record {
  contents = λ modelled other. absurd (other refl);
  images = λ other. absurd (other refl);
  no_more = subst (λ (s : DiskState). NoMore (IsImage (disk_after before disk)) (IsImage s)) (sym (state_noted disk _ before later broke.noted)) (left_only broke.image (disk_after before disk));
}
looks disk before later scripts after (Err NoMemory) stayed = record {
  contents = λ modelled other. ap (λ (l : List Call). image 1 (disk_after l disk)) stayed.calls_same;
  images = λ other. subst (λ (l : List Call). SameImages (IsImage (disk_after before disk)) (IsImage (disk_after l disk))) (sym stayed.calls_same) (λ c. (λ p. p, λ p. p));
  no_more = subst (λ (l : List Call). NoMore (IsImage (disk_after before disk)) (IsImage (disk_after l disk))) (sym stayed.calls_same) (λ c p. p);
}

-- what is read is what stood there before
pub looked : (disk : ℕ) (before later : List Call) (scripts after : List Script) → Worked disk Look before later scripts after → disk_after later disk ≡ disk_after before disk
looked disk before later scripts after done = ap (λ (l : List Call). disk_after l disk) done.noted

-- ---- a stop between two calls

pub left_only_images : (disk i : ℕ) (before later : List Call) → later ≡ noting disk (Some (Left i)) before → NoMore (IsImage (disk_after before disk)) (IsImage (disk_after later disk))
left_only_images disk i before later noted =
    subst (λ (s : DiskState). NoMore (IsImage (disk_after before disk)) (IsImage s)) (sym (state_noted disk (Left i) before later noted)) (left_only i (disk_after before disk))

pub leaves : (disk i : ℕ) (before later : List Call) (scripts : List Script) (script : Script) → disk < length scripts → later ≡ noting disk (Some (Left i)) before
    → script ≡ (record (script_at scripts disk) { crashes = ((script_at scripts disk).crashes + 1) % 2 ^ 64; last_crash = Some i })
    → Leaves i disk (situation before scripts) (situation later (set scripts disk script))
leaves disk i before later scripts script known noted is =
    let state : disk_after later disk ≡ changed (Left i) (disk_after before disk) = state_noted disk (Left i) before later noted in
    record {
      told = λ modelled. ap (λ (s : Script). told (disk_after later disk) s) (get_or-set_same scripts disk script no_script known ∙ is);
      an_image = λ modelled. (i, ap (image 1) state);
      settled = λ modelled. subst (λ (s : DiskState). Only (image 1 s) (IsImage s)) (sym state) (λ c left. left.1);
    }
