-- Steps, some of them after the others.
use Rattle.std.proofs.Common.{◌≡◌, ℕ, ◌≤◌, List, [], ◌∷◌, ◌++◌, length, take, drop, refl, sym, ◌∙◌, ap, arith, take-append-drop}
use Rattle.std.proofs.lemmas.List.{take-append-le, drop-append-le, take_all, drop_all}
use Rattle.sl_disk.specs.Images.{DiskState, after_steps, shown}
use Rattle.sl_disk.specs.declared.steps.Step.{Step}

pub after-append : (i : ℕ) (file : List ℕ) (xs ys : List Step) → after_steps i file (xs ++ ys) ≡ after_steps i (after_steps i file xs) ys
after-append i file [] ys = refl
after-append i file (x ∷ xs) ys = after-append i (shown i x.edit x.failed file) xs ys

-- all the steps, and first those that are synced
pub seen_whole : (file : List ℕ) (steps : List Step) (settled : ℕ) → after_steps 1 file steps ≡ after_steps 1 (after_steps 1 file (take settled steps)) (drop settled steps)
seen_whole file steps settled =
    ap (λ (l : List Step). after_steps 1 file l) (sym (take-append-drop settled steps)) ∙ after-append 1 file (take settled steps) (drop settled steps)

pub seen_push : (file contents : List ℕ) (steps more : List Step) (step : Step) → contents ≡ after_steps 1 file steps → more ≡ steps ++ step ∷ [] → shown 1 step.edit step.failed contents ≡ after_steps 1 file more
seen_push file contents steps more step is pushed =
    ap (λ (l : List ℕ). shown 1 step.edit step.failed l) is ∙ sym (after-append 1 file steps (step ∷ [])) ∙ ap (λ (l : List Step). after_steps 1 file l) (sym pushed)

-- a step more is one that is not synced
pub state_push : (file : List ℕ) (steps more : List Step) (settled : ℕ) (step : Step) → settled ≤ length steps → more ≡ steps ++ step ∷ []
    → let after : DiskState = record { synced = after_steps 1 file (take settled more); steps = drop settled more } in
    let wanted : DiskState = record { synced = after_steps 1 file (take settled steps); steps = drop settled steps ++ step ∷ [] } in after ≡ wanted
state_push file steps more settled step le pushed =
    let front : take settled more ≡ take settled steps = ap (λ (l : List Step). take settled l) pushed ∙ take-append-le settled steps (step ∷ []) le in
    let back : drop settled more ≡ drop settled steps ++ step ∷ [] = ap (λ (l : List Step). drop settled l) pushed ∙ drop-append-le settled steps (step ∷ []) le in
    λ i. record { synced = after_steps 1 file (front i); steps = back i }

pub state_settled : (file contents : List ℕ) (steps : List Step) (settled all : ℕ) → contents ≡ after_steps 1 file steps → all ≡ length steps
    → let after : DiskState = record { synced = after_steps 1 file (take all steps); steps = drop all steps } in
    let wanted : DiskState = record { synced = after_steps 1 (after_steps 1 file (take settled steps)) (drop settled steps); steps = [] } in after ≡ wanted
state_settled file contents steps settled all is whole =
    let front : after_steps 1 file (take all steps) ≡ after_steps 1 (after_steps 1 file (take settled steps)) (drop settled steps) =
    ap (λ (l : List Step). after_steps 1 file l) (take_all all steps (omega (arith, whole))) ∙ seen_whole file steps settled in
    let back : drop all steps ≡ [] = drop_all all steps (omega (arith, whole)) in
    λ i. record { synced = front i; steps = back i }

-- an image one step on
pub image_push : (i : ℕ) (left file : List ℕ) (steps : List Step) (step : Step) → left ≡ shown i step.edit step.failed (after_steps i file steps) → left ≡ after_steps i file (steps ++ step ∷ [])
image_push i left file steps step is = is ∙ sym (after-append i file steps (step ∷ []))
