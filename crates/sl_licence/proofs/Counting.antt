-- How many writes are of a file.
use Rattle.std.proofs.Common.{◌≡◌, ℕ, suc, ◌+◌, ◌<◌, ◌≤◌, add-one, Bool, true, false, cond, List, ◌∷◌, length, get_or, drop, drop-cons, refl, ap, sym, ◌∙◌, arith}
use Rattle.std.proofs.lemmas.List.{drop_all}
use Rattle.std.specs.Prelude.{map, filter, ◌==◌}
use Rattle.sl_model.specs.Volume.{Unstable}
use Rattle.sl_history.specs.Licensed.{writes_of}
use Rattle.sl_plain.specs.Unstables.{write_of}
use Rattle.sl_plain.specs.declared.pending.Pending.{Pending}

-- the writes of the file from place k on
abbrev pub of_rest : ℕ → List Pending → ℕ → ℕ
of_rest f ps k = writes_of f (map write_of (drop k ps))

rest_is : (f : ℕ) (ps : List Pending) (k : ℕ) (p : Pending) → k < length ps → p ≡ get_or ps k p → of_rest f ps k ≡ writes_of f (write_of p ∷ map write_of (drop (k + 1) ps))
rest_is f ps k p within is =
    ap (λ (x : List Pending). writes_of f (map write_of x)) (drop-cons ps k p within ∙ ap (λ (x : Pending). x ∷ drop (suc k) ps) (sym is))
    ∙ ap (λ (j : ℕ). writes_of f (write_of p ∷ map write_of (drop j ps))) (sym (add-one k))

one_write : (b : Bool) (w : Unstable) (ws : List Unstable) → b ≡ true → length (cond b (w ∷ ws) ws) ≡ length ws + 1
one_write true w ws e = sym (add-one (length ws))
one_write false w ws e = absurd (cc)

no_write : (b : Bool) (w : Unstable) (ws : List Unstable) → b ≡ false → length (cond b (w ∷ ws) ws) ≡ length ws
no_write true w ws e = absurd (cc)
no_write false w ws e = refl

-- a write of the file, and one of another
pub counts_on : (f : ℕ) (ps : List Pending) (k : ℕ) (p : Pending) (count all : ℕ) → k < length ps → p ≡ get_or ps k p → (p.fileid == f) ≡ true
    → count + of_rest f ps k ≡ all → (count + 1) + of_rest f ps (k + 1) ≡ all
counts_on f ps k p count all within is same counted =
    let there = rest_is f ps k p within is in
    let one = one_write (p.fileid == f) (write_of p) (filter (λ (w : Unstable). w.fileid == f) (map write_of (drop (k + 1) ps))) same in
    let goal : (count + 1) + of_rest f ps (k + 1) ≡ all = omega (arith, there, one, counted) in
    goal

pub counts_none : (f : ℕ) (ps : List Pending) (k : ℕ) (p : Pending) (count all : ℕ) → k < length ps → p ≡ get_or ps k p → (p.fileid == f) ≡ false
    → count + of_rest f ps k ≡ all → count + of_rest f ps (k + 1) ≡ all
counts_none f ps k p count all within is other counted =
    let there = rest_is f ps k p within is in
    let none = no_write (p.fileid == f) (write_of p) (filter (λ (w : Unstable). w.fileid == f) (map write_of (drop (k + 1) ps))) other in
    let goal : count + of_rest f ps (k + 1) ≡ all = omega (arith, there, none, counted) in
    goal

pub counts_all : (f : ℕ) (ps : List Pending) (k count all : ℕ) → length ps ≤ k → count + of_rest f ps k ≡ all → count ≡ all
counts_all f ps k count all end counted =
    let none : of_rest f ps k ≡ 0 = ap (λ (x : List Pending). writes_of f (map write_of x)) (drop_all k ps end) in
    omega (arith, none, counted)
