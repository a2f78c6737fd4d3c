-- The writes of other files.
use Rattle.std.proofs.Common.{◌≡◌, ◌↔◌, ◌∙◌, ◌<◌, ◌≤◌, ◌+◌, ℕ, List, [], ◌∷◌, true, false, cond, length, drop, get_or, refl, sym, ap, subst, arith}
use Rattle.std.specs.Bool.{Decides}
use Rattle.std.proofs.lemmas.List.{drop_more, drop_all}
use Rattle.std.specs.Prelude.{filter, map, not, ◌==◌, ◌||◌}
use Rattle.std.specs.List.{list_any}
use Rattle.sl_model.specs.Gathered.{is_unstable}
use Rattle.sl_model.specs.Volume.{without_file}
use Rattle.sl_plain.specs.declared.pending.Pending.{Pending}
use Rattle.sl_plain.specs.Unstables.{write_of}

pub others : (f : ℕ) (ps : List Pending) → map write_of (filter (λ (p : Pending). not (p.fileid == f)) ps) ≡ without_file f (map write_of ps)
others f [] = refl
others f (p ∷ ps) =
    elim (p.fileid == f) as (λ b. map write_of (cond (not b) (p ∷ filter (λ (p : Pending). not (p.fileid == f)) ps) (filter (λ (p : Pending). not (p.fileid == f)) ps)) ≡ cond b (without_file f (map write_of ps)) (write_of p ∷ without_file f (map write_of ps))) [
      | true ↦ others f ps
      | false ↦ ap (λ z. write_of p ∷ z) (others f ps)
    ]

-- a test of the writes' files
pub any_of_file : (file : ℕ) (ps : List Pending) → list_any (λ (p : Pending). p.fileid == file) ps ≡ is_unstable file (map write_of ps)
any_of_file file [] = refl
any_of_file file (p ∷ ps) = ap (λ b. (p.fileid == file) || b) (any_of_file file ps)

-- ---- the same writes

-- those that are left are the same exactly if all are
pub SameFrom : List Pending → List Pending → List Pending → List Pending → Type 0
SameFrom all others ps qs = (map write_of ps ≡ map write_of qs) ↔ (map write_of all ≡ map write_of others)

pub same_so_far : (all others : List Pending) → SameFrom all others all others
unfolding SameFrom
same_so_far all others = (λ e. e, λ e. e)

same_heads : {A : Type 0} (x y : A) (xs ys : List A) → x ∷ xs ≡ y ∷ ys → x ≡ y
same_heads x y xs ys e = cc e

same_tails : {A : Type 0} (x y : A) (xs ys : List A) → x ∷ xs ≡ y ∷ ys → xs ≡ ys
same_tails x y xs ys e = cc e

pub one_same : (all others ps qs : List Pending) (p q : Pending) → SameFrom all others (p ∷ ps) (q ∷ qs) → write_of p ≡ write_of q → SameFrom all others ps qs
unfolding SameFrom
one_same all others ps qs p q s e = (
  λ more. s.0 (ap (λ w. w ∷ map write_of ps) e ∙ ap (λ ws. write_of q ∷ ws) more),
  λ whole. same_tails (write_of p) (write_of q) (map write_of ps) (map write_of qs) (s.1 whole),
)

pub one_other : (all others ps qs : List Pending) (p q : Pending) → SameFrom all others (p ∷ ps) (q ∷ qs) → (write_of p ≡ write_of q → ⊥) → Decides false (map write_of all ≡ map write_of others)
unfolding SameFrom
one_other all others ps qs p q s other = (λ t. cc t, λ whole. absurd (other (same_heads (write_of p) (write_of q) (map write_of ps) (map write_of qs) (s.1 whole))))

pub more_left : (all others : List Pending) (i : ℕ) (p q : Pending) → i < length all → length all ≡ length others → p ≡ get_or all i p → q ≡ get_or others i q → SameFrom all others (drop i all) (drop i others) → SameFrom all others (p ∷ drop (i + 1) all) (q ∷ drop (i + 1) others)
more_left all others i p q less same e f s =
    subst (λ (ps : List Pending). SameFrom all others ps (q ∷ drop (i + 1) others)) (drop_more all i p less ∙ ap (λ x. x ∷ drop (i + 1) all) (sym e))
    (subst (λ (qs : List Pending). SameFrom all others (drop i all) qs) (drop_more others i q (omega (arith, less, same)) ∙ ap (λ x. x ∷ drop (i + 1) others) (sym f)) s)

pub none_left : (all others : List Pending) (i : ℕ) → length all ≡ length others → length all ≤ i → SameFrom all others (drop i all) (drop i others) → Decides true (map write_of all ≡ map write_of others)
unfolding SameFrom
none_left all others i same past s =
    (λ t. s.0 (ap (map write_of) (drop_all i all past ∙ sym (drop_all i others (omega (arith, same, past))))), λ e. refl)
