-- Files and events in their order.
use Rattle.std.proofs.Common.{◌≡◌, ℕ, zero, suc, ◌+◌, ◌<◌, ◌≤◌, add-one, eq-eqb, get_or, length, take, Bool, true, false, cond, ◌&&◌, ◌||◌, List, [], ◌∷◌, ◌++◌, Option, Some, refl, ap, sym, subst, ◌∙◌, arith}
use Rattle.std.proofs.Math.Seq.{take-suc}
use Rattle.std.proofs.lemmas.Bool.{ne_eqb, true≢false}
use Rattle.std.proofs.lemmas.Bool.Decides.{nat_tests}
use Rattle.std.specs.Prelude.{◌==◌, if◌then◌else◌, is_some}
use Rattle.std.specs.BTreeMap.{BTreeMap, is_at}
use Rattle.std.specs.BTreeMap as tree
use Rattle.std.specs.BTreeMap.Range.{IsRangeOf}
use Rattle.std.specs.Cmp.{nat_cmp_is, ranked}
use Rattle.std.specs.Option.{IsSome}
use Rattle.std.specs.Ordering.{is_eq, is_gt, is_lt, nat_cmp, ordering_then}
use Rattle.std.specs.declared.cmp.Ordering.{Ordering}
use Rattle.std.specs.declared.cmp.Ordering.TheVariants.{Less, Equal, Greater}
use Rattle.std.specs.declared.ops.Bound.TheVariants.{Included, Excluded}
use Rattle.sl_model.specs.Volume.{place_cmp}
use Rattle.sl_history.specs.Licensed.{is_in}
use Rattle.sl_recall.specs.Telling.{IsLast, told_at}

same_first : (f : ℕ) → nat_cmp f f ≡ Equal
same_first f = sym (nat_cmp_is f f Equal refl)

-- between a file's first event and this one lie the file's events before it
pub in_file : (f n : ℕ) (q : ℕ × ℕ) → is_gt (place_cmp (f, 0) q) ≡ false → place_cmp q (f, n) ≡ Less → (q.0 ≡ f) × (q.1 < n)
in_file f n q from to = at (nat_cmp f q.0) (nat_cmp q.0 f) refl refl from to
  where
    at : (a b : Ordering) → a ≡ nat_cmp f q.0 → b ≡ nat_cmp q.0 f → is_gt (ordering_then a (nat_cmp 0 q.1)) ≡ false → ordering_then b (nat_cmp q.1 n) ≡ Less → (q.0 ≡ f) × (q.1 < n)
    at a Equal s t u v = (ranked q.0 f Equal t, ranked q.1 n Less (sym v))
    at a Greater s t u v = cc v
    at Less Less s t u v = absurd (omega (arith, ranked f q.0 Less s, ranked q.0 f Less t))
    at Equal Less s t u v = absurd (omega (arith, ranked f q.0 Equal s, ranked q.0 f Less t))
    at Greater Less s t u v = absurd (true≢false u)

pub from_first : (f e : ℕ) → is_gt (place_cmp (f, 0) (f, e)) ≡ false
from_first f e = ap (λ r. is_gt (ordering_then r (nat_cmp 0 e))) (same_first f) ∙ at e
  where
    at : (e : ℕ) → is_gt (nat_cmp 0 e) ≡ false
    at zero = ap is_gt (same_first 0)
    at (suc e) = ap is_gt (sym (nat_cmp_is 0 (suc e) Less (omega arith)))

pub up_to : (f e n : ℕ) → e < n → place_cmp (f, e) (f, n) ≡ Less
up_to f e n less = ap (λ r. ordering_then r (nat_cmp e n)) (same_first f) ∙ sym (nat_cmp_is e n Less less)

pub not_behind : (f e g : ℕ) → is_lt (place_cmp (f, e) (f, g)) ≡ false → g ≤ e
not_behind f e g h = at (nat_cmp e g) refl
  where
    at : (r : Ordering) → r ≡ nat_cmp e g → g ≤ e
    at Less s = absurd (true≢false (sym (ap is_lt (ap (λ r. ordering_then r (nat_cmp e g)) (same_first f) ∙ sym s)) ∙ h))
    at Equal s = omega (arith, ranked e g Equal s)
    at Greater s = omega (arith, ranked e g Greater s)

is_there : (o : Option ℕ) (d : ℕ) → o ≡ Some d → IsSome o
is_there o d e = subst IsSome (sym e) refl

-- the last entry of the range is the file's last telling before the event
pub last_of : (m : BTreeMap (ℕ × ℕ) ℕ) (f n : ℕ) (r t : List ((ℕ × ℕ) × ℕ)) (q : ℕ × ℕ) (d : ℕ) → IsRangeOf place_cmp (Included (f, 0)) (Excluded (f, n)) m r → r ≡ t ++ (q, d) ∷ []
    → IsLast m f n (record { event = q.1; datagrams = d })
last_of m f n r t q d part step =
    let here = part.3 (q, d) t step in
    let where_is = in_file f n q here.0.0 here.0.1 in
    let place : (f, q.1) ≡ q = ap (λ k. (k, q.1)) (sym where_is.0) in
    record {
      is = ap (tree.get place_cmp m) place ∙ here.1;
      before = where_is.1;
      last = λ e x less told. not_behind f q.1 e (subst (λ k. is_lt (place_cmp k (f, e)) ≡ false) (sym place) (part.4 (q, d) t step (f, e) (from_first f e, up_to f e n less) (is_there (told_at m f e) x told)));
    }

pub none_of : (m : BTreeMap (ℕ × ℕ) ℕ) (f n : ℕ) (r : List ((ℕ × ℕ) × ℕ)) → IsRangeOf place_cmp (Included (f, 0)) (Excluded (f, n)) m r → r ≡ [] → (e d : ℕ) → e < n → told_at m f e ≡ Some d → ⊥
none_of m f n r part none e d less told = true≢false (ap is_some (sym told ∙ part.5 none (f, e) (from_first f e, up_to f e n less)))

-- ---- a file that is put

at_place : (x v f e : ℕ) → is_at (place_cmp (x, v)) (f, e) ≡ ((x == f) && (v == e))
at_place x v f e = by (nat_cmp x f) (nat_cmp v e) refl refl
  where
    by : (a b : Ordering) → a ≡ nat_cmp x f → b ≡ nat_cmp v e → is_eq (ordering_then (nat_cmp x f) (nat_cmp v e)) ≡ ((x == f) && (v == e))
    by a b s t = ap (λ r. is_eq (ordering_then r (nat_cmp v e))) (sym s) ∙ ap (λ r. is_eq (ordering_then a r)) (sym t) ∙ at a b s t
      where
        at : (a b : Ordering) → a ≡ nat_cmp x f → b ≡ nat_cmp v e → is_eq (ordering_then a b) ≡ ((x == f) && (v == e))
        at Less b s t = sym (ap (λ c. c && (v == e)) (ne_eqb x f (λ z. absurd (omega (arith, z, ranked x f Less s)))))
        at Greater b s t = sym (ap (λ c. c && (v == e)) (ne_eqb x f (λ z. absurd (omega (arith, z, ranked x f Greater s)))))
        at Equal Less s t = sym (ap (λ c. c && (v == e)) (eq-eqb x f (ranked x f Equal s)) ∙ ne_eqb v e (λ z. absurd (omega (arith, z, ranked v e Less t))))
        at Equal Greater s t = sym (ap (λ c. c && (v == e)) (eq-eqb x f (ranked x f Equal s)) ∙ ne_eqb v e (λ z. absurd (omega (arith, z, ranked v e Greater t))))
        at Equal Equal s t = sym (ap (λ c. c && (v == e)) (eq-eqb x f (ranked x f Equal s)) ∙ eq-eqb v e (ranked v e Equal t))

in_append : (f g : ℕ) (xs : List ℕ) → is_in f (xs ++ g ∷ []) ≡ (is_in f xs || (g == f))
in_append f g [] = or_none (g == f)
  where
    or_none : (b : Bool) → (b || false) ≡ b
    or_none true = refl
    or_none false = refl
in_append f g (x ∷ xs) = ap (λ b. (x == f) || b) (in_append f g xs) ∙ grouped (x == f) (is_in f xs) (g == f)
  where
    grouped : (a b c : Bool) → (a || (b || c)) ≡ ((a || b) || c)
    grouped true b c = refl
    grouped false b c = refl

-- one file more is put
pub one_put : (first old new : BTreeMap (ℕ × ℕ) ℕ) (files : List ℕ) (i x v d : ℕ) → i < length files → x ≡ get_or files i 0
    → ((f e : ℕ) → told_at old f e ≡ (if (e == v) && is_in f (take i files) then Some d else told_at first f e))
    → ((q : ℕ × ℕ) → tree.get place_cmp new q ≡ cond (is_at (place_cmp (x, v)) q) (Some d) (tree.get place_cmp old q))
    → (f e : ℕ) → told_at new f e ≡ (if (e == v) && is_in f (take (i + 1) files) then Some d else told_at first f e)
one_put first old new files i x v d less is so put f e =
    put (f, e) ∙ ap (λ b. cond b (Some d) (told_at old f e)) (at_place x v f e) ∙ ap (cond ((x == f) && (v == e)) (Some d)) (so f e)
    ∙ joined (x == f) (v == e) (e == v) (is_in f (take i files)) (swapped v e) ∙ ap (λ b. if (e == v) && b then Some d else told_at first f e) (sym more)
  where
    swapped : (a b : ℕ) → (a == b) ≡ (b == a)
    swapped a b = grind (arith, nat_tests)

    more : is_in f (take (i + 1) files) ≡ (is_in f (take i files) || (x == f))
    more = ap (λ j. is_in f (take j files)) (add-one i) ∙ ap (is_in f) (take-suc files i 0 less ∙ ap (λ y. take i files ++ y ∷ []) (sym is)) ∙ in_append f x (take i files)

    joined : (p q r s : Bool) → q ≡ r → cond (p && q) (Some d) (if r && s then Some d else told_at first f e) ≡ (if r && (s || p) then Some d else told_at first f e)
    joined true true true true z = refl
    joined true true true false z = refl
    joined true true false s z = absurd (true≢false z)
    joined true false true s z = absurd (true≢false (sym z))
    joined true false false s z = refl
    joined false q true true z = refl
    joined false q true false z = refl
    joined false q false s z = refl
