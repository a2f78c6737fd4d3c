-- Maps by numbers, as the lists of their entries. Each key is in its list once.
use Rattle.std.proofs.Common.{◌≡◌, ℕ, Bool, true, false, Some, None, refl, sym, ap, ◌∙◌, cond, not, nat_le, List, [], ◌∷◌, Option, filter, length, arith}
use Rattle.std.specs.Ordering.{nat_cmp, eq_by_cmp}
use Rattle.std.specs.declared.cmp.Ordering.TheVariants.{Equal}
use Rattle.std.specs.Cmp.{nat_cmp_total}
use Rattle.std.specs.FinMap.{FinMap, empty, get, insert, remove, retain_keys, entries, find, put, from_entries, get-from_entries, get-insert, get-remove, get-retain_keys, entries-insert, len-entries, len-empty, same_map, nat_cmp-IsAntisymmetric}
use Rattle.sl_witness.proofs.Openings.{either_way}

-- the map of these entries
abbrev pub of : {X : Type 0} → List (ℕ × X) → FinMap nat_cmp X
of es = from_entries es

-- the entries of other keys
abbrev pub without : {X : Type 0} → ℕ → List (ℕ × X) → List (ℕ × X)
without k es = filter (λ e. not (eq_by_cmp nat_cmp e.0 k)) es

-- the entries with this one
abbrev pub with_entry : {X : Type 0} → ℕ → X → List (ℕ × X) → List (ℕ × X)
with_entry k v es = (k, v) ∷ without k es

-- those whose key is at least so much
abbrev pub from_key : {X : Type 0} → ℕ → List (ℕ × X) → List (ℕ × X)
from_key low es = filter (λ e. nat_le low e.0) es

pub got : {X : Type 0} (es : List (ℕ × X)) (k : ℕ) (o : Option X) → find nat_cmp k es ≡ o → get (of es) k ≡ o
got es k o is = get-from_entries nat_cmp_total es k ∙ is

first_of_two : {X : Type 0} (b : Bool) (x y : Option X) → cond b x (cond b None y) ≡ cond b x y
first_of_two true x y = refl
first_of_two false x y = refl

-- q is looked for among entries without k, of which the first has the key x
by_three :
    {X : Type 0} (q k x : ℕ) (a b c : Bool) → eq_by_cmp nat_cmp q k ≡ a → eq_by_cmp nat_cmp q x ≡ b → eq_by_cmp nat_cmp x k ≡ c
    → (v : X) (before : Option X) (after : List (ℕ × X)) → find nat_cmp q after ≡ cond a None before
    → find nat_cmp q (cond (not c) ((x, v) ∷ after) after) ≡ cond a None (cond b (Some v) before)
by_three q k x true true true p r s v before after e = e
by_three q k x true true false p r s v before after e = absurd (grind arith)
by_three q k x true false true p r s v before after e = e
by_three q k x true false false p r s v before after e = ap (λ t. cond t (Some v) (find nat_cmp q after)) r ∙ e
by_three q k x false true true p r s v before after e = absurd (grind arith)
by_three q k x false true false p r s v before after e = ap (λ t. cond t (Some v) (find nat_cmp q after)) r
by_three q k x false false true p r s v before after e = e
by_three q k x false false false p r s v before after e = ap (λ t. cond t (Some v) (find nat_cmp q after)) r ∙ e

find_without : {X : Type 0} (q k : ℕ) (es : List (ℕ × X)) → find nat_cmp q (without k es) ≡ cond (eq_by_cmp nat_cmp q k) None (find nat_cmp q es)
find_without q k [] = sym (either_way (eq_by_cmp nat_cmp q k) None)
find_without q k (e ∷ es) =
    by_three q k e.0 (eq_by_cmp nat_cmp q k) (eq_by_cmp nat_cmp q e.0) (eq_by_cmp nat_cmp e.0 k) refl refl refl e.1 (find nat_cmp q es) (without k es) (find_without q k es)

by_two :
    {X : Type 0} (low q x : ℕ) (a b c : Bool) → nat_le low q ≡ a → eq_by_cmp nat_cmp q x ≡ b → nat_le low x ≡ c
    → (v : X) (before : Option X) (after : List (ℕ × X)) → find nat_cmp q after ≡ cond a before None
    → find nat_cmp q (cond c ((x, v) ∷ after) after) ≡ cond a (cond b (Some v) before) None
by_two low q x true true true p r s v before after e = ap (λ t. cond t (Some v) (find nat_cmp q after)) r
by_two low q x true true false p r s v before after e = absurd (grind arith)
by_two low q x true false true p r s v before after e = ap (λ t. cond t (Some v) (find nat_cmp q after)) r ∙ e
by_two low q x true false false p r s v before after e = e
by_two low q x false true true p r s v before after e = absurd (grind arith)
by_two low q x false true false p r s v before after e = e
by_two low q x false false true p r s v before after e = ap (λ t. cond t (Some v) (find nat_cmp q after)) r ∙ e
by_two low q x false false false p r s v before after e = e

find_from : {X : Type 0} (low q : ℕ) (es : List (ℕ × X)) → find nat_cmp q (from_key low es) ≡ cond (nat_le low q) (find nat_cmp q es) None
find_from low q [] = sym (either_way (nat_le low q) None)
find_from low q (e ∷ es) = by_two low q e.0 (nat_le low q) (eq_by_cmp nat_cmp q e.0) (nat_le low e.0) refl refl refl e.1 (find nat_cmp q es) (from_key low es) (find_from low q es)

-- ---- changes of a map

pub inserted : {X : Type 0} (es : List (ℕ × X)) (k : ℕ) (v : X) → insert (of es) k v ≡ of (with_entry k v es)
inserted es k v = same_map nat_cmp_total nat_cmp-IsAntisymmetric _ _ (λ q.
    get-insert nat_cmp_total (of es) k v q
    ∙ (ap (cond (eq_by_cmp nat_cmp q k) (Some v)) (get-from_entries nat_cmp_total es q)
    ∙ sym (
    get-from_entries nat_cmp_total (with_entry k v es) q
    ∙ (ap (cond (eq_by_cmp nat_cmp q k) (Some v)) (find_without q k es) ∙ first_of_two (eq_by_cmp nat_cmp q k) (Some v) (find nat_cmp q es)))))

pub removed : {X : Type 0} (es : List (ℕ × X)) (k : ℕ) → remove (of es) k ≡ of (without k es)
removed es k = same_map nat_cmp_total nat_cmp-IsAntisymmetric _ _ (λ q.
    get-remove nat_cmp_total (of es) k q
    ∙ (ap (cond (eq_by_cmp nat_cmp q k) None) (get-from_entries nat_cmp_total es q) ∙ sym (get-from_entries nat_cmp_total (without k es) q ∙ find_without q k es)))

le_same_key : (low q x : ℕ) → nat_cmp q x ≡ Equal → nat_le low x ≡ nat_le low q
le_same_key low q x e = grind arith

pub kept_from : {X : Type 0} (es : List (ℕ × X)) (low : ℕ) → retain_keys (of es) (λ tag. nat_le low tag) ≡ of (from_key low es)
kept_from es low = same_map nat_cmp_total nat_cmp-IsAntisymmetric _ _ (λ q.
    get-retain_keys (of es) (λ tag. nat_le low tag) q (le_same_key low q)
    ∙ (ap (λ o. cond (nat_le low q) o None) (get-from_entries nat_cmp_total es q) ∙ sym (get-from_entries nat_cmp_total (from_key low es) q ∙ find_from low q es)))

-- ---- entries

no_entries : {A : Type 0} (es : List A) → length es ≡ 0 → es ≡ []
no_entries [] e = refl
no_entries (x ∷ es) e = absurd (omega arith)

pub entries_none : {X : Type 0} → entries (of {X = X} []) ≡ []
entries_none {X} = no_entries (entries (empty {X = X} {R = nat_cmp})) (sym (len-entries (empty {X = X} {R = nat_cmp})) ∙ len-empty nat_cmp X)

pub entries_one : {X : Type 0} (k : ℕ) (v : X) → entries (of ((k, v) ∷ [])) ≡ (k, v) ∷ []
entries_one k v = entries-insert nat_cmp_total empty k v ∙ ap (put nat_cmp k v) entries_none

-- ---- one entry

pub ties : (k : ℕ) → eq_by_cmp nat_cmp k k ≡ true
ties k = grind arith

pub got_one : {X : Type 0} (k : ℕ) (v : X) → get (of ((k, v) ∷ [])) k ≡ Some v
got_one k v = get-from_entries nat_cmp_total ((k, v) ∷ []) k ∙ ap (λ b. cond b (Some v) None) (ties k)

pub replaced : {X : Type 0} (k : ℕ) (v u : X) → insert (of ((k, v) ∷ [])) k u ≡ of ((k, u) ∷ [])
replaced k v u = inserted ((k, v) ∷ []) k u ∙ ap (λ b. of ((k, u) ∷ cond (not b) ((k, v) ∷ []) [])) (ties k)

pub emptied : {X : Type 0} (k : ℕ) (v : X) → remove (of ((k, v) ∷ [])) k ≡ of []
emptied k v = removed ((k, v) ∷ []) k ∙ ap (λ b. of (cond (not b) ((k, v) ∷ []) [])) (ties k)
