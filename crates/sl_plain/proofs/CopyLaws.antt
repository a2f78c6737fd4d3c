-- Maps that are copied entry by entry, and what a tree map's order says of the finite map that it makes.
use Rattle.std.proofs.Common.{◌≡◌, List, [], ◌∷◌, Option, Some, None, Bool, true, false, cond, refl, sym, ap, ◌∙◌, arith}
use Rattle.std.specs.Prelude.{map, length}
use Rattle.std.specs.List.{AllByRecursion}
use Rattle.std.specs.List.Sorted.{IsStrictlySortedBy}
use Rattle.std.specs.Map.{keys_of}
use Rattle.std.specs.declared.cmp.Ordering.{Ordering}
use Rattle.std.specs.declared.cmp.Ordering.TheVariants.{Less}
use Rattle.std.specs.Cmp.{IsTotalOrder}
use Rattle.std.specs.Ordering.{eq_by_cmp, is_eq}
use Rattle.std.proofs.lemmas.Cmp.{eq_by_cmp_equiv}
use Rattle.std.proofs.lemmas.Map.Lookups.{CmpEqualImpliesEq}
use Rattle.std.specs.FinMap.{FinMap, get, insert, empty, entries, from_entries, get-from_entries, get-insert, entries-insert, get-empty, same_map, len, len-entries, len-empty}
use Rattle.std.specs.FinMap.Entries.{find, put, by_order}
use Rattle.sl_model.specs.declared.node.Entry.{Entry}
use Rattle.sl_model.specs.Volume.{name_cmp}
use Rattle.sl_plain.specs.declared.names.Place.{Place}
use Rattle.sl_plain.specs.Maps.{named, place_order}

-- a map with these entries put into it, one after another
pub overlay : {K X : Type 0} {R : K → K → Ordering} → List (K × X) → FinMap R X → FinMap R X
overlay [] m = m
overlay (e ∷ es) m = overlay es (insert m e.0 e.1)

pub overlay_none : {K X : Type 0} {R : K → K → Ordering} (m : FinMap R X) → overlay [] m ≡ m
unfolding overlay
overlay_none m = refl

pub overlay_one : {K X : Type 0} {R : K → K → Ordering} (e : K × X) (es : List (K × X)) (m : FinMap R X) → overlay es (insert m e.0 e.1) ≡ overlay (e ∷ es) m
unfolding overlay
overlay_one e es m = refl

-- what the entries have at a key, else what the map has
abbrev or_else : {X : Type 0} → Option X → Option X → Option X
or_else (Some x) o = Some x
or_else None o = o

-- no key below the first is like one that is like the first
pub none_below : {K X : Type 0} (R : K → K → Ordering) (o : IsTotalOrder R) (k q : K) (es : List (K × X)) → eq_by_cmp R q k ≡ true → AllByRecursion (λ y. R k y ≡ Less) (keys_of es) → find R q es ≡ None
none_below R o k q [] t h = refl
none_below R o k q (e ∷ es) t h = ap (λ b. cond b (Some e.1) (find R q es)) apart ∙ none_below R o k q es t h.1
  where
    apart : eq_by_cmp R q e.0 ≡ false
    apart = (eq_by_cmp_equiv o).congr q k e.0 t ∙ ap is_eq h.0

get_overlay : {K X : Type 0} (R : K → K → Ordering) (o : IsTotalOrder R) (q : K) (es : List (K × X)) (m : FinMap R X) → IsStrictlySortedBy R (keys_of es) → get (overlay es m) q ≡ or_else (find R q es) (get m q)
unfolding overlay IsStrictlySortedBy
get_overlay R o q [] m h = refl
get_overlay {K} {X} R o q (e ∷ es) m h = get_overlay R o q es (insert m e.0 e.1) h.1 ∙ ap (or_else (find R q es)) (get-insert o m e.0 e.1 q) ∙ at (eq_by_cmp R q e.0) refl
  where
    at : (b : Bool) → eq_by_cmp R q e.0 ≡ b → or_else (find R q es) (cond b (Some e.1) (get m q)) ≡ or_else (cond b (Some e.1) (find R q es)) (get m q)
    at true t = ap (λ z. or_else z (Some e.1)) (none_below R o e.0 q es t h.0)
    at false t = refl

-- entries in the order of their keys, put into the empty map, make the map of those entries
pub overlay_all : {K X : Type 0} (R : K → K → Ordering) (o : IsTotalOrder R) (x : CmpEqualImpliesEq R) (es : List (K × X)) → IsStrictlySortedBy R (keys_of es) → overlay es empty ≡ from_entries {R = R} es
overlay_all {K} {X} R o x es h = same_map o x _ _ (λ q. get_overlay R o q es empty h ∙ ap (or_else (find R q es)) (get-empty R q) ∙ alone (find R q es) ∙ sym (get-from_entries o es q))
  where
    alone : (r : Option X) → or_else r None ≡ r
    alone None = refl
    alone (Some a) = refl

put_first : {K X : Type 0} (R : K → K → Ordering) (k : K) (v : X) (es : List (K × X)) → AllByRecursion (λ y. R k y ≡ Less) (keys_of es) → put R k v es ≡ (k, v) ∷ es
put_first R k v [] h = refl
put_first R k v (e ∷ es) h = ap (λ r. by_order r ((k, v) ∷ e ∷ es) ((e.0, v) ∷ es) (e ∷ put R k v es)) h.0

none : {A : Type 0} (es : List A) → length es ≡ 0 → es ≡ []
none [] h = refl
none (e ∷ es) h = absurd (omega arith)

-- a finite map of entries in the order of their keys has those entries
pub entries_of : {K X : Type 0} (R : K → K → Ordering) (o : IsTotalOrder R) (es : List (K × X)) → IsStrictlySortedBy R (keys_of es) → entries (from_entries {R = R} es) ≡ es
unfolding IsStrictlySortedBy
entries_of {K} {X} R o [] h = none (entries (empty {X = X} {R = R})) (sym (len-entries (empty {X = X} {R = R})) ∙ len-empty R X)
entries_of R o (e ∷ es) h = entries-insert o (from_entries es) e.0 e.1 ∙ ap (put R e.0 e.1) (entries_of R o es h.1) ∙ put_first R e.0 e.1 es h.0

pub len_of : {K X : Type 0} (R : K → K → Ordering) (o : IsTotalOrder R) (es : List (K × X)) → IsStrictlySortedBy R (keys_of es) → len (from_entries {R = R} es) ≡ length es
len_of R o es h = len-entries (from_entries es) ∙ ap length (entries_of R o es h)

-- names in their order by place are so by directory and bytes
all_named : (k : Place) (es : List (Place × Entry)) → AllByRecursion (λ y. place_order k y ≡ Less) (keys_of es) → AllByRecursion (λ y. name_cmp (k.dir, k.name.items) y ≡ Less) (keys_of (map named es))
all_named k [] h = tt
all_named k (e ∷ es) h = (h.0, all_named k es h.1)

pub sorted_named : (es : List (Place × Entry)) → IsStrictlySortedBy place_order (keys_of es) → IsStrictlySortedBy name_cmp (keys_of (map named es))
unfolding IsStrictlySortedBy
sorted_named [] h = tt
sorted_named (e ∷ es) h = (all_named e.0 es h.0, sorted_named es h.1)
