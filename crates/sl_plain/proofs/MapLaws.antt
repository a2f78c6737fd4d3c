-- A tree map's entries, and the finite map that they make.
use Rattle.std.proofs.Common.{◌≡◌, List, [], ◌∷◌, Option, Some, None, Bool, true, false, cond, refl, sym, ap, ◌∙◌}
use Rattle.std.specs.Prelude.{filter, map}
use Rattle.std.specs.Map.{lookup, remove_entry}
use Rattle.std.specs.BTreeMap.{is_at, insert_entry}
use Rattle.std.specs.declared.cmp.Ordering.{Ordering}
use Rattle.std.specs.declared.cmp.Ordering.TheVariants.{Less, Equal, Greater}
use Rattle.std.specs.Cmp.{IsTotalOrder}
use Rattle.std.specs.Cmp.Lexicographic.{slice_cmp}
use Rattle.std.specs.Ordering.{nat_cmp, eq_by_cmp, is_eq, match_ordering}
use Rattle.std.proofs.lemmas.Cmp.{eq_by_cmp_equiv, nat_cmp_total, nat_list_cmp_total, then_total, on_total}
use Rattle.std.proofs.lemmas.Map.Lookups.{CmpEqualImpliesEq, exact_pairs, exact_unsigned, exact_bytes}
use Rattle.std.specs.FinMap.{get, insert, remove, from_entries, get-from_entries, get-insert, get-remove, get-retain_keys, retain_keys, same_map}
use Rattle.std.specs.FinMap.Entries.{find, put, find-put, by_order}
use Rattle.sl_model.specs.Volume.{name_cmp, place_cmp}
use Rattle.sl_model.specs.declared.node.Entry.{Entry}
use Rattle.sl_plain.specs.declared.names.Place.{Place}
use Rattle.sl_plain.specs.Maps.{named, place_order}

find_at : {K X : Type 0} (R : K → K → Ordering) (q : K) (es : List (K × X)) → find R q es ≡ lookup (is_at (R q)) es
find_at R q [] = refl
find_at R q (e ∷ es) = ap (cond (is_at (R q) e.0) (Some e.1)) (find_at R q es)

-- what the map has at a key
pub get_at : {K X : Type 0} (R : K → K → Ordering) (o : IsTotalOrder R) (es : List (K × X)) (q : K) → get (from_entries {R = R} es) q ≡ lookup (is_at (R q)) es
get_at R o es q = get-from_entries o es q ∙ find_at R q es

put_is : {K X : Type 0} (R : K → K → Ordering) (es : List (K × X)) (k : K) (v : X) → insert_entry R es k v ≡ put R k v es
put_is R [] k v = refl
put_is R (e ∷ es) k v =
    elim (R k e.0) as (λ r. match_ordering r ((k, v) ∷ e ∷ es) ((e.0, v) ∷ es) (e ∷ insert_entry R es k v) ≡ by_order r ((k, v) ∷ e ∷ es) ((e.0, v) ∷ es) (e ∷ put R k v es)) [
      | Less ↦ refl
      | Equal ↦ refl
      | Greater ↦ ap (λ z. e ∷ z) (put_is R es k v)
    ]

-- an entry that is put makes the map with that key
pub given : {K X : Type 0} (R : K → K → Ordering) (o : IsTotalOrder R) (x : CmpEqualImpliesEq R) (es : List (K × X)) (k : K) (v : X) → from_entries {R = R} (insert_entry R es k v) ≡ insert (from_entries es) k v
given R o x es k v = same_map o x _ _ (λ q.
    get-from_entries o (insert_entry R es k v) q ∙ ap (find R q) (put_is R es k v) ∙ find-put R o q k v es
    ∙ sym (get-insert o (from_entries es) k v q ∙ ap (cond (eq_by_cmp R q k) (Some v)) (get-from_entries o es q)))

-- where no key like k is left, the look-up at another key is as it was
others_stay : {K X : Type 0} (R : K → K → Ordering) (o : IsTotalOrder R) (k q : K) (es : List (K × X)) → eq_by_cmp R q k ≡ false → lookup (is_at (R q)) (remove_entry (is_at (R k)) es) ≡ lookup (is_at (R q)) es
others_stay R o k q [] h = refl
others_stay R o k q (e ∷ es) h =
    elim (is_at (R k) e.0) as (λ b. is_at (R k) e.0 ≡ b → lookup (is_at (R q)) (cond b es (e ∷ remove_entry (is_at (R k)) es)) ≡ lookup (is_at (R q)) (e ∷ es)) [
      | true ↦ λ t. sym (ap (λ b. cond b (Some e.1) (lookup (is_at (R q)) es)) (apart t))
      | false ↦ λ t. ap (cond (is_at (R q) e.0) (Some e.1)) (others_stay R o k q es h)
    ] refl
  where
    apart : eq_by_cmp R k e.0 ≡ true → eq_by_cmp R q e.0 ≡ false
    apart t = (eq_by_cmp_equiv o).symm q e.0 ∙ sym ((eq_by_cmp_equiv o).congr k e.0 q t) ∙ (eq_by_cmp_equiv o).symm k q ∙ h

-- an entry that is taken, and whose key then leads to nothing, makes the map without that key
pub taken : {K X : Type 0} (R : K → K → Ordering) (o : IsTotalOrder R) (x : CmpEqualImpliesEq R) (es : List (K × X)) (k : K) → lookup (is_at (R k)) (remove_entry (is_at (R k)) es) ≡ None → from_entries {R = R} (remove_entry (is_at (R k)) es) ≡ remove (from_entries es) k
taken {K = K} {X = X} R o x es k none = same_map o x _ _ (λ q.
    get_at R o (remove_entry (is_at (R k)) es) q ∙ at q ∙ sym (get-remove o (from_entries es) k q ∙ ap (cond (eq_by_cmp R q k) None) (get_at R o es q)))
  where
    same : (q : K) → eq_by_cmp R q k ≡ true → lookup (is_at (R q)) (remove_entry (is_at (R k)) es) ≡ None
    same q t = ap (λ z. lookup (is_at (R z)) (remove_entry (is_at (R k)) es)) (x q k (is_equal (R q k) t)) ∙ none
      where
        is_equal : (r : Ordering) → is_eq r ≡ true → r ≡ Equal
        is_equal Equal t = refl
        is_equal Less t = cc
        is_equal Greater t = cc

    at : (q : K) → lookup (is_at (R q)) (remove_entry (is_at (R k)) es) ≡ cond (eq_by_cmp R q k) None (lookup (is_at (R q)) es)
    at q =
        elim (eq_by_cmp R q k) as (λ b. eq_by_cmp R q k ≡ b → lookup (is_at (R q)) (remove_entry (is_at (R k)) es) ≡ cond b None (lookup (is_at (R q)) es)) [
          | true ↦ λ t. same q t
          | false ↦ λ t. others_stay R o k q es t
        ] refl

-- the orders of names and of places of bytes
pub names_total : IsTotalOrder name_cmp
names_total = then_total (on_total (λ k. k.0) nat_cmp_total) (on_total (λ k. k.1) nat_list_cmp_total)

pub exact_names : CmpEqualImpliesEq name_cmp
exact_names = exact_pairs nat_cmp (slice_cmp nat_cmp) exact_unsigned exact_bytes

pub places_total : IsTotalOrder place_cmp
places_total = then_total (on_total (λ k. k.0) nat_cmp_total) (on_total (λ k. k.1) nat_cmp_total)

pub exact_places : CmpEqualImpliesEq place_cmp
exact_places = exact_pairs nat_cmp nat_cmp exact_unsigned exact_unsigned

-- ---- names by their directories and bytes

pub lookup_named : (k : Place) (es : List (Place × Entry)) → lookup (is_at (place_order k)) es ≡ lookup (is_at (name_cmp (k.dir, k.name.items))) (map named es)
lookup_named k [] = refl
lookup_named k (e ∷ es) = ap (cond (is_at (place_order k) e.0) (Some e.1)) (lookup_named k es)

pub insert_named : (es : List (Place × Entry)) (k : Place) (v : Entry) → map named (insert_entry place_order es k v) ≡ insert_entry name_cmp (map named es) (k.dir, k.name.items) v
insert_named [] k v = refl
insert_named (e ∷ es) k v =
    elim (place_order k e.0) as (λ r. map named (match_ordering r ((k, v) ∷ e ∷ es) ((e.0, v) ∷ es) (e ∷ insert_entry place_order es k v))
    ≡ match_ordering r (((k.dir, k.name.items), v) ∷ named e ∷ map named es) (((e.0.dir, e.0.name.items), v) ∷ map named es) (named e ∷ insert_entry name_cmp (map named es) (k.dir, k.name.items) v)) [
      | Less ↦ refl
      | Equal ↦ refl
      | Greater ↦ ap (λ z. named e ∷ z) (insert_named es k v)
    ]

pub remove_named : (k : Place) (es : List (Place × Entry)) → map named (remove_entry (is_at (place_order k)) es) ≡ remove_entry (is_at (name_cmp (k.dir, k.name.items))) (map named es)
remove_named k [] = refl
remove_named k (e ∷ es) =
    elim (is_at (place_order k) e.0) as (λ b. map named (cond b es (e ∷ remove_entry (is_at (place_order k)) es)) ≡ cond b (map named es) (named e ∷ remove_entry (is_at (name_cmp (k.dir, k.name.items))) (map named es))) [
      | true ↦ refl
      | false ↦ ap (λ z. named e ∷ z) (remove_named k es)
    ]

-- ---- entries that are kept

lookup_filtered : {K X : Type 0} (R : K → K → Ordering) (x : CmpEqualImpliesEq R) (p : K → Bool) (q : K) (es : List (K × X)) → lookup (is_at (R q)) (filter (λ (e : K × X). p e.0) es) ≡ cond (p q) (lookup (is_at (R q)) es) None
lookup_filtered R x p q [] = nothing (p q)
  where
    nothing : {X : Type 0} (b : Bool) → ◌≡◌ {A = Option X} None (cond b None None)
    nothing true = refl
    nothing false = refl
lookup_filtered {K} {X} R x p q (e ∷ es) = at (lookup_filtered R x p q es) (p e.0) (is_at (R q) e.0) refl refl
  where
    rest : Option X
    rest = lookup (is_at (R q)) es

    is_equal : (r : Ordering) → is_eq r ≡ true → r ≡ Equal
    is_equal Equal t = refl
    is_equal Less t = cc
    is_equal Greater t = cc

    at : lookup (is_at (R q)) (filter (λ (e : K × X). p e.0) es) ≡ cond (p q) rest None → (b d : Bool) → p e.0 ≡ b → is_at (R q) e.0 ≡ d
        → lookup (is_at (R q)) (cond b (e ∷ filter (λ (e : K × X). p e.0) es) (filter (λ (e : K × X). p e.0) es)) ≡ cond (p q) (cond d (Some e.1) rest) None
    at ih true true h t = ap (λ z. cond z (Some e.1) (lookup (is_at (R q)) (filter (λ (e : K × X). p e.0) es))) t ∙ sym (ap (λ z. cond z (Some e.1) None) (ap p (x q e.0 (is_equal (R q e.0) t)) ∙ h))
    at ih true false h t = ap (λ z. cond z (Some e.1) (lookup (is_at (R q)) (filter (λ (e : K × X). p e.0) es))) t ∙ ih
    at ih false true h t = ih ∙ ap (λ z. cond z rest None) (ap p (x q e.0 (is_equal (R q e.0) t)) ∙ h) ∙ sym (ap (λ z. cond z (Some e.1) None) (ap p (x q e.0 (is_equal (R q e.0) t)) ∙ h))
    at ih false false h t = ih

-- entries whose keys pass a test make the map with those keys
pub kept : {K X : Type 0} (R : K → K → Ordering) (o : IsTotalOrder R) (x : CmpEqualImpliesEq R) (p : K → Bool) (es : List (K × X)) → from_entries {R = R} (filter (λ (e : K × X). p e.0) es) ≡ retain_keys (from_entries es) p
kept {K} {X} R o x p es = same_map o x _ _ (λ q.
    get_at R o (filter (λ (e : K × X). p e.0) es) q ∙ lookup_filtered R x p q es
    ∙ sym (get-retain_keys (from_entries es) p q (λ z e. ap p (sym (x q z e))) ∙ ap (λ r. cond (p q) r None) (get_at R o es q)))
