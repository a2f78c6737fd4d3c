-- A tree map's entries by numbers, and the finite map that they make.
use Rattle.std.proofs.Common.{◌≡◌, ℕ, ◌==◌, ◌&&◌, List, [], ◌∷◌, Option, Some, None, Bool, true, false, cond, is_some, ◌≤◌, ◌<◌, true≢false, refl, sym, ap, ◌∙◌, arith}
use Rattle.std.specs.Prelude.{min, length}
use Rattle.std.specs.List.{AllByRecursion}
use Rattle.std.specs.List.Sorted.{IsStrictlySortedBy}
use Rattle.std.specs.Map.{keys_of, lookup, remove_entry}
use Rattle.std.specs.BTreeMap.{is_at, insert_entry}
use Rattle.std.specs.declared.cmp.Ordering.TheVariants.{Less, Equal, Greater}
use Rattle.std.specs.Ordering.{nat_cmp, eq_by_cmp, is_gt, match_ordering}
use Rattle.std.proofs.lemmas.Map.Lookups.{exact_unsigned}
use Rattle.std.specs.Cmp.{nat_cmp_total}
use Rattle.std.specs.FinMap.{FinMap, get, insert, remove, empty, entries, from_entries, len, get-from_entries, get-insert, get-remove, entries-insert, len-entries, len-empty, same_map}
use Rattle.std.specs.FinMap.Entries.{find, put, find-put, by_order}
use Rattle.sl_world.specs.declared.flight.Flying.{Flying}
use Rattle.sl_world.specs.declared.look.Look.{Look}
use Rattle.sl_world.specs.Flights.{IsOldest}
use Rattle.sl_world.specs.Proxying.{IsOut, low_in}

-- the entries as a map
abbrev pub map_of : {X : Type 0} → List (ℕ × X) → FinMap nat_cmp X
map_of es = from_entries es

find_at : {X : Type 0} (q : ℕ) (es : List (ℕ × X)) → find nat_cmp q es ≡ lookup (is_at (nat_cmp q)) es
find_at q [] = refl
find_at q (e ∷ es) = ap (cond (is_at (nat_cmp q) e.0) (Some e.1)) (find_at q es)

-- what the map has at a key
pub get_at : {X : Type 0} (es : List (ℕ × X)) (q : ℕ) → get (map_of es) q ≡ lookup (is_at (nat_cmp q)) es
get_at es q = get-from_entries nat_cmp_total es q ∙ find_at q es

put_is : {X : Type 0} (es : List (ℕ × X)) (k : ℕ) (v : X) → insert_entry nat_cmp es k v ≡ put nat_cmp k v es
put_is [] k v = refl
put_is (e ∷ es) k v =
    elim (nat_cmp k e.0) as (λ r. match_ordering r ((k, v) ∷ e ∷ es) ((e.0, v) ∷ es) (e ∷ insert_entry nat_cmp es k v) ≡ by_order r ((k, v) ∷ e ∷ es) ((e.0, v) ∷ es) (e ∷ put nat_cmp k v es)) [
      | Less ↦ refl
      | Equal ↦ refl
      | Greater ↦ ap (λ z. e ∷ z) (put_is es k v)
    ]

put_first : {X : Type 0} (k : ℕ) (v : X) (es : List (ℕ × X)) → AllByRecursion (λ y. nat_cmp k y ≡ Less) (keys_of es) → put nat_cmp k v es ≡ (k, v) ∷ es
put_first k v [] h = refl
put_first k v (e ∷ es) h = ap (λ r. by_order r ((k, v) ∷ e ∷ es) ((e.0, v) ∷ es) (e ∷ put nat_cmp k v es)) h.0

none : {A : Type 0} (es : List A) → length es ≡ 0 → es ≡ []
none [] h = refl
none (e ∷ es) h = absurd (omega arith)

-- the map of entries in the order of their keys has those entries
pub entries_of : {X : Type 0} (es : List (ℕ × X)) → IsStrictlySortedBy nat_cmp (keys_of es) → entries (map_of es) ≡ es
unfolding IsStrictlySortedBy
entries_of {X} [] h = none (entries (empty {X = X} {R = nat_cmp})) (sym (len-entries (empty {X = X} {R = nat_cmp})) ∙ len-empty nat_cmp X)
entries_of (e ∷ es) h = entries-insert nat_cmp_total (map_of es) e.0 e.1 ∙ ap (put nat_cmp e.0 e.1) (entries_of es h.1) ∙ put_first e.0 e.1 es h.0

pub len_of : {X : Type 0} (es : List (ℕ × X)) → IsStrictlySortedBy nat_cmp (keys_of es) → len (map_of es) ≡ length es
len_of es h = len-entries (map_of es) ∙ ap length (entries_of es h)

-- an entry that is put makes the map with that key
pub given : {X : Type 0} (es : List (ℕ × X)) (k : ℕ) (v : X) → map_of (insert_entry nat_cmp es k v) ≡ insert (map_of es) k v
given es k v = same_map nat_cmp_total exact_unsigned _ _ (λ q.
    get-from_entries nat_cmp_total (insert_entry nat_cmp es k v) q ∙ ap (find nat_cmp q) (put_is es k v) ∙ find-put nat_cmp nat_cmp_total q k v es
    ∙ sym (get-insert nat_cmp_total (map_of es) k v q ∙ ap (cond (eq_by_cmp nat_cmp q k) (Some v)) (get-from_entries nat_cmp_total es q)))

same_key : (q k : ℕ) → eq_by_cmp nat_cmp q k ≡ true → q ≡ k
same_key q k e = grind arith

apart : (q k x : ℕ) → eq_by_cmp nat_cmp q k ≡ false → eq_by_cmp nat_cmp k x ≡ true → eq_by_cmp nat_cmp q x ≡ false
apart q k x h t = sym (ap (eq_by_cmp nat_cmp q) (same_key k x t)) ∙ h

-- where an entry is taken, the look-up at another key is as it was
others_stay : {X : Type 0} (k q : ℕ) (es : List (ℕ × X)) → eq_by_cmp nat_cmp q k ≡ false → lookup (is_at (nat_cmp q)) (remove_entry (is_at (nat_cmp k)) es) ≡ lookup (is_at (nat_cmp q)) es
others_stay k q [] h = refl
others_stay k q (e ∷ es) h =
    elim (is_at (nat_cmp k) e.0) as (λ b. is_at (nat_cmp k) e.0 ≡ b → lookup (is_at (nat_cmp q)) (cond b es (e ∷ remove_entry (is_at (nat_cmp k)) es)) ≡ lookup (is_at (nat_cmp q)) (e ∷ es)) [
      | true ↦ λ t. sym (ap (λ b. cond b (Some e.1) (lookup (is_at (nat_cmp q)) es)) (apart q k e.0 h t))
      | false ↦ λ t. ap (cond (is_at (nat_cmp q) e.0) (Some e.1)) (others_stay k q es h)
    ] refl

-- an entry that is taken, and whose key then leads to nothing, makes the map without that key
pub taken : {X : Type 0} (es : List (ℕ × X)) (k : ℕ) → lookup (is_at (nat_cmp k)) (remove_entry (is_at (nat_cmp k)) es) ≡ None → map_of (remove_entry (is_at (nat_cmp k)) es) ≡ remove (map_of es) k
taken {X = X} es k gone = same_map nat_cmp_total exact_unsigned _ _ (λ q.
    get_at (remove_entry (is_at (nat_cmp k)) es) q ∙ at q ∙ sym (get-remove nat_cmp_total (map_of es) k q ∙ ap (cond (eq_by_cmp nat_cmp q k) None) (get_at es q)))
  where
    at : (q : ℕ) → lookup (is_at (nat_cmp q)) (remove_entry (is_at (nat_cmp k)) es) ≡ cond (eq_by_cmp nat_cmp q k) None (lookup (is_at (nat_cmp q)) es)
    at q =
        elim (eq_by_cmp nat_cmp q k) as (λ b. eq_by_cmp nat_cmp q k ≡ b → lookup (is_at (nat_cmp q)) (remove_entry (is_at (nat_cmp k)) es) ≡ cond b None (lookup (is_at (nat_cmp q)) es)) [
          | true ↦ λ t. ap (λ z. lookup (is_at (nat_cmp z)) (remove_entry (is_at (nat_cmp k)) es)) (same_key q k t) ∙ gone
          | false ↦ λ t. others_stay k q es t
        ] refl

-- ---- the least tag

pub low_more : (es : List (ℕ × Look)) (low tag : ℕ) → low_in es (min low tag) ≡ min tag (low_in es low)
low_more [] low tag = omega arith
low_more (e ∷ es) low tag = omega (arith, low_more es low tag)

-- ---- a request that is out

abbrev pub is_out : ℕ → ℕ → Look → Bool
is_out server tag l = (l.to == server) && (l.tag == tag)

-- the first entry whose request is out to this server under this tag
abbrev pub first_out : ℕ → ℕ → List (ℕ × Look) → Option ℕ
first_out server tag [] = None
first_out server tag (e ∷ es) = cond (is_out server tag e.1) (Some e.0) (first_out server tag es)

-- it is what the entries have at its key
record Found (server tag k : ℕ) (es : List (ℕ × Look)) : Type 0 where
  look : Look
  at : find nat_cmp k es ≡ Some look
  is : is_out server tag look ≡ true
  above : (j : ℕ) → AllByRecursion (λ y. nat_cmp j y ≡ Less) (keys_of es) → eq_by_cmp nat_cmp k j ≡ false

abbrev IsFirst : ℕ → ℕ → List (ℕ × Look) → Option ℕ → Type 0
IsFirst server tag es None = (k : ℕ) (l : Look) → find nat_cmp k es ≡ Some l → is_out server tag l ≡ false
IsFirst server tag es (Some k) = Found server tag k es

less_apart : (j k : ℕ) → nat_cmp j k ≡ Less → eq_by_cmp nat_cmp k j ≡ false
less_apart j k h = grind arith

itself : (k : ℕ) → eq_by_cmp nat_cmp k k ≡ true
itself k = grind arith

first_is : (server tag : ℕ) (es : List (ℕ × Look)) → IsStrictlySortedBy nat_cmp (keys_of es) → IsFirst server tag es (first_out server tag es)
unfolding IsStrictlySortedBy
first_is server tag [] h = λ k l e. cc
first_is server tag (e ∷ es) h = by (is_out server tag e.1) (first_out server tag es) refl (first_is server tag es h.1)
  where
    by : (b : Bool) (r : Option ℕ) → is_out server tag e.1 ≡ b → IsFirst server tag es r → IsFirst server tag (e ∷ es) (cond b (Some e.0) r)
    by true r t before = record {
      look = e.1;
      at = ap (λ b. cond b (Some e.1) (find nat_cmp e.0 es)) (itself e.0);
      is = t;
      above = λ j all. less_apart j e.0 all.0;
    }
    by false None t before = λ k l here. elim (eq_by_cmp nat_cmp k e.0) as (λ b. cond b (Some e.1) (find nat_cmp k es) ≡ Some l → is_out server tag l ≡ false) [
      | true ↦ λ is. ap (λ (o : Option Look). elim o as (λ _. Bool) [ None ↦ false | Some x ↦ is_out server tag x ]) (sym is) ∙ t
      | false ↦ λ is. before k l is
    ] here
    by false (Some k) t before = record {
      look = before.look;
      at = ap (λ b. cond b (Some e.1) (find nat_cmp k es)) (before.above e.0 h.0) ∙ before.at;
      is = before.is;
      above = λ j all. before.above j all.1;
    }

-- among entries in the order of their keys, the first is one of the map
pub out_of : (server tag : ℕ) (es : List (ℕ × Look)) → IsStrictlySortedBy nat_cmp (keys_of es) → IsOut (map_of es) server tag (first_out server tag es)
out_of server tag es h = by (first_out server tag es) (first_is server tag es h)
  where
    both : (a b c d : ℕ) → (a == c) && (b == d) ≡ true → (a ≡ c) × (b ≡ d)
    both a b c d t = grind arith

    test : (a b c d : ℕ) → a ≡ c → b ≡ d → (a == c) && (b == d) ≡ false → ⊥
    test a b c d p q t = grind arith

    by : (r : Option ℕ) → IsFirst server tag es r → IsOut (map_of es) server tag r
    by None f = λ k out. test out.look.to out.look.tag server tag out.to out.is (f k out.look (sym (get-from_entries nat_cmp_total es k) ∙ out.waits))
    by (Some k) f = record {
      look = f.look;
      waits = get-from_entries nat_cmp_total es k ∙ f.at;
      to = (both f.look.to f.look.tag server tag f.is).0;
      is = (both f.look.to f.look.tag server tag f.is).1;
    }

-- ---- the first key

not_above : (k j : ℕ) → is_gt (nat_cmp k j) ≡ false → k ≤ j
not_above k j h = grind arith

pub first_key : (es : List (ℕ × Flying)) (k : ℕ) (f : Flying) → lookup (is_at (nat_cmp k)) es ≡ Some f
    → ((j : ℕ) → is_some (lookup (is_at (nat_cmp j)) es) ≡ true → is_gt (nat_cmp k j) ≡ false) → IsOldest (map_of es) (Some k)
first_key es k f at least = (
  ap is_some (get_at es k ∙ at),
  λ j has. not_above k j (least j (sym (ap is_some (get_at es j)) ∙ has)),
)

pub no_key : (es : List (ℕ × Flying)) → (0 < length es → false ≡ true) → IsOldest (map_of es) None
no_key [] h = λ j. ap is_some (get_at {X = Flying} [] j)
no_key (e ∷ es) h = absurd (true≢false (sym (h (omega arith))))
