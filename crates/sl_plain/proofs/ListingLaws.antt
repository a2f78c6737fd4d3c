-- Lines of listings, one after another.
use Rattle.std.proofs.Common.{◌≡◌, ◌≤◌, ℕ, suc, ◌+◌, ◌-◌, List, [], ◌∷◌, Bool, true, false, cond, take, length, Ok, refl, sym, ap, ◌∙◌, arith}
use Rattle.std.specs.Prelude.{nat_lt, ◌==◌, ◌&&◌, not, filter, map}
use Rattle.std.specs.List.{insert}
use Rattle.std.specs.Ordering.{nat_cmp, ordering_then, is_le}
use Rattle.std.specs.Cmp.{nat_cmp_is}
use Rattle.std.specs.Cmp.Lexicographic.{slice_cmp}
use Rattle.std.specs.declared.cmp.Ordering.TheVariants.{Equal, Greater}
use Rattle.std.specs.declared.ops.Bound.TheVariants.{Included, Excluded, Unbounded}
use Rattle.std.specs.BTreeMap.Range.{range_contains}
use Rattle.sl_model.specs.declared.node.Listed.{Listed}
use Rattle.sl_model.specs.declared.node.Entry.{Entry}
use Rattle.sl_model.specs.Volume.{placed, listed, listing_with}
use Rattle.sl_types.specs.declared.kind.Status.TheVariants.{TooSmall}
use Rattle.sl_model.specs.declared.node.Node.{Node}
use Rattle.sl_model.specs.Plan.{and_then}
use Rattle.sl_model.specs.Looking.{fitting, line_size, is_too_small, same_length}
use Rattle.sl_plain.specs.Steps.{refused}
use Rattle.sl_plain.specs.declared.names.Place.{Place}
use Rattle.sl_plain.specs.Maps.{named, place_order}
use Rattle.sl_plain.specs.Found.{place_in, fit_count, fitted}

one_more : (b : Bool) (n k : ℕ) → n ≤ k → cond b (suc n) 0 ≤ suc k
one_more true n k h = omega arith
one_more false n k h = omega arith

pub place_within : (cookie : ℕ) (ys : List Listed) → place_in cookie ys ≤ length ys
place_within cookie [] = omega arith
place_within cookie (y ∷ ys) = one_more (nat_lt y.cookie cookie) (place_in cookie ys) (length ys) (place_within cookie ys)

-- a line is placed by counting those before it
insert_step : (x y : Listed) (ys : List Listed) (b : Bool) → insert ys (place_in x.cookie ys) x ≡ placed x ys → insert (y ∷ ys) (cond b (suc (place_in x.cookie ys)) 0) x ≡ cond b (y ∷ placed x ys) (x ∷ y ∷ ys)
insert_step x y ys true h = ap (λ z. y ∷ z) h
insert_step x y ys false h = refl

pub insert_placed : (x : Listed) (ys : List Listed) → insert ys (place_in x.cookie ys) x ≡ placed x ys
insert_placed x [] = refl
insert_placed x (y ∷ ys) = insert_step x y ys (nat_lt y.cookie x.cookie) (insert_placed x ys)

one_less : (b : Bool) (n k : ℕ) → n ≤ k → cond b 0 (suc n) ≤ suc k
one_less true n k h = omega arith
one_less false n k h = omega arith

pub fit_within : (fixed room : ℕ) (xs : List Listed) → fit_count fixed room xs ≤ length xs
fit_within fixed room [] = omega arith
fit_within fixed room (x ∷ xs) = one_less (nat_lt room (line_size fixed x)) _ (length xs) (fit_within fixed (room - line_size fixed x) xs)

-- as many as fit are those that fit
take_step : (x : Listed) (xs ys : List Listed) (n : ℕ) (b : Bool) → take n xs ≡ ys → take (cond b 0 (suc n)) (x ∷ xs) ≡ cond b [] (x ∷ ys)
take_step x xs ys n true h = refl
take_step x xs ys n false h = ap (λ z. x ∷ z) h

pub take_fitting : (fixed room : ℕ) (xs : List Listed) → take (fit_count fixed room xs) xs ≡ fitting fixed room xs
take_fitting fixed room [] = refl
take_fitting fixed room (x ∷ xs) = take_step x xs _ _ (nat_lt room (line_size fixed x)) (take_fitting fixed (room - line_size fixed x) xs)

-- a listing by the lines that fit
pub fitted_is : (d : Node) (fixed limit : ℕ) (all few : List Listed) → few ≡ fitting fixed (limit - 20) all → fitted d fixed limit all ≡
    and_then (refused (is_too_small limit few all) TooSmall) (λ u. Ok (record { directory = d; lines = few; eof = same_length few all }))
unfolding fitted
fitted_is d fixed limit all few h = ap (λ (xs : List Listed). and_then (refused (is_too_small limit xs all) TooSmall) (λ u. Ok (record { directory = d; lines = xs; eof = same_length xs all }))) (sym h)

-- ---- names of other directories change no listing

skipped : (d cookie : ℕ) (e : Place × Entry) (xs : List Listed) → (e.0.dir == d) ≡ false → listing_with d cookie (named e) xs ≡ xs
skipped d cookie e xs h = ap (λ b. cond (b && nat_lt cookie e.1.cookie) (placed (record { name = e.0.name.items; fileid = e.1.fileid; kind = e.1.kind; cookie = e.1.cookie }) xs) xs) h

listed_step : (d cookie : ℕ) (p : Place × Entry → Bool) (xs : List Listed) (e : Place × Entry) (es : List (Place × Entry)) (b : Bool) → ((ys : List Listed) → listed d cookie ys (map named (filter p es)) ≡ listed d cookie ys (map named es))
    → (b ≡ false → (e.0.dir == d) ≡ false) → listed d cookie xs (map named (cond b (e ∷ filter p es) (filter p es))) ≡ listed d cookie (listing_with d cookie (named e) xs) (map named es)
listed_step d cookie p xs e es true ih other = ih (listing_with d cookie (named e) xs)
listed_step d cookie p xs e es false ih other = ih xs ∙ ap (λ ys. listed d cookie ys (map named es)) (sym (skipped d cookie e xs (other refl)))

pub listed_where : (d cookie : ℕ) (p : Place × Entry → Bool) → ((e : Place × Entry) → p e ≡ false → (e.0.dir == d) ≡ false) → (xs : List Listed) (es : List (Place × Entry))
    → listed d cookie xs (map named (filter p es)) ≡ listed d cookie xs (map named es)
listed_where d cookie p other xs [] = refl
listed_where d cookie p other xs (e ∷ es) = listed_step d cookie p xs e es (p e) (λ ys. listed_where d cookie p other ys es) (other e)

-- ---- the names of one directory stand between its first place and that of the next

at_first : (d e : ℕ) (ns ms : List ℕ) → ns ≡ [] → e ≡ d → is_le (ordering_then (nat_cmp d e) (slice_cmp nat_cmp ns ms)) ≡ true
at_first d e ns ms h g = ap (λ r. is_le (ordering_then r (slice_cmp nat_cmp ns ms))) (sym (nat_cmp_is d e Equal (sym g))) ∙ ap (λ n. is_le (slice_cmp nat_cmp n ms)) h ∙ low ms
  where
    low : (ms : List ℕ) → is_le (slice_cmp nat_cmp [] ms) ≡ true
    low [] = refl
    low (m ∷ ms) = refl

before_next : (d f e : ℕ) (ns ms : List ℕ) → f ≡ d + 1 → e ≡ d → is_le (ordering_then (nat_cmp f e) (slice_cmp nat_cmp ns ms)) ≡ false
before_next d f e ns ms h g = ap (λ r. is_le (ordering_then r (slice_cmp nat_cmp ns ms))) (sym (nat_cmp_is f e Greater (omega arith)))

pub inside : (first next q : Place) (d : ℕ) → first.dir ≡ d → first.name.items ≡ [] → next.dir ≡ d + 1 → range_contains place_order (Included first) (Excluded next) q ≡ false → (q.dir == d) ≡ false
inside first next q d h none g out = at (q.dir == d) refl
  where
    contains : q.dir ≡ d → range_contains place_order (Included first) (Excluded next) q ≡ true
    contains e = ap (λ b. b && not (is_le (place_order next q))) (at_first first.dir q.dir first.name.items q.name.items none (e ∙ sym h)) ∙ ap not (before_next d next.dir q.dir next.name.items q.name.items g e)

    at : (b : Bool) → (q.dir == d) ≡ b → b ≡ false
    at true e = sym (contains (grind (arith, e))) ∙ out
    at false e = refl

pub inside_last : (first q : Place) (d : ℕ) → first.dir ≡ d → first.name.items ≡ [] → range_contains place_order (Included first) Unbounded q ≡ false → (q.dir == d) ≡ false
inside_last first q d h none out = at (q.dir == d) refl
  where
    contains : q.dir ≡ d → range_contains place_order (Included first) Unbounded q ≡ true
    contains e = ap (λ b. b && true) (at_first first.dir q.dir first.name.items q.name.items none (e ∙ sym h))

    at : (b : Bool) → (q.dir == d) ≡ b → b ≡ false
    at true e = sym (contains (grind (arith, e))) ∙ out
    at false e = refl
