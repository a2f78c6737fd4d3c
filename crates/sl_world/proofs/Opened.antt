-- The whole ensemble opens.
use Rattle.std.proofs.Common.{◌≡◌, ℕ, zero, suc, ◌+◌, ◌<◌, ◌≤◌, ◌&&◌, Bool, true, false, T, List, [], ◌∷◌, ◌++◌, length, Option, Some, refl, sym, ap, subst, ◌∙◌, cond, not, is_some, unwrap_or, arith}
use Rattle.std.proofs.lemmas.List.{append-nil}
use Rattle.std.specs.Prelude.{map as each}
use Rattle.std.specs.Ordering.{nat_cmp, eq_by_cmp, is_lt}
use Rattle.std.specs.FinMap.{empty, get, from_sorted, entries-from_sorted, get-from_sorted}
use Rattle.std.specs.FinMap.Entries.{find, is_sorted, below_all}
use Rattle.sl_defs.specs.declared.setup.Setup.{Setup}
use Rattle.sl_frames.specs.Actors.{is_data}
use Rattle.sl_machine.specs.Parts.{numbers}
use Rattle.sl_machine.specs.Memory.{Memory, Actor}
use Rattle.sl_machine.specs.Memory as memory
use Rattle.sl_machine.specs.World.{Told, nothing}
use Rattle.sl_machine.specs.World as machine
use Rattle.sl_machine.specs.Runs.{IsInitial, Starts, StartsEach, actors_of}
use Rattle.sl_getattr.specs.Built.{IsBlank}
use Rattle.sl_world.specs.Worlds.{IsPlayed, Any, IsSmall}
use Rattle.sl_world.proofs.Opening.{blank, opens, store_step, no_store}

-- ---- numbers of actors that rise

-- the lists of actors: each in one of two ranges
abbrev pub two : ℕ → ℕ → ℕ → ℕ → List ℕ
two first count second others = numbers first count ++ numbers second others

pub at : {X : Type 0} → X → ℕ → ℕ × X
at x i = (i, x)

less : (m n : ℕ) → m < n → is_lt (nat_cmp m n) ≡ true
less m n h = grind arith

below_numbers : {X : Type 0} (x : X) (n first count : ℕ) → n < first → below_all nat_cmp n (each (at x) (numbers first count)) ≡ true
unfolding at
below_numbers x n first zero h = refl
below_numbers x n first (suc count) h = ap (λ b. b && below_all nat_cmp n (each (at x) (numbers (first + 1) count))) (less n first h) ∙ below_numbers x n (first + 1) count (omega arith)

sorted_numbers : {X : Type 0} (x : X) (first count : ℕ) → is_sorted nat_cmp (each (at x) (numbers first count)) ≡ true
unfolding at
sorted_numbers x first zero = refl
sorted_numbers x first (suc count) =
    ap (λ b. b && is_sorted nat_cmp (each (at x) (numbers (first + 1) count))) (below_numbers x first (first + 1) count (omega arith)) ∙ sorted_numbers x (first + 1) count

below_two : {X : Type 0} (x : X) (n first count second others : ℕ) → n < first → n < second → below_all nat_cmp n (each (at x) (two first count second others)) ≡ true
unfolding at
below_two x n first zero second others h k = below_numbers x n second others k
below_two x n first (suc count) second others h k =
    ap (λ b. b && below_all nat_cmp n (each (at x) (two (first + 1) count second others))) (less n first h) ∙ below_two x n (first + 1) count second others (omega arith) k

sorted_two : {X : Type 0} (x : X) (first count second others : ℕ) → first + count ≤ second → is_sorted nat_cmp (each (at x) (two first count second others)) ≡ true
unfolding at
sorted_two x first zero second others h = sorted_numbers x second others
sorted_two x first (suc count) second others h =
    ap (λ b. b && is_sorted nat_cmp (each (at x) (two (first + 1) count second others))) (below_two x first (first + 1) count second others (omega arith) (omega arith))
    ∙ sorted_two x (first + 1) count second others (omega arith)

-- all actors of a volume with one directory server
abbrev pub actors : Setup → List ℕ
actors s = 0 ∷ 1 ∷ 16 ∷ two 32 s.small 48 s.nodes

sorted_actors : {X : Type 0} (x : X) (s : Setup) → IsSmall s → is_sorted nat_cmp (each (at x) (actors s)) ≡ true
unfolding at
sorted_actors x s small =
    let w : (n : ℕ) → n < 32 → below_all nat_cmp n (each (at x) (two 32 s.small 48 s.nodes)) ≡ true = λ n h. below_two x n 32 s.small 48 s.nodes h (omega arith) in
    rw (w 0 (omega arith), w 1 (omega arith), w 16 (omega arith)) (sorted_two x 32 s.small 48 s.nodes (fits small.small))
  where
    fits : {n : ℕ} → n ≤ 4 → 32 + n ≤ 48
    fits h = omega arith

-- ---- the data servers

abbrev pub AreOthers : ℕ → List ℕ → Type 0
AreOthers i [] = Unit {0}
AreOthers i (j ∷ js) = (eq_by_cmp nat_cmp j i ≡ false) × AreOthers i js

-- actors that are to be opened, each another than those behind it
abbrev pub AreDown : machine.World → List ℕ → Type 0
AreDown w [] = Unit {0}
AreDown w (i ∷ is) = (get w.actors i ≡ Some blank) × (is_data i ≡ true) × AreOthers i is × AreDown w is

-- What the opening of data servers leaves: all but they are as before.
pub record AreOpened (w : machine.World) (is : List ℕ) (n : Told) : Type 0 where
  pub world : machine.World
  pub starts : StartsEach is w n world n
  pub others : (j : ℕ) → is_data j ≡ false → get world.actors j ≡ get w.actors j
  pub flight : world.flight ≡ w.flight
  pub next_frame : world.next_frame ≡ w.next_frame
  pub setup : world.setup ≡ w.setup
  pub event : world.event ≡ w.event
  pub moment : world.moment ≡ w.moment

still_down : (w w' : machine.World) (i : ℕ) (after : Actor) (is : List ℕ) → IsPlayed w i after [] w' → AreOthers i is → AreDown w is → AreDown w' is
still_down w w' i after [] played others down = tt
still_down w w' i after (j ∷ js) played others down = (played.others j others.0 ∙ down.0, down.1, down.2, still_down w w' i after js played others.1 down.3)

same_key : (q k : ℕ) → eq_by_cmp nat_cmp q k ≡ true → q ≡ k
same_key q k e = grind arith

not_data : (j i : ℕ) → is_data j ≡ false → is_data i ≡ true → eq_by_cmp nat_cmp j i ≡ false
not_data j i outside inside = apart (eq_by_cmp nat_cmp j i) refl
  where
    apart : (b : Bool) → eq_by_cmp nat_cmp j i ≡ b → b ≡ false
    apart false e = refl
    apart true e = sym inside ∙ ap is_data (sym (same_key j i e)) ∙ outside

none_more : (n : Told) → record n { frames = n.frames ++ [] } ≡ n
none_more n = ap (λ fs. record { frames = fs; notes = n.notes }) (append-nil n.frames)

pub stores_open : (is : List ℕ) (w : machine.World) (n : Told) → AreDown w is → AreOpened w is n
stores_open [] w n down = record {
  world = w;
  starts = (refl, refl);
  others = λ j outside. refl;
  flight = refl;
  next_frame = refl;
  setup = refl;
  event = refl;
  moment = refl;
}
stores_open (i ∷ is) w n down =
    let one = opens w i n [] (memory.OfStore no_store) Any down.0 (store_step _ down.1) in
    let rest = stores_open is one.world n (still_down w one.world i one.after is one.played down.2 down.3) in
    record {
      world = rest.world;
      starts = (one.world, n, subst (λ m. Starts i w n one.world m) (none_more n) one.starts, rest.starts);
      others = λ j outside. rest.others j outside ∙ one.played.others j (not_data j i outside down.1);
      flight = rest.flight ∙ one.played.flight;
      next_frame = rest.next_frame ∙ one.played.next_frame ∙ none_added w.next_frame;
      setup = rest.setup ∙ one.played.setup;
      event = rest.event ∙ one.played.event;
      moment = rest.moment ∙ one.played.moment;
    }
  where
    none_added : (n : ℕ) → n + 0 ≡ n
    none_added n = omega arith

-- ---- before the opening

apart_below : (n m : ℕ) → n < m → eq_by_cmp nat_cmp m n ≡ false
apart_below n m h = grind arith

apart_above : (n m : ℕ) → n < m → eq_by_cmp nat_cmp n m ≡ false
apart_above n m h = grind arith

alike : (n : ℕ) → eq_by_cmp nat_cmp n n ≡ true
alike n = grind arith

first_of : {X : Type 0} (x : X) (q k : ℕ) (others : Option X) → q ≡ k → cond (eq_by_cmp nat_cmp q k) (Some x) others ≡ Some x
first_of x q k others same = ap (λ b. cond b (Some x) others) (ap (λ z. eq_by_cmp nat_cmp q z) (sym same) ∙ alike q)

above : (q s : ℕ) → s ≤ q → eq_by_cmp nat_cmp q s ≡ false → s + 1 ≤ q
above q s h e = grind arith

within : (q s n : ℕ) → q < s + suc n → q < s + 1 + n
within q s n k = omega arith

none_there : (q s : ℕ) → s ≤ q → q < s + 0 → ⊥
none_there q s h k = omega arith

-- it is the first, or behind it
here_or_behind : {X : Type 0} (x : X) (q first : ℕ) (others : Option X) (b : Bool) → eq_by_cmp nat_cmp q first ≡ b → (b ≡ false → others ≡ Some x)
    → cond (eq_by_cmp nat_cmp q first) (Some x) others ≡ Some x
here_or_behind x q first others true e behind = ap (λ b. cond b (Some x) others) e
here_or_behind x q first others false e behind = ap (λ b. cond b (Some x) others) e ∙ behind refl

pub found_right : {X : Type 0} (x : X) (q second others : ℕ) → second ≤ q → q < second + others → find nat_cmp q (each (at x) (numbers second others)) ≡ Some x
unfolding at
found_right x q second zero h k = absurd (none_there q second h k)
found_right x q second (suc others) h k = here_or_behind x q second (find nat_cmp q (each (at x) (numbers (second + 1) others))) (eq_by_cmp nat_cmp q second) refl
    (λ e. found_right x q (second + 1) others (above q second h e) (within q second others k))

pub found_left : {X : Type 0} (x : X) (q first count second others : ℕ) → first ≤ q → q < first + count → find nat_cmp q (each (at x) (two first count second others)) ≡ Some x
unfolding at
found_left x q first zero second others h k = absurd (none_there q first h k)
found_left x q first (suc count) second others h k = here_or_behind x q first (find nat_cmp q (each (at x) (two (first + 1) count second others))) (eq_by_cmp nat_cmp q first) refl
    (λ e. found_left x q (first + 1) count second others (above q first h e) (within q first count k))

pub found_behind : {X : Type 0} (x : X) (q first count second others : ℕ) → first + count ≤ q → find nat_cmp q (each (at x) (numbers second others)) ≡ Some x
    → find nat_cmp q (each (at x) (two first count second others)) ≡ Some x
unfolding at
found_behind x q first zero second others h found = found
found_behind x q first (suc count) second others h found =
    ap (λ b. cond b (Some x) (find nat_cmp q (each (at x) (two (first + 1) count second others)))) (apart_below first q (omega arith))
    ∙ found_behind x q (first + 1) count second others (omega arith) found

-- the three actors in front
pub found_actor : {X : Type 0} (x : X) (s : Setup) (q : ℕ) → 16 < q → find nat_cmp q (each (at x) (two 32 s.small 48 s.nodes)) ≡ Some x → find nat_cmp q (each (at x) (actors s)) ≡ Some x
unfolding at
found_actor x s q h found =
    let past : (k : ℕ) → k < q → (others : Option _) → cond (eq_by_cmp nat_cmp q k) (Some x) others ≡ others = λ k l others. ap (λ b. cond b (Some x) others) (apart_below k q l) in
    past 0 (omega arith) _ ∙ past 1 (omega arith) _ ∙ past 16 h _ ∙ found

-- ---- the first world

abbrev pub first_world : Setup → machine.World
first_world s = record {
  setup = s;
  actors = from_sorted (each (at blank) (actors s));
  flight = empty;
  next_frame = 1;
  event = 0;
  moment = record { sec = 0; nsec = 0 };
  done_in = empty;
  noted = from_sorted (each (at 0) (actors s));
}

sorted_so : {X : Type 0} (x : X) (s : Setup) → IsSmall s → T (is_sorted nat_cmp (each (at x) (actors s)))
sorted_so x s small = subst T (sym (sorted_actors x s small)) tt

pub has : (s : Setup) → IsSmall s → (i : ℕ) → find nat_cmp i (each (at blank) (actors s)) ≡ Some blank → get (first_world s).actors i ≡ Some blank
has s small i is = get-from_sorted nat_cmp (each (at blank) (actors s)) i (sorted_so blank s small) ∙ is

by_first : {X : Type 0} (x y : X) (q : ℕ) (is : List ℕ) (b : Bool) → (find nat_cmp q (each (at x) is) ≡ Some y → y ≡ x) → cond b (Some x) (find nat_cmp q (each (at x) is)) ≡ Some y → y ≡ x
by_first x y q is true behind found = sym (ap (λ o. unwrap_or o x) found)
by_first x y q is false behind found = behind found

by_both : {X Y : Type 0} (x : X) (y z : Y) (q : ℕ) (is : List ℕ) (b : Bool) → (find nat_cmp q (each (at y) is) ≡ Some z → find nat_cmp q (each (at x) is) ≡ Some x)
    → cond b (Some y) (find nat_cmp q (each (at y) is)) ≡ Some z → cond b (Some x) (find nat_cmp q (each (at x) is)) ≡ Some x
by_both x y z q is true behind found = refl
by_both x y z q is false behind found = behind found

-- every entry of a list of one value has it
one_value : {X : Type 0} (x y : X) (q : ℕ) (is : List ℕ) → find nat_cmp q (each (at x) is) ≡ Some y → y ≡ x
unfolding at
one_value x y q [] found = absurd (subst (λ o. T (not (is_some o))) found tt)
one_value x y q (i ∷ is) found = by_first x y q is (eq_by_cmp nat_cmp q i) (one_value x y q is) found

-- where one list of values has a key, the other has it
same_keys : {X Y : Type 0} (x : X) (y z : Y) (q : ℕ) (is : List ℕ) → find nat_cmp q (each (at y) is) ≡ Some z → find nat_cmp q (each (at x) is) ≡ Some x
unfolding at
same_keys x y z q [] found = absurd (subst (λ o. T (not (is_some o))) found tt)
same_keys x y z q (i ∷ is) found = by_both x y z q is (eq_by_cmp nat_cmp q i) (same_keys x y z q is) found

keys_at : {X : Type 0} (x : X) (is : List ℕ) → each (λ e. e.0) (each (at x) is) ≡ is
unfolding at
keys_at x [] = refl
keys_at x (i ∷ is) = ap (λ js. i ∷ js) (keys_at x is)

pub all_actors : (s : Setup) → s.dirs ≡ 1 → actors_of s ≡ actors s
all_actors s one = ap (λ n. 0 ∷ 1 ∷ numbers 16 n ++ two 32 s.small 48 s.nodes) one

pub initial : (s : Setup) → IsSmall s → IsInitial s (first_world s)
initial s small = record {
  setup_is = refl;
  actors = λ i a is.
      let found = sym (get-from_sorted nat_cmp (each (at blank) (actors s)) i (sorted_so blank s small)) ∙ is in
      let b = one_value blank a i (actors s) found in (
        ap (λ x. x.memory) b,
        ap (λ x. x.limbo) b,
        get-from_sorted nat_cmp (each (at 0) (actors s)) i (sorted_so 0 s small) ∙ same_keys 0 blank a i (actors s) found ∙ ap (λ x. Some (length x.records)) (sym b),
      );
  all = ap (λ es. each (λ e. e.0) es) (entries-from_sorted nat_cmp (each (at blank) (actors s)) (sorted_so blank s small)) ∙ keys_at blank (actors s) ∙ sym (all_actors s small.one);
  flight = refl;
  next_frame = refl;
  event = refl;
  moment = refl;
  done_in = refl;
}

-- nothing was recorded
pub blank_at_first : (s : Setup) → IsSmall s → IsBlank s (first_world s)
blank_at_first s small = record {
  initial = initial s small;
  records = λ i a is. ap (λ x. x.records) (one_value blank a i (actors s) (sym (get-from_sorted nat_cmp (each (at blank) (actors s)) i (sorted_so blank s small)) ∙ is));
}

pub front_0 : {X : Type 0} (x : X) (s : Setup) → find nat_cmp 0 (each (at x) (actors s)) ≡ Some x
unfolding at
front_0 x s = refl

pub front_1 : {X : Type 0} (x : X) (s : Setup) → find nat_cmp 1 (each (at x) (actors s)) ≡ Some x
unfolding at
front_1 x s = refl

pub front_16 : {X : Type 0} (x : X) (s : Setup) → find nat_cmp 16 (each (at x) (actors s)) ≡ Some x
unfolding at
front_16 x s = refl
