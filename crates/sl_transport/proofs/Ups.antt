-- Which actors are up after a part of a turn: those that were, or were to be, and of which no end is noted.
use Rattle.std.proofs.Common.{◌≡◌, ℕ, ◌+◌, ◌==◌, ◌++◌, ◌&&◌, ◌||◌, Bool, true, false, not, List, [], ◌∷◌, Option, Some, None, refl, sym, ap, subst, ◌∙◌, ◌⊎◌, inl, inr, cond, arith}
use Rattle.std.proofs.lemmas.Bool.Decides.{nat_tests}
use Rattle.std.specs.Ordering.{nat_cmp, eq_by_cmp}
use Rattle.std.specs.Cmp.{nat_cmp_total}
use Rattle.std.specs.FinMap.{FinMap, get, insert, get-insert}
use Rattle.sl_defs.specs.declared.event.Event.{Event}
use Rattle.sl_defs.specs.declared.event.Event.TheVariants as event
use Rattle.sl_defs.specs.Histories.{Happens}
use Rattle.sl_frames.specs.declared.frame.Frame.{Frame}
use Rattle.sl_history.specs.Turns.{Remark, Sent, Did, Flush, Verf, Replied, Junk, Early, Full, Lost, Down}
use Rattle.sl_history.specs.Frames.{notes_down, up_by}
use Rattle.sl_machine.specs.Memory.{Memory, OfProxy, OfCoord, OfSite, OfStore, Actor}
use Rattle.sl_machine.specs.World.{World, Task, Given, Arrives, Ticks, Opening, scene, Segment, Told, nothing, after_segment, played, told, numbered, with_actor, cut_actor, stopped_actor, landed}
use Rattle.sl_machine.specs.Openings.{settled}
use Rattle.sl_machine.specs.Runs.{May, Ends, Whole, Faulted, IsSpent, Steps, down_told, has_memory, is_up, IfUp, Begins, FailsToOpen, Starts, IfDown, opened_actor, noted_of, with_notes, done_by, Follows}
use Rattle.sl_transport.proofs.Proper.{Plain, KeptBy, Proper}
use Rattle.sl_transport.proofs.Acting.{proper}
use Rattle.sl_transport.proofs.Opened.{plain_settled}
use Rattle.sl_transport.proofs.Stepping.{same_key, put_else, steps_keep}
use Rattle.sl_transport.proofs.Alike.{Anything}

-- ---- ends that are noted

and_true : (b : Bool) → b && true ≡ b
and_true true = refl
and_true false = refl

and_false : (b : Bool) → b && false ≡ false
and_false true = refl
and_false false = refl

or_false : (b : Bool) → b || false ≡ b
or_false true = refl
or_false false = refl

or_all : (a b c : Bool) → (a || b) || c ≡ a || (b || c)
or_all true b c = refl
or_all false b c = refl

itself : (i : ℕ) → (i == i) ≡ true
itself i = grind (arith, nat_tests)

test_of : (j i : ℕ) → eq_by_cmp nat_cmp j i ≡ (j == i)
test_of j i = grind (arith, nat_tests)

plain_down : (j : ℕ) (rs : List Remark) → Plain rs → notes_down j rs ≡ false
plain_down j [] h = refl
plain_down j (Sent k f ∷ rs) h = absurd h
plain_down j (Did n at choice ∷ rs) h = plain_down j rs h
plain_down j (Flush f ∷ rs) h = plain_down j rs h
plain_down j (Verf v ∷ rs) h = plain_down j rs h
plain_down j (Replied n e bytes ∷ rs) h = plain_down j rs h
plain_down j (Junk n ∷ rs) h = plain_down j rs h
plain_down j (Early n ∷ rs) h = plain_down j rs h
plain_down j (Full n ∷ rs) h = plain_down j rs h
plain_down j (Lost n ∷ rs) h = plain_down j rs h
plain_down j (Down a ∷ rs) h = absurd h

pub down_both : (j : ℕ) (rs qs : List Remark) → notes_down j (rs ++ qs) ≡ notes_down j rs || notes_down j qs
down_both j [] qs = refl
down_both j (Sent k f ∷ rs) qs = down_both j rs qs
down_both j (Did n at choice ∷ rs) qs = down_both j rs qs
down_both j (Flush f ∷ rs) qs = down_both j rs qs
down_both j (Verf v ∷ rs) qs = down_both j rs qs
down_both j (Replied n e bytes ∷ rs) qs = down_both j rs qs
down_both j (Junk n ∷ rs) qs = down_both j rs qs
down_both j (Early n ∷ rs) qs = down_both j rs qs
down_both j (Full n ∷ rs) qs = down_both j rs qs
down_both j (Lost n ∷ rs) qs = down_both j rs qs
down_both j (Down a ∷ rs) qs = ap (λ b. (j == a) || b) (down_both j rs qs) ∙ sym (or_all (j == a) (notes_down j rs) (notes_down j qs))

more_plain : (j : ℕ) (rs qs : List Remark) → Plain qs → notes_down j (rs ++ qs) ≡ notes_down j rs
more_plain j rs qs h = down_both j rs qs ∙ ap (λ b. notes_down j rs || b) (plain_down j qs h) ∙ or_false (notes_down j rs)

down_else : (j i : ℕ) (rs : List Remark) → eq_by_cmp nat_cmp j i ≡ false → notes_down j (rs ++ Down i ∷ []) ≡ notes_down j rs
down_else j i rs apart =
    down_both j rs (Down i ∷ []) ∙ ap (λ b. notes_down j rs || (b || false)) (sym (test_of j i) ∙ apart) ∙ or_false (notes_down j rs)

or_true : (b : Bool) → b || true ≡ true
or_true true = refl
or_true false = refl

down_here : (i : ℕ) (rs : List Remark) → notes_down i (rs ++ Down i ∷ []) ≡ true
down_here i rs = down_both i rs (Down i ∷ []) ∙ ap (λ b. notes_down i rs || (b || false)) (itself i) ∙ or_true (notes_down i rs)

none_down : (j n : ℕ) (fs : List Frame) → notes_down j (numbered n fs) ≡ false
none_down j n [] = refl
none_down j n (f ∷ fs) = none_down j (n + 1) fs

-- frames before the notes are no ends
pub frames_down : (j n : ℕ) (fs : List Frame) (rs : List Remark) → notes_down j (numbered n fs ++ rs) ≡ notes_down j rs
frames_down j n fs rs = down_both j (numbered n fs) rs ∙ ap (λ b. b || notes_down j rs) (none_down j n fs)

-- ---- an actor does tasks

abbrev pub IsApart : ℕ → ℕ → Type 0
IsApart j i = eq_by_cmp nat_cmp j i ≡ false

-- Each actor is up where it is to be, and no end of it was noted.
abbrev pub AreUp : (ℕ → Bool) → World → Told → Type 0
AreUp was w n = (j : ℕ) → is_up (get w.actors j) ≡ was j && not (notes_down j n.notes)

-- The same of all but actor i, which is to be up and has not ended.
pub record Near (i : ℕ) (was : ℕ → Bool) (start : Told) (w : World) (n : Told) : Type 0 where
  pub others : (j : ℕ) → IsApart j i → is_up (get w.actors j) ≡ was j && not (notes_down j n.notes)
  pub clean : notes_down i n.notes ≡ false
  pub due : was i ≡ true
  pub noted : (j : ℕ) → IsApart j i → notes_down j n.notes ≡ notes_down j start.notes

record Under (i : ℕ) (was : ℕ → Bool) (start : Told) (todo : List Task) (w : World) (n : Told) : Type 0 where
  near : Near i was start w n
  state : (is_up (get w.actors i) ≡ true) ⊎ (todo ≡ [] → ⊥)

-- then it is up, or its end was noted; of others none was
pub record Went (i : ℕ) (was : ℕ → Bool) (start : Told) (w : World) (n : Told) : Type 0 where
  pub ups : AreUp was w n
  pub noted : (j : ℕ) → IsApart j i → notes_down j n.notes ≡ notes_down j start.notes

kept_any : (m : Option Memory) → KeptBy Anything m
kept_any None = tt
kept_any (Some (OfProxy p)) = tt
kept_any (Some (OfCoord m)) = λ tag f e. tt
kept_any (Some (OfSite s)) = λ tag f e. tt
kept_any (Some (OfStore m)) = λ tag f e. tt

put_here : (actors : FinMap nat_cmp Actor) (i : ℕ) (a : Actor) → get (insert actors i a) i ≡ Some a
put_here actors i a = get-insert nat_cmp_total actors i a i ∙ ap (λ b. cond b (Some a) (get actors i)) (test_of i i ∙ itself i)

under_more : (i : ℕ) (was : ℕ → Bool) (start : Told) (t : Task) (todo : List Task) (w : World) (n : Told) (a : Actor) (s : Segment) → Under i was start (t ∷ todo) w n
    → get w.actors i ≡ Some a → May (scene w i) a t s → Under i was start (s.todo ++ todo) (played w i a s) (told w s n)
under_more i was start t todo w n a s p is may = record {
  near = record {
    others = λ j apart. ap is_up (put_else w.actors i (after_segment a s) j apart) ∙ p.near.others j apart ∙ ap (λ b. was j && not b) (sym (more_plain j n.notes s.notes right.notes));
    clean = more_plain i n.notes s.notes right.notes ∙ p.near.clean;
    due = p.near.due;
    noted = λ j apart. more_plain j n.notes s.notes right.notes ∙ p.near.noted j apart;
  };
  state = inl (ap is_up (put_here w.actors i (after_segment a s)));
}
  where
    right : Proper Anything s
    right = proper Anything (scene w i) a t s (λ f e. tt) (kept_any a.memory) may

-- all of them, where those apart from actor i and it itself are
everywhere : (i : ℕ) (P : ℕ → Type 0) → ((j : ℕ) → IsApart j i → P j) → P i → (j : ℕ) → P j
everywhere i P others here j = by (eq_by_cmp nat_cmp j i) refl
  where
    by : (b : Bool) → eq_by_cmp nat_cmp j i ≡ b → P j
    by true e = subst P (sym (same_key j i e)) here
    by false e = others j e

went_up : (i : ℕ) (was : ℕ → Bool) (start : Told) (w : World) (n : Told) → Near i was start w n → is_up (get w.actors i) ≡ true → Went i was start w n
went_up i was start w n p up = record {
  ups = everywhere i (λ j. is_up (get w.actors j) ≡ was j && not (notes_down j n.notes)) p.others
      (up ∙ sym (ap (λ b. b && not (notes_down i n.notes)) p.due ∙ ap not p.clean));
  noted = p.noted;
}

went_down : (i : ℕ) (was : ℕ → Bool) (start : Told) (w : World) (n : Told) (a : Actor) → a.memory ≡ None → Near i was start w n → Went i was start (with_actor w i a) (down_told i n)
went_down i was start w n a down p = record {
  ups = everywhere i (λ j. is_up (get (insert w.actors i a) j) ≡ was j && not (notes_down j (n.notes ++ Down i ∷ [])))
      (λ j apart. ap is_up (put_else w.actors i a j apart) ∙ p.others j apart ∙ ap (λ b. was j && not b) (sym (down_else j i n.notes apart)))
      (ap is_up (put_here w.actors i a) ∙ ap has_memory down ∙ sym (ap (λ b. was i && not b) (down_here i n.notes) ∙ and_false (was i)));
  noted = λ j apart. down_else j i n.notes apart ∙ p.noted j apart;
}

went_at : (i : ℕ) (was : ℕ → Bool) (start : Told) (v : World) (m : Told) (w : World) (n : Told) → Went i was start v m → w ≡ v → n ≡ m → Went i was start w n
went_at i was start v m w n p e d = subst (λ z. Went i was start z n) (sym e) (subst (λ z. Went i was start v z) (sym d) p)

goes_down : (i : ℕ) (was : ℕ → Bool) (start : Told) (todo : List Task) (w : World) (n : Told) (w' : World) (n' : Told) → Under i was start todo w n → Ends i todo w n w' n' → Went i was start w' n'
goes_down i was start todo w n w' n' p (Whole none e d) = went_at i was start w n w' n' (by p.state) e d
  where
    by : ((is_up (get w.actors i) ≡ true) ⊎ (todo ≡ [] → ⊥)) → Went i was start w n
    by (inl up) = went_up i was start w n p.near up
    by (inr more) = absurd (more none)
goes_down i was start todo w n w' n' p (Faulted cut) =
    went_at i was start (with_actor w i (cut_actor cut.actor cut.cut)) (down_told i n) w' n' (went_down i was start w n (cut_actor cut.actor cut.cut) refl p.near) cut.world cut.noted
goes_down i was start todo w n w' n' p (IsSpent spent) =
    went_at i was start (with_actor w i (stopped_actor spent.actor)) (down_told i n) w' n' (went_down i was start w n (stopped_actor spent.actor) refl p.near) spent.world spent.noted

some_task : (t : Task) → t ∷ [] ≡ [] → ⊥
some_task t e = cc

pub steps_go : (i : ℕ) (was : ℕ → Bool) (start : Told) (t : Task) (w : World) (n : Told) (w' : World) (n' : Told) → Near i was start w n → Steps i (t ∷ []) w n w' n' → Went i was start w' n'
steps_go i was start t w n w' n' p steps =
    steps_keep i (Under i was start) (Went i was start) (under_more i was start) (goes_down i was start) (t ∷ []) w n w' n' (record { near = p; state = inr (some_task t) }) steps

-- ---- openings

begins_go : (i : ℕ) (was : ℕ → Bool) (start : Told) (w : World) (n : Told) (w' : World) (n' : Told) → Near i was start w n → Begins i w n w' n' → Went i was start w' n'
begins_go i was start w n w' n' p begins =
    steps_go i was start Opening (done_by notes (with_actor w i (opened_actor begins.actor begins.records))) (with_notes notes n) w' n'
    (record {
      others = λ j apart. ap is_up (put_else w.actors i (opened_actor begins.actor begins.records) j apart) ∙ p.others j apart ∙ ap (λ b. was j && not b) (sym (more_plain j n.notes notes plain));
      clean = more_plain i n.notes notes plain ∙ p.clean;
      due = p.due;
      noted = λ j apart. more_plain j n.notes notes plain ∙ p.noted j apart;
    }) begins.steps
  where
    notes : List Remark
    notes = settled (noted_of w i) begins.records

    plain : Plain notes
    plain = plain_settled (noted_of w i) begins.records

fails_go : (i : ℕ) (was : ℕ → Bool) (start : Told) (w : World) (n : Told) (w' : World) (n' : Told) → Near i was start w n → FailsToOpen i w n w' n' → Went i was start w' n'
fails_go i was start w n w' n' p fails = went_at i was start w (down_told i n) w' n' (record {
  ups = everywhere i (λ j. is_up (get w.actors j) ≡ was j && not (notes_down j (n.notes ++ Down i ∷ [])))
      (λ j apart. p.others j apart ∙ ap (λ b. was j && not b) (sym (down_else j i n.notes apart)))
      (ap is_up fails.is ∙ ap has_memory fails.down ∙ sym (ap (λ b. was i && not b) (down_here i n.notes) ∙ and_false (was i)));
  noted = λ j apart. down_else j i n.notes apart ∙ p.noted j apart;
}) fails.world fails.noted

pub starts_go : (i : ℕ) (was : ℕ → Bool) (start : Told) (w : World) (n : Told) (w' : World) (n' : Told) → Near i was start w n → Starts i w n w' n' → Went i was start w' n'
starts_go i was start w n w' n' p (inl begins) = begins_go i was start w n w' n' p begins
starts_go i was start w n w' n' p (inr fails) = fails_go i was start w n w' n' p fails

-- ---- events

are_at : (was : ℕ → Bool) (w : World) (n : Told) (w' : World) (n' : Told) → AreUp was w n → w' ≡ w → n' ≡ n → AreUp was w' n'
are_at was w n w' n' p e d = subst (λ z. AreUp was z n') (sym e) (subst (λ z. AreUp was w z) (sym d) p)

both_hold : (a b : Bool) → true ≡ a && not b → (a ≡ true) × (b ≡ false)
both_hold true false e = (refl, refl)
both_hold true true e = cc
both_hold false b e = cc

near_up : (i : ℕ) (was : ℕ → Bool) (w : World) (n : Told) → AreUp was w n → is_up (get w.actors i) ≡ true → Near i was n w n
near_up i was w n p up =
    let due = both_hold (was i) (notes_down i n.notes) (sym up ∙ p i) in
    record { others = λ j apart. p j; clean = due.1; due = due.0; noted = λ j apart. refl }

pub if_up_goes : (i : ℕ) (was : ℕ → Bool) (t : Task) (w : World) (n : Told) (w' : World) (n' : Told) → AreUp was w n → IfUp i (t ∷ []) w n w' n' → AreUp was w' n'
if_up_goes i was t w n w' n' p (inl up) = (steps_go i was n t w n w' n' (near_up i was w n p up.0) up.1).ups
if_up_goes i was t w n w' n' p (inr down) = are_at was w n w' n' p down.1.0 down.1.1

-- each is up as before
same_up : (was : ℕ → Bool) (w : World) → ((j : ℕ) → was j ≡ is_up (get w.actors j)) → AreUp was w nothing
same_up was w h j = sym (h j) ∙ sym (and_true (was j))

-- an actor that is down starts
start_goes : (i : ℕ) (was : ℕ → Bool) (w : World) (w' : World) (n' : Told) → ((j : ℕ) → was j ≡ is_up (get w.actors j)) → IfDown i w nothing w' n' → AreUp (λ j. was j || j == i) w' n'
start_goes i was w w' n' h (inl down) = (starts_go i (λ j. was j || j == i) nothing w nothing w' n' (record {
  others = λ j apart. sym (h j) ∙ sym (and_true (was j || j == i) ∙ ap (λ b. was j || b) (sym (test_of j i) ∙ apart) ∙ or_false (was j));
  clean = refl;
  due = ap (λ b. was i || b) (itself i) ∙ or_true (was i);
  noted = λ j apart. refl;
}) down.1).ups
start_goes i was w w' n' h (inr up) = are_at (λ j. was j || j == i) w nothing w' n'
    (everywhere i (λ j. is_up (get w.actors j) ≡ (was j || j == i) && not (notes_down j []))
    (λ j apart. sym (h j) ∙ sym (and_true (was j || j == i) ∙ ap (λ b. was j || b) (sym (test_of j i) ∙ apart) ∙ or_false (was j)))
    (up.0 ∙ sym (and_true (was i || i == i) ∙ ap (λ b. was i || b) (itself i) ∙ or_true (was i)))) up.1.0 up.1.1

-- an actor stops
stop_goes : (i : ℕ) (was : ℕ → Bool) (w : World) (a : Actor) → a.memory ≡ None → ((j : ℕ) → was j ≡ is_up (get w.actors j)) → AreUp (λ j. was j && not (j == i)) (with_actor w i a) nothing
stop_goes i was w a down h = everywhere i (λ j. is_up (get (insert w.actors i a) j) ≡ (was j && not (j == i)) && not (notes_down j []))
    (λ j apart. ap is_up (put_else w.actors i a j apart) ∙ sym (h j) ∙ sym (and_true (was j && not (j == i)) ∙ ap (λ b. was j && not b) (sym (test_of j i) ∙ apart) ∙ and_true (was j)))
    (ap is_up (put_here w.actors i a) ∙ ap has_memory down ∙ sym (and_true (was i && not (i == i)) ∙ ap (λ b. was i && not b) (itself i) ∙ and_false (was i)))

pub follows_go : (e : Event) (was : ℕ → Bool) (w : World) (w' : World) (n' : Told) → ((j : ℕ) → was j ≡ is_up (get w.actors j)) → Follows e w w' n' → AreUp (λ j. up_by (Happens e) j (was j)) w' n'
follows_go (event.Call client bytes) was w w' n' h (inl reached) =
    (steps_go 0 was nothing (Arrives w.event client bytes) w nothing w' n' (near_up 0 was w nothing (same_up was w h) reached.up) reached.steps).ups
follows_go (event.Call client bytes) was w w' n' h (inr lost) = are_at was w (record { frames = []; notes = Lost w.event ∷ [] }) w' n' (same_up was w h) lost.world lost.noted
follows_go (event.Give k) was w w' n' h (x, given) = if_up_goes x.flying.frame.to was (Given x.flying.frame x.flying.event) (landed w k) nothing w' n' (same_up was w h) given
follows_go (event.Copy k) was w w' n' h (x, given) = if_up_goes x.flying.frame.to was (Given x.flying.frame x.flying.event) w nothing w' n' (same_up was w h) given
follows_go (event.Drop k) was w w' n' h follows = are_at was (landed w k) nothing w' n' (same_up was w h) follows.1.0 follows.1.1
follows_go event.Tick was w w' n' h both = if_up_goes 1 was Ticks both.middle both.so_far w' n' (if_up_goes 0 was Ticks w nothing both.middle both.so_far (same_up was w h) both.proxy) both.coordinator
follows_go (event.Stop i image) was w w' n' h stops =
    are_at (λ j. was j && not (j == i)) (with_actor w i (stopped_actor stops.actor)) nothing w' n' (stop_goes i was w (stopped_actor stops.actor) refl h) stops.world stops.noted
follows_go (event.Start i) was w w' n' h follows = start_goes i was w w' n' h follows
follows_go (event.Fuse i after image) was w w' n' h silent = are_at was w nothing w' n' (same_up was w h) silent.0 silent.1
follows_go (event.Fail i after) was w w' n' h silent = are_at was w nothing w' n' (same_up was w h) silent.0 silent.1
