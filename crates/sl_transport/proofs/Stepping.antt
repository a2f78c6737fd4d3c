-- What a step of an actor does.
use Rattle.std.proofs.Common.{◌≡◌, ℕ, ◌++◌, Bool, true, false, List, [], ◌∷◌, Option, Some, None, refl, sym, ap, subst, ◌∙◌, cond, arith}
use Rattle.std.specs.Ordering.{nat_cmp, eq_by_cmp}
use Rattle.std.specs.Cmp.{nat_cmp_total}
use Rattle.std.specs.FinMap.{FinMap, get, insert, get-insert}
use Rattle.sl_frames.specs.declared.frame.Frame.{Frame}
use Rattle.sl_machine.specs.Memory.{Actor}
use Rattle.sl_machine.specs.World.{World, Task, Scene, scene, Segment, Told, after_segment, played, told, with_actor, cut_actor, stopped_actor}
use Rattle.sl_machine.specs.Runs.{May, Plays, Ends, Whole, Faulted, IsSpent, Steps, down_told}
use Rattle.sl_transport.proofs.Proper.{Each, KeptBy, Proper}
use Rattle.sl_transport.proofs.Acting.{proper}
use Rattle.sl_transport.proofs.Moving.{Moves, moves_both, moves_at, moves_nothing, moves_segment, moves_down}

-- ---- a step, segment by segment

plays_keep : (i : ℕ) (P : List Task → World → Told → Type 0)
    → ((t : Task) (todo : List Task) (w : World) (n : Told) (a : Actor) (s : Segment) → P (t ∷ todo) w n → get w.actors i ≡ Some a → May (scene w i) a t s → P (s.todo ++ todo) (played w i a s) (told w s n))
    → (ss : List Segment) (todo : List Task) (w : World) (n : Told) (left : List Task) (w' : World) (n' : Told) → P todo w n → Plays i todo w n ss left w' n' → P left w' n'
plays_keep i P keeps [] todo w n left w' n' h plays =
    subst (λ z. P z w' n') (sym plays.0) (subst (λ z. P todo z n') (sym plays.1) (subst (λ z. P todo w z) (sym plays.2) h))
plays_keep i P keeps (s ∷ ss) [] w n left w' n' h plays = absurd plays
plays_keep i P keeps (s ∷ ss) (t ∷ todo) w n left w' n' h plays =
    plays_keep i P keeps ss (s.todo ++ todo) (played w i plays.0 s) (told w s n) left w' n' (keeps t todo w n plays.0 s h plays.1 plays.2) plays.3

-- What holds between segments holds at the end, as far as each end keeps it.
pub steps_keep : (i : ℕ) (P : List Task → World → Told → Type 0) (E : World → Told → Type 0)
    → ((t : Task) (todo : List Task) (w : World) (n : Told) (a : Actor) (s : Segment) → P (t ∷ todo) w n → get w.actors i ≡ Some a → May (scene w i) a t s → P (s.todo ++ todo) (played w i a s) (told w s n))
    → ((todo : List Task) (w : World) (n : Told) (w' : World) (n' : Told) → P todo w n → Ends i todo w n w' n' → E w' n')
    → (todo : List Task) (w : World) (n : Told) (w' : World) (n' : Told) → P todo w n → Steps i todo w n w' n' → E w' n'
steps_keep i P E keeps ends todo w n w' n' h steps =
    ends steps.left steps.middle steps.so_far w' n' (plays_keep i P keeps steps.segments todo w n steps.left steps.middle steps.so_far h steps.plays) steps.ends

-- ---- answers that actors keep are their own

abbrev pub IsFrom : ℕ → Frame → Type 0
IsFrom i f = f.from ≡ i

abbrev pub OwnBy : ℕ → Option Actor → Type 0
OwnBy i None = Unit {0}
OwnBy i (Some a) = KeptBy (IsFrom i) a.memory

abbrev pub HoldOwn : FinMap nat_cmp Actor → Type 0
HoldOwn actors = (i : ℕ) → OwnBy i (get actors i)

pub same_key : (q k : ℕ) → eq_by_cmp nat_cmp q k ≡ true → q ≡ k
same_key q k e = grind arith

pub hold_put : (actors : FinMap nat_cmp Actor) (i : ℕ) (a : Actor) → HoldOwn actors → KeptBy (IsFrom i) a.memory → HoldOwn (insert actors i a)
hold_put actors i a hold own j = subst (OwnBy j) (sym (get-insert nat_cmp_total actors i a j)) (by (eq_by_cmp nat_cmp j i) refl)
  where
    by : (b : Bool) → eq_by_cmp nat_cmp j i ≡ b → OwnBy j (cond b (Some a) (get actors j))
    by true e = subst (λ k. OwnBy k (Some a)) (sym (same_key j i e)) own
    by false e = hold j

-- the others stay
abbrev pub OthersStay : ℕ → FinMap nat_cmp Actor → FinMap nat_cmp Actor → Type 0
OthersStay i before after = (j : ℕ) → eq_by_cmp nat_cmp j i ≡ false → get after j ≡ get before j

pub put_else : (actors : FinMap nat_cmp Actor) (i : ℕ) (a : Actor) → OthersStay i actors (insert actors i a)
put_else actors i a j apart = get-insert nat_cmp_total actors i a j ∙ ap (λ b. cond b (Some a) (get actors j)) apart

-- ---- a step

abbrev pub EachTask : (Task → Type 0) → List Task → Type 0
EachTask T [] = Unit {0}
EachTask T (t ∷ ts) = T t × EachTask T ts

pub tasks_both : (T : Task → Type 0) (ts us : List Task) → EachTask T ts → EachTask T us → EachTask T (ts ++ us)
tasks_both T [] us p q = q
tasks_both T (t ∷ ts) us p q = (p.0, tasks_both T ts us p.1 q)

-- For tasks of this kind the actor sends frames of this kind, and what is left to do is of that kind again.
pub record Does (i : ℕ) (T : Task → Type 0) (S : Frame → Type 0) : Type 0 where
  pub does : (x : Scene) (a : Actor) (t : Task) (s : Segment) → x.actor ≡ i → T t → Each (IsFrom i) s.frames → May x a t s → Each S s.frames × EachTask T s.todo

-- an actor does some tasks
pub record Stepped (i : ℕ) (S : Frame → Type 0) (w : World) (n : Told) (w' : World) (n' : Told) : Type 0 where
  pub moves : Moves S w n w' n'
  pub own : HoldOwn w'.actors
  pub others : OthersStay i w.actors w'.actors

record Going (i : ℕ) (T : Task → Type 0) (S : Frame → Type 0) (w : World) (n : Told) (todo : List Task) (w' : World) (n' : Told) : Type 0 where
  stepped : Stepped i S w n w' n'
  tasks : EachTask T todo

stepped_down : (i : ℕ) (S : Frame → Type 0) (w : World) (n : Told) (v : World) (m : Told) (a : Actor) (w' : World) (n' : Told) → a.memory ≡ None → Stepped i S w n v m
    → w' ≡ with_actor v i a → n' ≡ down_told i m → Stepped i S w n w' n'
stepped_down i S w n v m a w' n' down p e d = record {
  moves = moves_at (moves_both p.moves (moves_down S v m i a)) e d;
  own = subst (λ (z : World). HoldOwn z.actors) (sym e) (hold_put v.actors i a p.own (subst (KeptBy (IsFrom i)) (sym down) tt));
  others = λ j apart. ap (λ (z : World). get z.actors j) e ∙ put_else v.actors i a j apart ∙ p.others j apart;
}

goes_down : (i : ℕ) (T : Task → Type 0) (S : Frame → Type 0) (w : World) (n : Told) (todo : List Task) (v : World) (m : Told) (w' : World) (n' : Told)
    → Going i T S w n todo v m → Ends i todo v m w' n' → Stepped i S w n w' n'
goes_down i T S w n todo v m w' n' p (Whole none e d) = record {
  moves = moves_at p.stepped.moves e d;
  own = subst (λ (z : World). HoldOwn z.actors) (sym e) p.stepped.own;
  others = λ j apart. ap (λ (z : World). get z.actors j) e ∙ p.stepped.others j apart;
}
goes_down i T S w n todo v m w' n' p (Faulted cut) = stepped_down i S w n v m (cut_actor cut.actor cut.cut) w' n' refl p.stepped cut.world cut.noted
goes_down i T S w n todo v m w' n' p (IsSpent spent) = stepped_down i S w n v m (stopped_actor spent.actor) w' n' refl p.stepped spent.world spent.noted

goes_on : (i : ℕ) (T : Task → Type 0) (S : Frame → Type 0) → Does i T S → (w : World) (n : Told) (t : Task) (todo : List Task) (v : World) (m : Told) (a : Actor) (s : Segment)
    → Going i T S w n (t ∷ todo) v m → get v.actors i ≡ Some a → May (scene v i) a t s → Going i T S w n (s.todo ++ todo) (played v i a s) (told v s m)
goes_on i T S does w n t todo v m a s p is may = record {
  stepped = record {
    moves = moves_both p.stepped.moves (moves_segment S v m i a s right.notes next.0);
    own = hold_put v.actors i (after_segment a s) p.stepped.own right.memory;
    others = λ j apart. put_else v.actors i (after_segment a s) j apart ∙ p.stepped.others j apart;
  };
  tasks = tasks_both T s.todo todo next.1 p.tasks.1;
}
  where
    right : Proper (IsFrom i) s
    right = proper (IsFrom i) (scene v i) a t s (λ f e. e) (subst (OwnBy i) is (p.stepped.own i)) may

    next : Each S s.frames × EachTask T s.todo
    next = does.does (scene v i) a t s refl p.tasks.0 right.frames may

pub steps_move : (i : ℕ) (T : Task → Type 0) (S : Frame → Type 0) → Does i T S → (todo : List Task) (w : World) (n : Told) (w' : World) (n' : Told) → EachTask T todo → HoldOwn w.actors
    → Steps i todo w n w' n' → Stepped i S w n w' n'
steps_move i T S does todo w n w' n' tasks own steps =
    steps_keep i (Going i T S w n) (Stepped i S w n) (goes_on i T S does w n) (goes_down i T S w n) todo w n w' n'
    (record { stepped = record { moves = moves_nothing S w n; own = own; others = λ j apart. refl }; tasks = tasks }) steps
