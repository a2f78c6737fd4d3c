-- Over every run answers answer what was given to those who send them.
use Rattle.std.proofs.Common.{◌≡◌, ℕ, ◌+◌, ◌==◌, ◌++◌, Bool, true, false, List, [], ◌∷◌, Option, Some, None, refl, sym, ap, subst, ◌∙◌, inl, inr, cond}
use Rattle.std.specs.Prelude.{option_and_then}
use Rattle.std.specs.Ordering.{nat_cmp, eq_by_cmp}
use Rattle.std.specs.Cmp.{nat_cmp_total}
use Rattle.std.specs.FinMap.{FinMap, get, insert, get-insert}
use Rattle.sl_defs.specs.Histories.{Happening, Opens, Reaches, Happens}
use Rattle.sl_defs.specs.declared.event.Event.{Event}
use Rattle.sl_defs.specs.declared.event.Event.TheVariants as event
use Rattle.sl_defs.specs.declared.setup.Setup.{Setup}
use Rattle.sl_frames.specs.Actors.{is_proxy}
use Rattle.sl_frames.specs.declared.frame.Frame.{Frame}
use Rattle.sl_history.specs.Turns.{Remark, Sent, Did, Flush, Verf, Replied, Junk, Early, Full, Lost, Down, Turn, History, so_far}
use Rattle.sl_history.specs.Frames.{WasGiven, given_number}
use Rattle.sl_history.specs.Frames as history
use Rattle.sl_machine.specs.Memory.{Memory, Actor, OfCoord, OfSite, OfStore}
use Rattle.sl_machine.specs.World.{World, Scene, scene, Segment, Task, Given, Arrives, Ticks, Opening, Told, nothing, numbered, played, told, after_segment, with_actor, stopped_actor, cut_actor, begun, landed, done_after}
use Rattle.sl_machine.specs.Openings.{settled}
use Rattle.sl_machine.specs.Runs.{May, ByProxy, ByCoordinator, ByDirectory, ByStore, ByOpenedProxy, ByOpenedCoordinator, ByOpenedDirectory, ByOpenedStore, Ends, Whole, Faulted, IsSpent, Steps, is_up, Silent, IfUp, Begins, Starts, StartsEach, IfDown, opened_actor, noted_of, InFlight, Follows, IsTurn, IsInitial, TurnRun, Run, actors_of}
use Rattle.sl_transport.specs.Flying.{FliesAlike}
use Rattle.sl_transport.specs.Acting.{AreUpAlike}
use Rattle.sl_transport.specs.Answering.{IsAnswered, AllAnswered, AnswersAnswer}
use Rattle.sl_transport.proofs.Proper.{Each, KeptBy, Proper}
use Rattle.sl_transport.proofs.Acting.{proper}
use Rattle.sl_transport.proofs.Moving.{NoneSent}
use Rattle.sl_transport.proofs.Stepping.{IsFrom, OwnBy, HoldOwn, hold_put, same_key, EachTask, tasks_both, steps_keep}
use Rattle.sl_transport.proofs.Turning.{happened}
use Rattle.sl_transport.proofs.Alike.{Anything, sends_anything, runs_alike}
use Rattle.sl_transport.proofs.Sending.{up_alike}
use Rattle.sl_transport.proofs.Asking.{GivenTo, Asked, Knows, KnowsIn, IsOfGiven, Replies, store_so, boots_so}
use Rattle.sl_transport.proofs.Welcoming.{Owes, OwesIn, Speaks, coordinator_so}
use Rattle.sl_transport.proofs.Welcoming as welcoming
use Rattle.sl_transport.specs.Kinds.{asks, IsOfItsSender, IsAskedRightly, AllAskedRightly, OnlyTheProxyAsks}
use Rattle.sl_transport.proofs.Asks.{only_the_proxy_asks, turn_asks}
use Rattle.sl_transport.proofs.Kept.{IfThere, there}
use Rattle.sl_frames.specs.declared.body.Body.{Body}
use Rattle.sl_frames.specs.declared.body.Body.TheVariants as body
use Rattle.sl_history.specs.Wired.{is_answer}
use Rattle.sl_transport.proofs.Telling.{IsTold, Holds, HoldsIn, Tells, directory_so, opens_so}

true_false : true ≡ false → ⊥
true_false e = cc

-- ---- a segment

-- what an actor has in memory, other than the proxy
abbrev pub KnowsOf : (Frame → Type 0) → ℕ → Memory → Type 0
KnowsOf G i (OfStore m) = Knows G i m.site
KnowsOf G i (OfSite s) = Holds G i s
KnowsOf G i (OfCoord m) = Owes G m
KnowsOf G i other = ⊥

abbrev pub KnowsBy : (Frame → Type 0) → ℕ → Option Memory → Type 0
KnowsBy G i None = Unit {0}
KnowsBy G i (Some m) = KnowsOf G i m

record Says (G : Frame → Type 0) (i : ℕ) (s : Segment) : Type 0 where
  frames : Each (IsTold G) s.frames
  memory : KnowsOf G i s.memory
  todo : EachTask (IsOfGiven G i) s.todo

module _ (G : Frame → Type 0) (i : ℕ) where
  of_store : (m : Memory) → KnowsIn G i m → KnowsOf G i m
  of_store (OfStore m) k = k
  of_store other k = absurd k

  of_directory : (m : Memory) → HoldsIn G i m → KnowsOf G i m
  of_directory (OfSite s) k = k
  of_directory other k = absurd k

  all_told : (fs : List Frame) → Each (Asked G) fs → Each (IsTold G) fs
  all_told [] h = tt
  all_told (f ∷ fs) h = ((λ is young. h.0), all_told fs h.1)

  by_store : (s : Segment) → Replies G i s → Says G i s
  by_store s r = record { frames = all_told s.frames r.frames; memory = of_store s.memory r.memory; todo = r.todo }

  of_coordinator : (m : Memory) → OwesIn G m → KnowsOf G i m
  of_coordinator (OfCoord m) k = k
  of_coordinator other k = absurd k

  by_coordinator : i ≡ 1 → (s : Segment) → Speaks G s → Says G i s
  by_coordinator is s r = record { frames = r.frames; memory = of_coordinator s.memory r.memory; todo = subst (λ j. EachTask (IsOfGiven G j) s.todo) (sym is) r.todo }

  by_directory : (s : Segment) → Tells G i s → Says G i s
  by_directory s r = record { frames = r.frames; memory = of_directory s.memory r.memory; todo = r.todo }

says : (G : Frame → Type 0) (shape : (f : Frame) → G f → IsOfItsSender f) (x : Scene) (a : Actor) (t : Task) (s : Segment) → is_proxy x.actor ≡ false → KnowsBy G x.actor a.memory → IsOfGiven G x.actor t → May x a t s → Says G x.actor s
says G shape x a t s one k given (ByProxy p i up row) = absurd (true_false (sym (ap is_proxy i) ∙ one))
says G shape x a t s one k given (ByCoordinator m i up row) = by_coordinator G x.actor i s (coordinator_so G shape x a m t s (subst (KnowsBy G x.actor) up k) (subst (λ j. IsOfGiven G j t) i given) row)
says G shape x a t s one k given (ByDirectory m i up row) = by_directory G x.actor s (directory_so G x i a m t s (subst (KnowsBy G x.actor) up k) given row)
says G shape x a t s one k given (ByStore m i up row) = by_store G x.actor s (store_so G x a m t s (subst (KnowsBy G x.actor) up k) given row)
says G shape x a t s one k given (ByOpenedProxy i down is row) = absurd (true_false (sym (ap is_proxy i) ∙ one))
says G shape x a t s one k given (ByOpenedCoordinator i down is row) = by_coordinator G x.actor i s (welcoming.opens_so G shape a s row)
says G shape x a t s one k given (ByOpenedDirectory i down is row) = by_directory G x.actor s (opens_so G x i a s row)
says G shape x a t s one k given (ByOpenedStore i down is row) = by_store G x.actor s (boots_so G x a s row)

-- ---- what all actors hold but the proxy, and what was told

abbrev pub KnowsIf : (Frame → Type 0) → ℕ → Option Actor → Type 0
KnowsIf G i None = Unit {0}
KnowsIf G i (Some a) = is_proxy i ≡ false → KnowsBy G i a.memory

abbrev pub AllKnow : (Frame → Type 0) → FinMap nat_cmp Actor → Type 0
AllKnow G actors = (i : ℕ) → KnowsIf G i (get actors i)

know_put : (G : Frame → Type 0) (actors : FinMap nat_cmp Actor) (i : ℕ) (a : Actor) → AllKnow G actors → (is_proxy i ≡ false → KnowsBy G i a.memory) → AllKnow G (insert actors i a)
know_put G actors i a all k j = subst (KnowsIf G j) (sym (get-insert nat_cmp_total actors i a j)) (by (eq_by_cmp nat_cmp j i) refl)
  where
    by : (b : Bool) → eq_by_cmp nat_cmp j i ≡ b → KnowsIf G j (cond b (Some a) (get actors j))
    by true e = subst (λ k. KnowsIf G k (Some a)) (sym (same_key j i e)) k
    by false e = all j

abbrev IsSaid : (Frame → Type 0) → Remark → Type 0
IsSaid G (Sent k f) = is_proxy f.from ≡ false → IsTold G f
IsSaid G other = Unit {0}

abbrev pub AllSaid : (Frame → Type 0) → List Remark → Type 0
AllSaid G [] = Unit {0}
AllSaid G (r ∷ rs) = IsSaid G r × AllSaid G rs

said_both : (G : Frame → Type 0) (rs qs : List Remark) → AllSaid G rs → AllSaid G qs → AllSaid G (rs ++ qs)
said_both G [] qs p q = q
said_both G (r ∷ rs) qs p q = (p.0, said_both G rs qs p.1 q)

said_numbered : (G : Frame → Type 0) (i k : ℕ) (fs : List Frame) → Each (IsFrom i) fs → (is_proxy i ≡ false → Each (IsTold G) fs) → AllSaid G (numbered k fs)
said_numbered G i k [] own asked = tt
said_numbered G i k (f ∷ fs) own asked =
    ((λ one. (asked (sym (ap is_proxy own.0) ∙ one)).0), said_numbered G i (k + 1) fs own.1 (λ one. (asked one).1))

said_none : (G : Frame → Type 0) (rs : List Remark) → NoneSent rs → AllSaid G rs
said_none G [] h = tt
said_none G (Sent k f ∷ rs) h = absurd h
said_none G (Did n at choice ∷ rs) h = (tt, said_none G rs h)
said_none G (Flush f ∷ rs) h = (tt, said_none G rs h)
said_none G (Verf v ∷ rs) h = (tt, said_none G rs h)
said_none G (Replied n e bytes ∷ rs) h = (tt, said_none G rs h)
said_none G (Junk n ∷ rs) h = (tt, said_none G rs h)
said_none G (Early n ∷ rs) h = (tt, said_none G rs h)
said_none G (Full n ∷ rs) h = (tt, said_none G rs h)
said_none G (Lost n ∷ rs) h = (tt, said_none G rs h)
said_none G (Down a ∷ rs) h = (tt, said_none G rs h)

-- ---- a step

record Going (G : Frame → Type 0) (i : ℕ) (todo : List Task) (w : World) (n : Told) : Type 0 where
  own : HoldOwn w.actors
  know : AllKnow G w.actors
  tasks : is_proxy i ≡ false → EachTask (IsOfGiven G i) todo
  said : AllSaid G n.frames

pub record Went (G : Frame → Type 0) (w : World) (n : Told) : Type 0 where
  pub own : HoldOwn w.actors
  pub know : AllKnow G w.actors
  pub said : AllSaid G n.frames

went_at : (G : Frame → Type 0) (v : World) (m : Told) (w : World) (n : Told) → Went G v m → w.actors ≡ v.actors → n.frames ≡ m.frames → Went G w n
went_at G v m w n p e d = record {
  own = subst HoldOwn (sym e) p.own;
  know = subst (AllKnow G) (sym e) p.know;
  said = subst (AllSaid G) (sym d) p.said;
}

went_down : (G : Frame → Type 0) (i : ℕ) (a : Actor) (v : World) (m : Told) (w : World) (n : Told) → a.memory ≡ None → Went G v m → w ≡ with_actor v i a → n.frames ≡ m.frames → Went G w n
went_down G i a v m w n down p e d = record {
  own = subst (λ (z : World). HoldOwn z.actors) (sym e) (hold_put v.actors i a p.own (subst (KeptBy (IsFrom i)) (sym down) tt));
  know = subst (λ (z : World). AllKnow G z.actors) (sym e) (know_put G v.actors i a p.know (λ one. subst (KnowsBy G i) (sym down) tt));
  said = subst (AllSaid G) (sym d) p.said;
}

going_went : (G : Frame → Type 0) (i : ℕ) (todo : List Task) (w : World) (n : Told) → Going G i todo w n → Went G w n
going_went G i todo w n p = record { own = p.own; know = p.know; said = p.said }

goes_on : (G : Frame → Type 0) (shape : (f : Frame) → G f → IsOfItsSender f) (i : ℕ) (t : Task) (todo : List Task) (w : World) (n : Told) (a : Actor) (s : Segment)
    → Going G i (t ∷ todo) w n → get w.actors i ≡ Some a → May (scene w i) a t s → Going G i (s.todo ++ todo) (played w i a s) (told w s n)
goes_on G shape i t todo w n a s p is may = record {
  own = hold_put w.actors i (after_segment a s) p.own right.memory;
  know = know_put G w.actors i (after_segment a s) p.know (λ one. (so one).memory);
  tasks = λ one. tasks_both (IsOfGiven G i) s.todo todo (so one).todo (p.tasks one).1;
  said = said_both G n.frames (numbered w.next_frame s.frames) p.said (said_numbered G i w.next_frame s.frames right.frames (λ one. (so one).frames));
}
  where
    right : Proper (IsFrom i) s
    right = proper (IsFrom i) (scene w i) a t s (λ f e. e) (subst (OwnBy i) is (p.own i)) may

    so : is_proxy i ≡ false → Says G i s
    so one = says G shape (scene w i) a t s one (subst (KnowsIf G i) is (p.know i) one) (p.tasks one).0 may

ends_so : (G : Frame → Type 0) (i : ℕ) (todo : List Task) (v : World) (m : Told) (w' : World) (n' : Told) → Going G i todo v m → Ends i todo v m w' n' → Went G w' n'
ends_so G i todo v m w' n' p (Whole none e d) = went_at G v m w' n' (going_went G i todo v m p) (ap (λ (z : World). z.actors) e) (ap (λ (z : Told). z.frames) d)
ends_so G i todo v m w' n' p (Faulted cut) =
    went_down G i (cut_actor cut.actor cut.cut) v m w' n' refl (going_went G i todo v m p) cut.world (ap (λ (z : Told). z.frames) cut.noted)
ends_so G i todo v m w' n' p (IsSpent spent) =
    went_down G i (stopped_actor spent.actor) v m w' n' refl (going_went G i todo v m p) spent.world (ap (λ (z : Told). z.frames) spent.noted)

steps_so : (G : Frame → Type 0) (shape : (f : Frame) → G f → IsOfItsSender f) (i : ℕ) (todo : List Task) (w : World) (n : Told) (w' : World) (n' : Told) → (is_proxy i ≡ false → EachTask (IsOfGiven G i) todo) → Went G w n
    → Steps i todo w n w' n' → Went G w' n'
steps_so G shape i todo w n w' n' tasks p steps =
    steps_keep i (Going G i) (Went G) (goes_on G shape i) (ends_so G i) todo w n w' n' (record { own = p.own; know = p.know; tasks = tasks; said = p.said }) steps

-- ---- openings

begins_so : (G : Frame → Type 0) (shape : (f : Frame) → G f → IsOfItsSender f) (i : ℕ) (w : World) (n : Told) (w' : World) (n' : Told) → Went G w n → Begins i w n w' n' → Went G w' n'
begins_so G shape i w n w' n' p begins =
    steps_so G shape i (Opening ∷ []) (record w { actors = insert w.actors i (opened_actor begins.actor begins.records); done_in = done_after (settled (noted_of w i) begins.records) w.event w.done_in })
    (record n { notes = n.notes ++ settled (noted_of w i) begins.records }) w' n' (λ one. (tt, tt))
    (record { own = hold_put w.actors i (opened_actor begins.actor begins.records) p.own tt; know = know_put G w.actors i (opened_actor begins.actor begins.records) p.know (λ one. tt); said = p.said })
    begins.steps

starts_so : (G : Frame → Type 0) (shape : (f : Frame) → G f → IsOfItsSender f) (i : ℕ) (w : World) (n : Told) (w' : World) (n' : Told) → Went G w n → Starts i w n w' n' → Went G w' n'
starts_so G shape i w n w' n' p (inl begins) = begins_so G shape i w n w' n' p begins
starts_so G shape i w n w' n' p (inr fails) = went_at G w n w' n' p (ap (λ (z : World). z.actors) fails.world) (ap (λ (z : Told). z.frames) fails.noted)

silent_so : (G : Frame → Type 0) (v : World) (m : Told) (w' : World) (n' : Told) → Went G v m → Silent v m w' n' → Went G w' n'
silent_so G v m w' n' p silent = went_at G v m w' n' p (ap (λ (z : World). z.actors) silent.0) (ap (λ (z : Told). z.frames) silent.1)

each_starts : (G : Frame → Type 0) (shape : (f : Frame) → G f → IsOfItsSender f) (is : List ℕ) (w : World) (n : Told) (w' : World) (n' : Told) → Went G w n → StartsEach is w n w' n' → Went G w' n'
each_starts G shape [] w n w' n' p starts = silent_so G w n w' n' p starts
each_starts G shape (i ∷ is) w n w' n' p starts = each_starts G shape is starts.0 starts.1 w' n' (starts_so G shape i w n starts.0 starts.1 p starts.2) starts.3

-- ---- an event

if_up_so : (G : Frame → Type 0) (shape : (f : Frame) → G f → IsOfItsSender f) (i : ℕ) (t : Task) (w : World) (n : Told) (w' : World) (n' : Told) → (is_up (get w.actors i) ≡ true → IsOfGiven G i t) → Went G w n
    → IfUp i (t ∷ []) w n w' n' → Went G w' n'
if_up_so G shape i t w n w' n' given p (inl up) = steps_so G shape i (t ∷ []) w n w' n' (λ one. (given up.0, tt)) p up.1
if_up_so G shape i t w n w' n' given p (inr down) = silent_so G w n w' n' p down.1

if_down_so : (G : Frame → Type 0) (shape : (f : Frame) → G f → IsOfItsSender f) (i : ℕ) (w : World) (n : Told) (w' : World) (n' : Told) → Went G w n → IfDown i w n w' n' → Went G w' n'
if_down_so G shape i w n w' n' p (inl down) = starts_so G shape i w n w' n' p down.1
if_down_so G shape i w n w' n' p (inr up) = silent_so G w n w' n' p up.1

-- a frame that is given to an actor that is up
abbrev Hands : Event → World → (Frame → Type 0) → Type 0
Hands (event.Give k) w G = (x : InFlight w k) → is_up (get w.actors x.flying.frame.to) ≡ true → G x.flying.frame
Hands (event.Copy k) w G = (x : InFlight w k) → is_up (get w.actors x.flying.frame.to) ≡ true → G x.flying.frame
Hands other w G = Unit {0}

abbrev AtFirst : (Frame → Type 0) → World → Type 0
AtFirst G w = Went G w nothing

lost_so : (G : Frame → Type 0) (w w' : World) (n' : Told) → AtFirst G w → w' ≡ w → n'.frames ≡ [] → Went G w' n'
lost_so G w w' n' p e d = went_at G w nothing w' n' p (ap (λ (z : World). z.actors) e) d

follows_so : (G : Frame → Type 0) (shape : (f : Frame) → G f → IsOfItsSender f) (e : Event) (w : World) (w' : World) (n' : Told) → Hands e w G → AtFirst G w → Follows e w w' n' → Went G w' n'
follows_so G shape (event.Call client bytes) w w' n' hands p (inl reached) = steps_so G shape 0 (Arrives w.event client bytes ∷ []) w nothing w' n' (λ one. (tt, tt)) p reached.steps
follows_so G shape (event.Call client bytes) w w' n' hands p (inr lost) = lost_so G w w' n' p lost.world (ap (λ (z : Told). z.frames) lost.noted)
follows_so G shape (event.Give k) w w' n' hands p (x, given) =
    if_up_so G shape x.flying.frame.to (Given x.flying.frame x.flying.event) (landed w k) nothing w' n' (λ up. (hands x up, refl)) (record { own = p.own; know = p.know; said = p.said }) given
follows_so G shape (event.Copy k) w w' n' hands p (x, given) =
    if_up_so G shape x.flying.frame.to (Given x.flying.frame x.flying.event) w nothing w' n' (λ up. (hands x up, refl)) p given
follows_so G shape (event.Drop k) w w' n' hands p follows = went_at G w nothing w' n' p (ap (λ (z : World). z.actors) follows.1.0) (ap (λ (z : Told). z.frames) follows.1.1)
follows_so G shape event.Tick w w' n' hands p both =
    if_up_so G shape 1 Ticks both.middle both.so_far w' n' (λ up. tt) (if_up_so G shape 0 Ticks w nothing both.middle both.so_far (λ up. tt) p both.proxy) both.coordinator
follows_so G shape (event.Stop i image) w w' n' hands p stops = went_down G i (stopped_actor stops.actor) w nothing w' n' refl p stops.world (ap (λ (z : Told). z.frames) stops.noted)
follows_so G shape (event.Start i) w w' n' hands p follows = if_down_so G shape i w nothing w' n' p follows
follows_so G shape (event.Fuse i after image) w w' n' hands p silent = silent_so G w nothing w' n' p silent
follows_so G shape (event.Fail i after) w w' n' hands p silent = silent_so G w nothing w' n' p silent

-- ---- a turn

abbrev HandsIn : Happening → World → (Frame → Type 0) → Type 0
HandsIn (Happens e) w G = Hands e (begun w) G
HandsIn other w G = Unit {0}

turn_so : (G : Frame → Type 0) (shape : (f : Frame) → G f → IsOfItsSender f) (x : Happening) (w : World) (w' : World) (n : Told) → HandsIn x w G → HoldOwn w.actors → AllKnow G w.actors → IsTurn x w w' n → Went G w' n
turn_so G shape (Opens setup) w w' n hands own know is = each_starts G shape (actors_of setup) w nothing w' n (record { own = own; know = know; said = tt }) is.1
turn_so G shape (Reaches moment) w w' n hands own know is =
    went_at G w nothing w' n (record { own = own; know = know; said = tt }) (ap (λ (z : World). z.actors) is.1) (ap (λ (z : Told). z.frames) is.2)
turn_so G shape (Happens e) w w' n hands own know is = follows_so G shape e (begun w) w' n hands (record { own = own; know = know; said = tt }) is

-- a frame of its sender was given
abbrev Heard : History → Frame → Type 0
Heard h f = WasGiven h f × IsOfItsSender f

right_either : (b : Bool) (f : Frame) (o : Option Frame) → IsOfItsSender f → IfThere IsOfItsSender o → IfThere IsOfItsSender (cond b (Some f) o)
right_either true f o p q = p
right_either false f o p q = q

right_or : (o p : Option Frame) → IfThere IsOfItsSender o → IfThere IsOfItsSender p → IfThere IsOfItsSender (history.or_else o p)
right_or None p h g = g
right_or (Some f) p h g = h

right_among : (rs : List Remark) (k : ℕ) → AllAskedRightly rs → IfThere IsOfItsSender (history.sent_among rs k)
right_among [] k h = tt
right_among (Sent n f ∷ rs) k h = right_either (n == k) f (history.sent_among rs k) h.0 (right_among rs k h.1)
right_among (Did n at choice ∷ rs) k h = right_among rs k h.1
right_among (Flush f ∷ rs) k h = right_among rs k h.1
right_among (Verf v ∷ rs) k h = right_among rs k h.1
right_among (Replied n e bytes ∷ rs) k h = right_among rs k h.1
right_among (Junk n ∷ rs) k h = right_among rs k h.1
right_among (Early n ∷ rs) k h = right_among rs k h.1
right_among (Full n ∷ rs) k h = right_among rs k h.1
right_among (Lost n ∷ rs) k h = right_among rs k h.1
right_among (Down a ∷ rs) k h = right_among rs k h.1

right_frame : (h : History) (k : ℕ) → OnlyTheProxyAsks h → IfThere IsOfItsSender (history.frame h k)
unfolding history.frame
right_frame [] k only = tt
right_frame (t ∷ past) k only = right_or (history.sent_among t.remarks k) (history.frame past k) (right_among t.remarks k only.1) (right_frame past k only.0)

-- what the turn gives was given
was_given : (past : History) (t : Turn) (w : World) (k : ℕ) (x : InFlight w k) → FliesAlike past w → AreUpAlike past w → given_number t.happening ≡ Some k
    → is_up (get w.actors x.flying.frame.to) ≡ true → WasGiven (t ∷ past) x.flying.frame
was_given past t w k x flies alike names up = inl (record {
  gives = ap (option_and_then (history.frame past)) names ∙ (flies.sent k x.flying x.is).0;
  up = alike x.flying.frame.to ∙ up;
})

hands_so : (past : History) (t : Turn) (w : World) (x : Happening) → t.happening ≡ x → FliesAlike past w → AreUpAlike past w → OnlyTheProxyAsks past → HandsIn x w (Heard (t ∷ past))
hands_so past t w (Opens setup) is flies alike only = tt
hands_so past t w (Reaches moment) is flies alike only = tt
hands_so past t w (Happens (event.Give k)) is flies alike only = λ x up. (
  was_given past t w k (record { flying = x.flying; is = x.is }) flies alike (ap given_number is) up,
  there IsOfItsSender (history.frame past k) (right_frame past k only) x.flying.frame (flies.sent k x.flying x.is).0,
)
hands_so past t w (Happens (event.Copy k)) is flies alike only = λ x up. (
  was_given past t w k (record { flying = x.flying; is = x.is }) flies alike (ap given_number is) up,
  there IsOfItsSender (history.frame past k) (right_frame past k only) x.flying.frame (flies.sent k x.flying x.is).0,
)
hands_so past t w (Happens other) is flies alike only = tt

-- ---- what was given before was given

module _ (t : Turn) (past : History) where
  still_given : (i : ℕ) (fs : List Frame) → Each (GivenTo (Heard past) i) fs → Each (GivenTo (Heard (t ∷ past)) i) fs
  still_given i [] h = tt
  still_given i (f ∷ fs) h = (((inr h.0.0.0, h.0.0.1), h.0.1), still_given i fs h.1)

  still_in : (i : ℕ) (m : Memory) → KnowsOf (Heard past) i m → KnowsOf (Heard (t ∷ past)) i m
  still_in i (OfStore m) k = record {
    kept = λ tag f e. let a = k.kept tag f e in record { asking = a.asking; given = (inr a.given.0, a.given.1); answers = a.answers };
    parked = still_given i m.site.parked k.parked;
  }
  still_in i (OfCoord m) k = record {
    kept = k.kept;
    owed = λ e. let o = k.owed e in record { hello = o.hello; given = ((inr o.given.0.0, o.given.0.1), o.given.1); kind = o.kind; fence_is = o.fence_is };
  }
  still_in i (OfSite s) k = record { kept = k.kept; parked = still_given i s.parked k.parked }
  still_in i other k = k

  still_by : (i : ℕ) (o : Option Memory) → KnowsBy (Heard past) i o → KnowsBy (Heard (t ∷ past)) i o
  still_by i None k = tt
  still_by i (Some m) k = still_in i m k

  still_if : (i : ℕ) (o : Option Actor) → KnowsIf (Heard past) i o → KnowsIf (Heard (t ∷ past)) i o
  still_if i None k = tt
  still_if i (Some a) k = λ one. still_by i a.memory (k one)

-- ---- runs

nothing_at_first : (setup : Setup) (w : World) → IsInitial setup w → AllKnow (Heard []) w.actors
nothing_at_first setup w is i = by (get w.actors i) refl
  where
    by : (o : Option Actor) → get w.actors i ≡ o → KnowsIf (Heard []) i o
    by None e = tt
    by (Some a) e = λ one. subst (KnowsBy (Heard []) i) (sym (is.actors i a e).0) tt

turn_went : (setup : Setup) (past : History) (w : World) (t : Turn) (w' : World) → Run setup past w → AllKnow (Heard past) w.actors → (turn : TurnRun w t w') → Went (Heard (t ∷ past)) w' turn.told
turn_went setup past w t w' run know turn =
    let before = runs_alike setup past w run in
    turn_so (Heard (t ∷ past)) (λ f g. g.1) t.happening w w' turn.told (hands_so past t w t.happening refl before.alike (up_alike setup past w run) (only_the_proxy_asks setup past w run)) before.own
    (λ i. still_if t past i (get w.actors i) (know i)) turn.is

all_know : (setup : Setup) (h : History) (w : World) → Run setup h w → AllKnow (Heard h) w.actors
all_know setup [] w is = nothing_at_first setup w is
all_know setup (t ∷ past) w' (w, run, first, turn) = (turn_went setup past w t w' run (all_know setup past w run) turn).know

-- ---- what was noted

given_so_far : (t : Turn) (before : List Remark) (past : History) (f : Frame) → WasGiven (t ∷ past) f → WasGiven (so_far t before ∷ past) f
given_so_far t before past f (inl now) = inl (record { gives = now.gives; up = now.up })
given_so_far t before past f (inr earlier) = inr earlier

-- an answer asks for nothing, so it isn't the proxy's
asks_nothing : (b : Body) → is_answer b ≡ true → asks b ≡ false
asks_nothing body.Welcome is = refl
asks_nothing (body.Packet packet) is = refl
asks_nothing (body.Found cells) is = refl
asks_nothing (body.Listed cells more) is = refl
asks_nothing (body.Minted fileid) is = refl
asks_nothing (body.Decided done) is = refl
asks_nothing body.Grant is = refl
asks_nothing body.Refuse is = refl
asks_nothing body.Ack is = refl
asks_nothing other is = absurd cc

answered : (t : Turn) (past : History) (before : List Remark) (r : Remark) → IsSaid (Heard (t ∷ past)) r → IsAskedRightly r → IsAnswered (so_far t before ∷ past) r
answered t past before (Sent k f) h right = λ is young.
    let a = h (sym right.kind ∙ asks_nothing f.body is) is young in record { asking = a.asking; given = given_so_far t before past a.asking a.given.0; answers = a.answers }
answered t past before other h right = tt

all_answered : (t : Turn) (past : History) (before rs : List Remark) → AllSaid (Heard (t ∷ past)) rs → AllAskedRightly rs → AllAnswered t past before rs
all_answered t past before [] h right = tt
all_answered t past before (r ∷ rs) h right = (answered t past before r h.0 right.0, all_answered t past (before ++ r ∷ []) rs h.1 right.1)

turn_answers : (setup : Setup) (past : History) (w : World) (t : Turn) (w' : World) → Run setup past w → TurnRun w t w' → AllAnswered t past [] t.remarks
turn_answers setup past w t w' run turn =
    all_answered t past [] t.remarks
    (subst (AllSaid (Heard (t ∷ past))) (sym turn.remarks)
    (said_both (Heard (t ∷ past)) turn.told.frames turn.told.notes (turn_went setup past w t w' run (all_know setup past w run) turn).said
    (said_none (Heard (t ∷ past)) turn.told.notes noted)))
    (turn_asks setup past w t w' run turn)
  where
    noted : NoneSent turn.told.notes
    noted =
        let x = happened Anything t.happening w turn.told w' (sends_anything t.happening w) (runs_alike setup past w run).own turn.is in
        subst NoneSent (sym x.noted) x.quiet

pub answers_answer : (setup : Setup) (h : History) (w : World) → Run setup h w → AnswersAnswer h
answers_answer setup [] w is = tt
answers_answer setup (t ∷ past) w' (w, run, first, turn) = (answers_answer setup past w run, turn_answers setup past w t w' run turn)
