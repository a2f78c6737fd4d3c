-- Over every run the proxy alone asks.
use Rattle.std.proofs.Common.{◌≡◌, ℕ, ◌+◌, ◌++◌, Bool, true, false, List, [], ◌∷◌, Option, Some, None, refl, sym, ap, subst, ◌∙◌, inl, inr, cond, arith}
use Rattle.std.proofs.lemmas.Bool.Decides.{nat_tests}
use Rattle.std.specs.Ordering.{nat_cmp, eq_by_cmp}
use Rattle.std.specs.Cmp.{nat_cmp_total}
use Rattle.std.specs.FinMap.{FinMap, get, insert, get-insert}
use Rattle.sl_defs.specs.Histories.{Happening, Opens, Reaches, Happens}
use Rattle.sl_defs.specs.declared.event.Event.{Event}
use Rattle.sl_defs.specs.declared.event.Event.TheVariants as event
use Rattle.sl_defs.specs.declared.setup.Setup.{Setup}
use Rattle.sl_frames.specs.Actors.{is_proxy, is_directory, is_data}
use Rattle.sl_frames.specs.declared.frame.Frame.{Frame}
use Rattle.sl_history.specs.Turns.{Remark, Sent, Did, Flush, Verf, Replied, Junk, Early, Full, Lost, Down, Turn, History}
use Rattle.sl_machine.specs.Memory.{Memory, Actor, OfProxy}
use Rattle.sl_machine.specs.World.{World, Scene, scene, Segment, Task, Given, Arrives, Ticks, Opening, Told, nothing, numbered, played, told, after_segment, with_actor, stopped_actor, cut_actor, begun, landed, done_after}
use Rattle.sl_machine.specs.Openings.{settled}
use Rattle.sl_machine.specs.Runs.{May, ByProxy, ByCoordinator, ByDirectory, ByStore, ByOpenedProxy, ByOpenedCoordinator, ByOpenedDirectory, ByOpenedStore, Ends, Whole, Faulted, IsSpent, Steps, Silent, IfUp, Starts, StartsEach, IfDown, opened_actor, noted_of, Follows, IsTurn, IsInitial, TurnRun, Run, actors_of}
use Rattle.sl_transport.specs.Kinds.{asks, IsOfItsSender, AllAskedRightly, OnlyTheProxyAsks}
use Rattle.sl_transport.proofs.Proper.{Each, Kept, KeptBy, Proper}
use Rattle.sl_transport.proofs.Kept.{kept_restored, kept_decided}
use Rattle.sl_transport.proofs.Coordinating.{coordinator_proper}
use Rattle.sl_transport.proofs.Directing.{directory_proper}
use Rattle.sl_transport.proofs.Storing.{store_proper, boots_proper}
use Rattle.sl_transport.proofs.Moving.{NoneSent}
use Rattle.sl_transport.proofs.Stepping.{same_key, steps_keep}
use Rattle.sl_transport.proofs.Turning.{happened}
use Rattle.sl_transport.proofs.Alike.{Anything, sends_anything, runs_alike}
use Rattle.sl_transport.proofs.Requesting.{AsksIn, Requests, proxy_so, opens_so}

true_false : true ≡ false → ⊥
true_false e = cc

-- ---- a segment

abbrev pub AsksIf : Option Memory → Type 0
AsksIf None = Unit {0}
AsksIf (Some m) = AsksIn m

record Says (i : ℕ) (s : Segment) : Type 0 where
  frames : Each IsOfItsSender s.frames
  asks : i ≡ 0 → AsksIn s.memory
  kept : Kept IsOfItsSender s.memory

kept_of : (m : Memory) → AsksIn m → Kept IsOfItsSender m
kept_of (OfProxy p) k = tt
kept_of other k = absurd k

by_proxy : (i : ℕ) (s : Segment) → Requests s → Says i s
by_proxy i s r = record { frames = r.frames; asks = λ e. r.memory; kept = kept_of s.memory r.memory }

by_other : (i : ℕ) (s : Segment) → is_proxy i ≡ false → Proper IsOfItsSender s → Says i s
by_other i s other p = record { frames = p.frames; asks = λ e. absurd (true_false (sym (ap is_proxy e) ∙ other)); kept = p.memory }

-- what another actor tells is of its sender
tells : (i : ℕ) → is_proxy i ≡ false → (f : Frame) → f.from ≡ i → asks f.body ≡ false → IsOfItsSender f
tells i other f from is = record {
  kind = is ∙ sym (ap is_proxy from ∙ other);
  operation = λ e. absurd (true_false (sym e ∙ ap is_proxy from ∙ other));
  tag = λ e. absurd (true_false (sym (ap asks e) ∙ is));
}

directory_other : (a : ℕ) → is_directory a ≡ true → is_proxy a ≡ false
directory_other a is = grind (arith, nat_tests)

data_other : (a : ℕ) → is_data a ≡ true → is_proxy a ≡ false
data_other a is = grind (arith, nat_tests)

coordinator_other : (a : ℕ) → a ≡ 1 → is_proxy a ≡ false
coordinator_other a is = ap is_proxy is

says : (x : Scene) (a : Actor) (t : Task) (s : Segment) → (x.actor ≡ 0 → AsksIf a.memory) → KeptBy IsOfItsSender a.memory → May x a t s → Says x.actor s
says x a t s h kept (ByProxy p i up row) = by_proxy x.actor s (proxy_so x p t s (subst AsksIf up (h i)) row)
says x a t s h kept (ByCoordinator m i up row) = by_other x.actor s (coordinator_other x.actor i)
    (coordinator_proper IsOfItsSender (tells 1 refl) x a m t s (subst (KeptBy IsOfItsSender) up kept) row)
says x a t s h kept (ByDirectory m i up row) = by_other x.actor s (directory_other x.actor i)
    (directory_proper IsOfItsSender x (tells x.actor (directory_other x.actor i)) a m t s (subst (KeptBy IsOfItsSender) up kept) row)
says x a t s h kept (ByStore m i up row) = by_other x.actor s (data_other x.actor i)
    (store_proper IsOfItsSender x (tells x.actor (data_other x.actor i)) a m t s (subst (KeptBy IsOfItsSender) up kept) row)
says x a t s h kept (ByOpenedProxy i down is row) = by_proxy x.actor s (opens_so a s row)
says x a t s h kept (ByOpenedCoordinator i down is row) = by_other x.actor s (coordinator_other x.actor i)
    (subst (Proper IsOfItsSender) (sym row.does) (record { notes = tt; frames = tt; memory = kept_decided IsOfItsSender a.records row.coord (tells 1 refl) row.restored }))
says x a t s h kept (ByOpenedDirectory i down is row) = by_other x.actor s (directory_other x.actor i)
    (subst (Proper IsOfItsSender) (sym row.does)
    (record { notes = tt; frames = tt; memory = kept_restored IsOfItsSender x.actor a.records row.site (tells x.actor (directory_other x.actor i)) row.restored }))
says x a t s h kept (ByOpenedStore i down is row) = by_other x.actor s (data_other x.actor i) (boots_proper IsOfItsSender x (tells x.actor (data_other x.actor i)) a s row)

-- ---- what all actors hold, and what was told

abbrev pub HoldsIf : ℕ → Option Actor → Type 0
HoldsIf i None = Unit {0}
HoldsIf i (Some a) = (i ≡ 0 → AsksIf a.memory) × KeptBy IsOfItsSender a.memory

abbrev pub AllHold : FinMap nat_cmp Actor → Type 0
AllHold actors = (i : ℕ) → HoldsIf i (get actors i)

hold_put : (actors : FinMap nat_cmp Actor) (i : ℕ) (a : Actor) → AllHold actors → HoldsIf i (Some a) → AllHold (insert actors i a)
hold_put actors i a all k j = subst (HoldsIf j) (sym (get-insert nat_cmp_total actors i a j)) (by (eq_by_cmp nat_cmp j i) refl)
  where
    by : (b : Bool) → eq_by_cmp nat_cmp j i ≡ b → HoldsIf j (cond b (Some a) (get actors j))
    by true e = subst (λ k. HoldsIf k (Some a)) (sym (same_key j i e)) k
    by false e = all j

hold_down : (i : ℕ) (a : Actor) → a.memory ≡ None → HoldsIf i (Some a)
hold_down i a down = ((λ e. subst AsksIf (sym down) tt), subst (KeptBy IsOfItsSender) (sym down) tt)

rightly_both : (rs qs : List Remark) → AllAskedRightly rs → AllAskedRightly qs → AllAskedRightly (rs ++ qs)
rightly_both [] qs p q = q
rightly_both (r ∷ rs) qs p q = (p.0, rightly_both rs qs p.1 q)

rightly_numbered : (k : ℕ) (fs : List Frame) → Each IsOfItsSender fs → AllAskedRightly (numbered k fs)
rightly_numbered k [] h = tt
rightly_numbered k (f ∷ fs) h = (h.0, rightly_numbered (k + 1) fs h.1)

rightly_none : (rs : List Remark) → NoneSent rs → AllAskedRightly rs
rightly_none [] h = tt
rightly_none (Sent k f ∷ rs) h = absurd h
rightly_none (Did n at choice ∷ rs) h = (tt, rightly_none rs h)
rightly_none (Flush f ∷ rs) h = (tt, rightly_none rs h)
rightly_none (Verf v ∷ rs) h = (tt, rightly_none rs h)
rightly_none (Replied n e bytes ∷ rs) h = (tt, rightly_none rs h)
rightly_none (Junk n ∷ rs) h = (tt, rightly_none rs h)
rightly_none (Early n ∷ rs) h = (tt, rightly_none rs h)
rightly_none (Full n ∷ rs) h = (tt, rightly_none rs h)
rightly_none (Lost n ∷ rs) h = (tt, rightly_none rs h)
rightly_none (Down a ∷ rs) h = (tt, rightly_none rs h)

-- ---- a step

pub record Went (w : World) (n : Told) : Type 0 where
  pub hold : AllHold w.actors
  pub said : AllAskedRightly n.frames

went_at : (v : World) (m : Told) (w : World) (n : Told) → Went v m → w.actors ≡ v.actors → n.frames ≡ m.frames → Went w n
went_at v m w n p e d = record { hold = subst AllHold (sym e) p.hold; said = subst AllAskedRightly (sym d) p.said }

went_down : (i : ℕ) (a : Actor) (v : World) (m : Told) (w : World) (n : Told) → a.memory ≡ None → Went v m → w ≡ with_actor v i a → n.frames ≡ m.frames → Went w n
went_down i a v m w n down p e d = record {
  hold = subst (λ (z : World). AllHold z.actors) (sym e) (hold_put v.actors i a p.hold (hold_down i a down));
  said = subst AllAskedRightly (sym d) p.said;
}

goes_on : (i : ℕ) (t : Task) (todo : List Task) (w : World) (n : Told) (a : Actor) (s : Segment)
    → Went w n → get w.actors i ≡ Some a → May (scene w i) a t s → Went (played w i a s) (told w s n)
goes_on i t todo w n a s p is may = record {
  hold = hold_put w.actors i (after_segment a s) p.hold (so.asks, so.kept);
  said = rightly_both n.frames (numbered w.next_frame s.frames) p.said (rightly_numbered w.next_frame s.frames so.frames);
}
  where
    own : HoldsIf i (Some a)
    own = subst (HoldsIf i) is (p.hold i)

    so : Says i s
    so = says (scene w i) a t s own.0 own.1 may

ends_so : (i : ℕ) (todo : List Task) (v : World) (m : Told) (w' : World) (n' : Told) → Went v m → Ends i todo v m w' n' → Went w' n'
ends_so i todo v m w' n' p (Whole none e d) = went_at v m w' n' p (ap (λ (z : World). z.actors) e) (ap (λ (z : Told). z.frames) d)
ends_so i todo v m w' n' p (Faulted cut) = went_down i (cut_actor cut.actor cut.cut) v m w' n' refl p cut.world (ap (λ (z : Told). z.frames) cut.noted)
ends_so i todo v m w' n' p (IsSpent spent) = went_down i (stopped_actor spent.actor) v m w' n' refl p spent.world (ap (λ (z : Told). z.frames) spent.noted)

steps_so : (i : ℕ) (todo : List Task) (w : World) (n : Told) (w' : World) (n' : Told) → Went w n → Steps i todo w n w' n' → Went w' n'
steps_so i todo w n w' n' p steps = steps_keep i (λ todo. Went) Went (goes_on i) (ends_so i) todo w n w' n' p steps

-- ---- openings

starts_so : (i : ℕ) (w : World) (n : Told) (w' : World) (n' : Told) → Went w n → Starts i w n w' n' → Went w' n'
starts_so i w n w' n' p (inl begins) =
    steps_so i (Opening ∷ []) (record w { actors = insert w.actors i (opened_actor begins.actor begins.records); done_in = done_after (settled (noted_of w i) begins.records) w.event w.done_in })
    (record n { notes = n.notes ++ settled (noted_of w i) begins.records }) w' n'
    (record { hold = hold_put w.actors i (opened_actor begins.actor begins.records) p.hold ((λ e. tt), tt); said = p.said }) begins.steps
starts_so i w n w' n' p (inr fails) = went_at w n w' n' p (ap (λ (z : World). z.actors) fails.world) (ap (λ (z : Told). z.frames) fails.noted)

silent_so : (v : World) (m : Told) (w' : World) (n' : Told) → Went v m → Silent v m w' n' → Went w' n'
silent_so v m w' n' p silent = went_at v m w' n' p (ap (λ (z : World). z.actors) silent.0) (ap (λ (z : Told). z.frames) silent.1)

each_starts : (is : List ℕ) (w : World) (n : Told) (w' : World) (n' : Told) → Went w n → StartsEach is w n w' n' → Went w' n'
each_starts [] w n w' n' p starts = silent_so w n w' n' p starts
each_starts (i ∷ is) w n w' n' p starts = each_starts is starts.0 starts.1 w' n' (starts_so i w n starts.0 starts.1 p starts.2) starts.3

-- ---- an event

if_up_so : (i : ℕ) (todo : List Task) (w : World) (n : Told) (w' : World) (n' : Told) → Went w n → IfUp i todo w n w' n' → Went w' n'
if_up_so i todo w n w' n' p (inl up) = steps_so i todo w n w' n' p up.1
if_up_so i todo w n w' n' p (inr down) = silent_so w n w' n' p down.1

if_down_so : (i : ℕ) (w : World) (n : Told) (w' : World) (n' : Told) → Went w n → IfDown i w n w' n' → Went w' n'
if_down_so i w n w' n' p (inl down) = starts_so i w n w' n' p down.1
if_down_so i w n w' n' p (inr up) = silent_so w n w' n' p up.1

follows_so : (e : Event) (w : World) (w' : World) (n' : Told) → Went w nothing → Follows e w w' n' → Went w' n'
follows_so (event.Call client bytes) w w' n' p (inl reached) = steps_so 0 (Arrives w.event client bytes ∷ []) w nothing w' n' p reached.steps
follows_so (event.Call client bytes) w w' n' p (inr lost) = went_at w nothing w' n' p (ap (λ (z : World). z.actors) lost.world) (ap (λ (z : Told). z.frames) lost.noted)
follows_so (event.Give k) w w' n' p (x, given) =
    if_up_so x.flying.frame.to (Given x.flying.frame x.flying.event ∷ []) (landed w k) nothing w' n' (record { hold = p.hold; said = p.said }) given
follows_so (event.Copy k) w w' n' p (x, given) = if_up_so x.flying.frame.to (Given x.flying.frame x.flying.event ∷ []) w nothing w' n' p given
follows_so (event.Drop k) w w' n' p follows = went_at w nothing w' n' p (ap (λ (z : World). z.actors) follows.1.0) (ap (λ (z : Told). z.frames) follows.1.1)
follows_so event.Tick w w' n' p both =
    if_up_so 1 (Ticks ∷ []) both.middle both.so_far w' n' (if_up_so 0 (Ticks ∷ []) w nothing both.middle both.so_far p both.proxy) both.coordinator
follows_so (event.Stop i image) w w' n' p stops = went_down i (stopped_actor stops.actor) w nothing w' n' refl p stops.world (ap (λ (z : Told). z.frames) stops.noted)
follows_so (event.Start i) w w' n' p follows = if_down_so i w nothing w' n' p follows
follows_so (event.Fuse i after image) w w' n' p silent = silent_so w nothing w' n' p silent
follows_so (event.Fail i after) w w' n' p silent = silent_so w nothing w' n' p silent

-- ---- turns and runs

turn_so : (x : Happening) (w : World) (w' : World) (n : Told) → AllHold w.actors → IsTurn x w w' n → Went w' n
turn_so (Opens setup) w w' n hold is = each_starts (actors_of setup) w nothing w' n (record { hold = hold; said = tt }) is.1
turn_so (Reaches moment) w w' n hold is = went_at w nothing w' n (record { hold = hold; said = tt }) (ap (λ (z : World). z.actors) is.1) (ap (λ (z : Told). z.frames) is.2)
turn_so (Happens e) w w' n hold is = follows_so e (begun w) w' n (record { hold = hold; said = tt }) is

nothing_at_first : (setup : Setup) (w : World) → IsInitial setup w → AllHold w.actors
nothing_at_first setup w is i = by (get w.actors i) refl
  where
    by : (o : Option Actor) → get w.actors i ≡ o → HoldsIf i o
    by None e = tt
    by (Some a) e = hold_down i a (is.actors i a e).0

all_hold : (setup : Setup) (h : History) (w : World) → Run setup h w → AllHold w.actors
all_hold setup [] w is = nothing_at_first setup w is
all_hold setup (t ∷ past) w' (w, run, first, turn) = (turn_so t.happening w w' turn.told (all_hold setup past w run) turn.is).hold

pub turn_asks : (setup : Setup) (past : History) (w : World) (t : Turn) (w' : World) → Run setup past w → TurnRun w t w' → AllAskedRightly t.remarks
turn_asks setup past w t w' run turn =
    subst AllAskedRightly (sym turn.remarks)
    (rightly_both turn.told.frames turn.told.notes (turn_so t.happening w w' turn.told (all_hold setup past w run) turn.is).said (rightly_none turn.told.notes noted))
  where
    noted : NoneSent turn.told.notes
    noted =
        let x = happened Anything t.happening w turn.told w' (sends_anything t.happening w) (runs_alike setup past w run).own turn.is in
        subst NoneSent (sym x.noted) x.quiet

pub only_the_proxy_asks : (setup : Setup) (h : History) (w : World) → Run setup h w → OnlyTheProxyAsks h
only_the_proxy_asks setup [] w is = tt
only_the_proxy_asks setup (t ∷ past) w' (w, run, first, turn) = (only_the_proxy_asks setup past w run, turn_asks setup past w t w' run turn)
