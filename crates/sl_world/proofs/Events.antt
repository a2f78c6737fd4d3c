-- An event of the ensemble is an event of the machine.
use Rattle.std.proofs.Common.{◌≡◌, ℕ, ◌+◌, true, false, List, [], ◌∷◌, ◌++◌, length, Some, Ok, refl, sym, ap, subst, ◌∙◌, inl, option_map, not, T}
use Rattle.std.specs.Ordering.{nat_cmp, eq_by_cmp}
use Rattle.std.specs.FinMap.{FinMap, get, insert, remove}
use Rattle.sl_defs.specs.declared.event.Event.{Event}
use Rattle.sl_defs.specs.declared.event.Event.TheVariants as event
use Rattle.sl_frames.specs.declared.frame.Frame.{Frame}
use Rattle.sl_history.specs.Turns.{Remark, History}
use Rattle.sl_machine.specs.Records.{Record}
use Rattle.sl_machine.specs.Memory.{Memory, Actor, OfProxy, OfCoord, OfSite}
use Rattle.sl_machine.specs.World as machine
use Rattle.sl_machine.specs.World.{Task, Given, Arrives, Scene, scene, nothing, numbered, launched}
use Rattle.sl_machine.specs.Runs.{Steps, Whole, is_up, has_memory, TurnRun, is_first}
use Rattle.sl_getattr.specs.Built.{NewRun}
use Rattle.sl_world.specs.declared.flight.Flying.{Flying}
use Rattle.sl_world.specs.declared.world.World.{World}
use Rattle.sl_world.specs.declared.proxy.Proxy.{Proxy}
use Rattle.sl_world.specs.declared.coordinator.Coordinator.{Coordinator}
use Rattle.sl_world.specs.declared.directory.Directory.{Directory}
use Rattle.sl_world.specs.declared.step.Step.{Step}
use Rattle.sl_frames.specs.Actors.{is_directory}
use Rattle.sl_world.specs.Acting.{IsStep, notes_of, world_after, told_after}
use Rattle.sl_world.specs.Sites.{site_of}
use Rattle.sl_world.specs.Coordinating.{held, NoOperation, GivesStep}
use Rattle.sl_world.specs.Serving.{HasRoot, MayAnswer, GivesAnswer}
use Rattle.sl_world.specs.Proxying.{mapped, proxy_of, MayStep, Unchanged, GivesArrival, GivesUse}
use Rattle.sl_world.specs.Worlds.{flying_of, IsUp, Any, Stands, Follows, Does, Hands, GoesOn, IsPlayed, turn, begun, landed, sent, sending, remarks}
use Rattle.sl_world.proofs.Mapping.{get_so, insert_so, remove_so}
use Rattle.sl_world.proofs.Playing.{steps_are_played}
use Rattle.sl_world.proofs.Turning.{is_played, is_told}

-- ---- a step in the world

pub does : (w : machine.World) (i : ℕ) (a : Actor) (t : Task) (frames : List Frame) (notes : List Remark) (m : Memory) (Keeps : List Record → Type 0) → get w.actors i ≡ Some a
    → IsStep (scene w i) a t frames notes m Keeps → Does w i t frames notes m Keeps
does w i a t frames notes m Keeps is step = record {
  world = world_after w i a step.segments;
  after = step.after;
  steps = record {
    segments = step.segments;
    left = [];
    middle = world_after w i a step.segments;
    so_far = told_after w i a step.segments nothing;
    plays = steps_are_played w i a step.after (t ∷ []) step.segments nothing is step.acts;
    ends = Whole refl refl (sym (is_told w i a step.segments nothing ∙ ap (λ fs. record { frames = numbered w.next_frame fs; notes = notes_of step.segments }) step.sends
        ∙ ap (λ rs. record { frames = numbered w.next_frame frames; notes = rs }) step.remarks));
  };
  played = subst (λ fs. IsPlayed w i step.after fs (world_after w i a step.segments)) step.sends (is_played w i a step.after (t ∷ []) step.segments is step.acts);
  memory = step.memory;
  keeps = step.keeps;
}

-- ---- what this world stands for then

pub begins : (v : World) (w : machine.World) → Stands v w → Stands (begun v) (machine.begun w)
begins v w s = record {
  first = s.first;
  setup = s.setup;
  proxy = record { actor = s.proxy.actor; is = s.proxy.is; memory = s.proxy.memory; keeps = s.proxy.keeps };
  coordinator = record { actor = s.coordinator.actor; is = s.coordinator.is; memory = s.coordinator.memory; keeps = s.coordinator.keeps };
  directory = record { actor = s.directory.actor; is = s.directory.is; memory = s.directory.memory; keeps = s.directory.keeps };
  flight = s.flight;
  next_frame = s.next_frame;
  event = ap (λ n. n + 1) s.event;
  moment = s.moment;
}

pub lands : (v : World) (w : machine.World) (k : ℕ) → Stands v w → Stands (landed v k) (machine.landed w k)
lands v w k s = record {
  first = s.first;
  setup = s.setup;
  proxy = record { actor = s.proxy.actor; is = s.proxy.is; memory = s.proxy.memory; keeps = s.proxy.keeps };
  coordinator = record { actor = s.coordinator.actor; is = s.coordinator.is; memory = s.coordinator.memory; keeps = s.coordinator.keeps };
  directory = record { actor = s.directory.actor; is = s.directory.is; memory = s.directory.memory; keeps = s.directory.keeps };
  flight = ap (λ m. remove m k) s.flight ∙ sym (remove_so flying_of v.flight k);
  next_frame = s.next_frame;
  event = s.event;
  moment = s.moment;
}

sent_so : (m : FinMap nat_cmp Flying) (n e : ℕ) (fs : List Frame) → mapped flying_of (sent m n e fs) ≡ launched (mapped flying_of m) n e fs
sent_so m n e [] = refl
sent_so m n e (f ∷ fs) = sent_so (insert m n (record { frame = f; event = e })) (n + 1) e fs
    ∙ ap (λ z. launched z (n + 1) e fs) (insert_so flying_of m n (record { frame = f; event = e }))

still_up : (w w' : machine.World) (i j : ℕ) (after : Actor) (frames : List Frame) (m : Memory) (Keeps : List Record → Type 0) → IsPlayed w i after frames w'
    → eq_by_cmp nat_cmp j i ≡ false → IsUp w j m Keeps → IsUp w' j m Keeps
still_up w w' i j after frames m Keeps played apart up = record { actor = up.actor; is = played.others j apart ∙ up.is; memory = up.memory; keeps = up.keeps }

now_up : (w : machine.World) (i : ℕ) (t : Task) (frames : List Frame) (notes : List Remark) (m : Memory) (Keeps : List Record → Type 0) (d : Does w i t frames notes m Keeps)
    → IsUp d.world i m Keeps
now_up w i t frames notes m Keeps d = record { actor = d.after; is = d.played.here; memory = d.memory; keeps = d.keeps }

flight_then : (v : World) (w w' : machine.World) (i : ℕ) (after : Actor) (frames : List Frame) → Stands v w → IsPlayed w i after frames w'
    → w'.flight ≡ mapped flying_of (sending frames v).flight
flight_then v w w' i after frames s played =
    played.flight ∙ ap (λ m. launched m w.next_frame w.event frames) s.flight ∙ ap (λ n. launched (mapped flying_of v.flight) n w.event frames) s.next_frame
    ∙ ap (λ e. launched (mapped flying_of v.flight) v.next_frame e frames) s.event ∙ sym (sent_so v.flight v.next_frame v.event frames)

next_then : (v : World) (w w' : machine.World) (i : ℕ) (after : Actor) (frames : List Frame) → Stands v w → IsPlayed w i after frames w' → w'.next_frame ≡ (sending frames v).next_frame
next_then v w w' i after frames s played = played.next_frame ∙ ap (λ n. n + length frames) s.next_frame

-- the proxy did a step
pub proxy_then : (v : World) (w : machine.World) (t : Task) (frames : List Frame) (notes : List Remark) (p : Proxy) → Stands v w → p.setup ≡ v.proxy.setup
    → (d : Does w 0 t frames notes (OfProxy (proxy_of p)) Any) → Stands (sending frames (record v { proxy = p })) d.world
proxy_then v w t frames notes p s same d = record {
  first = s.first;
  setup = d.played.setup ∙ s.setup ∙ sym same;
  proxy = now_up w 0 t frames notes (OfProxy (proxy_of p)) Any d;
  coordinator = still_up w d.world 0 1 d.after frames (OfCoord (held v.coordinator)) NoOperation d.played refl s.coordinator;
  directory = still_up w d.world 0 v.directory.actor d.after frames (OfSite (site_of v.directory.site)) (HasRoot v.directory.volume) d.played
      (ap (λ i. eq_by_cmp nat_cmp i 0) s.first) s.directory;
  flight = flight_then v w d.world 0 d.after frames s d.played;
  next_frame = next_then v w d.world 0 d.after frames s d.played;
  event = d.played.event ∙ s.event;
  moment = d.played.moment ∙ s.moment;
}

-- the coordinator did a step
pub coordinator_then : (v : World) (w : machine.World) (t : Task) (frames : List Frame) (notes : List Remark) (c : Coordinator) → Stands v w
    → (d : Does w 1 t frames notes (OfCoord (held c)) NoOperation) → Stands (sending frames (record v { coordinator = c })) d.world
coordinator_then v w t frames notes c s d = record {
  first = s.first;
  setup = d.played.setup ∙ s.setup;
  proxy = still_up w d.world 1 0 d.after frames (OfProxy (proxy_of v.proxy)) Any d.played refl s.proxy;
  coordinator = now_up w 1 t frames notes (OfCoord (held c)) NoOperation d;
  directory = still_up w d.world 1 v.directory.actor d.after frames (OfSite (site_of v.directory.site)) (HasRoot v.directory.volume) d.played
      (ap (λ i. eq_by_cmp nat_cmp i 1) s.first) s.directory;
  flight = flight_then v w d.world 1 d.after frames s d.played;
  next_frame = next_then v w d.world 1 d.after frames s d.played;
  event = d.played.event ∙ s.event;
  moment = d.played.moment ∙ s.moment;
}

-- the directory server did a step
pub directory_then : (v : World) (w : machine.World) (t : Task) (frames : List Frame) (notes : List Remark) (d' : Directory) → d'.actor ≡ v.directory.actor → d'.volume ≡ v.directory.volume → Stands v w
    → (d : Does w v.directory.actor t frames notes (OfSite (site_of d'.site)) (HasRoot v.directory.volume)) → Stands (sending frames (record v { directory = d' })) d.world
directory_then v w t frames notes d' same volume s d = record {
  first = same ∙ s.first;
  setup = d.played.setup ∙ s.setup;
  proxy = still_up w d.world v.directory.actor 0 d.after frames (OfProxy (proxy_of v.proxy)) Any d.played (ap (λ i. eq_by_cmp nat_cmp 0 i) s.first) s.proxy;
  coordinator = still_up w d.world v.directory.actor 1 d.after frames (OfCoord (held v.coordinator)) NoOperation d.played (ap (λ i. eq_by_cmp nat_cmp 1 i) s.first) s.coordinator;
  directory = subst (λ i. IsUp d.world i (OfSite (site_of d'.site)) (HasRoot d'.volume)) (sym same)
      (subst (λ n. IsUp d.world v.directory.actor (OfSite (site_of d'.site)) (HasRoot n)) (sym volume)
      (now_up w v.directory.actor t frames notes (OfSite (site_of d'.site)) (HasRoot v.directory.volume) d));
  flight = flight_then v w d.world v.directory.actor d.after frames s d.played;
  next_frame = next_then v w d.world v.directory.actor d.after frames s d.played;
  event = d.played.event ∙ s.event;
  moment = d.played.moment ∙ s.moment;
}

-- ---- turns

is_up_by : (w : machine.World) (i : ℕ) (m : Memory) (Keeps : List Record → Type 0) (up : IsUp w i m Keeps) → is_up (get w.actors i) ≡ true
is_up_by w i m Keeps up = ap is_up up.is ∙ ap has_memory up.memory

-- a datagram reached the proxy
pub reached : (v : World) (w : machine.World) (client : ℕ) (bytes : List ℕ) (frames : List Frame) (notes : List Remark) (m : Memory) → Stands v w
    → (d : Does (machine.begun w) 0 (Arrives (w.event + 1) client bytes) frames notes m Any)
    → TurnRun w (turn v (event.Call client bytes) (remarks v frames notes)) d.world
reached v w client bytes frames notes m s d = record {
  told = record { frames = numbered w.next_frame frames; notes = notes };
  is = inl (record { up = is_up_by w 0 (OfProxy (proxy_of v.proxy)) Any s.proxy; steps = d.steps });
  remarks = ap (λ n. numbered n frames ++ notes) (sym s.next_frame);
  moment = sym (d.played.moment ∙ s.moment);
}

-- a frame was given to an actor that is up
given_to : (v : World) (w : machine.World) (k : ℕ) (f : Flying) (rs : List Remark) (n' : machine.Told) (w' : machine.World) → Stands v w → get v.flight k ≡ Some f
    → is_up (get w.actors f.frame.to) ≡ true → Steps f.frame.to (Given f.frame f.event ∷ []) (machine.landed (machine.begun w) k) nothing w' n'
    → rs ≡ n'.frames ++ n'.notes → v.moment ≡ w'.moment → TurnRun w (turn v (event.Give k) rs) w'
given_to v w k f rs n' w' s is up steps same moment = record {
  told = n';
  is = (
    record { flying = flying_of f; is = ap (λ z. get z k) s.flight ∙ get_so flying_of v.flight k ∙ ap (option_map flying_of) is },
    inl (up, steps),
  );
  remarks = same;
  moment = moment;
}

pub given : (v : World) (w : machine.World) (k i : ℕ) (f : Flying) (frames : List Frame) (notes : List Remark) (m : Memory) (Keeps : List Record → Type 0) → Stands v w
    → get v.flight k ≡ Some f → f.frame.to ≡ i → is_up (get w.actors i) ≡ true
    → (d : Does (machine.landed (machine.begun w) k) i (Given f.frame f.event) frames notes m Keeps)
    → TurnRun w (turn v (event.Give k) (remarks v frames notes)) d.world
given v w k i f frames notes m Keeps s is to up d =
    given_to v w k f (remarks v frames notes) (record { frames = numbered w.next_frame frames; notes = notes }) d.world s is
    (ap (λ j. is_up (get w.actors j)) to ∙ up)
    (subst (λ j. Steps j (Given f.frame f.event ∷ []) (machine.landed (machine.begun w) k) nothing d.world (record { frames = numbered w.next_frame frames; notes = notes })) (sym to) d.steps)
    (ap (λ n. numbered n frames ++ notes) (sym s.next_frame)) (sym (d.played.moment ∙ s.moment))

-- ---- the world's history goes on

not_first : (v : World) (w : machine.World) (h : History) → NewRun v.proxy.setup h w → Stands v w → is_first h ≡ false
not_first v w [] run s = absurd (subst (λ m. T (not (has_memory m))) (sym ((run.initial.actors 0 s.proxy.actor s.proxy.is).0) ∙ s.proxy.memory) tt)
not_first v w (t ∷ past) run s = refl

pub goes_on : (v v' : World) (e : Event) (rs : List Remark) → GoesOn v v' e rs → (h : History) → Follows v h → Follows v' (turn v e rs ∷ h)
goes_on v v' e rs on h follows =
    let next = on.leads follows.world follows.stands in
    record {
      world = next.world;
      run = subst (λ s. NewRun s (turn v e rs ∷ h) next.world) (sym on.setup) (follows.world, follows.run, sym (not_first v follows.world h follows.run follows.stands), next.is);
      stands = next.stands;
    }

-- ---- the receiver of a frame does its step

any_step : (x : Scene) (a : Actor) (t : Task) (frames : List Frame) (notes : List Remark) (m : Memory) → IsStep x a t frames notes m (Unchanged a) → IsStep x a t frames notes m Any
any_step x a t frames notes m step = record {
  segments = step.segments;
  after = step.after;
  acts = step.acts;
  sends = step.sends;
  remarks = step.remarks;
  memory = step.memory;
  keeps = tt;
}

-- the proxy
pub proxy_does : (v : World) (p : Proxy) (t : Task) (step : Step) (w : machine.World) (s : Stands v w) → MayStep v.proxy w.event t step.frames step.notes p
    → Does w 0 t step.frames step.notes (OfProxy (proxy_of p)) Any
proxy_does v p t step w s may =
    does w 0 s.proxy.actor t step.frames step.notes (OfProxy (proxy_of p)) Any s.proxy.is
    (any_step (scene w 0) s.proxy.actor t step.frames step.notes (OfProxy (proxy_of p)) (may (scene w 0) s.proxy.actor refl s.setup refl s.proxy.memory))

pub proxy_handed : (v : World) (p : Proxy) (f : Flying) (step : Step) → f.frame.to ≡ 0 → GivesUse v.proxy p f.frame f.event (Ok step) → Hands v (record v { proxy = p }) f (Ok step)
proxy_handed v p f step to gives = (
  λ w s. record {
    actor = 0;
    to = to;
    memory = OfProxy (proxy_of p);
    Keeps = Any;
    up = is_up_by w 0 (OfProxy (proxy_of v.proxy)) Any s.proxy;
    does = proxy_does v p (Given f.frame f.event) step w s (gives.0 w.event);
    stands = proxy_then v w (Given f.frame f.event) step.frames step.notes p s gives.1 (proxy_does v p (Given f.frame f.event) step w s (gives.0 w.event));
  },
  gives.1,
)

-- the coordinator
coordinator_does : (v : World) (c : Coordinator) (f : Flying) (step : Step) (w : machine.World) (s : Stands v w) → GivesStep v.coordinator c f.frame (Ok step)
    → Does w 1 (Given f.frame f.event) step.frames step.notes (OfCoord (held c)) NoOperation
coordinator_does v c f step w s gives =
    does w 1 s.coordinator.actor (Given f.frame f.event) step.frames step.notes (OfCoord (held c)) NoOperation s.coordinator.is
    (gives (scene w 1) s.coordinator.actor f.event refl s.coordinator.memory s.coordinator.keeps)

pub coordinator_handed : (v : World) (c : Coordinator) (f : Flying) (step : Step) → f.frame.to ≡ 1 → GivesStep v.coordinator c f.frame (Ok step) → Hands v (record v { coordinator = c }) f (Ok step)
coordinator_handed v c f step to gives = (
  λ w s. record {
    actor = 1;
    to = to;
    memory = OfCoord (held c);
    Keeps = NoOperation;
    up = is_up_by w 1 (OfCoord (held v.coordinator)) NoOperation s.coordinator;
    does = coordinator_does v c f step w s gives;
    stands = coordinator_then v w (Given f.frame f.event) step.frames step.notes c s (coordinator_does v c f step w s gives);
  },
  refl,
)

-- the directory server
directory_does : (v : World) (d : Directory) (f : Flying) (step : Step) (w : machine.World) (s : Stands v w) → MayAnswer v.directory d f.frame step
    → Does w v.directory.actor (Given f.frame f.event) step.frames step.notes (OfSite (site_of d.site)) (HasRoot v.directory.volume)
directory_does v d f step w s may =
    does w v.directory.actor s.directory.actor (Given f.frame f.event) step.frames step.notes (OfSite (site_of d.site)) (HasRoot v.directory.volume) s.directory.is
    (may (ap is_directory s.first) (scene w v.directory.actor) s.directory.actor f.event refl s.directory.memory s.directory.keeps)

pub directory_handed : (v : World) (d : Directory) (f : Flying) (step : Step) → f.frame.to ≡ v.directory.actor → GivesAnswer v.directory d f.frame (Ok step)
    → Hands v (record v { directory = d }) f (Ok step)
directory_handed v d f step to gives = (
  λ w s. record {
    actor = v.directory.actor;
    to = to;
    memory = OfSite (site_of d.site);
    Keeps = HasRoot v.directory.volume;
    up = is_up_by w v.directory.actor (OfSite (site_of v.directory.site)) (HasRoot v.directory.volume) s.directory;
    does = directory_does v d f step w s gives.0;
    stands = directory_then v w (Given f.frame f.event) step.frames step.notes d gives.1 gives.2 s (directory_does v d f step w s gives.0);
  },
  refl,
)

-- ---- whole events

arrives_at : (v : World) (p : Proxy) (client : ℕ) (bytes : List ℕ) (step : Step) (w : machine.World) → Stands v w
    → MayStep v.proxy (v.event + 1) (Arrives (v.event + 1) client bytes) step.frames step.notes p
    → MayStep v.proxy (w.event + 1) (Arrives (w.event + 1) client bytes) step.frames step.notes p
arrives_at v p client bytes step w s may = subst (λ n. MayStep v.proxy (n + 1) (Arrives (n + 1) client bytes) step.frames step.notes p) (sym s.event) may

-- a datagram arrives
pub call_goes_on : (v v' : World) (p : Proxy) (client : ℕ) (bytes : List ℕ) (step : Step) → GivesArrival v.proxy p (v.event + 1) client bytes (Ok step)
    → v' ≡ sending step.frames (record (begun v) { proxy = p }) → GoesOn v v' (event.Call client bytes) (remarks v step.frames step.notes)
call_goes_on v v' p client bytes step gives is_now = record {
  leads = λ w s.
      let u = begins v w s in
      let d = proxy_does (begun v) p (Arrives (w.event + 1) client bytes) step (machine.begun w) u (arrives_at v p client bytes step w s gives.0) in
      record {
        world = d.world;
        is = reached v w client bytes step.frames step.notes (OfProxy (proxy_of p)) s d;
        stands = subst (λ z. Stands z d.world) (sym is_now) (proxy_then (begun v) (machine.begun w) (Arrives (w.event + 1) client bytes) step.frames step.notes p u gives.1 d);
      };
  setup = ap (λ z. z.proxy.setup) is_now ∙ gives.1;
}

-- a frame is given
pub give_goes_on : (v v' v'' : World) (k : ℕ) (f : Flying) (step : Step) → get v.flight k ≡ Some f → Hands (landed (begun v) k) v' f (Ok step) → v'' ≡ sending step.frames v'
    → GoesOn v v'' (event.Give k) (remarks v step.frames step.notes)
give_goes_on v v' v'' k f step is hands is_now = record {
  leads = λ w s.
      let u = lands (begun v) (machine.begun w) k (begins v w s) in
      let h = hands.0 (machine.landed (machine.begun w) k) u in
      record {
        world = h.does.world;
        is = given v w k h.actor f step.frames step.notes h.memory h.Keeps s is h.to h.up h.does;
        stands = subst (λ z. Stands z h.does.world) (sym is_now) h.stands;
      };
  setup = ap (λ z. z.proxy.setup) is_now ∙ hands.1;
}
