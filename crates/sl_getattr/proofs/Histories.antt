-- Each run's history is legal.
use Rattle.std.proofs.Common.{◌≡◌, ℕ, ◌+◌, ◌<◌, ◌==◌, ◌||◌, arith, inl, inr, true, false, List, [], ◌∷◌, Some, None, refl, sym, ap, subst, ◌∙◌}
use Rattle.std.specs.Prelude.{Contains}
use Rattle.std.specs.Prelude.{option_and_then}
use Rattle.std.proofs.Common.{Bool, ◌++◌, ◌≤◌, if◌then◌else◌}
use Rattle.std.proofs.lemmas.List.{append-nil}
use Rattle.std.specs.Ordering.{nat_cmp, eq_by_cmp}
use Rattle.std.specs.FinMap.{FinMap, get, remove, entries}
use Rattle.sl_defs.specs.Histories.{Happening, Opens, Reaches, Happens}
use Rattle.sl_defs.specs.Items.{AreBytes}
use Rattle.sl_defs.specs.declared.setup.Setup.{Setup}
use Rattle.sl_defs.specs.declared.setup.Time.{Time}
use Rattle.sl_defs.specs.declared.event.Event.{Event}
use Rattle.sl_defs.specs.declared.event.Event.TheVariants as event
use Rattle.sl_types.specs.declared.kind.Kind.TheVariants as kind
use Rattle.sl_model.specs.Perform.{fresh}
use Rattle.sl_frames.specs.declared.frame.Frame.{Frame}
use Rattle.sl_frames.specs.declared.body.Body.TheVariants as body
use Rattle.sl_history.specs.Frames as history
use Rattle.sl_history.specs.Turns.{Remark, Lost, Turn, History, events, datagram_of}
use Rattle.sl_history.specs.Turns as note
use Rattle.sl_history.specs.Arrivals.{Datagram, IsJunk, IsAnswered, IsAsked, datagram, asked_in}
use Rattle.sl_model.specs.Volume.{Volume}
use Rattle.sl_history.specs.Fenced.{Fenced}
use Rattle.sl_history.specs.Wired.{Wired}
use Rattle.sl_history.specs.Licensed.{Licensed, due_drop, option_list}
use Rattle.sl_history.specs.Volumes.{volume_after, volume_at}
use Rattle.sl_history.specs.Legal.{any_in, Legal, AnswersAtOnce, RepliesAtOnce, answers_at_once}
use Rattle.sl_machine.specs.Memory.{Proxy, Memory, Actor, OfProxy, OfCoord, OfSite}
use Rattle.sl_machine.specs.World.{World, Flying, Given, Arrives, Ticks, Opening, numbered, Told, nothing, begun, landed, stopped_actor}
use Rattle.sl_machine.specs.Runs.{Run, IsTurn, Follows, Stops, BothTick, Reached, IsLost, IfUp, Silent, StartsEach, IsInitial, remarks_of, is_opening, is_first, actors_of}
use Rattle.sl_transport.specs.Acting.{AreUpAlike}
use Rattle.sl_transport.specs.Flying.{FliesAlike}
use Rattle.sl_transport.proofs.Alike.{flies_alike}
use Rattle.sl_transport.proofs.Counting.{given_in_flight, are_numbered}
use Rattle.sl_transport.proofs.Sending.{up_alike, send_rightly}
use Rattle.sl_arrivals.specs.Arrivals.{AreNotes, AreNotesIf, AreNotesOf}
use Rattle.sl_arrivals.proofs.Histories.{runs_answer_at_once}
use Rattle.sl_getattr.specs.Built.{IsTaken, IsBuilt, AreBuilt, IsBlank, NewRun}
use Rattle.sl_getattr.specs.Laws.{DropsAreExact}
use Rattle.sl_getattr.proofs.Stepping.{same_some, not_both, not_none, there_if_up, proxy_acts, coordinator_acts, directory_acts}
use Rattle.sl_getattr.proofs.Maps.{has_put, none_in}
use Rattle.sl_getattr.proofs.Looking.{fresh_is_new}
use Rattle.sl_getattr.proofs.Sound.{IsBare, AsksFor, IsOut, IsCoordinator, IsDirectory, Owner, Forwards, Tale, IsProxy, IsFine, IsHello, IsWelcome, IsForward, IsPacket, IsSound, Sound}
use Rattle.sl_getattr.proofs.Tales.{plain_frames, IsPlain, no_effect, no_reply, plain_drops, sent_plain, downs_plain, plain_both, plain_legal, drop_legal, tale_goes}
use Rattle.sl_history.specs.Remembering.{Remembers}
use Rattle.sl_getattr.proofs.Remembering.{AnswersAreRead, IsUntold, nothing_told, untold_goes, all_remembered, plain_untold}
use Rattle.sl_getattr.proofs.Wiring.{TellsNothing, frames_wire, wire_both, sent_wire, downs_wire, all_wired, all_true}
use Rattle.sl_getattr.proofs.Fencing.{plain_fenced}
use Rattle.sl_getattr.proofs.Licensing.{harmless_frames, harmless_both, harmless_licensed}
use Rattle.sl_getattr.proofs.Counting.{Counted, calm_both, calm_frames, counted_calm, counted_hello, sent_harmless, downs_harmless, counted_opened, dropped_nothing, due_lost}
use Rattle.sl_getattr.proofs.Flights.{AllFly, fly_landed}
use Rattle.sl_getattr.proofs.Rows.{apart}
use Rattle.sl_getattr.proofs.Using.{ForProxy, OfWelcome, OfPacket}
use Rattle.sl_getattr.proofs.Starting.{IsOpened, SoFar, opening_so}
use Rattle.sl_transport.proofs.Proper.{Each}
use Rattle.sl_transport.proofs.Stepping.{same_key}
use Rattle.sl_machine.specs.Records.{Record}
use Rattle.sl_machine.specs.Memory.{Request, Waiting}
use Rattle.sl_machine.specs.Proxies.{frames_again, request_frame, hello}
use Rattle.sl_history.specs.Frames.{hello_in}
use Rattle.sl_history.specs.Wired.{is_answer}
use Rattle.sl_history.specs.Licensed.{flush_in}
use Rattle.sl_history.specs.Arrivals.{Asked}
use Rattle.sl_getattr.proofs.Ticking.{all_requests, proxy_ticks_so, coordinator_ticks_so}
use Rattle.sl_getattr.proofs.Going.{nobody_goes, one_goes, no_more, IsLeft, still_proxy}
use Rattle.sl_getattr.proofs.Doing.{Did}
use Rattle.sl_transport.proofs.Stepping.{put_else}
use Rattle.sl_getattr.proofs.Turning.{remarks_are, left_proxy, OfFrame, no_call, ForwardsAreRead, CallsFit, Went, turn, one_event, given_hello, given_forward, given_proxy, arrival_so}

-- ---- a run from empty disks is a run

pub is_run : (s : Setup) (h : History) (w : World) → NewRun s h w → Run s h w
is_run s [] w run = run.initial
is_run s (t ∷ past) w run = (run.0, is_run s past run.0 run.1, run.2, run.3)

-- ---- what is answered at once

one_there : 0 < 1
one_there = omega arith

by_datagram : (n : ℕ) (d : Datagram) (rs : List Remark) → AreNotes n d rs → RepliesAtOnce n rs (answers_at_once d)
by_datagram n IsJunk rs notes = tt
by_datagram n (IsAnswered answer) rs notes = subst (λ rs. Contains rs (note.Replied n n answer)) (sym notes) (0, one_there, refl)
by_datagram n (IsAsked q) rs notes = tt

by_event : (past : History) (t : Turn) (e : Event) → AreNotesOf past t (Happens e) → AnswersAtOnce past t (Happens e)
by_event past t (event.Call client bytes) notes = λ up. by_datagram (events (t ∷ past)) (datagram bytes) t.remarks (subst (λ b. AreNotesIf b (events (t ∷ past)) (datagram bytes) t.remarks) up notes)
by_event past t (event.Give k) notes = tt
by_event past t (event.Copy k) notes = tt
by_event past t (event.Drop k) notes = tt
by_event past t event.Tick notes = tt
by_event past t (event.Stop a image) notes = tt
by_event past t (event.Start a) notes = tt
by_event past t (event.Fuse a k image) notes = tt
by_event past t (event.Fail a k) notes = tt

at_once : (past : History) (t : Turn) (x : Happening) → AreNotesOf past t x → AnswersAtOnce past t x
at_once past t (Opens s) notes = tt
at_once past t (Reaches moment) notes = tt
at_once past t (Happens e) notes = by_event past t e notes

-- ---- before the first turn

nobody : Owner
nobody = record { call = 0; handle = record { volume = 0; fileid = 0; kind = kind.Dir } }

nothing_yet : (s : Setup) → Tale s []
unfolding any_in volume_after volume_at fresh
nothing_yet s = record { undone = λ n. refl; unanswered = λ n less. refl; after = fresh_is_new s.volume; verifier = λ none. refl; at = λ e. fresh_is_new s.volume }

all_down : (s : Setup) (w : World) (i : ℕ) (a : Actor) (m : Memory) → IsBlank s w → get w.actors i ≡ Some a → a.memory ≡ Some m → ⊥
all_down s w i a m blank there up = not_none (sym up ∙ (blank.initial.actors i a there).0)

blank_sound : (s : Setup) (w : World) → IsBlank s w → Sound s [] w
blank_sound s w blank = record {
  owner = λ tag. nobody;
  next = 1;
  is = record {
    setup = blank.initial.setup_is;
    event = blank.initial.event;
    tale = nothing_yet s;
    proxy = λ a p there up. absurd (all_down s w 0 a (OfProxy p) blank there up);
    coordinator = λ a m there up. absurd (all_down s w 1 a (OfCoord m) blank there up);
    directory = λ a m there up. absurd (all_down s w 16 a (OfSite m) blank there up);
    flight = λ k f there. absurd (none_in k f (ap (λ m. get m k) (sym blank.initial.flight) ∙ there));
  };
}

-- ---- the opening

opens_so : (s : Setup) (w w' : World) (n' : Told) (at : Time) → s.dirs ≡ 1 → IsBlank s w → StartsEach (actors_of s) w nothing w' n' → Went s [] (turn (Opens s) at (remarks_of n')) w'
opens_so s w w' n' at one blank starts = record {
  sound = record {
    owner = λ tag. nobody;
    next = 1;
    is = record {
      setup = so.setup;
      event = so.event;
      tale = tale_goes s [] t (nothing_yet s) (no_effect (remarks_of n') plain) (λ n less. no_reply n (remarks_of n') plain);
      proxy = λ a p there up. by_proxy a p there up (subst (λ m. IsOpened s 0 m a.records) up (so.opened 0 a there));
      coordinator = λ a m there up. subst (λ z. IsOpened s 1 z a.records) up (so.opened 1 a there);
      directory = λ a m there up. subst (λ z. IsOpened s 16 z a.records) up (so.opened 16 a there) refl;
      flight = λ k f there. IsHello (so.flight k f there).0 (so.flight k f there).1 (so.flight k f there).2;
    };
  };
  legal = plain_legal (fresh s.volume) [] t [] (remarks_of n') plain;
  drops = plain_drops (remarks_of n') plain;
  licensed = harmless_licensed (fresh s.volume) [] t [] (remarks_of n') (harmless_both n'.frames n'.notes (sent_harmless n'.frames so.frames) (downs_harmless n'.notes so.notes));
  fenced = plain_fenced [] t [] (remarks_of n') plain;
  wires = wire_both [] t n'.frames n'.notes (sent_wire [] t n'.frames so.frames) (downs_wire [] t n'.notes so.notes);
  untold = λ file. plain_untold (t ∷ []) file (remarks_of n') plain;
}
  where
    t : Turn
    t = turn (Opens s) at (remarks_of n')

    so : SoFar s [] w' n'
    so = opening_so s w w' n' one blank starts

    plain : IsPlain (remarks_of n')
    plain = plain_both n'.frames n'.notes (sent_plain n'.frames so.frames) (downs_plain n'.notes so.notes)

    by_proxy : (a : Actor) (p : Proxy) → get w'.actors 0 ≡ Some a → a.memory ≡ Some (OfProxy p) → IsOpened s 0 (Some (OfProxy p)) a.records → IsProxy s (t ∷ []) (λ tag. nobody) 1 p
    by_proxy a p there up opened = record {
      soft = opened.1;
      calls = λ n c there. absurd (none_in n c (ap (λ m. get m n) (sym opened.0) ∙ there));
      tag = opened.2;
      counted = counted_opened t p n'.frames n'.notes refl so.frames so.notes (so.said a p there up) refl opened.3 opened.0 opened.4;
    }

-- ---- what goes on where nothing is seen to change

record SameActor (v : World) (j : ℕ) (a : Actor) : Type 0 where
  actor : Actor
  is : get v.actors j ≡ Some actor
  memory : actor.memory ≡ a.memory
  records : actor.records ≡ a.records

-- the same actors hold the same, and nothing more flies or is told
record Same (v : World) (n : Told) (w : World) (m : Told) : Type 0 where
  actors : (j : ℕ) (a : Actor) → get w.actors j ≡ Some a → SameActor v j a
  setup : w.setup ≡ v.setup
  event : w.event ≡ v.event
  flight : w.flight ≡ v.flight
  remarks : remarks_of m ≡ remarks_of n

same_sound : (s : Setup) (h : History) (v : World) (n : Told) (w : World) (m : Told) (owner : ℕ → Owner) (next : ℕ) → Same v n w m → IsSound s h v owner next → IsSound s h w owner next
same_sound s h v n w m owner next same sound = record {
  setup = same.setup ∙ sound.setup;
  event = same.event ∙ sound.event;
  tale = sound.tale;
  proxy = λ a p there up. let b = same.actors 0 a there in sound.proxy b.actor p b.is (b.memory ∙ up);
  coordinator = λ a c there up. let b = same.actors 1 a there in subst (IsCoordinator c) b.records (sound.coordinator b.actor c b.is (b.memory ∙ up));
  directory = λ a d there up. let b = same.actors 16 a there in subst (IsDirectory s d) b.records (sound.directory b.actor d b.is (b.memory ∙ up));
  flight = λ k f there. sound.flight k f (ap (λ z. get z k) (sym same.flight) ∙ there);
}

went_on : (s : Setup) (past : History) (x : Happening) (at : Time) (v : World) (n : Told) (w : World) (m : Told) → Same v n w m → Went s past (turn x at (remarks_of n)) v → Went s past (turn x at (remarks_of m)) w
went_on s past x at v n w m same went = subst (λ rs. Went s past (turn x at rs) w) (sym same.remarks) (record {
  sound = record { owner = went.sound.owner; next = went.sound.next; is = same_sound s (turn x at (remarks_of n) ∷ past) v n w m went.sound.owner went.sound.next same went.sound.is };
  legal = went.legal;
  drops = went.drops;
  licensed = went.licensed;
  fenced = went.fenced;
  wires = went.wires;
  untold = went.untold;
})

-- an actor that does nothing but hold the same
same_by : (i : ℕ) (v : World) (n : Told) (a : Actor) (w : World) (m : Told) (rs : List Record) → get v.actors i ≡ Some a → Did i v n w m a.memory a.records [] [] → Same v n w m
same_by i v n a w m rs is did = record {
  actors = λ j b there. by j b there (eq_by_cmp nat_cmp j i) refl;
  setup = did.setup;
  event = did.event;
  flight = did.flight;
  remarks = ap (λ fs. fs ++ m.notes) (did.frames ∙ append-nil n.frames) ∙ ap (λ ms. n.frames ++ ms) (did.noted ∙ append-nil n.notes);
}
  where
    by : (j : ℕ) (b : Actor) → get w.actors j ≡ Some b → (e : Bool) → eq_by_cmp nat_cmp j i ≡ e → SameActor v j b
    by j b there true e =
        let same = same_some (sym did.own ∙ ap (get w.actors) (sym (same_key j i e)) ∙ there) in
        record {
          actor = a;
          is = ap (get v.actors) (same_key j i e) ∙ is;
          memory = sym did.memory ∙ ap (λ (z : Actor). z.memory) same;
          records = sym did.records ∙ ap (λ (z : Actor). z.records) same;
        }
    by j b there false e = record { actor = b; is = sym (did.others j e) ∙ there; memory = refl; records = refl }

same_silent : (v : World) (n : Told) (w : World) (m : Told) → Silent v n w m → Same v n w m
same_silent v n w m silent = record {
  actors = λ j a there. record { actor = a; is = ap (λ (z : World). get z.actors j) (sym silent.0) ∙ there; memory = refl; records = refl };
  setup = ap (λ (z : World). z.setup) silent.0;
  event = ap (λ (z : World). z.event) silent.0;
  flight = ap (λ (z : World). z.flight) silent.0;
  remarks = ap remarks_of silent.1;
}

each_more : (S R : Frame → Type 0) (fs : List Frame) → ((f : Frame) → S f → R f) → Each S fs → Each R fs
each_more S R [] more each = tt
each_more S R (f ∷ fs) more each = (more f each.0, each_more S R fs more each.1)

-- ---- any other turn

module _ (forwards : ForwardsAreRead) (answers : AnswersAreRead) (fit : CallsFit) (s : Setup) (one : s.dirs ≡ 1) (past : History) (w : World) (owner : ℕ → Owner) (next : ℕ)
    (sound : IsSound s past w owner next) (alike : AreUpAlike past w) (flies : FliesAlike past w) (at : Time) where
  -- nobody acts
  quiet_turn : (x : Event) (v w' : World) (n' : Told) → datagram_of (Happens x) ≡ None → v.actors ≡ w.actors → v.setup ≡ w.setup → v.event ≡ w.event + 1 → AllFly (IsFine s owner next (events past)) v.flight
      → Silent v nothing w' n' → Went s past (turn (Happens x) at (remarks_of n')) w'
  quiet_turn x v w' n' none actors setup moment flight quiet =
      subst (λ n. Went s past (turn (Happens x) at (remarks_of n)) w') (sym quiet.1) (subst (Went s past (turn (Happens x) at [])) (sym quiet.0) (record {
        sound = record {
          owner = owner;
          next = next;
          is = nobody_goes s past (turn (Happens x) at []) w v owner next sound (λ j. ap (λ z. get z j) actors) setup (moment ∙ one_event w.event (events past) sound.event) flight tt (λ n. refl) tt
              (no_call (events (turn (Happens x) at [] ∷ past)) (turn (Happens x) at []) x none);
        };
        legal = tt;
        drops = sym (ap (due_drop past (turn (Happens x) at [])) none);
        licensed = tt;
        fenced = tt;
        wires = tt;
        untold = λ file. refl;
      }))

  no_opening : {f : Frame} {e : ℕ} → Given f e ≡ Opening → ⊥
  no_opening is = apart is refl

  at_coordinator : (x : Event) (fl : FinMap nat_cmp Flying) (ev : OfFrame past x) (flying_fine : AllFly (IsFine s owner next (events past)) fl) (f : Flying) (w' : World) (n' : Told) → option_and_then (history.frame past) (history.given_number (Happens x)) ≡ Some f.frame → f.frame.«body» ≡ body.Hello → f.frame.to ≡ 1 → IsBare f.frame → IfUp 1 (Given f.frame f.event ∷ []) (record (begun w) { flight = fl }) nothing w' n'
      → Went s past (turn (Happens (x)) at (remarks_of n')) w'
  at_coordinator x fl ev flying_fine f w' n' there kind to bare (inr down) = quiet_turn x (record (begun w) { flight = fl }) w' n' ev.none refl refl refl flying_fine down.1
  at_coordinator x fl ev flying_fine f w' n' there kind to bare (inl (up, steps)) =
      let a = there_if_up (get w.actors 1) up in
      let m = coordinator_acts (Given f.frame f.event) [] (record (begun w) { flight = fl }) nothing a.actor w' n' no_opening a.is steps in
      given_hello forwards answers fit s one past w owner next sound at x fl ev flying_fine f w' n' a.actor m.coordinator a.is m.up kind to bare
      (record { gives = there; up = ap (history.is_up past) to ∙ alike 1 ∙ up }) steps

  at_directory : (x : Event) (fl : FinMap nat_cmp Flying) (ev : OfFrame past x) (flying_fine : AllFly (IsFine s owner next (events past)) fl) (f : Flying) (w' : World) (n' : Told) → option_and_then (history.frame past) (history.given_number (Happens x)) ≡ Some f.frame → f.frame.from ≡ 0 → Forwards owner next (events past) f.frame → f.frame.to ≡ 16 → IfUp 16 (Given f.frame f.event ∷ []) (record (begun w) { flight = fl }) nothing w' n'
      → Went s past (turn (Happens (x)) at (remarks_of n')) w'
  at_directory x fl ev flying_fine f w' n' there from sent to (inr down) = quiet_turn x (record (begun w) { flight = fl }) w' n' ev.none refl refl refl flying_fine down.1
  at_directory x fl ev flying_fine f w' n' there from sent to (inl (up, steps)) =
      let a = there_if_up (get w.actors 16) up in
      let m = directory_acts (Given f.frame f.event) [] (record (begun w) { flight = fl }) nothing a.actor w' n' no_opening a.is steps in
      given_forward forwards answers fit s one past w owner next sound at x fl ev flying_fine f w' n' a.actor m.site a.is m.up from sent to
      (record { gives = there; up = ap (history.is_up past) to ∙ alike 16 ∙ up }) steps

  at_proxy : (x : Event) (fl : FinMap nat_cmp Flying) (ev : OfFrame past x) (flying_fine : AllFly (IsFine s owner next (events past)) fl) (f : Flying) (w' : World) (n' : Told) → ForProxy s owner next (events past) f.frame f.event → IfUp 0 (Given f.frame f.event ∷ []) (record (begun w) { flight = fl }) nothing w' n'
      → Went s past (turn (Happens (x)) at (remarks_of n')) w'
  at_proxy x fl ev flying_fine f w' n' fine (inr down) = quiet_turn x (record (begun w) { flight = fl }) w' n' ev.none refl refl refl flying_fine down.1
  at_proxy x fl ev flying_fine f w' n' fine (inl (up, steps)) =
      let a = there_if_up (get w.actors 0) up in
      let p = proxy_acts (Given f.frame f.event) [] (record (begun w) { flight = fl }) nothing a.actor w' n' no_opening a.is steps in
      given_proxy forwards answers fit s one past w owner next sound at x fl ev flying_fine f w' n' a.actor p.proxy a.is p.up fine steps

  given : (x : Event) (fl : FinMap nat_cmp Flying) (ev : OfFrame past x) (flying_fine : AllFly (IsFine s owner next (events past)) fl) (f : Flying) (w' : World) (n' : Told) → option_and_then (history.frame past) (history.given_number (Happens x)) ≡ Some f.frame → IsFine s owner next (events past) f → IfUp f.frame.to (Given f.frame f.event ∷ []) (record (begun w) { flight = fl }) nothing w' n'
      → Went s past (turn (Happens (x)) at (remarks_of n')) w'
  given x fl ev flying_fine f w' n' there (IsHello to kind bare) if_up = at_coordinator x fl ev flying_fine f w' n' there kind to bare (subst (λ i. IfUp i (Given f.frame f.event ∷ []) (record (begun w) { flight = fl }) nothing w' n') to if_up)
  given x fl ev flying_fine f w' n' there (IsWelcome to from kind) if_up = at_proxy x fl ev flying_fine f w' n' (OfWelcome from kind) (subst (λ i. IfUp i (Given f.frame f.event ∷ []) (record (begun w) { flight = fl }) nothing w' n') to if_up)
  given x fl ev flying_fine f w' n' there (IsForward to from sent) if_up = at_directory x fl ev flying_fine f w' n' there from sent to (subst (λ i. IfUp i (Given f.frame f.event ∷ []) (record (begun w) { flight = fl }) nothing w' n') to if_up)
  given x fl ev flying_fine f w' n' there (IsPacket to from sent) if_up = at_proxy x fl ev flying_fine f w' n' (OfPacket from sent) (subst (λ i. IfUp i (Given f.frame f.event ∷ []) (record (begun w) { flight = fl }) nothing w' n') to if_up)

  reached : (client : ℕ) (bytes : List ℕ) (w' : World) (n' : Told) → AreBytes bytes → IsTaken (datagram bytes) → Reached client bytes (begun w) w' n'
      → Went s past (turn (Happens (event.Call client bytes)) at (remarks_of n')) w'
  reached client bytes w' n' byte_wise taken r =
      let a = there_if_up (get w.actors 0) r.up in
      let p = proxy_acts (Arrives (w.event + 1) client bytes) [] (begun w) nothing a.actor w' n' (λ is. apart is refl) a.is r.steps in
      arrival_so forwards answers fit s one past w owner next sound at client bytes w' n' a.actor p.proxy a.is p.up (alike 0 ∙ r.up) byte_wise taken r.steps

  lost : (client : ℕ) (bytes : List ℕ) (w' : World) (n' : Told) → IsLost (begun w) w' n' → Went s past (turn (Happens (event.Call client bytes)) at (remarks_of n')) w'
  lost client bytes w' n' l =
      subst (λ n. Went s past (turn (Happens (event.Call client bytes)) at (remarks_of n)) w') (sym l.noted)
      (subst (Went s past (turn (Happens (event.Call client bytes)) at (Lost (w.event + 1) ∷ []))) (sym l.world)
      (subst (λ k. Went s past (turn (Happens (event.Call client bytes)) at (Lost k ∷ [])) (begun w)) (sym (one_event w.event (events past) sound.event)) (record {
        sound = record {
          owner = owner;
          next = next;
          is = nobody_goes s past (turn (Happens (event.Call client bytes)) at (Lost (events past + 1) ∷ [])) w (begun w) owner next sound (λ j. refl) refl (one_event w.event (events past) sound.event)
              sound.flight tt (λ n. refl) tt
              (dropped_nothing (events past + 1) (turn (Happens (event.Call client bytes)) at (Lost (events past + 1) ∷ [])) (asked_in (datagram bytes)) (itself (events past + 1)));
        };
        legal = (drop_legal s past (turn (Happens (event.Call client bytes)) at (Lost (events past + 1) ∷ [])) sound.tale refl, tt);
        drops = sym (ap option_list (due_lost past (events past + 1) bytes (alike 0 ∙ l.down)));
        licensed = (tt, tt);
        fenced = (tt, tt);
        wires = (tt, tt);
        untold = λ file. refl;
      })))
    where
      itself : (n : ℕ) → (n == n) || false ≡ true
      itself n = grind arith

  -- an actor stops
  stop_turn : (i : ℕ) (image : ℕ) (w' : World) (n' : Told) → Stops i (begun w) w' n' → Went s past (turn (Happens (event.Stop i image)) at (remarks_of n')) w'
  stop_turn i image w' n' stops =
      subst (λ n. Went s past (turn (Happens (event.Stop i image)) at (remarks_of n)) w') (sym stops.noted) (record {
        sound = record {
          owner = owner;
          next = next;
          is = one_goes s past (turn (Happens (event.Stop i image)) at []) w (begun w) w' nothing owner owner next next i None stops.actor.records [] [] sound refl refl
              (one_event w.event (events past) sound.event) sound.flight did (no_more owner next) tt (λ n less. refl) left
              (λ a p other proxy. still_proxy s past (turn (Happens (event.Stop i image)) at []) owner next p proxy (λ n. refl) tt refl) tt;
        };
        legal = tt;
        drops = refl;
        licensed = tt;
        fenced = tt;
        wires = tt;
        untold = λ file. refl;
      })
    where
      did : Did i (begun w) nothing w' nothing None stops.actor.records [] []
      did = record {
        actor = stopped_actor stops.actor;
        own = ap (λ (v : World). get v.actors i) stops.world ∙ has_put w.actors i (stopped_actor stops.actor);
        memory = refl;
        records = refl;
        others = λ j other. ap (λ (v : World). get v.actors j) stops.world ∙ put_else w.actors i (stopped_actor stops.actor) j other;
        setup = ap (λ (v : World). v.setup) stops.world;
        event = ap (λ (v : World). v.event) stops.world;
        moment = ap (λ (v : World). v.moment) stops.world;
        flight = ap (λ (v : World). v.flight) stops.world;
        frames = refl;
        noted = refl;
      }

      left : IsLeft s (turn (Happens (event.Stop i image)) at [] ∷ past) owner next i None stops.actor.records
      left = record {
        proxy = λ p here up. absurd (not_none (sym up));
        coordinator = λ c here up. absurd (not_none (sym up));
        directory = λ d here up. absurd (not_none (sym up));
      }

  -- the turn of a tick
  tick : List Frame → Turn
  tick fs = turn (Happens event.Tick) at (numbered w.next_frame fs ++ [])

  -- what is so of each frame that goes out again
  record GoesAgain (g : Frame) : Type 0 where
    fine : IsFine s owner next (events past + 1) (record { frame = g; event = events past + 1 })
    flush : flush_in g.«body» ≡ None
    answer : is_answer g.«body» ≡ false
    nothing : TellsNothing g.«body»

  ticked : (w' : World) (n' : Told) (a : Actor) (p : Proxy) (fs : List Frame) → get w.actors 0 ≡ Some a → a.memory ≡ Some (OfProxy p) → Each GoesAgain fs
      → Counted (turn (Happens event.Tick) at (numbered w.next_frame fs ++ []) ∷ past) p → Did 0 (begun w) nothing w' n' (Some (OfProxy p)) a.records fs [] → Went s past (turn (Happens event.Tick) at (remarks_of n')) w'
  unfolding tick
  ticked w' n' a p fs is up again counted did = subst (λ rs. Went s past (turn (Happens event.Tick) at rs) w') (sym (remarks_are 0 (begun w) w' n' _ _ _ _ did)) (record {
    sound = record {
      owner = owner;
      next = next;
      is = one_goes s past (tick fs) w (begun w) w' n' owner owner next next 0 (Some (OfProxy p)) a.records fs [] sound refl refl (one_event w.event (events past) sound.event) sound.flight did
          (no_more owner next) (no_effect rs plain) (λ n less. no_reply n rs plain)
          (left_proxy forwards answers fit s one past w owner next sound at (tick fs) p p a.records (sound.proxy a p is up) refl refl (λ n c there. (there, no_reply n rs plain)) counted)
          (λ b z other before. absurd (not_both refl other)) (each_more GoesAgain _ fs (λ g x. x.fine) again);
    };
    legal = plain_legal (fresh s.volume) past (tick fs) [] rs plain;
    drops = plain_drops rs plain;
    licensed = harmless_licensed (fresh s.volume) past (tick fs) [] rs (harmless_both (numbered w.next_frame fs) [] (harmless_frames w.next_frame fs (each_more GoesAgain _ fs (λ g x. x.flush) again)) tt);
    fenced = plain_fenced past (tick fs) [] rs plain;
    wires = wire_both past (tick fs) (numbered w.next_frame fs) [] (frames_wire past (tick fs) w.next_frame fs (each_more GoesAgain _ fs (λ g x. ((λ is. absurd (not_both is x.answer)), x.nothing)) again)) tt;
    untold = λ file. plain_untold (tick fs ∷ past) file rs plain;
  })
    where
      rs : List Remark
      rs = numbered w.next_frame fs ++ []

      plain : IsPlain (numbered w.next_frame fs ++ [])
      plain = plain_both (numbered w.next_frame fs) [] (plain_frames w.next_frame fs) tt

  -- a request that goes out again
  request_again : (a : Actor) (p : Proxy) → get w.actors 0 ≡ Some a → a.memory ≡ Some (OfProxy p) → (n : ℕ) (c : Waiting) → get p.pending n ≡ Some c → (r : Request) → c.request ≡ Some r
      → GoesAgain (request_frame p n r)
  request_again a p is up n c there r asks = record {
    fine = IsForward (ap (λ (q : Request). q.to) (sym same) ∙ out.to) refl (record {
      chosen = out.chosen;
      packet = out.packet;
      is = kind;
      tag = subst (λ (q : Request). q.tag < next) same out.tag;
      before = subst (λ (o : Owner). o.call ≤ events past + 1) (sym owned) (raised n (events past) out.before);
      says = subst (λ (o : Owner). (q : Asked) → asked_in (datagram out.packet) ≡ Some q → AsksFor q o.handle) (sym owned) out.says;
    });
    flush = ap flush_in kind;
    answer = ap is_answer kind;
    nothing = subst TellsNothing (sym kind) tt;
  }
    where
      out : IsOut s past owner next n c
      out = (sound.proxy a p is up).calls n c there

      same : out.request ≡ r
      same = same_some (sym out.out ∙ asks)

      kind : r.«body» ≡ body.Forward out.chosen out.packet
      kind = ap (λ (q : Request). q.«body») (sym same) ∙ out.«body»

      owned : owner r.tag ≡ record { call = n; handle = out.handle }
      owned = ap (λ (q : Request). owner q.tag) (sym same) ∙ out.owned

      raised : (c a : ℕ) → c ≤ a → c ≤ a + 1
      raised c a less = omega arith

  by_welcome : (w' : World) (n' : Told) (a : Actor) (p : Proxy) → get w.actors 0 ≡ Some a → a.memory ≡ Some (OfProxy p) → (b : Bool) → p.welcomed ≡ b
      → Did 0 (begun w) nothing w' n' (Some (OfProxy p)) a.records (if b then frames_again p (entries p.pending) else hello p.fence ∷ []) [] → Went s past (turn (Happens event.Tick) at (remarks_of n')) w'
  by_welcome w' n' a p is up true welcomed did = ticked w' n' a p (frames_again p (entries p.pending)) is up again
      (counted_calm past (turn (Happens event.Tick) at (numbered w.next_frame (frames_again p (entries p.pending)) ++ [])) p
      (calm_both (numbered w.next_frame (frames_again p (entries p.pending))) [] (calm_frames w.next_frame (frames_again p (entries p.pending)) calm) tt) refl (sound.proxy a p is up).counted) did
    where
      again : Each GoesAgain (frames_again p (entries p.pending))
      again = all_requests GoesAgain p (request_again a p is up)

      calm : Each (λ f. hello_in f f.«body» ≡ None) (frames_again p (entries p.pending))
      calm = all_requests (λ f. hello_in f f.«body» ≡ None) p (λ n c there r asks.
          let out = (sound.proxy a p is up).calls n c there in
          ap (hello_in (request_frame p n r)) (ap (λ (q : Request). q.«body») (same_some (sym asks ∙ out.out)) ∙ out.«body»))
  by_welcome w' n' a p is up false first did = ticked w' n' a p (hello p.fence ∷ []) is up
      (record { fine = IsHello refl refl (refl, refl, refl); flush = refl; answer = refl; nothing = tt }, tt)
      (counted_hello past (turn (Happens event.Tick) at (numbered w.next_frame (hello p.fence ∷ []) ++ [])) p w.next_frame (hello p.fence) refl refl refl (sound.proxy a p is up).counted) did

  tick_proxy : (w' : World) (n' : Told) → IfUp 0 (Ticks ∷ []) (begun w) nothing w' n' → Went s past (turn (Happens event.Tick) at (remarks_of n')) w'
  tick_proxy w' n' (inr down) = quiet_turn event.Tick (begun w) w' n' refl refl refl refl sound.flight down.1
  tick_proxy w' n' (inl (up, steps)) =
      let a = there_if_up (get w.actors 0) up in
      let p = proxy_acts Ticks [] (begun w) nothing a.actor w' n' (λ is. apart is refl) a.is steps in
      by_welcome w' n' a.actor p.proxy a.is p.up p.proxy.welcomed refl (proxy_ticks_so (begun w) nothing a.actor p.proxy w' n' a.is p.up steps)

  tick_both : (w' : World) (n' : Told) → BothTick (begun w) w' n' → Went s past (turn (Happens event.Tick) at (remarks_of n')) w'
  tick_both w' n' both = went_on s past (Happens event.Tick) at both.middle both.so_far w' n' (by both.coordinator) went
    where
      went : Went s past (turn (Happens event.Tick) at (remarks_of both.so_far)) both.middle
      went = tick_proxy both.middle both.so_far both.proxy

      by : IfUp 1 (Ticks ∷ []) both.middle both.so_far w' n' → Same both.middle both.so_far w' n'
      by (inr down) = same_silent both.middle both.so_far w' n' down.1
      by (inl (up, steps)) =
          let a = there_if_up (get both.middle.actors 1) up in
          let m = coordinator_acts Ticks [] both.middle both.so_far a.actor w' n' (λ is. apart is refl) a.is steps in
          same_by 1 both.middle both.so_far a.actor w' n' a.actor.records a.is
          (subst (λ o. Did 1 both.middle both.so_far w' n' o a.actor.records [] []) (sym m.up)
          (coordinator_ticks_so both.middle both.so_far a.actor m.coordinator w' n' a.is m.up (went.sound.is.coordinator a.actor m.coordinator a.is m.up) steps))

  follows : (e : Event) (w' : World) (n' : Told) → IsBuilt (Happens e) → Follows e (begun w) w' n' → Went s past (turn (Happens e) at (remarks_of n')) w'
  follows (event.Call client bytes) w' n' built (inl r) = reached client bytes w' n' built.0 built.1 r
  follows (event.Call client bytes) w' n' built (inr l) = lost client bytes w' n' l
  follows (event.Give k) w' n' built f = given (event.Give k) (remove w.flight k) (record { none = refl; calm = refl }) (fly_landed (IsFine s owner next (events past)) w.flight k sound.flight) f.0.flying w' n'
      (flies.sent k f.0.flying f.0.is).0 (sound.flight k f.0.flying f.0.is) f.1
  follows (event.Copy k) w' n' built f = given (event.Copy k) w.flight (record { none = refl; calm = refl }) sound.flight f.0.flying w' n'
      (flies.sent k f.0.flying f.0.is).0 (sound.flight k f.0.flying f.0.is) f.1
  follows (event.Drop k) w' n' built f = quiet_turn (event.Drop k) (landed (begun w) k) w' n' refl refl refl refl (fly_landed (IsFine s owner next (events past)) w.flight k sound.flight) f.1
  follows event.Tick w' n' built f = tick_both w' n' f
  follows (event.Stop i image) w' n' built f = stop_turn i image w' n' f
  follows (event.Start a) w' n' built f = absurd built
  follows (event.Fuse a k image) w' n' built f = quiet_turn (event.Fuse a k image) (begun w) w' n' refl refl refl refl sound.flight f
  follows (event.Fail a k) w' n' built f = quiet_turn (event.Fail a k) (begun w) w' n' refl refl refl refl sound.flight f

  passes : (moment : Time) (w' : World) (n' : Told) → w' ≡ record w { moment = moment } → n' ≡ nothing → Went s past (turn (Reaches moment) at (remarks_of n')) w'
  passes moment w' n' world noted = subst (λ n. Went s past (turn (Reaches moment) at (remarks_of n)) w') (sym noted) (subst (Went s past (turn (Reaches moment) at [])) (sym world) (record {
    sound = record {
      owner = owner;
      next = next;
      is = nobody_goes s past (turn (Reaches moment) at []) w (record w { moment = moment }) owner next sound (λ j. refl) refl (none_more w.event (events past) sound.event) sound.flight tt (λ n. refl) tt refl;
    };
    legal = tt;
    drops = refl;
    licensed = tt;
    fenced = tt;
    wires = tt;
    untold = λ file. refl;
  }))
    where
      none_more : (a b : ℕ) → a ≡ b → a ≡ b + 0
      none_more a b same = omega arith

-- ---- all turns

-- what holds of a history, and what is claimed of it
pub record Keeps (s : Setup) (h : History) (w : World) : Type 0 where
  pub sound : Sound s h w
  pub legal : Legal (fresh s.volume) h
  pub licensed : Licensed (fresh s.volume) h
  pub fenced : Fenced h
  pub wired : Wired s (fresh s.volume) h
  pub remembers : Remembers h
  pub untold : IsUntold h

same_turn : (t : Turn) (x : Happening) (rs : List Remark) → t.happening ≡ x → t.remarks ≡ rs → t ≡ turn x t.moment rs
same_turn t x rs is are = ap (λ z. turn z t.moment t.remarks) is ∙ ap (turn x t.moment) are

not_first : (t : Turn) (past : History) → true ≡ is_first (t ∷ past) → ⊥
not_first t past is = not_both refl is

module _ (forwards : ForwardsAreRead) (answers : AnswersAreRead) (fit : CallsFit) (s : Setup) (one : s.dirs ≡ 1) where
  opening_turn : (past : History) (t : Turn) (z : Setup) (w w' : World) (told : Told) → NewRun s past w → true ≡ is_first past → t.happening ≡ Opens z → t.remarks ≡ remarks_of told
      → IsInitial z w → StartsEach (actors_of z) w nothing w' told → Went s past t w'
  opening_turn [] t z w w' told run first is remarks initial starts =
      subst (λ t. Went s [] t w') (sym (same_turn t (Opens s) (remarks_of told) (is ∙ ap Opens same) remarks))
      (opens_so s w w' told t.moment one run (subst (λ z. StartsEach (actors_of z) w nothing w' told) same starts))
    where
      same : z ≡ s
      same = sym initial.setup_is ∙ run.initial.setup_is
  opening_turn (p ∷ past) t z w w' told run first is remarks initial starts = absurd (not_first p past first)

  by_happening : (past : History) (t : Turn) (w w' : World) (told : Told) → NewRun s past w → Sound s past w → AreUpAlike past w → FliesAlike past w → (x : Happening) → t.happening ≡ x → t.remarks ≡ remarks_of told
      → is_opening x ≡ is_first past → IsBuilt x → IsTurn x w w' told → Went s past t w'
  by_happening past t w w' told run so alike flies (Opens z) is remarks first built happens = opening_turn past t z w w' told run first is remarks happens.0 happens.1
  by_happening past t w w' told run so alike flies (Reaches moment) is remarks first built happens =
      subst (λ t. Went s past t w') (sym (same_turn t (Reaches moment) (remarks_of told) is remarks))
      (passes forwards answers fit s one past w so.owner so.next so.is alike flies t.moment moment w' told happens.1 happens.2)
  by_happening past t w w' told run so alike flies (Happens e) is remarks first built happens =
      subst (λ t. Went s past t w') (sym (same_turn t (Happens e) (remarks_of told) is remarks))
      (follows forwards answers fit s one past w so.owner so.next so.is alike flies t.moment e w' told built happens)

  pub all_turns : (h : History) (w : World) → NewRun s h w → AreBuilt h → Keeps s h w
  all_turns [] w run built = record { sound = blank_sound s w run; legal = tt; licensed = tt; fenced = tt; wired = tt; remembers = tt; untold = nothing_told }
  all_turns (t ∷ past) w run built =
      let before = all_turns past run.0 run.1 built.0 in
      let so : Run s past run.0 = is_run s past run.0 run.1 in
      let now : Run s (t ∷ past) w = is_run s (t ∷ past) w run in
      let went = by_happening past t run.0 w run.3.told run.1 before.sound (up_alike s past run.0 so) (flies_alike s past run.0 so) t.happening refl run.3.remarks run.2 built.1 run.3.is in
      record {
        sound = went.sound;
        legal = (before.legal, record { may = went.legal; at_once = at_once past t t.happening (runs_answer_at_once s (t ∷ past) w now).1 });
        licensed = (before.licensed, record { may = went.licensed; dropped = went.drops });
        fenced = (before.fenced, went.fenced);
        wired = (
          before.wired,
          record {
            flying = (given_in_flight s (t ∷ past) w now).1;
            may = all_wired s past t [] t.remarks before.sound.is.tale tt (are_numbered s (t ∷ past) w now).1 (send_rightly s (t ∷ past) w now).1 went.wires;
            told = all_true s (volume_after (fresh s.volume) (t ∷ past)) (t ∷ past) past t t.remarks went.wires;
          },
        );
        remembers = (before.remembers, all_remembered past t [] t.remarks before.untold went.untold);
        untold = untold_goes past t before.untold went.untold;
      }

-- ---- drops alone

pub drops_of : (start : Volume) (h : History) → Licensed start h → DropsAreExact h
drops_of start [] licensed = tt
drops_of start (t ∷ past) licensed = (drops_of start past licensed.0, licensed.1.dropped)
