-- What a turn does to frames and numbers.
use Rattle.std.proofs.Common.{◌≡◌, ℕ, ◌+◌, ◌≤◌, ◌++◌, true, false, List, [], ◌∷◌, Option, Some, None, length, refl, sym, ap, subst, ◌∙◌, ◌⊎◌, inl, inr, arith}
use Rattle.std.specs.Prelude.{is_some}
use Rattle.std.specs.Ordering.{nat_cmp}
use Rattle.std.specs.FinMap.{FinMap, get, insert, remove}
use Rattle.std.specs.FinMap as map
use Rattle.sl_defs.specs.Histories.{Happening, Opens, Reaches, Happens, event_count}
use Rattle.sl_defs.specs.declared.setup.Setup.{Setup}
use Rattle.sl_defs.specs.declared.setup.Time.{Time}
use Rattle.sl_defs.specs.declared.event.Event.{Event}
use Rattle.sl_defs.specs.declared.event.Event.TheVariants as event
use Rattle.sl_frames.specs.declared.frame.Frame.{Frame}
use Rattle.sl_history.specs.Turns.{Remark, Turn, Lost, Down}
use Rattle.sl_history.specs.Frames.{named_number}
use Rattle.sl_history.specs.Legal.{NotAfter}
use Rattle.sl_machine.specs.Memory.{Actor}
use Rattle.sl_machine.specs.World.{World, Flying, Task, Given, Arrives, Ticks, Opening, Told, nothing, launched, numbered, landed, begun, done_after, stopped_actor}
use Rattle.sl_machine.specs.Openings.{settled}
use Rattle.sl_machine.specs.Proxies.{hello}
use Rattle.sl_machine.specs.Runs.{Steps, is_up, Silent, IfUp, Begins, FailsToOpen, Starts, StartsEach, IfDown, opened_actor, noted_of, InFlight, Follows, IsTurn, TurnRun, actors_of}
use Rattle.sl_transport.proofs.Moving.{Moves, NoneSent, none_sent, moves_both, moves_at, moves_noting, moves_nothing}
use Rattle.sl_transport.proofs.Proper.{Each}
use Rattle.sl_transport.proofs.Stepping.{IsFrom, HoldOwn, hold_put, put_else, EachTask, Does, Stepped, steps_move}
use Rattle.sl_transport.proofs.Opened.{OpensSome, opening_does, plain_settled}

-- ---- openings

begins_move : (i : ℕ) (T : Task → Type 0) (S : Frame → Type 0) → Does i T S → T Opening → (w : World) (n : Told) (w' : World) (n' : Told) → HoldOwn w.actors → Begins i w n w' n' → Stepped i S w n w' n'
begins_move i T S does opening w n w' n' own begins = record {
  moves = moves_both (moves_noting S w n read (done_after notes w.event w.done_in) notes (none_sent notes (plain_settled (noted_of w i) begins.records))) rest.moves;
  own = rest.own;
  others = λ j apart. rest.others j apart ∙ put_else w.actors i (opened_actor begins.actor begins.records) j apart;
}
  where
    notes : List Remark
    notes = settled (noted_of w i) begins.records

    read : FinMap nat_cmp Actor
    read = insert w.actors i (opened_actor begins.actor begins.records)

    rest : Stepped i S (record w { actors = read; done_in = done_after notes w.event w.done_in }) (record n { notes = n.notes ++ notes }) w' n'
    rest = steps_move i T S does (Opening ∷ []) (record w { actors = read; done_in = done_after notes w.event w.done_in }) (record n { notes = n.notes ++ notes }) w' n' (opening, tt)
        (hold_put w.actors i (opened_actor begins.actor begins.records) own tt) begins.steps

fails_move : (i : ℕ) (S : Frame → Type 0) (w : World) (n : Told) (w' : World) (n' : Told) → HoldOwn w.actors → FailsToOpen i w n w' n' → Stepped i S w n w' n'
fails_move i S w n w' n' own fails = record {
  moves = moves_at (moves_noting S w n w.actors w.done_in (Down i ∷ []) tt) fails.world fails.noted;
  own = subst (λ (z : World). HoldOwn z.actors) (sym fails.world) own;
  others = λ j apart. ap (λ (z : World). get z.actors j) fails.world;
}

starts_move : (i : ℕ) (T : Task → Type 0) (S : Frame → Type 0) → Does i T S → T Opening → (w : World) (n : Told) (w' : World) (n' : Told) → HoldOwn w.actors → Starts i w n w' n' → Stepped i S w n w' n'
starts_move i T S does opening w n w' n' own (inl begins) = begins_move i T S does opening w n w' n' own begins
starts_move i T S does opening w n w' n' own (inr fails) = fails_move i S w n w' n' own fails

-- ---- a part of a turn, whoever does it

pub record Parts (S : Frame → Type 0) (w : World) (n : Told) (w' : World) (n' : Told) : Type 0 where
  pub moves : Moves S w n w' n'
  pub own : HoldOwn w'.actors

parts_nothing : (S : Frame → Type 0) (w : World) (n : Told) (w' : World) (n' : Told) → HoldOwn w.actors → Silent w n w' n' → Parts S w n w' n'
parts_nothing S w n w' n' own silent = record {
  moves = moves_at (moves_nothing S w n) silent.0 silent.1;
  own = subst (λ (z : World). HoldOwn z.actors) (sym silent.0) own;
}

each_starts : (S : Frame → Type 0) → ((fence : ℕ) → S (hello fence)) → (is : List ℕ) (w : World) (n : Told) (w' : World) (n' : Told) → HoldOwn w.actors → StartsEach is w n w' n' → Parts S w n w' n'
each_starts S says [] w n w' n' own starts = parts_nothing S w n w' n' own starts
each_starts S says (i ∷ is) w n w' n' own starts =
    let first = starts_move i OpensSome S (opening_does i S says) tt w n starts.0 starts.1 own starts.2 in
    let rest = each_starts S says is starts.0 starts.1 w' n' first.own starts.3 in
    record { moves = moves_both first.moves rest.moves; own = rest.own }

-- ---- an event

abbrev AnyTask : Task → Type 0
AnyTask t = Unit {0}

any_tasks : (ts : List Task) → EachTask AnyTask ts
any_tasks [] = tt
any_tasks (t ∷ ts) = (tt, any_tasks ts)

own_does : (i : ℕ) (S : Frame → Type 0) → ((f : Frame) → f.from ≡ i → S f) → Does i AnyTask S
own_does i S own = record { does = λ x a t s is h from may. (each s.frames from, any_tasks s.todo) }
  where
    each : (fs : List Frame) → Each (IsFrom i) fs → Each S fs
    each [] h = tt
    each (f ∷ fs) h = (own f h.0, each fs h.1)

stepped_nothing : (i : ℕ) (S : Frame → Type 0) (w : World) (n : Told) (w' : World) (n' : Told) → HoldOwn w.actors → Silent w n w' n' → Stepped i S w n w' n'
stepped_nothing i S w n w' n' own silent = record {
  moves = moves_at (moves_nothing S w n) silent.0 silent.1;
  own = subst (λ (z : World). HoldOwn z.actors) (sym silent.0) own;
  others = λ j apart. ap (λ (z : World). get z.actors j) silent.0;
}

does_move : (i : ℕ) (S : Frame → Type 0) → ((f : Frame) → f.from ≡ i → S f) → (t : Task) (w : World) (n : Told) (w' : World) (n' : Told) → HoldOwn w.actors
    → Steps i (t ∷ []) w n w' n' → Stepped i S w n w' n'
does_move i S sends t w n w' n' own steps = steps_move i AnyTask S (own_does i S sends) (t ∷ []) w n w' n' (tt, tt) own steps

if_up_move : (i : ℕ) (S : Frame → Type 0) (t : Task) (w : World) (n : Told) (w' : World) (n' : Told) → (is_up (get w.actors i) ≡ true → (f : Frame) → f.from ≡ i → S f) → HoldOwn w.actors
    → IfUp i (t ∷ []) w n w' n' → Stepped i S w n w' n'
if_up_move i S t w n w' n' sends own (inl up) = does_move i S (sends up.0) t w n w' n' own up.1
if_up_move i S t w n w' n' sends own (inr down) = stepped_nothing i S w n w' n' own down.1

if_down_move : (i : ℕ) (S : Frame → Type 0) (w : World) (n : Told) (w' : World) (n' : Told) → (is_up (get w.actors i) ≡ false → (f : Frame) → f.from ≡ i → S f) → HoldOwn w.actors
    → IfDown i w n w' n' → Stepped i S w n w' n'
if_down_move i S w n w' n' sends own (inl down) = starts_move i AnyTask S (own_does i S (sends down.0)) tt w n w' n' own down.1
if_down_move i S w n w' n' sends own (inr up) = stepped_nothing i S w n w' n' own up.1

parts_of : {S : Frame → Type 0} (i : ℕ) {w : World} {n : Told} {w' : World} {n' : Told} → Stepped i S w n w' n' → Parts S w n w' n'
parts_of i p = record { moves = p.moves; own = p.own }

-- the event is this actor's
abbrev pub ActsIn : Event → World → ℕ → Type 0
ActsIn (event.Call client bytes) w i = (i ≡ 0) × (is_up (get w.actors i) ≡ true)
ActsIn (event.Give k) w i = (x : InFlight w k) × (x.flying.frame.to ≡ i) × (is_up (get w.actors i) ≡ true)
ActsIn (event.Copy k) w i = (x : InFlight w k) × (x.flying.frame.to ≡ i) × (is_up (get w.actors i) ≡ true)
ActsIn event.Tick w i = ((i ≡ 0) ⊎ (i ≡ 1)) × (is_up (get w.actors i) ≡ true)
ActsIn (event.Start b) w i = (b ≡ i) × (is_up (get w.actors i) ≡ false)
ActsIn other w i = ⊥

-- the event ends a flight
abbrev pub landed_by : Event → World → World
landed_by (event.Give k) w = landed w k
landed_by (event.Drop k) w = landed w k
landed_by other w = w

pub follows_move : (S : Frame → Type 0) (e : Event) (w : World) (w' : World) (n' : Told) → ((i : ℕ) → ActsIn e w i → (f : Frame) → f.from ≡ i → S f) → HoldOwn w.actors
    → Follows e w w' n' → Parts S (landed_by e w) nothing w' n'
follows_move S (event.Call client bytes) w w' n' sends own (inl reached) = parts_of 0 (does_move 0 S (sends 0 (refl, reached.up)) (Arrives w.event client bytes) w nothing w' n' own reached.steps)
follows_move S (event.Call client bytes) w w' n' sends own (inr lost) = record {
  moves = moves_at (moves_noting S w nothing w.actors w.done_in (Lost w.event ∷ []) tt) lost.world lost.noted;
  own = subst (λ (z : World). HoldOwn z.actors) (sym lost.world) own;
}
follows_move S (event.Give k) w w' n' sends own (x, given) =
    parts_of x.flying.frame.to (if_up_move x.flying.frame.to S (Given x.flying.frame x.flying.event) (landed w k) nothing w' n' (λ up. sends x.flying.frame.to (x, refl, up)) own given)
follows_move S (event.Copy k) w w' n' sends own (x, given) =
    parts_of x.flying.frame.to (if_up_move x.flying.frame.to S (Given x.flying.frame x.flying.event) w nothing w' n' (λ up. sends x.flying.frame.to (x, refl, up)) own given)
follows_move S (event.Drop k) w w' n' sends own follows = parts_nothing S (landed w k) nothing w' n' own follows.1
follows_move S event.Tick w w' n' sends own both =
    let first = if_up_move 0 S Ticks w nothing both.middle both.so_far (λ up. sends 0 (inl refl, up)) own both.proxy in
    let rest = if_up_move 1 S Ticks both.middle both.so_far w' n' (λ up. sends 1 (inr refl, sym (ap is_up (first.others 1 refl)) ∙ up)) first.own both.coordinator in
    record { moves = moves_both first.moves rest.moves; own = rest.own }
follows_move S (event.Stop i image) w w' n' sends own stops = record {
  moves = moves_at (moves_noting S w nothing (insert w.actors i (stopped_actor stops.actor)) w.done_in [] tt) stops.world stops.noted;
  own = subst (λ (z : World). HoldOwn z.actors) (sym stops.world) (hold_put w.actors i (stopped_actor stops.actor) own tt);
}
follows_move S (event.Start i) w w' n' sends own follows = parts_of i (if_down_move i S w nothing w' n' (λ down. sends i (refl, down)) own follows)
follows_move S (event.Fuse i after image) w w' n' sends own silent = parts_nothing S w nothing w' n' own silent
follows_move S (event.Fail i after) w w' n' sends own silent = parts_nothing S w nothing w' n' own silent

-- ---- a turn

-- what may be sent in a turn is of this kind: the proxy's Hello at the opening, and frames of those whose event it is
abbrev pub MaySend : Happening → World → (Frame → Type 0) → Type 0
MaySend (Opens setup) w S = (fence : ℕ) → S (hello fence)
MaySend (Reaches moment) w S = Unit {0}
MaySend (Happens e) w S = (i : ℕ) → ActsIn e (begun w) i → (f : Frame) → f.from ≡ i → S f

abbrev pub flight_by : Happening → FinMap nat_cmp Flying → FinMap nat_cmp Flying
flight_by (Happens (event.Give k)) flight = remove flight k
flight_by (Happens (event.Drop k)) flight = remove flight k
flight_by other flight = flight

abbrev pub HasNamed : Option ℕ → FinMap nat_cmp Flying → Type 0
HasNamed None flight = Unit {0}
HasNamed (Some k) flight = map.contains_key flight k ≡ true

pub record TurnMoves (S : Frame → Type 0) (w : World) (t : Turn) (w' : World) : Type 0 where
  pub frames : List Frame
  pub notes : List Remark
  pub remarks : t.remarks ≡ numbered w.next_frame frames ++ notes
  pub each : Each S frames
  pub quiet : NoneSent notes
  pub flight : w'.flight ≡ launched (flight_by t.happening w.flight) w.next_frame (w.event + event_count t.happening) frames
  pub next_frame : w'.next_frame ≡ w.next_frame + length frames
  pub event : w'.event ≡ w.event + event_count t.happening
  pub named : HasNamed (named_number t.happening) w.flight
  pub moment : t.moment ≡ w'.moment
  pub rises : NotAfter w.moment w'.moment
  pub own : HoldOwn w'.actors

-- the same of what happens, apart from the turn
pub record Happened (S : Frame → Type 0) (x : Happening) (w : World) (n : Told) (w' : World) : Type 0 where
  pub frames : List Frame
  pub notes : List Remark
  pub sent : n.frames ≡ numbered w.next_frame frames
  pub noted : n.notes ≡ notes
  pub each : Each S frames
  pub quiet : NoneSent notes
  pub flight : w'.flight ≡ launched (flight_by x w.flight) w.next_frame (w.event + event_count x) frames
  pub next_frame : w'.next_frame ≡ w.next_frame + length frames
  pub event : w'.event ≡ w.event + event_count x
  pub named : HasNamed (named_number x) w.flight
  pub rises : NotAfter w.moment w'.moment
  pub own : HoldOwn w'.actors

not_after : (a b : Time) → b ≡ a → NotAfter a b
not_after a b e = subst (NotAfter a) (sym e) (inl (refl, le_same a.nsec))
  where
    le_same : (n : ℕ) → n ≤ n
    le_same n = omega arith

none_more : (n : ℕ) → n ≡ n + 0
none_more n = omega arith

-- as the event begins
record Lands (e : Event) (w : World) : Type 0 where
  flight : (landed_by e (begun w)).flight ≡ flight_by (Happens e) w.flight
  next_frame : (landed_by e (begun w)).next_frame ≡ w.next_frame
  event : (landed_by e (begun w)).event ≡ w.event + 1
  moment : (landed_by e (begun w)).moment ≡ w.moment

lands : (e : Event) (w : World) → Lands e w
lands (event.Give k) w = record { flight = refl; next_frame = refl; event = refl; moment = refl }
lands (event.Drop k) w = record { flight = refl; next_frame = refl; event = refl; moment = refl }
lands other w = record { flight = refl; next_frame = refl; event = refl; moment = refl }

has_named : (e : Event) (w : World) (w' : World) (n' : Told) → Follows e (begun w) w' n' → HasNamed (named_number (Happens e)) w.flight
has_named (event.Give k) w w' n' (x, given) = ap is_some x.is
has_named (event.Copy k) w w' n' (x, given) = ap is_some x.is
has_named (event.Drop k) w w' n' follows = ap is_some follows.0.is
has_named other w w' n' follows = tt

opened : (S : Frame → Type 0) (setup : Setup) (w : World) (n : Told) (w' : World) → Parts S w nothing w' n → Happened S (Opens setup) w n w'
opened S setup w n w' p = record {
  frames = p.moves.frames;
  notes = p.moves.notes;
  sent = p.moves.sent;
  noted = p.moves.noted;
  each = p.moves.each;
  quiet = p.moves.quiet;
  flight = p.moves.flight ∙ ap (λ e. launched w.flight w.next_frame e p.moves.frames) (none_more w.event);
  next_frame = p.moves.next_frame;
  event = p.moves.event ∙ none_more w.event;
  named = tt;
  rises = not_after w.moment w'.moment p.moves.moment;
  own = p.own;
}

reached : (S : Frame → Type 0) (moment : Time) (w : World) (n : Told) (w' : World) → HoldOwn w.actors → NotAfter w.moment moment → w' ≡ record w { moment = moment } → n ≡ nothing
    → Happened S (Reaches moment) w n w'
reached S moment w n w' own later e none = record {
  frames = [];
  notes = [];
  sent = ap (λ (t : Told). t.frames) none;
  noted = ap (λ (t : Told). t.notes) none;
  each = tt;
  quiet = tt;
  flight = ap (λ (z : World). z.flight) e;
  next_frame = ap (λ (z : World). z.next_frame) e ∙ none_more w.next_frame;
  event = ap (λ (z : World). z.event) e ∙ none_more w.event;
  named = tt;
  rises = subst (λ (z : World). NotAfter w.moment z.moment) (sym e) later;
  own = subst (λ (z : World). HoldOwn z.actors) (sym e) own;
}

followed : (S : Frame → Type 0) (e : Event) (w : World) (n : Told) (w' : World) → Lands e w → HasNamed (named_number (Happens e)) w.flight → Parts S (landed_by e (begun w)) nothing w' n
    → Happened S (Happens e) w n w'
followed S e w n w' l named p = record {
  frames = p.moves.frames;
  notes = p.moves.notes;
  sent = p.moves.sent ∙ ap (λ k. numbered k p.moves.frames) l.next_frame;
  noted = p.moves.noted;
  each = p.moves.each;
  quiet = p.moves.quiet;
  flight = p.moves.flight ∙ ap (λ m. launched m (landed_by e (begun w)).next_frame (landed_by e (begun w)).event p.moves.frames) l.flight
      ∙ ap (λ k. launched (flight_by (Happens e) w.flight) k (landed_by e (begun w)).event p.moves.frames) l.next_frame
      ∙ ap (λ k. launched (flight_by (Happens e) w.flight) w.next_frame k p.moves.frames) l.event;
  next_frame = p.moves.next_frame ∙ ap (λ k. k + length p.moves.frames) l.next_frame;
  event = p.moves.event ∙ l.event;
  named = named;
  rises = not_after w.moment w'.moment (p.moves.moment ∙ l.moment);
  own = p.own;
}

pub happened : (S : Frame → Type 0) (x : Happening) (w : World) (n : Told) (w' : World) → MaySend x w S → HoldOwn w.actors → IsTurn x w w' n → Happened S x w n w'
happened S (Opens setup) w n w' sends own is = opened S setup w n w' (each_starts S sends (actors_of setup) w nothing w' n own is.1)
happened S (Reaches moment) w n w' sends own is = reached S moment w n w' own is.0 is.1 is.2
happened S (Happens e) w n w' sends own is = followed S e w n w' (lands e w) (has_named e w w' n is) (follows_move S e (begun w) w' n sends own is)

pub turn_moves : (S : Frame → Type 0) (w : World) (t : Turn) (w' : World) → MaySend t.happening w S → HoldOwn w.actors → TurnRun w t w' → TurnMoves S w t w'
turn_moves S w t w' sends own turn =
    let h = happened S t.happening w turn.told w' sends own turn.is in
    record {
      frames = h.frames;
      notes = h.notes;
      remarks = turn.remarks ∙ ap (λ rs. rs ++ turn.told.notes) h.sent ∙ ap (λ rs. numbered w.next_frame h.frames ++ rs) h.noted;
      each = h.each;
      quiet = h.quiet;
      flight = h.flight;
      next_frame = h.next_frame;
      event = h.event;
      named = h.named;
      moment = turn.moment;
      rises = h.rises;
      own = h.own;
    }
