-- What is noted of datagrams that no server is asked about: the proxy's one segment for them.
use Rattle.std.proofs.Common.{◌≡◌, ℕ, ◌+◌, ◌==◌, Bool, true, false, not, T, List, [], ◌∷◌, ◌++◌, Option, Some, None, inl, inr, refl, ap, subst, sym, ◌∙◌, nat_le, if◌then◌else◌}
use Rattle.std.specs.FinMap as map
use Rattle.sl_defs.specs.declared.event.Event.TheVariants as event
use Rattle.sl_history.specs.Turns.{Remark, Turn}
use Rattle.sl_history.specs.Turns as note
use Rattle.sl_history.specs.Arrivals.{Datagram, IsJunk, IsAnswered, IsAsked, datagram, most_waiting}
use Rattle.sl_frames.specs.Actors.{is_directory, is_data}
use Rattle.sl_machine.specs.Memory.{Proxy, Actor}
use Rattle.sl_machine.specs.World.{World, Task, Given, Arrives, Goes, Wakes, Ticks, Opening, Scene, Segment, Told, nothing, scene, begun, played, told}
use Rattle.sl_machine.specs.Proxies.{arrives, notes, still, with_call, waiting_for, ProxyRow, IsTaken, IsGoing, IsWaking, IsUsed, IsRenewed, IsGreeted, IsIgnored, IsSentAgain}
use Rattle.sl_machine.specs.Runs.{May, ByProxy, ByCoordinator, ByDirectory, ByStore, ByOpenedProxy, ByOpenedCoordinator, ByOpenedDirectory, ByOpenedStore, Plays, Ends, Whole, Faulted, IsSpent, Follows, IsTurn, remarks_of, is_up}
use Rattle.sl_arrivals.specs.Arrivals.{AreNotes, AreNotesIf, ArrivalsAreNoted}

-- ---- tasks

is_arrival : Task → Bool
is_arrival (Arrives n client bytes) = true
is_arrival other = false

no_arrival : {n client : ℕ} {bytes : List ℕ} (t : Task) → is_arrival t ≡ false → Arrives n client bytes ≡ t → ⊥
unfolding is_arrival
no_arrival t other is = subst (λ b. T b) (ap is_arrival is ∙ other) tt

number_in : Task → ℕ
number_in (Arrives n client bytes) = n
number_in other = 0

client_in : Task → ℕ
client_in (Arrives n client bytes) = client
client_in other = 0

bytes_in : Task → List ℕ
bytes_in (Arrives n client bytes) = bytes
bytes_in other = []

first_or : Task → List Task → Task
first_or t [] = t
first_or t (u ∷ others) = u

is_nil : {A : Type 0} → List A → Bool
is_nil [] = true
is_nil (x ∷ xs) = false

not_nil : {A : Type 0} {x : A} {xs : List A} → x ∷ xs ≡ [] → ⊥
unfolding is_nil
not_nil is = subst (λ l. T (is_nil l)) (sym is) tt

is_none : {A : Type 0} → Option A → Bool
is_none None = true
is_none (Some x) = false

not_none : {A : Type 0} {x : A} → Some x ≡ None → ⊥
unfolding is_none
not_none is = subst (λ o. T (is_none o)) (sym is) tt

-- ---- the proxy's one row for a datagram

record Arrived (n client : ℕ) (bytes : List ℕ) (s : Segment) : Type 0 where
  proxy : Proxy
  does : s ≡ arrives proxy n client bytes (datagram bytes)

taken : (p : Proxy) (n client m c : ℕ) (bytes b : List ℕ) (s : Segment) → Arrives n client bytes ≡ Arrives m c b → s ≡ arrives p m c b (datagram b) → Arrived n client bytes s
unfolding number_in client_in bytes_in
taken p n client m c bytes b s is does = record { proxy = p; does = does ∙ ap (λ t. arrives p (number_in t) (client_in t) (bytes_in t) (datagram (bytes_in t))) (sym is) }

by_row : (x : Scene) (p : Proxy) (n client : ℕ) (bytes : List ℕ) (s : Segment) → ProxyRow x p (Arrives n client bytes) s → Arrived n client bytes s
unfolding is_arrival
by_row x p n client bytes s (IsTaken m c b is takes) = taken p n client m c bytes b s is takes.does
by_row x p n client bytes s (IsGoing m is goes) = absurd (no_arrival (Goes m) refl is)
by_row x p n client bytes s (IsWaking is wakes) = absurd (no_arrival Wakes refl is)
by_row x p n client bytes s (IsUsed f e is uses) = absurd (no_arrival (Given f e) refl is)
by_row x p n client bytes s (IsRenewed f e is renews) = absurd (no_arrival (Given f e) refl is)
by_row x p n client bytes s (IsGreeted f e is greets) = absurd (no_arrival (Given f e) refl is)
by_row x p n client bytes s (IsIgnored f e is ignores) = absurd (no_arrival (Given f e) refl is)
by_row x p n client bytes s (IsSentAgain is sends) = absurd (no_arrival Ticks refl is)

not_both : {b : Bool} → b ≡ true → b ≡ false → ⊥
not_both holds fails = subst (λ b. T b) (sym holds ∙ fails) tt

arrived : (x : Scene) (a : Actor) (n client : ℕ) (bytes : List ℕ) (s : Segment) → x.actor ≡ 0 → May x a (Arrives n client bytes) s → Arrived n client bytes s
unfolding is_arrival
arrived x a n client bytes s zero_is (ByProxy p is memory row) = by_row x p n client bytes s row
arrived x a n client bytes s zero_is (ByCoordinator m is memory row) = absurd (not_both (ap (λ i. i == 1) is) (ap (λ i. i == 1) zero_is))
arrived x a n client bytes s zero_is (ByDirectory m is memory row) = absurd (not_both is (ap is_directory zero_is))
arrived x a n client bytes s zero_is (ByStore m is memory row) = absurd (not_both is (ap is_data zero_is))
arrived x a n client bytes s zero_is (ByOpenedProxy is down t opens) = absurd (no_arrival Opening refl t)
arrived x a n client bytes s zero_is (ByOpenedCoordinator is down t opens) = absurd (no_arrival Opening refl t)
arrived x a n client bytes s zero_is (ByOpenedDirectory is down t opens) = absurd (no_arrival Opening refl t)
arrived x a n client bytes s zero_is (ByOpenedStore is down t opens) = absurd (no_arrival Opening refl t)

-- nothing is appended for it
none_by : (p : Proxy) (n client : ℕ) (bytes : List ℕ) (d : Datagram) → (arrives p n client bytes d).append ≡ None
none_by p n client bytes IsJunk = refl
none_by p n client bytes (IsAnswered answer) = refl
none_by p n client bytes (IsAsked a) = none_taken p.welcomed (nat_le most_waiting (map.len p.pending))
  where
    none_taken : (welcomed full : Bool)
        → (if not welcomed then notes p (note.Early n ∷ []) [] else if full then notes p (note.Full n ∷ []) [] else still (with_call n (waiting_for client bytes a) p) (Goes n ∷ [])).append ≡ None
    none_taken true true = refl
    none_taken true false = refl
    none_taken false full = refl

-- ---- its step

-- the step doesn't end before the datagram's segment
unended : (w w' : World) (now n' : Told) (n client : ℕ) (bytes : List ℕ) (left : List Task) → left ≡ Arrives n client bytes ∷ [] → Ends 0 left w now w' n' → ⊥
unfolding first_or is_arrival
unended w w' now n' n client bytes left is (Whole none world noted) = not_nil (sym is ∙ none)
unended w w' now n' n client bytes left is (Faulted cut) =
    let head = ap (first_or Opening) (sym is ∙ cut.next) in
    let segment = arrived (scene w 0) cut.actor n client bytes cut.segment refl (subst (λ t. May (scene w 0) cut.actor t cut.segment) (sym head) cut.may) in
    not_none (sym cut.append ∙ ap (λ s. s.append) segment.does ∙ none_by segment.proxy n client bytes (datagram bytes))
unended w w' now n' n client bytes left is (IsSpent spent) = no_arrival (Given spent.frame spent.event) refl (ap (first_or Opening) (sym is ∙ spent.next))

-- where nothing is left to do, the step has ended
over : (w w' : World) (now n' : Told) (left : List Task) → left ≡ [] → Ends 0 left w now w' n' → n' ≡ now
over w w' now n' left none (Whole is world noted) = noted
over w w' now n' left none (Faulted cut) = absurd (not_nil (sym cut.next ∙ none))
over w w' now n' left none (IsSpent spent) = absurd (not_nil (sym spent.next ∙ none))

ended : (w middle w' : World) (now so_far n' : Told) (ss : List Segment) (left : List Task) → Plays 0 [] w now ss left middle so_far → Ends 0 left middle so_far w' n' → n' ≡ now
ended w middle w' now so_far n' [] left plays ends = over middle w' so_far n' left plays.0 ends ∙ plays.2
ended w middle w' now so_far n' (s ∷ ss) left plays ends = absurd plays

-- a segment behind which nothing is left to do tells all
tells : (w middle w' : World) (so_far n' : Told) (a : Actor) (s t : Segment) (ss : List Segment) (left : List Task) → s ≡ t → t.todo ≡ []
    → Plays 0 (s.todo ++ []) (played w 0 a s) (told w s nothing) ss left middle so_far → Ends 0 left middle so_far w' n' → remarks_of n' ≡ remarks_of (told w t nothing)
tells w middle w' so_far n' a s t ss left is none plays ends =
    ap remarks_of (ended (played w 0 a s) middle w' (told w s nothing) so_far n' ss left
    (subst (λ todo. Plays 0 (todo ++ []) (played w 0 a s) (told w s nothing) ss left middle so_far) (ap (λ u. u.todo) is ∙ none) plays) ends
    ∙ ap (λ u. told w u nothing) is)

by_datagram : (w middle w' : World) (so_far n' : Told) (a : Actor) (p : Proxy) (n client : ℕ) (bytes : List ℕ) (d : Datagram) (s : Segment) (ss : List Segment) (left : List Task)
    → s ≡ arrives p n client bytes d → Plays 0 (s.todo ++ []) (played w 0 a s) (told w s nothing) ss left middle so_far → Ends 0 left middle so_far w' n'
    → AreNotes n d (remarks_of n')
by_datagram w middle w' so_far n' a p n client bytes IsJunk s ss left is plays ends = tells w middle w' so_far n' a s (arrives p n client bytes IsJunk) ss left is refl plays ends
by_datagram w middle w' so_far n' a p n client bytes (IsAnswered answer) s ss left is plays ends =
    tells w middle w' so_far n' a s (arrives p n client bytes (IsAnswered answer)) ss left is refl plays ends
by_datagram w middle w' so_far n' a p n client bytes (IsAsked asked) s ss left is plays ends = tt

by_segments : (w middle w' : World) (so_far n' : Told) (n client : ℕ) (bytes : List ℕ) (segments : List Segment) (left : List Task)
    → Plays 0 (Arrives n client bytes ∷ []) w nothing segments left middle so_far → Ends 0 left middle so_far w' n' → AreNotes n (datagram bytes) (remarks_of n')
by_segments w middle w' so_far n' n client bytes [] left plays ends = absurd (unended middle w' so_far n' n client bytes left plays.0 ends)
by_segments w middle w' so_far n' n client bytes (s ∷ ss) left plays ends =
    let segment = arrived (scene w 0) plays.0 n client bytes s refl plays.2 in
    by_datagram w middle w' so_far n' plays.0 segment.proxy n client bytes (datagram bytes) s ss left segment.does plays.3 ends

-- ---- its turn

by_outcome : (w w' : World) (noted : Told) (client : ℕ) (bytes : List ℕ) → Follows (event.Call client bytes) (begun w) w' noted
    → AreNotesIf (is_up (map.get w.actors 0)) (w.event + 1) (datagram bytes) (remarks_of noted)
by_outcome w w' noted client bytes (inl reached) =
    subst (λ up. AreNotesIf up (w.event + 1) (datagram bytes) (remarks_of noted)) (sym reached.up)
    (by_segments (begun w) reached.steps.middle w' reached.steps.so_far noted (w.event + 1) client bytes reached.steps.segments reached.steps.left reached.steps.plays reached.steps.ends)
by_outcome w w' noted client bytes (inr lost) =
    subst (λ up. AreNotesIf up (w.event + 1) (datagram bytes) (remarks_of noted)) (sym lost.down) (ap remarks_of lost.noted)

pub arrivals_are_noted : ArrivalsAreNoted
arrivals_are_noted w w' t client bytes is run =
    subst (λ remarks. AreNotesIf (is_up (map.get w.actors 0)) (w.event + 1) (datagram bytes) remarks) (sym run.remarks)
    (by_outcome w w' run.told client bytes (subst (λ happening. IsTurn happening w w' run.told) is run.is))
