-- How a datagram's step ends.
use Rattle.std.proofs.Common.{◌≡◌, ℕ, ◌==◌, ◌&&◌, ◌||◌, Bool, true, false, not, List, [], ◌∷◌, ◌++◌, Option, Some, None, Result, Ok, Err, refl, sym, ap, subst, ◌∙◌, arith, nat_le, if◌then◌else◌}
use Rattle.std.specs.Ordering.{nat_cmp}
use Rattle.std.specs.FinMap.{FinMap, get, remove, len}
use Rattle.sl_defs.specs.declared.setup.Setup.{Setup}
use Rattle.sl_types.specs.declared.call.Call.TheVariants as call
use Rattle.sl_types.specs.declared.handle.Handle.{Handle}
use Rattle.sl_types.specs.Handles.{handle_of}
use Rattle.sl_types.specs.declared.kind.Kind.TheVariants as kind
use Rattle.sl_types.specs.declared.kind.Status.{Status}
use Rattle.sl_types.specs.declared.kind.Status.TheVariants as status
use Rattle.sl_types.specs.declared.reply.Reply.TheVariants as reply
use Rattle.sl_cells.specs.Reading.{is_id}
use Rattle.sl_model.specs.Checks.{same_kind}
use Rattle.sl_model.specs.Looking.{attributes}
use Rattle.sl_model.specs.Perform.{new_root}
use Rattle.sl_history.specs.Turns.{Remark}
use Rattle.sl_history.specs.Turns as note
use Rattle.sl_history.specs.Arrivals.{Asked, Datagram, IsJunk, IsAnswered, IsAsked, datagram, answer_to, most_waiting}
use Rattle.sl_machine.specs.Records.{Record}
use Rattle.sl_machine.specs.Memory.{Waiting, Proxy, Actor, OfProxy, no_soft}
use Rattle.sl_machine.specs.Calls.{is_foreign}
use Rattle.sl_machine.specs.World.{World, Scene, Arrives, Goes, Wakes, Segment, Told, nothing, scene, played, told, after_segment}
use Rattle.sl_machine.specs.Wants.{plainly, AtOnce}
use Rattle.sl_machine.specs.Proxies.{still, notes, with_call, takes, arrives, does_want}
use Rattle.sl_machine.specs.Runs.{Steps}
use Rattle.sl_getattr.specs.Built.{IsTaken, IsGetattr}
use Rattle.sl_getattr.proofs.Looking.{look_by, is_root}
use Rattle.sl_getattr.proofs.Maps.{has_put, take_put, of_removal}
use Rattle.sl_getattr.proofs.Wanting.{target_by, refusal, refusal_is, wants_refusal}
use Rattle.sl_getattr.proofs.Doing.{Did, did_last, did_then, plays_on}
use Rattle.sl_getattr.proofs.Rows.{apart, arrives_row}
use Rattle.sl_getattr.proofs.Arriving.{AreShared, wakes_none, goes_on, fresh_call, with_look, its_frame, locked_then}

-- ---- what is refused is refused by the one server too

pub true_false : true ≡ false → ⊥
true_false e = cc

not_there : (s : Setup) (h : Handle) → is_foreign s h ≡ true → is_root s.volume h ≡ false
not_there s h foreign = by h.fileid h.volume s.volume (same_kind kind.Dir h.kind) foreign
  where
    one : (f : ℕ) → (f == 1) ≡ true → is_id f ≡ true
    one f is = ap is_id (same f is)
      where
        same : (f : ℕ) → (f == 1) ≡ true → f ≡ 1
        same f is = grind arith

    swapped : (a b : ℕ) → (a == b) ≡ (b == a)
    swapped a b = grind arith

    cases : (root id same kind : Bool) → (root ≡ true → id ≡ true) → (not same || not id) ≡ true → (root && (same && kind)) ≡ false
    cases false id same kind known foreign = refl
    cases true true true kind known foreign = absurd (true_false (sym foreign))
    cases true true false kind known foreign = refl
    cases true false same kind known foreign = absurd (true_false (sym (known refl)))

    by : (f v number : ℕ) (kind : Bool) → (not (v == number) || not (is_id f)) ≡ true → ((f == 1) && ((number == v) && kind)) ≡ false
    by f v number kind foreign = ap (λ b. (f == 1) && (b && kind)) (swapped number v) ∙ cases (f == 1) (is_id f) (v == number) kind (one f) foreign

status_or : {A : Type 0} → Status → Result A Status → Status
status_or t (Ok x) = t
status_or t (Err u) = u

is_fault : {A : Type 0} → Result A Status → Bool
is_fault (Ok x) = false
is_fault (Err u) = true

same_status : (A : Type 0) (t u : Status) → ◌≡◌ {A = Result A Status} (Err t) (Err u) → t ≡ u
unfolding status_or
same_status A t u is = ap (status_or t) is

no_fault : {A : Type 0} (x : A) (t : Status) → Ok x ≡ Err t → ⊥
unfolding is_fault
no_fault x t is = true_false (ap is_fault (sym is))

pub refused_look : (s : Setup) (o : Option Handle) (t : Status) → target_by s o ≡ Err t → look_by s.volume o ≡ Err t
refused_look s None t is = ap Err (same_status Handle status.BadHandle t is)
refused_look s (Some h) t is = by (is_foreign s h) refl is
  where
    by : (b : Bool) → is_foreign s h ≡ b → (if b then Err status.Stale else Ok h) ≡ Err t → look_by s.volume (Some h) ≡ Err t
    by true foreign is =
        ap (λ b. if b then Ok (attributes (new_root s.volume)) else Err status.Stale) (not_there s h foreign) ∙ ap Err (same_status Handle status.Stale t is)
    by false own is = absurd (no_fault h t is)

-- ---- how the step ends

-- the datagram is answered or dropped at once, and this is noted
pub data IsNote (p : Proxy) (k : ℕ) (bytes : List ℕ) (r : Remark) : Type 0 where
  OfJunk : datagram bytes ≡ IsJunk → r ≡ note.Junk k → IsNote p k bytes r
  OfAnswer : (answer : List ℕ) → datagram bytes ≡ IsAnswered answer → r ≡ note.Replied k k answer → IsNote p k bytes r
  OfEarly : (q : Asked) → datagram bytes ≡ IsAsked q → p.welcomed ≡ false → r ≡ note.Early k → IsNote p k bytes r
  OfFull : (q : Asked) → datagram bytes ≡ IsAsked q → p.welcomed ≡ true → nat_le most_waiting (len p.pending) ≡ true → r ≡ note.Full k → IsNote p k bytes r

-- a GETATTR was let in
pub record IsIn (p : Proxy) (bytes object : List ℕ) (q : Asked) : Type 0 where
  pub read : datagram bytes ≡ IsAsked q
  pub procedure : q.procedure ≡ 1
  pub asks : q.call ≡ call.Getattr object
  pub welcomed : p.welcomed ≡ true
  pub room : nat_le most_waiting (len p.pending) ≡ false

pub data Arrival (w : World) (rs : List Record) (p : Proxy) (k client : ℕ) (bytes : List ℕ) (w' : World) (n' : Told) : Type 0 where
  -- one note says all
  Noted : (r : Remark) → IsNote p k bytes r → Did 0 w nothing w' n' (Some (OfProxy p)) rs [] (r ∷ []) → Arrival w rs p k client bytes w' n'
  -- it is refused before any server is asked
  Refused : (object : List ℕ) (q : Asked) → IsIn p bytes object q
      → Did 0 w nothing w' n' (Some (OfProxy (record p { pending = remove p.pending k }))) rs [] (note.Replied k k (answer_to q (reply.Getattr (look_by w.setup.volume (handle_of object)))) ∷ [])
      → Arrival w rs p k client bytes w' n'
  -- its request goes out
  Asks : (object : List ℕ) (q : Asked) (h : Handle) → IsIn p bytes object q → handle_of object ≡ Some h → is_foreign w.setup h ≡ false
      → Did 0 w nothing w' n' (Some (OfProxy (with_look p k client bytes q h))) rs (its_frame p k client bytes q h ∷ []) []
      → Arrival w rs p k client bytes w' n'

-- ---- each way

-- a call that may wait
abbrev waiting : Proxy → ℕ → ℕ → List ℕ → Asked → Segment
waiting p k client bytes q = still (with_call k (fresh_call client bytes q) p) (Goes k ∷ [])

takes_in : (p : Proxy) (k client : ℕ) (bytes : List ℕ) (q : Asked) → p.welcomed ≡ true → nat_le most_waiting (len p.pending) ≡ false → takes p k client bytes q ≡ waiting p k client bytes q
takes_in p k client bytes q welcomed room =
    ap (λ b. if not b then notes p (note.Early k ∷ []) [] else if nat_le most_waiting (len p.pending) then notes p (note.Full k ∷ []) [] else waiting p k client bytes q) welcomed
    ∙ ap (λ b. if b then notes p (note.Full k ∷ []) [] else waiting p k client bytes q) room

takes_none : (p : Proxy) (k client : ℕ) (bytes : List ℕ) (q : Asked) → p.welcomed ≡ false → takes p k client bytes q ≡ notes p (note.Early k ∷ []) []
takes_none p k client bytes q early =
    ap (λ b. if not b then notes p (note.Early k ∷ []) [] else if nat_le most_waiting (len p.pending) then notes p (note.Full k ∷ []) [] else waiting p k client bytes q) early

takes_no_more : (p : Proxy) (k client : ℕ) (bytes : List ℕ) (q : Asked) → p.welcomed ≡ true → nat_le most_waiting (len p.pending) ≡ true → takes p k client bytes q ≡ notes p (note.Full k ∷ []) []
takes_no_more p k client bytes q welcomed full =
    ap (λ b. if not b then notes p (note.Early k ∷ []) [] else if nat_le most_waiting (len p.pending) then notes p (note.Full k ∷ []) [] else waiting p k client bytes q) welcomed
    ∙ ap (λ b. if b then notes p (note.Full k ∷ []) [] else waiting p k client bytes q) full

-- a refusal takes the call out again
refused_is : (x : Scene) (p : Proxy) (k client : ℕ) (bytes : List ℕ) (q : Asked) (t : Status)
    → does_want x (with_call k (fresh_call client bytes q) p) k (fresh_call client bytes q) (plainly AtOnce (reply.Getattr (Err t)))
    ≡ notes (record p { pending = remove p.pending k }) (note.Replied k x.event (answer_to q (reply.Getattr (Err t))) ∷ []) (Wakes ∷ [])
refused_is x p k client bytes q t =
    ap (λ m. notes (record p { pending = m }) (note.Replied k x.event (answer_to q (reply.Getattr (Err t))) ∷ []) (Wakes ∷ [])) (take_put p.pending k (fresh_call client bytes q))

pub fewer : (m : FinMap nat_cmp Waiting) (k : ℕ) → AreShared m → AreShared (remove m k)
fewer m k all n c there = all n c (of_removal m k n c there).there

module _ (w : World) (a : Actor) (p : Proxy) (client : ℕ) (bytes : List ℕ) (w' : World) (n' : Told) (is : get w.actors 0 ≡ Some a) (up : a.memory ≡ Some (OfProxy p)) where
  -- its first segment
  first : (s : Segment) → arrives p w.event client bytes (datagram bytes) ≡ s → s.append ≡ None → Steps 0 (Arrives w.event client bytes ∷ []) w nothing w' n'
      → Steps 0 (s.todo ++ []) (played w 0 a s) (told w s nothing) w' n'
  first s does none steps =
      plays_on w nothing a p (Arrives w.event client bytes) [] w' n' s is up (λ z row. arrives_row (scene w 0) p w.event client bytes z row ∙ does) none (λ f e t uses broken. apart t refl) steps

  noted_so : (r : Remark) → IsNote p w.event bytes r → arrives p w.event client bytes (datagram bytes) ≡ notes p (r ∷ []) [] → Steps 0 (Arrives w.event client bytes ∷ []) w nothing w' n'
      → Arrival w a.records p w.event client bytes w' n'
  noted_so r why does steps = Noted r why (did_last 0 w nothing a (notes p (r ∷ []) []) w' n' refl (first (notes p (r ∷ []) []) does refl steps))

  steps_in : (q : Asked) → datagram bytes ≡ IsAsked q → p.welcomed ≡ true → nat_le most_waiting (len p.pending) ≡ false → Steps 0 (Arrives w.event client bytes ∷ []) w nothing w' n'
      → Steps 0 (Goes w.event ∷ []) (played w 0 a (waiting p w.event client bytes q)) (told w (waiting p w.event client bytes q) nothing) w' n'
  steps_in q read welcomed room steps =
      first (waiting p w.event client bytes q) (ap (arrives p w.event client bytes) read ∙ takes_in p w.event client bytes q welcomed room) refl steps

  module _ (one : w.setup.dirs ≡ 1) (all : AreShared p.pending) (soft : p.soft ≡ no_soft) where
    asked_so : (object : List ℕ) (q : Asked) (h : Handle) → IsIn p bytes object q → handle_of object ≡ Some h → is_foreign w.setup h ≡ false
        → Steps 0 (Arrives w.event client bytes ∷ []) w nothing w' n' → Arrival w a.records p w.event client bytes w' n'
    asked_so object q h let_in spelled own steps =
        let seg = waiting p w.event client bytes q in
        Asks object q h let_in spelled own (did_then 0 w nothing a seg w' n' _ _ _ _ refl
        (locked_then (played w 0 a seg) (told w seg nothing) (after_segment a seg) p w.event client bytes object q h w' n' one
        (has_put w.actors 0 (after_segment a seg)) refl all let_in.asks spelled own soft (steps_in q let_in.read let_in.welcomed let_in.room steps)))

    refused_so : (object : List ℕ) (q : Asked) (t : Status) → IsIn p bytes object q → target_by w.setup (handle_of object) ≡ Err t
        → Steps 0 (Arrives w.event client bytes ∷ []) w nothing w' n' → Arrival w a.records p w.event client bytes w' n'
    refused_so object q t let_in no_target steps =
        let seg = waiting p w.event client bytes q in
        let then_seg = notes (record p { pending = remove p.pending w.event }) (note.Replied w.event w.event (answer_to q (reply.Getattr (Err t))) ∷ []) (Wakes ∷ []) in
        let v = played w 0 a seg in
        let b = after_segment a seg in
        Refused object q let_in
        (subst (λ r. Did 0 w nothing w' n' (Some (OfProxy (record p { pending = remove p.pending w.event }))) a.records [] (note.Replied w.event w.event (answer_to q (reply.Getattr r)) ∷ []))
        (sym (refused_look w.setup (handle_of object) t no_target))
        (did_then 0 w nothing a seg w' n' _ _ _ _ refl
        (did_then 0 v (told w seg nothing) b then_seg w' n' _ _ _ _ refl
        (wakes_none (played v 0 b then_seg) (told v then_seg (told w seg nothing)) (after_segment b then_seg) (record p { pending = remove p.pending w.event }) w' n'
        (has_put v.actors 0 (after_segment b then_seg)) refl (fewer p.pending w.event all)
        (goes_on v (told w seg nothing) b (with_call w.event (fresh_call client bytes q) p) w.event (fresh_call client bytes q) (plainly AtOnce (reply.Getattr (Err t))) then_seg w' n'
        (has_put w.actors 0 b) refl (has_put p.pending w.event (fresh_call client bytes q))
        (wants_refusal w.setup (with_call w.event (fresh_call client bytes q) p) w.moment (fresh_call client bytes q) object t let_in.asks
        (refusal_is w.setup object q.cred w.moment ∙ ap refusal no_target))
        (refused_is (scene v 0) p w.event client bytes q t) refl (steps_in q let_in.read let_in.welcomed let_in.room steps))))))

    by_handle : (object : List ℕ) (q : Asked) → IsIn p bytes object q → Steps 0 (Arrives w.event client bytes ∷ []) w nothing w' n'
        → (o : Option Handle) → handle_of object ≡ o → Arrival w a.records p w.event client bytes w' n'
    by_handle object q let_in steps None none = refused_so object q status.BadHandle let_in (ap (target_by w.setup) none) steps
    by_handle object q let_in steps (Some h) spelled = by_home (is_foreign w.setup h) refl
      where
        by_home : (b : Bool) → is_foreign w.setup h ≡ b → Arrival w a.records p w.event client bytes w' n'
        by_home true foreign = refused_so object q status.Stale let_in (ap (target_by w.setup) spelled ∙ ap (λ b. if b then Err status.Stale else Ok h) foreign) steps
        by_home false own = asked_so object q h let_in spelled own steps

    by_room : (q : Asked) → datagram bytes ≡ IsAsked q → IsGetattr q → Steps 0 (Arrives w.event client bytes ∷ []) w nothing w' n' → (welcomed full : Bool) → p.welcomed ≡ welcomed
        → nat_le most_waiting (len p.pending) ≡ full → Arrival w a.records p w.event client bytes w' n'
    by_room q read getattr steps false full early crowd =
        noted_so (note.Early w.event) (OfEarly q read early refl) (ap (arrives p w.event client bytes) read ∙ takes_none p w.event client bytes q early) steps
    by_room q read getattr steps true true welcomed full =
        noted_so (note.Full w.event) (OfFull q read welcomed full refl) (ap (arrives p w.event client bytes) read ∙ takes_no_more p w.event client bytes q welcomed full) steps
    by_room q read getattr steps true false welcomed room =
        by_handle getattr.object q (record { read = read; procedure = getattr.procedure; asks = getattr.is; welcomed = welcomed; room = room }) steps (handle_of getattr.object) refl

    by_datagram : (d : Datagram) → datagram bytes ≡ d → IsTaken d → Steps 0 (Arrives w.event client bytes ∷ []) w nothing w' n' → Arrival w a.records p w.event client bytes w' n'
    by_datagram IsJunk read taken steps = noted_so (note.Junk w.event) (OfJunk read refl) (ap (arrives p w.event client bytes) read) steps
    by_datagram (IsAnswered answer) read taken steps =
        noted_so (note.Replied w.event w.event answer) (OfAnswer answer read refl) (ap (arrives p w.event client bytes) read) steps
    by_datagram (IsAsked q) read taken steps = by_room q read taken steps p.welcomed (nat_le most_waiting (len p.pending)) refl refl

    pub arrives_so : IsTaken (datagram bytes) → Steps 0 (Arrives w.event client bytes ∷ []) w nothing w' n' → Arrival w a.records p w.event client bytes w' n'
    arrives_so taken steps = by_datagram (datagram bytes) refl taken steps
