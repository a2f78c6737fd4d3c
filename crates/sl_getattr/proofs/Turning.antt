-- Each turn keeps what holds, and its notes are legal.
use Rattle.std.proofs.Common.{◌≡◌, ℕ, ◌+◌, ◌<◌, ◌≤◌, ◌==◌, ◌^◌, ◌&&◌, ◌||◌, Bool, true, false, not, List, [], ◌∷◌, ◌++◌, Option, Some, None, refl, sym, ap, subst, ◌∙◌, arith, nat_le, if◌then◌else◌}
use Rattle.std.specs.Prelude.{option_and_then}
use Rattle.std.specs.Ordering.{nat_cmp, eq_by_cmp}
use Rattle.std.specs.FinMap.{FinMap, get, insert, remove, len}
use Rattle.sl_defs.specs.Histories.{event_count, Happening, Happens}
use Rattle.sl_defs.specs.Items.{AreBytes}
use Rattle.sl_defs.specs.declared.setup.Setup.{Setup}
use Rattle.sl_defs.specs.declared.setup.Time.{Time}
use Rattle.sl_defs.specs.declared.event.Event.{Event}
use Rattle.sl_defs.specs.declared.event.Event.TheVariants as event
use Rattle.sl_types.specs.declared.call.Call.TheVariants as call
use Rattle.sl_types.specs.declared.handle.Handle.{Handle}
use Rattle.sl_types.specs.Handles.{handle_of}
use Rattle.sl_types.specs.declared.reply.Reply.TheVariants as reply
use Rattle.sl_model.specs.Perform.{fresh}
use Rattle.sl_frames.specs.declared.frame.Frame.{Frame}
use Rattle.sl_frames.specs.declared.body.Body.TheVariants as body
use Rattle.sl_history.specs.Turns as note
use Rattle.sl_history.specs.Turns.{Remark, Sent, Replied, Junk, Early, Full, Lost, Turn, History, events, so_far, turn_of, datagram_of}
use Rattle.sl_history.specs.Arrivals.{Asked, IsJunk, IsAnswered, IsAsked, datagram, asked, asked_in, asked_by, answer_to, arrives, drops_any, dropped_by, most_waiting}
use Rattle.sl_history.specs.Licensed as licensed
use Rattle.sl_history.specs.Fenced as fenced
use Rattle.sl_history.specs.Licensed.{flush_in, IsRenewal, may_be_lost, stops_one, dropping, due_drop, option_list}
use Rattle.sl_history.specs.Frames.{hello_in, verf_of, last_in, last_verf}
use Rattle.sl_history.specs.Volumes.{volume_after}
use Rattle.sl_history.specs.Frames as history
use Rattle.sl_history.specs.Legal.{any_in, any_among, is_reply, was_dropped, datagram_in, AllMayBeNoted}
use Rattle.sl_machine.specs.Calls.{is_foreign}
use Rattle.sl_machine.specs.Records.{Record}
use Rattle.sl_machine.specs.Memory.{Site, Coord, Waiting, Proxy, Memory, Actor, OfProxy, OfCoord, OfSite}
use Rattle.sl_machine.specs.Packets.{forwarded}
use Rattle.sl_machine.specs.World.{World, Flying, Given, Arrives, Told, nothing, numbered, begun}
use Rattle.sl_machine.specs.Runs.{Steps, remarks_of}
use Rattle.sl_transport.proofs.Proper.{Each}
use Rattle.sl_getattr.specs.Built.{IsTaken}
use Rattle.sl_getattr.proofs.Stepping.{not_both, not_none, same_some, same_proxy}
use Rattle.sl_getattr.proofs.Maps.{of_put, Put, IsNew, WasThere, of_removal}
use Rattle.sl_getattr.proofs.Looking.{look_by}
use Rattle.sl_getattr.proofs.Sound.{IsBare, Tale, Owner, AsksFor, IsOut, IsProxy, Forwards, IsFine, IsWelcome, IsForward, IsPacket, IsSound, Sound}
use Rattle.sl_getattr.proofs.Tales.{HasNoEffect, IsPlain, no_effect, no_reply, plain_drops, plain_both, plain_frames, plain_legal, drop_legal, answer_legal, at_once_legal, refusal_legal, own_turn, same_turn, still_out}
use Rattle.sl_history.specs.Remembering.{tells_by}
use Rattle.sl_getattr.proofs.Remembering.{AnswersAreRead, tells_no_file, told_among, plain_untold, one_untold}
use Rattle.sl_getattr.proofs.Wiring.{AllWire, TellsNothing, IsAnswering, wire_both, frames_wire, downs_wire}
use Rattle.sl_history.specs.Wired.{is_answer, fits}
use Rattle.sl_history.specs.Frames.{IsGivenIn}
use Rattle.sl_getattr.proofs.Fencing.{plain_fenced, waited_still, came_just_now, never_waited}
use Rattle.sl_getattr.proofs.Licensing.{AreHarmless, harmless_both, harmless_frames, harmless_licensed, lost_before}
use Rattle.sl_getattr.proofs.Counting.{Counted, IsCalm, calm_both, calm_frames, counted_calm, counted_verf, counted_waited, counted_refused, counted_asks, dropped_nothing, crowded_is, due_is}
use Rattle.sl_getattr.proofs.Keys.{unknown_key}
use Rattle.sl_getattr.proofs.Flights.{AllFly}
use Rattle.sl_getattr.proofs.Doing.{Did}
use Rattle.sl_getattr.proofs.Arriving.{AreShared, shared_by, holding, its_request, with_look, its_frame}
use Rattle.sl_getattr.proofs.Taking.{IsNote, OfJunk, OfAnswer, OfEarly, OfFull, IsIn, Arrival, Noted, Refused, Asks, arrives_so}
use Rattle.sl_getattr.proofs.Using.{Usage, ForProxy, OfWelcome, OfPacket, uses_so}
use Rattle.sl_getattr.proofs.Using as usage
use Rattle.sl_getattr.proofs.Greeting.{IsCoordinatorIf, IsWelcomeTo, Greeted, greets_so}
use Rattle.sl_getattr.proofs.Serving.{IsDirectoryIf, IsAnswerTo, Sends, Nothing, OneAnswer, Served, serves_so}
use Rattle.sl_getattr.proofs.Going.{Extends, no_more, still_proxy, IsLeft, one_goes}

-- ---- what is known of packets

-- A forwarded GETATTR is read as one about the same object.
abbrev pub ForwardsAreRead : Type 0
ForwardsAreRead =
    (s : Setup) (tag : ℕ) (bytes object : List ℕ) (q : Asked) (h : Handle) → AreBytes bytes → datagram bytes ≡ IsAsked q → q.call ≡ call.Getattr object → handle_of object ≡ Some h → is_foreign s h ≡ false
    → (r : Asked) → asked_in (datagram (forwarded 16 tag q.call bytes)) ≡ Some r → AsksFor r h

-- The numbers of a GETATTR are in the ranges of their types.
abbrev pub CallsFit : Type 0
CallsFit =
    (bytes object : List ℕ) (q : Asked) → AreBytes bytes → datagram bytes ≡ IsAsked q → q.call ≡ call.Getattr object → (q.xid < 2 ^ 32) × ((h : Handle) → handle_of object ≡ Some h → h.volume < 2 ^ 64)

-- ---- a turn

pub record Went (s : Setup) (past : History) (t : Turn) (w' : World) : Type 0 where
  pub sound : Sound s (t ∷ past) w'
  pub legal : AllMayBeNoted (fresh s.volume) t past [] t.remarks
  pub drops : dropping t.remarks ≡ due_drop past t (datagram_of t.happening)
  pub licensed : licensed.AllMayBeNoted (fresh s.volume) t past [] t.remarks
  pub fenced : fenced.AllMayBeNoted t past [] t.remarks
  pub wires : AllWire past t t.remarks
  pub untold : (file : ℕ) → told_among (t ∷ past) file t.remarks ≡ false

abbrev pub turn : Happening → Time → List Remark → Turn
turn x at rs = record { happening = x; moment = at; remarks = rs }

pub remarks_are : (i : ℕ) (v : World) (w' : World) (n' : Told) (m : Option Memory) (rs : List Record) (fs : List Frame) (notes : List Remark) → Did i v nothing w' n' m rs fs notes
    → remarks_of n' ≡ numbered v.next_frame fs ++ notes
remarks_are i v w' n' m rs fs notes did = ap (λ ms. ms ++ n'.notes) did.frames ∙ ap (λ ms. numbered v.next_frame fs ++ ms) did.noted

pub one_event : (a b : ℕ) → a ≡ b → a + 1 ≡ b + 1
one_event a b same = ap (λ k. k + 1) same

-- whoever isn't the proxy leaves it as it is
as_before : (s : Setup) (past : History) (t : Turn) (owner : ℕ → Owner) (next i : ℕ) → ((n : ℕ) → any_among (is_reply n) t.remarks ≡ false)
    → IsCalm t.remarks → arrives (events (t ∷ past)) t (asked_by t) ≡ []
    → (a : Actor) (p : Proxy) → eq_by_cmp nat_cmp 0 i ≡ false → IsProxy s past owner next p → IsProxy s (t ∷ past) owner next p
as_before s past t owner next i none calm nothing a p other proxy = still_proxy s past t owner next p proxy none calm nothing

no_one : (i j : ℕ) → (j == i) ≡ false → j ≡ i → ⊥
no_one i j other same = not_both (is_same j i same) other
  where
    is_same : (a b : ℕ) → a ≡ b → (a == b) ≡ true
    is_same a b same = grind arith

-- the call of this turn
asked_now : (past : History) (t : Turn) (bytes : List ℕ) → event_count t.happening ≡ 1 → datagram_of t.happening ≡ Some bytes → asked (t ∷ past) (events past + 1) ≡ asked_in (datagram bytes)
unfolding asked
asked_now past t bytes one brings = ap (option_and_then asked_by) (own_turn past t one) ∙ ap (option_and_then (λ b. asked_in (datagram b))) brings

-- a call that waits, as the history has it
asked_by_datagram : (o : Option Turn) → option_and_then asked_by o ≡ option_and_then (λ b. asked_in (datagram b)) (datagram_in o)
asked_by_datagram None = refl
asked_by_datagram (Some t) = refl

asked_out : (s : Setup) (past : History) (t : Turn) (owner : ℕ → Owner) (next n : ℕ) (c : Waiting) → IsOut s past owner next n c → asked (t ∷ past) n ≡ Some c.asked
unfolding asked
asked_out s past t owner next n c out =
    ap (option_and_then asked_by) (same_turn past t n out.before) ∙ asked_by_datagram (turn_of past n) ∙ ap (option_and_then (λ b. asked_in (datagram b))) out.came ∙ ap asked_in out.read

-- the event brings no datagram, and stops nobody
pub record OfFrame (past : History) (x : Event) : Type 0 where
  pub none : datagram_of (Happens x) ≡ None
  pub calm : stops_one past (Happens x) ≡ false

pub no_call : (n : ℕ) (t : Turn) (x : Event) → datagram_of (Happens x) ≡ None → arrives n t (option_and_then (λ b. asked_in (datagram b)) (datagram_of (Happens x))) ≡ []
no_call n t x none = ap (λ o. arrives n t (option_and_then (λ b. asked_in (datagram b)) o)) none

-- Before the first write verifier, the proxy's fence is a new one.
first_verf : (s : Setup) (past : History) (t : Turn) (p : Proxy) → stops_one past t.happening ≡ false → Tale s past → Counted past p → p.welcomed ≡ false
    → IsRenewal (fresh s.volume) (so_far t [] ∷ past) p.fence
unfolding volume_after may_be_lost last_verf
first_verf s past t p calm tale counted first = record {
  greater = subst (λ v. v < p.fence) (sym (tale.verifier none)) counted.fence;
  lost = ap (λ b. may_be_lost past || b) calm ∙ or_false (may_be_lost past) ∙ lost_before past none;
}
  where
    none : last_in verf_of past ≡ None
    none = counted.verf ∙ ap (λ b. if b then Some p.fence else None) first

    or_false : (b : Bool) → b || false ≡ b
    or_false true = refl
    or_false false = refl

module _ (forwards : ForwardsAreRead) (answers : AnswersAreRead) (fit : CallsFit) (s : Setup) (one : s.dirs ≡ 1) (past : History) (w : World) (owner : ℕ → Owner) (next : ℕ)
    (sound : IsSound s past w owner next) (at : Time) where
  -- ---- the coordinator is given a Hello

  pub given_hello : (x : Event) (fl : FinMap nat_cmp Flying) (ev : OfFrame past x) (flying_fine : AllFly (IsFine s owner next (events past)) fl) (f : Flying) (w' : World) (n' : Told) (a : Actor) (m : Coord) → get w.actors 1 ≡ Some a → a.memory ≡ Some (OfCoord m) → f.frame.«body» ≡ body.Hello
      → f.frame.to ≡ 1 → IsBare f.frame → IsGivenIn past (turn (Happens (x)) at []) f.frame
      → Steps 1 (Given f.frame f.event ∷ []) (record (begun w) { flight = fl }) nothing w' n' → Went s past (turn (Happens (x)) at (remarks_of n')) w'
  given_hello x fl ev flying_fine f w' n' a m is up kind to bare given steps =
      subst (λ rs. Went s past (turn (Happens (x)) at rs) w') (sym (remarks_are 1 v w' n' done.memory done.records done.frames done.notes done.did)) went
    where
      v : World
      v = record (begun w) { flight = fl }

      done : Greeted f.frame (record (begun w) { flight = fl }) nothing w' n'
      done = greets_so (record (begun w) { flight = fl }) nothing a m f.frame f.event w' n' is up (sound.coordinator a m is up) kind steps

      remarks : List Remark
      remarks = numbered w.next_frame done.frames ++ done.notes

      t : Turn
      t = turn (Happens (x)) at (numbered w.next_frame done.frames ++ done.notes)

      plain : IsPlain (numbered w.next_frame done.frames ++ done.notes)
      plain = plain_both (numbered w.next_frame done.frames) done.notes (plain_frames w.next_frame done.frames) done.plain

      left : IsLeft s (t ∷ past) owner next 1 done.memory done.records
      left = record {
        proxy = λ p zero_is other. absurd (no_one 0 1 refl zero_is);
        coordinator = λ c one_is other. subst (λ o. IsCoordinatorIf o done.records) other done.sound;
        directory = λ d is other. absurd (no_one 16 1 refl is);
      }

      answers_all : (fs : List Frame) → Each (IsWelcomeTo f.frame) fs → Each (λ g. (is_answer g.«body» ≡ true → IsAnswering past t g) × TellsNothing g.«body») fs
      answers_all [] all = tt
      answers_all (g ∷ fs) all = (
        (
          λ is. record {
            asking = f.frame;
            given = record { gives = given.gives; up = given.up };
            answers = record {
              kind = ap (λ b. fits b g.«body») kind ∙ ap (fits body.Hello) all.0.2;
              sender = all.0.1 ∙ sym to;
              receiver = all.0.0 ∙ sym bare.0;
              fence = all.0.3;
              tag = all.0.4 ∙ sym bare.1;
              op = all.0.5 ∙ sym bare.2;
            };
          },
          subst TellsNothing (sym all.0.2) tt,
        ),
        answers_all fs all.1,
      )

      no_flush : (fs : List Frame) → Each (IsWelcomeTo f.frame) fs → Each (λ f. flush_in f.«body» ≡ None) fs
      no_flush [] all = tt
      no_flush (g ∷ fs) all = (ap flush_in all.0.2, no_flush fs all.1)

      no_hello : (fs : List Frame) → Each (IsWelcomeTo f.frame) fs → Each (λ f. hello_in f f.«body» ≡ None) fs
      no_hello [] all = tt
      no_hello (g ∷ fs) all = (ap (hello_in g) all.0.2, no_hello fs all.1)

      each : (fs : List Frame) → Each (IsWelcomeTo f.frame) fs → Each (λ g. IsFine s owner next (events (t ∷ past)) (record { frame = g; event = events (t ∷ past) })) fs
      each [] all = tt
      each (g ∷ fs) all = (IsWelcome all.0.0 all.0.1 all.0.2, each fs all.1)

      harmless : AreHarmless (numbered w.next_frame done.frames ++ done.notes)
      harmless = harmless_both (numbered w.next_frame done.frames) done.notes (harmless_frames w.next_frame done.frames (no_flush done.frames done.welcomes)) done.harmless

      went : Went s past (turn (Happens (x)) at (numbered w.next_frame done.frames ++ done.notes)) w'
      went = record {
        sound = record {
          owner = owner;
          next = next;
          is = one_goes s past t w (record (begun w) { flight = fl }) w' n' owner owner next next 1 done.memory done.records done.frames done.notes sound refl refl (one_event w.event (events past) sound.event)
              (flying_fine) done.did (no_more owner next) (no_effect remarks plain) (λ n less. no_reply n remarks plain) left
              (as_before s past t owner next 1 (λ n. no_reply n remarks plain) (calm_both (numbered w.next_frame done.frames) done.notes (calm_frames w.next_frame done.frames (no_hello done.frames done.welcomes)) done.calm) (no_call (events (t ∷ past)) t x ev.none))
              (each done.frames done.welcomes);
        };
        legal = plain_legal (fresh s.volume) past t [] (numbered w.next_frame done.frames ++ done.notes) plain;
        drops = plain_drops (numbered w.next_frame done.frames ++ done.notes) plain ∙ sym (ap (due_drop past t) ev.none);
        licensed = harmless_licensed (fresh s.volume) past t [] (numbered w.next_frame done.frames ++ done.notes) harmless;
        fenced = plain_fenced past t [] (numbered w.next_frame done.frames ++ done.notes) plain;
        wires = wire_both past t (numbered w.next_frame done.frames) done.notes (frames_wire past t w.next_frame done.frames (answers_all done.frames done.welcomes)) (downs_wire past t done.notes done.downs);
        untold = λ file. plain_untold (t ∷ past) file (numbered w.next_frame done.frames ++ done.notes) plain;
      }

  -- ---- the directory server is given a forwarded GETATTR

  pub given_forward : (x : Event) (fl : FinMap nat_cmp Flying) (ev : OfFrame past x) (flying_fine : AllFly (IsFine s owner next (events past)) fl) (f : Flying) (w' : World) (n' : Told) (a : Actor) (m : Site) → get w.actors 16 ≡ Some a → a.memory ≡ Some (OfSite m) → f.frame.from ≡ 0
      → Forwards owner next (events past) f.frame → f.frame.to ≡ 16 → IsGivenIn past (turn (Happens (x)) at []) f.frame
      → Steps 16 (Given f.frame f.event ∷ []) (record (begun w) { flight = fl }) nothing w' n' → Went s past (turn (Happens (x)) at (remarks_of n')) w'
  given_forward x fl ev flying_fine f w' n' a m is up from sent to given steps =
      subst (λ rs. Went s past (turn (Happens (x)) at rs) w') (sym (remarks_are 16 (record (begun w) { flight = fl }) w' n' done.memory done.records done.frames done.notes done.did)) went
    where
      h : Handle
      h = (owner f.frame.tag).handle

      done : Served s f.frame (owner f.frame.tag).handle (record (begun w) { flight = fl }) nothing w' n'
      done = serves_so s (owner f.frame.tag).handle (record (begun w) { flight = fl }) nothing a m f.frame f.event w' n' is up (sound.directory a m is up) sent.chosen sent.packet sent.is sent.says steps

      t : Turn
      t = turn (Happens (x)) at (numbered w.next_frame done.frames ++ done.notes)

      plain : IsPlain (numbered w.next_frame done.frames ++ done.notes)
      plain = plain_both (numbered w.next_frame done.frames) done.notes (plain_frames w.next_frame done.frames) done.plain

      left : IsLeft s (t ∷ past) owner next 16 done.memory done.records
      left = record {
        proxy = λ p zero_is other. absurd (no_one 0 16 refl zero_is);
        coordinator = λ c one_is other. absurd (no_one 1 16 refl one_is);
        directory = λ d is other. subst (λ o. IsDirectoryIf s o done.records) other done.sound;
      }

      fine : (g : Frame) → IsAnswerTo s f.frame (owner f.frame.tag).handle g → IsFine s owner next (events (t ∷ past)) (record { frame = g; event = events (t ∷ past) })
      fine g answer = IsPacket (answer.to ∙ from) answer.from (record {
        packet = answer_to answer.asked (reply.Getattr (look_by s.volume (Some (owner f.frame.tag).handle)));
        is = answer.is;
        tag = subst (λ tag. tag < next) (sym answer.tag) sent.tag;
        not_before = subst (λ tag. (owner tag).call ≤ events (t ∷ past)) (sym answer.tag) (raised (owner f.frame.tag).call (events past) sent.before);
        not_later = itself (events (t ∷ past));
        says = λ r read. answers s.volume answer.asked (Some (owner f.frame.tag).handle) (λ g is. subst (λ (z : Handle). z.volume < 2 ^ 64) (same_some is) answer.small) answer.fits r read ∙ ap (λ tag. reply.Getattr (look_by s.volume (Some (owner tag).handle))) (sym answer.tag);
      })
        where
          raised : (c a : ℕ) → c ≤ a → c ≤ a + 1
          raised c a less = omega arith

          itself : (a : ℕ) → a ≤ a
          itself a = omega arith

      answer_one : (g : Frame) → IsAnswerTo s f.frame (owner f.frame.tag).handle g → (is_answer g.«body» ≡ true → IsAnswering past t g) × TellsNothing g.«body»
      answer_one g answer = (
        λ is. record {
          asking = f.frame;
          given = record { gives = given.gives; up = given.up };
          answers = record {
            kind = ap (λ b. fits b g.«body») sent.is ∙ ap (fits (body.Forward sent.chosen sent.packet)) answer.is;
            sender = answer.from ∙ sym to;
            receiver = answer.to;
            fence = answer.fence;
            tag = answer.tag;
            op = answer.op;
          };
        },
        subst TellsNothing (sym answer.is) tt,
      )

      answers_all : (fs : List Frame) → Sends s f.frame (owner f.frame.tag).handle fs → Each (λ g. (is_answer g.«body» ≡ true → IsAnswering past t g) × TellsNothing g.«body») fs
      answers_all fs (Nothing is) = subst (Each (λ g. (is_answer g.«body» ≡ true → IsAnswering past t g) × TellsNothing g.«body»)) (sym is) tt
      answers_all fs (OneAnswer g answer is) = subst (Each (λ g. (is_answer g.«body» ≡ true → IsAnswering past t g) × TellsNothing g.«body»)) (sym is) (answer_one g answer, tt)

      no_flush : (fs : List Frame) → Sends s f.frame (owner f.frame.tag).handle fs → Each (λ f. flush_in f.«body» ≡ None) fs
      no_flush fs (Nothing is) = subst (Each (λ f. flush_in f.«body» ≡ None)) (sym is) tt
      no_flush fs (OneAnswer g answer is) = subst (Each (λ f. flush_in f.«body» ≡ None)) (sym is) (ap flush_in answer.is, tt)

      no_hello : (fs : List Frame) → Sends s f.frame (owner f.frame.tag).handle fs → Each (λ f. hello_in f f.«body» ≡ None) fs
      no_hello fs (Nothing is) = subst (Each (λ f. hello_in f f.«body» ≡ None)) (sym is) tt
      no_hello fs (OneAnswer g answer is) = subst (Each (λ f. hello_in f f.«body» ≡ None)) (sym is) (ap (hello_in g) answer.is, tt)

      each : (fs : List Frame) → Sends s f.frame (owner f.frame.tag).handle fs → Each (λ g. IsFine s owner next (events (t ∷ past)) (record { frame = g; event = events (t ∷ past) })) fs
      each fs (Nothing is) = subst (Each (λ g. IsFine s owner next (events (t ∷ past)) (record { frame = g; event = events (t ∷ past) }))) (sym is) tt
      each fs (OneAnswer g answer is) = subst (Each (λ g. IsFine s owner next (events (t ∷ past)) (record { frame = g; event = events (t ∷ past) }))) (sym is) (fine g answer, tt)

      harmless : AreHarmless (numbered w.next_frame done.frames ++ done.notes)
      harmless = harmless_both (numbered w.next_frame done.frames) done.notes (harmless_frames w.next_frame done.frames (no_flush done.frames done.sends)) done.harmless

      went : Went s past (turn (Happens (x)) at (numbered w.next_frame done.frames ++ done.notes)) w'
      went = record {
        sound = record {
          owner = owner;
          next = next;
          is = one_goes s past t w (record (begun w) { flight = fl }) w' n' owner owner next next 16 done.memory done.records done.frames done.notes sound refl refl (one_event w.event (events past) sound.event)
              (flying_fine) done.did (no_more owner next) (no_effect (numbered w.next_frame done.frames ++ done.notes) plain)
              (λ n less. no_reply n (numbered w.next_frame done.frames ++ done.notes) plain) left
              (as_before s past t owner next 16 (λ n. no_reply n (numbered w.next_frame done.frames ++ done.notes) plain)
              (calm_both (numbered w.next_frame done.frames) done.notes (calm_frames w.next_frame done.frames (no_hello done.frames done.sends)) done.calm) (no_call (events (t ∷ past)) t x ev.none)) (each done.frames done.sends);
        };
        legal = plain_legal (fresh s.volume) past t [] (numbered w.next_frame done.frames ++ done.notes) plain;
        drops = plain_drops (numbered w.next_frame done.frames ++ done.notes) plain ∙ sym (ap (due_drop past t) ev.none);
        licensed = harmless_licensed (fresh s.volume) past t [] (numbered w.next_frame done.frames ++ done.notes) harmless;
        fenced = plain_fenced past t [] (numbered w.next_frame done.frames ++ done.notes) plain;
        wires = wire_both past t (numbered w.next_frame done.frames) done.notes (frames_wire past t w.next_frame done.frames (answers_all done.frames done.sends)) (downs_wire past t done.notes done.downs);
        untold = λ file. plain_untold (t ∷ past) file (numbered w.next_frame done.frames ++ done.notes) plain;
      }

  -- ---- the proxy acts

  -- what it has then, where its calls are those of before, or fewer
  pub left_proxy : (t : Turn) (p q : Proxy) (rs : List Record) → IsProxy s past owner next p → q.soft ≡ p.soft → q.next_tag ≡ p.next_tag
      → ((n : ℕ) (c : Waiting) → get q.pending n ≡ Some c → (get p.pending n ≡ Some c) × (any_among (is_reply n) t.remarks ≡ false)) → Counted (t ∷ past) q → IsLeft s (t ∷ past) owner next 0 (Some (OfProxy q)) rs
  left_proxy t p q rs proxy soft tag calls counted = record {
    proxy = λ u zero_is other. subst (IsProxy s (t ∷ past) owner next) (same_proxy q u other) (record {
      soft = soft ∙ proxy.soft;
      calls = λ n c there. still_out s past t owner owner next next n c (proxy.calls n c (calls n c there).0) (calls n c there).1 (no_more owner next).less (λ tag less. refl);
      tag = tag ∙ proxy.tag;
      counted = counted;
    });
    coordinator = λ c one_is other. absurd (no_one 1 0 refl one_is);
    directory = λ d is other. absurd (no_one 16 0 refl is);
  }

  never : (P : Type 0) → eq_by_cmp nat_cmp 0 0 ≡ false → P
  never P other = absurd (not_both refl other)

  -- of another call
  other_reply : (n m e : ℕ) (bytes : List ℕ) → eq_by_cmp nat_cmp m n ≡ false → any_among (is_reply m) (Replied n e bytes ∷ []) ≡ false
  other_reply n m e bytes other = ap (λ b. b || false) (by n m other)
    where
      by : (n m : ℕ) → eq_by_cmp nat_cmp m n ≡ false → (n == m) ≡ false
      by n m other = grind arith

  later_reply : (n m e : ℕ) (bytes : List ℕ) → n < m → any_among (is_reply m) (Replied n e bytes ∷ []) ≡ false
  later_reply n m e bytes less = ap (λ b. b || false) (by n m less)
    where
      by : (n m : ℕ) → n < m → (n == m) ≡ false
      by n m less = grind arith

  pub given_proxy : (x : Event) (fl : FinMap nat_cmp Flying) (ev : OfFrame past x) (flying_fine : AllFly (IsFine s owner next (events past)) fl) (f : Flying) (w' : World) (n' : Told) (a : Actor) (p : Proxy) → get w.actors 0 ≡ Some a → a.memory ≡ Some (OfProxy p)
      → ForProxy s owner next (events past) f.frame f.event
      → Steps 0 (Given f.frame f.event ∷ []) (record (begun w) { flight = fl }) nothing w' n' → Went s past (turn (Happens (x)) at (remarks_of n')) w'
  given_proxy x fl ev flying_fine f w' n' a p is up fine steps =
      by (uses_so s past owner next (events past) (record (begun w) { flight = fl }) a p f.frame f.event w' n' is up (sound.proxy a p is up) fine steps)
    where
      proxy : IsProxy s past owner next p
      proxy = sound.proxy a p is up

      flying : AllFly (IsFine s owner next (events past)) (record (begun w) { flight = fl }).flight
      flying = flying_fine

      -- the first write verifier is due
      renewal : p.welcomed ≡ false → IsRenewal (fresh s.volume) (so_far (turn (Happens (x)) at (note.Verf p.fence ∷ [])) [] ∷ past) p.fence
      renewal first = first_verf s past (turn (Happens (x)) at (note.Verf p.fence ∷ [])) p ev.calm sound.tale proxy.counted first

      plainly : (q : Proxy) (notes : List Remark) → IsPlain notes → q.soft ≡ p.soft → q.next_tag ≡ p.next_tag → q.pending ≡ p.pending → Counted (turn (Happens (x)) at notes ∷ past) q
          → licensed.AllMayBeNoted (fresh s.volume) (turn (Happens (x)) at notes) past [] notes
          → AllWire past (turn (Happens (x)) at notes) notes
          → Did 0 (record (begun w) { flight = fl }) nothing w' n' (Some (OfProxy q)) a.records [] notes → Went s past (turn (Happens (x)) at (remarks_of n')) w'
      plainly q notes plain soft tag same counted may wires did = subst (λ rs. Went s past (turn (Happens (x)) at rs) w') (sym (remarks_are 0 (record (begun w) { flight = fl }) w' n' _ _ _ _ did)) (record {
        sound = record {
          owner = owner;
          next = next;
          is = one_goes s past (turn (Happens (x)) at notes) w (record (begun w) { flight = fl }) w' n' owner owner next next 0 (Some (OfProxy q)) a.records [] notes sound refl refl
              (one_event w.event (events past) sound.event) flying did (no_more owner next) (no_effect notes plain) (λ n less. no_reply n notes plain)
              (left_proxy (turn (Happens (x)) at notes) p q a.records proxy soft tag (λ n c there. (ap (λ m. get m n) (sym same) ∙ there, no_reply n notes plain)) counted)
              (λ b z other before. never _ other) tt;
        };
        legal = plain_legal (fresh s.volume) past (turn (Happens (x)) at notes) [] notes plain;
        drops = plain_drops notes plain ∙ sym (ap (due_drop past (turn (Happens x) at notes)) ev.none);
        licensed = may;
        fenced = plain_fenced past (turn (Happens (x)) at notes) [] notes plain;
        wires = wires;
        untold = λ file. plain_untold (turn (Happens (x)) at notes ∷ past) file notes plain;
      })

      by : Usage s past owner next (events past) (record (begun w) { flight = fl }) a.records p f.frame f.event w' n' → Went s past (turn (Happens (x)) at (remarks_of n')) w'
      by (usage.Passed did) = plainly p [] tt refl refl refl (counted_calm past (turn (Happens (x)) at []) p tt (no_call (events past + 1) (turn (Happens x) at []) x ev.none) proxy.counted) tt tt did
      by (usage.Welcomed first fence did) = plainly (record p { welcomed = true }) (note.Verf p.fence ∷ []) tt refl refl refl
          (counted_verf past (turn (Happens (x)) at (note.Verf p.fence ∷ [])) p refl first proxy.counted) (renewal first, tt) (tt, tt) did
      by (usage.Replied n c there out before after did) = subst (λ rs. Went s past (turn (Happens (x)) at rs) w') (sym (remarks_are 0 (record (begun w) { flight = fl }) w' n' _ _ _ _ did)) (record {
        sound = record {
          owner = owner;
          next = next;
          is = one_goes s past (turn (Happens (x)) at (Replied n f.event bytes ∷ [])) w (record (begun w) { flight = fl }) w' n' owner owner next next 0 (Some (OfProxy (record p { pending = remove p.pending n })))
              a.records [] (Replied n f.event bytes ∷ []) sound refl refl (one_event w.event (events past) sound.event) flying did (no_more owner next) tt
              (λ m less. later_reply n m f.event bytes (before_all n (events past) m out.before less))
              (left_proxy (turn (Happens (x)) at (Replied n f.event bytes ∷ [])) p (record p { pending = remove p.pending n }) a.records proxy refl refl
              (λ m d still. let left = of_removal p.pending n m d still in (left.there, other_reply n m f.event bytes left.other))
              (counted_waited past (turn (Happens (x)) at (Replied n f.event bytes ∷ [])) p n f.event bytes refl (no_call (events past + 1) (turn (Happens x) at (Replied n f.event bytes ∷ [])) x ev.none) proxy.counted))
              (λ b z other before. never _ other) tt;
        };
        legal = (answer_legal s past (turn (Happens (x)) at (Replied n f.event bytes ∷ [])) owner next n f.event c sound.tale refl before after out, tt);
        drops = sym (ap (due_drop past (turn (Happens x) at (Replied n f.event bytes ∷ []))) ev.none);
        licensed = (tt, tt);
        fenced = (waited_still past (turn (Happens (x)) at (Replied n f.event bytes ∷ [])) p n c (no_call (events past + 1) (turn (Happens x) at []) x ev.none) proxy.counted there, tt);
        wires = (λ q asked. (out.object, ap (λ (a : Asked). a.call) (same_some (sym asked ∙ asked_out s past (turn (Happens (x)) at (Replied n f.event bytes ∷ [])) owner next n c out)) ∙ out.asks), tt);
        untold = λ file. one_untold (turn (Happens (x)) at (Replied n f.event bytes ∷ []) ∷ past) file n f.event bytes
            (ap (tells_by file bytes) (asked_out s past (turn (Happens (x)) at (Replied n f.event bytes ∷ [])) owner next n c out)
            ∙ tells_no_file answers s.volume c.asked (Some out.handle) (λ g is. subst (λ (z : Handle). z.volume < 2 ^ 64) (same_some is) out.small) out.fits out.procedure file);
      })
        where
          bytes : List ℕ
          bytes = answer_to c.asked (reply.Getattr (look_by s.volume (Some out.handle)))

          before_all : (n a m : ℕ) → n ≤ a → a + 1 < m → n < m
          before_all n a m less more = omega arith

  -- ---- a datagram comes

  -- one note, by which no call of before is answered
  noted_goes : (client : ℕ) (bytes : List ℕ) (w' : World) (n' : Told) (p q : Proxy) (rs : List Record) (r : Remark) → IsProxy s past owner next p → q.soft ≡ p.soft → q.next_tag ≡ p.next_tag
      → ((n : ℕ) (c : Waiting) → get q.pending n ≡ Some c → get p.pending n ≡ Some c) → HasNoEffect (r ∷ [])
      → ((m : ℕ) → events past + 1 < m → any_among (is_reply m) (r ∷ []) ≡ false) → ((m : ℕ) → m ≤ events past → any_among (is_reply m) (r ∷ []) ≡ false)
      → AllMayBeNoted (fresh s.volume) (turn (Happens (event.Call client bytes)) at (r ∷ [])) past [] (r ∷ [])
      → Counted (turn (Happens (event.Call client bytes)) at (r ∷ []) ∷ past) q → dropping (r ∷ []) ≡ option_list (dropped_by past (events past + 1) bytes)
      → licensed.AllMayBeNoted (fresh s.volume) (turn (Happens (event.Call client bytes)) at (r ∷ [])) past [] (r ∷ [])
      → fenced.AllMayBeNoted (turn (Happens (event.Call client bytes)) at (r ∷ [])) past [] (r ∷ [])
      → AllWire past (turn (Happens (event.Call client bytes)) at (r ∷ [])) (r ∷ [])
      → ((file : ℕ) → told_among (turn (Happens (event.Call client bytes)) at (r ∷ []) ∷ past) file (r ∷ []) ≡ false)
      → Did 0 (begun w) nothing w' n' (Some (OfProxy q)) rs [] (r ∷ []) → Went s past (turn (Happens (event.Call client bytes)) at (remarks_of n')) w'
  noted_goes client bytes w' n' p q rs r proxy soft tag calls none ahead behind legal counted drops may still wires untold did =
      subst (λ rs. Went s past (turn (Happens (event.Call client bytes)) at rs) w') (sym (remarks_are 0 (begun w) w' n' _ _ _ _ did)) (record {
        sound = record {
          owner = owner;
          next = next;
          is = one_goes s past (turn (Happens (event.Call client bytes)) at (r ∷ [])) w (begun w) w' n' owner owner next next 0 (Some (OfProxy q)) rs [] (r ∷ []) sound refl refl
              (one_event w.event (events past) sound.event) sound.flight did (no_more owner next) none ahead
              (left_proxy (turn (Happens (event.Call client bytes)) at (r ∷ [])) p q rs proxy soft tag
              (λ n c there. (calls n c there, behind n (proxy.calls n c (calls n c there)).before)) counted)
              (λ b z other before. never _ other) tt;
        };
        legal = legal;
        drops = drops;
        licensed = may;
        fenced = still;
        wires = wires;
        untold = untold;
      })

  earlier_reply : (m e : ℕ) (bytes : List ℕ) → m ≤ events past → any_among (is_reply m) (Replied (events past + 1) e bytes ∷ []) ≡ false
  earlier_reply m e bytes less = ap (λ b. b || false) (by m (events past) less)
    where
      by : (m a : ℕ) → m ≤ a → (a + 1 == m) ≡ false
      by m a less = grind arith

  number : w.event + 1 ≡ events past + 1
  number = one_event w.event (events past) sound.event

  module _ (client : ℕ) (bytes : List ℕ) (w' : World) (n' : Told) (a : Actor) (p : Proxy) (is : get w.actors 0 ≡ Some a) (up : a.memory ≡ Some (OfProxy p)) (alive : history.is_up past 0 ≡ true) (byte_wise : AreBytes bytes) where
    the_proxy : IsProxy s past owner next p
    the_proxy = sound.proxy a p is up

    still_up : (h : History) (t : Turn) → history.is_up h 0 ≡ true → history.is_up (record { happening = Happens (event.Call client bytes); moment = at; remarks = [] } ∷ h) 0 ≡ true
    unfolding history.is_up
    still_up h t is = ap (λ b. b && true) is

    drops_itself : (n : ℕ) → (n == n) || false ≡ true
    drops_itself n = grind arith

    -- what is dropped doesn't wait
    kept_by : (r : Remark) → IsCalm (r ∷ []) → drops_any (events past + 1) (r ∷ []) ≡ true → Counted (turn (Happens (event.Call client bytes)) at (r ∷ []) ∷ past) p
    kept_by r calm dropped = counted_calm past (turn (Happens (event.Call client bytes)) at (r ∷ [])) p calm
        (dropped_nothing (events past + 1) (turn (Happens (event.Call client bytes)) at (r ∷ [])) (asked_in (datagram bytes)) dropped) the_proxy.counted

    -- what is answered at once doesn't wait either
    answered_at_once : (answer : List ℕ) → asked_in (datagram bytes) ≡ None → Counted (turn (Happens (event.Call client bytes)) at (Replied (events past + 1) (events past + 1) answer ∷ []) ∷ past) p
    answered_at_once answer none = subst (λ m. Counted (turn (Happens (event.Call client bytes)) at (Replied (events past + 1) (events past + 1) answer ∷ []) ∷ past) (record p { pending = m }))
        (unknown_key p.pending (events past + 1) (λ c there. not_yet (events past) (the_proxy.calls (events past + 1) c there).before))
        (counted_waited past (turn (Happens (event.Call client bytes)) at (Replied (events past + 1) (events past + 1) answer ∷ [])) p (events past + 1) (events past + 1) answer refl
        (ap (arrives (events past + 1) (turn (Happens (event.Call client bytes)) at (Replied (events past + 1) (events past + 1) answer ∷ []))) none) the_proxy.counted)
      where
        not_yet : (a : ℕ) → a + 1 ≤ a → ⊥
        not_yet a less = omega arith

    -- a call that is let in isn't to be dropped
    none_due : (object : List ℕ) (q : Asked) → IsIn p bytes object q → option_list (dropped_by past (events past + 1) bytes) ≡ []
    none_due object q let_in = ap option_list (due_is past (events past + 1) bytes (IsAsked q) alive let_in.read ∙ crowded_is past p (events past + 1) the_proxy.counted
        ∙ ap (λ b. if not b then Some (Early (events past + 1)) else if nat_le most_waiting (len p.pending) then Some (Full (events past + 1)) else None) let_in.welcomed
        ∙ ap (λ b. if b then Some (Full (events past + 1)) else None) let_in.room)

    noted_so : (r : Remark) → IsNote p (w.event + 1) bytes r → Did 0 (begun w) nothing w' n' (Some (OfProxy p)) a.records [] (r ∷ [])
        → Went s past (turn (Happens (event.Call client bytes)) at (remarks_of n')) w'
    noted_so r (OfJunk read what) did = noted_goes client bytes w' n' p p a.records (Junk (events past + 1)) the_proxy refl refl (λ n c there. there) tt (λ m less. refl) (λ m less. refl)
        (drop_legal s past (turn (Happens (event.Call client bytes)) at (Junk (events past + 1) ∷ [])) sound.tale refl, tt)
        (kept_by (Junk (events past + 1)) tt (drops_itself (events past + 1)))
        (sym (ap option_list (due_is past (events past + 1) bytes IsJunk alive read))) (tt, tt) (tt, tt) (tt, tt) (λ file. refl)
        (subst (λ r. Did 0 (begun w) nothing w' n' (Some (OfProxy p)) a.records [] (r ∷ [])) (what ∙ ap Junk number) did)
    noted_so r (OfAnswer answer read what) did = noted_goes client bytes w' n' p p a.records (Replied (events past + 1) (events past + 1) answer) the_proxy refl refl (λ n c there. there) tt
        (λ m less. later_reply (events past + 1) m (events past + 1) answer less) (λ m less. earlier_reply m (events past + 1) answer less) (
          at_once_legal s past (turn (Happens (event.Call client bytes)) at (Replied (events past + 1) (events past + 1) answer ∷ [])) bytes answer sound.tale refl refl read
              (still_up past (turn (Happens (event.Call client bytes)) at []) alive),
          tt,
        )
        (answered_at_once answer (ap asked_in read))
        (sym (ap option_list (due_is past (events past + 1) bytes (IsAnswered answer) alive read))) (tt, tt) (
          never_waited (record { happening = Happens (event.Call client bytes); moment = at; remarks = [] } ∷ past) (events past + 1)
              (asked_now past (record { happening = Happens (event.Call client bytes); moment = at; remarks = [] }) bytes refl refl ∙ ap asked_in read),
          tt,
        )
        (λ q asked. absurd (not_none (sym asked ∙ asked_now past (turn (Happens (event.Call client bytes)) at (Replied (events past + 1) (events past + 1) answer ∷ [])) bytes refl refl ∙ ap asked_in read)), tt)
        (λ file. one_untold (turn (Happens (event.Call client bytes)) at (Replied (events past + 1) (events past + 1) answer ∷ []) ∷ past) file (events past + 1) (events past + 1) answer
        (ap (tells_by file answer) (asked_now past (turn (Happens (event.Call client bytes)) at (Replied (events past + 1) (events past + 1) answer ∷ [])) bytes refl refl ∙ ap asked_in read)))
        (subst (λ r. Did 0 (begun w) nothing w' n' (Some (OfProxy p)) a.records [] (r ∷ [])) (what ∙ ap (λ k. Replied k k answer) number) did)
    noted_so r (OfEarly q read early what) did = noted_goes client bytes w' n' p p a.records (Early (events past + 1)) the_proxy refl refl (λ n c there. there) tt (λ m less. refl) (λ m less. refl)
        (drop_legal s past (turn (Happens (event.Call client bytes)) at (Early (events past + 1) ∷ [])) sound.tale refl, tt)
        (kept_by (Early (events past + 1)) tt (drops_itself (events past + 1)))
        (sym (ap option_list (due_is past (events past + 1) bytes (IsAsked q) alive read ∙ crowded_is past p (events past + 1) the_proxy.counted
        ∙ ap (λ b. if not b then Some (Early (events past + 1)) else if nat_le most_waiting (len p.pending) then Some (Full (events past + 1)) else None) early)))
        (tt, tt) (tt, tt) (tt, tt) (λ file. refl)
        (subst (λ r. Did 0 (begun w) nothing w' n' (Some (OfProxy p)) a.records [] (r ∷ [])) (what ∙ ap Early number) did)
    noted_so r (OfFull q read welcomed full what) did = noted_goes client bytes w' n' p p a.records (Full (events past + 1)) the_proxy refl refl (λ n c there. there) tt (λ m less. refl) (λ m less. refl)
        (drop_legal s past (turn (Happens (event.Call client bytes)) at (Full (events past + 1) ∷ [])) sound.tale refl, tt)
        (kept_by (Full (events past + 1)) tt (drops_itself (events past + 1)))
        (sym (ap option_list (due_is past (events past + 1) bytes (IsAsked q) alive read ∙ crowded_is past p (events past + 1) the_proxy.counted
        ∙ ap (λ b. if not b then Some (Early (events past + 1)) else if nat_le most_waiting (len p.pending) then Some (Full (events past + 1)) else None) welcomed
        ∙ ap (λ b. if b then Some (Full (events past + 1)) else None) full)))
        (tt, tt) (tt, tt) (tt, tt) (λ file. refl)
        (subst (λ r. Did 0 (begun w) nothing w' n' (Some (OfProxy p)) a.records [] (r ∷ [])) (what ∙ ap Full number) did)

    refused_so : (object : List ℕ) (q : Asked) → IsIn p bytes object q
        → Did 0 (begun w) nothing w' n' (Some (OfProxy (record p { pending = remove p.pending (w.event + 1) }))) a.records []
        (Replied (w.event + 1) (w.event + 1) (answer_to q (reply.Getattr (look_by w.setup.volume (handle_of object)))) ∷ [])
        → Went s past (turn (Happens (event.Call client bytes)) at (remarks_of n')) w'
    refused_so object q let_in did =
        noted_goes client bytes w' n' p (record p { pending = remove p.pending (w.event + 1) }) a.records (Replied (events past + 1) (events past + 1) answer) the_proxy refl refl
        (λ n c there. (of_removal p.pending (w.event + 1) n c there).there) tt
        (λ m less. later_reply (events past + 1) m (events past + 1) answer less) (λ m less. earlier_reply m (events past + 1) answer less)
        (refusal_legal s past (turn (Happens (event.Call client bytes)) at (Replied (events past + 1) (events past + 1) answer ∷ [])) bytes object q sound.tale refl refl let_in.read let_in.asks, tt)
        (subst (λ k. Counted (turn (Happens (event.Call client bytes)) at (Replied (events past + 1) (events past + 1) answer ∷ []) ∷ past) (record p { pending = remove p.pending k })) (sym number)
        (counted_refused past (turn (Happens (event.Call client bytes)) at (Replied (events past + 1) (events past + 1) answer ∷ [])) p (events past + 1) (events past + 1) answer refl
        (ap (λ d. arrives (events past + 1) (turn (Happens (event.Call client bytes)) at (Replied (events past + 1) (events past + 1) answer ∷ [])) (asked_in d)) let_in.read) the_proxy.counted))
        (sym (none_due object q let_in)) (tt, tt) (
          came_just_now past (turn (Happens (event.Call client bytes)) at (Replied (events past + 1) (events past + 1) answer ∷ [])) (events past + 1)
              (ap (λ d. arrives (events past + 1) (record { happening = Happens (event.Call client bytes); moment = at; remarks = [] }) (asked_in d)) let_in.read),
          tt,
        ) (
          λ z asked. (
            object,
            ap (λ (a : Asked). a.call) (same_some (sym asked
                ∙ asked_now past (turn (Happens (event.Call client bytes)) at (Replied (events past + 1) (events past + 1) answer ∷ [])) bytes refl refl ∙ ap asked_in let_in.read)) ∙ let_in.asks,
          ),
          tt,
        )
        (λ file. one_untold (turn (Happens (event.Call client bytes)) at (Replied (events past + 1) (events past + 1) answer ∷ []) ∷ past) file (events past + 1) (events past + 1) answer
        (ap (tells_by file answer) (asked_now past (turn (Happens (event.Call client bytes)) at (Replied (events past + 1) (events past + 1) answer ∷ [])) bytes refl refl ∙ ap asked_in let_in.read)
        ∙ tells_no_file answers s.volume q (handle_of object) (fit bytes object q byte_wise let_in.read let_in.asks).1 (fit bytes object q byte_wise let_in.read let_in.asks).0 let_in.procedure file))
        (subst (λ r. Did 0 (begun w) nothing w' n' (Some (OfProxy (record p { pending = remove p.pending (w.event + 1) }))) a.records [] (r ∷ []))
        (ap (λ k. Replied k k (answer_to q (reply.Getattr (look_by w.setup.volume (handle_of object))))) number
        ∙ ap (λ z. Replied (events past + 1) (events past + 1) (answer_to q (reply.Getattr (look_by z.volume (handle_of object))))) sound.setup) did)
      where
        answer : List ℕ
        answer = answer_to q (reply.Getattr (look_by s.volume (handle_of object)))

    -- the request's tag is this call's
    owned : Handle → ℕ → Owner
    owned h tag = if tag == next then record { call = events past + 1; handle = h } else owner tag

    asks_so : (object : List ℕ) (q : Asked) (h : Handle) → IsIn p bytes object q → handle_of object ≡ Some h → is_foreign w.setup h ≡ false
        → Did 0 (begun w) nothing w' n' (Some (OfProxy (with_look p (w.event + 1) client bytes q h))) a.records (its_frame p (w.event + 1) client bytes q h ∷ []) []
        → Went s past (turn (Happens (event.Call client bytes)) at (remarks_of n')) w'
    unfolding owned any_in
    asks_so object q h let_in spelled own did =
        subst (λ rs. Went s past (turn (Happens (event.Call client bytes)) at rs) w') (sym (remarks_are 0 (begun w) w' n' _ _ _ _ did)) (record {
          sound = record {
            owner = owned h;
            next = next + 1;
            is = one_goes s past t w (begun w) w' n' owner (owned h) next (next + 1) 0 (Some (OfProxy (with_look p (w.event + 1) client bytes q h))) a.records
                (its_frame p (w.event + 1) client bytes q h ∷ []) [] sound refl refl number sound.flight did more tt (λ m less. refl) left (λ b z other before. never _ other) (
                  IsForward refl refl (record {
                    chosen = 0;
                    packet = forwarded 16 p.next_tag q.call bytes;
                    is = refl;
                    tag = subst (λ tag. tag < next + 1) (sym the_proxy.tag) (one_less next);
                    before = subst (λ (o : Owner). o.call ≤ events (t ∷ past)) (sym (its_owner p.next_tag the_proxy.tag)) (itself (events past + 1));
                    says = λ r read. subst (λ (o : Owner). AsksFor r o.handle) (sym (its_owner p.next_tag the_proxy.tag))
                        (forwards w.setup p.next_tag bytes object q h byte_wise let_in.read let_in.asks spelled own r read);
                  }),
                  tt,
                );
          };
          legal = (tt, tt);
          drops = sym (none_due object q let_in);
          licensed = (tt, tt);
          fenced = (tt, tt);
          wires = ((λ is. absurd (not_both is refl), tt), tt);
          untold = λ file. refl;
        })
      where
        t : Turn
        t = turn (Happens (event.Call client bytes)) at (Sent w.next_frame (its_frame p (w.event + 1) client bytes q h) ∷ [])

        one_less : (n : ℕ) → n < n + 1
        one_less n = omega arith

        itself : (n : ℕ) → n ≤ n
        itself n = omega arith

        one_above : (n a : ℕ) → n ≤ a → n < a + 1
        one_above n a less = omega arith

        less_next : (n : ℕ) → n ≤ n + 1
        less_next n = omega arith

        same_tag : (a b : ℕ) → a ≡ b → (a == b) ≡ true
        same_tag a b same = grind arith

        lesser_tag : (a b : ℕ) → a < b → (a == b) ≡ false
        lesser_tag a b less = grind arith

        its_owner : (tag : ℕ) → tag ≡ next → owned h tag ≡ record { call = events past + 1; handle = h }
        its_owner tag same = ap (λ b. if b then record { call = events past + 1; handle = h } else owner tag) (same_tag tag next same)

        more : Extends owner (owned h) next (next + 1)
        more = record { less = less_next next; same = λ tag less. ap (λ b. if b then record { call = events past + 1; handle = h } else owner tag) (lesser_tag tag next less) }

        last : Waiting
        last = record (holding client bytes q h) { request = Some (its_request p.next_tag bytes q) }

        its_call : IsOut s (t ∷ past) (owned h) (next + 1) (events past + 1) last
        its_call = record {
          object = object;
          handle = h;
          came = ap datagram_in (own_turn past t refl);
          read = let_in.read;
          procedure = let_in.procedure;
          asks = let_in.asks;
          spelled = spelled;
          fits = (fit bytes object q byte_wise let_in.read let_in.asks).0;
          small = (fit bytes object q byte_wise let_in.read let_in.asks).1 h spelled;
          accepted = ap (λ o. was_dropped o (events past + 1)) (own_turn past t refl);
          unanswered = ap (λ b. b || false) (sound.tale.unanswered (events past + 1) (one_less (events past)));
          before = itself (events past + 1);
          held = refl;
          awaits = refl;
          request = its_request p.next_tag bytes q;
          out = refl;
          chosen = 0;
          packet = forwarded 16 p.next_tag q.call bytes;
          «body» = refl;
          to = refl;
          tag = subst (λ tag. tag < next + 1) (sym the_proxy.tag) (one_less next);
          owned = its_owner p.next_tag the_proxy.tag;
          says = λ r read. forwards w.setup p.next_tag bytes object q h byte_wise let_in.read let_in.asks spelled own r read;
        }

        calls : (n : ℕ) (c : Waiting) → get (insert p.pending (w.event + 1) last) n ≡ Some c → IsOut s (t ∷ past) (owned h) (next + 1) n c
        calls n c there = by (of_put p.pending (w.event + 1) last n c there)
          where
            by : Put p.pending (w.event + 1) last n c → IsOut s (t ∷ past) (owned h) (next + 1) n c
            by (IsNew here same) = subst (λ m. IsOut s (t ∷ past) (owned h) (next + 1) m c) (sym (here ∙ number)) (subst (IsOut s (t ∷ past) (owned h) (next + 1) (events past + 1)) (sym same) its_call)
            by (WasThere other was) = still_out s past t owner (owned h) next (next + 1) n c (the_proxy.calls n c was) refl more.less more.same

        left : IsLeft s (t ∷ past) (owned h) (next + 1) 0 (Some (OfProxy (with_look p (w.event + 1) client bytes q h))) a.records
        left = record {
          proxy = λ u zero_is other. subst (IsProxy s (t ∷ past) (owned h) (next + 1)) (same_proxy (with_look p (w.event + 1) client bytes q h) u other) (record {
            soft = the_proxy.soft;
            calls = calls;
            tag = ap (λ tag. tag + 1) the_proxy.tag;
            counted = subst (λ k. Counted (t ∷ past) (record p { pending = insert p.pending k last; next_tag = p.next_tag + 1 })) (sym number)
                (counted_asks past t p (events past + 1) (p.next_tag + 1) last (refl, tt) (ap (λ d. arrives (events past + 1) t (asked_in d)) let_in.read) let_in.welcomed
                (λ n v there. one_above n (events past) (the_proxy.calls n v there).before) the_proxy.counted);
          });
          coordinator = λ c one_is other. absurd (no_one 1 0 refl one_is);
          directory = λ d is other. absurd (no_one 16 0 refl is);
        }

    all_shared : AreShared p.pending
    all_shared n c there = let out = the_proxy.calls n c there in shared_by c out.handle out.held out.awaits

    pub arrival_so : IsTaken (datagram bytes) → Steps 0 (Arrives (w.event + 1) client bytes ∷ []) (begun w) nothing w' n' → Went s past (turn (Happens (event.Call client bytes)) at (remarks_of n')) w'
    arrival_so taken steps =
        by (arrives_so (begun w) a p client bytes w' n' is up (ap (λ (z : Setup). z.dirs) sound.setup ∙ one) all_shared the_proxy.soft taken steps)
      where
        by : Arrival (begun w) a.records p (w.event + 1) client bytes w' n' → Went s past (turn (Happens (event.Call client bytes)) at (remarks_of n')) w'
        by (Noted r why did) = noted_so r why did
        by (Refused object q let_in did) = refused_so object q let_in did
        by (Asks object q h let_in spelled own did) = asks_so object q h let_in spelled own did
