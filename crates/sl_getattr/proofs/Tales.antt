-- Histories in which nothing takes effect: what goes on from turn to turn, and which notes are legal.
use Rattle.std.proofs.Common.{◌≡◌, ℕ, ◌+◌, ◌<◌, ◌≤◌, ◌==◌, ◌&&◌, ◌||◌, Bool, true, false, List, [], ◌∷◌, ◌++◌, None, Some, refl, sym, ap, subst, ◌∙◌, arith, if◌then◌else◌}
use Rattle.std.specs.Prelude.{nat_le}
use Rattle.std.proofs.lemmas.Bool.Decides.{nat_tests}
use Rattle.sl_defs.specs.Histories.{Happening, Opens, Reaches, Happens, event_count}
use Rattle.sl_defs.specs.declared.setup.Setup.{Setup}
use Rattle.sl_types.specs.declared.call.Call.TheVariants as call
use Rattle.sl_types.specs.Handles.{handle_of}
use Rattle.sl_types.specs.declared.reply.Reply.TheVariants as reply
use Rattle.sl_model.specs.Volume.{Volume}
use Rattle.sl_model.specs.Perform.{fresh, perform}
use Rattle.sl_frames.specs.declared.frame.Frame.{Frame}
use Rattle.sl_history.specs.Turns.{Remark, Sent, Did, Flush, Verf, Replied, Junk, Early, Full, Lost, Down, Turn, History, events, so_far, turn_of, datagram_of}
use Rattle.sl_history.specs.Arrivals.{Asked, IsAnswered, IsAsked, datagram, answer_to, is_changing}
use Rattle.sl_history.specs.Volumes.{after_notes, volume_after, volume_at}
use Rattle.sl_history.specs.Legal.{any_in, any_among, is_did, is_reply, was_dropped, datagram_in, IsLook, IsReply, IsDrop, IsReplyTo, IsReplyIf, IsAnswerBy, AllMayBeNoted, no_choice, is_settled}
use Rattle.sl_history.specs.Frames.{is_up, last_among, last_in, last_verf, verf_of}
use Rattle.sl_history.specs.Licensed.{dropping}
use Rattle.sl_machine.specs.World.{numbered}
use Rattle.sl_getattr.proofs.Looking.{IsNew, look_by, performed}
use Rattle.sl_getattr.proofs.Stepping.{not_none}
use Rattle.sl_getattr.proofs.Licensing.{first_none, second_none}
use Rattle.sl_getattr.proofs.Counting.{AreSent, AreDowns}
use Rattle.sl_getattr.proofs.Sound.{Tale, IsOut, Owner}
use Rattle.sl_machine.specs.Memory.{Waiting}

-- ---- notes by which nothing takes effect

abbrev pub HasNoEffect : List Remark → Type 0
HasNoEffect [] = Unit {0}
HasNoEffect (Did n at choice ∷ rs) = ⊥
HasNoEffect (Flush f ∷ rs) = ⊥
HasNoEffect (r ∷ rs) = HasNoEffect rs

-- no reply and no drop either
abbrev pub IsPlain : List Remark → Type 0
IsPlain [] = Unit {0}
IsPlain (Sent k f ∷ rs) = IsPlain rs
IsPlain (Verf v ∷ rs) = IsPlain rs
IsPlain (Down a ∷ rs) = IsPlain rs
IsPlain (r ∷ rs) = ⊥

pub no_effect : (rs : List Remark) → IsPlain rs → HasNoEffect rs
no_effect [] plain = tt
no_effect (Sent k f ∷ rs) plain = no_effect rs plain
no_effect (Verf v ∷ rs) plain = no_effect rs plain
no_effect (Down a ∷ rs) plain = no_effect rs plain
no_effect (Did n at choice ∷ rs) plain = absurd plain
no_effect (Flush f ∷ rs) plain = absurd plain
no_effect (Replied n e bytes ∷ rs) plain = absurd plain
no_effect (Junk n ∷ rs) plain = absurd plain
no_effect (Early n ∷ rs) plain = absurd plain
no_effect (Full n ∷ rs) plain = absurd plain
no_effect (Lost n ∷ rs) plain = absurd plain

pub no_reply : (n : ℕ) (rs : List Remark) → IsPlain rs → any_among (is_reply n) rs ≡ false
no_reply n [] plain = refl
no_reply n (Sent k f ∷ rs) plain = no_reply n rs plain
no_reply n (Verf v ∷ rs) plain = no_reply n rs plain
no_reply n (Down a ∷ rs) plain = no_reply n rs plain
no_reply n (Did m at choice ∷ rs) plain = absurd plain
no_reply n (Flush f ∷ rs) plain = absurd plain
no_reply n (Replied m e bytes ∷ rs) plain = absurd plain
no_reply n (Junk m ∷ rs) plain = absurd plain
no_reply n (Early m ∷ rs) plain = absurd plain
no_reply n (Full m ∷ rs) plain = absurd plain
no_reply n (Lost m ∷ rs) plain = absurd plain

pub plain_both : (rs qs : List Remark) → IsPlain rs → IsPlain qs → IsPlain (rs ++ qs)
plain_both [] qs g h = h
plain_both (Sent k f ∷ rs) qs g h = plain_both rs qs g h
plain_both (Verf v ∷ rs) qs g h = plain_both rs qs g h
plain_both (Down a ∷ rs) qs g h = plain_both rs qs g h
plain_both (Did m at choice ∷ rs) qs g h = absurd g
plain_both (Flush f ∷ rs) qs g h = absurd g
plain_both (Replied m e bytes ∷ rs) qs g h = absurd g
plain_both (Junk m ∷ rs) qs g h = absurd g
plain_both (Early m ∷ rs) qs g h = absurd g
plain_both (Full m ∷ rs) qs g h = absurd g
plain_both (Lost m ∷ rs) qs g h = absurd g

pub plain_frames : (k : ℕ) (fs : List Frame) → IsPlain (numbered k fs)
plain_frames k [] = tt
plain_frames k (f ∷ fs) = plain_frames (k + 1) fs

pub plain_drops : (rs : List Remark) → IsPlain rs → dropping rs ≡ []
plain_drops [] plain = refl
plain_drops (Sent k f ∷ rs) plain = plain_drops rs plain
plain_drops (Verf v ∷ rs) plain = plain_drops rs plain
plain_drops (Down a ∷ rs) plain = plain_drops rs plain
plain_drops (Did m at choice ∷ rs) plain = absurd plain
plain_drops (Flush f ∷ rs) plain = absurd plain
plain_drops (Replied m e bytes ∷ rs) plain = absurd plain
plain_drops (Junk m ∷ rs) plain = absurd plain
plain_drops (Early m ∷ rs) plain = absurd plain
plain_drops (Full m ∷ rs) plain = absurd plain
plain_drops (Lost m ∷ rs) plain = absurd plain

pub sent_plain : (rs : List Remark) → AreSent rs → IsPlain rs
sent_plain [] sent = tt
sent_plain (Sent k f ∷ rs) sent = sent_plain rs sent.1
sent_plain (Verf v ∷ rs) sent = absurd sent
sent_plain (Down a ∷ rs) sent = absurd sent
sent_plain (Did m at choice ∷ rs) sent = absurd sent
sent_plain (Flush f ∷ rs) sent = absurd sent
sent_plain (Replied m e bytes ∷ rs) sent = absurd sent
sent_plain (Junk m ∷ rs) sent = absurd sent
sent_plain (Early m ∷ rs) sent = absurd sent
sent_plain (Full m ∷ rs) sent = absurd sent
sent_plain (Lost m ∷ rs) sent = absurd sent

pub downs_plain : (rs : List Remark) → AreDowns rs → IsPlain rs
downs_plain [] downs = tt
downs_plain (Down a ∷ rs) downs = downs_plain rs downs
downs_plain (Sent k f ∷ rs) downs = absurd downs
downs_plain (Verf v ∷ rs) downs = absurd downs
downs_plain (Did m at choice ∷ rs) downs = absurd downs
downs_plain (Flush f ∷ rs) downs = absurd downs
downs_plain (Replied m e bytes ∷ rs) downs = absurd downs
downs_plain (Junk m ∷ rs) downs = absurd downs
downs_plain (Early m ∷ rs) downs = absurd downs
downs_plain (Full m ∷ rs) downs = absurd downs
downs_plain (Lost m ∷ rs) downs = absurd downs

none_did : (n : ℕ) (rs : List Remark) → HasNoEffect rs → any_among (is_did n) rs ≡ false
none_did n [] none = refl
none_did n (Did m at choice ∷ rs) none = absurd none
none_did n (Flush f ∷ rs) none = absurd none
none_did n (Sent k f ∷ rs) none = none_did n rs none
none_did n (Verf v ∷ rs) none = none_did n rs none
none_did n (Down a ∷ rs) none = none_did n rs none
none_did n (Replied m e bytes ∷ rs) none = none_did n rs none
none_did n (Junk m ∷ rs) none = none_did n rs none
none_did n (Early m ∷ rs) none = none_did n rs none
none_did n (Full m ∷ rs) none = none_did n rs none
none_did n (Lost m ∷ rs) none = none_did n rs none

still_new : (number : ℕ) (h : History) (rs : List Remark) (v : Volume) → HasNoEffect rs → IsNew number v → IsNew number (after_notes h rs v)
still_new number h [] v none new = new
still_new number h (Did m at choice ∷ rs) v none new = absurd none
still_new number h (Flush f ∷ rs) v none new = absurd none
still_new number h (Sent k f ∷ rs) v none new = still_new number h rs v none new
still_new number h (Verf w ∷ rs) v none new = still_new number h rs (record v { unstable = []; verifier = w }) none (record { nodes = new.nodes; stable = refl })
still_new number h (Down a ∷ rs) v none new = still_new number h rs v none new
still_new number h (Replied m e bytes ∷ rs) v none new = still_new number h rs v none new
still_new number h (Junk m ∷ rs) v none new = still_new number h rs v none new
still_new number h (Early m ∷ rs) v none new = still_new number h rs v none new
still_new number h (Full m ∷ rs) v none new = still_new number h rs v none new
still_new number h (Lost m ∷ rs) v none new = still_new number h rs v none new

-- without a new verifier it stays
verifier_stays : (h : History) (rs : List Remark) (v : Volume) → HasNoEffect rs → last_among verf_of rs ≡ None → (after_notes h rs v).verifier ≡ v.verifier
verifier_stays h [] v none no_verf = refl
verifier_stays h (Did m at choice ∷ rs) v none no_verf = absurd none
verifier_stays h (Flush f ∷ rs) v none no_verf = absurd none
verifier_stays h (Verf w ∷ rs) v none no_verf = absurd (not_none (second_none (last_among verf_of rs) (Some w) no_verf))
verifier_stays h (Sent k f ∷ rs) v none no_verf = verifier_stays h rs v none (first_none (last_among verf_of rs) None no_verf)
verifier_stays h (Down a ∷ rs) v none no_verf = verifier_stays h rs v none (first_none (last_among verf_of rs) None no_verf)
verifier_stays h (Replied m e bytes ∷ rs) v none no_verf = verifier_stays h rs v none (first_none (last_among verf_of rs) None no_verf)
verifier_stays h (Junk m ∷ rs) v none no_verf = verifier_stays h rs v none (first_none (last_among verf_of rs) None no_verf)
verifier_stays h (Early m ∷ rs) v none no_verf = verifier_stays h rs v none (first_none (last_among verf_of rs) None no_verf)
verifier_stays h (Full m ∷ rs) v none no_verf = verifier_stays h rs v none (first_none (last_among verf_of rs) None no_verf)
verifier_stays h (Lost m ∷ rs) v none no_verf = verifier_stays h rs v none (first_none (last_among verf_of rs) None no_verf)

-- ---- a turn more

neither : (a b : Bool) → a ≡ false → b ≡ false → a || b ≡ false
neither false false ea eb = refl
neither false true ea eb = eb
neither true b ea eb = ea

at_most : (x : Happening) → event_count x ≤ 1
at_most (Opens s) = omega arith
at_most (Reaches m) = omega arith
at_most (Happens e) = omega arith

pub later : (past : History) (t : Turn) → events past ≤ events (t ∷ past)
later past t = omega arith

before : (a b n : ℕ) → a + b < n → a < n
before a b n less = omega arith

pub tale_after : (s : Setup) (past : History) (t : Turn) → Tale s past → HasNoEffect t.remarks → IsNew s.volume (volume_after (fresh s.volume) (t ∷ past))
unfolding volume_after
tale_after s past t tale none = still_new s.volume (t ∷ past) t.remarks (volume_after (fresh s.volume) past) none tale.after

pub tale_goes : (s : Setup) (past : History) (t : Turn) → Tale s past → HasNoEffect t.remarks → ((n : ℕ) → events (t ∷ past) < n → any_among (is_reply n) t.remarks ≡ false)
    → Tale s (t ∷ past)
unfolding any_in volume_after volume_at last_verf
tale_goes s past t tale none replies = record {
  undone = λ n. neither (any_in (is_did n) past) (any_among (is_did n) t.remarks) (tale.undone n) (none_did n t.remarks none);
  unanswered = λ n less. neither (any_in (is_reply n) past) (any_among (is_reply n) t.remarks) (tale.unanswered n (before (events past) (event_count t.happening) n less)) (replies n less);
  after = tale_after s past t tale none;
  verifier = λ no_verf. verifier_stays (t ∷ past) t.remarks (volume_after (fresh s.volume) past) none (first_none (last_among verf_of t.remarks) (last_in verf_of past) no_verf)
      ∙ tale.verifier (second_none (last_among verf_of t.remarks) (last_in verf_of past) no_verf);
  at = λ e. by e (nat_le (events (t ∷ past)) e);
}
  where
    by : (e : ℕ) (b : Bool) → IsNew s.volume (if b then volume_after (fresh s.volume) (t ∷ past) else volume_at (fresh s.volume) past e)
    by e true = tale_after s past t tale none
    by e false = tale.at e

-- ---- a call that came before

other_event : (c a n : ℕ) → n ≤ a → ((c == 1) && (a + 1 == n)) ≡ false
other_event c a n less = grind (arith, nat_tests)

pub same_turn : (past : History) (t : Turn) (n : ℕ) → n ≤ events past → turn_of (t ∷ past) n ≡ turn_of past n
unfolding turn_of
same_turn past t n less = ap (λ b. if b then Some t else turn_of past n) (other_event (event_count t.happening) (events past) n less)

raised : (a b n : ℕ) → n ≤ a → n ≤ a + b
raised a b n less = omega arith

-- it still waits where it has no reply in this turn
pub still_out : (s : Setup) (past : History) (t : Turn) (owner owner' : ℕ → Owner) (next next' n : ℕ) (w : Waiting) → IsOut s past owner next n w → any_among (is_reply n) t.remarks ≡ false
    → next ≤ next' → ((tag : ℕ) → tag < next → owner' tag ≡ owner tag) → IsOut s (t ∷ past) owner' next' n w
unfolding any_in
still_out s past t owner owner' next next' n w out none less same = record {
  object = out.object;
  handle = out.handle;
  came = ap datagram_in (same_turn past t n out.before) ∙ out.came;
  read = out.read;
  procedure = out.procedure;
  asks = out.asks;
  spelled = out.spelled;
  fits = out.fits;
  small = out.small;
  accepted = ap (λ o. was_dropped o n) (same_turn past t n out.before) ∙ out.accepted;
  unanswered = neither (any_in (is_reply n) past) (any_among (is_reply n) t.remarks) out.unanswered none;
  before = raised (events past) (event_count t.happening) n out.before;
  held = out.held;
  awaits = out.awaits;
  request = out.request;
  out = out.out;
  chosen = out.chosen;
  packet = out.packet;
  «body» = out.«body»;
  to = out.to;
  tag = less_yet out.request.tag next next' out.tag less;
  owned = same out.request.tag out.tag ∙ out.owned;
  says = out.says;
}
  where
    less_yet : (a b c : ℕ) → a < b → b ≤ c → a < c
    less_yet a b c p q = omega arith

-- ---- which notes are legal

pub plain_legal : (start : Volume) (past : History) (t : Turn) (before rs : List Remark) → IsPlain rs → AllMayBeNoted start t past before rs
plain_legal start past t before [] plain = tt
plain_legal start past t before (Sent k f ∷ rs) plain = (tt, plain_legal start past t (before ++ Sent k f ∷ []) rs plain)
plain_legal start past t before (Verf v ∷ rs) plain = (tt, plain_legal start past t (before ++ Verf v ∷ []) rs plain)
plain_legal start past t before (Down a ∷ rs) plain = (tt, plain_legal start past t (before ++ Down a ∷ []) rs plain)
plain_legal start past t before (Did m at choice ∷ rs) plain = absurd plain
plain_legal start past t before (Flush f ∷ rs) plain = absurd plain
plain_legal start past t before (Replied m e bytes ∷ rs) plain = absurd plain
plain_legal start past t before (Junk m ∷ rs) plain = absurd plain
plain_legal start past t before (Early m ∷ rs) plain = absurd plain
plain_legal start past t before (Full m ∷ rs) plain = absurd plain
plain_legal start past t before (Lost m ∷ rs) plain = absurd plain

-- the datagram of this turn may be dropped
pub drop_legal : (s : Setup) (past : History) (t : Turn) → Tale s past → event_count t.happening ≡ 1 → IsDrop (so_far t [] ∷ past) (events past + 1)
unfolding any_in
drop_legal s past t tale one = record {
  undone = neither (any_in (is_did (events past + 1)) past) false (tale.undone (events past + 1)) refl;
  unanswered = neither (any_in (is_reply (events past + 1)) past) false (tale.unanswered (events past + 1) (next_one (events past))) refl;
}
  where
    next_one : (a : ℕ) → a < a + 1
    next_one a = omega arith

-- what a GETATTR is answered is not about unstable writes
reads_only : (object : List ℕ) → is_changing (call.Getattr object) ≡ false
reads_only object = refl

-- the reply to a call that waited
pub answer_legal : (s : Setup) (past : History) (t : Turn) (owner : ℕ → Owner) (next n e : ℕ) (w : Waiting) → Tale s past → event_count t.happening ≡ 1
    → n ≤ e → e ≤ events past → (out : IsOut s past owner next n w)
    → IsReply (fresh s.volume) (so_far t [] ∷ past) t.moment n e (answer_to w.asked (reply.Getattr (look_by s.volume (Some out.handle))))
unfolding any_in volume_at
answer_legal s past t owner next n e w tale one after_it not_later out = record {
  first = neither (any_in (is_reply n) past) false out.unanswered refl;
  is = subst (λ d. IsReplyIf start h t.moment n e bytes d) (sym (ap datagram_in (same_turn past (so_far t []) n out.before) ∙ out.came))
      (subst (λ d. IsReplyTo start h t.moment n e bytes d) (sym out.read)
      (subst (λ b. IsAnswerBy b start h t.moment n e bytes w.asked) (sym (ap is_changing out.asks)) look));
}
  where
    start : Volume
    start = fresh s.volume

    h : History
    h = so_far t [] ∷ past

    bytes : List ℕ
    bytes = answer_to w.asked (reply.Getattr (look_by s.volume (Some out.handle)))

    at : volume_at start h e ≡ volume_at start past e
    at = ap (λ b. if b then volume_after start h else volume_at start past e) (not_yet (events past) (event_count t.happening) e one not_later)
      where
        not_yet : (a c e : ℕ) → c ≡ 1 → e ≤ a → nat_le (a + c) e ≡ false
        not_yet a c e is less = grind (arith, nat_tests)

    look : IsLook start h t.moment n e bytes w.asked
    look = record {
      accepted = ap (λ o. was_dropped o n) (same_turn past (so_far t []) n out.before) ∙ out.accepted;
      not_before = after_it;
      not_later = raised (events past) (event_count t.happening) e not_later;
      reply = ap (answer_to w.asked) (sym (ap (λ v. (perform v w.asked.call w.asked.cred t.moment no_choice).1) at
          ∙ ap (λ c. (perform (volume_at start past e) c w.asked.cred t.moment no_choice).1) out.asks
          ∙ performed s.volume (volume_at start past e) out.object w.asked.cred t.moment no_choice (tale.at e) ∙ ap (λ o. reply.Getattr (look_by s.volume o)) out.spelled));
      settled = λ ok. ap (is_settled (volume_at start h e)) out.asks;
    }

-- ---- the turn of a datagram

this_event : (a c : ℕ) → c ≡ 1 → ((c == 1) && (a + 1 == a + 1)) ≡ true
this_event a c one = grind (arith, nat_tests)

pub own_turn : (past : History) (t : Turn) → event_count t.happening ≡ 1 → turn_of (t ∷ past) (events past + 1) ≡ Some t
unfolding turn_of
own_turn past t one = ap (λ b. if b then Some t else turn_of past (events past + 1)) (this_event (events past) (event_count t.happening) one)

counted : (past : History) (t : Turn) → event_count t.happening ≡ 1 → events past + 1 ≡ events (t ∷ past)
counted past t one = ap (λ c. events past + c) (sym one)

-- what is answered at once, since no server is needed for it
pub at_once_legal : (s : Setup) (past : History) (t : Turn) (bytes answer : List ℕ) → Tale s past → event_count t.happening ≡ 1 → datagram_of t.happening ≡ Some bytes
    → datagram bytes ≡ IsAnswered answer → is_up (so_far t [] ∷ past) 0 ≡ true → IsReply (fresh s.volume) (so_far t [] ∷ past) t.moment (events past + 1) (events past + 1) answer
unfolding any_in
at_once_legal s past t bytes answer tale one brings is up = record {
  first = neither (any_in (is_reply n) past) false (tale.unanswered n (next_one (events past))) refl;
  is = subst (λ d. IsReplyIf (fresh s.volume) h t.moment n n answer d) (sym (ap datagram_in (own_turn past (so_far t []) one) ∙ brings))
      (subst (λ d. IsReplyTo (fresh s.volume) h t.moment n n answer d) (sym is) (record { up = up; at_arrival = counted past (so_far t []) one; event = refl; reply = refl }));
}
  where
    n : ℕ
    n = events past + 1

    h : History
    h = so_far t [] ∷ past

    next_one : (a : ℕ) → a < a + 1
    next_one a = omega arith

-- a GETATTR that is answered in the event in which it came
pub refusal_legal : (s : Setup) (past : History) (t : Turn) (bytes object : List ℕ) (q : Asked) → Tale s past → event_count t.happening ≡ 1 → datagram_of t.happening ≡ Some bytes
    → datagram bytes ≡ IsAsked q → q.call ≡ call.Getattr object
    → IsReply (fresh s.volume) (so_far t [] ∷ past) t.moment (events past + 1) (events past + 1) (answer_to q (reply.Getattr (look_by s.volume (handle_of object))))
unfolding any_in volume_at
refusal_legal s past t bytes object q tale one brings is asks = record {
  first = neither (any_in (is_reply n) past) false (tale.unanswered n (next_one (events past))) refl;
  is = subst (λ d. IsReplyIf start h t.moment n n answer d) (sym (ap datagram_in (own_turn past (so_far t []) one) ∙ brings))
      (subst (λ d. IsReplyTo start h t.moment n n answer d) (sym is)
      (subst (λ b. IsAnswerBy b start h t.moment n n answer q) (sym (ap is_changing asks)) look));
}
  where
    n : ℕ
    n = events past + 1

    h : History
    h = so_far t [] ∷ past

    start : Volume
    start = fresh s.volume

    answer : List ℕ
    answer = answer_to q (reply.Getattr (look_by s.volume (handle_of object)))

    next_one : (a : ℕ) → a < a + 1
    next_one a = omega arith

    itself : (a b : ℕ) → a ≡ b → a ≤ b
    itself a b same = omega arith

    new : IsNew s.volume (volume_at start h n)
    new = by (nat_le (events h) n)
      where
        by : (b : Bool) → IsNew s.volume (if b then volume_after start h else volume_at start past n)
        by true = tale_after s past (so_far t []) tale tt
        by false = tale.at n

    look : IsLook start h t.moment n n answer q
    look = record {
      accepted = ap (λ o. was_dropped o n) (own_turn past (so_far t []) one);
      not_before = itself n n refl;
      not_later = itself n (events h) (counted past (so_far t []) one);
      reply = ap (answer_to q) (sym (ap (λ c. (perform (volume_at start h n) c q.cred t.moment no_choice).1) asks
          ∙ performed s.volume (volume_at start h n) object q.cred t.moment no_choice new));
      settled = λ ok. ap (is_settled (volume_at start h n)) asks;
    }
