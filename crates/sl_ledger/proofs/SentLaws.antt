-- How the frames that were sent follow a history.
use Rattle.std.proofs.Common.{◌≡◌, ◌↔◌, true≢false, ℕ, zero, suc, ◌+◌, ◌<◌, ◌≤◌, eqb, eqb-true, eq-eqb, Bool, true, false, cond, not, ◌&&◌, ◌||◌, List, [], ◌∷◌, ◌++◌, length, length-append, refl, ap, sym, subst, ◌∙◌, arith}
use Rattle.std.proofs.Math.Bool.{or-false}
use Rattle.std.proofs.lemmas.Bool.{and_parts, cond-false, false_from_ne_true, le-leb, lt-leb}
use Rattle.std.specs.Prelude.{Option, Some, None, is_some, option_and_then, option_map}
use Rattle.std.specs.List.{slice_get}
use Rattle.std.specs.Ordering.{nat_cmp}
use Rattle.std.specs.BTreeSet.{contains}
use Rattle.std.specs.BTreeMap as tree
use Rattle.std.specs.BTreeMap.{BTreeMap, is_at}
use Rattle.std.specs.BTreeSet.{BTreeSet}
use Rattle.std.specs.List.{list_any}
use Rattle.std.specs.Map.{lookup}
use Rattle.std.specs.Ordering.{is_eq, ordering_then}
use Rattle.std.specs.declared.cmp.Ordering.{Ordering}
use Rattle.std.specs.declared.cmp.Ordering.TheVariants.{Less, Equal, Greater}
use Rattle.std.proofs.lemmas.Grind.{common_steps}
use Rattle.sl_defs.specs.Histories.{Happening}
use Rattle.sl_defs.specs.declared.setup.Time.{Time}
use Rattle.sl_frames.specs.declared.frame.Frame.{Frame}
use Rattle.sl_history.specs.Turns.{Remark, Sent, Turn, History, begun, events, noted}
use Rattle.sl_history.specs.Frames.{event_if, event_of_sending, frame, given_number, in_flight, is_sent, lands, or_else, sent_among}
use Rattle.sl_history.specs.Licensed.{is_request, request, request_among, request_if}
use Rattle.sl_history.specs.Wired.{frames, given_event}
use Rattle.sl_history.specs.Wired as wired
use Rattle.sl_ledger.specs.declared.sent.SentFrame.{SentFrame}
use Rattle.sl_ledger.specs.declared.sent.SentFrames.{SentFrames}
use Rattle.sl_ledger.specs.Sending.{AreSentIn, IsBelow, event_at, event_in, frame_at, frame_in, is_from, pair_cmp, place, request_place, sent_at, with_first, with_place}
use Rattle.sl_ledger.proofs.ArrivalLaws.{get_last}
use Rattle.sl_ledger.proofs.NotedLaws.{frames-noted, or_else_none, request-noted, sent_last}

-- ---- places

-- what stands at a place that is kept stands there still with one frame more
sent_still : (xs : List SentFrame) (c : SentFrame) (p : Option ℕ) → IsBelow (length xs) p → sent_at (xs ++ c ∷ []) p ≡ sent_at xs p
sent_still xs c None below = refl
sent_still xs c (Some i) below =
    get_last xs c i ∙ cond-false (eqb (length xs) i) (Some c) (slice_get xs i) (not_last (length xs) i below)
  where
    not_last : (n i : ℕ) → i < n → eqb n i ≡ false
    not_last n i below = false_from_ne_true (eqb n i) (λ (e : eqb n i ≡ true). let same = eqb-true n i e in omega (arith, same, below))

sent_new : (xs : List SentFrame) (c : SentFrame) → sent_at (xs ++ c ∷ []) (Some (length xs)) ≡ Some c
sent_new xs c = get_last xs c (length xs) ∙ ap (λ b. cond b (Some c) (slice_get xs (length xs))) (eq-eqb (length xs) (length xs) refl)

below_more : (n m : ℕ) (p : Option ℕ) → n ≤ m → IsBelow n p → IsBelow m p
below_more n m None more below = tt
below_more n m (Some i) more below = omega (arith, more, below)

below_placed : (b : Bool) (older n : ℕ) (p : Option ℕ) → IsBelow n p → IsBelow (n + 1) (with_place b older n p)
below_placed b older n p below = either (b && not (is_from older p))
  where
    either : (c : Bool) → IsBelow (n + 1) (cond c (Some n) p)
    either true = omega arith
    either false = below_more n (n + 1) p (omega arith) below

below_first : (b : Bool) (n : ℕ) (p : Option ℕ) → IsBelow n p → IsBelow (n + 1) (with_first b n p)
below_first b n p below = either (b && not (is_some p))
  where
    either : (c : Bool) → IsBelow (n + 1) (cond c (Some n) p)
    either true = omega arith
    either false = below_more n (n + 1) p (omega arith) below

-- what stands at the place of a number, where one frame more was sent under it or under another number. Of the newest turn
-- it is the first, of several turns the newest turn's.
placed : {A : Type 0} → (of : SentFrame → A) (b : Bool) (older : ℕ) (xs : List SentFrame) (c : SentFrame) (p : Option ℕ) (s q : Option A) → IsBelow (length xs) p
    → is_from older p ≡ is_some s → option_map of (sent_at xs p) ≡ or_else s q
    → option_map of (sent_at (xs ++ c ∷ []) (with_place b older (length xs) p)) ≡ or_else (or_else s (cond b (Some (of c)) None)) q
placed of false older xs c p s q below recent is =
    ap (option_map of) (sent_still xs c p below) ∙ is ∙ sym (ap (λ o. or_else o q) (or_else_none s))
placed of true older xs c p (Some x) q below recent is =
    ap (λ b. option_map of (sent_at (xs ++ c ∷ []) (cond (not b) (Some (length xs)) p))) recent
    ∙ ap (option_map of) (sent_still xs c p below) ∙ is
placed of true older xs c p None q below recent is =
    ap (λ b. option_map of (sent_at (xs ++ c ∷ []) (cond (not b) (Some (length xs)) p))) recent
    ∙ ap (option_map of) (sent_new xs c)

placed_recent : (b : Bool) (older n : ℕ) (p : Option ℕ) (s : Option Frame) (f : Frame) → older ≤ n → is_from older p ≡ is_sent s
    → is_from older (with_place b older n p) ≡ is_sent (or_else s (cond b (Some f) None))
placed_recent false older n p s f seam recent = recent ∙ sym (ap is_sent (or_else_none s))
placed_recent true older n p (Some x) f seam recent = ap (λ b. is_from older (cond (not b) (Some n) p)) recent ∙ recent
placed_recent true older n p None f seam recent = ap (λ b. is_from older (cond (not b) (Some n) p)) recent ∙ le-leb older n seam

some_there : (xs : List SentFrame) (i : ℕ) → i < length xs → option_map frame_in (slice_get xs i) ≡ None → ⊥
some_there [] i below none = absurd (omega (arith, below))
some_there (x ∷ xs) zero below none = cc
some_there (x ∷ xs) (suc i) below none = some_there xs i (omega (arith, below)) none

-- the first of two requests
placed_first : (b : Bool) (xs : List SentFrame) (c : SentFrame) (p : Option ℕ) (q : Option Frame) → IsBelow (length xs) p → frame_at xs p ≡ q
    → frame_at (xs ++ c ∷ []) (with_first b (length xs) p) ≡ or_else q (cond b (Some c.frame) None)
placed_first false xs c p q below is = ap (option_map frame_in) (sent_still xs c p below) ∙ is ∙ sym (or_else_none q)
placed_first true xs c None q below is = ap (option_map frame_in) (sent_new xs c) ∙ ap (λ o. or_else o (Some c.frame)) is
placed_first true xs c (Some i) (Some x) below is = ap (option_map frame_in) (sent_still xs c (Some i) below) ∙ is
placed_first true xs c (Some i) None below is = absurd (some_there xs i below is)

is_sent_some : (o : Option Frame) → is_sent o ≡ is_some o
is_sent_some None = refl
is_sent_some (Some f) = refl

event_if_some : (e : ℕ) (o : Option Frame) → is_sent o ≡ is_some (event_if e o)
event_if_some e None = refl
event_if_some e (Some f) = refl

event_if_more : (e : ℕ) (b : Bool) (f : Frame) (o : Option Frame) → event_if e (or_else o (cond b (Some f) None)) ≡ or_else (event_if e o) (cond b (Some e) None)
event_if_more e true f None = refl
event_if_more e false f None = refl
event_if_more e b f (Some g) = refl

-- ---- one frame more

frame-noted : (t : Turn) (past : History) (r : Remark) (n : ℕ) → frame (noted (t ∷ past) r) n ≡ or_else (or_else (sent_among t.remarks n) (sent_among (r ∷ []) n)) (frame past n)
unfolding frame
frame-noted t past r n = ap (λ o. or_else o (frame past n)) (sent_last n t.remarks r)

event-noted : (t : Turn) (past : History) (r : Remark) (n : ℕ)
    → event_of_sending (noted (t ∷ past) r) n ≡ or_else (event_if (events (t ∷ past)) (or_else (sent_among t.remarks n) (sent_among (r ∷ []) n))) (event_of_sending past n)
unfolding event_of_sending
event-noted t past r n = ap (λ o. or_else (event_if (events (t ∷ past)) o) (event_of_sending past n)) (sent_last n t.remarks r)

is_sent_more : (b : Bool) (f : Frame) (o : Option Frame) (u : Bool) → (u || is_sent (or_else o (cond b (Some f) None))) ≡ (b || (u || is_sent o))
is_sent_more true f None true = refl
is_sent_more true f None false = refl
is_sent_more true f (Some g) true = refl
is_sent_more true f (Some g) false = refl
is_sent_more false f None u = refl
is_sent_more false f (Some g) u = refl

in_flight-sent : (t : Turn) (past : History) (k : ℕ) (f : Frame) (n : ℕ) → in_flight (noted (t ∷ past) (Sent k f)) n ≡ (eqb k n || in_flight (t ∷ past) n)
unfolding in_flight
in_flight-sent t past k f n =
    ap (λ o. (in_flight past n && not (lands t.happening n)) || is_sent o) (sent_last n t.remarks (Sent k f))
    ∙ is_sent_more (eqb k n) f (sent_among t.remarks n) (in_flight past n && not (lands t.happening n))

request_if_cond : (fence tag : ℕ) (f : Frame) → request_if fence tag f ≡ cond (is_request f.body && (eqb f.fence fence && eqb f.tag tag)) (Some f) None
request_if_cond fence tag f = refl

frame_is : (t : Turn) (past : History) (n : ℕ) → frame (t ∷ past) n ≡ or_else (sent_among t.remarks n) (frame past n)
unfolding frame
frame_is t past n = refl

event_is : (t : Turn) (past : History) (n : ℕ) → event_of_sending (t ∷ past) n ≡ or_else (event_if (events (t ∷ past)) (sent_among t.remarks n)) (event_of_sending past n)
unfolding event_of_sending
event_is t past n = refl

pub sent_more : (t : Turn) (past : History) (number : ℕ) (f : Frame) (c : SentFrame) (s s' : SentFrames) → AreSentIn (t ∷ past) s → c.frame ≡ f → c.event ≡ events (t ∷ past)
    → s'.frames.items ≡ s.frames.items ++ c ∷ [] → s'.older ≡ s.older → s'.given ≡ s.given
    → ((n : ℕ) → place s'.by_number n ≡ with_place (eqb number n) s.older (length s.frames.items) (place s.by_number n))
    → ((a b : ℕ) → request_place s'.requests a b ≡ with_first (is_request f.body && (eqb f.fence a && eqb f.tag b)) (length s.frames.items) (request_place s.requests a b))
    → ((n : ℕ) → contains nat_cmp s'.flying n ≡ (eqb number n || contains nat_cmp s.flying n))
    → AreSentIn (noted (t ∷ past) (Sent number f)) s'
sent_more t past number f c s s' is framed dated frames older given numbers requests flying =
    let xs = s.frames.items in
    let r = Sent number f in
    let long : length s'.frames.items ≡ length xs + 1 = ap length frames ∙ length-append xs (c ∷ []) in
    let event = events (t ∷ past) in
    record {
      count = long ∙ ap (λ k. k + 1) is.count ∙ sym (frames-noted t past r);
      places = record {
        seam = omega (arith, long, older, is.places.seam);
        numbers = λ n.
            subst (λ k. IsBelow k (place s'.by_number n)) (sym long)
            (subst (IsBelow (length xs + 1)) (sym (numbers n)) (below_placed (eqb number n) s.older (length xs) (place s.by_number n) (is.places.numbers n)));
        requests = λ a b.
            subst (λ k. IsBelow k (request_place s'.requests a b)) (sym long)
            (subst (IsBelow (length xs + 1)) (sym (requests a b))
            (below_first (is_request f.body && (eqb f.fence a && eqb f.tag b)) (length xs) (request_place s.requests a b) (is.places.requests a b)));
        given = subst (λ k. IsBelow k s'.given) (sym long) (subst (IsBelow (length xs + 1)) (sym given) (below_more (length xs) (length xs + 1) s.given (omega arith) is.places.given));
      };
      numbered = λ n.
          ap (λ ys. frame_at ys (place s'.by_number n)) frames ∙ ap (frame_at (xs ++ c ∷ [])) (numbers n)
          ∙ placed frame_in (eqb number n) s.older xs c (place s.by_number n) (sent_among t.remarks n) (frame past n) (is.places.numbers n)
          (is.newest.recent n ∙ is_sent_some (sent_among t.remarks n)) (is.numbered n ∙ frame_is t past n)
          ∙ ap (λ g. or_else (or_else (sent_among t.remarks n) (cond (eqb number n) (Some g) None)) (frame past n)) framed
          ∙ sym (frame-noted t past r n);
      dated = λ n.
          ap (λ ys. event_at ys (place s'.by_number n)) frames ∙ ap (event_at (xs ++ c ∷ [])) (numbers n)
          ∙ placed event_in (eqb number n) s.older xs c (place s.by_number n) (event_if event (sent_among t.remarks n)) (event_of_sending past n) (is.places.numbers n)
          (is.newest.recent n ∙ event_if_some event (sent_among t.remarks n)) (is.dated n ∙ event_is t past n)
          ∙ ap (λ e. or_else (or_else (event_if event (sent_among t.remarks n)) (cond (eqb number n) (Some e) None)) (event_of_sending past n)) dated
          ∙ ap (λ o. or_else o (event_of_sending past n)) (sym (event_if_more event (eqb number n) f (sent_among t.remarks n)))
          ∙ sym (event-noted t past r n);
      requested = λ a b.
          let test = is_request f.body && (eqb f.fence a && eqb f.tag b) in
          ap (λ ys. frame_at ys (request_place s'.requests a b)) frames ∙ ap (frame_at (xs ++ c ∷ [])) (requests a b)
          ∙ placed_first test xs c (request_place s.requests a b) (request (t ∷ past) a b) (is.places.requests a b) (is.requested a b)
          ∙ ap (λ g. or_else (request (t ∷ past) a b) (cond test (Some g) None)) framed
          ∙ ap (or_else (request (t ∷ past) a b)) (sym (or_else_none (request_if a b f)))
          ∙ sym (request-noted t past r a b);
      flies = λ n. flying n ∙ ap (λ b. eqb number n || b) (is.flies n) ∙ sym (in_flight-sent t past number f n);
      newest = record {
        recent = λ n.
            ap (λ k. is_from k (place s'.by_number n)) older ∙ ap (is_from s.older) (numbers n)
            ∙ placed_recent (eqb number n) s.older (length xs) (place s.by_number n) (sent_among t.remarks n) f is.places.seam (is.newest.recent n)
            ∙ ap is_sent (sym (sent_last n t.remarks r));
        gives = ap (λ ys. frame_at ys s'.given) frames ∙ ap (frame_at (xs ++ c ∷ [])) given ∙ ap (option_map frame_in) (sent_still xs c s.given is.places.given) ∙ is.newest.gives;
        gives_from = ap (λ ys. event_at ys s'.given) frames ∙ ap (event_at (xs ++ c ∷ [])) given ∙ ap (option_map event_in) (sent_still xs c s.given is.places.given) ∙ is.newest.gives_from;
      };
    }

-- ---- no frame

-- The remark is of no frame.
pub record IsNoFrame (r : Remark) : Type 0 where
  pub none : (n : ℕ) → sent_among (r ∷ []) n ≡ None
  pub no_request : (fence tag : ℕ) → request_among (r ∷ []) fence tag ≡ None
  pub uncounted : wired.sent_among (r ∷ []) ≡ 0

in_flight-noted : (t : Turn) (past : History) (r : Remark) (n : ℕ) → sent_among (r ∷ []) n ≡ None → in_flight (noted (t ∷ past) r) n ≡ in_flight (t ∷ past) n
unfolding in_flight
in_flight-noted t past r n none =
    ap (λ o. (in_flight past n && not (lands t.happening n)) || is_sent o) (sent_last n t.remarks r ∙ ap (or_else (sent_among t.remarks n)) none ∙ or_else_none (sent_among t.remarks n))

plus_none : (a b c : ℕ) → a ≡ b + c → c ≡ 0 → a ≡ b
plus_none a b c e f = omega (arith, e, f)

pub sent_quiet : (t : Turn) (past : History) (r : Remark) (s : SentFrames) → IsNoFrame r → AreSentIn (t ∷ past) s → AreSentIn (noted (t ∷ past) r) s
sent_quiet t past r s frameless is =
    let same : (n : ℕ) → or_else (sent_among t.remarks n) (sent_among (r ∷ []) n) ≡ sent_among t.remarks n =
    λ n. ap (or_else (sent_among t.remarks n)) (frameless.none n) ∙ or_else_none (sent_among t.remarks n) in
    record {
      count = is.count ∙ sym (plus_none (frames (noted (t ∷ past) r)) (frames (t ∷ past)) (wired.sent_among (r ∷ [])) (frames-noted t past r) frameless.uncounted);
      places = is.places;
      numbered = λ n. is.numbered n ∙ frame_is t past n ∙ sym (frame-noted t past r n ∙ ap (λ o. or_else o (frame past n)) (same n));
      dated = λ n. is.dated n ∙ event_is t past n ∙ sym (event-noted t past r n ∙ ap (λ o. or_else (event_if (events (t ∷ past)) o) (event_of_sending past n)) (same n));
      requested = λ a b. is.requested a b ∙ sym (request-noted t past r a b ∙ ap (or_else (request (t ∷ past) a b)) (frameless.no_request a b) ∙ or_else_none (request (t ∷ past) a b));
      flies = λ n. is.flies n ∙ sym (in_flight-noted t past r n (frameless.none n));
      newest = record {
        recent = λ n. is.newest.recent n ∙ ap is_sent (sym (sent_last n t.remarks r ∙ same n));
        gives = is.newest.gives;
        gives_from = is.newest.gives_from;
      };
    }

-- ---- a turn begins

not_from : (n : ℕ) (p : Option ℕ) → IsBelow n p → is_from n p ≡ false
not_from n None below = refl
not_from n (Some i) below = lt-leb n i below

frame-begun : (past : History) (x : Happening) (moment : Time) (n : ℕ) → frame (begun past x moment) n ≡ frame past n
unfolding frame
frame-begun past x moment n = refl

event-begun : (past : History) (x : Happening) (moment : Time) (n : ℕ) → event_of_sending (begun past x moment) n ≡ event_of_sending past n
unfolding event_of_sending
event-begun past x moment n = refl

request-begun : (past : History) (x : Happening) (moment : Time) (a b : ℕ) → request (begun past x moment) a b ≡ request past a b
unfolding request
request-begun past x moment a b = or_else_none (request past a b)

in_flight-begun : (past : History) (x : Happening) (moment : Time) (n : ℕ) → in_flight (begun past x moment) n ≡ (in_flight past n && not (lands x n))
unfolding in_flight
in_flight-begun past x moment n = or-false (in_flight past n && not (lands x n))

frames-begun : (past : History) (x : Happening) (moment : Time) → frames (begun past x moment) ≡ frames past
unfolding frames
frames-begun past x moment = omega arith

given_at : {A : Type 0} → (of : SentFrame → A) (xs : List SentFrame) (places : ℕ → Option ℕ) (found : ℕ → Option A) → ((n : ℕ) → option_map of (sent_at xs (places n)) ≡ found n)
    → (o : Option ℕ) → option_map of (sent_at xs (option_and_then places o)) ≡ option_and_then found o
given_at of xs places found is None = refl
given_at of xs places found is (Some n) = is n

given_below : (n : ℕ) (places : ℕ → Option ℕ) → ((k : ℕ) → IsBelow n (places k)) → (o : Option ℕ) → IsBelow n (option_and_then places o)
given_below n places is None = tt
given_below n places is (Some k) = is k

pub sent_begun : (past : History) (x : Happening) (moment : Time) (s s' : SentFrames) → AreSentIn past s → s'.frames ≡ s.frames → s'.older ≡ length s.frames.items
    → s'.by_number ≡ s.by_number → s'.requests ≡ s.requests → s'.given ≡ option_and_then (place s.by_number) (given_number x)
    → ((n : ℕ) → contains nat_cmp s'.flying n ≡ (contains nat_cmp s.flying n && not (lands x n))) → AreSentIn (begun past x moment) s'
sent_begun past x moment s s' is framed older numbers requests given flying =
    let xs = s.frames.items in
    let items : s'.frames.items ≡ xs = ap (λ v. v.items) framed in
    let long : length s'.frames.items ≡ length xs = ap length items in
    record {
      count = long ∙ is.count ∙ sym (frames-begun past x moment);
      places = record {
        seam = omega (arith, long, older);
        numbers = λ n. subst (λ k. IsBelow k (place s'.by_number n)) (sym long) (subst (λ m. IsBelow (length xs) (place m n)) (sym numbers) (is.places.numbers n));
        requests = λ a b. subst (λ k. IsBelow k (request_place s'.requests a b)) (sym long) (subst (λ m. IsBelow (length xs) (request_place m a b)) (sym requests) (is.places.requests a b));
        given = subst (λ k. IsBelow k s'.given) (sym long)
            (subst (IsBelow (length xs)) (sym given) (given_below (length xs) (place s.by_number) is.places.numbers (given_number x)));
      };
      numbered = λ n. ap (λ ys. frame_at ys (place s'.by_number n)) items ∙ ap (λ m. frame_at xs (place m n)) numbers ∙ is.numbered n ∙ sym (frame-begun past x moment n);
      dated = λ n. ap (λ ys. event_at ys (place s'.by_number n)) items ∙ ap (λ m. event_at xs (place m n)) numbers ∙ is.dated n ∙ sym (event-begun past x moment n);
      requested = λ a b.
          ap (λ ys. frame_at ys (request_place s'.requests a b)) items ∙ ap (λ m. frame_at xs (request_place m a b)) requests ∙ is.requested a b
          ∙ sym (request-begun past x moment a b);
      flies = λ n. flying n ∙ ap (λ b. b && not (lands x n)) (is.flies n) ∙ sym (in_flight-begun past x moment n);
      newest = record {
        recent = λ n. ap (λ k. is_from k (place s'.by_number n)) older ∙ ap (λ m. is_from (length xs) (place m n)) numbers ∙ not_from (length xs) (place s.by_number n) (is.places.numbers n);
        gives = ap (λ ys. frame_at ys s'.given) items ∙ ap (frame_at xs) given ∙ given_at frame_in xs (place s.by_number) (frame past) is.numbered (given_number x);
        gives_from = ap (λ ys. event_at ys s'.given) items ∙ ap (event_at xs) given ∙ given_at event_in xs (place s.by_number) (event_of_sending past) is.dated (given_number x);
      };
    }

-- nothing was sent yet
pub sent_none : (s : SentFrames) → s.frames.items ≡ [] → s.older ≡ 0 → s.by_number.entries ≡ [] → s.requests.entries ≡ [] → s.flying.keys ≡ [] → s.given ≡ None → AreSentIn [] s
unfolding frames frame event_of_sending request in_flight
sent_none s items older numbers requests flying given =
    let no_place : (n : ℕ) → place s.by_number n ≡ None = λ n. ap (lookup (is_at (nat_cmp n))) numbers in
    let no_request_place : (a b : ℕ) → request_place s.requests a b ≡ None = λ a b. ap (lookup (is_at (pair_cmp (a, b)))) requests in
    record {
      count = ap length items;
      places = record {
        seam = omega (arith, older);
        numbers = λ n. subst (IsBelow (length s.frames.items)) (sym (no_place n)) tt;
        requests = λ a b. subst (IsBelow (length s.frames.items)) (sym (no_request_place a b)) tt;
        given = subst (IsBelow (length s.frames.items)) (sym given) tt;
      };
      numbered = λ n. ap (frame_at s.frames.items) (no_place n);
      dated = λ n. ap (event_at s.frames.items) (no_place n);
      requested = λ a b. ap (frame_at s.frames.items) (no_request_place a b);
      flies = λ n. ap (list_any (is_at (nat_cmp n))) flying;
      newest = tt;
    }

-- ---- keys

is_at_eqb : (a b : ℕ) → is_at (nat_cmp a) b ≡ eqb a b
is_at_eqb a b = grind (arith, common_steps)

pub pair_eq : (a b c d : ℕ) → is_at (pair_cmp (a, b)) (c, d) ≡ (eqb a c && eqb b d)
pair_eq a b c d = parts (nat_cmp a c) (nat_cmp b d) ∙ ap (λ x. x && is_at (nat_cmp b) d) (is_at_eqb a c) ∙ ap (λ x. eqb a c && x) (is_at_eqb b d)
  where
    parts : (x y : Ordering) → is_eq (ordering_then x y) ≡ (is_eq x && is_eq y)
    parts Less y = refl
    parts Equal y = refl
    parts Greater y = refl

pub first_noted : (m m' : BTreeMap (ℕ × ℕ) ℕ) (fence tag spot : ℕ) → is_some (request_place m fence tag) ≡ false
    → ((q : ℕ × ℕ) → tree.get pair_cmp m' q ≡ cond (is_at (pair_cmp (fence, tag)) q) (Some spot) (tree.get pair_cmp m q))
    → (f g : ℕ) → request_place m' f g ≡ with_first (eqb fence f && eqb tag g) spot (request_place m f g)
first_noted m m' fence tag spot absent updates f g = updates (f, g) ∙ ap (λ b. cond b (Some spot) (request_place m f g)) (pair_eq fence tag f g) ∙ either (eqb fence f && eqb tag g) refl
  where
    either : (b : Bool) → (eqb fence f && eqb tag g) ≡ b → cond b (Some spot) (request_place m f g) ≡ with_first b spot (request_place m f g)
    either true e =
        let both = and_parts (eqb fence f) (eqb tag g) e in
        let one = eqb-true fence f both.0 in
        let two = eqb-true tag g both.1 in
        sym (ap (λ b. cond (not b) (Some spot) (request_place m f g)) (ap (λ k. is_some (request_place m k g)) (sym one) ∙ ap (λ k. is_some (request_place m fence k)) (sym two) ∙ absent))
    either false e = refl

pub flown : (s s' : BTreeSet ℕ) (k : ℕ) → ((n : ℕ) → contains nat_cmp s' n ≡ cond (is_at (nat_cmp k) n) true (contains nat_cmp s n))
    → (n : ℕ) → contains nat_cmp s' n ≡ (eqb k n || contains nat_cmp s n)
flown s s' k updates n = updates n ∙ ap (λ b. cond b true (contains nat_cmp s n)) (is_at_eqb k n) ∙ either (eqb k n) (contains nat_cmp s n)
  where
    either : (b c : Bool) → cond b true c ≡ (b || c)
    either true c = refl
    either false c = refl

pub landed : (s s' : BTreeSet ℕ) (k : ℕ) → ((n : ℕ) → contains nat_cmp s' n ≡ cond (is_at (nat_cmp k) n) false (contains nat_cmp s n))
    → (n : ℕ) → contains nat_cmp s' n ≡ (contains nat_cmp s n && not (eqb k n))
landed s s' k updates n = updates n ∙ ap (λ b. cond b false (contains nat_cmp s n)) (is_at_eqb k n) ∙ either (eqb k n) (contains nat_cmp s n)
  where
    either : (b c : Bool) → cond b false c ≡ (c && not b)
    either true true = refl
    either true false = refl
    either false true = refl
    either false false = refl

still_keys : (ks : List ℕ) → length ks ≡ 0 → (n : ℕ) → list_any (is_at (nat_cmp n)) ks ≡ false
still_keys [] e n = refl
still_keys (k ∷ ks) e n = absurd (omega (arith, e))

keys_still : (ks : List ℕ) → ((n : ℕ) → list_any (is_at (nat_cmp n)) ks ≡ false) → length ks ≡ 0
keys_still [] none = refl
keys_still (k ∷ ks) none = absurd (true≢false (ap (λ b. b || list_any (is_at (nat_cmp k)) ks) (sym (is_at_eqb k k ∙ eq-eqb k k refl)) ∙ none k))

pub still : (s : BTreeSet ℕ) (b : Bool) → (b ≡ true) ↔ (length s.keys ≡ 0) → (b ≡ true) ↔ ((n : ℕ) → contains nat_cmp s n ≡ false)
still s b is = (λ e. still_keys s.keys (is.0 e), λ none. is.1 (keys_still s.keys none))
