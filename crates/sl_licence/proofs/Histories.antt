-- What one more note, and the beginning of a turn, change of what a history shows.
use Rattle.std.proofs.Common.{◌≡◌, ℕ, ◌+◌, ◌≤◌, Bool, true, false, cond, ◌||◌, ◌&&◌, List, [], ◌∷◌, ◌++◌, length, refl, ap, ◌∙◌, arith, ◌⊎◌, inl, inr, Option, Some, None}
use Rattle.std.proofs.Math.Bool.{or-false}
use Rattle.std.specs.Prelude.{not, option_and_then, ◌==◌}
use Rattle.sl_frames.specs.Actors.{is_coordinator}
use Rattle.sl_defs.specs.Histories.{Happening, Opens, Reaches, Happens, event_count}
use Rattle.sl_defs.specs.declared.event.Event.TheVariants as event
use Rattle.sl_defs.specs.declared.setup.Time.{Time}
use Rattle.sl_frames.specs.declared.frame.Frame.{Frame}
use Rattle.sl_history.specs.Turns.{Remark, Sent, Did, Flush, Verf, Replied, Junk, Early, Full, Lost, Down, Turn, History, begun, events, noted}
use Rattle.sl_history.specs.Frames.{WasGiven, frame, given_by, given_number, or_else, sent_among}
use Rattle.sl_history.specs.Licensed.{again_among, flushes, flushes_among, flushing, flushing_on, ended_by, flush_in, given_up, is_again, is_flush_of, lost_on, may_be_lost, may_lose, reaches, request, requests_given, was_sent, with_request, pair_in, stops_one, with, without_if}

-- ---- options and tests

or_else_none : {A : Type 0} → (o : Option A) → or_else o None ≡ o
or_else_none None = refl
or_else_none (Some x) = refl

or_assoc : (a b c : Bool) → (a || (b || c)) ≡ ((a || b) || c)
or_assoc true b c = refl
or_assoc false b c = refl

first_or : (o p : Option Frame) (g : Frame) → or_else o p ≡ Some g → (p ≡ Some g) ⊎ (o ≡ Some g)
first_or None p g e = inl e
first_or (Some x) p g e = inr e

-- ---- frames

sent_or : (b : Bool) (x : Frame) (o p q : Option Frame) (g : Frame) (Q : Type 0) → (or_else o q ≡ Some g → (or_else p q ≡ Some g) ⊎ Q)
    → or_else (cond b (Some x) o) q ≡ Some g → (or_else (cond b (Some x) p) q ≡ Some g) ⊎ Q
sent_or true x o p q g Q f e = inl e
sent_or false x o p q g Q f e = f e

sent_last : (rs : List Remark) (r : Remark) (k : ℕ) (o : Option Frame) (g : Frame) → or_else (sent_among (rs ++ r ∷ []) k) o ≡ Some g
    → (or_else (sent_among rs k) o ≡ Some g) ⊎ (sent_among (r ∷ []) k ≡ Some g)
sent_last [] r k o g e = first_or (sent_among (r ∷ []) k) o g e
sent_last (Sent n f ∷ rs) r k o g e =
    sent_or (n == k) f (sent_among (rs ++ r ∷ []) k) (sent_among rs k) o g (sent_among (r ∷ []) k ≡ Some g) (sent_last rs r k o g) e
sent_last (Did n at choice ∷ rs) r k o g e = sent_last rs r k o g e
sent_last (Flush f ∷ rs) r k o g e = sent_last rs r k o g e
sent_last (Verf v ∷ rs) r k o g e = sent_last rs r k o g e
sent_last (Replied n m bytes ∷ rs) r k o g e = sent_last rs r k o g e
sent_last (Junk n ∷ rs) r k o g e = sent_last rs r k o g e
sent_last (Early n ∷ rs) r k o g e = sent_last rs r k o g e
sent_last (Full n ∷ rs) r k o g e = sent_last rs r k o g e
sent_last (Lost n ∷ rs) r k o g e = sent_last rs r k o g e
sent_last (Down a ∷ rs) r k o g e = sent_last rs r k o g e

-- a frame that was sent before, or by the note
pub frame-noted : (t : Turn) (past : History) (r : Remark) (k : ℕ) (g : Frame) → frame (noted (t ∷ past) r) k ≡ Some g
    → (frame (t ∷ past) k ≡ Some g) ⊎ (sent_among (r ∷ []) k ≡ Some g)
unfolding frame
frame-noted t past r k g e = sent_last t.remarks r k (frame past k) g e

pub frame-begun : (past : History) (happening : Happening) (moment : Time) (k : ℕ) → frame (begun past happening moment) k ≡ frame past k
unfolding frame
frame-begun past happening moment k = refl

pub request-begun : (past : History) (happening : Happening) (moment : Time) (fence tag : ℕ) → request (begun past happening moment) fence tag ≡ request past fence tag
unfolding request
request-begun past happening moment fence tag = or_else_none (request past fence tag)

-- ---- given frames

pub given-noted : (t : Turn) (past : History) (r : Remark) (f : Frame) → WasGiven (noted (t ∷ past) r) f → WasGiven (t ∷ past) f
given-noted t past r f (inl now) = inl (record { gives = now.gives; up = now.up })
given-noted t past r f (inr before) = inr before

pub noted-given : (t : Turn) (past : History) (r : Remark) (f : Frame) → WasGiven (t ∷ past) f → WasGiven (noted (t ∷ past) r) f
noted-given t past r f (inl now) = inl (record { gives = now.gives; up = now.up })
noted-given t past r f (inr before) = inr before

-- ---- requests for flushes

again_last : (rs : List Remark) (r : Remark) (file : ℕ) (f : Frame) → again_among file f (rs ++ r ∷ []) ≡ (again_among file f rs || is_again file f r)
again_last [] r file f = or-false (is_again file f r)
again_last (x ∷ rs) r file f = ap (λ (b : Bool). is_again file f x || b) (again_last rs r file f) ∙ or_assoc (is_again file f x) (again_among file f rs) (is_again file f r)

pub was_sent-noted : (t : Turn) (past : History) (r : Remark) (file : ℕ) (f : Frame) → was_sent (noted (t ∷ past) r) file f ≡ (was_sent (t ∷ past) file f || is_again file f r)
unfolding was_sent
was_sent-noted t past r file f =
    ap (λ (b : Bool). was_sent past file f || b) (again_last t.remarks r file f) ∙ or_assoc (was_sent past file f) (again_among file f t.remarks) (is_again file f r)

pub requests-noted : (t : Turn) (past : History) (r : Remark) (f : ℕ) → requests_given (noted (t ∷ past) r) f ≡ requests_given (t ∷ past) f
unfolding requests_given
requests-noted t past r f = refl

pub requests-begun : (past : History) (happening : Happening) (moment : Time) (f : ℕ)
    → requests_given (begun past happening moment) f ≡ with_request f (reaches past (record { happening = happening; moment = moment; remarks = [] })) (requests_given past f)
unfolding requests_given
requests-begun past happening moment f = refl

-- ---- flushes

flushes_last : (rs : List Remark) (r : Remark) (f : ℕ) → flushes_among f (rs ++ r ∷ []) ≡ flushes_among f rs + flushes_among f (r ∷ [])
flushes_last [] r f = let goal : flushes_among f (r ∷ []) ≡ 0 + flushes_among f (r ∷ []) = omega arith in goal
flushes_last (Flush g ∷ rs) r f =
    let again = flushes_last rs r f in
    let goal : cond (f == g) 1 0 + flushes_among f (rs ++ r ∷ []) ≡ (cond (f == g) 1 0 + flushes_among f rs) + flushes_among f (r ∷ []) = omega (arith, again) in
    goal
flushes_last (Sent n g ∷ rs) r f = flushes_last rs r f
flushes_last (Did n at choice ∷ rs) r f = flushes_last rs r f
flushes_last (Verf v ∷ rs) r f = flushes_last rs r f
flushes_last (Replied n m bytes ∷ rs) r f = flushes_last rs r f
flushes_last (Junk n ∷ rs) r f = flushes_last rs r f
flushes_last (Early n ∷ rs) r f = flushes_last rs r f
flushes_last (Full n ∷ rs) r f = flushes_last rs r f
flushes_last (Lost n ∷ rs) r f = flushes_last rs r f
flushes_last (Down a ∷ rs) r f = flushes_last rs r f

pub flushes-noted : (t : Turn) (past : History) (r : Remark) (f : ℕ) → flushes (noted (t ∷ past) r) f ≡ flushes (t ∷ past) f + flushes_among f (r ∷ [])
unfolding flushes
flushes-noted t past r f =
    let last = flushes_last t.remarks r f in
    let goal : flushes past f + flushes_among f (t.remarks ++ r ∷ []) ≡ (flushes past f + flushes_among f t.remarks) + flushes_among f (r ∷ []) = omega (arith, last) in
    goal

pub flushes-begun : (past : History) (happening : Happening) (moment : Time) (f : ℕ) → flushes (begun past happening moment) f ≡ flushes past f
unfolding flushes
flushes-begun past happening moment f = let goal : flushes past f + 0 ≡ flushes past f = omega arith in goal

-- ---- losses

lost_last : (rs : List Remark) (r : Remark) (was : Bool) → lost_on (rs ++ r ∷ []) was ≡ lost_on (r ∷ []) (lost_on rs was)
lost_last [] r was = refl
lost_last (Sent n g ∷ rs) r was = lost_last rs r was
lost_last (Did n at choice ∷ rs) r was = lost_last rs r was
lost_last (Flush f ∷ rs) r was = lost_last rs r was
lost_last (Verf v ∷ rs) r was = lost_last rs r false
lost_last (Replied n m bytes ∷ rs) r was = lost_last rs r was
lost_last (Junk n ∷ rs) r was = lost_last rs r was
lost_last (Early n ∷ rs) r was = lost_last rs r was
lost_last (Full n ∷ rs) r was = lost_last rs r was
lost_last (Lost n ∷ rs) r was = lost_last rs r was
lost_last (Down a ∷ rs) r was = lost_last rs r (was || may_lose a)

pub lost-noted : (t : Turn) (past : History) (r : Remark) → may_be_lost (noted (t ∷ past) r) ≡ lost_on (r ∷ []) (may_be_lost (t ∷ past))
unfolding may_be_lost
lost-noted t past r = lost_last t.remarks r (may_be_lost past || stops_one past t.happening)

pub lost-begun : (past : History) (happening : Happening) (moment : Time) → may_be_lost (begun past happening moment) ≡ (may_be_lost past || stops_one past happening)
unfolding may_be_lost
lost-begun past happening moment = refl

-- ---- flushes that go on

flushing_last : (rs : List Remark) (r : Remark) (fs : List ℕ) → flushing_on (rs ++ r ∷ []) fs ≡ flushing_on (r ∷ []) (flushing_on rs fs)
flushing_last [] r fs = refl
flushing_last (Sent n g ∷ rs) r fs = flushing_last rs r fs
flushing_last (Did n at choice ∷ rs) r fs = flushing_last rs r fs
flushing_last (Flush f ∷ rs) r fs = flushing_last rs r (with f fs)
flushing_last (Verf v ∷ rs) r fs = flushing_last rs r []
flushing_last (Replied n m bytes ∷ rs) r fs = flushing_last rs r fs
flushing_last (Junk n ∷ rs) r fs = flushing_last rs r fs
flushing_last (Early n ∷ rs) r fs = flushing_last rs r fs
flushing_last (Full n ∷ rs) r fs = flushing_last rs r fs
flushing_last (Lost n ∷ rs) r fs = flushing_last rs r fs
flushing_last (Down a ∷ rs) r fs = flushing_last rs r fs

pub flushing-noted : (t : Turn) (past : History) (r : Remark) → flushing (noted (t ∷ past) r) ≡ flushing_on (r ∷ []) (flushing (t ∷ past))
unfolding flushing
flushing-noted t past r = flushing_last t.remarks r (without_if (ended_by past (reaches past t)) (flushing past))

pub flushing-begun : (past : History) (happening : Happening) (moment : Time)
    → flushing (begun past happening moment) ≡ without_if (ended_by past (reaches past (record { happening = happening; moment = moment; remarks = [] }))) (flushing past)
unfolding flushing
flushing-begun past happening moment = refl

-- ---- what reaches an actor comes with an event

pub no_frame : (past : History) (t : Turn) → reaches past t ≡ given_up past t (given_by past t)
no_frame past t = refl

named_given : (happening : Happening) → (given_number happening ≡ None) ⊎ (event_count happening ≡ 1)
named_given (Opens setup) = inl refl
named_given (Reaches moment) = inl refl
named_given (Happens (event.Call client bytes)) = inl refl
named_given (Happens (event.Give k)) = inr refl
named_given (Happens (event.Copy k)) = inr refl
named_given (Happens (event.Drop k)) = inl refl
named_given (Happens event.Tick) = inl refl
named_given (Happens (event.Stop a image)) = inl refl
named_given (Happens (event.Start a)) = inl refl
named_given (Happens (event.Fuse a after image)) = inl refl
named_given (Happens (event.Fail a after)) = inl refl

none_reached : (past : History) (t : Turn) → given_number t.happening ≡ None → reaches past t ≡ None
none_reached past t none = ap (λ (n : Option ℕ). given_up past t (option_and_then (frame past) n)) none

pub reached_in_event : (past : History) (t : Turn) → (reaches past t ≡ None) ⊎ (event_count t.happening ≡ 1)
reached_in_event past t =
    elim (named_given t.happening) as (λ w. (reaches past t ≡ None) ⊎ (event_count t.happening ≡ 1)) [
      | inl none ↦ inl (none_reached past t none)
      | inr one ↦ inr one
    ]

-- no more requests than events

one_more_at_most : (b : Bool) (p : ℕ × ℕ) (ps : List (ℕ × ℕ)) → length (cond b (p ∷ ps) ps) ≤ length ps + 1
one_more_at_most true p ps = omega arith
one_more_at_most false p ps = omega arith

with_one : (f : ℕ) (o : Option Frame) (ps : List (ℕ × ℕ)) → length (with_request f o ps) ≤ length ps + 1
with_one f None ps = omega arith
with_one f (Some g) ps = one_more_at_most (is_coordinator g.to && (is_flush_of f (flush_in g.body) && not (pair_in ps (g.fence, g.tag)))) (g.fence, g.tag) ps

pub few_requests : (h : History) (f : ℕ) → length (requests_given h f) ≤ events h
unfolding requests_given
few_requests [] f = omega arith
few_requests (t ∷ past) f =
    let again = few_requests past f in
    elim (reached_in_event past t) as (λ w. length (with_request f (reaches past t) (requests_given past f)) ≤ events past + event_count t.happening) [
      | inl none ↦
          let same : length (with_request f (reaches past t) (requests_given past f)) ≡ length (requests_given past f) = ap (λ (o : Option Frame). length (with_request f o (requests_given past f))) none in
          omega (arith, same, again)
      | inr one ↦
          let more = with_one f (reaches past t) (requests_given past f) in
          omega (arith, more, again, one)
    ]
