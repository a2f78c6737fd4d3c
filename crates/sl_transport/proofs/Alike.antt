-- Frames in flight in the world are those of its history.
use Rattle.std.proofs.Common.{◌≡◌, ℕ, suc, ◌+◌, ◌==◌, ◌<◌, ◌≤◌, ◌++◌, ◌&&◌, ◌||◌, Bool, true, false, not, List, [], ◌∷◌, Option, Some, None, length, cond, refl, sym, ap, subst, ◌∙◌, option_map, arith}
use Rattle.std.specs.Prelude.{is_some}
use Rattle.std.proofs.lemmas.Bool.Decides.{nat_tests}
use Rattle.std.specs.Ordering.{nat_cmp, eq_by_cmp}
use Rattle.std.specs.Cmp.{nat_cmp_total}
use Rattle.std.specs.FinMap.{FinMap, get, insert, remove, contains_key, get-empty, get-insert, get-remove}
use Rattle.sl_defs.specs.Histories.{Happening, Opens, Reaches, Happens, event_count}
use Rattle.sl_defs.specs.declared.event.Event.TheVariants as event
use Rattle.sl_defs.specs.declared.setup.Setup.{Setup}
use Rattle.sl_frames.specs.declared.frame.Frame.{Frame}
use Rattle.sl_history.specs.Turns.{Remark, Sent, Did, Flush, Verf, Replied, Junk, Early, Full, Lost, Down, Turn, History, events}
use Rattle.sl_history.specs.Frames.{sent_among, or_else, frame, event_if, event_of_sending, lands, is_sent, in_flight}
use Rattle.sl_history.specs.Wired.{frames}
use Rattle.sl_history.specs.Wired as wired
use Rattle.sl_machine.specs.Memory.{Memory, Actor}
use Rattle.sl_machine.specs.World.{World, Flying, launched, numbered}
use Rattle.sl_machine.specs.Runs.{IsInitial, Run}
use Rattle.sl_transport.specs.Flying.{FliesAlike}
use Rattle.sl_transport.proofs.Proper.{KeptBy}
use Rattle.sl_transport.proofs.Moving.{NoneSent}
use Rattle.sl_transport.proofs.Stepping.{IsFrom, OwnBy, HoldOwn}
use Rattle.sl_transport.proofs.Turning.{flight_by, MaySend, TurnMoves, turn_moves}

-- ---- the frame of a number, among some that are numbered from one on

abbrev pub among : ℕ → List Frame → ℕ → Option Frame
among n [] k = None
among n (f ∷ fs) k = cond (n == k) (Some f) (among (n + 1) fs k)

none_among : (rs : List Remark) (k : ℕ) → NoneSent rs → sent_among rs k ≡ None
none_among [] k h = refl
none_among (Sent n f ∷ rs) k h = absurd h
none_among (Did n at choice ∷ rs) k h = none_among rs k h
none_among (Flush f ∷ rs) k h = none_among rs k h
none_among (Verf v ∷ rs) k h = none_among rs k h
none_among (Replied n e bytes ∷ rs) k h = none_among rs k h
none_among (Junk n ∷ rs) k h = none_among rs k h
none_among (Early n ∷ rs) k h = none_among rs k h
none_among (Full n ∷ rs) k h = none_among rs k h
none_among (Lost n ∷ rs) k h = none_among rs k h
none_among (Down a ∷ rs) k h = none_among rs k h

none_counted : (rs : List Remark) → NoneSent rs → wired.sent_among rs ≡ 0
none_counted [] h = refl
none_counted (Sent n f ∷ rs) h = absurd h
none_counted (Did n at choice ∷ rs) h = none_counted rs h
none_counted (Flush f ∷ rs) h = none_counted rs h
none_counted (Verf v ∷ rs) h = none_counted rs h
none_counted (Replied n e bytes ∷ rs) h = none_counted rs h
none_counted (Junk n ∷ rs) h = none_counted rs h
none_counted (Early n ∷ rs) h = none_counted rs h
none_counted (Full n ∷ rs) h = none_counted rs h
none_counted (Lost n ∷ rs) h = none_counted rs h
none_counted (Down a ∷ rs) h = none_counted rs h

pub among_noted : (n : ℕ) (fs : List Frame) (rs : List Remark) (k : ℕ) → NoneSent rs → sent_among (numbered n fs ++ rs) k ≡ among n fs k
among_noted n [] rs k h = none_among rs k h
among_noted n (f ∷ fs) rs k h = ap (cond (n == k) (Some f)) (among_noted (n + 1) fs rs k h)

one_more : (n : ℕ) → 1 + n ≡ suc n
one_more n = omega arith

pub counted_noted : (n : ℕ) (fs : List Frame) (rs : List Remark) → NoneSent rs → wired.sent_among (numbered n fs ++ rs) ≡ length fs
counted_noted n [] rs h = none_counted rs h
counted_noted n (f ∷ fs) rs h = ap (λ k. 1 + k) (counted_noted (n + 1) fs rs h) ∙ one_more (length fs)

not_same : (n k : ℕ) → k < n → (n == k) ≡ false
not_same n k h = grind (arith, nat_tests)

below_more : (n k : ℕ) → k < n → k < n + 1
below_more n k h = omega arith

among_below : (n : ℕ) (fs : List Frame) (k : ℕ) → k < n → among n fs k ≡ None
among_below n [] k h = refl
among_below n (f ∷ fs) k h = ap (λ b. cond b (Some f) (among (n + 1) fs k)) (not_same n k h) ∙ among_below (n + 1) fs k (below_more n k h)

not_first : (n m k : ℕ) → n + suc m ≤ k → (n == k) ≡ false
not_first n m k h = grind (arith, nat_tests)

above_rest : (n m k : ℕ) → n + suc m ≤ k → n + 1 + m ≤ k
above_rest n m k h = omega arith

among_above : (n : ℕ) (fs : List Frame) (k : ℕ) → n + length fs ≤ k → among n fs k ≡ None
among_above n [] k h = refl
among_above n (f ∷ fs) k h = ap (λ b. cond b (Some f) (among (n + 1) fs k)) (not_first n (length fs) k h) ∙ among_above (n + 1) fs k (above_rest n (length fs) k h)

-- ---- the world's flight after them

abbrev flying_in : ℕ → Frame → Flying
flying_in e f = record { frame = f; event = e }

abbrev new_or : ℕ → Option Frame → Option Flying → Option Flying
new_or e new old = or_else (option_map (flying_in e) new) old

same_test : (n k : ℕ) → eq_by_cmp nat_cmp k n ≡ (n == k)
same_test n k = grind (arith, nat_tests)

is_last : (n k : ℕ) → (n == k) ≡ true → k < n + 1
is_last n k e = grind (arith, nat_tests)

one_launched : (n e : ℕ) (f : Frame) (k : ℕ) (rest : Option Frame) (old : Option Flying) → ((n == k) ≡ true → rest ≡ None)
    → new_or e rest (cond (n == k) (Some (flying_in e f)) old) ≡ new_or e (cond (n == k) (Some f) rest) old
one_launched n e f k rest old none = by (n == k) none
  where
    by : (b : Bool) → (b ≡ true → rest ≡ None) → new_or e rest (cond b (Some (flying_in e f)) old) ≡ new_or e (cond b (Some f) rest) old
    by true h = ap (λ o. new_or e o (Some (flying_in e f))) (h refl)
    by false h = refl

launched_at : (m : FinMap nat_cmp Flying) (n e : ℕ) (fs : List Frame) (k : ℕ) → get (launched m n e fs) k ≡ new_or e (among n fs k) (get m k)
launched_at m n e [] k = refl
launched_at m n e (f ∷ fs) k =
    launched_at (insert m n (flying_in e f)) (n + 1) e fs k
    ∙ ap (new_or e (among (n + 1) fs k)) (get-insert nat_cmp_total m n (flying_in e f) k ∙ ap (λ b. cond b (Some (flying_in e f)) (get m k)) (same_test n k))
    ∙ one_launched n e f k (among (n + 1) fs k) (get m k) (λ same. among_below (n + 1) fs k (is_last n k same))

-- ---- what is in flight

and_true : (b : Bool) → b && true ≡ b
and_true true = refl
and_true false = refl

or_false : (b : Bool) → b || false ≡ b
or_false true = refl
or_false false = refl

or_true : (b : Bool) → b || true ≡ true
or_true true = refl
or_true false = refl

removed_at : (j k : ℕ) (b same : Bool) (o : Option Flying) → b ≡ is_some o → (b && not same) ≡ is_some (cond same None o)
removed_at j k b true o e = and_none b
  where
    and_none : (b : Bool) → b && false ≡ false
    and_none true = refl
    and_none false = refl
removed_at j k b false o e = and_true b ∙ e

flies_less : (m : FinMap nat_cmp Flying) (j k : ℕ) (b : Bool) → b ≡ contains_key m k → (b && not (j == k)) ≡ contains_key (remove m j) k
flies_less m j k b e =
    removed_at j k b (j == k) (get m k) e
    ∙ ap (λ same. is_some (cond same None (get m k))) (sym (same_test j k)) ∙ ap is_some (sym (get-remove nat_cmp_total m j k))

flies_by : (x : Happening) (m : FinMap nat_cmp Flying) (k : ℕ) (b : Bool) → b ≡ contains_key m k → (b && not (lands x k)) ≡ contains_key (flight_by x m) k
flies_by (Happens (event.Give j)) m k b e = flies_less m j k b e
flies_by (Happens (event.Drop j)) m k b e = flies_less m j k b e
flies_by other m k b e = and_true b ∙ e

-- a frame that flies then flew before
kept_less : (m : FinMap nat_cmp Flying) (j k : ℕ) (f : Flying) → get (remove m j) k ≡ Some f → get m k ≡ Some f
kept_less m j k f e = by (eq_by_cmp nat_cmp k j) (sym (get-remove nat_cmp_total m j k) ∙ e)
  where
    by : (b : Bool) → cond b None (get m k) ≡ Some f → get m k ≡ Some f
    by true h = cc
    by false h = h

kept_by : (x : Happening) (m : FinMap nat_cmp Flying) (k : ℕ) (f : Flying) → get (flight_by x m) k ≡ Some f → get m k ≡ Some f
kept_by (Happens (event.Give j)) m k f e = kept_less m j k f e
kept_by (Happens (event.Drop j)) m k f e = kept_less m j k f e
kept_by other m k f e = e

flies_then : (e : ℕ) (new : Option Frame) (old : Option Flying) (b : Bool) → b ≡ is_some old → (b || is_sent new) ≡ is_some (new_or e new old)
flies_then e None old b h = or_false b ∙ h
flies_then e (Some f) old b h = or_true b

sent_then : (e : ℕ) (new : Option Frame) (old : Option Flying) (f : Flying) (before : Option Frame) (event_before : Option ℕ)
    → (old ≡ Some f → (before ≡ Some f.frame) × (event_before ≡ Some f.event)) → new_or e new old ≡ Some f
    → (or_else new before ≡ Some f.frame) × (or_else (event_if e new) event_before ≡ Some f.event)
sent_then e None old f before event_before h is = h is
sent_then e (Some g) old f before event_before h is = (same_frame is, same_event is)
  where
    same_frame : Some (flying_in e g) ≡ Some f → Some g ≡ Some f.frame
    same_frame p = ap (option_map (λ (z : Flying). z.frame)) p

    same_event : Some (flying_in e g) ≡ Some f → Some e ≡ Some f.event
    same_event p = ap (option_map (λ (z : Flying). z.event)) p

-- ---- a turn

no_more : (n m k : ℕ) → n + m ≤ k → n ≤ k
no_more n m k h = omega arith

counts : (n m k : ℕ) → n ≡ m + 1 → n + k ≡ m + k + 1
counts n m k e = omega arith

turn_alike : (S : Frame → Type 0) (w : World) (t : Turn) (w' : World) (past : History) → FliesAlike past w → TurnMoves S w t w' → FliesAlike (t ∷ past) w'
unfolding in_flight frame event_of_sending frames
turn_alike S w t w' past h p = record {
  flies = λ k.
      ap (λ o. (in_flight past k && not (lands t.happening k)) || is_sent o) (new k)
      ∙ flies_then (w.event + event_count t.happening) (among w.next_frame p.frames k) (get (flight_by t.happening w.flight) k) (in_flight past k && not (lands t.happening k))
      (flies_by t.happening w.flight k (in_flight past k) (h.flies k))
      ∙ ap is_some (sym (at k));
  sent = λ k f is.
      let both = sent_then (w.event + event_count t.happening) (among w.next_frame p.frames k) (get (flight_by t.happening w.flight) k) f (frame past k) (event_of_sending past k)
      (λ old. h.sent k f (kept_by t.happening w.flight k f old)) (sym (at k) ∙ is) in (
        ap (λ o. or_else o (frame past k)) (new k) ∙ both.0,
        ap (λ o. or_else (event_if (events (t ∷ past)) o) (event_of_sending past k)) (new k)
            ∙ ap (λ e. or_else (event_if (e + event_count t.happening) (among w.next_frame p.frames k)) (event_of_sending past k)) (sym h.event) ∙ both.1,
      );
  next_frame = p.next_frame ∙ counts w.next_frame (frames past) (length p.frames) h.next_frame ∙ ap (λ n. frames past + n + 1) (sym counted);
  unsent = λ k above.
      ap (λ o. or_else o (frame past k)) (new k ∙ among_above w.next_frame p.frames k (subst (λ n. n ≤ k) p.next_frame above))
      ∙ h.unsent k (no_more w.next_frame (length p.frames) k (subst (λ n. n ≤ k) p.next_frame above));
  event = p.event ∙ ap (λ n. n + event_count t.happening) h.event;
}
  where
    new : (k : ℕ) → sent_among t.remarks k ≡ among w.next_frame p.frames k
    new k = ap (λ rs. sent_among rs k) p.remarks ∙ among_noted w.next_frame p.frames p.notes k p.quiet

    at : (k : ℕ) → get w'.flight k ≡ new_or (w.event + event_count t.happening) (among w.next_frame p.frames k) (get (flight_by t.happening w.flight) k)
    at k = ap (λ (m : FinMap nat_cmp Flying). get m k) p.flight ∙ launched_at (flight_by t.happening w.flight) w.next_frame (w.event + event_count t.happening) p.frames k

    counted : wired.sent_among t.remarks ≡ length p.frames
    counted = ap wired.sent_among p.remarks ∙ counted_noted w.next_frame p.frames p.notes p.quiet

-- ---- a run

abbrev pub Anything : Frame → Type 0
Anything f = Unit {0}

pub sends_anything : (x : Happening) (w : World) → MaySend x w Anything
sends_anything (Opens setup) w = λ fence. tt
sends_anything (Reaches moment) w = tt
sends_anything (Happens e) w = λ i acts f own. tt

pub record Runs (h : History) (w : World) : Type 0 where
  pub alike : FliesAlike h w
  pub own : HoldOwn w.actors

none_kept : (i : ℕ) (m : Option Memory) → m ≡ None → KeptBy (IsFrom i) m
none_kept i m e = subst (KeptBy (IsFrom i)) (sym e) tt

holds_at_first : (setup : Setup) (w : World) → IsInitial setup w → HoldOwn w.actors
holds_at_first setup w is i = by (get w.actors i) refl
  where
    by : (o : Option Actor) → get w.actors i ≡ o → OwnBy i o
    by None e = tt
    by (Some a) e = none_kept i a.memory (is.actors i a e).0

starts_alike : (setup : Setup) (w : World) → IsInitial setup w → FliesAlike [] w
unfolding in_flight frame event_of_sending frames
starts_alike setup w is = record {
  flies = λ k. sym (ap is_some (nothing k));
  sent = λ k f e. absurd (none_some (sym (nothing k) ∙ e));
  next_frame = is.next_frame;
  unsent = λ k above. refl;
  event = is.event;
}
  where
    nothing : (k : ℕ) → get w.flight k ≡ None
    nothing k = ap (λ (m : FinMap nat_cmp Flying). get m k) is.flight ∙ get-empty nat_cmp k

    none_some : {f : Flying} → None ≡ Some f → ⊥
    none_some p = cc

pub runs_alike : (setup : Setup) (h : History) (w : World) → Run setup h w → Runs h w
runs_alike setup [] w is = record { alike = starts_alike setup w is; own = holds_at_first setup w is }
runs_alike setup (t ∷ past) w' (w, run, first, turn) =
    let before = runs_alike setup past w run in
    let moves = turn_moves Anything w t w' (sends_anything t.happening w) before.own turn in
    record { alike = turn_alike Anything w t w' past before.alike moves; own = moves.own }

pub flies_alike : (setup : Setup) (h : History) (w : World) → Run setup h w → FliesAlike h w
flies_alike setup h w run = (runs_alike setup h w run).alike
