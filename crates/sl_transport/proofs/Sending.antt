-- The actors that are up are those of the history, and each frame is sent by one whose event it is.
use Rattle.std.proofs.Common.{◌≡◌, ℕ, ◌+◌, ◌==◌, ◌++◌, ◌&&◌, ◌||◌, Bool, true, false, not, List, [], ◌∷◌, refl, sym, ap, subst, ◌∙◌, ◌⊎◌, inl, inr, arith}
use Rattle.std.proofs.lemmas.Bool.Decides.{nat_tests}
use Rattle.std.specs.FinMap.{get}
use Rattle.sl_defs.specs.Histories.{Happening, Opens, Reaches, Happens}
use Rattle.sl_defs.specs.declared.event.Event.{Event}
use Rattle.sl_defs.specs.declared.event.Event.TheVariants as event
use Rattle.sl_defs.specs.declared.setup.Setup.{Setup}
use Rattle.sl_frames.specs.Actors.{is_proxy, is_coordinator}
use Rattle.sl_frames.specs.declared.frame.Frame.{Frame}
use Rattle.sl_history.specs.Turns.{Remark, Sent, Did, Flush, Verf, Replied, Junk, Early, Full, Lost, Down, Turn, History}
use Rattle.sl_history.specs.Frames.{notes_down, up_by}
use Rattle.sl_history.specs.Frames as history
use Rattle.sl_history.specs.Wired.{is_receiver, may_send}
use Rattle.sl_machine.specs.World.{World, Told, numbered, begun}
use Rattle.sl_machine.specs.Runs.{is_up, IsTurn, TurnRun, Run}
use Rattle.sl_transport.specs.Acting.{AreUpAlike, AllSentRightly, SendRightly}
use Rattle.sl_transport.specs.Flying.{FliesAlike}
use Rattle.sl_transport.proofs.Proper.{Each}
use Rattle.sl_transport.proofs.Moving.{NoneSent}
use Rattle.sl_transport.proofs.Turning.{ActsIn, MaySend, happened, turn_moves}
use Rattle.sl_transport.proofs.Alike.{Anything, sends_anything, runs_alike}
use Rattle.sl_transport.proofs.Ups.{AreUp, frames_down, follows_go}
use Rattle.sl_transport.proofs.Opening.{down_at_first, opening_goes}

-- ---- who is up

and_true : (b : Bool) → b && true ≡ b
and_true true = refl
and_true false = refl

happens_go : (x : Happening) (was : ℕ → Bool) (w : World) (w' : World) (n : Told) → ((j : ℕ) → was j ≡ is_up (get w.actors j)) → IsTurn x w w' n → AreUp (λ j. up_by x j (was j)) w' n
happens_go (Opens setup) was w w' n h is = opening_goes setup w w' n is.0 is.1
happens_go (Reaches moment) was w w' n h is = subst (λ (z : World). AreUp was z n) (sym is.1)
    (subst (λ (t : Told). (j : ℕ) → is_up (get w.actors j) ≡ was j && not (notes_down j t.notes)) (sym is.2) (λ j. sym (h j) ∙ sym (and_true (was j))))
happens_go (Happens e) was w w' n h is = follows_go e was (begun w) w' n h is

turn_up_alike : (setup : Setup) (past : History) (w : World) (t : Turn) (w' : World) → Run setup past w → AreUpAlike past w → TurnRun w t w' → AreUpAlike (t ∷ past) w'
unfolding history.is_up
turn_up_alike setup past w t w' run h turn j =
    ap (λ b. up_by t.happening j (history.is_up past j) && not b) noted ∙ sym (happens_go t.happening (history.is_up past) w w' turn.told h turn.is j)
  where
    noted : notes_down j t.remarks ≡ notes_down j turn.told.notes
    noted =
        let x = happened Anything t.happening w turn.told w' (sends_anything t.happening w) (runs_alike setup past w run).own turn.is in
        ap (notes_down j) (turn.remarks ∙ ap (λ rs. rs ++ turn.told.notes) x.sent) ∙ frames_down j w.next_frame x.frames turn.told.notes

pub up_alike : (setup : Setup) (h : History) (w : World) → Run setup h w → AreUpAlike h w
unfolding history.is_up
up_alike setup [] w is = λ a. sym (down_at_first setup w is a)
up_alike setup (t ∷ past) w' (w, run, first, turn) = turn_up_alike setup past w t w' run (up_alike setup past w run) turn

-- ---- who sends

both_true : (a b : Bool) → a ≡ true → b ≡ true → a && b ≡ true
both_true a b p q = ap (λ x. x && b) p ∙ q

same : (a b : ℕ) → a ≡ b → (a == b) ≡ true
same a b e = grind (arith, nat_tests)

either_sends : (i : ℕ) → (i ≡ 0) ⊎ (i ≡ 1) → is_proxy i || is_coordinator i ≡ true
either_sends i (inl e) = ap (λ k. is_proxy k || is_coordinator k) e
either_sends i (inr e) = ap (λ k. is_proxy k || is_coordinator k) e

-- the event's actor may send
actor_may_send : (past : History) (w : World) (e : Event) (i : ℕ) → FliesAlike past w → AreUpAlike past w → ActsIn e (begun w) i → (f : Frame) → f.from ≡ i → may_send past (Happens e) f ≡ true
actor_may_send past w (event.Call client bytes) i flies up (is, was) f own =
    both_true (is_proxy f.from) (history.is_up past f.from) (same f.from 0 (own ∙ is)) (ap (history.is_up past) own ∙ up i ∙ was)
actor_may_send past w (event.Give k) i flies up (x, to, was) f own =
    both_true (is_receiver f.from (history.frame past k)) (history.is_up past f.from)
    (ap (is_receiver f.from) (flies.sent k x.flying x.is).0 ∙ same x.flying.frame.to f.from (to ∙ sym own)) (ap (history.is_up past) own ∙ up i ∙ was)
actor_may_send past w (event.Copy k) i flies up (x, to, was) f own =
    both_true (is_receiver f.from (history.frame past k)) (history.is_up past f.from)
    (ap (is_receiver f.from) (flies.sent k x.flying x.is).0 ∙ same x.flying.frame.to f.from (to ∙ sym own)) (ap (history.is_up past) own ∙ up i ∙ was)
actor_may_send past w event.Tick i flies up (is, was) f own =
    both_true (is_proxy f.from || is_coordinator f.from) (history.is_up past f.from) (ap (λ k. is_proxy k || is_coordinator k) own ∙ either_sends i is) (ap (history.is_up past) own ∙ up i ∙ was)
actor_may_send past w (event.Start b) i flies up (is, was) f own =
    both_true (f.from == b) (not (history.is_up past f.from)) (same f.from b (own ∙ sym is)) (ap not (ap (history.is_up past) own ∙ up i ∙ was))
actor_may_send past w other i flies up acts f own = absurd acts

may_be_sent : (past : History) (w : World) (x : Happening) → FliesAlike past w → AreUpAlike past w → MaySend x w (λ f. may_send past x f ≡ true)
may_be_sent past w (Opens setup) flies up = λ fence. refl
may_be_sent past w (Reaches moment) flies up = tt
may_be_sent past w (Happens e) flies up = λ i acts f own. actor_may_send past w e i flies up acts f own

none_rightly : (past : History) (t : Turn) (rs : List Remark) → NoneSent rs → AllSentRightly past t rs
none_rightly past t [] h = tt
none_rightly past t (Sent k f ∷ rs) h = absurd h
none_rightly past t (Did n at choice ∷ rs) h = (tt, none_rightly past t rs h)
none_rightly past t (Flush f ∷ rs) h = (tt, none_rightly past t rs h)
none_rightly past t (Verf v ∷ rs) h = (tt, none_rightly past t rs h)
none_rightly past t (Replied n e bytes ∷ rs) h = (tt, none_rightly past t rs h)
none_rightly past t (Junk n ∷ rs) h = (tt, none_rightly past t rs h)
none_rightly past t (Early n ∷ rs) h = (tt, none_rightly past t rs h)
none_rightly past t (Full n ∷ rs) h = (tt, none_rightly past t rs h)
none_rightly past t (Lost n ∷ rs) h = (tt, none_rightly past t rs h)
none_rightly past t (Down a ∷ rs) h = (tt, none_rightly past t rs h)

all_rightly : (past : History) (t : Turn) (n : ℕ) (fs : List Frame) (rs : List Remark) → Each (λ f. may_send past t.happening f ≡ true) fs → NoneSent rs → AllSentRightly past t (numbered n fs ++ rs)
all_rightly past t n [] rs each none = none_rightly past t rs none
all_rightly past t n (f ∷ fs) rs each none = (each.0, all_rightly past t (n + 1) fs rs each.1 none)

pub send_rightly : (setup : Setup) (h : History) (w : World) → Run setup h w → SendRightly h
send_rightly setup [] w is = tt
send_rightly setup (t ∷ past) w' (w, run, first, turn) =
    let before = runs_alike setup past w run in
    let moves = turn_moves (λ f. may_send past t.happening f ≡ true) w t w' (may_be_sent past w t.happening before.alike (up_alike setup past w run)) before.own turn in (
      send_rightly setup past w run,
      subst (AllSentRightly past t) (sym moves.remarks) (all_rightly past t w.next_frame moves.frames moves.notes moves.each moves.quiet),
    )
