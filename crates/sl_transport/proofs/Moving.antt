-- What a part of a turn does to frames and numbers.
use Rattle.std.proofs.Common.{◌≡◌, ℕ, suc, ◌+◌, List, [], ◌∷◌, ◌++◌, length, refl, sym, ap, subst, ◌∙◌, append_assoc, arith}
use Rattle.std.proofs.lemmas.List.{append-nil, length-append}
use Rattle.std.specs.Ordering.{nat_cmp}
use Rattle.std.specs.FinMap.{FinMap, insert}
use Rattle.sl_frames.specs.declared.frame.Frame.{Frame}
use Rattle.sl_history.specs.Turns.{Remark, Sent, Did, Flush, Verf, Replied, Junk, Early, Full, Lost, Down}
use Rattle.sl_machine.specs.Memory.{Actor}
use Rattle.sl_machine.specs.World.{World, Flying, Segment, Told, played, told, launched, numbered, with_actor}
use Rattle.sl_machine.specs.Runs.{down_told}
use Rattle.sl_transport.proofs.Proper.{Plain, Each, each_both}

-- no frame is among these notes
abbrev pub NoneSent : List Remark → Type 0
NoneSent [] = Unit {0}
NoneSent (Sent k f ∷ rs) = ⊥
NoneSent (r ∷ rs) = NoneSent rs

pub none_sent : (rs : List Remark) → Plain rs → NoneSent rs
none_sent [] h = tt
none_sent (Sent k f ∷ rs) h = h
none_sent (Did n at choice ∷ rs) h = none_sent rs h
none_sent (Flush f ∷ rs) h = none_sent rs h
none_sent (Verf v ∷ rs) h = none_sent rs h
none_sent (Replied n e bytes ∷ rs) h = none_sent rs h
none_sent (Junk n ∷ rs) h = none_sent rs h
none_sent (Early n ∷ rs) h = none_sent rs h
none_sent (Full n ∷ rs) h = none_sent rs h
none_sent (Lost n ∷ rs) h = none_sent rs h
none_sent (Down a ∷ rs) h = absurd h

none_both : (rs qs : List Remark) → NoneSent rs → NoneSent qs → NoneSent (rs ++ qs)
none_both [] qs g h = h
none_both (Sent k f ∷ rs) qs g h = g
none_both (Did n at choice ∷ rs) qs g h = none_both rs qs g h
none_both (Flush f ∷ rs) qs g h = none_both rs qs g h
none_both (Verf v ∷ rs) qs g h = none_both rs qs g h
none_both (Replied n e bytes ∷ rs) qs g h = none_both rs qs g h
none_both (Junk n ∷ rs) qs g h = none_both rs qs g h
none_both (Early n ∷ rs) qs g h = none_both rs qs g h
none_both (Full n ∷ rs) qs g h = none_both rs qs g h
none_both (Lost n ∷ rs) qs g h = none_both rs qs g h
none_both (Down a ∷ rs) qs g h = none_both rs qs g h

-- ---- frames one after the other

none_more : (n : ℕ) → n ≡ n + 0
none_more n = omega arith

one_more : (n k : ℕ) → n + suc k ≡ n + 1 + k
one_more n k = omega arith

counts : (n : ℕ) (fs gs : List Frame) → n + length fs + length gs ≡ n + length (fs ++ gs)
counts n fs gs = rw (length-append fs gs) (omega arith)

launched_both : (flight : FinMap nat_cmp Flying) (n e : ℕ) (fs gs : List Frame) → launched (launched flight n e fs) (n + length fs) e gs ≡ launched flight n e (fs ++ gs)
launched_both flight n e [] gs = ap (λ k. launched flight k e gs) (sym (none_more n))
launched_both flight n e (f ∷ fs) gs =
    ap (λ k. launched (launched (insert flight n (record { frame = f; event = e })) (n + 1) e fs) k e gs) (one_more n (length fs))
    ∙ launched_both (insert flight n (record { frame = f; event = e })) (n + 1) e fs gs

numbered_both : (n : ℕ) (fs gs : List Frame) → numbered n fs ++ numbered (n + length fs) gs ≡ numbered n (fs ++ gs)
numbered_both n [] gs = ap (λ k. numbered k gs) (sym (none_more n))
numbered_both n (f ∷ fs) gs = ap (λ rest. Sent n f ∷ rest) (ap (λ k. numbered (n + 1) fs ++ numbered k gs) (one_more n (length fs)) ∙ numbered_both (n + 1) fs gs)

-- ---- what is sent and noted

-- These frames are sent, each of this kind, and these things noted, and all else about frames and moments stays.
pub record Moves (S : Frame → Type 0) (w : World) (n : Told) (w' : World) (n' : Told) : Type 0 where
  pub frames : List Frame
  pub notes : List Remark
  pub sent : n'.frames ≡ n.frames ++ numbered w.next_frame frames
  pub noted : n'.notes ≡ n.notes ++ notes
  pub each : Each S frames
  pub quiet : NoneSent notes
  pub flight : w'.flight ≡ launched w.flight w.next_frame w.event frames
  pub next_frame : w'.next_frame ≡ w.next_frame + length frames
  pub event : w'.event ≡ w.event
  pub moment : w'.moment ≡ w.moment

pub moves_both : {S : Frame → Type 0} {w : World} {n : Told} {v : World} {m : Told} {w' : World} {n' : Told} → Moves S w n v m → Moves S v m w' n' → Moves S w n w' n'
moves_both {S} {w} {n} {v} {m} {w'} {n'} p q = record {
  frames = p.frames ++ q.frames;
  notes = p.notes ++ q.notes;
  sent = q.sent ∙ ap (λ k. m.frames ++ numbered k q.frames) p.next_frame ∙ ap (λ rs. rs ++ numbered (w.next_frame + length p.frames) q.frames) p.sent
      ∙ append_assoc n.frames (numbered w.next_frame p.frames) (numbered (w.next_frame + length p.frames) q.frames)
      ∙ ap (λ rs. n.frames ++ rs) (numbered_both w.next_frame p.frames q.frames);
  noted = q.noted ∙ ap (λ rs. rs ++ q.notes) p.noted ∙ append_assoc n.notes p.notes q.notes;
  each = each_both S p.frames q.frames p.each q.each;
  quiet = none_both p.notes q.notes p.quiet q.quiet;
  flight = q.flight ∙ ap (λ z. launched z v.next_frame v.event q.frames) p.flight
      ∙ ap (λ k. launched (launched w.flight w.next_frame w.event p.frames) k v.event q.frames) p.next_frame
      ∙ ap (λ e. launched (launched w.flight w.next_frame w.event p.frames) (w.next_frame + length p.frames) e q.frames) p.event
      ∙ launched_both w.flight w.next_frame w.event p.frames q.frames;
  next_frame = q.next_frame ∙ ap (λ k. k + length q.frames) p.next_frame ∙ counts w.next_frame p.frames q.frames;
  event = q.event ∙ p.event;
  moment = q.moment ∙ p.moment;
}

pub moves_at : {S : Frame → Type 0} {w : World} {n : Told} {v : World} {m : Told} {w' : World} {n' : Told} → Moves S w n v m → w' ≡ v → n' ≡ m → Moves S w n w' n'
moves_at {S} {w} {n} {v} {m} {w'} {n'} p e d = subst (λ z. Moves S w n z n') (sym e) (subst (λ z. Moves S w n v z) (sym d) p)

pub moves_more : {S R : Frame → Type 0} {w : World} {n : Told} {w' : World} {n' : Told} → ((f : Frame) → S f → R f) → Moves S w n w' n' → Moves R w n w' n'
moves_more {S} {R} {w} {n} {w'} {n'} h p = record {
  frames = p.frames;
  notes = p.notes;
  sent = p.sent;
  noted = p.noted;
  each = each p.frames p.each;
  quiet = p.quiet;
  flight = p.flight;
  next_frame = p.next_frame;
  event = p.event;
  moment = p.moment;
}
  where
    each : (fs : List Frame) → Each S fs → Each R fs
    each [] g = tt
    each (f ∷ fs) g = (h f g.0, each fs g.1)

-- no frame goes, but these things are noted
pub moves_noting : (S : Frame → Type 0) (w : World) (n : Told) (actors : FinMap nat_cmp Actor) (done : FinMap nat_cmp ℕ) (rs : List Remark) → NoneSent rs
    → Moves S w n (record w { actors = actors; done_in = done }) (record n { notes = n.notes ++ rs })
moves_noting S w n actors done rs quiet = record {
  frames = [];
  notes = rs;
  sent = sym (append-nil n.frames);
  noted = refl;
  each = tt;
  quiet = quiet;
  flight = refl;
  next_frame = none_more w.next_frame;
  event = refl;
  moment = refl;
}

pub moves_nothing : (S : Frame → Type 0) (w : World) (n : Told) → Moves S w n w n
moves_nothing S w n = record {
  frames = [];
  notes = [];
  sent = sym (append-nil n.frames);
  noted = sym (append-nil n.notes);
  each = tt;
  quiet = tt;
  flight = refl;
  next_frame = none_more w.next_frame;
  event = refl;
  moment = refl;
}

pub moves_segment : (S : Frame → Type 0) (w : World) (n : Told) (i : ℕ) (a : Actor) (s : Segment) → Plain s.notes → Each S s.frames → Moves S w n (played w i a s) (told w s n)
moves_segment S w n i a s plain each = record {
  frames = s.frames;
  notes = s.notes;
  sent = refl;
  noted = refl;
  each = each;
  quiet = none_sent s.notes plain;
  flight = refl;
  next_frame = refl;
  event = refl;
  moment = refl;
}

-- an actor goes down
pub moves_down : (S : Frame → Type 0) (w : World) (n : Told) (i : ℕ) (a : Actor) → Moves S w n (with_actor w i a) (down_told i n)
moves_down S w n i a = moves_noting S w n (insert w.actors i a) w.done_in (Down i ∷ []) tt
