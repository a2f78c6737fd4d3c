-- Frames are given while they are in flight, and numbered in their order; and moments rise.
use Rattle.std.proofs.Common.{◌≡◌, ℕ, ◌+◌, ◌≤◌, ◌++◌, List, [], ◌∷◌, Option, Some, None, refl, sym, ap, subst, ◌∙◌, inl, inr, arith}
use Rattle.std.specs.Ordering.{nat_cmp}
use Rattle.std.specs.FinMap.{FinMap, contains_key}
use Rattle.sl_defs.specs.declared.setup.Setup.{Setup}
use Rattle.sl_defs.specs.declared.setup.Time.{Time}
use Rattle.sl_frames.specs.declared.frame.Frame.{Frame}
use Rattle.sl_history.specs.Turns.{Remark, Sent, Did, Flush, Verf, Replied, Junk, Early, Full, Lost, Down, Turn, History}
use Rattle.sl_history.specs.Frames.{in_flight, named_number}
use Rattle.sl_history.specs.Legal.{NotAfter}
use Rattle.sl_history.specs.Wired.{frames, IsFlying}
use Rattle.sl_history.specs.Wired as wired
use Rattle.sl_machine.specs.World.{World, Flying, numbered}
use Rattle.sl_machine.specs.Runs.{TurnRun, Run}
use Rattle.sl_transport.specs.Flying.{FlyWhenNamed, AllNumbered, AreNumbered}
use Rattle.sl_transport.specs.Moments.{NoneAfter, Rises, now, MomentsRise}
use Rattle.sl_transport.proofs.Moving.{NoneSent}
use Rattle.sl_transport.proofs.Turning.{HasNamed, TurnMoves, turn_moves}
use Rattle.sl_transport.proofs.Alike.{Anything, sends_anything, runs_alike}

-- ---- a turn of a run

abbrev Turned : World → Turn → World → Type 0
Turned w t w' = TurnMoves Anything w t w'

turned : (setup : Setup) (past : History) (w : World) (t : Turn) (w' : World) → Run setup past w → TurnRun w t w' → Turned w t w'
turned setup past w t w' run turn = turn_moves Anything w t w' (sends_anything t.happening w) (runs_alike setup past w run).own turn

-- ---- frames are given while they are in flight

flies_so : (past : History) (flight : FinMap nat_cmp Flying) (o : Option ℕ) → ((k : ℕ) → in_flight past k ≡ contains_key flight k) → HasNamed o flight → IsFlying past o
flies_so past flight None alike has = tt
flies_so past flight (Some k) alike has = alike k ∙ has

pub given_in_flight : (setup : Setup) (h : History) (w : World) → Run setup h w → FlyWhenNamed h
given_in_flight setup [] w is = tt
given_in_flight setup (t ∷ past) w' (w, run, first, turn) =
    let moves = turned setup past w t w' run turn in
    (given_in_flight setup past w run, flies_so past w.flight (named_number t.happening) (runs_alike setup past w run).alike.flies moves.named)

-- ---- frames are numbered

counted_more : (rs : List Remark) (n : ℕ) (f : Frame) → wired.sent_among (rs ++ Sent n f ∷ []) ≡ wired.sent_among rs + 1
counted_more [] n f = refl
counted_more (Sent k g ∷ rs) n f = ap (λ c. 1 + c) (counted_more rs n f) ∙ regroup (wired.sent_among rs)
  where
    regroup : (c : ℕ) → 1 + (c + 1) ≡ 1 + c + 1
    regroup c = omega arith
counted_more (Did m at choice ∷ rs) n f = counted_more rs n f
counted_more (Flush g ∷ rs) n f = counted_more rs n f
counted_more (Verf v ∷ rs) n f = counted_more rs n f
counted_more (Replied m e bytes ∷ rs) n f = counted_more rs n f
counted_more (Junk m ∷ rs) n f = counted_more rs n f
counted_more (Early m ∷ rs) n f = counted_more rs n f
counted_more (Full m ∷ rs) n f = counted_more rs n f
counted_more (Lost m ∷ rs) n f = counted_more rs n f
counted_more (Down a ∷ rs) n f = counted_more rs n f

none_numbered : (t : Turn) (past : History) (before rs : List Remark) → NoneSent rs → AllNumbered t past before rs
none_numbered t past before [] h = tt
none_numbered t past before (Sent k f ∷ rs) h = absurd h
none_numbered t past before (Did m at choice ∷ rs) h = (tt, none_numbered t past (before ++ Did m at choice ∷ []) rs h)
none_numbered t past before (Flush g ∷ rs) h = (tt, none_numbered t past (before ++ Flush g ∷ []) rs h)
none_numbered t past before (Verf v ∷ rs) h = (tt, none_numbered t past (before ++ Verf v ∷ []) rs h)
none_numbered t past before (Replied m e bytes ∷ rs) h = (tt, none_numbered t past (before ++ Replied m e bytes ∷ []) rs h)
none_numbered t past before (Junk m ∷ rs) h = (tt, none_numbered t past (before ++ Junk m ∷ []) rs h)
none_numbered t past before (Early m ∷ rs) h = (tt, none_numbered t past (before ++ Early m ∷ []) rs h)
none_numbered t past before (Full m ∷ rs) h = (tt, none_numbered t past (before ++ Full m ∷ []) rs h)
none_numbered t past before (Lost m ∷ rs) h = (tt, none_numbered t past (before ++ Lost m ∷ []) rs h)
none_numbered t past before (Down a ∷ rs) h = (tt, none_numbered t past (before ++ Down a ∷ []) rs h)

next_number : (n before c : ℕ) → n ≡ before + c + 1 → n + 1 ≡ before + (c + 1) + 1
next_number n before c e = omega arith

all_numbered : (t : Turn) (past : History) (before : List Remark) (n : ℕ) (fs : List Frame) (rs : List Remark) → n ≡ frames past + wired.sent_among before + 1 → NoneSent rs
    → AllNumbered t past before (numbered n fs ++ rs)
unfolding frames
all_numbered t past before n [] rs e none = none_numbered t past before rs none
all_numbered t past before n (f ∷ fs) rs e none = (
  e,
  all_numbered t past (before ++ Sent n f ∷ []) (n + 1) fs rs
      (next_number n (frames past) (wired.sent_among before) e ∙ ap (λ c. frames past + c + 1) (sym (counted_more before n f))) none,
)

no_more : (n : ℕ) → n + 1 ≡ n + 0 + 1
no_more n = omega arith

pub are_numbered : (setup : Setup) (h : History) (w : World) → Run setup h w → AreNumbered h
are_numbered setup [] w is = tt
are_numbered setup (t ∷ past) w' (w, run, first, turn) =
    let moves = turned setup past w t w' run turn in (
      are_numbered setup past w run,
      subst (AllNumbered t past []) (sym moves.remarks)
          (all_numbered t past [] w.next_frame moves.frames moves.notes ((runs_alike setup past w run).alike.next_frame ∙ no_more (frames past)) moves.quiet),
    )

-- ---- moments rise

le_both : (a b c : ℕ) → a ≤ b → b ≤ c → a ≤ c
le_both a b c p q = omega arith

less_then : (a b c : ℕ) → a + 1 ≤ b → b + 1 ≤ c → a + 1 ≤ c
less_then a b c p q = omega arith

not_after_both : (a b c : Time) → NotAfter a b → NotAfter b c → NotAfter a c
not_after_both a b c (inl p) (inl q) = inl (p.0 ∙ q.0, le_both a.nsec b.nsec c.nsec p.1 q.1)
not_after_both a b c (inl p) (inr q) = inr (subst (λ s. s + 1 ≤ c.sec) (sym p.0) q)
not_after_both a b c (inr p) (inl q) = inr (subst (λ s. a.sec + 1 ≤ s) q.0 p)
not_after_both a b c (inr p) (inr q) = inr (less_then a.sec b.sec c.sec p q)

none_after_both : (past : History) (at later : Time) → NoneAfter past at → NotAfter at later → NoneAfter past later
none_after_both [] at later h q = tt
none_after_both (t ∷ past) at later h q = (not_after_both t.moment at later h.0 q, none_after_both past at later h.1 q)

none_after : (past : History) (at : Time) → Rises past → NotAfter (now past) at → NoneAfter past at
none_after [] at rises h = tt
none_after (t ∷ past) at rises h = (h, none_after_both past t.moment at rises.1 h)

pub moments_rise : (setup : Setup) (h : History) (w : World) → Run setup h w → MomentsRise h w
moments_rise setup [] w is = record { moment = is.moment; rises = tt }
moments_rise setup (t ∷ past) w' (w, run, first, turn) =
    let moves = turned setup past w t w' run turn in
    let before = moments_rise setup past w run in
    record {
      moment = sym moves.moment;
      rises = (before.rises, none_after past t.moment before.rises (subst (λ m. NotAfter m t.moment) before.moment (subst (NotAfter w.moment) (sym moves.moment) moves.rises)));
    }
