-- What may be noted in a turn, where no file has unstable writes: all but a write verifier, which has to be due.
use Rattle.std.proofs.Common.{◌≡◌, ℕ, ◌+◌, ◌||◌, Bool, true, false, List, [], ◌∷◌, ◌++◌, Option, Some, None, refl, sym, ap, subst, ◌∙◌}
use Rattle.sl_model.specs.Volume.{Volume}
use Rattle.sl_frames.specs.declared.frame.Frame.{Frame}
use Rattle.sl_history.specs.Turns.{Remark, Sent, Did, Flush, Verf, Replied, Junk, Early, Full, Lost, Down, Turn, History, so_far}
use Rattle.sl_history.specs.Frames.{or_else, verf_of, last_among, last_in}
use Rattle.sl_history.specs.Licensed.{flush_in, stops_one, lost_on, may_be_lost, AllMayBeNoted, IsRequestedIf}
use Rattle.sl_machine.specs.World.{numbered}
use Rattle.sl_transport.proofs.Proper.{Each}
use Rattle.sl_getattr.proofs.Stepping.{not_none}

-- nothing takes effect, no verifier is new, and no flush is asked for
abbrev pub AreHarmless : List Remark → Type 0
AreHarmless [] = Unit {0}
AreHarmless (Sent k f ∷ rs) = (flush_in f.«body» ≡ None) × AreHarmless rs
AreHarmless (Did n at choice ∷ rs) = ⊥
AreHarmless (Flush f ∷ rs) = ⊥
AreHarmless (Verf v ∷ rs) = ⊥
AreHarmless (r ∷ rs) = AreHarmless rs

pub harmless_both : (rs qs : List Remark) → AreHarmless rs → AreHarmless qs → AreHarmless (rs ++ qs)
harmless_both [] qs p q = q
harmless_both (Sent k f ∷ rs) qs p q = (p.0, harmless_both rs qs p.1 q)
harmless_both (Did n at choice ∷ rs) qs p q = absurd p
harmless_both (Flush f ∷ rs) qs p q = absurd p
harmless_both (Verf v ∷ rs) qs p q = absurd p
harmless_both (Replied n e bytes ∷ rs) qs p q = harmless_both rs qs p q
harmless_both (Junk n ∷ rs) qs p q = harmless_both rs qs p q
harmless_both (Early n ∷ rs) qs p q = harmless_both rs qs p q
harmless_both (Full n ∷ rs) qs p q = harmless_both rs qs p q
harmless_both (Lost n ∷ rs) qs p q = harmless_both rs qs p q
harmless_both (Down a ∷ rs) qs p q = harmless_both rs qs p q

pub harmless_frames : (k : ℕ) (fs : List Frame) → Each (λ f. flush_in f.«body» ≡ None) fs → AreHarmless (numbered k fs)
harmless_frames k [] each = tt
harmless_frames k (f ∷ fs) each = (each.0, harmless_frames (k + 1) fs each.1)

pub harmless_licensed : (start : Volume) (past : History) (t : Turn) (before rs : List Remark) → AreHarmless rs → AllMayBeNoted start t past before rs
harmless_licensed start past t before [] harmless = tt
harmless_licensed start past t before (Sent k f ∷ rs) harmless =
    (subst (IsRequestedIf start (so_far t before ∷ past) (t ∷ past) f) (sym harmless.0) tt, harmless_licensed start past t (before ++ Sent k f ∷ []) rs harmless.1)
harmless_licensed start past t before (Did n at choice ∷ rs) harmless = absurd harmless
harmless_licensed start past t before (Flush f ∷ rs) harmless = absurd harmless
harmless_licensed start past t before (Verf v ∷ rs) harmless = absurd harmless
harmless_licensed start past t before (Replied n e bytes ∷ rs) harmless = (tt, harmless_licensed start past t (before ++ Replied n e bytes ∷ []) rs harmless)
harmless_licensed start past t before (Junk n ∷ rs) harmless = (tt, harmless_licensed start past t (before ++ Junk n ∷ []) rs harmless)
harmless_licensed start past t before (Early n ∷ rs) harmless = (tt, harmless_licensed start past t (before ++ Early n ∷ []) rs harmless)
harmless_licensed start past t before (Full n ∷ rs) harmless = (tt, harmless_licensed start past t (before ++ Full n ∷ []) rs harmless)
harmless_licensed start past t before (Lost n ∷ rs) harmless = (tt, harmless_licensed start past t (before ++ Lost n ∷ []) rs harmless)
harmless_licensed start past t before (Down a ∷ rs) harmless = (tt, harmless_licensed start past t (before ++ Down a ∷ []) rs harmless)

-- ---- the first write verifier

pub first_none : {A : Type 0} (a b : Option A) → or_else a b ≡ None → a ≡ None
first_none None b is = refl
first_none (Some x) b is = is

pub second_none : {A : Type 0} (a b : Option A) → or_else a b ≡ None → b ≡ None
second_none None b is = is
second_none (Some x) b is = absurd (not_none is)

or_true : (b : Bool) → b || true ≡ true
or_true true = refl
or_true false = refl

lost_yet : (rs : List Remark) → last_among verf_of rs ≡ None → lost_on rs true ≡ true
lost_yet [] none = refl
lost_yet (Verf v ∷ rs) none = absurd (not_none (second_none (last_among verf_of rs) (Some v) none))
lost_yet (Down a ∷ rs) none = lost_yet rs (first_none (last_among verf_of rs) None none)
lost_yet (Sent k f ∷ rs) none = lost_yet rs (first_none (last_among verf_of rs) None none)
lost_yet (Did n at choice ∷ rs) none = lost_yet rs (first_none (last_among verf_of rs) None none)
lost_yet (Flush f ∷ rs) none = lost_yet rs (first_none (last_among verf_of rs) None none)
lost_yet (Replied n e bytes ∷ rs) none = lost_yet rs (first_none (last_among verf_of rs) None none)
lost_yet (Junk n ∷ rs) none = lost_yet rs (first_none (last_among verf_of rs) None none)
lost_yet (Early n ∷ rs) none = lost_yet rs (first_none (last_among verf_of rs) None none)
lost_yet (Full n ∷ rs) none = lost_yet rs (first_none (last_among verf_of rs) None none)
lost_yet (Lost n ∷ rs) none = lost_yet rs (first_none (last_among verf_of rs) None none)

-- before the first one it is always due
pub lost_before : (h : History) → last_in verf_of h ≡ None → may_be_lost h ≡ true
unfolding may_be_lost
lost_before [] none = refl
lost_before (t ∷ past) none =
    ap (λ b. lost_on t.remarks (b || stops_one past t.happening)) (lost_before past (second_none (last_among verf_of t.remarks) (last_in verf_of past) none))
    ∙ lost_yet t.remarks (first_none (last_among verf_of t.remarks) (last_in verf_of past) none)
