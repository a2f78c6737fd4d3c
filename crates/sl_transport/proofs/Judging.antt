-- What a verdict of a kept answer says: it is the one that is kept under the frame's tag.
use Rattle.std.proofs.Common.{◌≡◌, ℕ, ◌&&◌, Bool, true, false, Option, Some, None, refl, cond, not}
use Rattle.std.specs.Prelude.{nat_lt, nat_le}
use Rattle.std.specs.FinMap as map
use Rattle.sl_frames.specs.declared.frame.Frame.{Frame}
use Rattle.sl_frames.specs.declared.body.Body.{Body}
use Rattle.sl_history.specs.Licensed.{is_request}
use Rattle.sl_machine.specs.Records.{Held}
use Rattle.sl_machine.specs.Memory.{Site}
use Rattle.sl_machine.specs.Verdicts.{Verdict, OldFence, Stray, Finished, Parks, IsKept, BelowLow, Answers, is_vote, is_operating, is_apply, is_locked_for, blocks, kept_or, of_request, verdict}

-- the answer of a verdict is of this kind
abbrev pub OfVerdict : (Frame → Type 0) → Verdict → Type 0
OfVerdict S (IsKept answer) = S answer
OfVerdict S other = Unit {0}

of_either : (S : Frame → Type 0) (b : Bool) (v w : Verdict) → OfVerdict S v → OfVerdict S w → OfVerdict S (cond b v w)
of_either S true v w p q = p
of_either S false v w p q = q

of_kept : (S : Frame → Type 0) (s : Site) (f : Frame) → ((answer : Frame) → map.get s.kept f.tag ≡ Some answer → S answer) → OfVerdict S (of_request s f)
of_kept S s f h = by (map.get s.kept f.tag) refl
  where
    by : (o : Option Frame) → map.get s.kept f.tag ≡ o → OfVerdict S (kept_or o (cond (nat_lt f.tag s.low) BelowLow Answers))
    by None e = of_either S (nat_lt f.tag s.low) BelowLow Answers tt tt
    by (Some answer) e = h answer e

pub of_verdict : (S : Frame → Type 0) (takes : Body → Bool) (locked : Option Held) (last : ℕ) (s : Site) (f : Frame)
    → ((answer : Frame) → map.get s.kept f.tag ≡ Some answer → S answer) → OfVerdict S (verdict takes locked last s f)
unfolding verdict
of_verdict S takes locked last s f h =
    of_either S (nat_lt f.fence s.fence && not (is_vote f.body)) OldFence _ tt
    (of_either S (not (takes f.body)) Stray _ tt
    (of_either S (is_operating f.body && nat_le f.op last) Finished _ tt
    (of_either S (is_apply f.body && not (is_locked_for f.op locked)) Stray _ tt
    (of_either S (blocks f locked) Parks _ tt
    (of_either S (is_request f.body) (of_request s f) Answers (of_kept S s f h) tt)))))
