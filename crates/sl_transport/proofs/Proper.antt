-- What each segment of an actor is like: it notes no frame and no end of an actor, and what is so of each frame from this
-- actor is so of those that it sends and keeps.
use Rattle.std.proofs.Common.{◌≡◌, ℕ, Bool, true, false, List, [], ◌∷◌, ◌++◌, Option, Some, None, cond}
use Rattle.std.specs.FinMap as map
use Rattle.sl_frames.specs.declared.frame.Frame.{Frame}
use Rattle.sl_history.specs.Turns.{Remark, Sent, Down}
use Rattle.sl_machine.specs.Memory.{Site, Memory, OfProxy, OfCoord, OfSite, OfStore}
use Rattle.sl_machine.specs.World.{Segment}

-- no frame is noted, and no end of an actor
abbrev pub Plain : List Remark → Type 0
Plain [] = Unit {0}
Plain (Sent k f ∷ rs) = ⊥
Plain (Down a ∷ rs) = ⊥
Plain (r ∷ rs) = Plain rs

abbrev pub Each : (Frame → Type 0) → List Frame → Type 0
Each S [] = Unit {0}
Each S (f ∷ fs) = S f × Each S fs

abbrev pub KeptIn : (Frame → Type 0) → Site → Type 0
KeptIn S s = (tag : ℕ) (f : Frame) → map.get s.kept tag ≡ Some f → S f

-- of each answer that is kept
abbrev pub Kept : (Frame → Type 0) → Memory → Type 0
Kept S (OfProxy p) = Unit {0}
Kept S (OfCoord m) = KeptIn S m.site
Kept S (OfSite s) = KeptIn S s
Kept S (OfStore m) = KeptIn S m.site

abbrev pub KeptBy : (Frame → Type 0) → Option Memory → Type 0
KeptBy S None = Unit {0}
KeptBy S (Some m) = Kept S m

pub record Proper (S : Frame → Type 0) (s : Segment) : Type 0 where
  pub notes : Plain s.notes
  pub frames : Each S s.frames
  pub memory : Kept S s.memory

pub either : {S : Frame → Type 0} (b : Bool) {s r : Segment} → Proper S s → Proper S r → Proper S (cond b s r)
either true p q = p
either false p q = q

pub each_either : (S : Frame → Type 0) (b : Bool) (fs gs : List Frame) → Each S fs → Each S gs → Each S (cond b fs gs)
each_either S true fs gs p q = p
each_either S false fs gs p q = q

pub each_both : (S : Frame → Type 0) (fs gs : List Frame) → Each S fs → Each S gs → Each S (fs ++ gs)
each_both S [] gs p q = q
each_both S (f ∷ fs) gs p q = (p.0, each_both S fs gs p.1 q)
