-- What a docket knows, as a history goes on.
use Rattle.std.proofs.Common.{◌≡◌, ℕ, List, [], Option, Some, None, refl, ap, sym, subst, ◌∙◌}
use Rattle.std.specs.Prelude.{option_map}
use Rattle.sl_defs.specs.Histories.{Happening, Happens}
use Rattle.sl_defs.specs.declared.event.Event.{Event}
use Rattle.sl_defs.specs.declared.event.Event.TheVariants as event
use Rattle.sl_defs.specs.declared.setup.Time.{Time}
use Rattle.sl_frames.specs.declared.frame.Frame.{Frame}
use Rattle.sl_model.specs.Volume.{Volume}
use Rattle.sl_history.specs.Turns.{Remark, Turn, History, begun, so_far}
use Rattle.sl_history.specs.Frames.{or_else}
use Rattle.sl_history.specs.Volumes.{volume_after}
use Rattle.sl_history.specs.Licensed.{reaches, request}
use Rattle.sl_history.specs.Wired.{acts, may_send}
use Rattle.sl_wiring.specs.declared.docket.Docket.{Docket}
use Rattle.sl_wiring.specs.Dockets.{IsNewest, answered_by, arrival_of, is_this}

-- ---- a turn that begins

no_other : {A : Type 0} → (o : Option A) → or_else o None ≡ o
no_other None = refl
no_other (Some x) = refl

pub request_begun : (past : History) (x : Happening) (m : Time) (fence tag : ℕ) → request (begun past x m) fence tag ≡ request past fence tag
unfolding request
request_begun past x m fence tag = no_other (request past fence tag)

pub volume_begun : (start : Volume) (past : History) (x : Happening) (m : Time) → volume_after start (begun past x m) ≡ volume_after start past
unfolding volume_after
volume_begun start past x m = refl

pub volume_of_none : (start : Volume) → volume_after start [] ≡ start
unfolding volume_after
volume_of_none start = refl

pub answered_is : (past : History) (x : Happening) (m : Time) (f : Frame) (o : Option ℕ) → reaches past (record { happening = x; moment = m; remarks = [] }) ≡ Some f
    → o ≡ option_map arrival_of (request (begun past x m) f.fence f.tag) → o ≡ answered_by past (reaches past (record { happening = x; moment = m; remarks = [] }))
answered_is past x m f o reach e = e ∙ ap (option_map arrival_of) (request_begun past x m f.fence f.tag) ∙ sym (ap (answered_by past) reach)

-- ---- a note that is taken

pub newest_over : (past : History) (t : Turn) (rs : List Remark) (d e : Docket) → e.actor ≡ d.actor → e.answered ≡ d.answered → e.granted ≡ d.granted → IsNewest past t d → IsNewest past (so_far t rs) e
newest_over past t rs d e actor answered granted is = record {
  actor = λ a. subst (λ (o : Option ℕ). acts past t.happening a ≡ is_this a o) (sym actor) (is.actor a);
  answered = answered ∙ is.answered;
  granted = granted ∙ is.granted;
}

-- ---- who may send

pub sends_else : (past : History) (e : Event) (f : Frame) → ((client : ℕ) (bytes : List ℕ) → e ≡ event.Call client bytes → ⊥) → (e ≡ event.Tick → ⊥)
    → may_send past (Happens e) f ≡ acts past (Happens e) f.from
sends_else past (event.Call client bytes) f call tick = absurd (call client bytes refl)
sends_else past (event.Give k) f call tick = refl
sends_else past (event.Copy k) f call tick = refl
sends_else past (event.Drop k) f call tick = refl
sends_else past event.Tick f call tick = absurd (tick refl)
sends_else past (event.Stop a image) f call tick = refl
sends_else past (event.Start a) f call tick = refl
sends_else past (event.Fuse a after image) f call tick = refl
sends_else past (event.Fail a after) f call tick = refl
