-- Flushes that go on, as the program has the notes.
use Rattle.std.proofs.Common.{◌≡◌, ℕ, List, [], ◌∷◌, refl, ap, sym, ◌∙◌, true, ◌&&◌, Option, Some, None}
use Rattle.std.proofs.lemmas.Bool.{cond-true}
use Rattle.sl_defs.specs.Histories.{Happening}
use Rattle.sl_defs.specs.declared.setup.Time.{Time}
use Rattle.sl_frames.specs.Actors.{is_proxy}
use Rattle.sl_frames.specs.declared.frame.Frame.{Frame}
use Rattle.sl_history.specs.Turns.{History, begun}
use Rattle.sl_history.specs.Bodies.{is_decided}
use Rattle.sl_history.specs.Licensed.{ended_by, flush_of_request, flushing, flushing_on, reaches, request}
use Rattle.sl_past.specs.Words.{remark_of}
use Rattle.sl_past.specs.declared.remark.Remark as past
use Rattle.sl_past.specs.declared.remark.Remark.TheVariants as remark
use Rattle.sl_licence.specs.declared.dirty.Flushing.{Flushing}
use Rattle.sl_licence.specs.Dirty.{AreFlushing}
use Rattle.sl_licence.proofs.Histories.{request-begun}

pub no_flushing : (r : past.Remark) → ((f : ℕ) → r ≡ remark.Flush f → ⊥) → ((v : ℕ) → r ≡ remark.Verf v → ⊥) → (fs : List ℕ) → fs ≡ flushing_on (remark_of r ∷ []) fs
no_flushing (remark.Sent n g) flush verf fs = refl
no_flushing (remark.Did n at choice) flush verf fs = refl
no_flushing (remark.Flush g) flush verf fs = absurd (flush g refl)
no_flushing (remark.Verf v) flush verf fs = absurd (verf v refl)
no_flushing (remark.Replied n e bytes) flush verf fs = refl
no_flushing (remark.Junk n) flush verf fs = refl
no_flushing (remark.Early n) flush verf fs = refl
no_flushing (remark.Full n) flush verf fs = refl
no_flushing (remark.Lost n) flush verf fs = refl
no_flushing (remark.Down a) flush verf fs = refl

pub nothing_flushing : (x : Flushing) → x.files.items ≡ [] → AreFlushing [] x
unfolding flushing
nothing_flushing x none = record { files = none }

-- the file whose flush a frame ends
pub ends_flush : (past : History) (happening : Happening) (moment : Time) (g : Frame) (o : Option Frame) (r : Option ℕ)
    → Some g ≡ reaches past (record { happening = happening; moment = moment; remarks = [] }) → (is_proxy g.to && is_decided g.body) ≡ true
    → o ≡ request (begun past happening moment) g.fence g.tag → r ≡ flush_of_request o → r ≡ ended_by past (reaches past (record { happening = happening; moment = moment; remarks = [] }))
ends_flush past happening moment g o r reached decides found is =
    is ∙ ap flush_of_request (found ∙ request-begun past happening moment g.fence g.tag)
    ∙ sym (cond-true (is_proxy g.to && is_decided g.body) (flush_of_request (request past g.fence g.tag)) None decides)
    ∙ ap (ended_by past) reached
