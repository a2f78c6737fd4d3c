-- Notes of other kinds, as the program has them.
use Rattle.std.proofs.Common.{◌≡◌, ℕ, [], ◌∷◌, refl, None}
use Rattle.sl_frames.specs.declared.frame.Frame.{Frame}
use Rattle.sl_history.specs.Frames.{sent_among}
use Rattle.sl_history.specs.Licensed.{flushes_among}
use Rattle.sl_past.specs.Words.{remark_of}
use Rattle.sl_past.specs.declared.remark.Remark as past
use Rattle.sl_past.specs.declared.remark.Remark.TheVariants as remark

pub no_flush : (r : past.Remark) → ((f : ℕ) → r ≡ remark.Flush f → ⊥) → (f : ℕ) → flushes_among f (remark_of r ∷ []) ≡ 0
no_flush (remark.Sent n g) other f = refl
no_flush (remark.Did n at choice) other f = refl
no_flush (remark.Flush g) other f = absurd (other g refl)
no_flush (remark.Verf v) other f = refl
no_flush (remark.Replied n e bytes) other f = refl
no_flush (remark.Junk n) other f = refl
no_flush (remark.Early n) other f = refl
no_flush (remark.Full n) other f = refl
no_flush (remark.Lost n) other f = refl
no_flush (remark.Down a) other f = refl

pub no_sending : (r : past.Remark) → ((n : ℕ) (g : Frame) → r ≡ remark.Sent n g → ⊥) → (k : ℕ) → sent_among (remark_of r ∷ []) k ≡ None
no_sending (remark.Sent n g) other k = absurd (other n g refl)
no_sending (remark.Did n at choice) other k = refl
no_sending (remark.Flush g) other k = refl
no_sending (remark.Verf v) other k = refl
no_sending (remark.Replied n e bytes) other k = refl
no_sending (remark.Junk n) other k = refl
no_sending (remark.Early n) other k = refl
no_sending (remark.Full n) other k = refl
no_sending (remark.Lost n) other k = refl
no_sending (remark.Down a) other k = refl
