-- What a site holds when a frame was seen.
use Rattle.std.proofs.Common.{◌≡◌, ℕ, true, [], refl, ap, nat_lt, max}
use Rattle.sl_frames.specs.declared.frame.Frame.{Frame}
use Rattle.sl_machine.specs.Memory.{Site}
use Rattle.sl_machine.specs.Verdicts.{seen}
use Rattle.sl_world.specs.Sites.{bare}
use Rattle.sl_world.proofs.Maps.{none_retained}
use Rattle.sl_world.proofs.Numbers.{same_number, not_same}

-- of its own fence
pub seen_is : (f : Frame) (low : ℕ) → seen f (bare f.fence low) ≡ bare f.fence (max low f.low)
seen_is f low = rw (same_number f.fence) (ap (λ k. record { fence = f.fence; low = max low f.low; kept = k; parked = [] }) (none_retained _))

-- an older frame changes nothing
pub unseen : (f : Frame) (s : Site) → nat_lt f.fence s.fence ≡ true → seen f s ≡ s
unseen f s older = rw (not_same f.fence s.fence older) refl
