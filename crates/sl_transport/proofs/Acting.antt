-- Each segment that an actor may do is proper.
use Rattle.std.proofs.Common.{◌≡◌, sym, subst, ◌∙◌}
use Rattle.sl_frames.specs.declared.frame.Frame.{Frame}
use Rattle.sl_machine.specs.Memory.{Actor}
use Rattle.sl_machine.specs.World.{Scene, Task, Segment}
use Rattle.sl_machine.specs.Runs.{May, ByProxy, ByCoordinator, ByDirectory, ByStore, ByOpenedProxy, ByOpenedCoordinator, ByOpenedDirectory, ByOpenedStore}
use Rattle.sl_transport.proofs.Proper.{KeptBy, Proper}
use Rattle.sl_transport.proofs.Kept.{kept_restored, kept_decided}
use Rattle.sl_transport.proofs.Proxying.{proxy_proper, opens_proper}
use Rattle.sl_transport.proofs.Coordinating.{coordinator_proper}
use Rattle.sl_transport.proofs.Directing.{directory_proper}
use Rattle.sl_transport.proofs.Storing.{store_proper, boots_proper}

pub proper : (S : Frame → Type 0) (x : Scene) (a : Actor) (t : Task) (s : Segment) → ((f : Frame) → f.from ≡ x.actor → S f) → KeptBy S a.memory → May x a t s → Proper S s
proper S x a t s own kept (ByProxy p i up row) = proxy_proper S (λ f e. own f (e ∙ sym i)) x p t s row
proper S x a t s own kept (ByCoordinator m i up row) = coordinator_proper S (λ f e tells. own f (e ∙ sym i)) x a m t s (subst (KeptBy S) up kept) row
proper S x a t s own kept (ByDirectory m i up row) = directory_proper S x (λ f e tells. own f e) a m t s (subst (KeptBy S) up kept) row
proper S x a t s own kept (ByStore m i up row) = store_proper S x (λ f e tells. own f e) a m t s (subst (KeptBy S) up kept) row
proper S x a t s own kept (ByOpenedProxy i down is row) = opens_proper S (λ f e. own f (e ∙ sym i)) a s row
proper S x a t s own kept (ByOpenedCoordinator i down is row) =
    subst (Proper S) (sym row.does) (record { notes = tt; frames = tt; memory = kept_decided S a.records row.coord (λ f e tells. own f (e ∙ sym i)) row.restored })
proper S x a t s own kept (ByOpenedDirectory i down is row) =
    subst (Proper S) (sym row.does) (record { notes = tt; frames = tt; memory = kept_restored S x.actor a.records row.site (λ f e tells. own f e) row.restored })
proper S x a t s own kept (ByOpenedStore i down is row) = boots_proper S x (λ f e tells. own f e) a s row
