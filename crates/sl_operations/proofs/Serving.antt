-- Servers where nothing is parked, and what they have kept is known.
use Rattle.std.proofs.Common.{◌≡◌, ℕ, max, nat_lt, Bool, true, false, T, List, [], ◌∷◌, ◌++◌, Some, None, refl, sym, ap, subst, ◌∙◌}
use Rattle.std.specs.FinMap.{insert}
use Rattle.sl_frames.specs.declared.frame.Frame.{Frame}
use Rattle.sl_machine.specs.Records.{locked_in, last_finished}
use Rattle.sl_machine.specs.Memory.{Site, Store, Buffered, Vote, Coord, Actor, OfSite, OfStore, OfCoord}
use Rattle.sl_machine.specs.World.{Scene, Given, Segment}
use Rattle.sl_machine.specs.Verdicts.{Verdict, verdict, for_directory, for_store, for_coordinator, seen}
use Rattle.sl_machine.specs.Directories as directory
use Rattle.sl_machine.specs.Stores as store
use Rattle.sl_machine.specs.Coordinators.{NoneStarts}
use Rattle.sl_machine.specs.Coordinators as log
use Rattle.sl_records.specs.declared.started.Started.{Started}
use Rattle.sl_machine.specs.Runs.{May, ByDirectory, ByStore, ByCoordinator}
use Rattle.sl_frames.specs.Actors.{is_directory, is_data}
use Rattle.sl_witness.specs.Histories.{fence}
use Rattle.sl_operations.proofs.Maps.{of, with_entry, from_key, inserted, kept_from}

-- with this low, and these answers by their tags
abbrev pub site : ℕ → List (ℕ × Frame) → Site
site low kept = record { fence = fence; low = low; kept = of kept; parked = [] }

-- an answer is kept
pub keeps : (low : ℕ) (kept : List (ℕ × Frame)) (tag : ℕ) (f : Frame) → record (site low kept) { kept = insert (of kept) tag f } ≡ site low (with_entry tag f kept)
keeps low kept tag f = ap (λ m. record (site low kept) { kept = m }) (inserted kept tag f)

-- the site when a frame of its fence was seen
abbrev pub seen_site : ℕ → List (ℕ × Frame) → ℕ → Site
seen_site low kept new = site (max low new) (from_key (max low new) kept)

pub is_seen : (low : ℕ) (kept : List (ℕ × Frame)) (f : Frame) → f.fence ≡ fence → seen f (site low kept) ≡ seen_site low kept f.low
is_seen low kept f e =
    ap (λ n. seen (record f { fence = n }) (site low kept)) e
    ∙ ap (λ m. record (site low kept) { low = max low f.low; kept = m }) (kept_from kept (max low f.low))

-- ---- rows

pub directory_may :
    (x : Scene) (a : Actor) (low : ℕ) (kept : List (ℕ × Frame)) (f : Frame) (e : ℕ) (g : Segment) → is_directory x.actor ≡ true → a.memory ≡ Some (OfSite (site low kept))
    → f.fence ≡ fence → nat_lt fence f.fence ≡ false → (v : Verdict)
    → verdict for_directory (locked_in a.records) (last_finished a.records) (seen_site low kept f.low) f ≡ v
    → g ≡ directory.by_verdict x a (seen_site low kept f.low) f v → May x a (Given f e) g
directory_may x a low kept f e g at is fence_is not_greater v verdict_is does =
    ByDirectory (site low kept) at is (directory.IsAdmitted f e refl (record {
      not_greater = not_greater;
      does =
          does
          ∙ (ap (directory.by_verdict x a (seen_site low kept f.low) f) (sym verdict_is)
          ∙ ap (λ s. directory.admits x a s f) (sym (is_seen low kept f fence_is)));
    }))

-- ---- a data server

abbrev pub store_of : ℕ → List (ℕ × Frame) → List Buffered → Store
store_of low kept buffered = record { site = site low kept; buffered = buffered }

pub store_may :
    (x : Scene) (a : Actor) (low : ℕ) (kept : List (ℕ × Frame)) (buffered : List Buffered) (f : Frame) (e : ℕ) (g : Segment) → is_data x.actor ≡ true
    → a.memory ≡ Some (OfStore (store_of low kept buffered)) → f.fence ≡ fence → nat_lt fence f.fence ≡ false → (v : Verdict)
    → verdict for_store (locked_in a.records) (last_finished a.records) (seen_site low kept f.low) f ≡ v
    → g ≡ store.by_verdict x a (record { site = seen_site low kept f.low; buffered = buffered }) f v → May x a (Given f e) g
store_may x a low kept buffered f e g at is fence_is not_greater v verdict_is does =
    ByStore (store_of low kept buffered) at is (store.IsAdmitted f e refl (record {
      not_greater = not_greater;
      does =
          does
          ∙ (ap (store.by_verdict x a (record { site = seen_site low kept f.low; buffered = buffered }) f) (sym verdict_is)
          ∙ ap (λ s. store.admits x a (record { site = s; buffered = buffered }) f) (sym (is_seen low kept f fence_is)));
    }))

-- ---- the coordinator

-- it has heard the proxy, and owes no Welcome
abbrev pub coordinator : ℕ → List (ℕ × Frame) → List Frame → List Vote → List Vote → Coord
coordinator low kept queue granted acknowledged =
    record { site = site low kept; queue = queue; granted = granted; acknowledged = acknowledged; owes = false; heard = true }

pub coordinator_may :
    (x : Scene) (a : Actor) (low : ℕ) (kept : List (ℕ × Frame)) (queue : List Frame) (granted acknowledged : List Vote) (f : Frame) (e : ℕ) (g : Segment) → x.actor ≡ 1
    → a.memory ≡ Some (OfCoord (coordinator low kept queue granted acknowledged)) → f.fence ≡ fence → nat_lt fence f.fence ≡ false → (v : Verdict)
    → verdict for_coordinator None 0 (seen_site low kept f.low) f ≡ v
    → g ≡ log.by_verdict a (record (coordinator low kept queue granted acknowledged) { site = seen_site low kept f.low }) f v → May x a (Given f e) g
coordinator_may x a low kept queue granted acknowledged f e g at is fence_is not_greater v verdict_is does =
    let m = coordinator low kept queue granted acknowledged in
    ByCoordinator m at is (log.IsAdmitted f e refl (record {
      not_greater = not_greater;
      does =
          does
          ∙ (ap (log.by_verdict a (record m { site = seen_site low kept f.low }) f) (sym verdict_is)
          ∙ ap (λ s. log.admits a (record m { site = s }) f) (sym (is_seen low kept f fence_is)));
    }))

is_nil : {A : Type 0} → List A → Bool
is_nil [] = true
is_nil (x ∷ xs) = false

nothing_inside : {A : Type 0} (before : List A) (x : A) (behind : List A) → [] ≡ before ++ x ∷ behind → ⊥
unfolding is_nil
nothing_inside [] x behind e = subst (λ l. T (is_nil l)) e tt
nothing_inside (b ∷ before) x behind e = subst (λ l. T (is_nil l)) e tt

pub none_waits : (ss : List Started) → NoneStarts ss []
none_waits ss n is = nothing_inside n.before n.frame n.behind is.is
