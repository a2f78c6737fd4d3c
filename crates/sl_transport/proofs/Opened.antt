-- What openings note and send: what the last records say, and the proxy's Hello.
use Rattle.std.proofs.Common.{ℕ, Bool, true, false, List, [], ◌∷◌, Option, Some, None, sym, subst, cond, length}
use Rattle.std.specs.Prelude.{nat_lt}
use Rattle.sl_records.specs.declared.started.Started.{Started}
use Rattle.sl_records.specs.declared.coordinator.LogEntry.TheVariants as log
use Rattle.sl_records.specs.declared.directory.DirRecord.TheVariants as dir
use Rattle.sl_frames.specs.declared.intent.What.{What}
use Rattle.sl_frames.specs.declared.intent.What.TheVariants as what
use Rattle.sl_frames.specs.declared.frame.Frame.{Frame}
use Rattle.sl_machine.specs.Records.{Record, OfLog, OfDir, started_of, with_op}
use Rattle.sl_machine.specs.Memory.{Site, Store, Coord, Proxy, Actor}
use Rattle.sl_machine.specs.World.{Scene, Task, Opening, Founds, Segment}
use Rattle.sl_machine.specs.Coordinators.{note_by}
use Rattle.sl_machine.specs.Coordinators as coordinators
use Rattle.sl_machine.specs.Directories as directories
use Rattle.sl_machine.specs.Stores as stores
use Rattle.sl_machine.specs.Proxies as proxies
use Rattle.sl_machine.specs.Proxies.{hello}
use Rattle.sl_machine.specs.Openings.{decided_note, notes_in, last_notes, settled}
use Rattle.sl_machine.specs.Runs.{May, ByProxy, ByCoordinator, ByDirectory, ByStore, ByOpenedProxy, ByOpenedCoordinator, ByOpenedDirectory, ByOpenedStore}
use Rattle.sl_transport.proofs.Proper.{Plain, Each}
use Rattle.sl_transport.proofs.Stepping.{EachTask, Does}

-- ---- what is noted

plain_note : (s : Started) (o : What) → Plain (note_by s o ∷ [])
plain_note s (what.Call chosen kept) = tt
plain_note s (what.Flush f) = tt

plain_decided : (o : Option Started) → Plain (decided_note o)
plain_decided None = tt
plain_decided (Some s) = plain_note s s.intent.what

plain_in : (before : List Record) (r : Record) → Plain (notes_in before r)
plain_in before (OfDir (dir.Did d)) = tt
plain_in before (OfLog (log.Decide op true)) = plain_decided (with_op op (started_of before))
plain_in before other = tt

plain_last : (rs : List Record) → Plain (last_notes rs)
plain_last [] = tt
plain_last (r ∷ rs) = plain_in rs r

pub plain_settled : (noted : ℕ) (rs : List Record) → Plain (settled noted rs)
plain_settled noted rs = by (nat_lt noted (length rs))
  where
    by : (b : Bool) → Plain (cond b (last_notes rs) [])
    by true = plain_last rs
    by false = tt

-- ---- what is sent

-- the tasks of an opening
abbrev pub OpensSome : Task → Type 0
OpensSome Opening = Unit {0}
OpensSome Founds = Unit {0}
OpensSome other = ⊥

abbrev Says : (Frame → Type 0) → Segment → Type 0
Says S s = Each S s.frames × EachTask OpensSome s.todo

proxy_opens : (S : Frame → Type 0) (x : Scene) (p : Proxy) (t : Task) (s : Segment) → OpensSome t → proxies.ProxyRow x p t s → Says S s
proxy_opens S x p t s h (proxies.IsTaken n client bytes is row) = absurd (subst OpensSome is h)
proxy_opens S x p t s h (proxies.IsGoing n is row) = absurd (subst OpensSome is h)
proxy_opens S x p t s h (proxies.IsWaking is row) = absurd (subst OpensSome is h)
proxy_opens S x p t s h (proxies.IsUsed f e is row) = absurd (subst OpensSome is h)
proxy_opens S x p t s h (proxies.IsRenewed f e is row) = absurd (subst OpensSome is h)
proxy_opens S x p t s h (proxies.IsGreeted f e is row) = absurd (subst OpensSome is h)
proxy_opens S x p t s h (proxies.IsIgnored f e is row) = absurd (subst OpensSome is h)
proxy_opens S x p t s h (proxies.IsSentAgain is row) = absurd (subst OpensSome is h)

coordinator_opens : (S : Frame → Type 0) (x : Scene) (a : Actor) (m : Coord) (t : Task) (s : Segment) → OpensSome t → coordinators.CoordinatorRow x a m t s → Says S s
coordinator_opens S x a m t s h (coordinators.IsRenewed f e is row) = absurd (subst OpensSome is h)
coordinator_opens S x a m t s h (coordinators.IsAdmitted f e is row) = absurd (subst OpensSome is h)
coordinator_opens S x a m t s h (coordinators.IsRefused op is row) = absurd (subst OpensSome is h)
coordinator_opens S x a m t s h (coordinators.IsStarted is row) = absurd (subst OpensSome is h)
coordinator_opens S x a m t s h (coordinators.IsWelcomed is row) = absurd (subst OpensSome is h)
coordinator_opens S x a m t s h (coordinators.IsResting is row) = absurd (subst OpensSome is h)
coordinator_opens S x a m t s h (coordinators.IsSentAgain is row) = absurd (subst OpensSome is h)

directory_opens : (S : Frame → Type 0) (x : Scene) (a : Actor) (m : Site) (t : Task) (s : Segment) → OpensSome t → directories.DirectoryRow x a m t s → Says S s
directory_opens S x a m t s h (directories.IsRenewed f e is row) = absurd (subst OpensSome is h)
directory_opens S x a m t s h (directories.IsAdmitted f e is row) = absurd (subst OpensSome is h)
directory_opens S x a m t s h (directories.IsTakenUp f is row) = absurd (subst OpensSome is h)
directory_opens S x a m t s h (directories.IsFounded is row) = subst (Says S) (sym row.does) (tt, tt)
directory_opens S x a m t s h (directories.IsOpen is row) = subst (Says S) (sym row.does) (tt, tt)

store_opens : (S : Frame → Type 0) (x : Scene) (a : Actor) (m : Store) (t : Task) (s : Segment) → OpensSome t → stores.StoreRow x a m t s → Says S s
store_opens S x a m t s h (stores.IsRenewed f e is row) = absurd (subst OpensSome is h)
store_opens S x a m t s h (stores.IsAdmitted f e is row) = absurd (subst OpensSome is h)
store_opens S x a m t s h (stores.IsTakenUp f is row) = absurd (subst OpensSome is h)

opens_some : (S : Frame → Type 0) → ((fence : ℕ) → S (hello fence)) → (x : Scene) (a : Actor) (t : Task) (s : Segment) → OpensSome t → May x a t s → Says S s
opens_some S says x a t s h (ByProxy p i up row) = proxy_opens S x p t s h row
opens_some S says x a t s h (ByCoordinator m i up row) = coordinator_opens S x a m t s h row
opens_some S says x a t s h (ByDirectory m i up row) = directory_opens S x a m t s h row
opens_some S says x a t s h (ByStore m i up row) = store_opens S x a m t s h row
opens_some S says x a t s h (ByOpenedProxy i down is row) = subst (Says S) (sym row.does) ((says _, tt), tt)
opens_some S says x a t s h (ByOpenedCoordinator i down is row) = subst (Says S) (sym row.does) (tt, tt)
opens_some S says x a t s h (ByOpenedDirectory i down is row) = subst (Says S) (sym row.does) (tt, (tt, tt))
opens_some S says x a t s h (ByOpenedStore i down is row) = subst (Says S) (sym row.does) (tt, tt)

pub opening_does : (i : ℕ) (S : Frame → Type 0) → ((fence : ℕ) → S (hello fence)) → Does i OpensSome S
opening_does i S says = record { does = λ x a t s is h own may. opens_some S says x a t s h may }
