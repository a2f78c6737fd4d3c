-- The Hello is given to the coordinator, and its Welcome to the proxy.
use Rattle.std.proofs.Common.{◌≡◌, Bool, true, false, T, List, [], ◌∷◌, ◌++◌, Some, None, refl, ap, subst, inl, lit<, nat_le}
use Rattle.std.specs.FinMap.{get, empty, retain_keys}
use Rattle.sl_records.specs.declared.coordinator.LogEntry.TheVariants as log
use Rattle.sl_history.specs.Turns.{Sent, Verf}
use Rattle.sl_machine.specs.Records.{started_of}
use Rattle.sl_machine.specs.Records as records
use Rattle.sl_machine.specs.Memory.{Site, Coord, Proxy, Actor}
use Rattle.sl_machine.specs.Memory as memory
use Rattle.sl_machine.specs.World.{World, Given, Proceeds, Segment, quiet, sends, played, after_segment, begun, landed}
use Rattle.sl_machine.specs.Verdicts.{verdict}
use Rattle.sl_machine.specs.Coordinators.{Next, IsNext, NoneStarts, welcome}
use Rattle.sl_machine.specs.Coordinators as coordinator
use Rattle.sl_machine.specs.Proxies.{fresh, hello}
use Rattle.sl_machine.specs.Proxies as proxy
use Rattle.sl_machine.specs.Runs.{Run, TurnRun, ByCoordinator, ByProxy, Whole, is_up}
use Rattle.sl_defs.specs.declared.event.Event.TheVariants as event
use Rattle.sl_witness.specs.Histories.{setup, fence, turn, greeted, welcomed}
use Rattle.sl_witness.specs.Runs.{TheProxyIsWelcomed}
use Rattle.sl_witness.proofs.Maps.{got_here, got_past}
use Rattle.sl_witness.proofs.Openings.{blank, counts_start, reads_log, reads_cells, makes_root, boots, no_site, no_store, new_coordinator, w5, opened_run, empty_disks, past_three, proxy_opened, coordinator_opened, directory_opened, small_opened, node_opened}

-- ---- the coordinator

abbrev pub coordinator_5 : Actor
coordinator_5 = after_segment blank reads_log

abbrev pub fresh_site : Site
fresh_site = record { fence = fence; low = 0; kept = empty; parked = [] }

abbrev pub fresh_coordinator : Coord
fresh_coordinator = record { site = fresh_site; queue = []; granted = []; acknowledged = []; owes = false; heard = false }

-- the fence of the Hello is recorded
abbrev pub records_fence : Segment
records_fence = record {
  append = Some (records.OfLog (log.Fence fence));
  memory = memory.OfCoord fresh_coordinator;
  frames = [];
  notes = [];
  todo = Given (hello fence) 0 ∷ [];
}

-- no answer is kept of a tag below the frame's low
abbrev pub seen_site : Site
seen_site = record { fence = fence; low = 0; kept = retain_keys empty (λ tag. nat_le 0 tag); parked = [] }

abbrev pub heard_coordinator : Coord
heard_coordinator = record { site = seen_site; queue = []; granted = []; acknowledged = []; owes = true; heard = true }

abbrev pub hears : Segment
hears = quiet (memory.OfCoord heard_coordinator) (Proceeds ∷ [])

abbrev pub idle_coordinator : Coord
idle_coordinator = record { site = seen_site; queue = []; granted = []; acknowledged = []; owes = false; heard = true }

abbrev pub welcomes : Segment
welcomes = sends (memory.OfCoord idle_coordinator) (welcome fence) []

is_nil : {A : Type 0} → List A → Bool
is_nil [] = true
is_nil (x ∷ xs) = false

nothing_inside : {A : Type 0} (before : List A) (x : A) (behind : List A) → [] ≡ before ++ x ∷ behind → ⊥
unfolding is_nil
nothing_inside [] x behind e = subst (λ l. T (is_nil l)) e tt
nothing_inside (b ∷ before) x behind e = subst (λ l. T (is_nil l)) e tt

pub nothing_waits : NoneStarts [] []
nothing_waits n is = nothing_inside n.before n.frame n.behind is.is

abbrev pub coordinator_6a : Actor
coordinator_6a = after_segment coordinator_5 records_fence

abbrev pub coordinator_6b : Actor
coordinator_6b = after_segment coordinator_6a hears

abbrev pub coordinator_6 : Actor
coordinator_6 = after_segment coordinator_6b welcomes

abbrev pub v6 : World
v6 = landed (begun w5) 1

abbrev pub w6 : World
w6 = played (played (played v6 1 coordinator_5 records_fence) 1 coordinator_6a hears) 1 coordinator_6b welcomes

pub greets : TurnRun w5 (turn (event.Give 1) (Sent 2 (welcome fence) ∷ [])) w6
unfolding verdict started_of
greets = record {
  told = record { frames = Sent 2 (welcome fence) ∷ []; notes = [] };
  is = (
    record { flying = record { frame = hello fence; event = 0 }; is = got_here _ 1 _ },
    inl (
      ap is_up coordinator_opened,
      record {
        segments = records_fence ∷ hears ∷ welcomes ∷ [];
        left = [];
        middle = w6;
        so_far = record { frames = Sent 2 (welcome fence) ∷ []; notes = [] };
        plays = (
          coordinator_5,
          coordinator_opened,
          ByCoordinator new_coordinator refl refl (coordinator.IsRenewed (hello fence) 0 refl (record { greater = lit< tt; does = refl })),
          (
            coordinator_6a,
            got_here _ 1 _,
            ByCoordinator fresh_coordinator refl refl (coordinator.IsAdmitted (hello fence) 0 refl (record { not_greater = refl; does = refl })),
            (
              coordinator_6b,
              got_here _ 1 _,
              ByCoordinator heard_coordinator refl refl (coordinator.IsWelcomed refl (record { owed = refl; idle = refl; none = nothing_waits; does = refl })),
              (refl, refl, refl),
            ),
          ),
        );
        ends = Whole refl refl refl;
      },
    ),
  );
  remarks = refl;
  moment = refl;
}

abbrev pub greeted_run : Run setup greeted w6
greeted_run = (w5, opened_run, refl, greets)

-- ---- the proxy

abbrev pub proxy_5 : Actor
proxy_5 = after_segment blank counts_start

abbrev pub welcome_proxy : Proxy
welcome_proxy = record (fresh fence) { welcomed = true }

abbrev pub is_welcome : Segment
is_welcome = record { append = None; memory = memory.OfProxy welcome_proxy; frames = []; notes = Verf fence ∷ []; todo = [] }

abbrev pub proxy_7 : Actor
proxy_7 = after_segment proxy_5 is_welcome

abbrev pub v7 : World
v7 = landed (begun w6) 2

abbrev pub w7 : World
w7 = played v7 0 proxy_5 is_welcome

proxy_greeted : get w6.actors 0 ≡ Some proxy_5
proxy_greeted = past_three _ 1 _ _ _ 0 _ refl proxy_opened

pub is_welcomed : TurnRun w6 (turn (event.Give 2) (Verf fence ∷ [])) w7
is_welcomed = record {
  told = record { frames = []; notes = Verf fence ∷ [] };
  is = (
    record { flying = record { frame = welcome fence; event = 1 }; is = got_here _ 2 _ },
    inl (
      ap is_up proxy_greeted,
      record {
        segments = is_welcome ∷ [];
        left = [];
        middle = w7;
        so_far = record { frames = []; notes = Verf fence ∷ [] };
        plays = (
          proxy_5,
          proxy_greeted,
          ByProxy (fresh fence) refl refl (proxy.IsGreeted (welcome fence) 1 refl (record { fence = refl; kind = refl; sender = refl; first = refl; does = refl })),
          (refl, refl, refl),
        );
        ends = Whole refl refl refl;
      },
    ),
  );
  remarks = refl;
  moment = refl;
}

abbrev pub welcomed_run : Run setup welcomed w7
welcomed_run = (w6, greeted_run, refl, is_welcomed)

-- ---- after it

pub proxy_welcomed : get w7.actors 0 ≡ Some proxy_7
proxy_welcomed = got_here _ 0 _

pub coordinator_welcomed : get w7.actors 1 ≡ Some coordinator_6
coordinator_welcomed = got_past _ 0 _ 1 _ refl (got_here _ 1 _)

pub directory_welcomed : get w7.actors 16 ≡ Some (after_segment (after_segment blank reads_cells) makes_root)
directory_welcomed = got_past _ 0 _ 16 _ refl (past_three _ 1 _ _ _ 16 _ refl directory_opened)

pub small_welcomed : get w7.actors 32 ≡ Some (after_segment blank boots)
small_welcomed = got_past _ 0 _ 32 _ refl (past_three _ 1 _ _ _ 32 _ refl small_opened)

pub node_welcomed : get w7.actors 48 ≡ Some (after_segment blank boots)
node_welcomed = got_past _ 0 _ 48 _ refl (past_three _ 1 _ _ _ 48 _ refl node_opened)

pub the_proxy_is_welcomed : TheProxyIsWelcomed
the_proxy_is_welcomed = record {
  world = w7;
  run = welcomed_run;
  empty = empty_disks;
  proxy = (memory.OfProxy welcome_proxy, proxy_welcomed);
  coordinator = (memory.OfCoord idle_coordinator, coordinator_welcomed);
  directory = (memory.OfSite no_site, directory_welcomed);
  small = (memory.OfStore no_store, small_welcomed);
  node = (memory.OfStore no_store, node_welcomed);
}
