-- The Hello is lost, and sent again at a tick.
use Rattle.std.proofs.Common.{◌≡◌, [], ◌∷◌, Some, refl, ap, inl}
use Rattle.std.specs.FinMap.{get}
use Rattle.sl_defs.specs.declared.event.Event.TheVariants as event
use Rattle.sl_history.specs.Turns.{Sent}
use Rattle.sl_machine.specs.Records.{started_of}
use Rattle.sl_machine.specs.Memory as memory
use Rattle.sl_machine.specs.World.{World, Segment, Told, nothing, quiet, sends, played, begun, landed}
use Rattle.sl_machine.specs.Coordinators as coordinator
use Rattle.sl_machine.specs.Proxies.{fresh, hello}
use Rattle.sl_machine.specs.Proxies as proxy
use Rattle.sl_machine.specs.Runs.{TurnRun, ByCoordinator, ByProxy, Whole, is_up}
use Rattle.sl_witness.specs.Histories.{fence, turn}
use Rattle.sl_witness.specs.Runs.{AFrameIsLost}
use Rattle.sl_witness.proofs.Maps.{got_here, got_past}
use Rattle.sl_witness.proofs.Openings.{no_site, no_store, new_coordinator, w5, opened_run, empty_disks, proxy_opened, coordinator_opened, directory_opened, small_opened, node_opened}
use Rattle.sl_witness.proofs.Welcomes.{proxy_5, coordinator_5}

abbrev v6 : World
v6 = landed (begun w5) 1

is_lost : TurnRun w5 (turn (event.Drop 1) []) v6
is_lost = record { told = nothing; is = (record { flying = record { frame = hello fence; event = 0 }; is = got_here _ 1 _ }, (refl, refl)); remarks = refl; moment = refl }

abbrev hello_again : Segment
hello_again = sends (memory.OfProxy (fresh fence)) (hello fence) []

abbrev nothing_again : Segment
nothing_again = quiet (memory.OfCoord new_coordinator) []

abbrev u7 : World
u7 = played (begun v6) 0 proxy_5 hello_again

abbrev v7 : World
v7 = played u7 1 coordinator_5 nothing_again

abbrev told_again : Told
told_again = record { frames = Sent 2 (hello fence) ∷ []; notes = [] }

is_sent_again : TurnRun v6 (turn event.Tick (Sent 2 (hello fence) ∷ [])) v7
unfolding started_of
is_sent_again = record {
  told = told_again;
  is = record {
    middle = u7;
    so_far = told_again;
    proxy = inl (
      ap is_up proxy_opened,
      record {
        segments = hello_again ∷ [];
        left = [];
        middle = u7;
        so_far = told_again;
        plays = (proxy_5, proxy_opened, ByProxy (fresh fence) refl refl (proxy.IsSentAgain refl (record { does = refl })), (refl, refl, refl));
        ends = Whole refl refl refl;
      },
    );
    coordinator = inl (
      ap is_up coordinator_there,
      record {
        segments = nothing_again ∷ [];
        left = [];
        middle = v7;
        so_far = told_again;
        plays = (coordinator_5, coordinator_there, ByCoordinator new_coordinator refl refl (coordinator.IsSentAgain refl (record { does = refl })), (refl, refl, refl));
        ends = Whole refl refl refl;
      },
    );
  };
  remarks = refl;
  moment = refl;
}
  where
    coordinator_there : get u7.actors 1 ≡ Some coordinator_5
    coordinator_there = got_past _ 0 _ 1 _ refl coordinator_opened

pub a_frame_is_lost : AFrameIsLost
a_frame_is_lost = record {
  world = v7;
  run = (v6, (w5, opened_run, refl, is_lost), refl, is_sent_again);
  empty = empty_disks;
  proxy = (memory.OfProxy (fresh fence), got_past _ 1 _ 0 _ refl (got_here _ 0 _));
  coordinator = (memory.OfCoord new_coordinator, got_here _ 1 _);
  directory = (memory.OfSite no_site, got_past _ 1 _ 16 _ refl (got_past _ 0 _ 16 _ refl directory_opened));
  small = (memory.OfStore no_store, got_past _ 1 _ 32 _ refl (got_past _ 0 _ 32 _ refl small_opened));
  node = (memory.OfStore no_store, got_past _ 1 _ 48 _ refl (got_past _ 0 _ 48 _ refl node_opened));
}
