-- The proxy stops, and is opened again.
use Rattle.std.proofs.Common.{◌≡◌, ℕ, List, [], ◌∷◌, Some, refl, sym, ap, subst, inl, lit<, nat_lt}
use Rattle.sl_defs.specs.declared.event.Event.TheVariants as event
use Rattle.sl_records.specs.declared.proxy.ProxyRecord.TheVariants as start
use Rattle.sl_history.specs.Turns.{Sent}
use Rattle.sl_machine.specs.Records.{Record}
use Rattle.sl_machine.specs.Records as records
use Rattle.sl_machine.specs.Memory.{Actor}
use Rattle.sl_machine.specs.Memory as memory
use Rattle.sl_machine.specs.World.{World, Opening, Segment, Told, nothing, played, with_actor, stopped_actor, begun}
use Rattle.sl_machine.specs.Proxies.{fresh, hello}
use Rattle.sl_machine.specs.Openings.{settled, WithoutLimbo}
use Rattle.sl_machine.specs.Runs.{TurnRun, Steps, ByOpenedProxy, Whole, is_up, noted_of, done_by}
use Rattle.sl_witness.specs.Histories.{turn, second_fence}
use Rattle.sl_witness.specs.Runs.{AProxyStartsAgain}
use Rattle.sl_witness.proofs.Maps.{got_here}
use Rattle.sl_witness.proofs.Openings.{either_way, no_site, no_store, new_coordinator, w5, opened_run, empty_disks, past_three, proxy_opened, coordinator_opened, directory_opened, small_opened, node_opened}
use Rattle.sl_witness.proofs.Welcomes.{proxy_5}

abbrev w6 : World
w6 = with_actor (begun w5) 0 (stopped_actor proxy_5)

stops : TurnRun w5 (turn (event.Stop 0 0) []) w6
stops = record { told = nothing; is = record { actor = proxy_5; is = proxy_opened; world = refl; noted = refl }; remarks = refl; moment = refl }

abbrev first_start : List Record
first_start = records.OfProxy (start.Start 1) ∷ []

-- a start tells of no effect
nothing_settled : (n : ℕ) → settled n first_start ≡ []
nothing_settled n = either_way (nat_lt n 1) []

abbrev counts_start : Segment
counts_start = record {
  append = Some (records.OfProxy (start.Start 2));
  memory = memory.OfProxy (fresh second_fence);
  frames = hello second_fence ∷ [];
  notes = [];
  todo = [];
}

abbrev down_proxy : Actor
down_proxy = stopped_actor proxy_5

abbrev v7 : World
v7 = with_actor (begun w6) 0 down_proxy

abbrev w7 : World
w7 = played v7 0 down_proxy counts_start

abbrev told_7 : Told
told_7 = record { frames = Sent 2 (hello second_fence) ∷ []; notes = [] }

counts : Steps 0 (Opening ∷ []) v7 nothing w7 told_7
counts = record {
  segments = counts_start ∷ [];
  left = [];
  middle = w7;
  so_far = told_7;
  plays = (down_proxy, got_here _ 0 _, ByOpenedProxy refl refl refl (record { unspent = lit< tt; does = refl }), (refl, refl, refl));
  ends = Whole refl refl refl;
}

starts : TurnRun w6 (turn (event.Start 0) (Sent 2 (hello second_fence) ∷ [])) w7
starts = record {
  told = told_7;
  is = inl (
    ap is_up (got_here {X = Actor} _ 0 down_proxy),
    inl (record {
      actor = down_proxy;
      records = first_start;
      is = got_here _ 0 _;
      down = refl;
      found = WithoutLimbo refl;
      steps = subst (λ rs. Steps 0 (Opening ∷ []) (done_by rs v7) (record { frames = []; notes = rs }) w7 told_7) (sym (nothing_settled (noted_of (begun w6) 0))) counts;
    }),
  );
  remarks = refl;
  moment = refl;
}

pub a_proxy_starts_again : AProxyStartsAgain
a_proxy_starts_again = record {
  world = w7;
  run = (w6, (w5, opened_run, refl, stops), refl, starts);
  empty = empty_disks;
  proxy = (memory.OfProxy (fresh second_fence), got_here _ 0 _);
  coordinator = (memory.OfCoord new_coordinator, past_three _ 0 _ _ _ 1 _ refl coordinator_opened);
  directory = (memory.OfSite no_site, past_three _ 0 _ _ _ 16 _ refl directory_opened);
  small = (memory.OfStore no_store, past_three _ 0 _ _ _ 32 _ refl small_opened);
  node = (memory.OfStore no_store, past_three _ 0 _ _ _ 48 _ refl node_opened);
}
