-- The record of a call is cut and isn't found: the call is done when its request is sent again.
use Rattle.std.proofs.Common.{◌≡◌, ℕ, false, nat_le, [], ◌∷◌, is_some, Option, Some, None, refl, sym, ap, subst, ◌∙◌, inl, unwrap_or}
use Rattle.std.specs.Ordering.{nat_cmp, eq_by_cmp}
use Rattle.std.specs.FinMap.{empty, get, retain_keys, get-retain_keys}
use Rattle.sl_defs.specs.declared.event.Event.TheVariants as event
use Rattle.sl_history.specs.Placing.{carrier}
use Rattle.sl_history.specs.Turns.{Sent, Did, Replied}
use Rattle.sl_machine.specs.Records.{started_of, locked_in, last_finished, cells_of}
use Rattle.sl_machine.specs.Memory.{Site, Waiting, Proxy, Actor, low_among}
use Rattle.sl_machine.specs.Memory as memory
use Rattle.sl_machine.specs.World.{World, Opening, Founds, Wakes, Segment, Told, nothing, quiet, scene, played, with_actor, after_segment, begun, landed}
use Rattle.sl_machine.specs.Verdicts.{verdict, Answers, for_directory, kept_or, keeping}
use Rattle.sl_machine.specs.Directories.{by_verdict, serves}
use Rattle.sl_machine.specs.Directories as directory
use Rattle.sl_machine.specs.Coordinators as coordinator
use Rattle.sl_machine.specs.Packets.{reply_in}
use Rattle.sl_machine.specs.Proxies.{still, notes, by_packet_if, wakes, ready_among, first_ready, frames_again}
use Rattle.sl_machine.specs.Proxies as proxy
use Rattle.sl_machine.specs.Openings.{settled, WithoutLimbo}
use Rattle.sl_machine.specs.Runs.{TurnRun, Steps, Starts, ByDirectory, ByProxy, ByCoordinator, ByOpenedDirectory, Whole, is_up, done_by, with_notes}
use Rattle.sl_witness.specs.Histories.{epoch, fence, turn, change_reply, change, done, no_fileid}
use Rattle.sl_witness.specs.Runs.{ALostCallIsDone}
use Rattle.sl_witness.proofs.Maps.{got_here, got_past, got_none}
use Rattle.sl_witness.proofs.Openings.{no_store, empty_disks, past_two, past_three}
use Rattle.sl_witness.proofs.Welcomes.{idle_coordinator, coordinator_6, w7, welcomed_run, coordinator_welcomed, small_welcomed, node_welcomed}
use Rattle.sl_witness.proofs.Packets.{with_calls}
use Rattle.sl_witness.proofs.Forwards.{le_same_key}
use Rattle.sl_witness.proofs.Changes.{server_is_asked, is_read}
use Rattle.sl_witness.proofs.Does.{m5, m6, ordering, second_request, proxy_10, does, serves_change, has_cell, records_9, w8, w9, w10, is_asked, is_told, is_ordered}
use Rattle.sl_history.specs.Arrivals.{asked_in}
use Rattle.sl_witness.proofs.Cuts.{cut_server, x11, is_cut, were_noted, again, does_again, nothing_again, proxy_13, replies, rests, does_rest}

-- ---- the server is opened, and the record isn't there

abbrev opened_server : Actor
opened_server = record { memory = None; records = records_9; limbo = None }

abbrev site_12 : Site
site_12 = record { fence = fence; low = 0; kept = empty; parked = [] }

abbrev reads : Segment
reads = quiet (memory.OfSite site_12) (Founds ∷ [])

abbrev is_there : Segment
is_there = quiet (memory.OfSite site_12) []

abbrev v12 : World
v12 = with_actor (begun x11) 16 opened_server

abbrev server_12a : Actor
server_12a = after_segment opened_server reads

abbrev server_12 : Actor
server_12 = after_segment server_12a is_there

abbrev x12 : World
x12 = played (played v12 16 opened_server reads) 16 server_12a is_there

opens_again : Steps 16 (Opening ∷ []) v12 nothing x12 nothing
unfolding carrier
opens_again = record {
  segments = reads ∷ is_there ∷ [];
  left = [];
  middle = x12;
  so_far = nothing;
  plays = (
    opened_server,
    got_here _ 16 _,
    ByOpenedDirectory refl refl refl (record {
      site = site_12;
      restored = record { fence = refl; low = refl; kept = λ tag h. got_none tag; gone = λ tag h. got_none tag; parked = refl };
      does = refl;
    }),
    (
      server_12a,
      got_here _ 16 _,
      ByDirectory site_12 refl refl (directory.IsOpen refl (record { undue = refl; does = refl })),
      (refl, refl, refl),
    ),
  );
  ends = Whole refl refl refl;
}

starts_again : Starts 16 (begun x11) nothing x12 nothing
starts_again = inl (record {
  actor = cut_server;
  records = records_9;
  is = got_here _ 16 _;
  down = refl;
  found = WithoutLimbo refl;
  steps =
      subst (λ n. Steps 16 (Opening ∷ []) (done_by (settled n records_9) v12) (with_notes (settled n records_9) nothing) x12 nothing)
      (sym were_noted) opens_again;
})

is_not_found : TurnRun x11 (turn (event.Start 16) []) x12
is_not_found = record {
  told = nothing;
  is = inl (ap is_up (got_here {X = Actor} _ 16 cut_server), starts_again);
  remarks = refl;
  moment = refl;
}

-- ---- the request is sent again

abbrev u13 : World
u13 = played (begun x12) 0 proxy_10 again

abbrev x13 : World
x13 = played u13 1 coordinator_6 nothing_again

abbrev told_13 : Told
told_13 = record { frames = Sent 6 change ∷ []; notes = [] }

proxy_waits : get x12.actors 0 ≡ Some proxy_10
proxy_waits = past_three _ 16 _ _ _ 0 _ refl (got_past _ 16 _ 0 _ refl (got_here _ 0 _))

-- the coordinator and the data servers are what they were at the Welcome
past_all : (i : ℕ) (r : Option Actor) → eq_by_cmp nat_cmp i 0 ≡ false → eq_by_cmp nat_cmp i 16 ≡ false → get w7.actors i ≡ r → get x12.actors i ≡ r
past_all i r a b e = past_three _ 16 _ _ _ i _ b (got_past _ 16 _ i _ b (past_two _ 0 _ _ i _ a (past_two _ 16 _ _ i _ b (past_three _ 0 _ _ _ i _ a e))))

coordinator_there : get u13.actors 1 ≡ Some coordinator_6
coordinator_there = got_past _ 0 _ 1 _ refl (past_all 1 _ refl refl coordinator_welcomed)

is_sent_again : TurnRun x12 (turn event.Tick (Sent 6 change ∷ [])) x13
unfolding started_of
is_sent_again = record {
  told = told_13;
  is = record {
    middle = u13;
    so_far = told_13;
    proxy = inl (
      ap is_up proxy_waits,
      record {
        segments = again ∷ [];
        left = [];
        middle = u13;
        so_far = told_13;
        plays = (proxy_10, proxy_waits, ByProxy (with_calls m5 3) refl refl (proxy.IsSentAgain refl (record { does = does_again })), (refl, refl, refl));
        ends = Whole refl refl refl;
      },
    );
    coordinator = inl (
      ap is_up coordinator_there,
      record {
        segments = nothing_again ∷ [];
        left = [];
        middle = x13;
        so_far = told_13;
        plays = (coordinator_6, coordinator_there, ByCoordinator idle_coordinator refl refl (coordinator.IsSentAgain refl (record { does = refl })), (refl, refl, refl));
        ends = Whole refl refl refl;
      },
    );
  };
  remarks = refl;
  moment = refl;
}

-- ---- the call is done

abbrev site_14 : Site
site_14 = record { fence = fence; low = 2; kept = retain_keys empty (λ tag. nat_le 2 tag); parked = [] }

change_is_answered : verdict for_directory (locked_in records_9) (last_finished records_9) site_14 change ≡ Answers
unfolding verdict locked_in last_finished
change_is_answered = ap (λ o. kept_or o Answers) (get-retain_keys empty (λ tag. nat_le 2 tag) 2 (le_same_key 2 2) ∙ got_none 2)

abbrev v14 : World
v14 = landed (begun x13) 6

abbrev x14 : World
x14 = played v14 16 server_12 (does site_14)

abbrev told_14 : Told
told_14 = record { frames = Sent 7 done ∷ []; notes = Did 3 epoch no_fileid ∷ [] }

does_anew : does site_14 ≡ directory.admits (scene v14 16) server_12 site_14 change
does_anew = sym (
    ap (by_verdict (scene v14 16) server_12 site_14 change) change_is_answered
    ∙ (ap (λ d. serves (scene v14 16) site_14 change 0 (cells_of records_9) (asked_in d)) server_is_asked ∙ serves_change 9 v14.done_in site_14 (cells_of records_9) has_cell))

server_there : get x13.actors 16 ≡ Some server_12
server_there = got_past _ 1 _ 16 _ refl (got_past _ 0 _ 16 _ refl (got_here _ 16 _))

is_answered : TurnRun x13 (turn (event.Give 6) (Sent 7 done ∷ Did 3 epoch no_fileid ∷ [])) x14
is_answered = record {
  told = told_14;
  is = (
    record { flying = record { frame = change; event = 8 }; is = got_here _ 6 _ },
    inl (
      ap is_up server_there,
      record {
        segments = does site_14 ∷ [];
        left = [];
        middle = x14;
        so_far = told_14;
        plays = (
          server_12,
          server_there,
          ByDirectory site_12 refl refl (directory.IsAdmitted change 8 refl (record { not_greater = refl; does = does_anew })),
          (refl, refl, refl),
        );
        ends = Whole refl refl refl;
      },
    ),
  );
  remarks = refl;
  moment = refl;
}

-- ---- the proxy replies

abbrev v15 : World
v15 = landed (begun x14) 7

abbrev proxy_15a : Actor
proxy_15a = after_segment proxy_13 (replies 9)

abbrev x15 : World
x15 = played (played v15 0 proxy_13 (replies 9)) 0 proxy_15a rests

does_reply : replies 9 ≡ by_packet_if (scene v15 0) (with_calls m5 3) 3 ordering 9 16 (reply_in 2 (change_reply 2))
does_reply = sym (
    ap (by_packet_if (scene v15 0) (with_calls m5 3) 3 ordering 9 16) is_read
    ∙ ap (λ o. notes (with_calls m6 3) (Replied 3 (unwrap_or o 10) (change_reply 7) ∷ []) (Wakes ∷ [])) (got_here empty 3 9))

proxy_there : get x14.actors 0 ≡ Some proxy_13
proxy_there = got_past _ 16 _ 0 _ refl (got_past _ 1 _ 0 _ refl (got_here _ 0 _))

abbrev told_15 : Told
told_15 = record { frames = []; notes = Replied 3 9 (change_reply 7) ∷ [] }

is_replied : TurnRun x14 (turn (event.Give 7) (Replied 3 9 (change_reply 7) ∷ [])) x15
is_replied = record {
  told = told_15;
  is = (
    record { flying = record { frame = done; event = 9 }; is = got_here _ 7 _ },
    inl (
      ap is_up proxy_there,
      record {
        segments = replies 9 ∷ rests ∷ [];
        left = [];
        middle = x15;
        so_far = told_15;
        plays = (
          proxy_13,
          proxy_there,
          ByProxy (with_calls m5 3) refl refl (proxy.IsUsed done 9 refl (record {
            uses = record { arrival = 3; waiting = ordering; request = second_request; is = got_here _ 3 _; out = refl; tag = refl; fence = refl; sender = refl; answer = ap is_some is_read };
            unbroken = refl;
            does = does_reply;
          })),
          (
            proxy_15a,
            got_here _ 0 _,
            ByProxy (with_calls m6 3) refl refl (proxy.IsWaking refl (record { does = does_rest })),
            (refl, refl, refl),
          ),
        );
        ends = Whole refl refl refl;
      },
    ),
  );
  remarks = refl;
  moment = refl;
}

past_rest : (i : ℕ) (r : Option Actor) → eq_by_cmp nat_cmp i 0 ≡ false → eq_by_cmp nat_cmp i 1 ≡ false → eq_by_cmp nat_cmp i 16 ≡ false → get w7.actors i ≡ r → get x15.actors i ≡ r
past_rest i r a b c e = past_two _ 0 _ _ i _ a (got_past _ 16 _ i _ c (got_past _ 1 _ i _ b (got_past _ 0 _ i _ a (past_all i r a c e))))

pub a_lost_call_is_done : ALostCallIsDone
a_lost_call_is_done = record {
  world = x15;
  run = (x14, (x13, (x12, (x11, (w10, (w9, (w8, (w7, welcomed_run, refl, is_asked), refl, is_told), refl, is_ordered), refl, is_cut), refl, is_not_found), refl, is_sent_again), refl, is_answered), refl, is_replied);
  empty = empty_disks;
  proxy = (memory.OfProxy (with_calls m6 3), got_here _ 0 _);
  coordinator = (memory.OfCoord idle_coordinator, past_two _ 0 _ _ 1 _ refl (got_past _ 16 _ 1 _ refl (got_here _ 1 _)));
  directory = (memory.OfSite (keeping 2 done site_14), past_two _ 0 _ _ 16 _ refl (got_here _ 16 _));
  small = (memory.OfStore no_store, past_rest 32 _ refl refl refl small_welcomed);
  node = (memory.OfStore no_store, past_rest 48 _ refl refl refl node_welcomed);
}
