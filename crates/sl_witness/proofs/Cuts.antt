-- The record of a call is cut and found again: the call is done once.
use Rattle.std.proofs.Common.{◌≡◌, ℕ, ◌<◌, ◌==◌, Bool, true, false, cond, nat_le, List, [], ◌∷◌, is_some, Option, Some, None, refl, sym, ap, subst, ◌∙◌, inl, arith, unwrap_or}
use Rattle.std.specs.Ordering.{nat_cmp, eq_by_cmp}
use Rattle.std.specs.Cmp.{nat_cmp_total}
use Rattle.std.specs.FinMap.{FinMap, empty, get, insert, retain_keys, entries, get-insert, get-retain_keys}
use Rattle.sl_defs.specs.declared.event.Event.TheVariants as event
use Rattle.sl_records.specs.declared.directory.DirRecord.TheVariants as dir
use Rattle.sl_frames.specs.declared.frame.Frame.{Frame}
use Rattle.sl_history.specs.Frames.{or_else}
use Rattle.sl_history.specs.Placing.{carrier}
use Rattle.sl_history.specs.Turns.{Sent, Did, Replied, Down}
use Rattle.sl_machine.specs.Records.{Record, started_of, locked_in, last_finished, root_cell}
use Rattle.sl_machine.specs.Records as records
use Rattle.sl_machine.specs.Memory.{Site, Waiting, Proxy, Actor, low_among}
use Rattle.sl_machine.specs.Memory as memory
use Rattle.sl_machine.specs.World.{World, Given, Opening, Founds, Wakes, Segment, Told, nothing, quiet, sends, scene, played, with_actor, cut_actor, after_segment, begun, landed}
use Rattle.sl_machine.specs.Verdicts.{verdict, Answers, IsKept, for_directory, kept_or}
use Rattle.sl_machine.specs.Directories.{by_verdict}
use Rattle.sl_machine.specs.Directories as directory
use Rattle.sl_machine.specs.Coordinators as coordinator
use Rattle.sl_machine.specs.Packets.{reply_in}
use Rattle.sl_machine.specs.Proxies.{still, notes, by_packet_if, wakes, ready_among, first_ready, frames_again}
use Rattle.sl_machine.specs.Proxies as proxy
use Rattle.sl_machine.specs.Openings.{settled, WithLimbo, RestoredSite}
use Rattle.sl_machine.specs.Runs.{TurnRun, Steps, Starts, ByDirectory, ByProxy, ByCoordinator, ByOpenedDirectory, Whole, Faulted, is_up, noted_of, done_by, with_notes}
use Rattle.sl_witness.specs.Histories.{epoch, fence, turn, change_reply, change, done, no_fileid}
use Rattle.sl_witness.specs.Runs.{ACutCallIsDone, did}
use Rattle.sl_witness.proofs.Maps.{same_key, got_here, got_past, got_none}
use Rattle.sl_witness.proofs.Openings.{no_store, empty_disks, past_two, past_three}
use Rattle.sl_witness.proofs.Welcomes.{idle_coordinator, coordinator_6, w7, welcomed_run, coordinator_welcomed, small_welcomed, node_welcomed}
use Rattle.sl_witness.proofs.Packets.{with_calls}
use Rattle.sl_witness.proofs.Forwards.{le_same_key, entries_gone}
use Rattle.sl_witness.proofs.Changes.{is_read}
use Rattle.sl_witness.proofs.Does.{m5, m6, ordering, second_request, entries_m5, proxy_10, server_9, site_9, site_11, does, does_it, records_9, server_waits, w8, w9, w10, v11, is_asked, is_told, is_ordered}

-- ---- the append is cut

abbrev the_record : Record
the_record = records.OfDir (dir.Did did)

abbrev pub cut_server : Actor
cut_server = cut_actor server_9 the_record

abbrev pub x11 : World
x11 = with_actor v11 16 cut_server

abbrev told_11 : Told
told_11 = record { frames = []; notes = Down 16 ∷ [] }

pub is_cut : TurnRun w10 (turn (event.Give 5) (Down 16 ∷ [])) x11
is_cut = record {
  told = told_11;
  is = (
    record { flying = record { frame = change; event = 5 }; is = got_here _ 5 _ },
    inl (
      ap is_up server_waits,
      record {
        segments = [];
        left = Given change 5 ∷ [];
        middle = v11;
        so_far = nothing;
        plays = (refl, refl, refl);
        ends = Faulted (record {
          actor = server_9;
          task = Given change 5;
          rest = [];
          segment = does site_11;
          cut = the_record;
          next = refl;
          is = server_waits;
          may = ByDirectory site_9 refl refl (directory.IsAdmitted change 5 refl (record { not_greater = refl; does = does_it }));
          append = refl;
          world = refl;
          noted = refl;
        });
      },
    ),
  );
  remarks = refl;
  moment = refl;
}

-- ---- the server is opened, and the record is there

abbrev found_records : List Record
found_records = the_record ∷ records_9

abbrev opened_server : Actor
opened_server = record { memory = None; records = found_records; limbo = None }

abbrev kept_12 : FinMap nat_cmp Frame
kept_12 = insert empty 2 done

abbrev site_12 : Site
site_12 = record { fence = fence; low = 2; kept = kept_12; parked = [] }

two_tests : (tag : ℕ) (b c : Bool) → eq_by_cmp nat_cmp tag 2 ≡ b → (2 == tag) ≡ c → cond b (Some done) None ≡ or_else (cond c (Some (record done { tag = tag })) None) None
two_tests tag true true p q = ap (λ t. Some (record done { tag = t })) (sym (same_key tag 2 p))
two_tests tag false false p q = refl
two_tests tag true false p q = absurd (grind arith)
two_tests tag false true p q = absurd (grind arith)

is_kept : (tag : ℕ) → get kept_12 tag ≡ or_else (cond (2 == tag) (Some (record done { tag = tag })) None) None
is_kept tag = get-insert nat_cmp_total empty 2 done tag ∙ (ap (λ o. cond (eq_by_cmp nat_cmp tag 2) (Some done) o) (got_none tag) ∙ two_tests tag (eq_by_cmp nat_cmp tag 2) (2 == tag) refl refl)

below_apart : (tag : ℕ) → tag < 2 → eq_by_cmp nat_cmp tag 2 ≡ false
below_apart tag h = grind arith

restores : RestoredSite 16 found_records site_12
restores = record {
  fence = refl;
  low = refl;
  kept = λ tag h. is_kept tag;
  gone = λ tag h. got_past empty 2 done tag None (below_apart tag h) (got_none tag);
  parked = refl;
}

abbrev reads : Segment
reads = quiet (memory.OfSite site_12) (Founds ∷ [])

abbrev is_there : Segment
is_there = quiet (memory.OfSite site_12) []

abbrev v12 : World
v12 = done_by (Did 3 epoch no_fileid ∷ []) (with_actor (begun x11) 16 opened_server)

abbrev server_12a : Actor
server_12a = after_segment opened_server reads

abbrev server_12 : Actor
server_12 = after_segment server_12a is_there

abbrev x12 : World
x12 = played (played v12 16 opened_server reads) 16 server_12a is_there

abbrev told_12 : Told
told_12 = record { frames = []; notes = Did 3 epoch no_fileid ∷ [] }

opens_again : Steps 16 (Opening ∷ []) v12 told_12 x12 told_12
unfolding carrier
opens_again = record {
  segments = reads ∷ is_there ∷ [];
  left = [];
  middle = x12;
  so_far = told_12;
  plays = (
    opened_server,
    got_here _ 16 _,
    ByOpenedDirectory refl refl refl (record { site = site_12; restored = restores; does = refl }),
    (
      server_12a,
      got_here _ 16 _,
      ByDirectory site_12 refl refl (directory.IsOpen refl (record { undue = refl; does = refl })),
      (refl, refl, refl),
    ),
  );
  ends = Whole refl refl refl;
}

pub were_noted : noted_of (begun x11) 16 ≡ 2
were_noted = ap (λ o. unwrap_or o 0) (past_noted _ 0 _ _ 16 _ refl (got_here _ 16 2))
  where
    past_noted : (m : FinMap nat_cmp ℕ) (k x y q : ℕ) (r : Option ℕ) → eq_by_cmp nat_cmp q k ≡ false → get m q ≡ r → get (insert (insert m k x) k y) q ≡ r
    past_noted m k x y q r apart e = got_past _ k y q r apart (got_past m k x q r apart e)

starts_again : Starts 16 (begun x11) nothing x12 told_12
starts_again = inl (record {
  actor = cut_server;
  records = found_records;
  is = got_here _ 16 _;
  down = refl;
  found = WithLimbo the_record refl refl;
  steps =
      subst (λ n. Steps 16 (Opening ∷ []) (done_by (settled n found_records) (with_actor (begun x11) 16 opened_server)) (with_notes (settled n found_records) nothing) x12 told_12)
      (sym were_noted) opens_again;
})

is_found : TurnRun x11 (turn (event.Start 16) (Did 3 epoch no_fileid ∷ [])) x12
is_found = record {
  told = told_12;
  is = inl (ap is_up (got_here {X = Actor} _ 16 cut_server), starts_again);
  remarks = refl;
  moment = refl;
}

-- ---- the request is sent again

abbrev pub again : Segment
again = sends (memory.OfProxy (with_calls m5 3)) change []

pub does_again : again ≡ record { append = None; memory = memory.OfProxy (with_calls m5 3); frames = frames_again (with_calls m5 3) (entries m5); notes = []; todo = [] }
does_again = sym (
    ap (λ es. record { append = None; memory = memory.OfProxy (with_calls m5 3); frames = frames_again (with_calls m5 3) es; notes = []; todo = [] }) entries_m5
    ∙ ap (λ es. sends (memory.OfProxy (with_calls m5 3)) (record change { low = low_among es 3 }) []) entries_m5)

abbrev pub nothing_again : Segment
nothing_again = quiet (memory.OfCoord idle_coordinator) []

abbrev u13 : World
u13 = played (begun x12) 0 proxy_10 again

abbrev pub proxy_13 : Actor
proxy_13 = after_segment proxy_10 again

abbrev x13 : World
x13 = played u13 1 coordinator_6 nothing_again

abbrev told_13 : Told
told_13 = record { frames = Sent 6 change ∷ []; notes = [] }

proxy_waits : get x12.actors 0 ≡ Some proxy_10
proxy_waits = past_three _ 16 _ _ _ 0 _ refl (got_past _ 16 _ 0 _ refl (got_here _ 0 _))

-- the coordinator and the data servers are what they were at the Welcome
past_all : (i : ℕ) (r : Option Actor) → eq_by_cmp nat_cmp i 0 ≡ false → eq_by_cmp nat_cmp i 16 ≡ false → get w7.actors i ≡ r → get x12.actors i ≡ r
past_all i r a b e = past_three _ 16 _ _ _ i _ b (got_past _ 16 _ i _ b (past_two _ 0 _ _ i _ a (past_two _ 16 _ _ i _ b (past_three _ 0 _ _ _ i _ a e))))

coordinator_there : get u13.actors 1 ≡ Some coordinator_6
coordinator_there = got_past _ 0 _ 1 _ refl (past_all 1 _ refl refl coordinator_welcomed)

is_sent_again : TurnRun x12 (turn event.Tick (Sent 6 change ∷ [])) x13
unfolding started_of
is_sent_again = record {
  told = told_13;
  is = record {
    middle = u13;
    so_far = told_13;
    proxy = inl (
      ap is_up proxy_waits,
      record {
        segments = again ∷ [];
        left = [];
        middle = u13;
        so_far = told_13;
        plays = (proxy_10, proxy_waits, ByProxy (with_calls m5 3) refl refl (proxy.IsSentAgain refl (record { does = does_again })), (refl, refl, refl));
        ends = Whole refl refl refl;
      },
    );
    coordinator = inl (
      ap is_up coordinator_there,
      record {
        segments = nothing_again ∷ [];
        left = [];
        middle = x13;
        so_far = told_13;
        plays = (coordinator_6, coordinator_there, ByCoordinator idle_coordinator refl refl (coordinator.IsSentAgain refl (record { does = refl })), (refl, refl, refl));
        ends = Whole refl refl refl;
      },
    );
  };
  remarks = refl;
  moment = refl;
}

-- ---- the kept answer is sent

abbrev site_14 : Site
site_14 = record { fence = fence; low = 2; kept = retain_keys kept_12 (λ tag. nat_le 2 tag); parked = [] }

abbrev kept_answer : Segment
kept_answer = sends (memory.OfSite site_14) done []

change_is_kept : verdict for_directory (locked_in found_records) (last_finished found_records) site_14 change ≡ IsKept done
unfolding verdict locked_in last_finished
change_is_kept = ap (λ o. kept_or o Answers) (get-retain_keys kept_12 (λ tag. nat_le 2 tag) 2 (le_same_key 2 2) ∙ got_here empty 2 done)

abbrev v14 : World
v14 = landed (begun x13) 6

abbrev x14 : World
x14 = played v14 16 server_12 kept_answer

abbrev told_14 : Told
told_14 = record { frames = Sent 7 done ∷ []; notes = [] }

does_keep : kept_answer ≡ directory.admits (scene v14 16) server_12 site_14 change
does_keep = sym (ap (by_verdict (scene v14 16) server_12 site_14 change) change_is_kept)

server_there : get x13.actors 16 ≡ Some server_12
server_there = got_past _ 1 _ 16 _ refl (got_past _ 0 _ 16 _ refl (got_here _ 16 _))

is_answered : TurnRun x13 (turn (event.Give 6) (Sent 7 done ∷ [])) x14
is_answered = record {
  told = told_14;
  is = (
    record { flying = record { frame = change; event = 8 }; is = got_here _ 6 _ },
    inl (
      ap is_up server_there,
      record {
        segments = kept_answer ∷ [];
        left = [];
        middle = x14;
        so_far = told_14;
        plays = (
          server_12,
          server_there,
          ByDirectory site_12 refl refl (directory.IsAdmitted change 8 refl (record { not_greater = refl; does = does_keep })),
          (refl, refl, refl),
        );
        ends = Whole refl refl refl;
      },
    ),
  );
  remarks = refl;
  moment = refl;
}

-- ---- the proxy replies

abbrev pub replies : ℕ → Segment
replies e = notes (with_calls m6 3) (Replied 3 e (change_reply 7) ∷ []) (Wakes ∷ [])

abbrev pub rests : Segment
rests = still (with_calls m6 3) []

pub does_rest : rests ≡ wakes (with_calls m6 3) (first_ready (with_calls m6 3))
does_rest = sym (ap (λ es. wakes (with_calls m6 3) (ready_among (with_calls m6 3) es)) (entries_gone m5 ordering entries_m5))

abbrev v15 : World
v15 = landed (begun x14) 7

abbrev proxy_15a : Actor
proxy_15a = after_segment proxy_13 (replies 7)

abbrev x15 : World
x15 = played (played v15 0 proxy_13 (replies 7)) 0 proxy_15a rests

does_reply : replies 7 ≡ by_packet_if (scene v15 0) (with_calls m5 3) 3 ordering 9 16 (reply_in 2 (change_reply 2))
does_reply = sym (
    ap (by_packet_if (scene v15 0) (with_calls m5 3) 3 ordering 9 16) is_read
    ∙ ap (λ o. notes (with_calls m6 3) (Replied 3 (unwrap_or o 10) (change_reply 7) ∷ []) (Wakes ∷ [])) (got_here empty 3 7))

proxy_there : get x14.actors 0 ≡ Some proxy_13
proxy_there = got_past _ 16 _ 0 _ refl (got_past _ 1 _ 0 _ refl (got_here _ 0 _))

abbrev told_15 : Told
told_15 = record { frames = []; notes = Replied 3 7 (change_reply 7) ∷ [] }

is_replied : TurnRun x14 (turn (event.Give 7) (Replied 3 7 (change_reply 7) ∷ [])) x15
is_replied = record {
  told = told_15;
  is = (
    record { flying = record { frame = done; event = 9 }; is = got_here _ 7 _ },
    inl (
      ap is_up proxy_there,
      record {
        segments = replies 7 ∷ rests ∷ [];
        left = [];
        middle = x15;
        so_far = told_15;
        plays = (
          proxy_13,
          proxy_there,
          ByProxy (with_calls m5 3) refl refl (proxy.IsUsed done 9 refl (record {
            uses = record { arrival = 3; waiting = ordering; request = second_request; is = got_here _ 3 _; out = refl; tag = refl; fence = refl; sender = refl; answer = ap is_some is_read };
            unbroken = refl;
            does = does_reply;
          })),
          (
            proxy_15a,
            got_here _ 0 _,
            ByProxy (with_calls m6 3) refl refl (proxy.IsWaking refl (record { does = does_rest })),
            (refl, refl, refl),
          ),
        );
        ends = Whole refl refl refl;
      },
    ),
  );
  remarks = refl;
  moment = refl;
}

past_rest : (i : ℕ) (r : Option Actor) → eq_by_cmp nat_cmp i 0 ≡ false → eq_by_cmp nat_cmp i 1 ≡ false → eq_by_cmp nat_cmp i 16 ≡ false → get w7.actors i ≡ r → get x15.actors i ≡ r
past_rest i r a b c e = past_two _ 0 _ _ i _ a (got_past _ 16 _ i _ c (got_past _ 1 _ i _ b (got_past _ 0 _ i _ a (past_all i r a c e))))

pub a_cut_call_is_done : ACutCallIsDone
a_cut_call_is_done = record {
  world = x15;
  run = (x14, (x13, (x12, (x11, (w10, (w9, (w8, (w7, welcomed_run, refl, is_asked), refl, is_told), refl, is_ordered), refl, is_cut), refl, is_found), refl, is_sent_again), refl, is_answered), refl, is_replied);
  empty = empty_disks;
  proxy = (memory.OfProxy (with_calls m6 3), got_here _ 0 _);
  coordinator = (memory.OfCoord idle_coordinator, past_two _ 0 _ _ 1 _ refl (got_past _ 16 _ 1 _ refl (got_here _ 1 _)));
  directory = (memory.OfSite site_14, past_two _ 0 _ _ 16 _ refl (got_here _ 16 _));
  small = (memory.OfStore no_store, past_rest 32 _ refl refl refl small_welcomed);
  node = (memory.OfStore no_store, past_rest 48 _ refl refl refl node_welcomed);
}
