-- The directory server answers the GETATTR, and the proxy replies.
use Rattle.std.proofs.Common.{◌≡◌, nat_le, List, [], ◌∷◌, is_some, Some, refl, sym, ap, ◌∙◌, inl, lit<}
use Rattle.std.specs.Ordering.{nat_cmp}
use Rattle.std.specs.FinMap.{FinMap, empty, get, remove, retain_keys}
use Rattle.sl_defs.specs.Items.{u32_text, u64_text, u32_at, u64_at}
use Rattle.sl_defs.specs.Rpc.{zero_at}
use Rattle.sl_defs.specs.declared.event.Event.TheVariants as event
use Rattle.sl_types.specs.Handles.{form_text, form_at, magic_at, internal_of}
use Rattle.sl_records.specs.declared.directory.DirRecord.TheVariants as dir
use Rattle.sl_frames.specs.declared.body.Body.TheVariants as body
use Rattle.sl_model.specs.Gathered.{effect_from}
use Rattle.sl_model.specs.Procedures.{fault}
use Rattle.sl_history.specs.Turns.{Sent, Replied}
use Rattle.sl_history.specs.Arrivals.{asked_in, answer_to}
use Rattle.sl_machine.specs.Records.{Record, Cells, cells_of, locked_in, last_finished, root_cell}
use Rattle.sl_machine.specs.Records as records
use Rattle.sl_machine.specs.Memory.{Site, Request, Waiting, Proxy, Actor, low_among}
use Rattle.sl_machine.specs.Memory as memory
use Rattle.sl_machine.specs.World.{World, Given, Wakes, Segment, Told, sends, scene, played, after_segment, begun, landed}
use Rattle.sl_machine.specs.Packets.{with_object, inner_object}
use Rattle.sl_machine.specs.Verdicts.{verdict, Answers, for_directory, kept_or}
use Rattle.sl_machine.specs.Directories.{by_verdict, serves, admits}
use Rattle.sl_machine.specs.Directories as directory
use Rattle.sl_machine.specs.Proxies.{still, notes, with_call, arrives, does_want, request, asks, with_request, by_packet_if, wakes, ready_among, first_ready}
use Rattle.sl_machine.specs.Proxies as proxy
use Rattle.sl_machine.specs.Runs.{TurnRun, ByDirectory, ByProxy, Whole, is_up}
use Rattle.sl_witness.specs.Histories.{fence, turn, root_handle, root_reply, forward, packet}
use Rattle.sl_witness.specs.Runs.{ACallIsReplied}
use Rattle.sl_witness.proofs.Maps.{got_here}
use Rattle.sl_witness.proofs.Openings.{blank, reads_cells, makes_root, no_site, no_store, empty_disks, past_two, past_three}
use Rattle.sl_witness.proofs.Welcomes.{idle_coordinator, coordinator_welcomed, directory_welcomed, small_welcomed, node_welcomed}
use Rattle.sl_witness.proofs.Packets.{server_asked, server_is_asked, with_calls, has_root, is_read}
use Rattle.sl_types.specs.declared.call.Call.TheVariants as call
use Rattle.sl_machine.specs.Packets.{reply_in}
use Rattle.sl_witness.proofs.Forwards.{none_kept, entries_gone, m3, out, asking, entries_m3, proxy_8, w8, forwarded_run}

-- ---- the directory server answers

abbrev server_5 : Actor
server_5 = after_segment (after_segment blank reads_cells) makes_root

abbrev renews : Segment
renews = record {
  append = Some (records.OfDir (dir.Fence fence));
  memory = memory.OfSite (record { fence = fence; low = 1; kept = empty; parked = [] });
  frames = [];
  notes = [];
  todo = Given forward 3 ∷ [];
}

abbrev server_9a : Actor
server_9a = after_segment server_5 renews

abbrev site_9 : Site
site_9 = record { fence = fence; low = 1; kept = retain_keys empty (λ tag. nat_le 1 tag); parked = [] }

abbrev looks : Segment
looks = sends (memory.OfSite site_9) packet []

abbrev records_9 : List Record
records_9 = records.OfDir (dir.Fence fence) ∷ records.OfDir (dir.Root (root_cell 1)) ∷ []

answers_verdict : verdict for_directory (locked_in records_9) (last_finished records_9) site_9 forward ≡ Answers
unfolding verdict locked_in last_finished
answers_verdict = ap (λ o. kept_or o Answers) none_kept

has_cell : get (cells_of records_9).objects 1 ≡ Some (root_cell 1)
unfolding cells_of
has_cell = got_here _ 1 _

abbrev v9 : World
v9 = landed (begun w8) 3

abbrev u9 : World
u9 = played v9 16 server_5 renews

abbrev w9 : World
w9 = played u9 16 server_9a looks

serves_root : (c : Cells) → get c.objects 1 ≡ Some (root_cell 1) → serves (scene u9 16) site_9 forward 0 c (Some server_asked) ≡ looks
unfolding u32_text u64_text u32_at u64_at zero_at form_text form_at magic_at internal_of
serves_root c is =
    ap (λ r. sends (memory.OfSite site_9) (record packet { «body» = body.Packet (answer_to server_asked (with_object (inner_object 16) (effect_from (fault (call.Getattr (root_handle 0))) r).answer)) }) [])
    (has_root c is)

does_look : looks ≡ directory.admits (scene u9 16) server_9a site_9 forward
does_look = sym (
    ap (by_verdict (scene u9 16) server_9a site_9 forward) answers_verdict
    ∙ (ap (λ d. serves (scene u9 16) site_9 forward 0 (cells_of records_9) (asked_in d)) server_is_asked ∙ serves_root (cells_of records_9) has_cell))

server_there : get w8.actors 16 ≡ Some server_5
server_there = past_three _ 0 _ _ _ 16 _ refl directory_welcomed

abbrev told_9 : Told
told_9 = record { frames = Sent 4 packet ∷ []; notes = [] }

is_looked_up : TurnRun w8 (turn (event.Give 3) (Sent 4 packet ∷ [])) w9
is_looked_up = record {
  told = told_9;
  is = (
    record { flying = record { frame = forward; event = 3 }; is = got_here _ 3 _ },
    inl (
      ap is_up server_there,
      record {
        segments = renews ∷ looks ∷ [];
        left = [];
        middle = w9;
        so_far = told_9;
        plays = (
          server_5,
          server_there,
          ByDirectory no_site refl refl (directory.IsRenewed forward 3 refl (record { greater = lit< tt; does = refl })),
          (
            server_9a,
            got_here _ 16 _,
            ByDirectory (record { fence = fence; low = 1; kept = empty; parked = [] }) refl refl (directory.IsAdmitted forward 3 refl (record { not_greater = refl; does = does_look })),
            (refl, refl, refl),
          ),
        );
        ends = Whole refl refl refl;
      },
    ),
  );
  remarks = refl;
  moment = refl;
}

-- ---- the proxy replies

abbrev m4 : FinMap nat_cmp Waiting
m4 = remove m3 3

abbrev replies : Segment
replies = notes (with_calls m4 2) (Replied 3 4 (root_reply 7) ∷ []) (Wakes ∷ [])

abbrev rests : Segment
rests = still (with_calls m4 2) []

does_rest : rests ≡ wakes (with_calls m4 2) (first_ready (with_calls m4 2))
does_rest = sym (ap (λ es. wakes (with_calls m4 2) (ready_among (with_calls m4 2) es)) (entries_gone m3 asking entries_m3))

abbrev v10 : World
v10 = landed (begun w9) 4

abbrev proxy_10a : Actor
proxy_10a = after_segment proxy_8 replies

abbrev w10 : World
w10 = played (played v10 0 proxy_8 replies) 0 proxy_10a rests

does_reply : replies ≡ by_packet_if (scene v10 0) (with_calls m3 2) 3 asking 4 16 (reply_in 1 (root_reply 1))
does_reply = sym (ap (by_packet_if (scene v10 0) (with_calls m3 2) 3 asking 4 16) is_read)

proxy_there : get w9.actors 0 ≡ Some proxy_8
proxy_there = past_two _ 16 _ _ 0 _ refl (got_here _ 0 _)

abbrev told_10 : Told
told_10 = record { frames = []; notes = Replied 3 4 (root_reply 7) ∷ [] }

is_replied : TurnRun w9 (turn (event.Give 4) (Replied 3 4 (root_reply 7) ∷ [])) w10
is_replied = record {
  told = told_10;
  is = (
    record { flying = record { frame = packet; event = 4 }; is = got_here _ 4 _ },
    inl (
      ap is_up proxy_there,
      record {
        segments = replies ∷ rests ∷ [];
        left = [];
        middle = w10;
        so_far = told_10;
        plays = (
          proxy_8,
          proxy_there,
          ByProxy (with_calls m3 2) refl refl (proxy.IsUsed packet 4 refl (record {
            uses = record { arrival = 3; waiting = asking; request = out; is = got_here _ 3 _; out = refl; tag = refl; fence = refl; sender = refl; answer = ap is_some is_read };
            unbroken = refl;
            does = does_reply;
          })),
          (
            proxy_10a,
            got_here _ 0 _,
            ByProxy (with_calls m4 2) refl refl (proxy.IsWaking refl (record { does = does_rest })),
            (refl, refl, refl),
          ),
        );
        ends = Whole refl refl refl;
      },
    ),
  );
  remarks = refl;
  moment = refl;
}

pub a_call_is_replied : ACallIsReplied
a_call_is_replied = record {
  world = w10;
  run = (w9, (w8, forwarded_run, refl, is_looked_up), refl, is_replied);
  empty = empty_disks;
  proxy = (memory.OfProxy (with_calls m4 2), got_here _ 0 _);
  coordinator = (memory.OfCoord idle_coordinator, past_two _ 0 _ _ 1 _ refl (past_two _ 16 _ _ 1 _ refl (past_three _ 0 _ _ _ 1 _ refl coordinator_welcomed)));
  directory = (memory.OfSite site_9, past_two _ 0 _ _ 16 _ refl (got_here _ 16 _));
  small = (memory.OfStore no_store, past_two _ 0 _ _ 32 _ refl (past_two _ 16 _ _ 32 _ refl (past_three _ 0 _ _ _ 32 _ refl small_welcomed)));
  node = (memory.OfStore no_store, past_two _ 0 _ _ 48 _ refl (past_two _ 16 _ _ 48 _ refl (past_three _ 0 _ _ _ 48 _ refl node_welcomed)));
}
