-- SETATTR of the root: the proxy asks for its cell, then the directory server does the call, and the proxy replies.
use Rattle.std.proofs.Common.{◌≡◌, ℕ, false, nat_le, List, [], ◌∷◌, is_some, Option, Some, None, refl, sym, ap, ◌∙◌, inl, lit<, not, if◌then◌else◌, unwrap_or}
use Rattle.std.specs.Ordering.{nat_cmp, eq_by_cmp}
use Rattle.std.specs.FinMap.{FinMap, empty, get, insert, remove, retain_keys, entries, len-empty, get-retain_keys}
use Rattle.sl_defs.specs.Items.{u32_text, u64_text, u32_at, u64_at}
use Rattle.sl_defs.specs.Rpc.{zero_at}
use Rattle.sl_defs.specs.declared.event.Event.TheVariants as event
use Rattle.sl_types.specs.Handles.{form_text, form_at, magic_at, internal_of}
use Rattle.sl_records.specs.declared.directory.DirRecord.TheVariants as dir
use Rattle.sl_frames.specs.declared.frame.Frame.{Frame}
use Rattle.sl_frames.specs.declared.body.Body.TheVariants as body
use Rattle.sl_cells.specs.declared.keys.CellKey.TheVariants as key
use Rattle.sl_cells.specs.declared.changes.Change.{Change}
use Rattle.sl_model.specs.Gathered.{effect_from}
use Rattle.sl_model.specs.Looking.{Outcome}
use Rattle.sl_model.specs.Procedures.{fault}
use Rattle.sl_history.specs.Turns.{Sent, Did, Replied, Full}
use Rattle.sl_history.specs.Arrivals.{datagram, asked_in, answer_to, most_waiting}
use Rattle.sl_machine.specs.Records.{Record, Cells, cells_of, locked_in, last_finished, root_cell, found_object}
use Rattle.sl_machine.specs.Records as records
use Rattle.sl_machine.specs.Parts.{cell_changes}
use Rattle.sl_machine.specs.Memory.{Site, Request, Waiting, Proxy, Actor, low_among, nothing_told}
use Rattle.sl_machine.specs.Memory as memory
use Rattle.sl_machine.specs.World.{World, Scene, Given, Goes, Wakes, Segment, Told, sends, scene, played, after_segment, begun, landed}
use Rattle.sl_machine.specs.Packets.{with_object, inner_object, reply_in}
use Rattle.sl_machine.specs.Verdicts.{verdict, Answers, for_directory, kept_or, keeping}
use Rattle.sl_machine.specs.Directories.{by_verdict, serves, gathered_of, did_record}
use Rattle.sl_machine.specs.Directories as directory
use Rattle.sl_machine.specs.Proxies.{still, notes, with_call, arrives, does_want, request, asks, with_request, by_packet_if, wakes, ready_among, first_ready}
use Rattle.sl_machine.specs.Proxies as proxy
use Rattle.sl_machine.specs.Wants.{wants}
use Rattle.sl_machine.specs.Runs.{TurnRun, ByDirectory, ByProxy, Whole, is_up}
use Rattle.sl_witness.specs.Histories.{setup, epoch, fence, turn, change_call, change_reply, ask, found, change, done, no_fileid}
use Rattle.sl_witness.specs.Runs.{ACallIsDone, did}
use Rattle.sl_witness.proofs.Maps.{got_here, got_past, got_none}
use Rattle.sl_witness.proofs.Openings.{blank, reads_cells, makes_root, no_site, no_store, empty_disks, past_two, past_three}
use Rattle.sl_witness.proofs.Welcomes.{idle_coordinator, proxy_7, w7, welcomed_run, proxy_welcomed, coordinator_welcomed, directory_welcomed, small_welcomed, node_welcomed}
use Rattle.sl_witness.proofs.Packets.{with_calls}
use Rattle.sl_witness.proofs.Forwards.{le_same_key, none_kept, entries_first, entries_again, entries_gone}
use Rattle.sl_witness.proofs.Changes.{the_change, server_asked, client_is_asked, server_is_asked, is_forwarded, own_hold, with_root, changing, wants_lock, wants_cell, wants_change, outcome, has_root, changes_root, is_read}

-- ---- the call arrives, and the root's cell is asked for

abbrev pub bytes : List ℕ
bytes = change_call 7 0

abbrev pub new_call : Waiting
new_call = changing [] nothing_told 0

abbrev pub held_call : Waiting
held_call = changing (own_hold ∷ []) nothing_told 0

abbrev pub m1 : FinMap nat_cmp Waiting
m1 = insert empty 3 new_call

abbrev pub m2 : FinMap nat_cmp Waiting
m2 = insert m1 3 held_call

abbrev pub first_request : Request
first_request = record { tag = 1; to = 16; boot = 0; «body» = body.Ask (key.Attr 1 ∷ []) }

abbrev pub asking : Waiting
asking = with_request first_request held_call

abbrev pub m3 : FinMap nat_cmp Waiting
m3 = insert m2 3 asking

entries_m3 : entries m3 ≡ (3, asking) ∷ []
entries_m3 = entries_again m2 _ asking (entries_again m1 _ _ (entries_first new_call))

abbrev pub takes : Segment
takes = still (with_calls m1 1) (Goes 3 ∷ [])

does_take : takes ≡ arrives (with_calls empty 1) 3 0 bytes (datagram bytes)
does_take = sym (
    ap (arrives (with_calls empty 1) 3 0 bytes) client_is_asked
    ∙ ap (λ n. if nat_le most_waiting n then notes (with_calls empty 1) (Full 3 ∷ []) [] else takes) (len-empty nat_cmp Waiting))

abbrev pub locks : Segment
locks = still (with_calls m2 1) (Goes 3 ∷ [])

does_lock : (x : Scene) → locks ≡ does_want x (with_calls m1 1) 3 new_call (wants setup (with_calls m1 1) epoch new_call)
does_lock x = sym (
    ap (does_want x (with_calls m1 1) 3 new_call) (wants_lock m1)
    ∙ ap (λ es. if not (memory.is_taken 3 (own_hold ∷ []) es) then locks else still (with_call 3 (record new_call { awaits = own_hold ∷ [] }) (with_calls m1 1)) [])
    (entries_first new_call))

abbrev pub asks_cell : Segment
asks_cell = sends (memory.OfProxy (with_calls m3 2)) ask []

does_ask : (x : Scene) → asks_cell ≡ does_want x (with_calls m2 1) 3 held_call (wants setup (with_calls m2 1) epoch held_call)
does_ask x = sym (
    ap (does_want x (with_calls m2 1) 3 held_call) (wants_cell m2)
    ∙ ap (λ es. sends (memory.OfProxy (with_calls m3 2)) (record ask { low = low_among es 2 }) []) entries_m3)

abbrev pub proxy_8a : Actor
proxy_8a = after_segment proxy_7 takes

abbrev pub proxy_8b : Actor
proxy_8b = after_segment proxy_8a locks

abbrev pub proxy_8 : Actor
proxy_8 = after_segment proxy_8b asks_cell

abbrev pub w8 : World
w8 = played (played (played (begun w7) 0 proxy_7 takes) 0 proxy_8a locks) 0 proxy_8b asks_cell

abbrev pub told_8 : Told
told_8 = record { frames = Sent 3 ask ∷ []; notes = [] }

pub is_asked : TurnRun w7 (turn (event.Call 0 bytes) (Sent 3 ask ∷ [])) w8
is_asked = record {
  told = told_8;
  is = inl (record {
    up = ap is_up proxy_welcomed;
    steps = record {
      segments = takes ∷ locks ∷ asks_cell ∷ [];
      left = [];
      middle = w8;
      so_far = told_8;
      plays = (
        proxy_7,
        proxy_welcomed,
        ByProxy (with_calls empty 1) refl refl (proxy.IsTaken 3 0 bytes refl (record { does = does_take })),
        (
          proxy_8a,
          got_here _ 0 _,
          ByProxy (with_calls m1 1) refl refl (proxy.IsGoing 3 refl (record { waiting = new_call; is = got_here _ 3 _; unasked = refl; does = does_lock (scene (begun w7) 0) })),
          (
            proxy_8b,
            got_here _ 0 _,
            ByProxy (with_calls m2 1) refl refl (proxy.IsGoing 3 refl (record { waiting = held_call; is = got_here _ 3 _; unasked = refl; does = does_ask (scene (begun w7) 0) })),
            (refl, refl, refl),
          ),
        ),
      );
      ends = Whole refl refl refl;
    };
  });
  remarks = refl;
  moment = refl;
}

-- ---- the directory server tells it

abbrev pub server_5 : Actor
server_5 = after_segment (after_segment blank reads_cells) makes_root

abbrev pub renewed_site : Site
renewed_site = record { fence = fence; low = 1; kept = empty; parked = [] }

abbrev pub renews : Segment
renews = record { append = Some (records.OfDir (dir.Fence fence)); memory = memory.OfSite renewed_site; frames = []; notes = []; todo = Given ask 3 ∷ [] }

abbrev pub server_9a : Actor
server_9a = after_segment server_5 renews

abbrev pub site_9 : Site
site_9 = record { fence = fence; low = 1; kept = retain_keys empty (λ tag. nat_le 1 tag); parked = [] }

abbrev pub tells : Segment
tells = sends (memory.OfSite site_9) found []

abbrev pub records_9 : List Record
records_9 = records.OfDir (dir.Fence fence) ∷ records.OfDir (dir.Root (root_cell 1)) ∷ []

ask_is_answered : verdict for_directory (locked_in records_9) (last_finished records_9) site_9 ask ≡ Answers
unfolding verdict locked_in last_finished
ask_is_answered = ap (λ o. kept_or o Answers) none_kept

pub has_cell : get (cells_of records_9).objects 1 ≡ Some (root_cell 1)
unfolding cells_of
has_cell = got_here _ 1 _

abbrev pub v9 : World
v9 = landed (begun w8) 3

abbrev pub u9 : World
u9 = played v9 16 server_5 renews

abbrev pub w9 : World
w9 = played u9 16 server_9a tells

does_tell : tells ≡ directory.admits (scene u9 16) server_9a site_9 ask
does_tell = sym (
    ap (by_verdict (scene u9 16) server_9a site_9 ask) ask_is_answered
    ∙ ap (λ o. sends (memory.OfSite site_9) (record found { «body» = body.Found (found_object o ∷ []) }) []) has_cell)

server_there : get w8.actors 16 ≡ Some server_5
server_there = past_three _ 0 _ _ _ 16 _ refl directory_welcomed

abbrev pub told_9 : Told
told_9 = record { frames = Sent 4 found ∷ []; notes = [] }

pub is_told : TurnRun w8 (turn (event.Give 3) (Sent 4 found ∷ [])) w9
is_told = record {
  told = told_9;
  is = (
    record { flying = record { frame = ask; event = 3 }; is = got_here _ 3 _ },
    inl (
      ap is_up server_there,
      record {
        segments = renews ∷ tells ∷ [];
        left = [];
        middle = w9;
        so_far = told_9;
        plays = (
          server_5,
          server_there,
          ByDirectory no_site refl refl (directory.IsRenewed ask 3 refl (record { greater = lit< tt; does = refl })),
          (
            server_9a,
            got_here _ 16 _,
            ByDirectory renewed_site refl refl (directory.IsAdmitted ask 3 refl (record { not_greater = refl; does = does_tell })),
            (refl, refl, refl),
          ),
        );
        ends = Whole refl refl refl;
      },
    ),
  );
  remarks = refl;
  moment = refl;
}

-- ---- the proxy forwards the call

abbrev pub knowing_call : Waiting
knowing_call = changing (own_hold ∷ []) with_root 4

abbrev pub m4 : FinMap nat_cmp Waiting
m4 = insert m3 3 knowing_call

abbrev pub second_request : Request
second_request = record { tag = 2; to = 16; boot = 0; «body» = body.Forward 0 (change_call 2 16) }

abbrev pub ordering : Waiting
ordering = with_request second_request knowing_call

abbrev pub m5 : FinMap nat_cmp Waiting
m5 = insert m4 3 ordering

pub entries_m5 : entries m5 ≡ (3, ordering) ∷ []
entries_m5 = entries_again m4 _ ordering (entries_again m3 _ _ entries_m3)

abbrev pub learns : Segment
learns = still (with_calls m4 2) (Goes 3 ∷ [])

abbrev pub orders : Segment
orders = sends (memory.OfProxy (with_calls m5 3)) change []

does_order : (x : Scene) → orders ≡ does_want x (with_calls m4 2) 3 knowing_call (wants setup (with_calls m4 2) epoch knowing_call)
does_order x = sym (
    ap (does_want x (with_calls m4 2) 3 knowing_call) (wants_change m4)
    ∙ (ap (λ text. asks (with_calls m4 2) 3 knowing_call (request (with_calls m4 2) 16 0 (body.Forward 0 text))) is_forwarded
    ∙ ap (λ es. sends (memory.OfProxy (with_calls m5 3)) (record change { low = low_among es 3 }) []) entries_m5))

abbrev pub v10 : World
v10 = landed (begun w9) 4

abbrev pub proxy_10a : Actor
proxy_10a = after_segment proxy_8 learns

abbrev pub proxy_10 : Actor
proxy_10 = after_segment proxy_10a orders

abbrev pub w10 : World
w10 = played (played v10 0 proxy_8 learns) 0 proxy_10a orders

pub proxy_there : get w9.actors 0 ≡ Some proxy_8
proxy_there = past_two _ 16 _ _ 0 _ refl (got_here _ 0 _)

abbrev pub told_10 : Told
told_10 = record { frames = Sent 5 change ∷ []; notes = [] }

pub is_ordered : TurnRun w9 (turn (event.Give 4) (Sent 5 change ∷ [])) w10
is_ordered = record {
  told = told_10;
  is = (
    record { flying = record { frame = found; event = 4 }; is = got_here _ 4 _ },
    inl (
      ap is_up proxy_there,
      record {
        segments = learns ∷ orders ∷ [];
        left = [];
        middle = w10;
        so_far = told_10;
        plays = (
          proxy_8,
          proxy_there,
          ByProxy (with_calls m3 2) refl refl (proxy.IsUsed found 4 refl (record {
            uses = record { arrival = 3; waiting = asking; request = first_request; is = got_here _ 3 _; out = refl; tag = refl; fence = refl; sender = refl; answer = refl };
            unbroken = refl;
            does = refl;
          })),
          (
            proxy_10a,
            got_here _ 0 _,
            ByProxy (with_calls m4 2) refl refl (proxy.IsGoing 3 refl (record { waiting = knowing_call; is = got_here _ 3 _; unasked = refl; does = does_order (scene v10 0) })),
            (refl, refl, refl),
          ),
        );
        ends = Whole refl refl refl;
      },
    ),
  );
  remarks = refl;
  moment = refl;
}

-- ---- the directory server does it

abbrev pub server_9 : Actor
server_9 = after_segment server_9a tells

abbrev pub kept_11 : FinMap nat_cmp Frame
kept_11 = retain_keys (retain_keys empty (λ tag. nat_le 1 tag)) (λ tag. nat_le 2 tag)

abbrev pub site_11 : Site
site_11 = record { fence = fence; low = 2; kept = kept_11; parked = [] }

none_kept_2 : get kept_11 2 ≡ None
none_kept_2 = get-retain_keys _ (λ tag. nat_le 2 tag) 2 (le_same_key 2 2) ∙ (get-retain_keys empty (λ tag. nat_le 1 tag) 2 (le_same_key 1 2) ∙ got_none 2)

change_is_answered : verdict for_directory (locked_in records_9) (last_finished records_9) site_11 change ≡ Answers
unfolding verdict locked_in last_finished
change_is_answered = ap (λ o. kept_or o Answers) none_kept_2

abbrev pub site_done : Site
site_done = keeping 2 done site_11

-- what it does, over this site
abbrev pub does : Site → Segment
does s = record {
  append = Some (records.OfDir (dir.Did did));
  memory = memory.OfSite (keeping 2 done s);
  frames = done ∷ [];
  notes = Did 3 epoch no_fileid ∷ [];
  todo = [];
}

abbrev pub v11 : World
v11 = landed (begun w10) 5

abbrev pub w11 : World
w11 = played v11 16 server_9 (does site_11)

abbrev pub server_scene : ℕ → FinMap nat_cmp ℕ → Scene
server_scene e done_in = record { setup = setup; actor = 16; event = e; moment = epoch; done_in = done_in }

-- the segment for this outcome and these changes
abbrev pub done_with : Scene → Site → Outcome → List Change → Segment
done_with x s o changes =
    let text = answer_to server_asked (with_object (inner_object 16) o.answer) in
    record {
      append = Some (did_record x change 0 server_asked changes text);
      memory = memory.OfSite (keeping 2 (record done { «body» = body.Packet text }) s);
      frames = record done { «body» = body.Packet text } ∷ [];
      notes = Did 3 epoch no_fileid ∷ [];
      todo = [];
    }

pub serves_change : (e : ℕ) (done_in : FinMap nat_cmp ℕ) (s : Site) (c : Cells) → get c.objects 1 ≡ Some (root_cell 1)
    → serves (server_scene e done_in) s change 0 c (Some server_asked) ≡ does s
unfolding u32_text u64_text u32_at u64_at zero_at form_text form_at magic_at internal_of
serves_change e done_in s c is =
    ap
    (λ r. done_with (server_scene e done_in) s (effect_from (fault (the_change 0)) r)
    (cell_changes (gathered_of c) (the_change 0) (effect_from (fault (the_change 0)) r).changes))
    (has_root c is)
    ∙ ap (done_with (server_scene e done_in) s outcome) (changes_root c is)

pub does_it : does site_11 ≡ directory.admits (scene v11 16) server_9 site_11 change
does_it = sym (
    ap (by_verdict (scene v11 16) server_9 site_11 change) change_is_answered
    ∙ (ap (λ d. serves (scene v11 16) site_11 change 0 (cells_of records_9) (asked_in d)) server_is_asked ∙ serves_change 6 v11.done_in site_11 (cells_of records_9) has_cell))

pub server_waits : get w10.actors 16 ≡ Some server_9
server_waits = past_two _ 0 _ _ 16 _ refl (got_here _ 16 _)

abbrev pub told_11 : Told
told_11 = record { frames = Sent 6 done ∷ []; notes = Did 3 epoch no_fileid ∷ [] }

is_done : TurnRun w10 (turn (event.Give 5) (Sent 6 done ∷ Did 3 epoch no_fileid ∷ [])) w11
is_done = record {
  told = told_11;
  is = (
    record { flying = record { frame = change; event = 5 }; is = got_here _ 5 _ },
    inl (
      ap is_up server_waits,
      record {
        segments = does site_11 ∷ [];
        left = [];
        middle = w11;
        so_far = told_11;
        plays = (
          server_9,
          server_waits,
          ByDirectory site_9 refl refl (directory.IsAdmitted change 5 refl (record { not_greater = refl; does = does_it })),
          (refl, refl, refl),
        );
        ends = Whole refl refl refl;
      },
    ),
  );
  remarks = refl;
  moment = refl;
}

-- ---- the proxy replies

abbrev pub m6 : FinMap nat_cmp Waiting
m6 = remove m5 3

abbrev pub replies : Segment
replies = notes (with_calls m6 3) (Replied 3 6 (change_reply 7) ∷ []) (Wakes ∷ [])

abbrev pub rests : Segment
rests = still (with_calls m6 3) []

does_rest : rests ≡ wakes (with_calls m6 3) (first_ready (with_calls m6 3))
does_rest = sym (ap (λ es. wakes (with_calls m6 3) (ready_among (with_calls m6 3) es)) (entries_gone m5 ordering entries_m5))

abbrev pub v12 : World
v12 = landed (begun w11) 6

abbrev pub proxy_12a : Actor
proxy_12a = after_segment proxy_10 replies

abbrev pub w12 : World
w12 = played (played v12 0 proxy_10 replies) 0 proxy_12a rests

does_reply : replies ≡ by_packet_if (scene v12 0) (with_calls m5 3) 3 ordering 6 16 (reply_in 2 (change_reply 2))
does_reply = sym (
    ap (by_packet_if (scene v12 0) (with_calls m5 3) 3 ordering 6 16) is_read
    ∙ ap (λ o. notes (with_calls m6 3) (Replied 3 (unwrap_or o 7) (change_reply 7) ∷ []) (Wakes ∷ [])) (got_here empty 3 6))

proxy_waits : get w11.actors 0 ≡ Some proxy_10
proxy_waits = got_past _ 16 _ 0 _ refl (got_here _ 0 _)

abbrev pub told_12 : Told
told_12 = record { frames = []; notes = Replied 3 6 (change_reply 7) ∷ [] }

is_replied : TurnRun w11 (turn (event.Give 6) (Replied 3 6 (change_reply 7) ∷ [])) w12
is_replied = record {
  told = told_12;
  is = (
    record { flying = record { frame = done; event = 6 }; is = got_here _ 6 _ },
    inl (
      ap is_up proxy_waits,
      record {
        segments = replies ∷ rests ∷ [];
        left = [];
        middle = w12;
        so_far = told_12;
        plays = (
          proxy_10,
          proxy_waits,
          ByProxy (with_calls m5 3) refl refl (proxy.IsUsed done 6 refl (record {
            uses = record { arrival = 3; waiting = ordering; request = second_request; is = got_here _ 3 _; out = refl; tag = refl; fence = refl; sender = refl; answer = ap is_some is_read };
            unbroken = refl;
            does = does_reply;
          })),
          (
            proxy_12a,
            got_here _ 0 _,
            ByProxy (with_calls m6 3) refl refl (proxy.IsWaking refl (record { does = does_rest })),
            (refl, refl, refl),
          ),
        );
        ends = Whole refl refl refl;
      },
    ),
  );
  remarks = refl;
  moment = refl;
}

-- the other actors are what they were at the Welcome
pub past_all : (i : ℕ) (r : Option Actor) → eq_by_cmp nat_cmp i 0 ≡ false → eq_by_cmp nat_cmp i 16 ≡ false → get w7.actors i ≡ r → get w12.actors i ≡ r
past_all i r a b e =
    past_two _ 0 _ _ i _ a (got_past _ 16 _ i _ b (past_two _ 0 _ _ i _ a (past_two _ 16 _ _ i _ b (past_three _ 0 _ _ _ i _ a e))))

pub a_call_is_done : ACallIsDone
a_call_is_done = record {
  world = w12;
  run = (w11, (w10, (w9, (w8, (w7, welcomed_run, refl, is_asked), refl, is_told), refl, is_ordered), refl, is_done), refl, is_replied);
  empty = empty_disks;
  proxy = (memory.OfProxy (with_calls m6 3), got_here _ 0 _);
  coordinator = (memory.OfCoord idle_coordinator, past_all 1 _ refl refl coordinator_welcomed);
  directory = (memory.OfSite site_done, past_two _ 0 _ _ 16 _ refl (got_here _ 16 _));
  small = (memory.OfStore no_store, past_all 32 _ refl refl small_welcomed);
  node = (memory.OfStore no_store, past_all 48 _ refl refl node_welcomed);
}
