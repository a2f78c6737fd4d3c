-- What a directory server does, a row for each case.
use Rattle.std.proofs.Common.{zero, suc}
use Rattle.std.specs.Prelude.{◌≡◌, ℕ, ◌+◌, ◌==◌, ◌<◌, List, [], ◌∷◌, Option, Some, None, Bool, true, false, not, ◌&&◌, nat_lt, filter, map, replicate, length, if◌then◌else◌, option_map}
use Rattle.std.specs.FinMap as map
use Rattle.sl_defs.specs.declared.setup.Time.{Time}
use Rattle.sl_defs.specs.declared.note.Choice.{Choice}
use Rattle.sl_types.specs.declared.reply.Reply.{Reply}
use Rattle.sl_model.specs.declared.node.Node.{Node}
use Rattle.sl_model.specs.Plan.{Sight, run}
use Rattle.sl_model.specs.Volume.{below_on}
use Rattle.sl_model.specs.Looking.{Outcome, line_size}
use Rattle.sl_model.specs.Gathered.{Gathered, effect_from}
use Rattle.sl_model.specs.Procedures.{plan, fault}
use Rattle.sl_route.specs.declared.class.Class.TheVariants as class
use Rattle.sl_cells.specs.declared.cells.AttrCell.{AttrCell}
use Rattle.sl_cells.specs.declared.cells.NameCell.{NameCell}
use Rattle.sl_cells.specs.declared.keys.CellKey.{CellKey}
use Rattle.sl_cells.specs.declared.changes.Change.{Change}
use Rattle.sl_records.specs.declared.request.Request.{Request}
use Rattle.sl_records.specs.declared.directory.DirRecord.TheVariants as dir
use Rattle.sl_frames.specs.declared.work.Work.{Work}
use Rattle.sl_frames.specs.declared.frame.Frame.{Frame}
use Rattle.sl_frames.specs.declared.body.Body.{Body}
use Rattle.sl_frames.specs.declared.body.Body.TheVariants as body
use Rattle.sl_history.specs.Turns.{Remark}
use Rattle.sl_history.specs.Turns as note
use Rattle.sl_history.specs.Arrivals.{Asked, asked_in, datagram, answer_to, is_changing}
use Rattle.sl_history.specs.Placing.{carrier}
use Rattle.sl_machine.specs.Records.{Record, OfDir, Cells, cells_of, cell_at, locked_in, last_finished, next_counter, counter_end, fileid_at, has_root, root_cell}
use Rattle.sl_machine.specs.Memory.{Site, Actor, OfSite}
use Rattle.sl_machine.specs.World.{Scene, Task, Given, TakesUp, Founds, Segment, quiet, sends}
use Rattle.sl_machine.specs.Verdicts.{Verdict, OldFence, Stray, Finished, Parks, IsKept, BelowLow, Answers, verdict, for_directory, seen, renewed, parked, taken_up, keeping, answering, is_locked_for}
use Rattle.sl_machine.specs.Knowing.{node_of, entry_of, line_of, placed}
use Rattle.sl_machine.specs.Packets.{outer_call, with_object, inner_object}
use Rattle.sl_machine.specs.Parts.{cell_changes}

-- ---- what its cells say

abbrev pub node_in : Cells → ℕ → Option Node
node_in c f = option_map node_of (map.get c.objects f)

abbrev pub is_below : ℕ → Cells → ℕ → ℕ → Bool
is_below zero c a d = false
is_below (suc steps) c a d = if d == a then true else if d == 1 then false else below_on (is_below steps c a) (node_in c d)

abbrev pub is_behind : ℕ → ℕ → NameCell → Bool
is_behind d cookie c = c.dir == d && nat_lt cookie c.cookie

abbrev pub second_of : {A B : Type 0} → A × B → B
second_of x = x.1

abbrev pub all_by_cookie : List NameCell → List NameCell
all_by_cookie [] = []
all_by_cookie (c ∷ cs) = placed c (all_by_cookie cs)

-- the names of a directory behind a cookie, by rising cookie
abbrev pub names_behind : Cells → ℕ → ℕ → List NameCell
names_behind c d cookie = all_by_cookie (filter (is_behind d cookie) (map second_of (map.entries c.names)))

abbrev pub link_of : Option AttrCell → List ℕ
link_of None = []
link_of (Some c) = c.link

-- what can be looked up in its cells alone; it has no bytes and no verifier
abbrev pub sight_of : Cells → Sight
sight_of c = record {
  look = node_in c;
  see = node_in c;
  find = λ d name. option_map entry_of (map.get c.names (d, name));
  below = λ a d. is_below (suc (map.len c.objects)) c a d;
  names = λ d cookie. map line_of (names_behind c d cookie);
  text = λ f. link_of (map.get c.objects f);
  bytes = λ f at count. replicate count 0;
  verifier = 0;
}

abbrev pub gathered_of : Cells → Gathered
gathered_of c = record { cells = []; names = (sight_of c).names; text = (sight_of c).text; bytes = (sight_of c).bytes; verifier = 0 }

-- what a call answers and changes over its cells
abbrev pub effect_here : Cells → Asked → Time → Choice → Outcome
effect_here c a now choice = effect_from (fault (outer_call a.call)) (run (sight_of c) (plan (outer_call a.call) a.cred now choice))

-- the shortest front whose lines are together above the limit, or all
abbrev pub up_to : ℕ → ℕ → List NameCell → List NameCell
up_to limit size [] = []
up_to limit size (c ∷ cs) = c ∷ (if nat_lt limit (size + line_size 24 (line_of c)) then [] else up_to limit (size + line_size 24 (line_of c)) cs)

abbrev pub listed : Cells → ℕ → ℕ → ℕ → Body
listed c d cookie limit =
    let names = names_behind c d cookie in
    let front = up_to limit 0 names in
    body.Listed front (nat_lt (length front) (length names))

-- ---- rows, after what was seen

-- a frame of a greater fence: the fence is recorded before anything is done
pub record Renews (s : Site) (f : Frame) (e : ℕ) (seg : Segment) : Type 0 where
  pub greater : s.fence < f.fence
  pub does : seg ≡ record { append = Some (OfDir (dir.Fence f.fence)); memory = OfSite (renewed f s); frames = []; notes = []; todo = Given f e ∷ [] }

-- a finished operation is acknowledged again, but not its Lock
abbrev pub again_acknowledged : ℕ → Site → Frame → Body → Segment
again_acknowledged i s f (body.Lock work) = quiet (OfSite s) []
again_acknowledged i s f other = sends (OfSite s) (answering i 0 f body.Ack) []

abbrev pub answers : ℕ → Site → Frame → Body → Segment
answers i s f b = sends (OfSite s) (answering i 0 f b) []

-- what a record of a request is known by
abbrev pub request_of : Frame → Request
request_of f = record { fence = f.fence; tag = f.tag; low = f.low; arrival = f.arrival }

-- a fresh fileid of a site, which is recorded first; where none is left nothing is recorded
abbrev pub minted : ℕ → Site → Frame → ℕ → Segment
minted i s f fileid = record {
  append = Some (OfDir (dir.Mint (record { fence = f.fence; tag = f.tag; low = f.low; fileid = fileid })));
  memory = OfSite (keeping f.tag (answering i 0 f (body.Minted fileid)) s);
  frames = answering i 0 f (body.Minted fileid) ∷ [];
  notes = [];
  todo = [];
}

abbrev pub none_left : ℕ → Site → Frame → Segment
none_left i s f = sends (OfSite (keeping f.tag (answering i 0 f (body.Minted 0)) s)) (answering i 0 f (body.Minted 0)) []

abbrev pub mints : ℕ → Actor → Site → Frame → ℕ → Segment
mints i a s f site =
    if nat_lt (next_counter site a.records) counter_end then minted i s f (fileid_at site (next_counter site a.records)) else none_left i s f

-- the reply of a forwarded call: the handle of a new object is one among the servers
abbrev pub packet_of : ℕ → Asked → Reply → List ℕ
packet_of i a r = answer_to a (with_object (inner_object i) r)

abbrev pub did_record : Scene → Frame → ℕ → Asked → List Change → List ℕ → Record
did_record x f chosen a changes packet = OfDir (dir.Did (record { request = request_of f; moment = x.moment; chosen = chosen; changes = changes; reply = packet }))

-- a call that may change something is done: its changes and its reply are recorded, it is noted, and its answer is kept
abbrev pub does_call : Scene → Site → Frame → ℕ → Asked → Cells → Choice → Segment
does_call x s f chosen a c choice =
    let o = effect_here c a x.moment choice in
    let packet = packet_of x.actor a o.answer in
    record {
      append = Some (did_record x f chosen a (cell_changes (gathered_of c) (outer_call a.call) o.changes) packet);
      memory = OfSite (keeping f.tag (answering x.actor 0 f (body.Packet packet)) s);
      frames = answering x.actor 0 f (body.Packet packet) ∷ [];
      notes = note.Did f.arrival x.moment choice ∷ [];
      todo = [];
    }

-- a call that only asks is answered from the cells
abbrev pub looks : Scene → Site → Frame → Asked → Cells → Choice → Segment
looks x s f a c choice = answers x.actor s f (body.Packet (packet_of x.actor a (effect_here c a x.moment choice).answer))

abbrev pub forwarded_choice : ℕ → Choice
forwarded_choice chosen = record { fileid = chosen; kept = false }

abbrev pub serves : Scene → Site → Frame → ℕ → Cells → Option Asked → Segment
serves x s f chosen c None = quiet (OfSite s) []
serves x s f chosen c (Some a) =
    if is_changing (outer_call a.call) then does_call x s f chosen a c (forwarded_choice chosen) else looks x s f a c (forwarded_choice chosen)

-- an operation's Lock is recorded with its work, and granted; a Lock of the locked operation is granted again
abbrev pub locks : ℕ → Actor → Site → Frame → Work → Segment
locks i a s f work =
    if is_locked_for f.op (locked_in a.records) then answers i s f body.Grant
    else record {
      append = Some (OfDir (dir.Lock f.op f.fence work));
      memory = OfSite s;
      frames = answering i 0 f body.Grant ∷ [];
      notes = [];
      todo = [];
    }

abbrev pub take_ups : List Frame → List Task
take_ups [] = []
take_ups (f ∷ fs) = TakesUp f ∷ take_ups fs

-- the operation is finished, and its work done where it is applied; then the parked frames are taken up
abbrev pub finishes : ℕ → Site → Frame → Bool → Segment
finishes i s f applied = record {
  append = Some (OfDir (dir.Finish f.op applied));
  memory = OfSite (record s { parked = [] });
  frames = answering i 0 f body.Ack ∷ [];
  notes = [];
  todo = take_ups (taken_up s.parked);
}

abbrev pub found_cells : Cells → List CellKey → Body
found_cells c keys = body.Found (map (cell_at c) keys)

-- what is done for a frame that is answered
abbrev pub done_for : Scene → Actor → Site → Frame → Body → Segment
done_for x a s f (body.Ask keys) = answers x.actor s f (found_cells (cells_of a.records) keys)
done_for x a s f (body.List d cookie limit) = answers x.actor s f (listed (cells_of a.records) d cookie limit)
done_for x a s f (body.Mint site) = mints x.actor a s f site
done_for x a s f (body.Forward chosen packet) = serves x s f chosen (cells_of a.records) (asked_in (datagram packet))
done_for x a s f (body.Lock work) = locks x.actor a s f work
done_for x a s f body.Apply = finishes x.actor s f true
done_for x a s f body.Release = finishes x.actor s f false
done_for x a s f other = quiet (OfSite s) []

abbrev pub by_verdict : Scene → Actor → Site → Frame → Verdict → Segment
by_verdict x a s f OldFence = quiet (OfSite s) []
by_verdict x a s f Stray = quiet (OfSite s) []
by_verdict x a s f Finished = again_acknowledged x.actor s f f.body
by_verdict x a s f Parks = quiet (OfSite (parked f s)) []
by_verdict x a s f (IsKept answer) = sends (OfSite s) answer []
by_verdict x a s f BelowLow = quiet (OfSite s) []
by_verdict x a s f Answers = done_for x a s f f.body

-- a frame of no greater fence: by the verdict on it, over what is held when its low was seen
abbrev pub admits : Scene → Actor → Site → Frame → Segment
admits x a s f = by_verdict x a s f (verdict for_directory (locked_in a.records) (last_finished a.records) s f)

pub record Admits (x : Scene) (a : Actor) (s : Site) (f : Frame) (seg : Segment) : Type 0 where
  pub not_greater : nat_lt s.fence f.fence ≡ false
  pub does : seg ≡ admits x a (seen f s) f

-- ---- its opening

-- the server of site 0 makes the root, where its records have none
pub record MakesRoot (x : Scene) (a : Actor) (s : Site) (seg : Segment) : Type 0 where
  pub due : (x.actor == carrier x.setup class.Dir 0 && not (has_root a.records)) ≡ true
  pub does : seg ≡ record { append = Some (OfDir (dir.Root (root_cell x.setup.volume))); memory = OfSite s; frames = []; notes = []; todo = [] }

pub record OpensSo (x : Scene) (a : Actor) (s : Site) (seg : Segment) : Type 0 where
  pub undue : (x.actor == carrier x.setup class.Dir 0 && not (has_root a.records)) ≡ false
  pub does : seg ≡ quiet (OfSite s) []

-- ---- the rows

pub data DirectoryRow (x : Scene) (a : Actor) (s : Site) (t : Task) (seg : Segment) : Type 0 where
  IsRenewed : (f : Frame) (e : ℕ) → t ≡ Given f e → Renews s f e seg → DirectoryRow x a s t seg
  IsAdmitted : (f : Frame) (e : ℕ) → t ≡ Given f e → Admits x a s f seg → DirectoryRow x a s t seg
  -- a parked frame is admitted anew, as if it were given now
  IsTakenUp : (f : Frame) → t ≡ TakesUp f → Admits x a s f seg → DirectoryRow x a s t seg
  IsFounded : t ≡ Founds → MakesRoot x a s seg → DirectoryRow x a s t seg
  IsOpen : t ≡ Founds → OpensSo x a s seg → DirectoryRow x a s t seg
