-- What the coordinator does, a row for each case. Operations are decided once, and what follows goes on until each server
-- has acknowledged it.
use Rattle.std.specs.Prelude.{◌≡◌, ℕ, ◌==◌, ◌<◌, List, [], ◌∷◌, ◌++◌, Option, Some, None, Bool, true, false, ◌&&◌, ◌||◌, nat_lt, nat_le, filter, length, if◌then◌else◌}
use Rattle.std.specs.List.{list_any, list_all}
use Rattle.sl_records.specs.declared.started.Started.{Started}
use Rattle.sl_records.specs.declared.coordinator.LogEntry.TheVariants as log
use Rattle.sl_frames.specs.Actors.{is_proxy}
use Rattle.sl_frames.specs.declared.intent.What.{What}
use Rattle.sl_frames.specs.declared.intent.What.TheVariants as what
use Rattle.sl_frames.specs.declared.intent.Part.{Part}
use Rattle.sl_frames.specs.declared.intent.Intent.{Intent}
use Rattle.sl_frames.specs.declared.frame.Frame.{Frame}
use Rattle.sl_frames.specs.declared.body.Body.{Body}
use Rattle.sl_frames.specs.declared.body.Body.TheVariants as body
use Rattle.sl_history.specs.Turns.{Remark}
use Rattle.sl_history.specs.Turns as note
use Rattle.sl_machine.specs.Records.{Record, OfLog, unfinished, decision_of, with_op, next_op}
use Rattle.sl_machine.specs.Memory.{Site, Vote, Coord, Actor, OfCoord}
use Rattle.sl_machine.specs.World.{Scene, Task, Given, Ticks, Refuses, Proceeds, Segment, quiet, sends}
use Rattle.sl_machine.specs.Verdicts.{Verdict, OldFence, IsKept, Answers, verdict, for_coordinator, seen, renewed, keeping}
use Rattle.sl_machine.specs.Directories.{request_of}

-- ---- words on operations

abbrev pub actors_of : List Part → List ℕ
actors_of [] = []
actors_of (p ∷ ps) = p.actor ∷ actors_of ps

abbrev pub servers_of : Intent → List ℕ
servers_of i = actors_of i.parts

abbrev pub is_among : List ℕ → ℕ → Bool
is_among servers a = list_any (λ b. b == a) servers

-- Two intents share where a server has a part in both.
abbrev pub shares : Intent → Intent → Bool
shares i j = list_any (is_among (servers_of i)) (servers_of j)

abbrev pub is_vote_of : ℕ → ℕ → Vote → Bool
is_vote_of op server v = v.op == op && v.server == server

abbrev pub has_voted : List Vote → ℕ → ℕ → Bool
has_voted vs op server = list_any (is_vote_of op server) vs

abbrev pub all_voted : List Vote → Started → Bool
all_voted vs s = list_all (has_voted vs s.op) (servers_of s.intent)

abbrev pub with_vote : ℕ → ℕ → List Vote → List Vote
with_vote op server vs = if has_voted vs op server then vs else record { op = op; server = server } ∷ vs

-- ---- frames of an operation, under its intent's own fence

abbrev pub frame_to : Started → ℕ → ℕ → Body → Frame
frame_to s server boot b = record { from = 1; to = server; fence = s.request.fence; tag = 0; low = 0; op = s.op; boot = boot; arrival = 0; «body» = b }

abbrev pub locks_of : Started → List Vote → List Part → List Frame
locks_of s vs [] = []
locks_of s vs (p ∷ ps) = if has_voted vs s.op p.actor then locks_of s vs ps else frame_to s p.actor p.boot (body.Lock p.work) ∷ locks_of s vs ps

-- what follows the decision: yes applies, no releases
abbrev pub final : Bool → Body
final true = body.Apply
final false = body.Release

abbrev pub finals_of : Started → Bool → List Vote → List Part → List Frame
finals_of s agreed vs [] = []
finals_of s agreed vs (p ∷ ps) = if has_voted vs s.op p.actor then finals_of s agreed vs ps else frame_to s p.actor 0 (final agreed) ∷ finals_of s agreed vs ps

abbrev pub decided_frame : Started → Bool → Frame
decided_frame s agreed = record { from = 1; to = 0; fence = s.request.fence; tag = s.request.tag; low = 0; op = 0; boot = 0; arrival = 0; «body» = body.Decided agreed }

-- ---- what a decision notes

abbrev pub note_by : Started → What → Remark
note_by s (what.Call chosen kept) = note.Did s.request.arrival s.intent.moment (record { fileid = chosen; kept = kept })
note_by s (what.Flush f) = note.Flush f

abbrev pub effect_note : Started → Remark
effect_note s = note_by s s.intent.what

-- ---- rows

abbrev pub still : Coord → List Task → Segment
still m todo = quiet (OfCoord m) todo

-- The proxy was heard under a fence that isn't old.
abbrev pub heard_from : Frame → Coord → Coord
heard_from f m = if is_proxy f.from then record m { heard = true } else m

-- a frame of a greater fence: the fence is recorded; waiting intents are dropped, and no Welcome is owed any more
pub record Renews (m : Coord) (f : Frame) (e : ℕ) (seg : Segment) : Type 0 where
  pub greater : m.site.fence < f.fence
  pub does :
      seg ≡ record {
        append = Some (OfLog (log.Fence f.fence));
        memory = OfCoord (record m { site = renewed f m.site; queue = []; owes = false });
        frames = [];
        notes = [];
        todo = Given f e ∷ [];
      }

-- undecided operations of older fences count as refused
abbrev pub is_undecided : Option Bool → Bool
is_undecided None = true
is_undecided (Some agreed) = false

abbrev pub is_outdated : List Record → ℕ → Started → Bool
is_outdated rs fence s = nat_lt s.request.fence fence && is_undecided (decision_of rs s.op)

abbrev pub refusals : List Started → List Task
refusals [] = []
refusals (s ∷ ss) = Refuses s.op ∷ refusals ss

abbrev pub greets : Actor → Coord → Segment
greets a m = still (record m { owes = true }) (refusals (filter (is_outdated a.records m.site.fence) (unfinished a.records)) ++ Proceeds ∷ [])

-- an Intent that waits, or is started and unfinished, isn't taken a second time
abbrev pub is_request : Frame → ℕ → ℕ → Bool
is_request f fence tag = f.fence == fence && f.tag == tag

abbrev pub waits : List Frame → Frame → Bool
waits queue f = list_any (λ (g : Frame). is_request f g.fence g.tag) queue

abbrev pub is_started : List Started → Frame → Bool
is_started ss f = list_any (λ (s : Started). is_request f s.request.fence s.request.tag) ss

abbrev pub takes : Actor → Coord → Frame → Segment
takes a m f =
    if waits m.queue f || is_started (unfinished a.records) f then still m [] else still (record m { queue = m.queue ++ f ∷ [] }) (Proceeds ∷ [])

-- a decision is recorded, and then the proxy is told, and each server
abbrev pub keeps_decision : Started → Bool → Site → Site
keeps_decision s agreed site =
    if s.request.fence == site.fence && nat_le site.low s.request.tag then keeping s.request.tag (decided_frame s agreed) site else site

abbrev pub note_if : Bool → Started → List Remark
note_if true s = effect_note s ∷ []
note_if false s = []

abbrev pub decides : Coord → Started → Bool → List Frame → Segment
decides m s agreed tells = record {
  append = Some (OfLog (log.Decide s.op agreed));
  memory = OfCoord (record m { site = keeps_decision s agreed m.site });
  frames = tells ++ finals_of s agreed m.acknowledged s.intent.parts;
  notes = note_if agreed s;
  todo = [];
}

-- a Grant counts where the operation is undecided and the server has a part in it; the last one decides
abbrev pub counts : Coord → Started → Segment
counts m s = if all_voted m.granted s then decides m s true (decided_frame s true ∷ []) else still m []

abbrev pub granted_by : Coord → Frame → Coord
granted_by m f = record m { granted = with_vote f.op f.from m.granted }

abbrev pub acknowledged_by : Coord → Frame → Coord
acknowledged_by m f = record m { acknowledged = with_vote f.op f.from m.acknowledged }

-- the last acknowledgement ends the operation
abbrev pub ends : Coord → Started → Segment
ends m s =
    if all_voted m.acknowledged s
    then record { append = Some (OfLog (log.Done s.op)); memory = OfCoord m; frames = []; notes = []; todo = Proceeds ∷ [] }
    else still m []

abbrev pub on_undecided : Coord → Frame → Body → Started → Segment
on_undecided m f body.Grant s = counts (granted_by m f) s
on_undecided m f body.Refuse s = decides m s false (decided_frame s false ∷ [])
on_undecided m f other s = still m []

abbrev pub on_decided : Coord → Frame → Body → Started → Segment
on_decided m f body.Ack s = ends (acknowledged_by m f) s
on_decided m f other s = still m []

abbrev pub votes_on : Coord → Frame → Started → Option Bool → Segment
votes_on m f s None = on_undecided m f f.body s
votes_on m f s (Some agreed) = on_decided m f f.body s

abbrev pub votes : Actor → Coord → Frame → Option Started → Segment
votes a m f None = still m []
votes a m f (Some s) = if is_among (servers_of s.intent) f.from then votes_on m f s (decision_of a.records s.op) else still m []

abbrev pub done_for : Actor → Coord → Frame → Body → Segment
done_for a m f body.Hello = greets a m
done_for a m f (body.Intent i) = takes a m f
done_for a m f other = votes a m f (with_op f.op (unfinished a.records))

abbrev pub by_verdict : Actor → Coord → Frame → Verdict → Segment
by_verdict a m f OldFence = still m []
by_verdict a m f (IsKept answer) = sends (OfCoord (heard_from f m)) answer []
by_verdict a m f Answers = done_for a (heard_from f m) f f.body
by_verdict a m f other = still (heard_from f m) []

abbrev pub admits : Actor → Coord → Frame → Segment
admits a m f = by_verdict a m f (verdict for_coordinator None 0 m.site f)

pub record Admits (a : Actor) (m : Coord) (f : Frame) (seg : Segment) : Type 0 where
  pub not_greater : nat_lt m.site.fence f.fence ≡ false
  pub does : seg ≡ admits a (record m { site = seen f m.site }) f

-- an operation of an older fence is refused: its servers release it, and nobody else is told
pub record RefusesOld (a : Actor) (m : Coord) (op : ℕ) (seg : Segment) : Type 0 where
  pub started : Started
  pub is : with_op op (unfinished a.records) ≡ Some started
  pub undecided : decision_of a.records op ≡ None
  pub does : seg ≡ decides m started false []

-- ---- starting what waits, in its order

-- the intent of a queued frame
abbrev pub intent_by : Body → Option Intent
intent_by (body.Intent i) = Some i
intent_by other = None

abbrev pub shares_with : Intent → Option Intent → Bool
shares_with i None = false
shares_with i (Some j) = shares i j

abbrev pub shares_started : Intent → List Started → Bool
shares_started i ss = list_any (λ (s : Started). shares i s.intent) ss

abbrev pub shares_waiting : Intent → List Frame → Bool
shares_waiting i fs = list_any (λ (f : Frame). shares_with i (intent_by f.body)) fs

-- the first that shares with no unfinished intent and with none before it, with those before and behind it
pub record Next : Type 0 where
  pub before : List Frame
  pub frame : Frame
  pub intent : Intent
  pub behind : List Frame

-- this frame is next in the queue
pub record IsNext (ss : List Started) (queue : List Frame) (n : Next) : Type 0 where
  pub is : queue ≡ n.before ++ n.frame ∷ n.behind
  pub intent : n.frame.body ≡ body.Intent n.intent
  pub free : shares_started n.intent ss ≡ false
  pub first : shares_waiting n.intent n.before ≡ false

abbrev pub started_by : Actor → Next → Started
started_by a n = record { op = next_op a.records; request = request_of n.frame; intent = n.intent }

-- it is recorded, and each of its servers is asked for its Lock
pub record Starts (a : Actor) (m : Coord) (seg : Segment) : Type 0 where
  pub next : Next
  pub is : IsNext (unfinished a.records) m.queue next
  pub does :
      seg ≡ record {
        append = Some (OfLog (log.Intent (started_by a next)));
        memory = OfCoord (record m { queue = next.before ++ next.behind });
        frames = locks_of (started_by a next) [] next.intent.parts;
        notes = [];
        todo = Proceeds ∷ [];
      }

-- none can be started
abbrev pub NoneStarts : List Started → List Frame → Type 0
NoneStarts ss queue = (n : Next) → IsNext ss queue n → ⊥

abbrev pub welcome : ℕ → Frame
welcome fence = record { from = 1; to = 0; fence = fence; tag = 0; low = 0; op = 0; boot = 0; arrival = 0; «body» = body.Welcome }

-- nothing is unfinished, and a Welcome is owed
pub record Welcomes (a : Actor) (m : Coord) (seg : Segment) : Type 0 where
  pub owed : m.owes ≡ true
  pub idle : unfinished a.records ≡ []
  pub none : NoneStarts [] m.queue
  pub does : seg ≡ sends (OfCoord (record m { owes = false })) (welcome m.site.fence) []

-- nothing can be started, and either none is owed or something is unfinished
pub record Rests (a : Actor) (m : Coord) (seg : Segment) : Type 0 where
  pub none : NoneStarts (unfinished a.records) m.queue
  pub unowed : (m.owes && length (unfinished a.records) == 0) ≡ false
  pub does : seg ≡ still m []

-- ---- at a tick: what has no answer is sent again

abbrev pub again_for : Coord → Started → Option Bool → List Frame
again_for m s (Some agreed) = finals_of s agreed m.acknowledged s.intent.parts
again_for m s None = if m.heard then locks_of s m.granted s.intent.parts else []

abbrev pub again : List Record → Coord → List Started → List Frame
again rs m [] = []
again rs m (s ∷ ss) = again_for m s (decision_of rs s.op) ++ again rs m ss

pub record SendsAgain (a : Actor) (m : Coord) (seg : Segment) : Type 0 where
  pub does : seg ≡ record { append = None; memory = OfCoord m; frames = again a.records m (unfinished a.records); notes = []; todo = [] }

pub data CoordinatorRow (x : Scene) (a : Actor) (m : Coord) (t : Task) (seg : Segment) : Type 0 where
  IsRenewed : (f : Frame) (e : ℕ) → t ≡ Given f e → Renews m f e seg → CoordinatorRow x a m t seg
  IsAdmitted : (f : Frame) (e : ℕ) → t ≡ Given f e → Admits a m f seg → CoordinatorRow x a m t seg
  IsRefused : (op : ℕ) → t ≡ Refuses op → RefusesOld a m op seg → CoordinatorRow x a m t seg
  IsStarted : t ≡ Proceeds → Starts a m seg → CoordinatorRow x a m t seg
  IsWelcomed : t ≡ Proceeds → Welcomes a m seg → CoordinatorRow x a m t seg
  IsResting : t ≡ Proceeds → Rests a m seg → CoordinatorRow x a m t seg
  IsSentAgain : t ≡ Ticks → SendsAgain a m seg → CoordinatorRow x a m t seg
