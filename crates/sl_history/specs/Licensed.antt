-- A history is licensed where what it drops, forgets, flushes and keeps, it may.
use Rattle.std.specs.Prelude.{◌≡◌, ℕ, ◌+◌, ◌==◌, ◌<◌, ◌≤◌, List, [], ◌∷◌, ◌++◌, Option, Some, None, Bool, true, false, not, ◌&&◌, ◌||◌, nat_le, length, filter, if◌then◌else◌}
use Rattle.std.specs.List.{list_any}
use Rattle.std.specs.FinMap as map
use Rattle.sl_defs.specs.Histories.{Happening, Happens}
use Rattle.sl_defs.specs.declared.event.Event.TheVariants as event
use Rattle.sl_defs.specs.declared.setup.Time.{Time}
use Rattle.sl_defs.specs.declared.note.Choice.{Choice}
use Rattle.sl_types.specs.declared.call.Call.{Call}
use Rattle.sl_types.specs.declared.call.Call.TheVariants as call
use Rattle.sl_types.specs.declared.call.Stable.TheVariants as stable
use Rattle.sl_types.specs.declared.kind.Status.{Status}
use Rattle.sl_types.specs.declared.kind.Status.TheVariants as status
use Rattle.sl_types.specs.declared.handle.Handle.{Handle}
use Rattle.sl_types.specs.Handles.{handle_of}
use Rattle.sl_model.specs.declared.node.Entry.{Entry}
use Rattle.sl_model.specs.Volume.{Volume, Unstable, is_dir}
use Rattle.sl_model.specs.Gathered.{is_unstable}
use Rattle.sl_model.specs.Laws.{status_of}
use Rattle.sl_model.specs.Perform.{perform}
use Rattle.sl_frames.specs.Actors.{is_proxy, is_coordinator, is_data}
use Rattle.sl_frames.specs.declared.frame.Frame.{Frame}
use Rattle.sl_frames.specs.declared.body.Body.{Body}
use Rattle.sl_frames.specs.declared.body.Body.TheVariants as body
use Rattle.sl_frames.specs.declared.intent.What.{What}
use Rattle.sl_frames.specs.declared.intent.What.TheVariants as what
use Rattle.sl_history.specs.Bodies.{is_decided}
use Rattle.sl_history.specs.Turns.{Remark, Sent, Did, Flush, Verf, Junk, Early, Full, Lost, Down, Turn, History, events, so_far, datagram_of}
use Rattle.sl_history.specs.Frames.{or_else, is_up, given_by, WasGiven, WasSent}
use Rattle.sl_history.specs.Arrivals.{Asked, asked, dropped_by, is_commit, is_changing, fileid_of}
use Rattle.sl_history.specs.Volumes.{volume_after}

-- ---- lists without repeats

abbrev pub is_in : ℕ → List ℕ → Bool
is_in n ns = list_any (λ m. m == n) ns

abbrev pub with : ℕ → List ℕ → List ℕ
with n ns = if is_in n ns then ns else n ∷ ns

abbrev pub without : ℕ → List ℕ → List ℕ
without n ns = filter (λ m. not (m == n)) ns

abbrev pub together : List ℕ → List ℕ → List ℕ
together [] ns = ns
together (m ∷ ms) ns = with m (together ms ns)

-- ---- a new write verifier

-- an actor whose end may lose unstable writes: the proxy and the data servers
abbrev pub may_lose : ℕ → Bool
may_lose a = is_proxy a || is_data a

abbrev pub stops_one : History → Happening → Bool
stops_one past (Happens (event.Stop a image)) = may_lose a && is_up past a
stops_one past other = false

abbrev pub lost_on : List Remark → Bool → Bool
lost_on [] was = was
lost_on (Verf v ∷ rs) was = lost_on rs false
lost_on (Down a ∷ rs) was = lost_on rs (was || may_lose a)
lost_on (r ∷ rs) was = lost_on rs was

-- since the last write verifier, or from the beginning on, such an actor ended
unfoldable pub may_be_lost : History → Bool
may_be_lost [] = true
may_be_lost (t ∷ past) = lost_on t.remarks (may_be_lost past || stops_one past t.happening)

-- a new verifier, greater than each before it
pub record IsRenewal (start : Volume) (h : History) (v : ℕ) : Type 0 where
  pub greater : (volume_after start h).verifier < v
  pub lost : may_be_lost h ≡ true

-- ---- a flush

-- the file that an intent flushes
abbrev pub flushed_by : What → Option ℕ
flushed_by (what.Flush f) = Some f
flushed_by (what.Call chosen kept) = None

abbrev pub flush_in : Body → Option ℕ
flush_in (body.Intent i) = flushed_by i.what
flush_in other = None

-- a request for the flush of a file
abbrev pub is_flush_of : ℕ → Option ℕ → Bool
is_flush_of f None = false
is_flush_of f (Some g) = f == g

abbrev pub pair_in : List (ℕ × ℕ) → ℕ × ℕ → Bool
pair_in ps p = list_any (λ (q : ℕ × ℕ). q.0 == p.0 && q.1 == p.1) ps

abbrev pub with_request : ℕ → Option Frame → List (ℕ × ℕ) → List (ℕ × ℕ)
with_request f None ps = ps
with_request f (Some g) ps =
    if is_coordinator g.to && (is_flush_of f (flush_in g.body) && not (pair_in ps (g.fence, g.tag))) then (g.fence, g.tag) ∷ ps else ps

abbrev pub given_up : History → Turn → Option Frame → Option Frame
given_up past t None = None
given_up past t (Some f) = if is_up past f.to then Some f else None

-- the frame that a turn gives to an actor that is up
abbrev pub reaches : History → Turn → Option Frame
reaches past t = given_up past t (given_by past t)

-- the different requests for a flush of the file that the coordinator was given, by fence and tag
unfoldable pub requests_given : History → ℕ → List (ℕ × ℕ)
requests_given [] f = []
requests_given (t ∷ past) f = with_request f (reaches past t) (requests_given past f)

abbrev pub flushes_among : ℕ → List Remark → ℕ
flushes_among f [] = 0
flushes_among f (Flush g ∷ rs) = (if f == g then 1 else 0) + flushes_among f rs
flushes_among f (r ∷ rs) = flushes_among f rs

unfoldable pub flushes : History → ℕ → ℕ
flushes [] f = 0
flushes (t ∷ past) f = flushes past f + flushes_among f t.remarks

-- the file has unstable writes, and for each time that it was flushed there was a request of its own
pub record IsFlush (start : Volume) (h : History) (f : ℕ) : Type 0 where
  pub unstable : is_unstable f (volume_after start h).unstable ≡ true
  pub requested : flushes h f + 1 ≤ length (requests_given h f)

-- ---- which calls flush

-- a file's handle, and a name's object that is no directory
abbrev pub file_by : Option Handle → List ℕ
file_by None = []
file_by (Some h) = if is_dir h.kind then [] else h.fileid ∷ []

abbrev pub handles_file : List ℕ → List ℕ
handles_file bytes = file_by (handle_of bytes)

abbrev pub object_by : Option Entry → List ℕ
object_by None = []
object_by (Some e) = if is_dir e.kind then [] else e.fileid ∷ []

abbrev pub named_in : Volume → Option Handle → List ℕ → List ℕ
named_in v None name = []
named_in v (Some h) name = object_by (map.get v.names (h.fileid, name))

-- a place of a call: a directory, which may be no directory's handle, and a name in it
abbrev pub at_place : Volume → List ℕ → List ℕ → List ℕ
at_place v dir name = handles_file dir ++ named_in v (handle_of dir) name

-- The files that a call keeps for itself alone while it runs: those of its handles, and those that its names lead to.
abbrev pub kept_alone : Volume → Call → List ℕ
kept_alone v (call.Setattr object attributes guard) = handles_file object
kept_alone v (call.Write file offset count stability bytes) = handles_file file
kept_alone v (call.Create dir name how) = at_place v dir name
kept_alone v (call.Mkdir dir name attributes) = at_place v dir name
kept_alone v (call.Symlink dir name attributes path) = at_place v dir name
kept_alone v (call.Mknod dir name made) = at_place v dir name
kept_alone v (call.Remove dir name) = at_place v dir name
kept_alone v (call.Rmdir dir name) = at_place v dir name
kept_alone v (call.Rename from name to to_name) = at_place v from name ++ at_place v to to_name
kept_alone v (call.Link file dir name) = handles_file file ++ at_place v dir name
kept_alone v (call.Commit file offset count) = handles_file file
kept_alone v other = []

-- so many unstable writes may a file have
abbrev pub most_writes : ℕ
most_writes = 32

abbrev pub writes_of : ℕ → List Unstable → ℕ
writes_of f ws = length (filter (λ (w : Unstable). w.fileid == f) ws)

-- an unstable WRITE flushes only where the file has as many unstable writes as it may have
abbrev pub is_due : Volume → ℕ → Call → Bool
is_due v f (call.Write file offset count stable.Unstable bytes) = nat_le most_writes (writes_of f v.unstable) && not (count == 0)
is_due v f other = true

abbrev pub flushes_for : Volume → ℕ → Option Asked → Bool
flushes_for v f None = false
flushes_for v f (Some a) = (is_changing a.call || is_commit a.call) && (is_in f (kept_alone v a.call) && is_due v f a.call)

-- A flush is asked for only for a call that keeps the file, which has unstable writes as that event ends.
pub record IsFlushRequest (start : Volume) (h : History) (arrival f : ℕ) : Type 0 where
  pub unstable : is_unstable f (volume_after start h).unstable ≡ true
  pub call : flushes_for (volume_after start h) f (asked h arrival) ≡ true

-- the request for this file's flush was sent before, for the same call
abbrev pub is_again : ℕ → Frame → Remark → Bool
is_again file f (Sent k g) = is_flush_of file (flush_in g.body) && (g.fence == f.fence && (g.tag == f.tag && g.arrival == f.arrival))
is_again file f other = false

abbrev pub again_among : ℕ → Frame → List Remark → Bool
again_among file f [] = false
again_among file f (r ∷ rs) = is_again file f r || again_among file f rs

unfoldable pub was_sent : History → ℕ → Frame → Bool
was_sent [] file f = false
was_sent (t ∷ past) file f = was_sent past file f || again_among file f t.remarks

-- A sent frame stands before all that is noted of its event. So whether a flush may be asked for is judged as the event ends.
abbrev pub IsRequestedIf : Volume → History → History → Frame → Option ℕ → Type 0
IsRequestedIf start h ended f None = Unit {0}
IsRequestedIf start h ended f (Some file) = was_sent h file f ≡ false → IsFlushRequest start ended f.arrival file

-- ---- files with unstable writes, as the proxy sees them

-- the request of a fence and tag
abbrev pub is_request : Body → Bool
is_request (body.Forward chosen packet) = true
is_request (body.Ask keys) = true
is_request (body.List dir cookie limit) = true
is_request (body.Mint site) = true
is_request (body.Intent i) = true
is_request other = false

abbrev pub request_if : ℕ → ℕ → Frame → Option Frame
request_if fence tag f = if is_request f.body && (f.fence == fence && f.tag == tag) then Some f else None

abbrev pub request_among : List Remark → ℕ → ℕ → Option Frame
request_among [] fence tag = None
request_among (Sent k f ∷ rs) fence tag = or_else (request_if fence tag f) (request_among rs fence tag)
request_among (r ∷ rs) fence tag = request_among rs fence tag

unfoldable pub request : History → ℕ → ℕ → Option Frame
request [] fence tag = None
request (t ∷ past) fence tag = or_else (request past fence tag) (request_among t.remarks fence tag)

-- the file whose flush this answer ends
abbrev pub flush_of_request : Option Frame → Option ℕ
flush_of_request None = None
flush_of_request (Some f) = flush_in f.body

abbrev pub ended_by : History → Option Frame → Option ℕ
ended_by past None = None
ended_by past (Some f) = if is_proxy f.to && is_decided f.body then flush_of_request (request past f.fence f.tag) else None

abbrev pub without_if : Option ℕ → List ℕ → List ℕ
without_if None fs = fs
without_if (Some f) fs = without f fs

abbrev pub flushing_on : List Remark → List ℕ → List ℕ
flushing_on [] fs = fs
flushing_on (Flush f ∷ rs) fs = flushing_on rs (with f fs)
flushing_on (Verf v ∷ rs) fs = flushing_on rs []
flushing_on (r ∷ rs) fs = flushing_on rs fs

-- the files that were flushed, whose flush the proxy hasn't been told of yet
unfoldable pub flushing : History → List ℕ
flushing [] = []
flushing (t ∷ past) = flushing_on t.remarks (without_if (ended_by past (reaches past t)) (flushing past))

abbrev pub files_of : List Unstable → List ℕ
files_of [] = []
files_of (w ∷ ws) = with w.fileid (files_of ws)

-- the files that have unstable writes, or are being flushed
abbrev pub dirty : Volume → History → List ℕ
dirty start h = together (flushing h) (files_of (volume_after start h).unstable)

-- so many files may have unstable writes
abbrev pub most_dirty : ℕ
most_dirty = 1024

abbrev pub has_many : Volume → History → ℕ → Bool
has_many start h f = nat_le most_dirty (length (without f (dirty start h)))

-- from event n on, at the end of some event or now, so many other files had them
unfoldable pub had_many : Volume → History → ℕ → ℕ → Bool
had_many start [] n f = false
had_many start (t ∷ past) n f = (nat_le n (events (t ∷ past)) && has_many start (t ∷ past) f) || had_many start past n f

-- An unstable WRITE is kept only where so many other files have unstable writes.
abbrev pub MayBeKept : Volume → History → ℕ → Choice → Call → Type 0
MayBeKept start h n choice (call.Write file offset count stable.Unstable bytes) = choice.kept ≡ true → had_many start h n (fileid_of (handle_of file)) ≡ true
MayBeKept start h n choice other = Unit {0}

-- ---- no fileid is left

abbrev pub is_no_space : Status → Bool
is_no_space status.NoSpc = true
is_no_space other = false

-- The proxy was given the answer that none is left, to its request for this call.
pub record IsTold (h : History) (n : ℕ) : Type 0 where
  pub asked_for : Frame
  pub answer : Frame
  pub sent : WasSent h asked_for
  pub site : ℕ
  pub mint : asked_for.body ≡ body.Mint site
  pub arrival : asked_for.arrival ≡ n
  pub given : WasGiven h answer
  pub receiver : is_proxy answer.to ≡ true
  pub fence : answer.fence ≡ asked_for.fence
  pub tag : answer.tag ≡ asked_for.tag
  pub none : answer.body ≡ body.Minted 0

pub record IsLicensedEffect (start : Volume) (h : History) (n : ℕ) (at : Time) (choice : Choice) (a : Asked) : Type 0 where
  pub kept : MayBeKept start h n choice a.call
  pub no_space : is_no_space (status_of (perform (volume_after start h) a.call a.cred at choice).1) ≡ true → IsTold h n

-- ---- the notes of a turn

abbrev pub IsLicensedEffectIf : Volume → History → ℕ → Time → Choice → Option Asked → Type 0
IsLicensedEffectIf start h n at choice None = ⊥
IsLicensedEffectIf start h n at choice (Some a) = IsLicensedEffect start h n at choice a

-- What may be noted next. In h the newest turn has only the notes before this one, and in ended all of its notes.
abbrev pub MayNote : Volume → History → History → Remark → Type 0
MayNote start h ended (Verf v) = IsRenewal start h v
MayNote start h ended (Flush f) = IsFlush start h f
MayNote start h ended (Did n at choice) = IsLicensedEffectIf start h n at choice (asked h n)
MayNote start h ended (Sent k f) = IsRequestedIf start h ended f (flush_in f.body)
MayNote start h ended other = Unit {0}

abbrev pub AllMayBeNoted : Volume → Turn → History → List Remark → List Remark → Type 0
AllMayBeNoted start t past before [] = Unit {0}
AllMayBeNoted start t past before (r ∷ rs) = MayNote start (so_far t before ∷ past) (t ∷ past) r × AllMayBeNoted start t past (before ++ r ∷ []) rs

-- ---- what is dropped

-- the note drops a datagram
abbrev pub is_drop : Remark → Bool
is_drop (Junk n) = true
is_drop (Early n) = true
is_drop (Full n) = true
is_drop (Lost n) = true
is_drop other = false

abbrev pub dropping : List Remark → List Remark
dropping rs = filter is_drop rs

abbrev pub option_list : Option Remark → List Remark
option_list None = []
option_list (Some r) = r ∷ []

abbrev pub due_drop : History → Turn → Option (List ℕ) → List Remark
due_drop past t None = []
due_drop past t (Some bytes) = option_list (dropped_by past (events (t ∷ past)) bytes)

-- A turn is licensed after this past: exactly a datagram that has to be dropped is, by that note.
pub record IsLicensedTurn (start : Volume) (past : History) (t : Turn) : Type 0 where
  pub may : AllMayBeNoted start t past [] t.remarks
  pub dropped : dropping t.remarks ≡ due_drop past t (datagram_of t.happening)

abbrev pub Licensed : Volume → History → Type 0
Licensed start [] = Unit {0}
Licensed start (t ∷ past) = Licensed start past × IsLicensedTurn start past t
