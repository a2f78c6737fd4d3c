-- A history remembers where the proxy uses the attributes of a file that it was just told, and asks no server for them
-- again.
use Rattle.std.specs.Prelude.{◌≡◌, ℕ, ◌+◌, ◌==◌, ◌<◌, List, [], ◌∷◌, ◌++◌, Option, Some, None, Bool, true, false, not, ◌&&◌, ◌||◌, nat_le, Ok, if◌then◌else◌, option_and_then}
use Rattle.std.specs.List.{list_any}
use Rattle.sl_defs.specs.Histories.{Happening, Happens}
use Rattle.sl_defs.specs.declared.event.Event.TheVariants as event
use Rattle.sl_types.specs.declared.attributes.Fattr.{Fattr}
use Rattle.sl_types.specs.declared.call.Call.{Call}
use Rattle.sl_types.specs.declared.call.Call.TheVariants as call
use Rattle.sl_types.specs.declared.handle.Handle.{Handle}
use Rattle.sl_types.specs.Handles.{handle_of}
use Rattle.sl_types.specs.declared.reply.Reply.{Reply}
use Rattle.sl_types.specs.declared.reply.Reply.TheVariants as reply
use Rattle.sl_model.specs.Volume.{is_dir, is_reg}
use Rattle.sl_cells.specs.declared.keys.CellKey.{CellKey}
use Rattle.sl_cells.specs.declared.keys.CellKey.TheVariants as key
use Rattle.sl_frames.specs.declared.body.Body.{Body}
use Rattle.sl_frames.specs.declared.body.Body.TheVariants as body
use Rattle.sl_history.specs.Bodies.{is_forward}
use Rattle.sl_history.specs.Turns.{Remark, Sent, Flush, Verf, Replied, Turn, History, events, so_far}
use Rattle.sl_history.specs.Arrivals.{Asked, asked, asked_by, is_changing, is_commit, arrives, waiting}
use Rattle.sl_history.specs.Wired.{results_of}

-- ---- replies that tell a file's attributes

abbrev pub attributes_in : Reply → Option Fattr
attributes_in (reply.Getattr (Ok a)) = Some a
attributes_in (reply.Lookup (Ok l)) = l.attributes
attributes_in (reply.Access (Ok c)) = c.attributes
attributes_in (reply.Read (Ok r)) = r.attributes
attributes_in other = None

abbrev pub is_file : ℕ → Option Fattr → Bool
is_file f None = false
is_file f (Some a) = is_reg a.kind && a.fileid == f

abbrev pub tells_by : ℕ → List ℕ → Option Asked → Bool
tells_by f bytes None = false
tells_by f bytes (Some a) = is_file f (option_and_then attributes_in (results_of a.procedure bytes))

-- ---- what makes the proxy forget them

abbrev pub may_change : Call → Bool
may_change c = is_changing c || is_commit c

abbrev pub changes_by : Option Asked → Bool
changes_by None = false
changes_by (Some a) = may_change a.call

-- no call but n waits that may change something
abbrev pub is_idle : History → ℕ → Bool
is_idle h n = not (list_any (λ m. not (m == n) && changes_by (asked h m)) (waiting h))

abbrev pub forgets : Remark → Bool
forgets (Verf v) = true
forgets (Flush f) = true
forgets other = false

-- A reply of this turn told the attributes of this regular file, while no call but n waited that may change something; and
-- behind it no write verifier and no flush is noted.
abbrev pub tells_among : Turn → History → ℕ → ℕ → List Remark → List Remark → Bool
tells_among t past n f before [] = false
tells_among t past n f before (Replied m e bytes ∷ rs) =
    (tells_by f bytes (asked (t ∷ past) m) && (is_idle (so_far t before ∷ past) n && not (list_any forgets rs)))
    || tells_among t past n f (before ++ Replied m e bytes ∷ []) rs
tells_among t past n f before (r ∷ rs) = tells_among t past n f (before ++ r ∷ []) rs

-- that is so in event e
unfoldable pub tells : History → ℕ → ℕ → ℕ → Bool
tells [] n e f = false
tells (t ∷ past) n e f = if events (t ∷ past) == e then tells_among t past n f [] t.remarks || tells past n e f else tells past n e f

-- a call that isn't dropped comes, is not n, and may change something
abbrev pub comes : History → Turn → ℕ → Bool
comes past t n = list_any (λ m. not (m == n) && changes_by (asked_by t)) (arrives (events (t ∷ past)) t (asked_by t))

abbrev pub is_datagram : Happening → Bool
is_datagram (Happens (event.Call client bytes)) = true
is_datagram other = false

-- behind event e no write verifier, no flush and no other call that may change something
unfoldable pub is_calm : History → ℕ → ℕ → Bool
is_calm [] e n = true
is_calm (t ∷ past) e n =
    if nat_le (events (t ∷ past)) e then true
    else is_calm past e n && (not (list_any forgets t.remarks) && not (comes past t n))

unfoldable pub datagrams_since : History → ℕ → ℕ
datagrams_since [] e = 0
datagrams_since (t ∷ past) e = if nat_le (events (t ∷ past)) e then 0 else datagrams_since past e + (if is_datagram t.happening then 1 else 0)

-- so many datagrams make the proxy forget no file
abbrev pub most_datagrams : ℕ
most_datagrams = 3840

-- ---- what isn't asked then

abbrev pub is_key_of : ℕ → CellKey → Bool
is_key_of f (key.Attr g) = f == g
is_key_of f (key.Name d name) = false

abbrev pub asks_for : ℕ → Body → Bool
asks_for f (body.Ask keys) = list_any (is_key_of f) keys
asks_for f other = false

abbrev pub names_file : ℕ → Option Handle → Bool
names_file f None = false
names_file f (Some h) = is_reg h.kind && h.fileid == f

abbrev pub is_other_directory : ℕ → Option Handle → Bool
is_other_directory f None = false
is_other_directory f (Some h) = is_dir h.kind && not (h.fileid == f)

-- a request for a call that asks a server for this file's attributes
abbrev pub asks_again : ℕ → Body → Call → Bool
asks_again f b (call.Getattr object) = names_file f (handle_of object) && is_forward b
asks_again f b (call.Read file offset count) = names_file f (handle_of file) && asks_for f b
asks_again f b (call.Write file offset count stability bytes) = names_file f (handle_of file) && asks_for f b
asks_again f b (call.Commit file offset count) = names_file f (handle_of file) && asks_for f b
asks_again f b (call.Lookup dir name) = is_other_directory f (handle_of dir) && asks_for f b
asks_again f b other = false

abbrev pub asks_again_by : ℕ → Body → Option Asked → Bool
asks_again_by f b None = false
asks_again_by f b (Some a) = asks_again f b a.call

-- The file's attributes were told in an event before the call came, and the proxy still has them.
pub record IsKnown (h : History) (n e f : ℕ) : Type 0 where
  pub told : tells h n e f ≡ true
  pub before : e < n
  pub calm : is_calm h e n ≡ true
  pub few : datagrams_since h e < most_datagrams

abbrev pub MayNote : History → Remark → Type 0
MayNote h (Sent k f) = (e file : ℕ) → IsKnown h f.arrival e file → asks_again_by file f.body (asked h f.arrival) ≡ false
MayNote h other = Unit {0}

abbrev pub AllMayBeNoted : Turn → History → List Remark → List Remark → Type 0
AllMayBeNoted t past before [] = Unit {0}
AllMayBeNoted t past before (r ∷ rs) = MayNote (so_far t before ∷ past) r × AllMayBeNoted t past (before ++ r ∷ []) rs

abbrev pub Remembers : History → Type 0
Remembers [] = Unit {0}
Remembers (t ∷ past) = Remembers past × AllMayBeNoted t past [] t.remarks
