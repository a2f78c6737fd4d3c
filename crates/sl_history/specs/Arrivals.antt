-- Datagrams: which are calls, which are answered whatever the server holds, and which are dropped.
use Rattle.std.specs.Prelude.{ℕ, ◌==◌, List, [], ◌∷◌, ◌++◌, Option, Some, None, Bool, true, false, not, ◌&&◌, ◌||◌, nat_le, length, filter, if◌then◌else◌, option_and_then}
use Rattle.sl_defs.specs.Rpc.{CallHeader, call_header_at, immediate_reply, accepted_text}
use Rattle.sl_types.specs.declared.cred.Cred.{Cred}
use Rattle.sl_types.specs.declared.call.Call.{Call}
use Rattle.sl_types.specs.declared.call.Call.TheVariants as call
use Rattle.sl_types.specs.declared.handle.Handle.{Handle}
use Rattle.sl_types.specs.declared.reply.Reply.{Reply}
use Rattle.sl_rpc.specs.Heads.{caller_of}
use Rattle.sl_calls.specs.Reading.{args_at}
use Rattle.sl_replies.specs.Texts.{reply_text}
use Rattle.sl_model.specs.Procedures.{is_reading}
use Rattle.sl_history.specs.Turns.{Remark, Replied, Verf, Junk, Early, Full, Lost, Turn, History, events, turn_of, datagram_of}
use Rattle.sl_history.specs.Frames.{is_up, last_hello, last_verf}

-- ---- what a datagram is

-- a call as it stands in a datagram (RFC 5531, section 9): its xid, its procedure, the call, and whom it is made for
pub record Asked : Type 0 where
  pub xid : ℕ
  pub procedure : ℕ
  pub call : Call
  pub cred : Cred

pub data Datagram : Type 0 where
  -- no call header, whole
  IsJunk : Datagram
  -- it is answered whatever the server holds: the call is refused, its arguments can't be read, or it is NULL
  IsAnswered : List ℕ → Datagram
  IsAsked : Asked → Datagram

-- arguments that aren't in the grammar are answered so (RFC 5531, section 9, GARBAGE_ARGS)
abbrev pub with_args : CallHeader → Option (Call × List ℕ) → Datagram
with_args h None = IsAnswered (accepted_text h.xid 4)
with_args h (Some c) = IsAsked (record { xid = h.xid; procedure = h.procedure; call = c.0; cred = caller_of h })

abbrev pub with_header : CallHeader → List ℕ → Option (List ℕ) → Datagram
with_header h args (Some answer) = IsAnswered answer
with_header h args None = with_args h (args_at h.procedure args)

abbrev pub read_header : Option (CallHeader × List ℕ) → Datagram
read_header None = IsJunk
read_header (Some h) = with_header h.0 h.1 (immediate_reply h.0)

-- what these bytes are
unfoldable pub datagram : List ℕ → Datagram
datagram bytes = read_header (call_header_at bytes)

abbrev pub asked_in : Datagram → Option Asked
asked_in (IsAsked a) = Some a
asked_in other = None

-- the call that arrived in an event
abbrev pub asked_by : Turn → Option Asked
asked_by t = option_and_then (λ bytes. asked_in (datagram bytes)) (datagram_of t.happening)

unfoldable pub asked : History → ℕ → Option Asked
asked h n = option_and_then asked_by (turn_of h n)

-- the whole reply to a call
abbrev pub answer_to : Asked → Reply → List ℕ
answer_to a reply = accepted_text a.xid 0 ++ reply_text reply

-- COMMIT makes nothing but what was written stable
abbrev pub is_commit : Call → Bool
is_commit (call.Commit file offset count) = true
is_commit other = false

-- a call that may change something
abbrev pub is_changing : Call → Bool
is_changing c = not (is_reading c) && not (is_commit c)

-- the fileid of a handle, 0 for what is none
abbrev pub fileid_of : Option Handle → ℕ
fileid_of None = 0
fileid_of (Some h) = h.fileid

-- ---- calls that wait for their reply

-- the note drops the call of this event
abbrev pub drops : ℕ → Remark → Bool
drops n (Junk k) = k == n
drops n (Early k) = k == n
drops n (Full k) = k == n
drops n (Lost k) = k == n
drops n other = false

abbrev pub drops_any : ℕ → List Remark → Bool
drops_any n [] = false
drops_any n (r ∷ rs) = drops n r || drops_any n rs

-- a call that isn't dropped waits
abbrev pub arrives : ℕ → Turn → Option Asked → List ℕ
arrives n t None = []
arrives n t (Some a) = if drops_any n t.remarks then [] else n ∷ []

-- and no longer where it has its reply, or where all calls are forgotten
abbrev pub waits_on : List Remark → List ℕ → List ℕ
waits_on [] ns = ns
waits_on (Verf v ∷ rs) ns = waits_on rs []
waits_on (Replied n e bytes ∷ rs) ns = waits_on rs (filter (λ k. not (k == n)) ns)
waits_on (r ∷ rs) ns = waits_on rs ns

-- the calls, without those answered whatever the server holds, that came since the last write verifier, weren't dropped
-- and have no reply
unfoldable pub waiting : History → List ℕ
waiting [] = []
waiting (t ∷ past) = waits_on t.remarks (waiting past ++ arrives (events (t ∷ past)) t (asked_by t))

-- ---- what is dropped

-- so many calls wait at most
abbrev pub most_waiting : ℕ
most_waiting = 256

-- the coordinator welcomed the proxy under the fence that the proxy has
abbrev pub same_fence : Option ℕ → Option ℕ → Bool
same_fence (Some a) (Some b) = a == b
same_fence a b = false

abbrev pub is_welcomed : History → Bool
is_welcomed h = same_fence (last_hello h) (last_verf h)

-- the note that a call is dropped by, if it has to be
abbrev pub crowded : History → ℕ → Option Remark
crowded past n =
    if not (is_welcomed past) then Some (Early n)
    else if nat_le most_waiting (length (waiting past)) then Some (Full n)
    else None

abbrev pub turned_away : History → ℕ → Datagram → Option Remark
turned_away past n IsJunk = Some (Junk n)
turned_away past n (IsAnswered reply) = None
turned_away past n (IsAsked a) = crowded past n

-- The note that the datagram of event n is dropped by, if it has to be, after this past.
unfoldable pub dropped_by : History → ℕ → List ℕ → Option Remark
dropped_by past n bytes = if is_up past 0 then turned_away past n (datagram bytes) else Some (Lost n)
