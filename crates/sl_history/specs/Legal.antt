-- A history is legal where its effects, in the order in which they are noted, give exactly the replies that one server
-- gives (RFC 1813): each call takes effect at most once, after it came and before its one reply.
use Rattle.std.specs.Prelude.{◌≡◌, ℕ, ◌+◌, ◌==◌, ◌≤◌, List, [], ◌∷◌, ◌++◌, Option, Some, None, Bool, true, false, not, ◌||◌, Ok, Contains, ◌⊎◌}
use Rattle.std.specs.FinMap as map
use Rattle.sl_defs.specs.Histories.{Happening, Happens}
use Rattle.sl_defs.specs.declared.event.Event.TheVariants as event
use Rattle.sl_defs.specs.declared.setup.Time.{Time}
use Rattle.sl_defs.specs.declared.note.Choice.{Choice}
use Rattle.sl_types.specs.declared.call.Call.{Call}
use Rattle.sl_types.specs.declared.call.Call.TheVariants as call
use Rattle.sl_types.specs.declared.call.Stable.{Stable}
use Rattle.sl_types.specs.declared.call.Stable.TheVariants as stable
use Rattle.sl_types.specs.Handles.{handle_of}
use Rattle.sl_types.specs.declared.reply.Reply.{Reply}
use Rattle.sl_types.specs.declared.reply.Reply.TheVariants as reply
use Rattle.sl_types.specs.Numbers.{is_ok_status}
use Rattle.sl_model.specs.Volume.{Volume}
use Rattle.sl_model.specs.Gathered.{is_unstable}
use Rattle.sl_model.specs.Laws.{status_of}
use Rattle.sl_model.specs.Perform.{perform}
use Rattle.sl_history.specs.Turns.{Remark, Did, Replied, Junk, Early, Full, Lost, Turn, History, events, so_far, turn_of, datagram_of}
use Rattle.sl_history.specs.Arrivals.{Datagram, IsJunk, IsAnswered, IsAsked, Asked, asked, answer_to, datagram, is_changing, drops_any, fileid_of}
use Rattle.sl_history.specs.Volumes.{volume_after, volume_at, Effect, effect, outcome}
use Rattle.sl_history.specs.Frames.{is_up}

-- ---- words

-- the first moment isn't after the second
abbrev pub NotAfter : Time → Time → Type 0
NotAfter a b = ((a.sec ≡ b.sec) × (a.nsec ≤ b.nsec)) ⊎ (a.sec + 1 ≤ b.sec)

-- the moment of an event
abbrev pub moment_of : Option Turn → Time → Time
moment_of None at = at
moment_of (Some t) at = t.moment

-- the call of event n has taken effect
abbrev pub is_did : ℕ → Remark → Bool
is_did n (Did k at choice) = k == n
is_did n other = false

-- or has its reply
abbrev pub is_reply : ℕ → Remark → Bool
is_reply n (Replied k e bytes) = k == n
is_reply n other = false

abbrev pub any_among : (Remark → Bool) → List Remark → Bool
any_among is [] = false
any_among is (r ∷ rs) = is r || any_among is rs

unfoldable pub any_in : (Remark → Bool) → History → Bool
any_in is [] = false
any_in is (t ∷ past) = any_in is past || any_among is t.remarks

-- the call was dropped
abbrev pub was_dropped : Option Turn → ℕ → Bool
was_dropped None n = true
was_dropped (Some t) n = drops_any n t.remarks

-- ---- an effect

-- A WRITE whose bytes are stable (RFC 1813, section 3.3.7): it writes some, and its reply says FILE_SYNC.
abbrev pub is_synced : Stable → ℕ → Bool
is_synced stable.FileSync count = not (count == 0)
is_synced other count = false

abbrev pub is_kept : Reply → Bool
is_kept (reply.Write (Ok w)) = is_synced w.committed w.count
is_kept other = false

-- The effect of a call. Its moment isn't before that of the call's event, nor after its own.
pub record IsEffect (start : Volume) (h : History) (now : Time) (n : ℕ) (at : Time) (choice : Choice) (a : Asked) : Type 0 where
  pub changing : is_changing a.call ≡ true
  pub accepted : was_dropped (turn_of h n) n ≡ false
  pub first : any_in (is_did n) h ≡ false
  pub after_arrival : NotAfter (moment_of (turn_of h n) now) at
  pub not_later : NotAfter at now
  -- the fileid of a new object was never used
  pub unused : (choice.fileid ≡ 0) ⊎ (map.get (volume_after start h).used choice.fileid ≡ None)
  -- whether a WRITE is kept is noted of it alone
  pub kept : choice.kept ≡ is_kept (perform (volume_after start h) a.call a.cred at choice).1

-- ---- a reply

-- The reply that a call has whatever the server holds: in the event of its arrival, unless the proxy is down.
pub record IsImmediate (h : History) (n e : ℕ) (bytes answer : List ℕ) : Type 0 where
  pub up : is_up h 0 ≡ true
  pub at_arrival : n ≡ events h
  pub event : e ≡ n
  pub reply : bytes ≡ answer

-- The reply to a call that may change something: that of its effect, which was noted in event e.
pub record IsOfEffect (e : ℕ) (bytes : List ℕ) (a : Asked) (x : Effect) : Type 0 where
  pub event : e ≡ x.event
  pub reply : bytes ≡ answer_to a (outcome a x).1

abbrev pub IsOfEffectIf : ℕ → List ℕ → Asked → Option Effect → Type 0
IsOfEffectIf e bytes a None = ⊥
IsOfEffectIf e bytes a (Some x) = IsOfEffect e bytes a x

-- no choice is left to a call that only asks
abbrev pub no_choice : Choice
no_choice = record { fileid = 0; kept = false }

-- what COMMIT is asked for has no unstable writes
abbrev pub is_settled : Volume → Call → Bool
is_settled v (call.Commit file offset count) = not (is_unstable (fileid_of (handle_of file)) v.unstable)
is_settled v other = true

-- The reply to a call that only asks: what the server answers at the end of event e, which isn't before the call's.
pub record IsLook (start : Volume) (h : History) (now : Time) (n e : ℕ) (bytes : List ℕ) (a : Asked) : Type 0 where
  pub accepted : was_dropped (turn_of h n) n ≡ false
  pub not_before : n ≤ e
  pub not_later : e ≤ events h
  pub reply : bytes ≡ answer_to a (perform (volume_at start h e) a.call a.cred now no_choice).1
  -- where COMMIT is answered OK, nothing of the file is unstable
  pub settled : is_ok_status (status_of (perform (volume_at start h e) a.call a.cred now no_choice).1) ≡ true → is_settled (volume_at start h e) a.call ≡ true

abbrev pub IsAnswerBy : Bool → Volume → History → Time → ℕ → ℕ → List ℕ → Asked → Type 0
IsAnswerBy true start h now n e bytes a = IsOfEffectIf e bytes a (effect start h n)
IsAnswerBy false start h now n e bytes a = IsLook start h now n e bytes a

abbrev pub IsAnswerTo : Volume → History → Time → ℕ → ℕ → List ℕ → Asked → Type 0
IsAnswerTo start h now n e bytes a = IsAnswerBy (is_changing a.call) start h now n e bytes a

abbrev pub IsReplyTo : Volume → History → Time → ℕ → ℕ → List ℕ → Datagram → Type 0
IsReplyTo start h now n e bytes IsJunk = ⊥
IsReplyTo start h now n e bytes (IsAnswered answer) = IsImmediate h n e bytes answer
IsReplyTo start h now n e bytes (IsAsked a) = IsAnswerTo start h now n e bytes a

abbrev pub datagram_in : Option Turn → Option (List ℕ)
datagram_in None = None
datagram_in (Some t) = datagram_of t.happening

-- the one reply to the datagram of an event
abbrev pub IsReplyIf : Volume → History → Time → ℕ → ℕ → List ℕ → Option (List ℕ) → Type 0
IsReplyIf start h now n e bytes None = ⊥
IsReplyIf start h now n e bytes (Some d) = IsReplyTo start h now n e bytes (datagram d)

pub record IsReply (start : Volume) (h : History) (now : Time) (n e : ℕ) (bytes : List ℕ) : Type 0 where
  pub first : any_in (is_reply n) h ≡ false
  pub is : IsReplyIf start h now n e bytes (datagram_in (turn_of h n))

-- ---- the notes of a turn

abbrev pub IsEffectIf : Volume → History → Time → ℕ → Time → Choice → Option Asked → Type 0
IsEffectIf start h now n at choice None = ⊥
IsEffectIf start h now n at choice (Some a) = IsEffect start h now n at choice a

-- A call that is dropped has neither an effect nor a reply.
pub record IsDrop (h : History) (n : ℕ) : Type 0 where
  pub undone : any_in (is_did n) h ≡ false
  pub unanswered : any_in (is_reply n) h ≡ false

-- What may be noted next. In h the newest turn has only the notes before this one.
abbrev pub MayNote : Volume → History → Time → Remark → Type 0
MayNote start h now (Did n at choice) = IsEffectIf start h now n at choice (asked h n)
MayNote start h now (Replied n e bytes) = IsReply start h now n e bytes
MayNote start h now (Junk n) = IsDrop h n
MayNote start h now (Early n) = IsDrop h n
MayNote start h now (Full n) = IsDrop h n
MayNote start h now (Lost n) = IsDrop h n
MayNote start h now other = Unit {0}

abbrev pub AllMayBeNoted : Volume → Turn → History → List Remark → List Remark → Type 0
AllMayBeNoted start t past before [] = Unit {0}
AllMayBeNoted start t past before (r ∷ rs) = MayNote start (so_far t before ∷ past) t.moment r × AllMayBeNoted start t past (before ++ r ∷ []) rs

-- a datagram that is answered whatever the server holds has its reply at once, unless the proxy is down
abbrev pub answers_at_once : Datagram → Option (List ℕ)
answers_at_once (IsAnswered answer) = Some answer
answers_at_once other = None

abbrev pub RepliesAtOnce : ℕ → List Remark → Option (List ℕ) → Type 0
RepliesAtOnce n remarks None = Unit {0}
RepliesAtOnce n remarks (Some answer) = Contains remarks (Replied n n answer)

abbrev pub AnswersAtOnce : History → Turn → Happening → Type 0
AnswersAtOnce past t (Happens (event.Call client bytes)) =
    is_up past 0 ≡ true → RepliesAtOnce (events (t ∷ past)) t.remarks (answers_at_once (datagram bytes))
AnswersAtOnce past t other = Unit {0}

-- A turn is legal after this past.
pub record IsLegalTurn (start : Volume) (past : History) (t : Turn) : Type 0 where
  pub may : AllMayBeNoted start t past [] t.remarks
  pub at_once : AnswersAtOnce past t t.happening

-- Legal: each turn is, after those before it, for a server that began with this volume.
abbrev pub Legal : Volume → History → Type 0
Legal start [] = Unit {0}
Legal start (t ∷ past) = Legal start past × IsLegalTurn start past t
