-- What a history shows of the frames that were sent.
use Rattle.std.specs.Prelude.{◌≡◌, ◌==◌, ℕ, ◌<◌, ◌≤◌, List, [], ◌∷◌, Option, Some, None, Bool, false, not, ◌&&◌, length, nat_le, is_some, if◌then◌else◌, option_and_then, option_map}
use Rattle.std.specs.List.{slice_get}
use Rattle.std.specs.Ordering.{nat_cmp, ordering_then}
use Rattle.std.specs.declared.cmp.Ordering.{Ordering}
use Rattle.std.specs.BTreeMap as tree
use Rattle.std.specs.BTreeMap.{BTreeMap}
use Rattle.std.specs.BTreeSet.{contains}
use Rattle.sl_frames.specs.declared.frame.Frame.{Frame}
use Rattle.sl_history.specs.Turns.{Turn, History}
use Rattle.sl_history.specs.Frames.{event_of_sending, frame, given_by, in_flight, is_sent, sent_among}
use Rattle.sl_history.specs.Licensed.{request}
use Rattle.sl_history.specs.Wired.{frames, given_event}
use Rattle.sl_ledger.specs.declared.sent.SentFrame.{SentFrame}
use Rattle.sl_ledger.specs.declared.sent.SentFrames.{SentFrames}

-- ---- places

-- by fence, and then by tag
abbrev pub pair_cmp : ℕ × ℕ → ℕ × ℕ → Ordering
pair_cmp a b = ordering_then (nat_cmp a.0 b.0) (nat_cmp a.1 b.1)

-- where the frame of a number stands, and the request of a fence and a tag
abbrev pub place : BTreeMap ℕ ℕ → ℕ → Option ℕ
place m n = tree.get nat_cmp m n

abbrev pub request_place : BTreeMap (ℕ × ℕ) ℕ → ℕ → ℕ → Option ℕ
request_place m fence tag = tree.get pair_cmp m (fence, tag)

-- what stands there
abbrev pub sent_at : List SentFrame → Option ℕ → Option SentFrame
sent_at xs p = option_and_then (slice_get xs) p

abbrev pub frame_in : SentFrame → Frame
frame_in x = x.frame

abbrev pub event_in : SentFrame → ℕ
event_in x = x.event

abbrev pub frame_at : List SentFrame → Option ℕ → Option Frame
frame_at xs p = option_map frame_in (sent_at xs p)

abbrev pub event_at : List SentFrame → Option ℕ → Option ℕ
event_at xs p = option_map event_in (sent_at xs p)

-- a place is one of so many, where it is one
abbrev pub IsBelow : ℕ → Option ℕ → Type 0
IsBelow count None = Unit {0}
IsBelow count (Some i) = i < count

-- the place is one from this one on
abbrev pub is_from : ℕ → Option ℕ → Bool
is_from older None = false
is_from older (Some i) = nat_le older i

-- where a frame stands now: a new one counts unless the newest turn sent one before
abbrev pub with_place : Bool → ℕ → ℕ → Option ℕ → Option ℕ
with_place same older new old = if same && not (is_from older old) then Some new else old

-- and where a request does: the first one counts
abbrev pub with_first : Bool → ℕ → Option ℕ → Option ℕ
with_first same new old = if same && not (is_some old) then Some new else old

-- the number, where there is one, is this one
abbrev pub is_number : Option ℕ → ℕ → Bool
is_number None n = false
is_number (Some k) n = k == n

-- ---- the frames of a history

-- Each place that is kept is one of a frame.
pub record ArePlaces (s : SentFrames) : Type 0 where
  pub seam : s.older ≤ length s.frames.items
  pub numbers : (n : ℕ) → IsBelow (length s.frames.items) (place s.by_number n)
  pub requests : (fence tag : ℕ) → IsBelow (length s.frames.items) (request_place s.requests fence tag)
  pub given : IsBelow (length s.frames.items) s.given

-- what is known of the newest turn: the numbers that it sent frames under, and the frame that it gives
pub record IsOfTurn (t : Turn) (past : History) (s : SentFrames) : Type 0 where
  pub recent : (n : ℕ) → is_from s.older (place s.by_number n) ≡ is_sent (sent_among t.remarks n)
  pub gives : frame_at s.frames.items s.given ≡ given_by past t
  pub gives_from : event_at s.frames.items s.given ≡ given_event past t.happening

abbrev pub IsOfNewest : History → SentFrames → Type 0
IsOfNewest [] s = Unit {0}
IsOfNewest (t ∷ past) s = IsOfTurn t past s

-- These are the frames that the history sent.
pub record AreSentIn (h : History) (s : SentFrames) : Type 0 where
  pub count : length s.frames.items ≡ frames h
  pub places : ArePlaces s
  pub numbered : (n : ℕ) → frame_at s.frames.items (place s.by_number n) ≡ frame h n
  pub dated : (n : ℕ) → event_at s.frames.items (place s.by_number n) ≡ event_of_sending h n
  pub requested : (fence tag : ℕ) → frame_at s.frames.items (request_place s.requests fence tag) ≡ request h fence tag
  pub flies : (n : ℕ) → contains nat_cmp s.flying n ≡ in_flight h n
  pub newest : IsOfNewest h s
