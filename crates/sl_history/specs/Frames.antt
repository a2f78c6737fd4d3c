-- Frames in a history: which were sent, given and are in flight; which actors are up; the fences.
use Rattle.std.specs.Prelude.{◌≡◌, ℕ, ◌==◌, List, [], ◌∷◌, Option, Some, None, Bool, true, false, not, ◌&&◌, ◌||◌, nat_le, nat_lt, if◌then◌else◌, ◌⊎◌, ◌+◌, option_and_then}
use Rattle.sl_defs.specs.Histories.{Happening, Opens, Happens}
use Rattle.sl_defs.specs.declared.event.Event.TheVariants as event
use Rattle.sl_defs.specs.declared.setup.Setup.{Setup}
use Rattle.sl_frames.specs.declared.frame.Frame.{Frame}
use Rattle.sl_frames.specs.declared.body.Body.{Body}
use Rattle.sl_frames.specs.declared.body.Body.TheVariants as body
use Rattle.sl_history.specs.Turns.{Remark, Sent, Verf, Down, Turn, History, events}

-- ---- actors

-- one of so many servers from this number on
abbrev pub is_among : ℕ → ℕ → ℕ → Bool
is_among first count a = nat_le first a && nat_lt a (first + count)

-- the volume has this actor: the proxy, the coordinator, and its servers
abbrev pub has_actor : Setup → ℕ → Bool
has_actor s a = a == 0 || (a == 1 || (is_among 16 s.dirs a || (is_among 32 s.small a || is_among 48 s.nodes a)))

abbrev pub is_down : ℕ → Remark → Bool
is_down a (Down b) = a == b
is_down a other = false

abbrev pub notes_down : ℕ → List Remark → Bool
notes_down a [] = false
notes_down a (r ∷ rs) = is_down a r || notes_down a rs

-- whether the actor is up when this has happened, and no fault took it down
abbrev pub up_by : Happening → ℕ → Bool → Bool
up_by (Opens setup) a was = has_actor setup a
up_by (Happens (event.Stop b image)) a was = was && not (a == b)
up_by (Happens (event.Start b)) a was = was || a == b
up_by other a was = was

-- An actor is down from a stop or a note of it on, until it starts without such a note.
unfoldable pub is_up : History → ℕ → Bool
is_up [] a = false
is_up (t ∷ past) a = up_by t.happening a (is_up past a) && not (notes_down a t.remarks)

-- ---- frames

-- the frame of this number, where it was sent in this turn
abbrev pub sent_among : List Remark → ℕ → Option Frame
sent_among [] k = None
sent_among (Sent n f ∷ rs) k = if n == k then Some f else sent_among rs k
sent_among (r ∷ rs) k = sent_among rs k

abbrev pub or_else : {A : Type 0} → Option A → Option A → Option A
or_else None other = other
or_else (Some x) other = Some x

-- the frame of this number, where it was sent
unfoldable pub frame : History → ℕ → Option Frame
frame [] k = None
frame (t ∷ past) k = or_else (sent_among t.remarks k) (frame past k)

abbrev pub event_if : ℕ → Option Frame → Option ℕ
event_if e None = None
event_if e (Some f) = Some e

-- the event in which it was sent, 0 for the opening
unfoldable pub event_of_sending : History → ℕ → Option ℕ
event_of_sending [] k = None
event_of_sending (t ∷ past) k = or_else (event_if (events (t ∷ past)) (sent_among t.remarks k)) (event_of_sending past k)

-- the number of the frame that is given, and that it is given, copied or lost
abbrev pub given_number : Happening → Option ℕ
given_number (Happens (event.Give k)) = Some k
given_number (Happens (event.Copy k)) = Some k
given_number other = None

abbrev pub named_number : Happening → Option ℕ
named_number (Happens (event.Drop k)) = Some k
named_number other = given_number other

-- the happening ends the flight of this frame
abbrev pub lands : Happening → ℕ → Bool
lands (Happens (event.Give k)) n = k == n
lands (Happens (event.Drop k)) n = k == n
lands other n = false

abbrev pub is_sent : Option Frame → Bool
is_sent None = false
is_sent (Some f) = true

-- it was sent, and since then neither given for good nor lost
unfoldable pub in_flight : History → ℕ → Bool
in_flight [] k = false
in_flight (t ∷ past) k = (in_flight past k && not (lands t.happening k)) || is_sent (sent_among t.remarks k)

-- the frame that the turn gives to an actor that is up
abbrev pub given_by : History → Turn → Option Frame
given_by past t = option_and_then (frame past) (given_number t.happening)

pub record IsGivenIn (past : History) (t : Turn) (f : Frame) : Type 0 where
  pub gives : given_by past t ≡ Some f
  pub up : is_up past f.to ≡ true

-- the frame was given to its receiver, which was up
abbrev pub WasGiven : History → Frame → Type 0
WasGiven [] f = ⊥
WasGiven (t ∷ past) f = IsGivenIn past t f ⊎ WasGiven past f

-- it was sent
pub record WasSent (h : History) (f : Frame) : Type 0 where
  pub number : ℕ
  pub is : frame h number ≡ Some f

-- ---- fences

-- the fence of a Hello
abbrev pub hello_in : Frame → Body → Option ℕ
hello_in f body.Hello = Some f.fence
hello_in f other = None

abbrev pub hello_fence : Remark → Option ℕ
hello_fence (Sent k f) = hello_in f f.body
hello_fence other = None

abbrev pub verf_of : Remark → Option ℕ
verf_of (Verf v) = Some v
verf_of other = None

-- the last thing of its kind among these notes
abbrev pub last_among : {A : Type 0} → (Remark → Option A) → List Remark → Option A
last_among of [] = None
last_among of (r ∷ rs) = or_else (last_among of rs) (of r)

abbrev pub last_in : {A : Type 0} → (Remark → Option A) → History → Option A
last_in of [] = None
last_in of (t ∷ past) = or_else (last_among of t.remarks) (last_in of past)

-- the fence that the proxy last said hello under, and the last write verifier
unfoldable pub last_hello : History → Option ℕ
last_hello h = last_in hello_fence h

unfoldable pub last_verf : History → Option ℕ
last_verf h = last_in verf_of h
