-- Requests for flushes that were sent.
use Rattle.std.specs.Prelude.{◌≡◌, ℕ, ◌==◌, ◌&&◌, ◌||◌, Option, Some, None, Bool, true, false}
use Rattle.std.specs.Ordering.{nat_cmp, ordering_then}
use Rattle.std.specs.declared.cmp.Ordering.{Ordering}
use Rattle.std.specs.BTreeSet as sorted
use Rattle.std.specs.BTreeSet.{BTreeSet}
use Rattle.sl_frames.specs.declared.frame.Frame.{Frame}
use Rattle.sl_history.specs.Turns.{History, Remark, Sent}
use Rattle.sl_history.specs.Licensed.{flush_in, was_sent}
use Rattle.sl_licence.specs.declared.asking.FlushRequest.{FlushRequest}
use Rattle.sl_licence.specs.declared.asking.Requests.{Requests}

-- by file, fence, tag and event
abbrev pub request_cmp : FlushRequest → FlushRequest → Ordering
request_cmp a b = ordering_then (nat_cmp a.file b.file) (ordering_then (nat_cmp a.fence b.fence) (ordering_then (nat_cmp a.tag b.tag) (nat_cmp a.arrival b.arrival)))

abbrev pub is_same_request : FlushRequest → FlushRequest → Bool
is_same_request a b = a.file == b.file && (a.fence == b.fence && (a.tag == b.tag && a.arrival == b.arrival))

abbrev pub has_request : BTreeSet FlushRequest → FlushRequest → Bool
has_request s q = sorted.contains request_cmp s q

-- the request that the frame is for a file
abbrev pub request_for : Frame → ℕ → FlushRequest
request_for f file = record { file = file; fence = f.fence; tag = f.tag; arrival = f.arrival }

abbrev pub request_if : Frame → Option ℕ → Option FlushRequest
request_if f None = None
request_if f (Some file) = Some (request_for f file)

-- the request that a note sends
abbrev pub request_in : Remark → Option FlushRequest
request_in (Sent k f) = request_if f (flush_in f.body)
request_in other = None

abbrev pub unless : {A : Type 0} → Bool → A → Option A
unless true x = None
unless false x = Some x

abbrev pub new_if : History → Frame → Option ℕ → Option FlushRequest
new_if h f None = None
new_if h f (Some file) = unless (was_sent h file f) (request_for f file)

-- the request that a note sends and that wasn't sent before
abbrev pub new_request : History → Remark → Option FlushRequest
new_request h (Sent k f) = new_if h f (flush_in f.body)
new_request h other = None

-- The requests are those that the history sent.
pub record AreRequestsOf (h : History) (x : Requests) : Type 0 where
  pub sent : (f : Frame) (file : ℕ) → has_request x.sent (request_for f file) ≡ was_sent h file f

-- one request more, where there is one
abbrev pub Sends : Requests → Requests → Option FlushRequest → Type 0
Sends old new None = new ≡ old
Sends old new (Some q) = (p : FlushRequest) → has_request new.sent p ≡ (is_same_request q p || has_request old.sent p)
