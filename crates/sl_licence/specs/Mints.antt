-- Requests for a fresh fileid, and those that were told that none is left.
use Rattle.std.specs.Prelude.{◌≡◌, ℕ, ◌==◌, ◌&&◌, List, [], Option, Some, None, Bool, true, ◌↔◌, ◌⊎◌, Vec}
use Rattle.std.specs.Ordering.{nat_cmp, ordering_then}
use Rattle.std.specs.declared.cmp.Ordering.{Ordering}
use Rattle.std.specs.BTreeMap as tree
use Rattle.std.specs.BTreeMap.{BTreeMap}
use Rattle.std.specs.BTreeSet as sorted
use Rattle.std.specs.BTreeSet.{BTreeSet}
use Rattle.sl_frames.specs.Actors.{is_proxy}
use Rattle.sl_frames.specs.declared.frame.Frame.{Frame}
use Rattle.sl_frames.specs.declared.body.Body.TheVariants as body
use Rattle.sl_history.specs.Turns.{History}
use Rattle.sl_history.specs.Frames.{frame, WasGiven}
use Rattle.sl_history.specs.Licensed.{is_in}
use Rattle.sl_licence.specs.declared.mints.Ticket.{Ticket}
use Rattle.sl_licence.specs.declared.mints.Mints.{Mints}

-- ---- tickets

-- by fence, and then by tag
abbrev pub ticket_cmp : Ticket → Ticket → Ordering
ticket_cmp a b = ordering_then (nat_cmp a.fence b.fence) (nat_cmp a.tag b.tag)

abbrev pub is_same_ticket : Ticket → Ticket → Bool
is_same_ticket a b = a.fence == b.fence && a.tag == b.tag

abbrev pub has_ticket : BTreeSet Ticket → Ticket → Bool
has_ticket s q = sorted.contains ticket_cmp s q

abbrev pub ticket_of : Frame → Ticket
ticket_of f = record { fence = f.fence; tag = f.tag }

-- ---- numbers by events

abbrev pub numbers_in : {Z : Type 0} → Option (Vec ℕ Z) → List ℕ
numbers_in None = []
numbers_in (Some v) = v.items

abbrev pub numbers_at : {Z : Type 0} → BTreeMap ℕ (Vec ℕ Z) → ℕ → List ℕ
numbers_at m n = numbers_in (tree.get nat_cmp m n)

-- ---- frames

-- the frame tells the proxy that no fileid is left
pub record IsNoneLeft (f : Frame) : Type 0 where
  pub receiver : is_proxy f.to ≡ true
  pub none : f.body ≡ body.Minted 0

-- the frame asks for a fresh fileid for the call of event n
pub record AsksFor (f : Frame) (n : ℕ) : Type 0 where
  pub site : ℕ
  pub mint : f.body ≡ body.Mint site
  pub arrival : f.arrival ≡ n

-- the proxy was told of the request that none is left
pub record WasExhausted (h : History) (q : Ticket) : Type 0 where
  pub answer : Frame
  pub given : WasGiven h answer
  pub none : IsNoneLeft answer
  pub fence : answer.fence ≡ q.fence
  pub tag : answer.tag ≡ q.tag

-- ---- the history's

-- The mints are those of the history. Beside the numbers of the requests others may stand.
pub record AreMintsOf (h : History) (m : Mints) : Type 0 where
  pub numbers : (k n : ℕ) (f : Frame) → frame h k ≡ Some f → AsksFor f n → is_in k (numbers_at m.numbers n) ≡ true
  pub exhausted : (q : Ticket) → (has_ticket m.exhausted q ≡ true) ↔ WasExhausted h q

-- the frame of this number is a request for the call of event n, and was told that none is left
pub record IsRefused (h : History) (m : Mints) (k n : ℕ) : Type 0 where
  pub asking : Frame
  pub sent : frame h k ≡ Some asking
  pub asks : AsksFor asking n
  pub told : has_ticket m.exhausted (ticket_of asking) ≡ true

-- ---- what becomes of a frame

-- a frame that tells that none is left adds its ticket
abbrev pub TellsIf : Mints → Mints → Frame → Type 0
TellsIf old new f = (new.numbers ≡ old.numbers) × ((q : Ticket) → (has_ticket new.exhausted q ≡ true) ↔ ((IsNoneLeft f × (ticket_of f ≡ q)) ⊎ (has_ticket old.exhausted q ≡ true)))

-- a frame of this number that asks for a fileid stands at its call's event
pub record Asks (old new : Mints) (k : ℕ) (f : Frame) : Type 0 where
  pub exhausted : new.exhausted ≡ old.exhausted
  pub here : (n : ℕ) → AsksFor f n → is_in k (numbers_at new.numbers n) ≡ true
  pub kept : (n j : ℕ) → is_in j (numbers_at old.numbers n) ≡ true → is_in j (numbers_at new.numbers n) ≡ true
