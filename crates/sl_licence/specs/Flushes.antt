-- Requests for flushes that the coordinator was given.
use Rattle.std.specs.Prelude.{◌≡◌, ℕ, ◌+◌, ◌==◌, ◌&&◌, ◌||◌, Option, Some, None, Bool, true, not, length, unwrap_or, if◌then◌else◌}
use Rattle.std.specs.Ordering.{nat_cmp, ordering_then}
use Rattle.std.specs.declared.cmp.Ordering.{Ordering}
use Rattle.std.specs.BTreeMap as tree
use Rattle.std.specs.BTreeMap.{BTreeMap}
use Rattle.std.specs.BTreeSet as sorted
use Rattle.std.specs.BTreeSet.{BTreeSet}
use Rattle.sl_frames.specs.Actors.{is_coordinator}
use Rattle.sl_frames.specs.declared.frame.Frame.{Frame}
use Rattle.sl_history.specs.Turns.{History}
use Rattle.sl_history.specs.Licensed.{flush_in, flushes, pair_in, requests_given}
use Rattle.sl_licence.specs.declared.flushes.FlushTicket.{FlushTicket}
use Rattle.sl_licence.specs.declared.flushes.Flushes.{Flushes}

-- ---- tickets

-- by file, fence and tag
abbrev pub ticket_cmp : FlushTicket → FlushTicket → Ordering
ticket_cmp a b = ordering_then (nat_cmp a.file b.file) (ordering_then (nat_cmp a.fence b.fence) (nat_cmp a.tag b.tag))

abbrev pub is_same_ticket : FlushTicket → FlushTicket → Bool
is_same_ticket a b = a.file == b.file && (a.fence == b.fence && a.tag == b.tag)

abbrev pub has_ticket : BTreeSet FlushTicket → FlushTicket → Bool
has_ticket s q = sorted.contains ticket_cmp s q

abbrev pub ticket : ℕ → ℕ × ℕ → FlushTicket
ticket f p = record { file = f; fence = p.0; tag = p.1 }

abbrev pub ticket_if : Frame → Bool → Option ℕ → Option FlushTicket
ticket_if g true (Some f) = Some (ticket f (g.fence, g.tag))
ticket_if g other file = None

-- the request for a flush that the frame gives to the coordinator
abbrev pub ticket_in : Frame → Option FlushTicket
ticket_in g = ticket_if g (is_coordinator g.to) (flush_in g.body)

-- ---- counts

abbrev pub count_at : BTreeMap ℕ ℕ → ℕ → ℕ
count_at m f = unwrap_or (tree.get nat_cmp m f) 0

-- One ticket more, and one request more of its file where it is new.
pub record Takes (old new : Flushes) (q : FlushTicket) : Type 0 where
  pub given : (p : FlushTicket) → has_ticket new.given p ≡ (is_same_ticket q p || has_ticket old.given p)
  pub unused : (f : ℕ) → count_at new.unused f ≡ (if q.file == f && not (has_ticket old.given q) then count_at old.unused f + 1 else count_at old.unused f)

-- a turn's frame, where it gives a ticket, adds it
abbrev pub TakesIf : Flushes → Flushes → Option FlushTicket → Type 0
TakesIf old new None = new ≡ old
TakesIf old new (Some q) = Takes old new q

-- ---- the history's

pub record AreFlushesOf (h : History) (x : Flushes) : Type 0 where
  pub given : (f : ℕ) (p : ℕ × ℕ) → has_ticket x.given (ticket f p) ≡ pair_in (requests_given h f) p
  pub unused : (f : ℕ) → flushes h f + count_at x.unused f ≡ length (requests_given h f)
