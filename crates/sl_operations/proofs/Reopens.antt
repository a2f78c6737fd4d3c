-- The directory server is opened again after the CREATE: it has the reply of the CREATE, and not the fileid's, which is below
-- the low.
use Rattle.std.proofs.Common.{◌≡◌, ℕ, ◌≤◌, ◌<◌, ◌==◌, Bool, true, false, cond, List, [], ◌∷◌, Some, None, refl, sym, ap, ◌∙◌, arith}
use Rattle.std.specs.Ordering.{nat_cmp, eq_by_cmp}
use Rattle.std.specs.FinMap.{FinMap, get}
use Rattle.sl_frames.specs.declared.frame.Frame.{Frame}
use Rattle.sl_history.specs.Frames.{or_else}
use Rattle.sl_history.specs.Placing.{carrier}
use Rattle.sl_machine.specs.Records.{Record}
use Rattle.sl_machine.specs.Memory.{Actor}
use Rattle.sl_machine.specs.Memory as memory
use Rattle.sl_machine.specs.World.{Scene, Opening, Founds, Segment, quiet}
use Rattle.sl_machine.specs.Directories as directory
use Rattle.sl_machine.specs.Openings.{answer_of}
use Rattle.sl_machine.specs.Runs.{ByDirectory, ByOpenedDirectory}
use Rattle.sl_witness.specs.Histories.{setup, epoch, fence}
use Rattle.sl_witness.proofs.Maps.{same_key}
use Rattle.sl_operations.specs.Histories.{created_packet, minted}
use Rattle.sl_operations.specs.Runs.{created_records, locked_records, finished_records}
use Rattle.sl_operations.proofs.Maps.{of, got}
use Rattle.sl_operations.proofs.Stages.{Course}
use Rattle.sl_operations.proofs.Serving.{site}

abbrev pub kept : List (ℕ × Frame)
kept = (3, created_packet) ∷ []

three_tests :
    (tag : ℕ) (a b c : Bool) → 3 ≤ tag → eq_by_cmp nat_cmp tag 3 ≡ a → (3 == tag) ≡ b → (2 == tag) ≡ c
    → cond a (Some created_packet) None
    ≡ or_else (cond b (Some (record created_packet { tag = tag })) None) (or_else (cond c (Some (record minted { tag = tag })) None) None)
three_tests tag true true c h p q r = ap (λ t. Some (record created_packet { tag = t })) (sym (same_key tag 3 p))
three_tests tag false false true h p q r = absurd (grind arith)
three_tests tag false false false h p q r = refl
three_tests tag true false c h p q r = absurd (grind arith)
three_tests tag false true c h p q r = absurd (grind arith)

is_kept : (tag : ℕ) → 3 ≤ tag → get (of kept) tag ≡ answer_of 16 created_records fence tag
is_kept tag h = got kept tag _ refl ∙ three_tests tag (eq_by_cmp nat_cmp tag 3) (3 == tag) (2 == tag) h refl refl refl

below_apart : (tag : ℕ) → tag < 3 → eq_by_cmp nat_cmp tag 3 ≡ false
below_apart tag h = grind arith

is_gone : (tag : ℕ) → tag < 3 → get (of kept) tag ≡ None
is_gone tag h = got kept tag _ refl ∙ ap (λ b. cond b (Some created_packet) None) (below_apart tag h)

abbrev pub server_of : List Record → Actor
server_of rs = record { memory = Some (memory.OfSite (site 3 kept)); records = rs; limbo = None }

abbrev down_with : List Record → Actor
down_with rs = record { memory = None; records = rs; limbo = None }

abbrev pub reads : Segment
reads = quiet (memory.OfSite (site 3 kept)) (Founds ∷ [])

abbrev pub is_there : Segment
is_there = quiet (memory.OfSite (site 3 kept)) []

-- the directory server at some moment
abbrev at : ℕ → FinMap nat_cmp ℕ → Scene
at e done_in = record { setup = setup; actor = 16; event = e; moment = epoch; done_in = done_in }

-- over these records
abbrev Reopens : List Record → Type 0
Reopens rs = (e : ℕ) (done_in : FinMap nat_cmp ℕ) → Course (at e done_in) (Opening ∷ []) (down_with rs) (reads ∷ is_there ∷ [])

pub reopens : Reopens created_records
unfolding carrier
reopens e done_in = (
  ByOpenedDirectory refl refl refl (record { site = site 3 kept; restored = record { fence = refl; low = refl; kept = is_kept; gone = is_gone; parked = refl }; does = refl }),
  (ByDirectory (site 3 kept) refl refl (directory.IsOpen refl (record { undue = refl; does = refl })), refl),
)

pub reopens_locked : Reopens locked_records
unfolding carrier
reopens_locked e done_in = (
  ByOpenedDirectory refl refl refl (record { site = site 3 kept; restored = record { fence = refl; low = refl; kept = is_kept; gone = is_gone; parked = refl }; does = refl }),
  (ByDirectory (site 3 kept) refl refl (directory.IsOpen refl (record { undue = refl; does = refl })), refl),
)

pub reopens_finished : Reopens finished_records
unfolding carrier
reopens_finished e done_in = (
  ByOpenedDirectory refl refl refl (record { site = site 3 kept; restored = record { fence = refl; low = refl; kept = is_kept; gone = is_gone; parked = refl }; does = refl }),
  (ByDirectory (site 3 kept) refl refl (directory.IsOpen refl (record { undue = refl; does = refl })), refl),
)
