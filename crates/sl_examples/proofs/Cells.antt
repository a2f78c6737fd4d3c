-- What a directory server tells of the root's cell.
use Rattle.std.proofs.Common.{◌≡◌, ℕ, refl, sym, [], ◌∷◌, Some, None, inl, inr, true, false, true≢false, ap, arith, ◌∙◌, Bool}
use Rattle.std.specs.Prelude.{option_map}
use Rattle.std.specs.FinMap.{get, gets}
use Rattle.sl_frames.specs.declared.body.Body.TheVariants as body
use Rattle.sl_frames.specs.declared.found.FoundCell.{FoundCell}
use Rattle.sl_frames.specs.declared.found.FoundCell.TheVariants as found
use Rattle.sl_cells.specs.declared.keys.CellKey.TheVariants as key
use Rattle.sl_model.specs.Perform.{fresh, new_root}
use Rattle.sl_history.specs.Volumes.{volume_after}
use Rattle.sl_history.specs.Frames.{is_up, frame, in_flight, WasGiven, IsGivenIn}
use Rattle.sl_history.specs.Licensed.{request}
use Rattle.sl_history.specs.Placing.{carrier}
use Rattle.sl_history.specs.Wired.{Wired, IsWiredTurn, IsSent, IsAnswer, Answers, frames, cell_of, found_attr, attr_cell}
use Rattle.sl_examples.specs.Histories.{setup, start, asked_for_root, told_of_root, asking, telling}
use Rattle.sl_examples.specs.Claims.{CellsAreToldApart}
use Rattle.sl_examples.proofs.Frames.{welcome_is_wired}

root_is_there : get start.nodes 1 ≡ Some (new_root 1)
unfolding fresh
root_is_there = grind (arith, gets)

asked_is_wired : Wired setup start asked_for_root
unfolding frames frame is_up request volume_after
asked_is_wired = (
  welcome_is_wired,
  record {
    flying = tt;
    may = (record { number = refl; sender = refl; answer = λ is. absurd (true≢false (sym is)); quiet = refl }, tt);
    told = (tt, tt);
  },
)

-- a Found that says this of the root
told_is_wired : (c : FoundCell) → c ≡ cell_of start (key.Attr 1) → Wired setup start (told_of_root c)
unfolding frames frame in_flight is_up request volume_after
told_is_wired c right = (
  asked_is_wired,
  record {
    flying = refl;
    may = (
      record {
        number = refl;
        sender = refl;
        answer = λ is. record {
          asking = asking;
          given = inl (record { gives = refl; up = refl });
          answers = record { kind = refl; sender = refl; receiver = refl; fence = refl; tag = refl; op = refl };
        };
        quiet = refl;
      },
      tt,
    );
    told = ((λ here. right, tt), tt);
  },
)

abbrev is_absent : FoundCell → Bool
is_absent found.Absent = true
is_absent other = false

absent_is_wrong : found.Absent ≡ cell_of start (key.Attr 1) → ⊥
absent_is_wrong e = true≢false (ap is_absent (e ∙ ap (λ o. found_attr (option_map (attr_cell start 1) o)) root_is_there))

absent : Wired setup start (told_of_root found.Absent) → ⊥
unfolding request volume_after carrier
absent wired = absent_is_wrong (wired.1.told.0.0 refl)

pub cells_are_told_apart : CellsAreToldApart
cells_are_told_apart = (told_is_wired _ refl, absent)
