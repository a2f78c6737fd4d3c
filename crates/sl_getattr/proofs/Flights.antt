-- Frames in flight, after more were sent.
use Rattle.std.proofs.Common.{◌≡◌, ℕ, ◌+◌, List, [], ◌∷◌, Some, sym, subst}
use Rattle.std.specs.Ordering.{nat_cmp}
use Rattle.std.specs.FinMap.{FinMap, get, insert, remove}
use Rattle.sl_frames.specs.declared.frame.Frame.{Frame}
use Rattle.sl_machine.specs.World.{Flying, launched}
use Rattle.sl_transport.proofs.Proper.{Each}
use Rattle.sl_getattr.proofs.Maps.{of_put, Put, IsNew, WasThere, of_removal}

abbrev pub AllFly : (Flying → Type 0) → FinMap nat_cmp Flying → Type 0
AllFly P flight = (k : ℕ) (f : Flying) → get flight k ≡ Some f → P f

fly_put : (P : Flying → Type 0) (flight : FinMap nat_cmp Flying) (n : ℕ) (g : Flying) → AllFly P flight → P g → AllFly P (insert flight n g)
fly_put P flight n g all holds k f there = by (of_put flight n g k f there)
  where
    by : Put flight n g k f → P f
    by (IsNew at same) = subst P (sym same) holds
    by (WasThere other was) = all k f was

pub fly_launched : (P : Flying → Type 0) (flight : FinMap nat_cmp Flying) (n e : ℕ) (fs : List Frame) → AllFly P flight → Each (λ g. P (record { frame = g; event = e })) fs
    → AllFly P (launched flight n e fs)
fly_launched P flight n e [] all each = all
fly_launched P flight n e (g ∷ fs) all each =
    fly_launched P (insert flight n (record { frame = g; event = e })) (n + 1) e fs (fly_put P flight n (record { frame = g; event = e }) all each.0) each.1

pub fly_landed : (P : Flying → Type 0) (flight : FinMap nat_cmp Flying) (n : ℕ) → AllFly P flight → AllFly P (remove flight n)
fly_landed P flight n all k f there = all k f (of_removal flight n k f there).there
