-- Frames that are sent one after the other.
use Rattle.std.proofs.Common.{◌≡◌, ℕ, suc, ◌+◌, ◌≤◌, List, [], ◌∷◌, ◌++◌, length, sym, ap, ◌∙◌, append_assoc, arith}
use Rattle.std.proofs.lemmas.List.{append-nil}
use Rattle.sl_frames.specs.declared.frame.Frame.{Frame}
use Rattle.sl_history.specs.Turns.{Remark, Sent}
use Rattle.sl_machine.specs.World.{numbered}
use Rattle.sl_world.specs.declared.world.World.{World}
use Rattle.sl_world.specs.Worlds.{sent, sending, last_number}

-- what is left to be sent, with what was sent and noted, is all
pub record IsUnderWay (start now : World) (all rest : List Frame) (notes : List Remark) : Type 0 where
  pub sends : sending rest now ≡ sending all start
  pub tells : notes ++ numbered now.next_frame rest ≡ numbered start.next_frame all
  pub fits : now.next_frame + length rest ≤ last_number

one_more : (n k : ℕ) → n + 1 + k ≡ n + suc k
one_more n k = omega arith

none_more : (n : ℕ) → n + 0 ≡ n
none_more n = omega arith

pub starts : (v : World) (all rest : List Frame) → rest ≡ all → v.next_frame + 1 ≤ last_number → length all ≤ 1 → IsUnderWay v v all rest []
starts v all rest same has few = record {
  sends = ap (λ fs. sending fs v) same;
  tells = ap (numbered v.next_frame) same;
  fits = rw (same) (within v.next_frame (length all) last_number has few);
}
  where
    within : (n k m : ℕ) → n + 1 ≤ m → k ≤ 1 → n + k ≤ m
    within n k m has few = omega arith

first_sent : (v : World) (f : Frame) (fs : List Frame) → sending fs (sending (f ∷ []) v) ≡ sending (f ∷ fs) v
first_sent v f fs = ap (λ n. record v { flight = sent v.flight v.next_frame v.event (f ∷ fs); next_frame = n }) (one_more v.next_frame (length fs))

pub goes_on : (start now next : World) (all rest left : List Frame) (notes more : List Remark) (f : Frame) (r : Remark) → IsUnderWay start now all rest notes
    → rest ≡ f ∷ left → next ≡ sending (f ∷ []) now → r ≡ Sent now.next_frame f → more ≡ notes ++ r ∷ [] → IsUnderWay start next all left more
goes_on start now next all rest left notes more f r way is sends tells puts = record {
  sends = ap (sending left) sends ∙ first_sent now f left ∙ sym (ap (λ fs. sending fs now) is) ∙ way.sends;
  tells = ap (λ w. more ++ numbered w.next_frame left) sends ∙ ap (λ rs. rs ++ numbered (now.next_frame + 1) left) puts
      ∙ append_assoc notes (r ∷ []) (numbered (now.next_frame + 1) left)
      ∙ ap (λ x. notes ++ x ∷ numbered (now.next_frame + 1) left) tells ∙ sym (ap (λ fs. notes ++ numbered now.next_frame fs) is) ∙ way.tells;
  fits = rw (ap (λ w. w.next_frame) sends) (less now.next_frame (length left) (length rest) last_number (ap length is) way.fits);
}
  where
    less : (n k l m : ℕ) → l ≡ suc k → n + l ≤ m → n + 1 + k ≤ m
    less n k l m same fits = omega arith

-- there is a number for the next one
pub has_number : (start now : World) (all rest left : List Frame) (notes : List Remark) (f : Frame) → IsUnderWay start now all rest notes → rest ≡ f ∷ left → now.next_frame + 1 ≤ last_number
has_number start now all rest left notes f way is = less now.next_frame (length left) (length rest) last_number (ap length is) way.fits
  where
    less : (n k l m : ℕ) → l ≡ suc k → n + l ≤ m → n + 1 ≤ m
    less n k l m same fits = omega arith

nothing_sent : (v : World) → sending [] v ≡ v
nothing_sent v = ap (λ n. record v { next_frame = n }) (none_more v.next_frame)

pub all_sent : (start now : World) (all rest : List Frame) (notes : List Remark) → IsUnderWay start now all rest notes → rest ≡ [] → now ≡ sending all start
all_sent start now all rest notes way none = sym (nothing_sent now) ∙ sym (ap (λ fs. sending fs now) none) ∙ way.sends

pub all_told : (start now : World) (all rest : List Frame) (notes : List Remark) → IsUnderWay start now all rest notes → rest ≡ [] → notes ≡ numbered start.next_frame all
all_told start now all rest notes way none = sym (append-nil notes) ∙ sym (ap (λ fs. notes ++ numbered now.next_frame fs) none) ∙ way.tells
