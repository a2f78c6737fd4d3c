-- The end of an interval, spliced.
use Rattle.std.proofs.Common.{◌≡◌, ℕ, ◌+◌, ◌-◌, ◌≤◌, List, ◌++◌, length, take, drop, sym, ap, ◌∙◌, append_assoc, arith}
use Rattle.std.proofs.lemmas.List.{take-append-drop, drop-drop, take_at, length-append, length-take-le, length-drop}
use Rattle.sl_edit.specs.declared.span.Span.{Span}
use Rattle.sl_edit.specs.Edits.{IsOrdered, bytes_in, spliced}
use Rattle.sl_machine.specs.Packets.{keepers}

module _ (packet : List ℕ) (span : Span) (place : IsOrdered packet span) where
  from_fits : span.from ≤ length packet
  from_fits = omega (arith, place.ordered, place.inside)

  pub length_in : length (bytes_in packet span) ≡ span.to - span.from
  length_in = length-take-le (span.to - span.from) (drop span.from packet) (omega (arith, place.ordered, place.inside, length-drop span.from packet))

  -- what stands behind the interval
  behind : drop (span.to - span.from) (drop span.from packet) ≡ drop span.to packet
  behind = drop-drop (span.to - span.from) span.from packet ∙ ap (λ n. drop n packet) (omega (arith, place.ordered))

  in_three : packet ≡ take span.from packet ++ (bytes_in packet span ++ drop span.to packet)
  in_three =
      sym (take-append-drop span.from packet)
      ∙ ap (λ rest. take span.from packet ++ rest) (sym (take-append-drop (span.to - span.from) (drop span.from packet)) ∙ ap (λ rest. bytes_in packet span ++ rest) behind)

  module _ (front old : List ℕ) (is : bytes_in packet span ≡ front ++ old) (four : length old ≡ 4) where
    last : span.to ≡ span.from + (length front + 4)
    last = omega (arith, place.ordered, length_in, ap length is, length-append front old, four)

    before_end : take (span.to - 4) packet ≡ take span.from packet ++ front
    before_end =
        ap (take (span.to - 4)) (in_three ∙ ap (λ t. take span.from packet ++ (t ++ drop span.to packet)) is
        ∙ ap (λ t. take span.from packet ++ t) (append_assoc front old (drop span.to packet)) ∙ sym (append_assoc (take span.from packet) front (old ++ drop span.to packet)))
        ∙ take_at (take span.from packet ++ front) (old ++ drop span.to packet) (span.to - 4)
        (omega (arith, length-append (take span.from packet) front, length-take-le span.from packet from_fits, last))

    -- where the last four bytes alone are written, the whole interval is
    pub end_spliced : (new : List ℕ) → spliced packet (keepers span) new ≡ spliced packet span (front ++ new)
    end_spliced new =
        ap (λ t. t ++ (new ++ drop span.to packet)) before_end ∙ append_assoc (take span.from packet) front (new ++ drop span.to packet)
        ∙ ap (λ t. take span.from packet ++ t) (sym (append_assoc front new (drop span.to packet)))
