-- What an edit in place does to a packet's bytes, and what it means for what the packet says.
use Rattle.std.specs.Prelude.{◌≡◌, ℕ, ◌+◌, ◌-◌, ◌≤◌, List, [], ◌++◌, length, take, drop, Option, Some, None}
use Rattle.sl_edit.specs.declared.span.Span.{Span}

-- an interval of so many bytes of the packet
pub record IsWithin (packet : List ℕ) (size : ℕ) (span : Span) : Type 0 where
  pub long : span.to ≡ span.from + size
  pub inside : span.to ≤ length packet

-- an interval of the packet
pub record IsOrdered (packet : List ℕ) (span : Span) : Type 0 where
  pub ordered : span.from ≤ span.to
  pub inside : span.to ≤ length packet

-- the bytes of an interval
abbrev pub bytes_in : List ℕ → Span → List ℕ
bytes_in packet span = take (span.to - span.from) (drop span.from packet)

-- the packet with this text in the interval, and every other byte as it was
abbrev pub spliced : List ℕ → Span → List ℕ → List ℕ
spliced packet span text = take span.from packet ++ (text ++ drop span.to packet)

-- the bytes of the interval that a field has, if it has one
abbrev pub bytes_if : List ℕ → Option Span → List ℕ
bytes_if packet None = []
bytes_if packet (Some span) = bytes_in packet span

-- the packet with this text in the interval that a field has, if it has one
abbrev pub refilled : List ℕ → Option Span → List ℕ → List ℕ
refilled packet None text = packet
refilled packet (Some span) text = spliced packet span text

-- The edit of a field that stands in this interval, if anywhere. Where there is none, nothing changes.
abbrev pub Edited : Option Span → List ℕ → List ℕ → List ℕ → Type 0
Edited span text old new = new ≡ refilled old span text

-- The interval of a field with this value: what stands there spells the value, and with the text of another value there,
-- if it has the same length, the packet says the same but for that value.
pub record IsSlot {V : Type 0} (Spells : V → List ℕ → Type 0) (Says : V → List ℕ → Type 0) (packet : List ℕ) (span : Span) (value : V) : Type 0 where
  pub place : IsOrdered packet span
  pub spelled : Spells value (bytes_in packet span)
  pub says : (other : V) (text : List ℕ) → Spells other text → length text ≡ span.to - span.from → Says other (spliced packet span text)

-- A field has an interval exactly where the packet has the field.
abbrev pub HasSlot : {V : Type 0} → (V → List ℕ → Type 0) → (V → List ℕ → Type 0) → List ℕ → Option Span → Option V → Type 0
HasSlot Spells Says packet None None = Unit {0}
HasSlot Spells Says packet None (Some value) = ⊥
HasSlot Spells Says packet (Some span) None = ⊥
HasSlot Spells Says packet (Some span) (Some value) = IsSlot Spells Says packet span value

-- bytes spell themselves
abbrev pub IsItself : List ℕ → List ℕ → Type 0
IsItself value text = text ≡ value
