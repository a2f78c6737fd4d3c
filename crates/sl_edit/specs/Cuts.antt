-- A WRITE that is cut to its first bytes (RFC 1813, section 3.3.7).
use Rattle.std.specs.Prelude.{◌≡◌, ℕ, ◌+◌, ◌≤◌, List, length, replicate, take, Option, Some, None, Bool, true, false, nat_lt}
use Rattle.sl_defs.specs.Items.{u32_text, padding}
use Rattle.sl_edit.specs.declared.span.Span.{Span}
use Rattle.sl_edit.specs.declared.cuts.Content.{Content}
use Rattle.sl_edit.specs.Edits.{spliced}

-- The packet has the numbers, and the bytes with their padding.
pub record HasRoom (packet : List ℕ) (content : Content) : Type 0 where
  pub count : content.count + 4 ≤ length packet
  pub number : content.number + 4 ≤ length packet
  pub bytes : content.bytes + (content.len + padding content.len) ≤ length packet

abbrev pub word_span : ℕ → Span
word_span from = record { from = from; to = from + 4 }

-- how long the packet is with n of the bytes and their padding
abbrev pub cut_length : Content → ℕ → ℕ
cut_length content n = content.bytes + n + padding n

-- zeros behind the first n of the bytes
abbrev pub padded : Content → ℕ → List ℕ → List ℕ
padded content n packet = spliced packet (record { from = content.bytes + n; to = cut_length content n }) (replicate (padding n) 0)

-- and n for the count and for the number of bytes
abbrev pub cut_packet : Content → ℕ → List ℕ → List ℕ
cut_packet content n packet = spliced (spliced (padded content n packet) (word_span content.number) (u32_text n)) (word_span content.count) (u32_text n)

-- the packet that is left, where it is a WRITE
abbrev pub shortened : Option Content → ℕ → List ℕ → List ℕ
shortened None n packet = packet
shortened (Some content) n packet = take (cut_length content n) (cut_packet content n packet)

-- A cut to n bytes, where it is told whether there are fewer.
abbrev pub IsCutWhere : Bool → Content → ℕ → List ℕ → List ℕ → Option ℕ → Type 0
IsCutWhere true content n old new answer = (answer ≡ None) × (new ≡ old)
IsCutWhere false content n old new answer = (answer ≡ Some (cut_length content n)) × (new ≡ cut_packet content n old)

-- The packet is cut to n bytes, if it has so many, and the answer is its new length; what stands behind that is no part
-- of it any more. Else nothing changes.
abbrev pub IsCut : Option Content → ℕ → List ℕ → List ℕ → Option ℕ → Type 0
IsCut None n old new answer = (answer ≡ None) × (new ≡ old)
IsCut (Some content) n old new answer = IsCutWhere (nat_lt content.len n) content n old new answer
