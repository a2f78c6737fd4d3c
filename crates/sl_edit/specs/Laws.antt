-- Where the fields stand is where the grammar puts them, and an edit changes what the packet says in that field alone.
use Rattle.std.specs.Prelude.{◌≡◌, ℕ, ◌≤◌, List, length, take, Option, Some, None}
use Rattle.sl_defs.specs.Parts.{IsU32, IsU64}
use Rattle.sl_defs.specs.Rpc.{CallHeader}
use Rattle.sl_types.specs.declared.call.Call.{Call}
use Rattle.sl_types.specs.declared.reply.Reply.{Reply}
use Rattle.sl_items.specs.Spelling.{IsFattr}
use Rattle.sl_replies.specs.Results.{IsFlag}
use Rattle.sl_edit.specs.declared.cuts.Content.{Content}
use Rattle.sl_edit.specs.Packets.{IsCallPacket, IsReplyPacket}
use Rattle.sl_edit.specs.Fields as field
use Rattle.sl_edit.specs.Spans as spans
use Rattle.sl_edit.specs.Edits.{HasSlot, IsItself}
use Rattle.sl_edit.specs.Cuts.{cut_length, cut_packet}

-- a header with another xid
abbrev pub with_xid : ℕ → CallHeader → CallHeader
with_xid xid header = record header { xid = xid }

abbrev pub CallXidsHaveSlots : Type 0
CallXidsHaveSlots = (packet : List ℕ) (header : CallHeader) (call : Call) → IsCallPacket packet header call →
    HasSlot IsU32 (λ xid new. IsCallPacket new (with_xid xid header) call) packet (spans.xid_span packet) (Some header.xid)

abbrev pub HandlesHaveSlots : Type 0
HandlesHaveSlots = (i : ℕ) (packet : List ℕ) (header : CallHeader) (call : Call) → IsCallPacket packet header call →
    HasSlot IsItself (λ fh new. IsCallPacket new header (field.with_handle i fh call)) packet (spans.handle_span i packet) (field.handle_of i call)

abbrev pub CountsHaveSlots : Type 0
CountsHaveSlots = (packet : List ℕ) (header : CallHeader) (call : Call) → IsCallPacket packet header call →
    HasSlot IsU32 (λ n new. IsCallPacket new header (field.with_count n call)) packet (spans.count_span packet) (field.count_of call)

-- The place of the bytes of a WRITE: cut to any of its first bytes, the packet says the same of these.
pub record IsContent (packet : List ℕ) (header : CallHeader) (call : Call) (content : Content) (bytes : List ℕ) : Type 0 where
  pub long : content.len ≡ length bytes
  pub cut : (n : ℕ) → n ≤ length bytes → IsCallPacket (take (cut_length content n) (cut_packet content n packet)) header (field.cut_to n call)

abbrev pub HasContent : List ℕ → CallHeader → Call → Option Content → Option (List ℕ) → Type 0
HasContent packet header call None None = Unit {0}
HasContent packet header call None (Some bytes) = ⊥
HasContent packet header call (Some content) None = ⊥
HasContent packet header call (Some content) (Some bytes) = IsContent packet header call content bytes

abbrev pub WritesAreCut : Type 0
WritesAreCut = (packet : List ℕ) (header : CallHeader) (call : Call) → IsCallPacket packet header call →
    HasContent packet header call (spans.content_in packet) (field.content_of call)

abbrev pub ReplyXidsHaveSlots : Type 0
ReplyXidsHaveSlots = (procedure : ℕ) (packet : List ℕ) (xid : ℕ) (reply : Reply) → IsReplyPacket procedure packet xid reply →
    HasSlot IsU32 (λ x new. IsReplyPacket procedure new x reply) packet (spans.xid_span packet) (Some xid)

abbrev pub AttributesHaveSlots : Type 0
AttributesHaveSlots = (procedure : ℕ) (packet : List ℕ) (xid : ℕ) (reply : Reply) → IsReplyPacket procedure packet xid reply →
    HasSlot IsFattr (λ a new. IsReplyPacket procedure new xid (field.with_attributes a reply)) packet (spans.attributes_span procedure packet) (field.attributes_of reply)

abbrev pub VerifiersHaveSlots : Type 0
VerifiersHaveSlots = (procedure : ℕ) (packet : List ℕ) (xid : ℕ) (reply : Reply) → IsReplyPacket procedure packet xid reply →
    HasSlot IsU64 (λ v new. IsReplyPacket procedure new xid (field.with_verifier v reply)) packet (spans.verifier_span procedure packet) (field.verifier_of reply)

abbrev pub EndMarksHaveSlots : Type 0
EndMarksHaveSlots = (procedure : ℕ) (packet : List ℕ) (xid : ℕ) (reply : Reply) → IsReplyPacket procedure packet xid reply →
    HasSlot IsFlag (λ eof new. IsReplyPacket procedure new xid (field.with_eof eof reply)) packet (spans.eof_span procedure packet) (field.eof_of reply)

abbrev pub KeepersHaveSlots : Type 0
KeepersHaveSlots = (procedure : ℕ) (packet : List ℕ) (xid : ℕ) (reply : Reply) → IsReplyPacket procedure packet xid reply →
    HasSlot IsItself (λ keepers new. IsReplyPacket procedure new xid (field.with_keepers keepers reply)) packet (spans.keepers_span procedure packet) (field.keepers_of reply)
