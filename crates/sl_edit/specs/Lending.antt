-- What a packet, or a view of one, is once what it lent for writing has ended.
use Rattle.std.specs.Prelude.{ℕ, ◌+◌, List, [], Option}
use Rattle.std.specs.Borrow.{Lends, LendsIf, MutBor, Fml, Array, u8, follows_if, name_if_some}
use mir.Syntax.{named}
use Rattle.sl_edit.specs.declared.span.Span.{Span}
use Rattle.sl_edit.specs.contracts.call_view.CallView as call
use Rattle.sl_edit.specs.contracts.reply_view.ReplyView as reply
use Rattle.sl_edit.specs.Edits.{spliced, refilled}
use Rattle.sl_edit.specs.Views.{ReplyPacket}

-- so many bytes from a place on
abbrev pub run_of : ℕ → ℕ → Span
run_of from size = record { from = from; to = from + size }

-- the bytes from a place up to another
abbrev pub up_to : ℕ → ℕ → Span
up_to from to = record { from = from; to = to }

-- the packet has in this interval what was left in the array, or in the part
abbrev pub LendsBytes : MutBor (List ℕ) → Span → MutBor (List ℕ) → Fml
LendsBytes packet span array = Lends (Array u8 0) (Array u8 0) packet array (spliced packet.now span)

-- the same reference, with this packet behind it
abbrev pub with_packet : MutBor (List ℕ) → List ℕ → MutBor (List ℕ)
with_packet view packet = record view { now = packet }

-- ---- a packet of which a view is made: it is what was left of the view, if there was one; else it is as it was

abbrev pub LendsCall : MutBor (List ℕ) → Option (MutBor (List ℕ)) → Fml
LendsCall packet view = LendsIf (Array u8 0) (Array u8 0) packet view (λ bytes. bytes) packet.now

abbrev pub LendsReply : MutBor (List ℕ) → Option ReplyPacket → Fml
LendsReply packet view = follows_if (Array u8 0) (Array u8 0) packet.ghost_name (name_if_some (λ v. v.packet.ghost_name) view) (λ bytes. bytes) packet.now

-- ---- a view of a call: its packet is what was left of it, and it has in this interval what was left in the part, or
-- in the slot, if there was one; else it is as it was

module _ (view : MutBor (MutBor (List ℕ))) where
  abbrev pub CallLends : MutBor (List ℕ) → Fml
  CallLends packet = Lends (call.the_row (record { mir = named 1; lft = [] })) (Array u8 0) view packet (with_packet view.now)

  abbrev pub CallLendsBytes : Span → MutBor (List ℕ) → Fml
  CallLendsBytes span part = Lends (call.the_row (record { mir = named 1; lft = [] })) (Array u8 0) view part (λ bytes. with_packet view.now (spliced view.now.now span bytes))

  abbrev pub CallLendsField : Option Span → MutBor (List ℕ) → Fml
  CallLendsField span slot = Lends (call.the_row (record { mir = named 1; lft = [] })) (Array u8 0) view slot (λ bytes. with_packet view.now (refilled view.now.now span bytes))

  abbrev pub CallLendsSlot : Option Span → Option (MutBor (List ℕ)) → Fml
  CallLendsSlot span slot = LendsIf (call.the_row (record { mir = named 1; lft = [] })) (Array u8 0) view slot (λ bytes. with_packet view.now (refilled view.now.now span bytes)) view.now

-- ---- the same of a view of a reply

abbrev pub with_reply : ReplyPacket → List ℕ → ReplyPacket
with_reply view packet = record view { packet = with_packet view.packet packet }

module _ (view : MutBor ReplyPacket) where
  abbrev pub ReplyLends : MutBor (List ℕ) → Fml
  ReplyLends packet = Lends (reply.the_row (record { mir = named 1; lft = [] })) (Array u8 0) view packet (with_reply view.now)

  abbrev pub ReplyLendsBytes : Span → MutBor (List ℕ) → Fml
  ReplyLendsBytes span array = Lends (reply.the_row (record { mir = named 1; lft = [] })) (Array u8 0) view array (λ bytes. with_reply view.now (spliced view.now.packet.now span bytes))

  abbrev pub ReplyLendsSlot : Option Span → Option (MutBor (List ℕ)) → Fml
  ReplyLendsSlot span slot = LendsIf (reply.the_row (record { mir = named 1; lft = [] })) (Array u8 0) view slot (λ bytes. with_reply view.now (refilled view.now.packet.now span bytes)) view.now
