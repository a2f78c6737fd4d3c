-- Calls and replies as whole packets (RFC 5531, section 9).
use Rattle.std.specs.Prelude.{◌≡◌, ℕ, ◌^◌, ◌<◌, List, ◌++◌, None}
use Rattle.sl_defs.specs.Rpc.{CallHeader, IsCallHeader, refusal_of, accepted_text}
use Rattle.sl_types.specs.declared.call.Call.{Call}
use Rattle.sl_types.specs.declared.reply.Reply.{Reply}
use Rattle.sl_calls.specs.Args.{BeginsWithArgs}
use Rattle.sl_replies.specs.Results.{IsReplyTo}

-- The packet is a header that refuses no call, and then the arguments of a call of its procedure; anything may follow.
pub record IsCallPacket (packet : List ℕ) (header : CallHeader) (call : Call) : Type 0 where
  pub head : List ℕ
  pub args : List ℕ
  pub is_header : IsCallHeader head header
  pub accepted : refusal_of header ≡ None
  pub begins : BeginsWithArgs header.procedure call args
  pub whole : packet ≡ head ++ args

-- The packet is an accepted reply that was a success, with the results of this procedure and nothing behind them.
pub record IsReplyPacket (procedure : ℕ) (packet : List ℕ) (xid : ℕ) (reply : Reply) : Type 0 where
  pub results : List ℕ
  pub fits : xid < 2 ^ 32
  pub is_reply : IsReplyTo procedure reply results
  pub whole : packet ≡ accepted_text xid 0 ++ results

-- the packet is some call, or some reply to this procedure
abbrev pub IsCall : List ℕ → Type 0
IsCall packet = (header : CallHeader) × (call : Call) × IsCallPacket packet header call

abbrev pub IsReply : ℕ → List ℕ → Type 0
IsReply procedure packet = (xid : ℕ) × (reply : Reply) × IsReplyPacket procedure packet xid reply
