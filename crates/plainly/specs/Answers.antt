-- What is answered to a request: the reply of the one server, or the word that says why there is none.
use Rattle.std.specs.Prelude.{◌≡◌, ℕ, ◌^◌, ◌<◌, List, ◌++◌, drop, codes, decimal, if◌then◌else◌}
use Rattle.sl_defs.specs.declared.note.Choice.{Choice}
use Rattle.sl_defs.specs.declared.setup.Time.{Time}
use Rattle.sl_defs.specs.Items.{AreBytes}
use Rattle.sl_defs.specs.Rpc.{accepted_text}
use Rattle.sl_defs.specs.Schedules.{◌and◌, hex_text}
use Rattle.sl_types.specs.declared.cred.Cred.{Cred}
use Rattle.sl_types.specs.declared.call.Call.{Call}
use Rattle.sl_types.specs.declared.reply.Reply.{Reply}
use Rattle.sl_rpc.specs.declared.head.Head.{Head}
use Rattle.sl_rpc.specs.declared.head.Head.TheVariants as head
use Rattle.sl_rpc.specs.Heads.{IsHeadOf}
use Rattle.sl_calls.specs.Args.{BeginsWithArgs}
use Rattle.sl_replies.specs.Texts.{FitsReply, reply_text}
use Rattle.sl_model.specs.Plan.{run}
use Rattle.sl_model.specs.Volume.{Volume, sight}
use Rattle.sl_model.specs.Procedures.{plan}
use Rattle.sl_model.specs.Perform.{perform}
use Rattle.sl_plain.specs.Outcomes.{IsSpent}
use Rattle.plainly.specs.declared.answers.Answer.{Answer}
use Rattle.plainly.specs.declared.answers.Answer.TheVariants.{NoCall, Garbage, Spent, TooLong, Restarted, Flushed, NoRequest}
use Rattle.plainly.specs.declared.answers.Answer.TheVariants as answer

-- ---- texts

-- a moment, a choice and a datagram
unfoldable pub call_text : Time → Choice → List ℕ → List ℕ
call_text at choice datagram = decimal at.sec and decimal at.nsec and decimal choice.fileid and decimal (if choice.kept then 1 else 0) and hex_text datagram

pub record FitsRequest (at : Time) (choice : Choice) (datagram : List ℕ) : Type 0 where
  pub sec : at.sec < 2 ^ 32
  pub nsec : at.nsec < 2 ^ 32
  pub fileid : choice.fileid < 2 ^ 64
  pub are_bytes : AreBytes datagram

abbrev pub answer_text : Answer → List ℕ
answer_text NoCall = codes "no call"
answer_text Garbage = codes "garbage"
answer_text Spent = codes "spent"
answer_text TooLong = codes "too long"
answer_text (answer.Reply packet) = hex_text packet
answer_text Restarted = codes "restarted"
answer_text Flushed = codes "flushed"
answer_text NoRequest = codes "no request"

-- the text of an answer of which this holds
pub record Prints (Is : Answer → Type 0) (text : List ℕ) : Type 0 where
  pub answer : Answer
  pub is : Is answer
  pub printed : text ≡ answer_text answer

-- ---- replies

-- an accepted call's reply (RFC 5531, section 9): its head, and the results
abbrev pub accepted : ℕ → Reply → List ℕ
accepted xid reply = accepted_text xid 0 ++ reply_text reply

-- its bytes, or that no packet can hold it
abbrev pub IsReplyAnswer : ℕ → Reply → Answer → Type 0
IsReplyAnswer xid reply (answer.Reply packet) = packet ≡ accepted xid reply
IsReplyAnswer xid reply TooLong = FitsReply reply → ⊥
IsReplyAnswer xid reply other = ⊥

-- ---- calls

-- The reply of the one server, whose volume it leaves; or that a number would pass the end of its type, and nothing
-- changes.
abbrev pub IsAnswerTo : Volume → Volume → ℕ → Call → Cred → Time → Choice → Answer → Type 0
IsAnswerTo old new xid call cred at choice Spent = (new ≡ old) × IsSpent (run (sight old) (plan call cred at choice))
IsAnswerTo old new xid call cred at choice other = (reply : Reply) × ((new, reply) ≡ perform old call cred at choice) × IsReplyAnswer xid reply other

-- the datagram is a call of NFS version 3
abbrev pub IsCallHead : Head → Type 0
IsCallHead (head.Call xid procedure cred args) = Unit {0}
IsCallHead other = ⊥

-- The datagram has no head of a call of NFS version 3.
pub record HasNoCall (datagram : List ℕ) : Type 0 where
  pub head : Head
  pub is : IsHeadOf datagram head
  pub other : IsCallHead head → ⊥

-- The datagram is a call of this procedure, whose arguments begin at this place.
pub record HasCall (datagram : List ℕ) (xid procedure : ℕ) (cred : Cred) (args : List ℕ) : Type 0 where
  pub place : ℕ
  pub is : IsHeadOf datagram (head.Call xid procedure cred place)
  pub behind : args ≡ drop place datagram

-- It is a call, and no arguments of its procedure stand there.
pub record HasNoArgs (datagram : List ℕ) : Type 0 where
  pub xid : ℕ
  pub procedure : ℕ
  pub cred : Cred
  pub args : List ℕ
  pub head : HasCall datagram xid procedure cred args
  pub none : (call : Call) → BeginsWithArgs procedure call args → ⊥

-- It is a call, to which this is the answer.
pub record IsAnswered (old new : Volume) (at : Time) (choice : Choice) (datagram : List ℕ) (answer : Answer) : Type 0 where
  pub xid : ℕ
  pub procedure : ℕ
  pub cred : Cred
  pub args : List ℕ
  pub call : Call
  pub head : HasCall datagram xid procedure cred args
  pub begins : BeginsWithArgs procedure call args
  pub answers : IsAnswerTo old new xid call cred at choice answer

-- The call in a datagram is performed, or the word says why there is none, and nothing changes.
abbrev pub IsCallAnswer : Volume → Volume → Time → Choice → List ℕ → Answer → Type 0
IsCallAnswer old new at choice datagram NoCall = (new ≡ old) × HasNoCall datagram
IsCallAnswer old new at choice datagram Garbage = (new ≡ old) × HasNoArgs datagram
IsCallAnswer old new at choice datagram other = IsAnswered old new at choice datagram other
