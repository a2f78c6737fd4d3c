-- What is answered to a datagram whose head is a call's.
use Rattle.std.proofs.Common.{◌≡◌, ℕ, ◌-◌, List, length, take, drop, arith}
use Rattle.std.proofs.lemmas.List.{take_all, length-drop}
use Rattle.sl_defs.specs.declared.note.Choice.{Choice}
use Rattle.sl_defs.specs.declared.setup.Time.{Time}
use Rattle.sl_types.specs.declared.cred.Cred.{Cred}
use Rattle.sl_types.specs.declared.call.Call.{Call}
use Rattle.sl_rpc.specs.declared.head.Head.TheVariants as head
use Rattle.sl_rpc.specs.Heads.{IsHeadOf}
use Rattle.sl_calls.specs.Args.{BeginsWithArgs}
use Rattle.sl_model.specs.Volume.{Volume}
use Rattle.plainly.specs.declared.answers.Answer.{Answer}
use Rattle.plainly.specs.declared.answers.Answer.TheVariants.{NoCall, Garbage, Spent, TooLong, Restarted, Flushed, NoRequest}
use Rattle.plainly.specs.declared.answers.Answer.TheVariants as answer
use Rattle.plainly.specs.Answers.{HasNoArgs, IsAnswerTo, IsAnswered, IsCallAnswer}

-- the bytes from a place to the end
pub sliced : (bytes : List ℕ) (place : ℕ) → take (length bytes - place) (drop place bytes) ≡ drop place bytes
sliced bytes place = take_all (length bytes - place) (drop place bytes) (omega (arith, length-drop place bytes))

module _ (datagram : List ℕ) (xid procedure : ℕ) (cred : Cred) (place : ℕ) (is : IsHeadOf datagram (head.Call xid procedure cred place))
    (args : List ℕ) (behind : args ≡ drop place datagram) where
  pub no_args : ((call : Call) → BeginsWithArgs procedure call args → ⊥) → HasNoArgs datagram
  no_args none = record {
    xid = xid;
    procedure = procedure;
    cred = cred;
    args = args;
    head = record { place = place; is = is; behind = behind };
    none = none;
  }

  answered : (old new : Volume) (at : Time) (choice : Choice) (call : Call) → BeginsWithArgs procedure call args → (a : Answer)
      → IsAnswerTo old new xid call cred at choice a → IsAnswered old new at choice datagram a
  answered old new at choice call begins a answers = record {
    xid = xid;
    procedure = procedure;
    cred = cred;
    args = args;
    call = call;
    head = record { place = place; is = is; behind = behind };
    begins = begins;
    answers = answers;
  }

  pub performed : (old new : Volume) (at : Time) (choice : Choice) (call : Call) → BeginsWithArgs procedure call args → (a : Answer)
      → IsAnswerTo old new xid call cred at choice a → IsCallAnswer old new at choice datagram a
  performed old new at choice call begins NoCall answers = absurd answers.2
  performed old new at choice call begins Garbage answers = absurd answers.2
  performed old new at choice call begins Spent answers = answered old new at choice call begins Spent answers
  performed old new at choice call begins TooLong answers = answered old new at choice call begins TooLong answers
  performed old new at choice call begins (answer.Reply packet) answers = answered old new at choice call begins (answer.Reply packet) answers
  performed old new at choice call begins Restarted answers = absurd answers.2
  performed old new at choice call begins Flushed answers = absurd answers.2
  performed old new at choice call begins NoRequest answers = absurd answers.2
