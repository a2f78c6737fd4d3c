-- What is answered to a request: what was read, printed again, or the word that says that nothing was read.
use Rattle.std.specs.Prelude.{◌≡◌, ℕ, List, Option, Some, None, IfSome, IsSome, codes, decimal}
use Rattle.sl_defs.specs.Schedules.{◌and◌, FitsLine, FitsSetup, IsLine, IsSetup, hex_text, line_text}
use Rattle.sl_defs.specs.Transcripts.{FitsNote, IsNote, note_text}
use Rattle.sl_defs.specs.declared.event.Line.{Line}
use Rattle.sl_defs.specs.declared.event.Line.TheVariants.{Volume}
use Rattle.sl_defs.specs.declared.note.Printed.{Printed}
use Rattle.sl_defs.specs.declared.setup.Setup.{Setup}
use Rattle.sl_types.specs.declared.call.Call.{Call}
use Rattle.sl_types.specs.declared.reply.Reply.{Reply}
use Rattle.sl_calls.specs.Args.{BeginsWithArgs, args_text}
use Rattle.sl_replies.specs.Results.{IsReplyTo}
use Rattle.sl_replies.specs.Texts.{reply_text}

-- the arguments of a procedure at the front of the bytes, in their canonical spelling
pub record IsCallAnswer (procedure : ℕ) (bytes answer : List ℕ) : Type 0 where
  pub read : (call : Call) → BeginsWithArgs procedure call bytes → answer ≡ hex_text (args_text call)
  pub garbage : ((call : Call) → BeginsWithArgs procedure call bytes → ⊥) → answer ≡ codes "garbage"

-- the results of a procedure that the whole bytes spell, in their canonical spelling
pub record IsReplyAnswer (procedure : ℕ) (bytes answer : List ℕ) : Type 0 where
  pub read : (reply : Reply) → IsReplyTo procedure reply bytes → answer ≡ hex_text (reply_text reply)
  pub garbage : ((reply : Reply) → IsReplyTo procedure reply bytes → ⊥) → answer ≡ codes "garbage"

-- a line of a schedule, the first where no volume is known, and else one of that volume's: all but `bad` is its text
pub record IsLineAnswer (setup : Option Setup) (text answer : List ℕ) : Type 0 where
  pub read : (line : Line) → FitsLine line → IsLine setup line → text ≡ line_text line → answer ≡ text
  pub bad : (answer ≡ codes "bad" → ⊥) → (line : Line) × IsLine setup line × (text ≡ line_text line) × (answer ≡ text)

-- the volume of a line, where it is one
abbrev pub volume_in : Line → Option Setup
volume_in (Volume setup) = Some setup
volume_in _ = None

-- the volume of a first line, where it is one
pub record IsVolumeOf (text : List ℕ) (volume : Option Setup) : Type 0 where
  pub known : (setup : Setup) → FitsSetup setup → IsSetup setup → text ≡ line_text (Volume setup) → IsSome volume
  pub given : IfSome volume (λ setup. IsSetup setup × (text ≡ line_text (Volume setup)))

-- a note of a transcript: all but `bad` is its text
pub record IsNoteAnswer (text answer : List ℕ) : Type 0 where
  pub read : (note : Printed) → FitsNote note → IsNote note → text ≡ note_text note → answer ≡ text
  pub bad : (answer ≡ codes "bad" → ⊥) → (note : Printed) × IsNote note × (text ≡ note_text note) × (answer ≡ text)

-- a procedure's number, and bytes
abbrev pub packet_text : ℕ → List ℕ → List ℕ
packet_text procedure bytes = decimal procedure and hex_text bytes
