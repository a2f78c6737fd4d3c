-- What was read and printed again answers the request.
use Rattle.std.proofs.Common.{◌≡◌, ℕ, List, Option, Some, None, sym, ap, ◌∙◌}
use Rattle.std.specs.Prelude.{codes}
use Rattle.sl_defs.specs.Schedules.{FitsLine, IsLine, hex_text, line_text}
use Rattle.sl_defs.specs.Transcripts.{IsNote, note_text}
use Rattle.sl_defs.specs.declared.event.Line.{Line}
use Rattle.sl_defs.specs.declared.event.Line.TheVariants.{Volume}
use Rattle.sl_defs.specs.declared.note.Printed.{Printed}
use Rattle.sl_defs.specs.declared.setup.Setup.{Setup}
use Rattle.sl_defs.proofs.Readers.{same_some}
use Rattle.sl_types.specs.declared.call.Call.{Call}
use Rattle.sl_types.specs.declared.reply.Reply.{Reply}
use Rattle.sl_calls.specs.Args.{BeginsWithArgs, args_text}
use Rattle.sl_replies.specs.Reading.{reply_of}
use Rattle.sl_replies.specs.Results.{IsReplyTo}
use Rattle.sl_replies.specs.Texts.{reply_text}
use Rattle.sl_replies.proofs.Replies.{whole_found}
use Rattle.reread.specs.Answers.{IsCallAnswer, IsReplyAnswer, IsLineAnswer, IsNoteAnswer, IsVolumeOf}

module _ (n : ℕ) (bytes answer : List ℕ) where
  pub call_is : (call : Call) → BeginsWithArgs n call bytes → ((other : Call) → BeginsWithArgs n other bytes → other ≡ call) → answer ≡ hex_text (args_text call) → IsCallAnswer n bytes answer
  call_is call begins only e = record {
    read = λ other is. e ∙ ap (λ (c : Call). hex_text (args_text c)) (sym (only other is));
    garbage = λ none. absurd (none call begins);
  }

  pub no_call : ((call : Call) → BeginsWithArgs n call bytes → ⊥) → answer ≡ codes "garbage" → IsCallAnswer n bytes answer
  no_call none e = record { read = λ call is. absurd (none call is); garbage = λ _. e }

  pub reply_is : (reply : Reply) → reply_of n bytes ≡ Some reply → IsReplyTo n reply bytes → answer ≡ hex_text (reply_text reply) → IsReplyAnswer n bytes answer
  reply_is reply exact found e = record {
    read = λ other is. e ∙ ap (λ (r : Reply). hex_text (reply_text r)) (same_some reply other (sym exact ∙ (ap (λ (k : ℕ). reply_of k bytes) (sym is.1) ∙ whole_found other bytes is.0)));
    garbage = λ none. absurd (none reply found);
  }

module _ (text answer : List ℕ) where
  pub line_is : (setup : Option Setup) (line : Line) → IsLine setup line → text ≡ line_text line → answer ≡ line_text line → IsLineAnswer setup text answer
  line_is setup line is t e = record { read = λ _ _ _ _. e ∙ sym t; bad = λ _. (line, is, t, e ∙ sym t) }

  pub note_is : (note : Printed) → IsNote note → text ≡ note_text note → answer ≡ note_text note → IsNoteAnswer text answer
  note_is note is t e = record { read = λ _ _ _ _. e ∙ sym t; bad = λ _. (note, is, t, e ∙ sym t) }

pub no_volume : (text : List ℕ) → ((line : Line) → FitsLine line → IsLine None line → text ≡ line_text line → ⊥) → IsVolumeOf text None
no_volume text none = record { known = λ setup fits is t. absurd (none (Volume setup) fits is t); given = tt }
