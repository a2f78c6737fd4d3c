-- What holds of the grammar of results as a whole.
use Rattle.std.specs.Prelude.{◌≡◌, List, [], ◌++◌, Some, ℕ}
use Rattle.sl_types.specs.declared.reply.Reply.{Reply}
use Rattle.sl_replies.specs.Results.{procedure_of, IsReply}
use Rattle.sl_replies.specs.Reading.{reply_of}
use Rattle.sl_replies.specs.Texts.{reply_text, FitsReply}
use Rattle.sl_replies.specs.Ranges.{ReplyInRange}

-- The canonical text of a reply in range spells its results.
abbrev pub CanonicalTextsSpell : Type 0
CanonicalTextsSpell = (reply : Reply) → FitsReply reply → ReplyInRange reply → IsReply reply (reply_text reply)

-- What spells a reply's results is read as that reply.
abbrev pub SpellingsAreRead : Type 0
SpellingsAreRead = (reply : Reply) (text : List ℕ) → IsReply reply text → reply_of (procedure_of reply) text ≡ Some reply

-- No spelling is a proper front of another of the same procedure, and none spells two replies.
abbrev pub NoSpellingIsAFront : Type 0
NoSpellingIsAFront = (reply other : Reply) (front rest : List ℕ) → procedure_of reply ≡ procedure_of other → IsReply reply front → IsReply other (front ++ rest) → (reply ≡ other) × (rest ≡ [])
