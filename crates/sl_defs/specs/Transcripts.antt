-- The notes of a transcript, each with its one spelling.
use Rattle.std.specs.Prelude.{ℕ, ◌^◌, ◌<◌, List, ◌++◌, codes, decimal, if◌then◌else◌}
use Rattle.hex.specs.Hex.{encode_lower}
use Rattle.sl_defs.specs.Items.{AreBytes, u64_text}
use Rattle.sl_defs.specs.Schedules.{hex_text, moment_text, two_text, FitsMoment, ◌and◌}
use Rattle.sl_defs.specs.declared.setup.Time.{Time}
use Rattle.sl_defs.specs.declared.note.Choice.{Choice}
use Rattle.sl_defs.specs.declared.note.Printed.{Printed}
use Rattle.sl_defs.specs.declared.note.Printed.TheVariants.{Sent, Did, Flush, Verf, Reply, Junk, Early, Full, Lost, Down}

-- the fileid, and 1 for a kept WRITE, else 0
unfoldable pub choice_text : Choice → List ℕ
choice_text c = decimal c.fileid and decimal (if c.kept then 1 else 0)

unfoldable pub effect_text : Time → Choice → List ℕ
effect_text moment choice = moment_text moment and choice_text choice

unfoldable pub did_text : ℕ → Time → Choice → List ℕ
did_text arrival moment choice = decimal arrival and effect_text moment choice

-- the write verifier as 16 lower-case hexadecimal digits
unfoldable pub verifier_text : ℕ → List ℕ
verifier_text v = encode_lower (u64_text v)

unfoldable pub sent_text : ℕ → List ℕ → List ℕ
sent_text frame bytes = decimal frame and hex_text bytes

unfoldable pub reply_text : ℕ → ℕ → List ℕ → List ℕ
reply_text arrival event bytes = two_text arrival event and hex_text bytes

-- the one spelling of a note
abbrev pub note_text : Printed → List ℕ
note_text (Sent frame bytes) = codes "= sent " ++ sent_text frame bytes
note_text (Did arrival moment choice) = codes "= did " ++ did_text arrival moment choice
note_text (Flush fileid) = codes "= flush " ++ decimal fileid
note_text (Verf v) = codes "= verf " ++ verifier_text v
note_text (Reply arrival event bytes) = codes "= reply " ++ reply_text arrival event bytes
note_text (Junk arrival) = codes "= junk " ++ decimal arrival
note_text (Early arrival) = codes "= early " ++ decimal arrival
note_text (Full arrival) = codes "= full " ++ decimal arrival
note_text (Lost arrival) = codes "= lost " ++ decimal arrival
note_text (Down actor) = codes "= down " ++ decimal actor

-- ---- each number fits the type in which it is kept

pub record FitsDid (number : ℕ) (moment : Time) (choice : Choice) : Type 0 where
  pub arrival : number < 2 ^ 64
  pub at : FitsMoment moment
  pub fileid : choice.fileid < 2 ^ 64

pub record FitsReply (call answer : ℕ) (bytes : List ℕ) : Type 0 where
  pub arrival : call < 2 ^ 64
  pub event : answer < 2 ^ 64
  pub reply : AreBytes bytes

abbrev pub FitsNote : Printed → Type 0
FitsNote (Sent frame bytes) = (frame < 2 ^ 64) × AreBytes bytes
FitsNote (Did arrival moment choice) = FitsDid arrival moment choice
FitsNote (Flush fileid) = fileid < 2 ^ 64
FitsNote (Verf v) = v < 2 ^ 64
FitsNote (Reply arrival event bytes) = FitsReply arrival event bytes
FitsNote (Junk arrival) = arrival < 2 ^ 64
FitsNote (Early arrival) = arrival < 2 ^ 64
FitsNote (Full arrival) = arrival < 2 ^ 64
FitsNote (Lost arrival) = arrival < 2 ^ 64
FitsNote (Down actor) = actor < 2 ^ 8

-- one number stands in it, and nothing else
abbrev pub IsNumbered : Printed → Type 0
IsNumbered (Sent frame bytes) = ⊥
IsNumbered (Did arrival moment choice) = ⊥
IsNumbered (Reply arrival event bytes) = ⊥
IsNumbered _ = Unit {0}

-- a moment's nanoseconds are below 10^9
abbrev pub IsNote : Printed → Type 0
IsNote (Did arrival moment choice) = moment.nsec < 10 ^ 9
IsNote _ = Unit {0}
