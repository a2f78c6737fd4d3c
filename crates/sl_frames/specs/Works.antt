-- Works and intents: the one text of each, which of them have one, and how they are read.
use Rattle.std.specs.Prelude.{◌≡◌, ℕ, zero, suc, ◌^◌, ◌<◌, List, [], ◌∷◌, ◌++◌, length, Option, Some, None, Bool, true, false, ◌&&◌, nat_lt, if◌then◌else◌}
use Rattle.sl_defs.specs.Items.{u32_text, u64_text, opaque_text, ◌>>=◌, u32_at, u64_at}
use Rattle.sl_defs.specs.Parts.{mapped, ◌⊗◌, union_at}
use Rattle.sl_types.specs.declared.writes.Write.{Write}
use Rattle.sl_xdr.specs.Reading.{number_of_flag, flag_at}
use Rattle.sl_items.specs.Reading.{time_at}
use Rattle.sl_items.specs.Spelling.{FitsU64, FitsBytes, FitsTime, time_text}
use Rattle.sl_cells.specs.declared.changes.Change.{Change}
use Rattle.sl_cells.specs.Lists.{Reader, counted_at, counted_text, FitsList}
use Rattle.sl_cells.specs.Reading.{guarded, padded_at, id_at, id_or_none_at, change_at, write_at}
use Rattle.sl_cells.specs.Texts.{IsId, IsIdOrNone, change_text, FitsChange, ShortChange, write_text, FitsWrite, ShortWrite}
use Rattle.sl_frames.specs.declared.work.Work.{Work}
use Rattle.sl_frames.specs.declared.work.Work.TheVariants as work
use Rattle.sl_frames.specs.declared.intent.What.{What}
use Rattle.sl_frames.specs.declared.intent.What.TheVariants as what
use Rattle.sl_frames.specs.declared.intent.Part.{Part}
use Rattle.sl_frames.specs.declared.intent.Intent.{Intent}
use Rattle.sl_frames.specs.Actors.{is_directory, is_data, is_server}

-- ---- works: a number that tells what follows, and that

abbrev pub work_number : Work → ℕ
work_number (work.Change changes) = 1
work_number (work.Keep fileid writes) = 2
work_number (work.Put fileid offset bytes) = 3
work_number (work.Cut fileid size) = 4
work_number (work.Drop fileid) = 5

abbrev pub work_body_text : Work → List ℕ
work_body_text (work.Change changes) = counted_text change_text changes
work_body_text (work.Keep fileid writes) = u64_text fileid ++ counted_text write_text writes
work_body_text (work.Put fileid offset bytes) = u64_text fileid ++ (u64_text offset ++ opaque_text bytes)
work_body_text (work.Cut fileid size) = u64_text fileid ++ u64_text size
work_body_text (work.Drop fileid) = u64_text fileid

unfoldable pub work_text : Work → List ℕ
work_text w = u32_text (work_number w) ++ work_body_text w

abbrev pub FitsWork : Work → Type 0
FitsWork (work.Change changes) = FitsList FitsChange changes
FitsWork (work.Keep fileid writes) = IsId fileid × FitsList FitsWrite writes
FitsWork (work.Put fileid offset bytes) = IsId fileid × (FitsU64 offset × FitsBytes bytes)
FitsWork (work.Cut fileid size) = IsId fileid × FitsU64 size
FitsWork (work.Drop fileid) = IsId fileid

abbrev pub ShortWork : Work → Type 0
ShortWork (work.Change changes) = FitsList ShortChange changes
ShortWork (work.Keep fileid writes) = FitsList ShortWrite writes
ShortWork (work.Put fileid offset bytes) = FitsBytes bytes
ShortWork (work.Cut fileid size) = Unit {0}
ShortWork (work.Drop fileid) = Unit {0}

-- A directory server changes cells, and a data server does all other work.
abbrev pub suits : ℕ → Work → Bool
suits actor (work.Change changes) = is_directory actor
suits actor (work.Keep fileid writes) = is_data actor
suits actor (work.Put fileid offset bytes) = is_data actor
suits actor (work.Cut fileid size) = is_data actor
suits actor (work.Drop fileid) = is_data actor

-- The writes that are kept stand only in the record of their own server, and nowhere in a frame.
abbrev pub has_no_writes : Work → Bool
has_no_writes (work.Keep fileid []) = true
has_no_writes (work.Keep fileid (write ∷ writes)) = false
has_no_writes (work.Change changes) = true
has_no_writes (work.Put fileid offset bytes) = true
has_no_writes (work.Cut fileid size) = true
has_no_writes (work.Drop fileid) = true

-- This actor may be asked for this work.
abbrev pub may_be_asked : ℕ → Work → Bool
may_be_asked actor w = suits actor w && has_no_writes w

abbrev pub keep_work : ℕ × List Write → Work
keep_work x = work.Keep x.0 x.1

abbrev pub put_work : ℕ × (ℕ × List ℕ) → Work
put_work x = work.Put x.0 x.1.0 x.1.1

abbrev pub cut_work : ℕ × ℕ → Work
cut_work x = work.Cut x.0 x.1

unfoldable pub work_body_at : ℕ → Reader Work
work_body_at zero = λ _. None
work_body_at (suc zero) = mapped work.Change (counted_at change_at)
work_body_at (suc (suc zero)) = mapped keep_work (id_at ⊗ counted_at write_at)
work_body_at (suc (suc (suc zero))) = mapped put_work (id_at ⊗ u64_at ⊗ padded_at)
work_body_at (suc (suc (suc (suc zero)))) = mapped cut_work (id_at ⊗ u64_at)
work_body_at (suc (suc (suc (suc (suc zero))))) = mapped work.Drop id_at
work_body_at (suc (suc (suc (suc (suc (suc n)))))) = λ _. None

unfoldable pub work_at : Reader Work
work_at = union_at work_body_at

-- ---- what an intent is for: a number that tells what follows, and that

abbrev pub what_number : What → ℕ
what_number (what.Call chosen kept) = 1
what_number (what.Flush fileid) = 2

abbrev pub what_body_text : What → List ℕ
what_body_text (what.Call chosen kept) = u64_text chosen ++ u32_text (number_of_flag kept)
what_body_text (what.Flush fileid) = u64_text fileid

unfoldable pub what_text : What → List ℕ
what_text w = u32_text (what_number w) ++ what_body_text w

abbrev pub FitsWhat : What → Type 0
FitsWhat (what.Call chosen kept) = IsIdOrNone chosen × Unit {0}
FitsWhat (what.Flush fileid) = IsId fileid

abbrev pub call_what : ℕ × Bool → What
call_what x = what.Call x.0 x.1

unfoldable pub what_body_at : ℕ → Reader What
what_body_at zero = λ _. None
what_body_at (suc zero) = mapped call_what (id_or_none_at ⊗ flag_at)
what_body_at (suc (suc zero)) = mapped what.Flush id_at
what_body_at (suc (suc (suc n))) = λ _. None

unfoldable pub what_at : Reader What
what_at = union_at what_body_at

-- ---- parts of an intent

unfoldable pub part_text : Part → List ℕ
part_text p = u32_text p.actor ++ (u64_text p.boot ++ work_text p.work)

abbrev pub FitsPart : Part → Type 0
FitsPart p = ((is_server p.actor ≡ true) × (FitsU64 p.boot × FitsWork p.work)) × (may_be_asked p.actor p.work ≡ true)

abbrev pub ShortPart : Part → Type 0
ShortPart p = ShortWork p.work

unfoldable pub server_at : Reader ℕ
server_at = guarded is_server u32_at

unfoldable pub part_at : Reader Part
part_at =
    guarded
    (λ p. may_be_asked p.actor p.work)
    (mapped (λ x. record { actor = x.0; boot = x.1.0; work = x.1.1 }) (server_at ⊗ u64_at ⊗ work_at))

-- each actor is above the one before it, and the first above this number
abbrev pub rise_above : ℕ → List Part → Bool
rise_above last [] = true
rise_above last (p ∷ parts) = nat_lt last p.actor && rise_above p.actor parts

-- There is a part, and the actors rise; so each stands there once.
abbrev pub are_parts : List Part → Bool
are_parts parts = nat_lt 0 (length parts) && rise_above 0 parts

abbrev pub parts_text : List Part → List ℕ
parts_text = counted_text part_text

abbrev pub FitsParts : List Part → Type 0
FitsParts parts = FitsList FitsPart parts × (are_parts parts ≡ true)

unfoldable pub parts_at : Reader (List Part)
parts_at = guarded are_parts (counted_at part_at)

-- ---- intents

unfoldable pub intent_text : Intent → List ℕ
intent_text i = time_text i.moment ++ (what_text i.what ++ parts_text i.parts)

abbrev pub FitsIntent : Intent → Type 0
FitsIntent i = FitsTime i.moment × (FitsWhat i.what × FitsParts i.parts)

abbrev pub ShortIntent : Intent → Type 0
ShortIntent i = FitsList ShortPart i.parts

unfoldable pub intent_at : Reader Intent
intent_at = mapped (λ x. record { moment = x.0; what = x.1.0; parts = x.1.1 }) (time_at ⊗ what_at ⊗ parts_at)
