-- What the claims on histories say of the small ones: yes of those that a server could have, and no of the others.
use Rattle.sl_history.specs.Legal.{Legal}
use Rattle.sl_history.specs.Licensed.{Licensed}
use Rattle.sl_cells.specs.declared.keys.CellKey.TheVariants as key
use Rattle.sl_frames.specs.declared.found.FoundCell.TheVariants as found
use Rattle.sl_history.specs.Wired.{Wired, cell_of}
use Rattle.sl_examples.specs.Histories.{setup, start, welcomed, answered, twice_answered, wrongly_answered, unanswered, too_early, dropped_silently, dropped_though_welcome, verified_twice, unasked, never_sent, given_again, done_twice, replied_for_nothing, done_though_dropped, verified_the_same, flushed_for_nothing, answered_by_another, told_of_root}

-- A call has its one reply: a second one, one with a wrong byte, and none aren't legal.
abbrev pub RepliesAreToldApart : Type 0
RepliesAreToldApart = Legal start answered × (Legal start twice_answered → ⊥) × (Legal start wrongly_answered → ⊥) × (Legal start unanswered → ⊥)

-- A call takes effect once at most, not where it was dropped, and has no reply before.
abbrev pub EffectsAreToldApart : Type 0
EffectsAreToldApart = (Legal start done_twice → ⊥) × (Legal start done_though_dropped → ⊥) × (Legal start replied_for_nothing → ⊥)

-- A call before the Welcome is dropped as early, and must be; one after it may not be.
abbrev pub DropsAreToldApart : Type 0
DropsAreToldApart = Licensed start too_early × (Licensed start dropped_silently → ⊥) × (Licensed start dropped_though_welcome → ⊥)

-- A Welcome brings a write verifier; without a loss no second one comes, and after one it rises. A file without unstable
-- writes isn't flushed.
abbrev pub VerifiersAreToldApart : Type 0
VerifiersAreToldApart =
    Licensed start welcomed × (Licensed start verified_twice → ⊥) × (Licensed start verified_the_same → ⊥) × (Licensed start flushed_for_nothing → ⊥)

-- Hello and Welcome are wired; a Welcome that nobody asked for isn't, nor is a frame that is given though it was never
-- sent, or given for good before, nor is an answer by another actor.
abbrev pub FramesAreToldApart : Type 0
FramesAreToldApart =
    Wired setup start welcomed × (Wired setup start unasked → ⊥) × (Wired setup start never_sent → ⊥) × (Wired setup start given_again → ⊥)
    × (Wired setup start answered_by_another → ⊥)

-- The root's server tells its cell as the volume has it, and doesn't say that there is none.
abbrev pub CellsAreToldApart : Type 0
CellsAreToldApart = Wired setup start (told_of_root (cell_of start (key.Attr 1))) × (Wired setup start (told_of_root found.Absent) → ⊥)
