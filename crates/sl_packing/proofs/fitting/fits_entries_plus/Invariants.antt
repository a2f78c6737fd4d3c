use Rattle.std.proofs.Common.{All, take}
use Rattle.sl_replies.specs.Texts.{FitsEntryPlus}
use Rattle.sl_packing.proofs.fitting.fits_entries_plus.Given as goal

-- the entries so far fit
abbrev pub invariant-loop-entry : goal.invariant-loop-entry
invariant-loop-entry l = All FitsEntryPlus (take l.entry-index l.entry-items)
