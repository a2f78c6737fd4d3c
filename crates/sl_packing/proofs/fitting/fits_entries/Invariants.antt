use Rattle.std.proofs.Common.{All, take}
use Rattle.sl_replies.specs.Texts.{FitsEntry}
use Rattle.sl_packing.proofs.fitting.fits_entries.Given as goal

-- the entries so far fit
abbrev pub invariant-loop-entry : goal.invariant-loop-entry
invariant-loop-entry l = All FitsEntry (take l.entry-index l.entry-items)
