use Rattle.std.proofs.Common.{◌≡◌, ◌++◌, map, take}
use Rattle.sl_past.specs.Transcripts.{remarks_text}
use Rattle.sl_past.specs.Words.{remark_of}
use Rattle.slice.proofs.printing.put_notes.Given as goal

abbrev pub invariant-loop-remark : goal.invariant-loop-remark
invariant-loop-remark l = l.out.items ≡ l.fn.out.items ++ remarks_text (map remark_of (take l.remark-index l.remarks))
