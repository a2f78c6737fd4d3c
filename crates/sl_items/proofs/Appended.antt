-- What was written is the old text with the new one behind it.
use Rattle.std.proofs.Common.{append_assoc, length-append}
use Rattle.std.proofs.lemmas.List.{take-append-le, take_all}

pub ruleset appended = (append_assoc, take-append-le, take_all, length-append)
