use Rattle.std.proofs.Common.{append_assoc}
use Rattle.std.proofs.lemmas.List.{take-append-le, take_all, length-append, append-nil}

-- a text that was appended part by part
pub ruleset joined = (append_assoc, append-nil, take-append-le, take_all, length-append)
