use Rattle.std.proofs.Common.{reverse, length}
use Rattle.std.specs.Prelude.{All}
use Rattle.sl_history.specs.Turns.{History}
use Rattle.sl_past.specs.Transcripts.{FitsTurn, IsTranscriptOf}
use Rattle.sl_past.proofs.Others.{Left}
use Rattle.sl_past.proofs.Steps.{Sofar}
use Rattle.sl_past.proofs.reading.read_history.Given as goal

abbrev pub invariant-loop-rest : goal.invariant-loop-rest
invariant-loop-rest l = record {
  so : Sofar l.text (reverse l.turns.items) l.rest l.volume l.moment;
  others : (h : History) → All FitsTurn h → IsTranscriptOf l.text h → Left l.volume l.rest;
}

abbrev pub decreases-loop-rest : goal.decreases-loop-rest
decreases-loop-rest l = length l.rest
