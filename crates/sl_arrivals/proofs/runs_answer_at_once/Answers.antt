use Rattle.sl_arrivals.proofs.Histories.{runs_answer_at_once}
use Rattle.sl_arrivals.proofs.runs_answer_at_once.Goals as goal

pub returns : goal.returns
returns c = runs_answer_at_once
