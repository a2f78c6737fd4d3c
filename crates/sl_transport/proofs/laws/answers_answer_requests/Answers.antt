use Rattle.sl_transport.proofs.Answering.{answers_answer}
use Rattle.sl_transport.proofs.laws.answers_answer_requests.Goals as goal

pub returns : goal.returns
returns c = answers_answer
