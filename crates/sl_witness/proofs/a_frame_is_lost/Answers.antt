use Rattle.sl_witness.proofs.Lost.{a_frame_is_lost}
use Rattle.sl_witness.proofs.a_frame_is_lost.Goals as goal

pub returns : goal.returns
returns c = a_frame_is_lost
