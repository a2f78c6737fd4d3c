use Rattle.sl_frames.proofs.FrameReaders.{frame_found}
use Rattle.sl_frames.proofs.laws.spellings_are_read.Goals as goal

pub returns : goal.returns
returns c = frame_found
