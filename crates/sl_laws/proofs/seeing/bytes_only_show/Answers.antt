use Rattle.sl_laws.proofs.Showing.{bytes_only_show}
use Rattle.sl_laws.proofs.seeing.bytes_only_show.Goals as goal

pub returns : goal.returns
returns c = bytes_only_show
