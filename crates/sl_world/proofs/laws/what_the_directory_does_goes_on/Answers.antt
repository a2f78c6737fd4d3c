use Rattle.sl_world.proofs.Handing.{directories_go_on}
use Rattle.sl_world.proofs.laws.what_the_directory_does_goes_on.Goals as goal

pub returns : goal.returns
returns c = directories_go_on
