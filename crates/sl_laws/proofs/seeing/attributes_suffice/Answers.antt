use Rattle.sl_laws.proofs.Attributes.{attributes_suffice}
use Rattle.sl_laws.proofs.seeing.attributes_suffice.Goals as goal

pub returns : goal.returns
returns c = attributes_suffice
