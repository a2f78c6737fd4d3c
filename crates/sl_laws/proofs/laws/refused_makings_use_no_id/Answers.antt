use Rattle.sl_laws.proofs.Refusing.{refused_makings_use_no_id}
use Rattle.sl_laws.proofs.laws.refused_makings_use_no_id.Goals as goal

pub returns : goal.returns
returns c = refused_makings_use_no_id
