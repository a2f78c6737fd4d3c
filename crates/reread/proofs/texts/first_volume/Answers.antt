use Rattle.std.proofs.Common.{refl}
use Rattle.reread.proofs.Answered.{no_volume}
use Rattle.reread.proofs.texts.first_volume.Goals as goal

pub returns-in-Err-Bad : goal.returns-in-Err-Bad
returns-in-Err-Bad c =
    let fault = rw c.in-Err-Bad.field-0-is at c.in-Err-Bad.ensures in
    no_volume c.args.text.now (fault.bad refl)
