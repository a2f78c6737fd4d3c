use Rattle.std.proofs.Common.{refl}
use Rattle.sl_licence.proofs.Docketing.{begins}
use Rattle.sl_licence.proofs.Saying.{on_ok_one}
use Rattle.sl_licence.proofs.docket.Docket.begin.Goals as goal

pub returns : goal.returns
returns c = on_ok_one c.begin.result (λ f start past moment is. begins start past c.args.happening.now moment c.args.self.now (record { evidence = c.begin.new.self; volume = c.args.self.now.volume }) (f past moment) refl is) c.begin.ensures
