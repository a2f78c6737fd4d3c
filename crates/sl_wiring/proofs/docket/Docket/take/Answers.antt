use Rattle.std.proofs.Common.{[], ◌∷◌, ◌++◌, refl}
use Rattle.sl_past.specs.Words.{remark_of}
use Rattle.sl_wiring.specs.declared.docket.Docket.{Docket}
use Rattle.sl_wiring.proofs.Docketing.{newest_over}
use Rattle.sl_wiring.proofs.Givens.{given_over}
use Rattle.sl_wiring.proofs.docket.Docket.take.Goals as goal

pub returns-in-Ok-clause-taken : goal.returns-in-Ok-clause-taken
returns-in-Ok-clause-taken c = λ setup start t past is.
    let rs = t.remarks ++ remark_of c.args.remark.now ∷ [] in
    let new : Docket = record {
      setup = c.args.self.now.setup;
      ledger = c.note.new.self;
      volume = c.follow.new.volume;
      given = c.args.self.now.given;
      actor = c.args.self.now.actor;
      answered = c.args.self.now.answered;
      granted = c.args.self.now.granted;
    } in
    record {
      setup_is = is.setup_is;
      ledger = c.in-Ok.ensures t past is.ledger;
      volume = c.in_ok-follow.ensures.follows start t past is.ledger is.volume;
      given = given_over t past rs c.args.self.now.given is.given;
      newest = newest_over past t rs c.args.self.now new refl refl refl is.newest;
    }
