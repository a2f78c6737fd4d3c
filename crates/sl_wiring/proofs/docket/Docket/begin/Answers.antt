use Rattle.std.proofs.Common.{[], ◌∷◌, refl, sym, ◌∙◌}
use Rattle.sl_defs.specs.declared.setup.Setup.{Setup}
use Rattle.sl_defs.specs.declared.setup.Time.{Time}
use Rattle.sl_model.specs.Volume.{Volume}
use Rattle.sl_history.specs.Turns.{Turn, History, begun}
use Rattle.sl_past.specs.Words.{happening_of}
use Rattle.sl_ledger.specs.Ledgers.{IsLedgerOf}
use Rattle.sl_wiring.specs.declared.docket.Docket.{Docket}
use Rattle.sl_wiring.specs.Dockets.{IsDocketOf}
use Rattle.sl_wiring.specs.Given.{AreGivenIn}
use Rattle.sl_wiring.proofs.Docketing.{volume_begun}
use Rattle.sl_wiring.proofs.Saying.{on_ok_then}
use Rattle.sl_wiring.proofs.docket.Docket.begin.Goals as goal

pub returns : goal.returns
returns c =
    let new : Docket = record {
      setup = c.args.self.now.setup;
      ledger = c.begin.new.self;
      volume = c.args.self.now.volume;
      given = c.take_given.new.given;
      actor = c.actor_of-self.result;
      answered = c.answered_by-self.result;
      granted = c.granted_by-self.result;
    } in
    on_ok_then c.take_given.result ((t : Turn) (past : History) → IsLedgerOf (t ∷ past) c.begin.new.self → AreGivenIn past c.args.self.now.given → AreGivenIn (t ∷ past) c.take_given.new.given)
    ((setup : Setup) (start : Volume) (past : History) (moment : Time) → IsDocketOf setup start past c.args.self.now → IsDocketOf setup start (begun past (happening_of c.args.happening.now) moment) new)
    c.take_given.ensures
    (λ given setup start past moment is.
    let x = happening_of c.args.happening.now in
    let t : Turn = record { happening = x; moment = moment; remarks = [] } in
    let ledger = c.in_ok-begin.ensures past moment is.ledger in
    record {
      setup_is = is.setup_is;
      ledger = ledger;
      volume = is.volume ∙ sym (volume_begun start past x moment);
      given = given t past ledger is.given;
      newest = record { actor = c.actor_of-self.ensures t past refl ledger; answered = c.answered_by-self.ensures past x moment ledger; granted = c.granted_by-self.ensures t past ledger };
    })
