use Rattle.std.proofs.Common.{sym, ap, ◌∙◌, ◌∷◌}
use Rattle.std.specs.Option.{option_copied}
use Rattle.sl_history.specs.Turns.{Turn, History}
use Rattle.sl_ledger.specs.Ledgers.{IsLedgerOf}
use Rattle.sl_wiring.specs.Given.{AreGivenIn, HasMore, HasOneMore, grant_by, put_by}
use Rattle.sl_wiring.proofs.Givens.{frame_given, nothing_given}
use Rattle.sl_wiring.proofs.Saying.{on_ok_both}
use Rattle.sl_wiring.proofs.docket.take_given.Goals as goal

pub returns-in-Some : goal.returns-in-Some
returns-in-Some c =
    on_ok_both c.take.result (HasOneMore c.args.given.now.questions.keys c.take.new.self.questions.keys (put_by c.in-Some.frame.now))
    (HasMore c.args.given.now.grants.items.keys c.take.new.self.grants.items.keys (grant_by c.in-Some.frame.now))
    ((t : Turn) (past : History) → IsLedgerOf (t ∷ past) c.args.ledger.now → AreGivenIn past c.args.given.now → AreGivenIn (t ∷ past) c.take.new.self)
    c.take.ensures.questions c.take.ensures.grants
    (λ questions grants t past ledger are. frame_given t past c.in-Some.frame.now c.args.given.now c.take.new.self (sym (c.reached.ensures t past ledger) ∙ ap option_copied c.in-Some.is) questions grants are)

pub returns-in-None : goal.returns-in-None
returns-in-None c = λ t past ledger are. nothing_given t past c.args.given.now (sym (c.reached.ensures t past ledger) ∙ ap option_copied c.in-None.is) are
