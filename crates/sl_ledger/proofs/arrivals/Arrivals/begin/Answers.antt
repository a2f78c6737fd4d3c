use Rattle.std.proofs.Common.{false, refl, sym, subst}
use Rattle.sl_history.specs.Turns.{begun}
use Rattle.sl_past.specs.Words.{happening_of}
use Rattle.sl_past.specs.declared.happening.Happening.{Happening}
use Rattle.sl_ledger.specs.Waiting.{AreArrivalsOf}
use Rattle.sl_ledger.proofs.ArrivalLaws.{arrivals_begun, no_count}
use Rattle.std.proofs.lemmas.Result.{on_ok_weaker}
use Rattle.sl_ledger.proofs.arrivals.Arrivals.begin.Goals as goal

pub returns-in-Happens : goal.returns-in-Happens
returns-in-Happens c =
    on_ok_weaker c.begin_event.result (λ now past moment is.
    subst (λ (h : Happening). AreArrivalsOf (begun past (happening_of h) moment) c.begin_event.new.self) (sym c.in-Happens.is) (now past moment is))
    c.begin_event.ensures

pub returns : goal.returns
returns c = λ past moment is.
    let a = c.args.self.now in
    arrivals_begun past (happening_of c.args.happening.now) moment a (record { datagrams = a.datagrams; is_event = false; waiting = a.waiting }) is
    (no_count c.args.happening.now c.in_default.not-Happens) refl refl refl
