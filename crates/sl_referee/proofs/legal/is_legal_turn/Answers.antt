use Rattle.std.proofs.Common.{◌≡◌, true, List, [], ◌∷◌, Ok, ap, sym, subst, ◌∙◌}
use Rattle.std.specs.Prelude.{ℕ, map}
use Rattle.sl_defs.specs.Histories.{Happening}
use Rattle.sl_defs.specs.declared.setup.Time.{Time}
use Rattle.sl_history.specs.Turns.{Remark, events}
use Rattle.sl_history.specs.Frames.{is_up}
use Rattle.sl_history.specs.Legal.{AllMayBeNoted}
use Rattle.sl_past.specs.Words.{happening_of, remark_of}
use Rattle.sl_referee.specs.Cases.{RepliesIn}
use Rattle.sl_history.specs.Deciding.{Says}
use Rattle.sl_referee.specs.Dockets.{IsDocketOf}
use Rattle.sl_history.specs.Turns.{begun}
use Rattle.sl_referee.proofs.Replied.{says_same, says_true}
use Rattle.sl_referee.proofs.Taking.{newest_is}
use Rattle.sl_referee.proofs.Turning.{legal_turn, was_at_once}
use Rattle.sl_referee.proofs.legal.is_legal_turn.Goals as goal

pub returns-clause-decides : goal.returns-clause-decides
returns-clause-decides c = λ start past is.
    let t = c.args.turn.now in
    let begins : IsDocketOf start (begun past t.happening t.moment) c.begin.new.self =
    subst (λ (x : Happening). IsDocketOf start (begun past x t.moment) c.begin.new.self) c.happening.ensures
    (subst (λ (m : Time). IsDocketOf start (begun past (happening_of c.happening.result.now) m) c.begin.new.self) c.moment.ensures (c.in_ok-begin.ensures.begins start past is)) in
    let may : AllMayBeNoted start t past [] t.remarks = says_true c.in_ok-may.may (AllMayBeNoted start t past [] t.remarks) c.if-not-may.false (c.in_ok-may.ensures.decides start past begins) in
    let noted : IsDocketOf start (t ∷ past) c.may_be_noted.new.docket = c.in_ok-may.ensures.takes (ap (λ b. Ok b) c.if-not-may.false) start past begins in
    let newest : c.newest-newest.result ≡ events (t ∷ past) = newest_is start (t ∷ past) c.may_be_noted.new.docket c.newest-newest.result noted c.newest-newest.ensures in
    let up : is_up past 0 ≡ true = sym is.up ∙ sym c.is_proxy_up-was_up.ensures ∙ c.if-not-was_up.false in
    let replies : Says c.replies_at_once.result (RepliesIn (events (t ∷ past)) t.remarks t.happening) =
    subst (λ (n : ℕ). Says c.replies_at_once.result (RepliesIn n t.remarks t.happening)) newest
    (subst (λ (rs : List Remark). Says c.replies_at_once.result (RepliesIn c.newest-newest.result rs t.happening)) c.remarks.ensures
    (subst (λ (x : Happening). Says c.replies_at_once.result (RepliesIn c.newest-newest.result (map remark_of c.remarks.result.now) x)) c.happening-2.ensures c.replies_at_once.ensures.decides)) in
    says_same c.replies_at_once.result (λ r. legal_turn start past t may (λ u. r)) (λ legal. was_at_once past t t.happening legal.at_once up) replies
