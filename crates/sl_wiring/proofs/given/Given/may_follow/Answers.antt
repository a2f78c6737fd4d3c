use Rattle.std.proofs.Common.{ap, ◌∙◌}
use Rattle.sl_history.specs.Wired.{fits, is_answer}
use Rattle.sl_wiring.proofs.Answering.{follows, follows_first, follows_second}
use Rattle.sl_wiring.proofs.Fitting.{ack_answers, decided_answers, found_answers, grant_answers, listed_answers, minted_answers, packet_answers, refuse_answers, welcome_answers}
use Rattle.sl_wiring.proofs.given.Given.may_follow.Goals as goal

pub returns-in-Welcome : goal.returns-in-Welcome
returns-in-Welcome c =
    follows c.args.self.now c.args.frame.now 1 c.asks.result (λ asking. ap (fits asking) c.in-Welcome.is ∙ welcome_answers asking) (ap is_answer c.in-Welcome.is) c.asks.ensures

pub returns-in-Packet : goal.returns-in-Packet
returns-in-Packet c =
    follows c.args.self.now c.args.frame.now 3 c.asks-in-Packet.result (λ asking. ap (fits asking) c.in-Packet.is ∙ packet_answers asking c.in-Packet.field-0) (ap is_answer c.in-Packet.is) c.asks-in-Packet.ensures

pub returns-in-Found : goal.returns-in-Found
returns-in-Found c =
    follows c.args.self.now c.args.frame.now 5 c.asks-in-Found.result (λ asking. ap (fits asking) c.in-Found.is ∙ found_answers asking c.in-Found.field-0) (ap is_answer c.in-Found.is) c.asks-in-Found.ensures

pub returns-in-Listed : goal.returns-in-Listed
returns-in-Listed c =
    follows c.args.self.now c.args.frame.now 7 c.asks-in-Listed.result (λ asking. ap (fits asking) c.in-Listed.is ∙ listed_answers asking c.in-Listed.cells c.in-Listed.more) (ap is_answer c.in-Listed.is) c.asks-in-Listed.ensures

pub returns-in-Minted : goal.returns-in-Minted
returns-in-Minted c =
    follows c.args.self.now c.args.frame.now 9 c.asks-in-Minted.result (λ asking. ap (fits asking) c.in-Minted.is ∙ minted_answers asking c.in-Minted.fileid) (ap is_answer c.in-Minted.is) c.asks-in-Minted.ensures

pub returns-in-Decided : goal.returns-in-Decided
returns-in-Decided c =
    follows c.args.self.now c.args.frame.now 11 c.asks-in-Decided.result (λ asking. ap (fits asking) c.in-Decided.is ∙ decided_answers asking c.in-Decided.yes) (ap is_answer c.in-Decided.is) c.asks-in-Decided.ensures

pub returns-in-Grant : goal.returns-in-Grant
returns-in-Grant c =
    follows c.args.self.now c.args.frame.now 13 c.asks-in-Grant.result (λ asking. ap (fits asking) c.in-Grant.is ∙ grant_answers asking) (ap is_answer c.in-Grant.is) c.asks-in-Grant.ensures

pub returns-then-asks : goal.returns-then-asks
returns-then-asks c =
    follows_first c.args.self.now c.args.frame.now 3 13 c.asks-in-Refuse.result (λ asking. ap (fits asking) c.in-Refuse.is ∙ refuse_answers asking) c.if-asks.true c.asks-in-Refuse.ensures

pub returns-else-asks : goal.returns-else-asks
returns-else-asks c =
    follows_second c.args.self.now c.args.frame.now 3 13 c.asks-in-Refuse.result c.asks-else-asks.result (λ asking. ap (fits asking) c.in-Refuse.is ∙ refuse_answers asking) (ap is_answer c.in-Refuse.is)
    c.if-asks.false c.asks-in-Refuse.ensures c.asks-else-asks.ensures

pub returns-then-asks-2 : goal.returns-then-asks-2
returns-then-asks-2 c =
    follows_first c.args.self.now c.args.frame.now 16 17 c.asks-in-Ack.result (λ asking. ap (fits asking) c.in-Ack.is ∙ ack_answers asking) c.if-asks-2.true c.asks-in-Ack.ensures

pub returns-else-asks-2 : goal.returns-else-asks-2
returns-else-asks-2 c =
    follows_second c.args.self.now c.args.frame.now 16 17 c.asks-in-Ack.result c.asks-else-asks-2.result (λ asking. ap (fits asking) c.in-Ack.is ∙ ack_answers asking) (ap is_answer c.in-Ack.is)
    c.if-asks-2.false c.asks-in-Ack.ensures c.asks-else-asks-2.ensures
