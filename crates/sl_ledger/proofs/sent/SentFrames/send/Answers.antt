use Rattle.std.proofs.Common.{◌==◌, ◌&&◌, refl, ap, ◌∙◌}
use Rattle.std.proofs.lemmas.Result.{on_ok_weaker}
use Rattle.sl_history.specs.Licensed as licensed
use Rattle.sl_ledger.specs.Sending.{place, request_place, with_first, with_place}
use Rattle.sl_ledger.proofs.SentLaws.{sent_more}
use Rattle.sl_ledger.proofs.sent.SentFrames.send.Goals as goal

pub returns : goal.returns
returns c =
    let s = c.args.self.now in
    let f = c.args.frame in
    on_ok_weaker c.push.result (λ items t past is event.
    sent_more t past c.args.number f (record { frame = f; event = c.args.event }) s
    (record { frames = c.push.new.items; older = s.older; by_number = c.note_number.new.by_number; requests = c.note_request.new.requests; flying = c.fly.new.flying; given = s.given })
    is refl event items refl refl
    (λ n. c.in_ok-note_number.ensures n ∙ ap (λ k. with_place (c.args.number == n) s.older k (place s.by_number n)) c.count-place.ensures)
    (λ a b. c.in_ok-note_request.ensures a b
    ∙ ap (λ k. with_first (licensed.is_request f.body && (f.fence == a && f.tag == b)) k (request_place s.requests a b)) c.count-place.ensures)
    c.in_ok-fly.ensures)
    c.push.ensures
