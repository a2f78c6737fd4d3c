use Rattle.std.proofs.Common.{◌≡◌, true, ◌∙◌}
use Rattle.sl_history.specs.Legal.{is_kept}
use Rattle.sl_datagram.specs.Datagrams.{asked_of}
use Rattle.sl_referee.proofs.Effecting.{same_bool, takes}
use Rattle.sl_referee.proofs.effects.take_effect.Goals as goal

pub returns-then-choice-is_kept-clause-taken : goal.returns-then-choice-is_kept-clause-taken
returns-then-choice-is_kept-clause-taken c =
    let done = c.in_ok-reply.ensures.done in
    let may : c.may_begin.result ≡ true = c.if-not-may_begin.false in
    let kept : c.args.choice.kept ≡ is_kept c.in_ok-reply.reply = same_bool c.args.choice.kept c.is_kept.result c.if-choice-is_kept.true ∙ c.is_kept.ensures in
    takes c.args.case.now (asked_of c.args.asked.now) c.args.volume.now c.answer.new.volume c.args.now c.args.at c.args.choice c.in_ok-reply.reply c.in_ok-reply.bytes
    (c.may_begin.ensures.0 may) done.0 done.1 kept
