use Rattle.std.proofs.Common.{List, sym, refl, ap, ◌∙◌}
use Rattle.std.specs.List.{slice_get}
use Rattle.std.specs.Option.{option_copied}
use Rattle.std.specs.Vec.{with_items}
use Rattle.sl_history.specs.Turns.{turn_of}
use Rattle.sl_history.specs.Legal.{IsReplyIf, datagram_in}
use Rattle.sl_referee.specs.declared.case.Case.{Case}
use Rattle.sl_referee.specs.Dockets.{with_reply}
use Rattle.sl_referee.proofs.Replied.{says_true}
use Rattle.sl_referee.proofs.Taking.{reply_of_none, right_reply, set_in}
use Rattle.sl_referee.proofs.docket.Docket.note_reply.Goals as goal

pub returns-in_default : goal.returns-in_default
returns-in_default c =
    let d = c.args.self.now in
    let found = c.case_at.ensures ∙ ap (λ (cs : List Case). slice_get cs c.args.arrival) c.as_slice.ensures.value in
    record { notes = reply_of_none d d c.args.now c.args.arrival c.args.event c.args.bytes.now (sym found ∙ ap option_copied c.in_default.is) }

pub returns : goal.returns
returns c =
    let d = c.args.self.now in
    let found = c.case_at.ensures ∙ ap (λ (cs : List Case). slice_get cs c.args.arrival) c.as_slice.ensures.value in
    let got = sym found ∙ ap option_copied c.in-Some.is in
    record {
      notes = right_reply d (record { cases = with_items d.cases c.set_replied.new.cases; volume = d.volume; ends = d.ends; is_proxy_up = d.is_proxy_up; is_event = d.is_event })
          c.args.now c.args.arrival c.args.event c.args.bytes.now c.in-Some.case.now got c.if-case.false
          (λ start h is. says_true c.in_ok-right.right (IsReplyIf start h c.args.now c.args.arrival c.args.event c.args.bytes.now (datagram_in (turn_of h c.args.arrival))) c.if-not-right.false (c.in_ok-right.ensures.decides start h is got))
          (set_in d c.deref_mut.result.now c.set_replied.new.cases c.args.arrival with_reply c.deref_mut.ensures.value c.set_replied.ensures)
          refl refl refl refl;
    }
