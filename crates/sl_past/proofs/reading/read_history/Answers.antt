use Rattle.std.proofs.Common.{◌≡◌, ◌++◌, ◌∷◌, [], Bool, cond, Err, reverse, ap, sym, subst, ◌∙◌}
use Rattle.std.specs.Prelude.{Option}
use Rattle.std.specs.Option.{option_copied}
use Rattle.sl_defs.specs.Histories.{Happening}
use Rattle.sl_defs.specs.declared.setup.Setup.{Setup}
use Rattle.sl_past.specs.Transcripts.{volume_then}
use Rattle.sl_past.specs.declared.fault.TranscriptFault.TheVariants.{Bad}
use Rattle.sl_past.proofs.Others.{Left, all_left, is_less, left_there, next_turn}
use Rattle.sl_past.proofs.Steps.{begins, ends_here, is_none, is_some, one_turn_more}
use Rattle.sl_past.proofs.reading.read_history.Goals as goal

pub loop-rest-init : goal.loop-rest-init
loop-rest-init c = record { so = begins c.args.text.now c.new-turns.result.items c.new-turns.ensures.items; others = all_left c.args.text.now }

pub loop-rest-preserved : goal.loop-rest-preserved
loop-rest-preserved c =
    let so = c.loop-rest.invariant in
    let read = c.loop-rest.turns.items in
    let volume = c.loop-rest.volume in
    let given = option_copied c.as_ref.result in
    let copied = c.as_ref.ensures.value in
    let known : given ≡ volume = cc in
    let t = c.in-Ok.parts.0 in
    let behind = c.in-Ok.parts.1.now in
    let found = c.in-Ok.ensures.found in
    let pushed = c.push.ensures.items ∙ ap (λ (b : Bool). cond b (read ++ t ∷ []) read) c.if-is_err.ensures.negation in
    let after_is = c.volume_after-volume.ensures ∙ ap (λ (x : Happening). volume_then x volume) c.happening.ensures in
    record {
      so = one_turn_more c.args.text.now read c.push.new.self.items c.loop-rest.rest.now behind volume given c.volume_after-volume.result c.loop-rest.moment c.moment-moment.result t
          pushed known after_is c.moment-moment.ensures so.so found.0 found.1 c.in-Ok.ensures.moment;
      others = λ h fit is.
          let left = subst (λ (v : Option Setup). Left v c.loop-rest.rest.now) (sym known) (so.others h fit is) in
          let next = next_turn given c.loop-rest.rest.now (is_some c.loop-rest.rest.now (sym c.is_empty.ensures ∙ c.loop-rest-test.true)) left in
          let same = c.in-Ok.ensures.rest next.turn next.rest next.begins in
          left_there c.volume_after-volume.result (volume_then next.turn.happening given) behind next.rest
          (after_is ∙ ap (volume_then t.happening) (sym known) ∙ same.0) same.1 next.left;
    }

pub loop-rest-smaller : goal.loop-rest-smaller
loop-rest-smaller c = is_less c.in-Ok.parts.0 c.loop-rest.rest.now c.in-Ok.parts.1.now c.in-Ok.ensures.found.1

pub returns-in-Err-clause-bad : goal.returns-in-Err-clause-bad
returns-in-Err-clause-bad c = λ same h fit is.
    let volume = c.loop-rest.volume in
    let given = option_copied c.as_ref.result in
    let copied = c.as_ref.ensures.value in
    let known : given ≡ volume = cc in
    let left = subst (λ (v : Option Setup). Left v c.loop-rest.rest.now) (sym known) (c.loop-rest.invariant.others h fit is) in
    let next = next_turn given c.loop-rest.rest.now (is_some c.loop-rest.rest.now (sym c.is_empty.ensures ∙ c.loop-rest-test.true)) left in
    let was = c.in-Err.is in
    let bad : c.read_turn.result ≡ Err Bad = cc in
    c.read_turn.ensures.bad bad next.turn next.rest next.begins

pub returns-clause-found : goal.returns-clause-found
returns-clause-found c =
    ends_here c.args.text.now (reverse c.loop-rest.turns.items) c.reverse.new.self.items c.loop-rest.rest.now c.loop-rest.volume c.loop-rest.moment
    c.reverse.ensures.items (is_none c.loop-rest.rest.now (sym c.is_empty.ensures ∙ c.loop-rest-test.false)) c.loop-rest.invariant.so
