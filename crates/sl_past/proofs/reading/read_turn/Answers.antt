use Rattle.std.proofs.Common.{◌≡◌, Err, ap, sym, ◌∙◌}
use Rattle.std.proofs.lemmas.Result.{err_from_is_err_and}
use Rattle.std.specs.Option.{option_copied}
use Rattle.sl_history.specs.Turns as turns
use Rattle.sl_past.specs.Transcripts.{volume_then}
use Rattle.sl_past.specs.Words.{happening_of}
use Rattle.sl_past.specs.declared.fault.TranscriptFault.TheVariants.{Bad}
use Rattle.sl_past.proofs.Others.{next_line, no_turn, same_volume}
use Rattle.sl_past.proofs.Texts.{turn_is}
use Rattle.sl_past.proofs.reading.read_turn.Goals as goal

pub returns-clause-found : goal.returns-clause-found
returns-clause-found c =
    let line = c.in_ok-happening.ensures.found in
    let remarks = c.in_ok-remarks.ensures.found in
    turn_is (option_copied c.args.volume) c.args.text.now c.in-Some.line.now c.in-Some.behind.now c.in_ok-remarks.rest.now c.new.result _ c.new.ensures
    line.0 remarks.0 c.in-Some.ensures.1 line.1 remarks.1

pub returns-clause-rest : goal.returns-clause-rest
returns-clause-rest c = λ t rest b.
    let volume = option_copied c.args.volume in
    let line = c.in_ok-happening.ensures.found in
    let next = next_line volume c.args.text.now c.in-Some.line.now c.in-Some.behind.now t rest c.in-Some.ensures.0 c.in-Some.ensures.1 b in
    let same = same_volume volume (happening_of c.in_ok-happening.happening) t.happening line.0 b.is.line c.in_ok-happening.ensures.fits b.fits.line (sym line.1 ∙ next.spelled) in
    (ap (λ (made : turns.Turn). volume_then made.happening volume) c.new.ensures ∙ same, c.in_ok-remarks.ensures.rest t.remarks rest next.more)

pub returns-in_default-clause-bad : goal.returns-in_default-clause-bad
returns-in_default-clause-bad c = λ same t rest b. no_turn (option_copied c.args.volume) c.args.text.now t rest c.in_default.ensures b

pub returns-in_err-happening-clause-bad : goal.returns-in_err-happening-clause-bad
returns-in_err-happening-clause-bad c = λ same t rest b.
    let next = next_line (option_copied c.args.volume) c.args.text.now c.in-Some.line.now c.in-Some.behind.now t rest c.in-Some.ensures.0 c.in-Some.ensures.1 b in
    let p = err_from_is_err_and c.from_residual.result c.from_residual.ensures.1 in
    let was = c.in_err-happening.was in
    let made = p.1 in
    let from = p.2 in
    let bad : c.read_happening.result ≡ Err Bad = cc in
    c.read_happening.ensures.bad bad t.happening b.fits.line b.is.line next.spelled

pub returns-in_err-remarks-clause-bad : goal.returns-in_err-remarks-clause-bad
returns-in_err-remarks-clause-bad c = λ same t rest b.
    let next = next_line (option_copied c.args.volume) c.args.text.now c.in-Some.line.now c.in-Some.behind.now t rest c.in-Some.ensures.0 c.in-Some.ensures.1 b in
    let p = err_from_is_err_and c.from_residual-in_err-remarks.result c.from_residual-in_err-remarks.ensures.1 in
    let was = c.in_err-remarks.was in
    let made = p.1 in
    let from = p.2 in
    let bad : c.read_remarks.result ≡ Err Bad = cc in
    c.read_remarks.ensures.bad bad t.remarks rest next.more
