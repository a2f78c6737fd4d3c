use Rattle.std.proofs.Common.{◌≡◌, ◌++◌, ◌∷◌, [], Bool, cond, Err, ap, sym, ◌∙◌}
use Rattle.std.proofs.lemmas.Result.{err_from_is_err_and}
use Rattle.sl_past.specs.declared.fault.TranscriptFault.TheVariants.{Bad}
use Rattle.sl_past.proofs.Others.{next_remark, no_remarks, all_remarks}
use Rattle.sl_past.proofs.Texts.{none_read, one_more_read}
use Rattle.sl_past.proofs.notes.read_remarks.Goals as goal

pub loop-alloc-init : goal.loop-alloc-init
loop-alloc-init c =
    let none = none_read c.args.text.now c.new-remarks.result.items c.new-remarks.ensures.items in
    record { spelled = none.0; are = none.1; others = λ remarks rest b. (remarks, b) }

pub loop-alloc-preserved : goal.loop-alloc-preserved
loop-alloc-preserved c =
    let so = c.loop-alloc.invariant in
    let cut = c.in-Some.ensures in
    let is = c.in_ok-remark.ensures.found in
    let read = c.loop-alloc.remarks.items in
    let pushed = c.push.ensures.items ∙ ap (λ (b : Bool). cond b (read ++ c.in_ok-remark.remark ∷ []) read) c.if-is_err.ensures.negation in
    let more = one_more_read c.args.text.now read c.push.new.self.items c.in_ok-remark.remark c.loop-alloc.rest.now c.in-Some.line.now c.in-Some.behind.now pushed so.spelled so.are cut.1 is.0 is.1 in
    record {
      spelled = more.0;
      are = more.1;
      others = λ remarks rest b.
          let left = so.others remarks rest b in
          let next = next_remark c.loop-alloc.rest.now c.in-Some.line.now c.in-Some.behind.now left.0 rest (sym c.begins_note.ensures ∙ c.loop-alloc-test.true) cut.0 cut.1 left.1 in
          (next.left, next.more);
    }

pub returns-in_default-clause-bad : goal.returns-in_default-clause-bad
returns-in_default-clause-bad c = λ same remarks rest b.
    let left = c.loop-alloc.invariant.others remarks rest b in
    no_remarks c.loop-alloc.rest.now left.0 rest (sym c.begins_note.ensures ∙ c.loop-alloc-test.true) c.in_default.ensures left.1

pub returns-in_err-remark-clause-bad : goal.returns-in_err-remark-clause-bad
returns-in_err-remark-clause-bad c = λ same remarks rest b.
    let left = c.loop-alloc.invariant.others remarks rest b in
    let cut = c.in-Some.ensures in
    let next = next_remark c.loop-alloc.rest.now c.in-Some.line.now c.in-Some.behind.now left.0 rest (sym c.begins_note.ensures ∙ c.loop-alloc-test.true) cut.0 cut.1 left.1 in
    let p = err_from_is_err_and c.from_residual.result c.from_residual.ensures.1 in
    let was = c.in_err-remark.was in
    let made = p.1 in
    let from = p.2 in
    let bad : c.read_remark.result ≡ Err Bad = cc in
    c.read_remark.ensures.bad bad next.remark next.fits next.is next.spelled

pub returns-clause-rest : goal.returns-clause-rest
returns-clause-rest c = λ remarks rest b.
    let left = c.loop-alloc.invariant.others remarks rest b in
    all_remarks c.loop-alloc.rest.now left.0 rest (sym c.begins_note.ensures ∙ c.loop-alloc-test.false) left.1
