use Rattle.std.proofs.Common.{◌≡◌, true, false, ap, sym, subst, refl, ◌∙◌}
use Rattle.std.proofs.lemmas.Bool.{not-true, not-false}
use Rattle.std.specs.Prelude.{Option, Some, None}
use Rattle.sl_past.specs.Words.{remark_of}
use Rattle.sl_licence.specs.declared.asking.FlushRequest.{FlushRequest}
use Rattle.sl_licence.specs.Asking.{Sends, has_request, request_in, unless}
use Rattle.sl_licence.proofs.Sending.{is_new, more_keys, sends_on}
use Rattle.sl_licence.proofs.asking.Requests.note.Goals as goal

pub returns-in_default-clause-noted : goal.returns-in_default-clause-noted
returns-in_default-clause-noted c = λ t past are.
    let none : request_in (remark_of c.args.remark.now) ≡ None = sym c.request_in.ensures ∙ c.in_default.is in
    sends_on t past (remark_of c.args.remark.now) c.args.self.now c.args.self.now
    (subst (λ (o : Option FlushRequest). Sends c.args.self.now c.args.self.now o) (sym none) refl) are

pub returns-in-Ok-true-clause-new : goal.returns-in-Ok-true-clause-new
returns-in-Ok-true-clause-new c = λ h are.
    let some : request_in (remark_of c.args.remark.now) ≡ Some c.in-Some.request = sym c.request_in.ensures ∙ c.in-Some.is in
    let unknown : has_request c.args.self.now.sent c.in-Some.request ≡ false = not-true (has_request c.args.self.now.sent c.in-Some.request) (sym (rw c.in-Ok-true.field-0-test at c.in-Ok-true.ensures.added)) in
    sym (is_new (remark_of c.args.remark.now) h c.args.self.now c.in-Some.request some are ∙ ap (λ b. unless b c.in-Some.request) unknown)

pub returns-in-Ok-false-clause-new : goal.returns-in-Ok-false-clause-new
returns-in-Ok-false-clause-new c = λ h are.
    let some : request_in (remark_of c.args.remark.now) ≡ Some c.in-Some.request = sym c.request_in.ensures ∙ c.in-Some.is in
    let known : has_request c.args.self.now.sent c.in-Some.request ≡ true = not-false (has_request c.args.self.now.sent c.in-Some.request) (sym (rw c.in-Ok-false.field-0-test at c.in-Ok-false.ensures.added)) in
    sym (is_new (remark_of c.args.remark.now) h c.args.self.now c.in-Some.request some are ∙ ap (λ b. unless b c.in-Some.request) known)

pub returns-in-Ok-true-clause-noted : goal.returns-in-Ok-true-clause-noted
returns-in-Ok-true-clause-noted c = λ t past are.
    let some : request_in (remark_of c.args.remark.now) ≡ Some c.in-Some.request = sym c.request_in.ensures ∙ c.in-Some.is in
    sends_on t past (remark_of c.args.remark.now) c.args.self.now (record { sent = c.insert.new.self })
    (subst (λ (o : Option FlushRequest). Sends c.args.self.now (record { sent = c.insert.new.self }) o) (sym some)
    (λ p. more_keys c.args.self.now.sent c.insert.new.self c.in-Some.request p (c.in-Ok-true.ensures.updates.0 p))) are

pub returns-in-Ok-false-clause-noted : goal.returns-in-Ok-false-clause-noted
returns-in-Ok-false-clause-noted c = λ t past are.
    let some : request_in (remark_of c.args.remark.now) ≡ Some c.in-Some.request = sym c.request_in.ensures ∙ c.in-Some.is in
    sends_on t past (remark_of c.args.remark.now) c.args.self.now (record { sent = c.insert.new.self })
    (subst (λ (o : Option FlushRequest). Sends c.args.self.now (record { sent = c.insert.new.self }) o) (sym some)
    (λ p. more_keys c.args.self.now.sent c.insert.new.self c.in-Some.request p (c.in-Ok-false.ensures.updates.0 p))) are
