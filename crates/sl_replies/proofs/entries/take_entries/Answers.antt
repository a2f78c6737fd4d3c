use Rattle.std.proofs.Common.{◌≡◌, ◌∙◌, ◌++◌, ◌∷◌, [], ℕ, Bool, true, false, Some, rules, ap, subst, arith}
use Rattle.std.proofs.lemmas.Grind.{common_steps}
use Rattle.sl_xdr.specs.Reading.{flag_at}
use Rattle.sl_replies.specs.Reading.{entry_at}
use Rattle.sl_replies.proofs.Lists.{SoFar, begins, goes_on, ends, no_flag, no_element, too_many}
use Rattle.sl_replies.proofs.entries.take_entries.Goals as goal

pub loop-i-init : goal.loop-i-init
loop-i-init c = rw c.new-entries.ensures.items (begins entry_at c.args.most c.args.cursor.now.rest)

pub returns-in-Ok-false : goal.returns-in-Ok-false
returns-in-Ok-false c =
    let end : flag_at c.loop-i.cursor.rest ≡ Some (false, c.flag.new.self.rest) = c.in-Ok-false.ensures.exact ∙ ap (λ (b : Bool). Some (b, c.flag.new.self.rest)) c.in-Ok-false.field-0-test in
    record { exact = rw c.new.ensures (ends entry_at c.args.most c.loop-i._i c.args.cursor.now.rest c.loop-i.cursor.rest c.loop-i.entries.items c.loop-i.invariant c.flag.new.self.rest c.loop-i-test.true end) }

pub returns-in-Err : goal.returns-in-Err
returns-in-Err c = record { exact = no_flag entry_at c.args.most c.loop-i._i c.args.cursor.now.rest c.loop-i.cursor.rest c.loop-i.entries.items c.loop-i.invariant c.loop-i-test.true c.in-Err.ensures.exact }

pub returns-in-Err-take_entry : goal.returns-in-Err-take_entry
returns-in-Err-take_entry c =
    let more : flag_at c.loop-i.cursor.rest ≡ Some (true, c.flag.new.self.rest) = c.in-Ok-true.ensures.exact ∙ ap (λ (b : Bool). Some (b, c.flag.new.self.rest)) c.in-Ok-true.field-0-test in
    record { exact = no_element entry_at c.args.most c.loop-i._i c.args.cursor.now.rest c.loop-i.cursor.rest c.loop-i.entries.items c.loop-i.invariant c.flag.new.self.rest c.in-Err-take_entry.fault c.loop-i-test.true more c.in-Err-take_entry.ensures.exact }

pub loop-i-preserved : goal.loop-i-preserved
loop-i-preserved c =
    let more : flag_at c.loop-i.cursor.rest ≡ Some (true, c.flag.new.self.rest) = c.in-Ok-true.ensures.exact ∙ ap (λ (b : Bool). Some (b, c.flag.new.self.rest)) c.in-Ok-true.field-0-test in
    let grown : c.push.new.self.items ≡ c.loop-i.entries.items ++ c.in-Ok.entry ∷ [] = first_of (search rules, grind (arith, common_steps)) in
    rw grown (goes_on entry_at c.args.most c.loop-i._i c.args.cursor.now.rest c.loop-i.cursor.rest c.loop-i.entries.items c.loop-i.invariant c.flag.new.self.rest c.take_entry.new.cursor.rest c.in-Ok.entry more c.in-Ok.ensures.exact)

pub returns : goal.returns
returns c =
    let all : c.loop-i._i ≡ c.args.most = omega arith in
    record { exact = too_many entry_at c.args.most c.args.cursor.now.rest c.loop-i.cursor.rest c.loop-i.entries.items (subst (λ (i : ℕ). SoFar entry_at c.args.most i c.args.cursor.now.rest c.loop-i.entries.items c.loop-i.cursor.rest) all c.loop-i.invariant) }
