use Rattle.std.proofs.Common.{◌≡◌, ℕ, true, false, Some, None, subst, arith}
use Rattle.std.proofs.lemmas.Grind.{common_steps}
use Rattle.sl_xdr.specs.Reading.{flag_at}
use Rattle.sl_items.specs.Skipping.{behind}
use Rattle.sl_replies.specs.Reading.{entry_plus_at, list_at}
use Rattle.sl_replies.proofs.Passing.{Passed, begins, goes_on, ends, no_flag, no_element, too_many}
use Rattle.sl_replies.proofs.skipping.skip_entries_plus.Goals as goal

pub loop-i-init : goal.loop-i-init
loop-i-init c = begins entry_plus_at c.args.most c.args.cursor.now.rest

pub returns-in_err-flag : goal.returns-in_err-flag
returns-in_err-flag c =
    let none : behind (list_at entry_plus_at c.args.most c.args.cursor.now.rest) ≡ None = no_flag entry_plus_at c.args.most c.loop-i._i c.args.cursor.now.rest c.loop-i.cursor.rest c.loop-i.invariant c.loop-i-test.true c.in_err-flag.ensures.exact in
    grind (arith, common_steps)

pub returns-then-not-branch : goal.returns-then-not-branch
returns-then-not-branch c =
    let end : flag_at c.loop-i.cursor.rest ≡ Some (false, c.flag.new.self.rest) = grind (arith, common_steps) in
    ends entry_plus_at c.args.most c.loop-i._i c.args.cursor.now.rest c.loop-i.cursor.rest c.loop-i.invariant c.flag.new.self.rest c.loop-i-test.true end

pub returns-in_err-skip_entry_plus : goal.returns-in_err-skip_entry_plus
returns-in_err-skip_entry_plus c =
    let more : flag_at c.loop-i.cursor.rest ≡ Some (true, c.flag.new.self.rest) = grind (arith, common_steps) in
    let none : behind (list_at entry_plus_at c.args.most c.args.cursor.now.rest) ≡ None = no_element entry_plus_at c.args.most c.loop-i._i c.args.cursor.now.rest c.loop-i.cursor.rest c.loop-i.invariant c.flag.new.self.rest c.loop-i-test.true more c.in_err-skip_entry_plus.ensures in
    grind (arith, common_steps)

pub loop-i-preserved : goal.loop-i-preserved
loop-i-preserved c =
    let more : flag_at c.loop-i.cursor.rest ≡ Some (true, c.flag.new.self.rest) = grind (arith, common_steps) in
    goes_on entry_plus_at c.args.most c.loop-i._i c.args.cursor.now.rest c.loop-i.cursor.rest c.loop-i.invariant c.flag.new.self.rest c.skip_entry_plus.new.cursor.rest more c.in_ok-skip_entry_plus.ensures

pub returns : goal.returns
returns c =
    let all : c.loop-i._i ≡ c.args.most = omega arith in
    too_many entry_plus_at c.args.most c.args.cursor.now.rest c.loop-i.cursor.rest (subst (λ (i : ℕ). Passed entry_plus_at c.args.most i c.args.cursor.now.rest c.loop-i.cursor.rest) all c.loop-i.invariant)
