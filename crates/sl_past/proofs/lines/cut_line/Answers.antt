use Rattle.std.proofs.Common.{◌+◌, ◌++◌, List, ℕ, take, ap, sym, ◌∙◌, arith}
use Rattle.std.proofs.lemmas.List.{take_rest}
use Rattle.sl_defs.specs.Histories.{ended}
use Rattle.sl_past.proofs.Cuts.{none_before, none_at_all, cut_at}
use Rattle.sl_past.proofs.lines.cut_line.Goals as goal

pub returns-then-x-eq10 : goal.returns-then-x-eq10
returns-then-x-eq10 c =
    let text = c.args.text.now in
    let i = c.loop-i.i in (
      none_before text i c.loop-i.invariant,
      cut_at text i c.loop-i-test.true c.if-x-eq10.true ∙ ap (λ (t : List ℕ). ended (take i text) ++ t) (sym (take_rest text (i + 1))),
    )

pub returns : goal.returns
returns c = none_at_all c.args.text.now (λ k lt. c.loop-i.invariant k (omega (arith, c.loop-i-test.false)))
