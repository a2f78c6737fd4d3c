use Rattle.std.proofs.Common.{◌∙◌, ◌+◌, ap, sym, ◌∷◌, take, arith}
use Rattle.std.specs.List.{slice_split}
use Rattle.std.proofs.lemmas.List.{take_rest}
use Rattle.slice.specs.Schedule.{is_end}
use Rattle.slice.proofs.LineLaws.{split_here, split_none}
use Rattle.slice.proofs.lines.cut_line.Goals as goal

pub returns-then-x-eq10-clause-lines : goal.returns-then-x-eq10-clause-lines
returns-then-x-eq10-clause-lines c =
    split_here c.args.text.now c.loop-i.i c.loop-i-test.true c.if-x-eq10.true c.loop-i.invariant
    ∙ ap (λ t. take c.loop-i.i c.args.text.now ∷ slice_split is_end t) (sym (take_rest c.args.text.now (c.loop-i.i + 1)))

pub returns-clause-lines : goal.returns-clause-lines
returns-clause-lines c = split_none c.args.text.now (λ k lt. c.loop-i.invariant k (omega arith))
