use Rattle.std.proofs.Common.{◌∙◌, length, ◌+◌, ◌∷◌, ap, refl, get_or, arith}
use Rattle.std.proofs.lemmas.List.{take_rest, get_or_at, length-append}
use Rattle.sl_text.proofs.WordLaws.{first_space, cut_before, cut_behind}
use Rattle.sl_text.proofs.words.cut.Goals as goal

pub returns-then-x-eq32 : goal.returns-then-x-eq32
returns-then-x-eq32 c = λ a b none e.
    let at = first_space c.args.text.now a b c.loop-i.i none e c.if-x-eq32.true c.loop-i.invariant in
    (cut_before c.args.text.now a b c.loop-i.i e at, take_rest c.args.text.now (c.loop-i.i + 1) ∙ cut_behind c.args.text.now a b c.loop-i.i e at)

pub returns : goal.returns
returns c = λ a b none e.
    absurd (c.loop-i.invariant (length a) (omega (arith, ap length e, length-append a (32 ∷ b), c.loop-i-test.false)) (ap (λ t. get_or t (length a) 0) e ∙ get_or_at a 32 b 0 (length a) refl))
