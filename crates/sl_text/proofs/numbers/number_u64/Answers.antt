use Rattle.std.proofs.Common.{sym, ◌∙◌, subst}
use Rattle.std.specs.Str.{IsUtf8}
use Rattle.std.proofs.lemmas.Fmt.{parse-decimal}
use Rattle.sl_text.proofs.WordLaws.{decimal_is_text}
use Rattle.sl_text.proofs.numbers.number_u64.Goals as goal

pub returns-in-Ok-parse : goal.returns-in-Ok-parse
returns-in-Ok-parse c = λ n lt e.
    let p = parse-decimal 64 n c.in-Ok.text.now c.parse.result lt lt (c.in-Ok.ensures.cases.0 ∙ e) c.parse.ensures.value.0 in
    let q = sym c.in-Ok-parse.is ∙ p in
    cc

pub returns-in-Err-parse : goal.returns-in-Err-parse
returns-in-Err-parse c = λ n lt e.
    let p = parse-decimal 64 n c.in-Ok.text.now c.parse.result lt lt (c.in-Ok.ensures.cases.0 ∙ e) c.parse.ensures.value.0 in
    let q = sym c.in-Err-parse.is ∙ p in
    absurd cc

pub returns-in-Err : goal.returns-in-Err
returns-in-Err c = λ n lt e. absurd (c.in-Err.ensures.cases.0 (subst IsUtf8 (sym e) (decimal_is_text n lt)))
