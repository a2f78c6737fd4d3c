use Rattle.std.proofs.Common.{◌≡◌, ◌∙◌, sym, is_some, arith}
use Rattle.std.proofs.lemmas.Grind.{common_steps}
use Rattle.sl_calls.specs.Reading.{args_at}
use Rattle.sl_calls.proofs.Readable.{some_call, no_call}
use Rattle.sl_calls.proofs.skipping.has_args.Goals as goal

pub returns-clause-found : goal.returns-clause-found
returns-clause-found c =
    let exact : c.is_ok.result ≡ is_some (args_at c.args.procedure c.args.bytes.now) = grind (arith, common_steps) in
    λ is. some_call c.args.procedure c.args.bytes.now (λ i. omega (arith, c.type_inv.bytes i)) (sym exact ∙ is)

pub returns-clause-garbage : goal.returns-clause-garbage
returns-clause-garbage c =
    let exact : c.is_ok.result ≡ is_some (args_at c.args.procedure c.args.bytes.now) = grind (arith, common_steps) in
    λ is. no_call c.args.procedure c.args.bytes.now (sym exact ∙ is)
