use Rattle.std.proofs.Common.{ℕ, List, ◌≡◌, ◌<◌, length, get_or, drop, subst, arith}
use Rattle.std.proofs.lemmas.Grind.{common_steps}
use Rattle.sl_journal.specs.Format.{IsPayload}
use Rattle.sl_journal.proofs.Texts.{record_here, nothing_here}
use Rattle.sl_journal.proofs.reading.read_one.Goals as goal

pub returns-in-None-clause-none : goal.returns-in-None-clause-none
returns-in-None-clause-none c =
    let long : 0 < length c.args.bytes.now = grind (arith, common_steps) in
    let gate : get_or c.args.bytes.now 0 0 ≡ 1 = grind (arith, common_steps) in
    λ is more from. nothing_here c.args.bytes.now more long gate (subst (λ (l : List ℕ). (payload rest : List ℕ) → IsPayload l payload rest → ⊥) c.split_at.ensures.back c.in-None.ensures.none) from

pub returns-else-is_err-clause-open : goal.returns-else-is_err-clause-open
returns-else-is_err-clause-open c =
    let long : 0 < length c.args.bytes.now = grind (arith, common_steps) in
    let gate : get_or c.args.bytes.now 0 0 ≡ 1 = grind (arith, common_steps) in
    let found : IsPayload (drop 1 c.args.bytes.now) c.in-Some.found.payload.now c.in-Some.found.rest.now =
    subst (λ (l : List ℕ). IsPayload l c.in-Some.found.payload.now c.in-Some.found.rest.now) c.split_at.ensures.back c.in-Some.ensures.found in
    (c.in-Some.found.payload.now, grind (arith, common_steps), record_here c.args.bytes.now c.in-Some.found.payload.now c.in-Some.found.rest.now long gate found)
