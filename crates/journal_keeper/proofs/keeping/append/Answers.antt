use Rattle.std.proofs.Common.{◌≡◌, ℕ, List, [], ◌∷◌, ◌++◌, subst, arith}
use Rattle.std.proofs.lemmas.Grind.{common_steps}
use Rattle.sl_journal.specs.Settled.{IsSettled}
use Rattle.journal_keeper.specs.Numbered.{record_text}
use Rattle.journal_keeper.proofs.keeping.append.Goals as goal

pub returns-in-Ok-append : goal.returns-in-Ok-append
returns-in-Ok-append g c = record {
  added = λ head records settled.
      let filled : c.deref.result.now ≡ record_text c.args.number = grind (arith, common_steps) in
      subst (λ (payload : List ℕ). IsSettled c.append.new.self (g.V.Shelf.now c.append.new.shelf) head (records ++ payload ∷ [])) filled
      (c.in-Ok-append.ensures.added head records settled);
}
