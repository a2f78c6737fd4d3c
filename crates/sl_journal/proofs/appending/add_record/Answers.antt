use Rattle.std.proofs.Common.{ℕ, List, ◌≡◌, ◌+◌, length, ◌∙◌, subst, arith}
use Rattle.std.proofs.lemmas.Grind.{common_steps}
use Rattle.sl_journal.specs.Moments.{IsWritten}
use Rattle.sl_journal.proofs.Adds.{first_run, second_run, settled_again}
use Rattle.sl_journal.proofs.Stages.{staged}
use Rattle.sl_journal.proofs.appending.add_record.Goals as goal

pub returns-in-Err-clause-any_moment : goal.returns-in-Err-clause-any_moment
returns-in-Err-clause-any_moment g c = λ head records settled. first_run c.args.disk c.args.end head records c.args.payload.now (g.V.Shelf.now c.args.shelf.now) settled c.requires.short (g.V.Shelf.now c.write_synced.new.shelf) _ c.write_synced.ensures.any_moment

pub returns-in-Ok-write_synced-clause-added : goal.returns-in-Ok-write_synced-clause-added
returns-in-Ok-write_synced-clause-added g c = λ head records settled.
    let filled : c.deref.result.now ≡ staged c.args.payload.now = grind (arith, common_steps) in
    let wrote : IsWritten c.args.disk (c.args.end + 1) (staged c.args.payload.now) (g.V.Shelf.now c.args.shelf.now) (g.V.Shelf.now c.write_synced.new.shelf) =
    subst (λ (b : List ℕ). IsWritten c.args.disk (c.args.end + 1) b (g.V.Shelf.now c.args.shelf.now) (g.V.Shelf.now c.write_synced.new.shelf)) filled (c.in-Ok.ensures.written settled.modelled) in
    let next : c.in-Some.next ≡ c.args.end + 5 + length c.args.payload.now = grind (arith, common_steps) in
    settled_again c.args.disk c.args.end head records c.args.payload.now (g.V.Shelf.now c.args.shelf.now) settled c.requires.short (g.V.Shelf.now c.write_synced.new.shelf) (g.V.Shelf.now c.write_synced-2.new.shelf) c.in-Some.next next wrote (c.in-Ok-write_synced.ensures.written (c.write_synced.ensures.script.model ∙ settled.modelled)) (c.write_synced-2.ensures.script.model ∙ c.write_synced.ensures.script.model)

pub returns-in-Ok-write_synced-clause-any_moment : goal.returns-in-Ok-write_synced-clause-any_moment
returns-in-Ok-write_synced-clause-any_moment g c = λ head records settled.
    let filled : c.deref.result.now ≡ staged c.args.payload.now = grind (arith, common_steps) in
    let wrote : IsWritten c.args.disk (c.args.end + 1) (staged c.args.payload.now) (g.V.Shelf.now c.args.shelf.now) (g.V.Shelf.now c.write_synced.new.shelf) =
    subst (λ (b : List ℕ). IsWritten c.args.disk (c.args.end + 1) b (g.V.Shelf.now c.args.shelf.now) (g.V.Shelf.now c.write_synced.new.shelf)) filled (c.in-Ok.ensures.written settled.modelled) in
    second_run c.args.disk c.args.end head records c.args.payload.now (g.V.Shelf.now c.args.shelf.now) settled c.requires.short (g.V.Shelf.now c.write_synced.new.shelf) (g.V.Shelf.now c.write_synced-2.new.shelf) _ c.write_synced.ensures.any_moment wrote c.write_synced-2.ensures.any_moment

pub returns-in-Err-write_synced-clause-any_moment : goal.returns-in-Err-write_synced-clause-any_moment
returns-in-Err-write_synced-clause-any_moment g c = λ head records settled.
    let filled : c.deref.result.now ≡ staged c.args.payload.now = grind (arith, common_steps) in
    let wrote : IsWritten c.args.disk (c.args.end + 1) (staged c.args.payload.now) (g.V.Shelf.now c.args.shelf.now) (g.V.Shelf.now c.write_synced.new.shelf) =
    subst (λ (b : List ℕ). IsWritten c.args.disk (c.args.end + 1) b (g.V.Shelf.now c.args.shelf.now) (g.V.Shelf.now c.write_synced.new.shelf)) filled (c.in-Ok.ensures.written settled.modelled) in
    second_run c.args.disk c.args.end head records c.args.payload.now (g.V.Shelf.now c.args.shelf.now) settled c.requires.short (g.V.Shelf.now c.write_synced.new.shelf) (g.V.Shelf.now c.write_synced-2.new.shelf) _ c.write_synced.ensures.any_moment wrote c.write_synced-2.ensures.any_moment
