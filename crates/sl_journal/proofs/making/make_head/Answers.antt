use Rattle.std.proofs.Common.{ℕ, List, [], ◌∷◌, ◌++◌, subst}
use Rattle.sl_journal.specs.Moments.{IsWritten}
use Rattle.sl_journal.proofs.Makes.{make_run}
use Rattle.sl_journal.proofs.making.make_head.Goals as goal

pub returns-in-Ok-write_synced-clause-any_moment : goal.returns-in-Ok-write_synced-clause-any_moment
returns-in-Ok-write_synced-clause-any_moment g c = λ modelled only closed.
    let wrote : IsWritten c.args.disk 1 (c.args.head.now ++ 0 ∷ []) (g.V.Shelf.now c.args.shelf.now) (g.V.Shelf.now c.write_synced.new.shelf) =
    subst (λ (b : List ℕ). IsWritten c.args.disk 1 b (g.V.Shelf.now c.args.shelf.now) (g.V.Shelf.now c.write_synced.new.shelf)) c.with_gate-bytes.ensures (c.in-Ok.ensures.written modelled) in
    make_run c.args.disk _ c.args.head.now (g.V.Shelf.now c.args.shelf.now) (g.V.Shelf.now c.write_synced.new.shelf) (g.V.Shelf.now c.write_synced-2.new.shelf) closed only c.write_synced.ensures.any_moment wrote c.write_synced-2.ensures.any_moment

pub returns-in-Err-write_synced-clause-any_moment : goal.returns-in-Err-write_synced-clause-any_moment
returns-in-Err-write_synced-clause-any_moment g c = λ modelled only closed.
    let wrote : IsWritten c.args.disk 1 (c.args.head.now ++ 0 ∷ []) (g.V.Shelf.now c.args.shelf.now) (g.V.Shelf.now c.write_synced.new.shelf) =
    subst (λ (b : List ℕ). IsWritten c.args.disk 1 b (g.V.Shelf.now c.args.shelf.now) (g.V.Shelf.now c.write_synced.new.shelf)) c.with_gate-bytes.ensures (c.in-Ok.ensures.written modelled) in
    make_run c.args.disk _ c.args.head.now (g.V.Shelf.now c.args.shelf.now) (g.V.Shelf.now c.write_synced.new.shelf) (g.V.Shelf.now c.write_synced-2.new.shelf) closed only c.write_synced.ensures.any_moment wrote c.write_synced-2.ensures.any_moment
