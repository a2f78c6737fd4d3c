use Rattle.std.proofs.Common.{ℕ, List, [], ◌∷◌, ◌++◌, subst}
use Rattle.sl_journal.specs.Moments.{LeavesOnly}
use Rattle.sl_journal.specs.Settled.{JournalState, IsSettled, StandsWithOrWithout}
use Rattle.sl_journal.proofs.journal.Journal.append.Goals as goal

pub returns-in-Ok-clause-added : goal.returns-in-Ok-clause-added
returns-in-Ok-clause-added g c =
    let after : JournalState = record { disk = c.self.inside.disk; end = c.in-Ok.next; fault = c.self.inside.fault } in
    subst (λ (j : JournalState). (head : List ℕ) (records : List (List ℕ)) → IsSettled j (g.V.Shelf.now c.args.shelf.now) head records → IsSettled after (g.V.Shelf.now c.add_record.new.shelf) head (records ++ c.args.payload.now ∷ [])) c.self.view_is
    (λ head records settled. record { sound = settled.sound; settled = c.in-Ok.ensures.added head records settled.settled })

pub returns-in-Ok-clause-any_moment : goal.returns-in-Ok-clause-any_moment
returns-in-Ok-clause-any_moment g c =
    subst (λ (j : JournalState). (head : List ℕ) (records : List (List ℕ)) → IsSettled j (g.V.Shelf.now c.args.shelf.now) head records → LeavesOnly j.disk (g.V.Shelf.now c.args.shelf.now) (g.V.Shelf.now c.add_record.new.shelf) (StandsWithOrWithout head records c.args.payload.now)) c.self.view_is
    (λ head records settled. c.add_record.ensures.any_moment head records settled.settled)

pub returns-in-Err-clause-any_moment : goal.returns-in-Err-clause-any_moment
returns-in-Err-clause-any_moment g c =
    subst (λ (j : JournalState). (head : List ℕ) (records : List (List ℕ)) → IsSettled j (g.V.Shelf.now c.args.shelf.now) head records → LeavesOnly j.disk (g.V.Shelf.now c.args.shelf.now) (g.V.Shelf.now c.add_record.new.shelf) (StandsWithOrWithout head records c.args.payload.now)) c.self.view_is
    (λ head records settled. c.add_record.ensures.any_moment head records settled.settled)
