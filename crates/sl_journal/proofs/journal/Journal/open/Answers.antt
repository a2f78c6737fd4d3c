use Rattle.std.proofs.Common.{ℕ, List, [], ◌≡◌, sym, ◌∙◌, ap, subst, Err}
use Rattle.sl_disk.specs.Shelf.{Only}
use Rattle.sl_journal.specs.Format.{head_text, Stands, IsFresh}
use Rattle.sl_journal.specs.Moments.{LeavesOnly}
use Rattle.sl_journal.specs.declared.fault.JournalFault.TheVariants.{NotAJournal}
use Rattle.sl_journal.proofs.Makes.{open_run, no_records_at_all}
use Rattle.sl_journal.proofs.journal.Journal.open.Goals as goal

pub returns-then-is_fresh-clause-any_moment : goal.returns-then-is_fresh-clause-any_moment
returns-then-is_fresh-clause-any_moment g c = λ modelled.
    let is : c.deref.result.now ≡ ((g.V.Shelf.now c.args.shelf.now).disk c.args.disk).contents = c.deref.ensures.value ∙ c.in-Ok.ensures.bytes modelled in
    let same : ((g.V.Shelf.now c.sync_and_read.new.shelf).disk c.args.disk).contents ≡ c.deref-then-is_fresh.result.now =
    c.in-Ok.ensures.contents modelled ∙ sym (c.in-Ok.ensures.bytes modelled) ∙ sym c.deref-then-is_fresh.ensures.value in
    let only : Only ((g.V.Shelf.now c.sync_and_read.new.shelf).disk c.args.disk).contents ((g.V.Shelf.now c.sync_and_read.new.shelf).may_leave c.args.disk) =
    subst (λ (f : List ℕ). Only f ((g.V.Shelf.now c.sync_and_read.new.shelf).may_leave c.args.disk)) (sym (c.in-Ok.ensures.contents modelled)) (c.in-Ok.ensures.durable modelled) in
    let made : LeavesOnly c.args.disk (g.V.Shelf.now c.sync_and_read.new.shelf) (g.V.Shelf.now c.make.new.shelf) (λ b. Stands b (head_text c.args.disk c.args.setup.now) []) =
    subst (λ (h : List ℕ). LeavesOnly c.args.disk (g.V.Shelf.now c.sync_and_read.new.shelf) (g.V.Shelf.now c.make.new.shelf) (λ b. Stands b h [])) c.head-head.ensures
    (c.make.ensures.any_moment (c.sync_and_read.ensures.script.model ∙ modelled) same only) in
    open_run c.args.disk c.deref.result.now (head_text c.args.disk c.args.setup.now) (g.V.Shelf.now c.args.shelf.now) (g.V.Shelf.now c.sync_and_read.new.shelf) (g.V.Shelf.now c.make.new.shelf) is (c.is_fresh.ensures.0 c.if-is_fresh.true) c.sync_and_read.ensures.any_moment made

pub returns-clause-none : goal.returns-clause-none
returns-clause-none g c = λ modelled is records stands.
    let e : c.in-Err-read_made.fault ≡ NotAJournal = cc in
    no_records_at_all c.deref-2.result.now ((g.V.Shelf.now c.args.shelf.now).disk c.args.disk).contents c.head-head.result (head_text c.args.disk c.args.setup.now) records
    (c.deref-2.ensures.value ∙ c.in-Ok.ensures.bytes modelled) c.head-head.ensures
    (λ fresh. absurd (cc (c.is_fresh.ensures.1 (subst IsFresh (c.deref-2.ensures.value ∙ sym c.deref.ensures.value) fresh))))
    (c.in-Err-read_made.ensures.none (ap (λ f. Err f) e) records)
    stands
