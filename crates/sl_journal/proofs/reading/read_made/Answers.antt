use Rattle.std.proofs.Common.{◌≡◌, ap, Err}
use Rattle.sl_journal.specs.declared.fault.JournalFault.TheVariants.{NotAJournal}
use Rattle.sl_journal.proofs.Texts.{journal_body}
use Rattle.sl_journal.proofs.reading.read_made.Goals as goal

pub returns-in-Err-clause-none : goal.returns-in-Err-clause-none
returns-in-Err-clause-none c = λ is records journal.
    let e : c.in-Err.fault ≡ NotAJournal = cc in
    c.in-Err.ensures.none (ap (λ f. Err f) e) records (journal_body c.args.bytes.now c.args.head.now c.split_at-2.result.1.now c.split_at.result.1.now records c.split_at.ensures.back c.split_at-2.ensures.back journal)
