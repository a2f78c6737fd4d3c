use Rattle.std.proofs.Common.{◌≡◌, ⊎_elim, ap, Err}
use Rattle.sl_journal.specs.declared.fault.JournalFault.TheVariants.{NotAJournal}
use Rattle.sl_journal.proofs.reading.read_journal.Goals as goal

pub returns-in-Err-clause-none : goal.returns-in-Err-clause-none
returns-in-Err-clause-none c = λ is records stands.
    let e : c.in-Err.fault ≡ NotAJournal = cc in
    ⊎_elim (λ fresh. absurd (cc (c.is_fresh.ensures.1 fresh.0))) (λ journal. c.in-Err.ensures.none (ap (λ f. Err f) e) records journal) stands
