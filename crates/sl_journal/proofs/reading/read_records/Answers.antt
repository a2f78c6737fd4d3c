use Rattle.std.proofs.Common.{ℕ, List, [], ◌∷◌, ◌++◌, ◌≡◌, sym, ap, subst, Err}
use Rattle.sl_journal.specs.Format.{AreShort, records_text}
use Rattle.sl_journal.specs.declared.fault.JournalFault.TheVariants.{NotAJournal}
use Rattle.sl_journal.proofs.Texts.{Unread, unread_more, spelled_more, short_push, nothing_read, record_longer}
use Rattle.sl_journal.proofs.reading.read_records.Goals as goal

pub loop-records-smaller : goal.loop-records-smaller
loop-records-smaller c =
    let found = rw c.in-Ok-Some.field-0-is at c.in-Ok-Some.ensures.open in
    record_longer c.loop-records.rest.now found.0 c.in-Ok-Some.after.now found.2

pub loop-records-preserved : goal.loop-records-preserved
loop-records-preserved c =
    let found = rw c.in-Ok-Some.field-0-is at c.in-Ok-Some.ensures.open in
    let more : List (List ℕ) = c.loop-records.records ++ found.0 ∷ [] in
    let after = c.in-Ok-Some.after.now in
    record {
      spelled = subst (λ (l : List (List ℕ)). c.args.bytes.now ≡ records_text l ++ after) (sym found.1) (spelled_more c.args.bytes.now c.loop-records.rest.now after found.0 c.loop-records.records c.loop-records.invariant.spelled found.2);
      short = subst AreShort (sym found.1) (short_push c.loop-records.records found.0 c.loop-records.invariant.short found.2.short);
      unread = subst (λ (l : List (List ℕ)). Unread c.args.bytes.now after l) (sym found.1) (unread_more c.args.bytes.now c.loop-records.rest.now after found.0 c.loop-records.records c.loop-records.invariant.unread found.2);
    }

pub returns-in-Err-clause-none : goal.returns-in-Err-clause-none
returns-in-Err-clause-none c =
    λ is. let e : c.in-Err.fault ≡ NotAJournal = cc in
    nothing_read c.args.bytes.now c.loop-records.rest.now c.loop-records.records c.loop-records.invariant.unread (c.in-Err.ensures.none (ap (λ f. Err f) e))
