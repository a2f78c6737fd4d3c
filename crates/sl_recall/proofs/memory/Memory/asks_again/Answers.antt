use Rattle.std.proofs.Common.{◌&&◌, sym, subst, refl}
use Rattle.sl_types.specs.declared.call.Call.TheVariants as call
use Rattle.sl_types.specs.Handles.{handle_of}
use Rattle.sl_datagram.specs.Datagrams.{asked_of}
use Rattle.sl_history.specs.Bodies.{is_forward}
use Rattle.sl_history.specs.Remembering.{asks_for, is_other_directory, names_file}
use Rattle.sl_ledger.specs.Ledgers.{IsLedgerOf}
use Rattle.sl_recall.proofs.AskingLaws.{asked_within, asks_so}
use Rattle.sl_recall.proofs.memory.Memory.asks_again.Goals as goal

pub returns-in-Getattr : goal.returns-in-Getattr
returns-in-Getattr c = λ h is.
    let came = sym (c.in-Some.ensures h (subst (IsLedgerOf h) (sym c.ledger.ensures) is.ledger)) in
    asks_so h c.args.arrival c.args.body.now (asked_of c.in-Some.asked.now) (call.Getattr c.in-Getattr.object) c.is_handed_on.result (λ f. names_file f (handle_of c.in-Getattr.object) && is_forward c.args.body.now) came c.in-Getattr.is (λ f. refl)
    (c.is_handed_on.ensures h is (asked_within h c.args.arrival (asked_of c.in-Some.asked.now) came))

pub returns-in-Read : goal.returns-in-Read
returns-in-Read c = λ h is.
    let came = sym (c.in-Some.ensures h (subst (IsLedgerOf h) (sym c.ledger.ensures) is.ledger)) in
    asks_so h c.args.arrival c.args.body.now (asked_of c.in-Some.asked.now) (call.Read c.in-Read.file c.in-Read.offset c.in-Read.count) c.is_asked.result (λ f. names_file f (handle_of c.in-Read.file) && asks_for f c.args.body.now) came c.in-Read.is (λ f. refl)
    (c.is_asked.ensures h is (asked_within h c.args.arrival (asked_of c.in-Some.asked.now) came))

pub returns-in-Write : goal.returns-in-Write
returns-in-Write c = λ h is.
    let came = sym (c.in-Some.ensures h (subst (IsLedgerOf h) (sym c.ledger.ensures) is.ledger)) in
    asks_so h c.args.arrival c.args.body.now (asked_of c.in-Some.asked.now) (call.Write c.in-Write.file c.in-Write.offset c.in-Write.count c.in-Write.stable c.in-Write.bytes) c.is_asked-in-Write.result (λ f. names_file f (handle_of c.in-Write.file) && asks_for f c.args.body.now) came c.in-Write.is (λ f. refl)
    (c.is_asked-in-Write.ensures h is (asked_within h c.args.arrival (asked_of c.in-Some.asked.now) came))

pub returns-in-Commit : goal.returns-in-Commit
returns-in-Commit c = λ h is.
    let came = sym (c.in-Some.ensures h (subst (IsLedgerOf h) (sym c.ledger.ensures) is.ledger)) in
    asks_so h c.args.arrival c.args.body.now (asked_of c.in-Some.asked.now) (call.Commit c.in-Commit.file c.in-Commit.offset c.in-Commit.count) c.is_asked-in-Commit.result (λ f. names_file f (handle_of c.in-Commit.file) && asks_for f c.args.body.now) came c.in-Commit.is (λ f. refl)
    (c.is_asked-in-Commit.ensures h is (asked_within h c.args.arrival (asked_of c.in-Some.asked.now) came))

pub returns-in-Lookup : goal.returns-in-Lookup
returns-in-Lookup c = λ h is.
    let came = sym (c.in-Some.ensures h (subst (IsLedgerOf h) (sym c.ledger.ensures) is.ledger)) in
    asks_so h c.args.arrival c.args.body.now (asked_of c.in-Some.asked.now) (call.Lookup c.in-Lookup.dir c.in-Lookup.name) c.is_looked_up.result (λ f. is_other_directory f (handle_of c.in-Lookup.dir) && asks_for f c.args.body.now) came c.in-Lookup.is (λ f. refl)
    (c.is_looked_up.ensures h is (asked_within h c.args.arrival (asked_of c.in-Some.asked.now) came))
