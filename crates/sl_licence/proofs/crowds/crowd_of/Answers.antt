use Rattle.std.proofs.Common.{ap, length, arith}
use Rattle.std.proofs.lemmas.List.{length-map}
use Rattle.sl_plain.specs.Unstables.{write_of}
use Rattle.sl_licence.proofs.Crowding.{not_many}
use Rattle.sl_licence.proofs.Dirtying.{few_files}
use Rattle.sl_licence.specs.Crowds.{are_many}
use Rattle.sl_licence.proofs.crowds.crowd_of.Goals as goal

pub returns-then-saturating_add-lt-MOST_DIRTY : goal.returns-then-saturating_add-lt-MOST_DIRTY
returns-then-saturating_add-lt-MOST_DIRTY c = λ n f.
    let a = ap length c.as_slice.ensures in
    let b = ap length c.unstable.ensures in
    let m = length-map c.unstable.result.now write_of in
    not_many n c.args.event (are_many c.args.flushing.now.files.items c.args.volume.now.unstable f)
    (few_files c.args.flushing.now.files.items c.args.volume.now.unstable f (omega (arith, a, b, m, c.saturating_add.ensures, c.if-saturating_add-lt-MOST_DIRTY.true)))
