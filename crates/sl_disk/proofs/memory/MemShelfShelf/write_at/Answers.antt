use Rattle.std.proofs.Common.{ℕ, List, length, subst, arith}
use Rattle.sl_disk.specs.Shelf.{Torn}
use Rattle.sl_disk.specs.Performing.{Performs}
use Rattle.sl_disk.specs.declared.record.Work.TheVariants.{Alter}
use Rattle.sl_disk.specs.declared.steps.Edit.TheVariants.{Write}
use Rattle.sl_disk.proofs.Tearing.{torn_shown, torn_same}
use Rattle.sl_disk.proofs.Working.{calls, altered, altered_contents}
use Rattle.sl_disk.proofs.memory.MemShelfShelf.write_at.Goals as goal

pub returns-in-Ok-clause-called : goal.returns-in-Ok-clause-called
returns-in-Ok-clause-called c = calls c.args.disk (Alter (Write c.args.at c.in-Ok.copy)) c.args.self.now.calls.items c.perform.new.self.calls.items c.args.self.now.scripts.items c.perform.new.self.scripts.items c.perform.result (omega (arith, c.args.self.now.all_scripts, c.requires)) c.perform.ensures

pub returns-in-Ok-clause-written : goal.returns-in-Ok-clause-written
returns-in-Ok-clause-written c =
    let done : Performs c.args.disk (Alter (Write c.args.at c.args.bytes.now)) c.args.self.now.calls.items c.perform.new.self.calls.items c.args.self.now.scripts.items c.perform.new.self.scripts.items c.perform.result =
    subst (λ (b : List ℕ). Performs c.args.disk (Alter (Write c.args.at b)) c.args.self.now.calls.items c.perform.new.self.calls.items c.args.self.now.scripts.items c.perform.new.self.scripts.items c.perform.result) c.in-Ok.ensures c.perform.ensures in
    λ modelled. altered_contents c.args.disk (Write c.args.at c.args.bytes.now) c.args.self.now.calls.items c.perform.new.self.calls.items c.args.self.now.scripts.items c.perform.new.self.scripts.items c.perform.result done

pub returns-in-Ok-clause-images : goal.returns-in-Ok-clause-images
returns-in-Ok-clause-images c =
    let done : Performs c.args.disk (Alter (Write c.args.at c.args.bytes.now)) c.args.self.now.calls.items c.perform.new.self.calls.items c.args.self.now.scripts.items c.perform.new.self.scripts.items c.perform.result =
    subst (λ (b : List ℕ). Performs c.args.disk (Alter (Write c.args.at b)) c.args.self.now.calls.items c.perform.new.self.calls.items c.args.self.now.scripts.items c.perform.new.self.scripts.items c.perform.result) c.in-Ok.ensures c.perform.ensures in
    altered (Torn c.args.at (length c.args.bytes.now)) (Write c.args.at c.args.bytes.now) (λ i failed file. torn_shown i c.args.at c.args.bytes.now failed file) (torn_same c.args.at (length c.args.bytes.now))
    c.args.disk c.args.self.now.calls.items c.perform.new.self.calls.items c.args.self.now.scripts.items c.perform.new.self.scripts.items c.perform.result done

pub returns-in-Err-clause-images : goal.returns-in-Err-clause-images
returns-in-Err-clause-images c = λ file left. (file, left, torn_same c.args.at (length c.args.bytes.now) file)
