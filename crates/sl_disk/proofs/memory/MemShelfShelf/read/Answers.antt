use Rattle.std.proofs.Common.{ℕ, List, ◌≡◌, length, take, drop, ◌∙◌, ap, arith}
use Rattle.sl_disk.specs.Images.{image}
use Rattle.sl_disk.specs.declared.record.Work.TheVariants.{Look}
use Rattle.sl_disk.proofs.Working.{looks}
use Rattle.sl_disk.proofs.Keeping.{called_worked, called_faulted}
use Rattle.sl_disk.specs.Record.{disk_after}
use Rattle.sl_disk.proofs.Replays.{read_here}
use Rattle.sl_disk.proofs.Working.{looked}
use Rattle.sl_disk.proofs.memory.MemShelfShelf.read.Goals as goal

pub returns-in-Ok-clause-called : goal.returns-in-Ok-clause-called
returns-in-Ok-clause-called c = called_worked c.args.disk Look c.args.self.now.calls.items c.perform.new.self.calls.items c.args.self.now.scripts.items c.perform.new.self.scripts.items _ (omega (arith, c.args.self.now.all_scripts, c.requires)) c.in-Ok.ensures

pub returns-in-Err-clause-called : goal.returns-in-Err-clause-called
returns-in-Err-clause-called c = called_faulted c.args.disk Look c.args.self.now.calls.items c.perform.new.self.calls.items c.args.self.now.scripts.items c.perform.new.self.scripts.items c.in-Err.fault (omega (arith, c.args.self.now.all_scripts, c.requires)) c.in-Err.ensures

pub returns-in-Err-clause-looks : goal.returns-in-Err-clause-looks
returns-in-Err-clause-looks c = looks c.args.disk c.args.self.now.calls.items c.perform.new.self.calls.items c.args.self.now.scripts.items c.perform.new.self.scripts.items _ c.in-Err.ensures

pub returns-in-Ok-clause-bytes : goal.returns-in-Ok-clause-bytes
returns-in-Ok-clause-bytes c =
    let stored : c.contents.result.now ≡ image 1 (disk_after c.args.self.now.calls.items c.args.disk) =
    c.contents.ensures
    ∙ ap (image 1) (read_here c.perform.new.self.storages.items c.args.disk c.index.result.now c.index.ensures (omega (arith, c.perform.new.self.all_storages, c.requires))
    ∙ c.perform.new.self.follow c.args.disk
    ∙ looked c.args.disk c.args.self.now.calls.items c.perform.new.self.calls.items c.args.self.now.scripts.items c.perform.new.self.scripts.items c.in-Ok.ensures) in
    λ modelled. c.copy_from.ensures.bytes ∙ ap (λ (l : List ℕ). take (length c.args.into.now) (drop c.args.at l)) stored
