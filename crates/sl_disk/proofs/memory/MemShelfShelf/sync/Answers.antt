use Rattle.std.proofs.Common.{arith}
use Rattle.sl_disk.specs.declared.record.Work.TheVariants.{Sync}
use Rattle.sl_disk.proofs.Working.{calls, synced_images, synced_contents, synced_durable}
use Rattle.sl_disk.proofs.memory.MemShelfShelf.sync.Goals as goal

pub returns-clause-called : goal.returns-clause-called
returns-clause-called c = calls c.args.disk Sync c.args.self.now.calls.items c.perform.new.self.calls.items c.args.self.now.scripts.items c.perform.new.self.scripts.items c.perform.result (omega (arith, c.args.self.now.all_scripts, c.requires)) c.perform.ensures

pub returns-clause-contents : goal.returns-clause-contents
returns-clause-contents c = λ modelled. synced_contents c.args.disk c.args.self.now.calls.items c.perform.new.self.calls.items c.args.self.now.scripts.items c.perform.new.self.scripts.items c.perform.result c.perform.ensures

pub returns-clause-durable : goal.returns-clause-durable
returns-clause-durable c = λ modelled. synced_durable c.args.disk c.args.self.now.calls.items c.perform.new.self.calls.items c.args.self.now.scripts.items c.perform.new.self.scripts.items c.perform.result c.perform.ensures

pub returns-clause-images : goal.returns-clause-images
returns-clause-images c = synced_images c.args.disk c.args.self.now.calls.items c.perform.new.self.calls.items c.args.self.now.scripts.items c.perform.new.self.scripts.items c.perform.result c.perform.ensures
