use Rattle.std.proofs.Common.{arith}
use Rattle.sl_disk.specs.Shelf.{Shortened}
use Rattle.sl_disk.specs.declared.record.Work.TheVariants.{Alter}
use Rattle.sl_disk.specs.declared.steps.Edit.TheVariants.{Cut}
use Rattle.sl_disk.proofs.Tearing.{shortened_shown, shortened_same}
use Rattle.sl_disk.proofs.Working.{calls, altered, altered_contents}
use Rattle.sl_disk.proofs.memory.MemShelfShelf.cut.Goals as goal

pub returns-clause-called : goal.returns-clause-called
returns-clause-called c = calls c.args.disk (Alter (Cut c.args.size)) c.args.self.now.calls.items c.perform.new.self.calls.items c.args.self.now.scripts.items c.perform.new.self.scripts.items c.perform.result (omega (arith, c.args.self.now.all_scripts, c.requires)) c.perform.ensures

pub returns-clause-cut : goal.returns-clause-cut
returns-clause-cut c = λ modelled. altered_contents c.args.disk (Cut c.args.size) c.args.self.now.calls.items c.perform.new.self.calls.items c.args.self.now.scripts.items c.perform.new.self.scripts.items c.perform.result c.perform.ensures

pub returns-clause-images : goal.returns-clause-images
returns-clause-images c =
    altered (Shortened c.args.size) (Cut c.args.size) (λ i failed file. shortened_shown i c.args.size failed file) (shortened_same c.args.size)
    c.args.disk c.args.self.now.calls.items c.perform.new.self.calls.items c.args.self.now.scripts.items c.perform.new.self.scripts.items c.perform.result c.perform.ensures
