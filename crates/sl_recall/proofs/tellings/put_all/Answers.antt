use Rattle.std.proofs.Common.{refl}
use Rattle.sl_recall.proofs.PlaceLaws.{one_put}
use Rattle.sl_recall.proofs.tellings.put_all.Goals as goal

pub loop-file-preserved : goal.loop-file-preserved
loop-file-preserved c = one_put c.args.told.now c.loop-file.told c.insert.new.self c.args.files.now c.loop-file.file-index _ c.args.event c.args.datagrams c.loop-file-test.true refl c.loop-file.invariant c.in-Ok.ensures.updates.0
