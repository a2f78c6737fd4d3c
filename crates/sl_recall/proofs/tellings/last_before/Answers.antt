use Rattle.sl_recall.proofs.PlaceLaws.{last_of, none_of}
use Rattle.sl_recall.proofs.tellings.last_before.Goals as goal

pub returns-in-Some : goal.returns-in-Some
returns-in-Some c = last_of c.args.told.now c.args.file c.args.event c.range.result c.next_back.new.self c.in-Some.place.now c.in-Some.datagrams.now (c.range.ensures.in_range tt) c.in-Some.ensures.steps

pub returns-in-None : goal.returns-in-None
returns-in-None c = none_of c.args.told.now c.args.file c.args.event c.range.result (c.range.ensures.in_range tt) c.in-None.ensures.steps.0
