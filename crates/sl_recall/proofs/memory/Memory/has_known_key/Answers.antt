use Rattle.sl_recall.proofs.AskingLaws.{named, never_named, none_named, not_named}
use Rattle.sl_recall.proofs.memory.Memory.has_known_key.Goals as goal

pub loop-key-init : goal.loop-key-init
loop-key-init c = λ h is le. none_named h c.args.call c.args.directory c.args.keys.now

pub returns-then-is_known_key : goal.returns-then-is_known_key
returns-then-is_known_key c = λ h is le.
    named h c.args.call c.args.directory c.args.keys.now c.loop-key.key-index c.key-item.result c.is_known_key.result c.loop-key-test.true c.key-item.is (c.is_known_key.ensures h is le) c.if-is_known_key.true (c.loop-key.invariant h is le)

pub loop-key-preserved : goal.loop-key-preserved
loop-key-preserved c = λ h is le.
    not_named h c.args.call c.args.directory c.args.keys.now c.loop-key.key-index c.key-item.result c.is_known_key.result c.loop-key-test.true c.key-item.is (c.is_known_key.ensures h is le) c.if-is_known_key.false (c.loop-key.invariant h is le)

pub returns : goal.returns
returns c = λ h is le. never_named h c.args.call c.args.directory c.args.keys.now c.loop-key.key-index c.loop-key-test.false (c.loop-key.invariant h is le)
