use Rattle.sl_ledger.proofs.SentLaws.{still}
use Rattle.sl_ledger.proofs.sent.SentFrames.is_still.Goals as goal

pub returns : goal.returns
returns c = still c.args.self.now.flying c.is_empty.result c.is_empty.ensures
