use Rattle.std.proofs.Common.{None, refl}
use Rattle.sl_ledger.proofs.SentLaws.{sent_none}
use Rattle.sl_ledger.proofs.sent.SentFrames.new.Goals as goal

pub returns : goal.returns
returns c =
    sent_none (record { frames = c.new.result; older = 0; by_number = c.new-2.result; requests = c.new-3.result; flying = c.new-4.result; given = None })
    c.new.ensures.items refl c.new-2.ensures.empty c.new-3.ensures.empty c.new-4.ensures.empty refl
