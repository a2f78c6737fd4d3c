use Rattle.std.proofs.Common.{get_or}
use Rattle.sl_history.specs.Placing.{object_server}
use Rattle.sl_wiring.proofs.Standings.{added, adding_at, any_at}
use Rattle.sl_wiring.proofs.standing.add_objects.Goals as goal

pub loop-fileid-preserved : goal.loop-fileid-preserved
loop-fileid-preserved c =
    adding_at c.args.servers.now.items c.loop-fileid.servers.items c.add.new.servers.items (λ f. object_server c.args.setup f) c.args.objects.now c.loop-fileid.fileid-index
    (get_or c.args.objects.now c.loop-fileid.fileid-index 0) c.object_server.result (any_at c.args.objects.now c.loop-fileid.fileid-index 0 c.loop-fileid-test.true) c.object_server.ensures
    c.loop-fileid.invariant c.in_ok-add.ensures

pub returns : goal.returns
returns c = added c.args.servers.now.items c.loop-fileid.servers.items (λ f. object_server c.args.setup f) c.args.objects.now c.loop-fileid.fileid-index c.loop-fileid-test.false c.loop-fileid.invariant
