use Rattle.std.proofs.Common.{◌<◌, length, arith, ◌∙◌}
use Rattle.std.proofs.Math.ListN.{length-set}
use Rattle.sl_history.specs.Frames.{has_actor}
use Rattle.sl_ledger.proofs.UpLaws.{put_next}
use Rattle.sl_ledger.proofs.actors.actors_of.Goals as goal

pub loop-actor-preserved : goal.loop-actor-preserved
loop-actor-preserved c =
    let within : c.loop-actor.actor < length c.loop-actor.up = omega (arith, c.loop-actor-test.true, c.loop-actor.invariant.long) in
    record {
      long = length-set c.loop-actor.up c.loop-actor.actor c.has_actor.result ∙ c.loop-actor.invariant.long;
      known = put_next c.loop-actor.up c.loop-actor.actor c.has_actor.result (has_actor c.args.setup.now) within c.has_actor.ensures c.loop-actor.invariant.known;
    }
