use Rattle.std.proofs.Common.{length}
use Rattle.sl_journal.specs.Moments.{IsTorn}
use Rattle.sl_journal.proofs.Runs.{after_write, after_sync}
use Rattle.sl_journal.proofs.device.write_synced.Goals as goal

pub returns-in-Err-clause-any_moment : goal.returns-in-Err-clause-any_moment
returns-in-Err-clause-any_moment g c =
    after_write c.args.disk c.args.at (length c.args.bytes.now) (g.V.Shelf.now c.args.shelf.now) (g.V.Shelf.now c.write_at.new.self) c.requires (λ d left. g.met.V.Shelf.only_now c.args.shelf.now c.args.disk d left) c.write_at.ensures.called.time c.write_at.ensures.called.others c.write_at.ensures.images

pub returns-in-Err-sync-clause-any_moment : goal.returns-in-Err-sync-clause-any_moment
returns-in-Err-sync-clause-any_moment g c =
    after_sync c.args.disk (g.V.Shelf.now c.args.shelf.now) (g.V.Shelf.now c.write_at.new.self) (g.V.Shelf.now c.sync.new.self) (IsTorn c.args.at (length c.args.bytes.now) ((g.V.Shelf.now c.args.shelf.now).may_leave c.args.disk)) c.requires
    (after_write c.args.disk c.args.at (length c.args.bytes.now) (g.V.Shelf.now c.args.shelf.now) (g.V.Shelf.now c.write_at.new.self) c.requires (λ d left. g.met.V.Shelf.only_now c.args.shelf.now c.args.disk d left) c.write_at.ensures.called.time c.write_at.ensures.called.others c.write_at.ensures.images)
    c.sync.ensures.called.time c.sync.ensures.called.others c.sync.ensures.images c.write_at.ensures.images

pub returns-in-Ok-sync-clause-any_moment : goal.returns-in-Ok-sync-clause-any_moment
returns-in-Ok-sync-clause-any_moment g c =
    after_sync c.args.disk (g.V.Shelf.now c.args.shelf.now) (g.V.Shelf.now c.write_at.new.self) (g.V.Shelf.now c.sync.new.self) (IsTorn c.args.at (length c.args.bytes.now) ((g.V.Shelf.now c.args.shelf.now).may_leave c.args.disk)) c.requires
    (after_write c.args.disk c.args.at (length c.args.bytes.now) (g.V.Shelf.now c.args.shelf.now) (g.V.Shelf.now c.write_at.new.self) c.requires (λ d left. g.met.V.Shelf.only_now c.args.shelf.now c.args.disk d left) c.write_at.ensures.called.time c.write_at.ensures.called.others c.write_at.ensures.images)
    c.sync.ensures.called.time c.sync.ensures.called.others c.sync.ensures.images c.write_at.ensures.images
