use Rattle.std.proofs.Common.{◌≡◌, ap, arith, set}
use Rattle.std.proofs.lemmas.Grind.{common_steps}
use Rattle.std.proofs.lemmas.List.{get_or_read}
use Rattle.sl_disk.specs.Record.{no_script}
use Rattle.sl_disk.specs.Performing.{script_at}
use Rattle.sl_disk.proofs.memory.perform.Goals as goal

pub returns-else-is_err-2-clause-performs : goal.returns-else-is_err-2-clause-performs
returns-else-is_err-2-clause-performs c =
    let same : c.index.result.now ≡ script_at c.args.scripts.now.items c.args.disk = get_or_read c.args.scripts.now.items c.args.disk c.index.result.now c.requires.script c.index.ensures no_script in
    record {
      is_due = cc;
      noted = grind (arith, common_steps);
      count = c.failed.result.faults;
      rose = rw (← same) c.failed.ensures.fault;
      script = rw (← same) (ap (λ s. set c.args.scripts.now.items c.args.disk s) c.failed.ensures.others);
    }

pub returns-else-is_err-3-clause-performs : goal.returns-else-is_err-3-clause-performs
returns-else-is_err-3-clause-performs c =
    let same : c.index.result.now ≡ script_at c.args.scripts.now.items c.args.disk = get_or_read c.args.scripts.now.items c.args.disk c.index.result.now c.requires.script c.index.ensures no_script in
    record {
      image = c.in-Some-Stop.image;
      is_due = cc;
      noted = grind (arith, common_steps);
      count = c.stopped.result.stops;
      rose = rw (← same) c.stopped.ensures.stop;
      script = rw (← same) (ap (λ s. set c.args.scripts.now.items c.args.disk s) c.stopped.ensures.others);
    }
