use Rattle.std.proofs.Common.{List, ◌≡◌, ◌+◌, ◌%◌, ◌^◌, Some, set, sym, ◌∙◌, ap, subst, arith}
use Rattle.std.proofs.lemmas.List.{get_or_read}
use Rattle.sl_disk.specs.Shelf.{LeavesOthers, Elapses}
use Rattle.sl_disk.specs.Record.{situation, no_script}
use Rattle.sl_disk.specs.Performing.{script_at}
use Rattle.sl_disk.specs.declared.record.Change.TheVariants.{Left}
use Rattle.sl_disk.specs.declared.record.Call.{Call}
use Rattle.sl_disk.specs.declared.script.Script.{Script}
use Rattle.sl_disk.proofs.Keeping.{elapses_same, elapses_noting, others_noting}
use Rattle.sl_disk.proofs.Working.{leaves, left_only_images}
use Rattle.sl_disk.proofs.memory.MemShelfShelf.crash.Goals as goal

pub returns-in-Ok-clause-others : goal.returns-in-Ok-clause-others
returns-in-Ok-clause-others c =
    subst (λ (l : List Call). LeavesOthers c.args.disk (situation c.args.self.now.calls.items c.args.self.now.scripts.items) (situation l (set c.args.self.now.scripts.items c.args.disk c.crash.result))) (sym c.in-Ok.ensures.ok)
    (others_noting c.args.disk (Some (Left c.args.image)) c.args.self.now.calls.items c.args.self.now.scripts.items c.crash.result)

pub returns-in-Ok-clause-time : goal.returns-in-Ok-clause-time
returns-in-Ok-clause-time c =
    subst (λ (l : List Call). Elapses (situation c.args.self.now.calls.items c.args.self.now.scripts.items) (situation l (set c.args.self.now.scripts.items c.args.disk c.crash.result))) (sym c.in-Ok.ensures.ok)
    (elapses_noting c.args.disk (Some (Left c.args.image)) c.args.self.now.calls.items c.args.self.now.scripts.items (set c.args.self.now.scripts.items c.args.disk c.crash.result))

pub returns-in-Ok-clause-leaves : goal.returns-in-Ok-clause-leaves
returns-in-Ok-clause-leaves c =
    let same : c.index-script.result.now ≡ script_at c.args.self.now.scripts.items c.args.disk = get_or_read c.args.self.now.scripts.items c.args.disk c.index-script.result.now (omega (arith, c.args.self.now.all_scripts, c.requires)) c.index-script.ensures no_script in
    leaves c.args.disk c.args.image c.args.self.now.calls.items c.note_change.new.calls.items c.args.self.now.scripts.items c.crash.result (omega (arith, c.args.self.now.all_scripts, c.requires)) c.in-Ok.ensures.ok
    (c.crash.ensures ∙ ap (λ (s : Script). record s { crashes = (s.crashes + 1) % 2 ^ 64; last_crash = Some c.args.image }) same)

pub returns-in-Ok-clause-images : goal.returns-in-Ok-clause-images
returns-in-Ok-clause-images c = left_only_images c.args.disk c.args.image c.args.self.now.calls.items c.note_change.new.calls.items c.in-Ok.ensures.ok

pub returns-in-Err-clause-time : goal.returns-in-Err-clause-time
returns-in-Err-clause-time c =
    subst (λ (l : List Call). Elapses (situation c.args.self.now.calls.items c.args.self.now.scripts.items) (situation l c.args.self.now.scripts.items)) (sym c.in-Err.ensures.err) (elapses_same c.args.self.now.calls.items c.args.self.now.scripts.items c.args.self.now.scripts.items)
