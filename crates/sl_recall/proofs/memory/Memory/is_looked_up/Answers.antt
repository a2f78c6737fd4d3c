use Rattle.std.proofs.Common.{not, sym, ap, ◌∙◌}
use Rattle.std.specs.Prelude.{◌==◌}
use Rattle.std.specs.List.{list_any}
use Rattle.sl_types.specs.Handles.{handle_of}
use Rattle.sl_history.specs.Remembering.{asks_for, is_key_of, is_other_directory}
use Rattle.sl_recall.specs.Files.{is_another}
use Rattle.sl_recall.proofs.AskingLaws.{looked}
use Rattle.sl_recall.proofs.memory.Memory.is_looked_up.Goals as goal

pub returns-in-Ask : goal.returns-in-Ask
returns-in-Ask c = λ h is le.
    looked h c.args.call c.has_known_key.result (λ f. not (c.in-Some.directory == f)) (λ f. list_any (is_key_of f) c.as_slice.result.now) (λ f. is_other_directory f (handle_of c.args.dir.now)) (λ f. asks_for f c.args.body.now)
    (λ f. sym (c.directory_named.ensures f ∙ ap (is_another f) c.in-Some.is)) (λ f. ap (list_any (is_key_of f)) c.as_slice.ensures ∙ sym (ap (asks_for f) c.in-Ask.is)) (c.has_known_key.ensures h is le)
