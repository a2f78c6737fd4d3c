-- Whatever happens to a new volume, it stays a tree.
use Rattle.std.proofs.Common.{List, [], ◌∷◌}
use Rattle.sl_model.specs.Volume.{Volume}
use Rattle.sl_model.specs.Perform.{fresh}
use Rattle.sl_model.specs.Tree.{Tree}
use Rattle.sl_model.proofs.Cells.{restart_keeps_tree}
use Rattle.sl_laws.specs.Laws.{Event, Performed, Flushed, Restarted, happened, after_events, MayHappen, MayAllHappen, AlwaysATree}
use Rattle.sl_laws.proofs.Flushing.{flush_keeps_tree}
use Rattle.sl_laws.proofs.Fresh.{fresh_is_tree}
use Rattle.sl_laws.proofs.Performing.{perform_keeps_tree}

one_event : (e : Event) (v : Volume) → MayHappen e v → Tree v → Tree (happened e v)
one_event (Performed call cred now choice) v may t = perform_keeps_tree v call cred now choice t may
one_event (Flushed f) v may t = flush_keeps_tree v f t
one_event (Restarted verifier) v may t = restart_keeps_tree v verifier t

all_events : (es : List Event) (v : Volume) → MayAllHappen es v → Tree v → Tree (after_events es v)
all_events [] v may t = t
all_events (e ∷ es) v may t = all_events es (happened e v) may.1 (one_event e v may.0 t)

pub always_a_tree : AlwaysATree
always_a_tree number es may = all_events es (fresh number) may (fresh_is_tree number)
