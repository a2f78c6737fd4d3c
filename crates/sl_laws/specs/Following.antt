-- What changes leave of the views, and that a flush leaves them as they are.
use Rattle.std.specs.Prelude.{◌≡◌, ℕ, ◌+◌, ◌==◌, List, [], ◌∷◌, Option, Some, None, if◌then◌else◌, length}
use Rattle.std.specs.List.{AllByRecursion}
use Rattle.sl_defs.specs.declared.setup.Time.{Time}
use Rattle.sl_defs.specs.declared.note.Choice.{Choice}
use Rattle.sl_types.specs.declared.cred.Cred.{Cred}
use Rattle.sl_types.specs.declared.call.Call.{Call}
use Rattle.sl_model.specs.declared.node.Node.{Node}
use Rattle.sl_model.specs.Plan.{run}
use Rattle.sl_model.specs.Volume.{Volume, Unstable, Change, PutNode, TakeNode, AddWrite, after_changes, written_to, seen, byte_at, flush, sight}
use Rattle.sl_model.specs.Procedures.{plan}
use Rattle.sl_model.specs.Tree.{Tree}

abbrev pub written_view : Unstable → Option Node → Option Node
written_view w None = None
written_view w (Some n) = Some (written_to (w.offset + length w.bytes) w.moment n)

-- the view of the object of that fileid after a change, where it was o
abbrev pub view_after : Change → ℕ → Option Node → Option Node
view_after (PutNode f n) g o = if f == g then Some n else o
view_after (TakeNode f) g o = if f == g then None else o
view_after (AddWrite w) g o = if w.fileid == g then written_view w o else o
view_after _ g o = o

abbrev pub views_after : List Change → ℕ → Option Node → Option Node
views_after [] g o = o
views_after (c ∷ cs) g o = views_after cs g (view_after c g o)

-- a node is put at its own fileid
abbrev pub PutsOwn : Change → Type 0
PutsOwn (PutNode f n) = n.fileid ≡ f
PutsOwn _ = Unit {0}

-- The views after any changes follow from those before, whatever is unstable.
abbrev pub ViewsFollow : Type 0
ViewsFollow = (v : Volume) (cs : List Change) (f : ℕ) → Tree v → AllByRecursion PutsOwn cs → seen (after_changes cs v) f ≡ views_after cs f (seen v f)

-- No flush changes a view.
abbrev pub FlushKeepsViews : Type 0
FlushKeepsViews = (v : Volume) (f g : ℕ) → Tree v → seen (flush f v) g ≡ seen v g

-- Nor a byte of one.
abbrev pub FlushKeepsBytes : Type 0
FlushKeepsBytes = (v : Volume) (f g at : ℕ) → byte_at (flush f v) g at ≡ byte_at v g at

-- No call tells whether a file was flushed: it ends the same, with the same answer and the same changes.
abbrev pub FlushesAreUnseen : Type 0
FlushesAreUnseen = (v : Volume) (f : ℕ) (c : Call) (cred : Cred) (now : Time) (choice : Choice) → Tree v
    → run (sight (flush f v)) (plan c cred now choice) ≡ run (sight v) (plan c cred now choice)
