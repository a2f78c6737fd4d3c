-- What a directory server tells of names: the root has the one name `a`.
use Rattle.std.specs.Prelude.{List, [], ◌∷◌, Bool, true, false}
use Rattle.sl_defs.specs.declared.event.Event.TheVariants as event
use Rattle.sl_types.specs.declared.call.Call.TheVariants as call
use Rattle.sl_types.specs.declared.kind.Kind.TheVariants as kind
use Rattle.sl_cells.specs.declared.cells.NameCell.{NameCell}
use Rattle.sl_cells.specs.declared.keys.CellKey.TheVariants as key
use Rattle.sl_frames.specs.declared.found.FoundCell.{FoundCell}
use Rattle.sl_frames.specs.declared.found.FoundCell.TheVariants as found
use Rattle.sl_frames.specs.declared.body.Body.TheVariants as body
use Rattle.sl_history.specs.Turns.{Sent, History}
use Rattle.sl_history.specs.Wired.{Wired}
use Rattle.sl_examples.specs.Histories.{setup, turn, welcomed}
use Rattle.sl_refusals.specs.Packets.{asks, remove, name, root_handle}
use Rattle.sl_refusals.specs.Volumes.{filed}
use Rattle.sl_refusals.specs.Frames.{request, answer}

abbrev pub name_of_file : NameCell
name_of_file = record { dir = 1; name = name; fileid = 2; kind = kind.Reg; cookie = 3 }

-- the server is asked for the name, and tells this
abbrev pub told_of_name : FoundCell → History
told_of_name c =
    turn (event.Give 3) (Sent 4 (answer 16 1 (body.Found (c ∷ []))) ∷ [])
    ∷ turn (event.Call 0 (asks remove)) (Sent 3 (request 16 1 3 (body.Ask (key.Name 1 name ∷ []))) ∷ []) ∷ welcomed

-- It tells what the name leads to, and neither that it leads elsewhere nor that there is no such name.
abbrev pub NamesAreToldApart : Type 0
NamesAreToldApart =
    Wired setup filed (told_of_name (found.Name name_of_file)) × (Wired setup filed (told_of_name (found.Name (record name_of_file { fileid = 3 }))) → ⊥)
    × (Wired setup filed (told_of_name found.Absent) → ⊥)

-- the server is asked for all names of the root, and tells these
abbrev pub told_names : List NameCell → Bool → History
told_names cells more =
    turn (event.Give 3) (Sent 4 (answer 16 1 (body.Listed cells more)) ∷ [])
    ∷ turn (event.Call 0 (asks (call.Readdir (root_handle 0) 0 0 512))) (Sent 3 (request 16 1 3 (body.List 1 0 512)) ∷ []) ∷ welcomed

-- It tells the one name, and that there are no more.
abbrev pub ListingsAreToldApart : Type 0
ListingsAreToldApart =
    Wired setup filed (told_names (name_of_file ∷ []) false) × (Wired setup filed (told_names [] false) → ⊥)
    × (Wired setup filed (told_names (name_of_file ∷ []) true) → ⊥)
