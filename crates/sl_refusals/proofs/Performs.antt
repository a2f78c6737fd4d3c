-- What the server answers to each call, and what it leaves.
use Rattle.std.proofs.Common.{◌≡◌, ◌==◌, ℕ, false, [], ◌∷◌, Some, None, Ok, Err, ap, ◌∙◌}
use Rattle.std.specs.FinMap.{get}
use Rattle.sl_defs.specs.Items.{u32_text, u64_text, u32_at, u64_at}
use Rattle.sl_defs.specs.Rpc.{zero_at}
use Rattle.sl_defs.specs.declared.setup.Time.{Time}
use Rattle.sl_defs.specs.declared.note.Choice.{Choice}
use Rattle.sl_types.specs.Handles.{form_text, form_at, magic_at, handle_of}
use Rattle.sl_types.specs.declared.call.CreateHow.TheVariants as how
use Rattle.sl_types.specs.declared.kind.Kind.TheVariants as kind
use Rattle.sl_types.specs.declared.kind.Status.TheVariants.{NoSpc}
use Rattle.sl_types.specs.declared.call.Stable.{Stable}
use Rattle.sl_types.specs.declared.reply.Reply.{Reply}
use Rattle.sl_types.specs.declared.reply.Reply.TheVariants as reply
use Rattle.sl_rpc.specs.Heads.{nobody}
use Rattle.sl_model.specs.declared.node.Node.{Node}
use Rattle.sl_model.specs.Plan.{Done, run, ◌>>=◌}
use Rattle.sl_model.specs.Volume.{Volume, seen, sight, after_changes, bytes_from}
use Rattle.sl_model.specs.Checks.{checked, refuse}
use Rattle.sl_model.specs.Looking.{Outcome, answering, attributes, reading, readable, committing}
use Rattle.sl_model.specs.Changing.{nothing_given, creating, create_at, removal, guarded, setting, write_in, writing}
use Rattle.sl_model.specs.Perform.{perform, ends, epoch, new_root}
use Rattle.sl_model.specs.Procedures.{plan, fault}
use Rattle.sl_refusals.specs.Packets.{name, create, remove, look_at_root, change_root, new_mode, write, read, commit}
use Rattle.sl_refusals.specs.Volumes.{made_file}
use Rattle.sl_refusals.proofs.PlanSteps.{run_look, run_see, run_find, run_want, run_verifier, run_bytes, run_done, run_stop}

-- the root with so many bytes and names, and so many that were made
abbrev pub root_with : ℕ → ℕ → ℕ → Node
root_with size entries made = record (new_root 1) { size = size; entries = entries; made = made }

abbrev pub the_outcome : Volume → Outcome → Volume × Reply
the_outcome v o = (after_changes o.changes v, o.answer)

-- ---- CREATE and REMOVE of the name in the root

abbrev pub made : Time → ℕ → ℕ → ℕ → ℕ → Outcome
made now size entries so_far f = creating (root_with size entries so_far) name (how.Unchecked nothing_given) nobody now f

-- where a fileid is left
create_runs : (v : Volume) (now : Time) (size entries so_far : ℕ) (choice : Choice) → get v.nodes 1 ≡ Some (root_with size entries so_far) → get v.names (1, name) ≡ None → (choice.fileid == 0) ≡ false
    → run (sight v) (plan create nobody now choice) ≡ Ok (made now size entries so_far choice.fileid)
unfolding ◌>>=◌ checked create_at u32_text u64_text u32_at u64_at zero_at form_text form_at magic_at handle_of
create_runs v now size entries so_far choice has none given =
    run_want (sight v) _ _ ∙ (run_look (sight v) 1 _ _ has
    ∙ (run_find (sight v) 1 name _ _ none
    ∙ (ap (λ b. run (sight v) (refuse b NoSpc >>= (λ x. Done (made now size entries so_far choice.fileid)))) given ∙ run_done (sight v) (made now size entries so_far choice.fileid))))

pub creates : (v : Volume) (now : Time) (size entries so_far : ℕ) (choice : Choice) → get v.nodes 1 ≡ Some (root_with size entries so_far) → get v.names (1, name) ≡ None → (choice.fileid == 0) ≡ false
    → perform v create nobody now choice ≡ the_outcome v (made now size entries so_far choice.fileid)
unfolding perform
creates v now size entries so_far choice has none given = ap (ends v (fault create)) (create_runs v now size entries so_far choice has none given)

-- and where none is
none_left_runs : (v : Volume) (size entries so_far : ℕ) → get v.nodes 1 ≡ Some (root_with size entries so_far) → get v.names (1, name) ≡ None
    → run (sight v) (plan create nobody epoch (record { fileid = 0; kept = false })) ≡ Err NoSpc
unfolding ◌>>=◌ checked create_at u32_text u64_text u32_at u64_at zero_at form_text form_at magic_at handle_of
none_left_runs v size entries so_far has none = run_want (sight v) _ _ ∙ (run_look (sight v) 1 _ _ has ∙ (run_find (sight v) 1 name _ _ none ∙ run_stop (sight v) NoSpc))

pub none_left : (v : Volume) (size entries so_far : ℕ) → get v.nodes 1 ≡ Some (root_with size entries so_far) → get v.names (1, name) ≡ None
    → perform v create nobody epoch (record { fileid = 0; kept = false }) ≡ (v, fault create NoSpc)
unfolding perform
none_left v size entries so_far has none = ap (ends v (fault create)) (none_left_runs v size entries so_far has none)

abbrev pub removed : ℕ → ℕ → ℕ → Node → Outcome
removed size entries so_far n = removal (root_with size entries so_far) name n epoch

remove_runs : (v : Volume) (size entries so_far f cookie : ℕ) (n : Node) (choice : Choice) → get v.nodes 1 ≡ Some (root_with size entries so_far)
    → get v.names (1, name) ≡ Some (record { fileid = f; kind = kind.Reg; cookie = cookie }) → seen v f ≡ Some n
    → run (sight v) (plan remove nobody epoch choice) ≡ Ok (removed size entries so_far n)
unfolding ◌>>=◌ checked u32_text u64_text u32_at u64_at zero_at form_text form_at magic_at handle_of
remove_runs v size entries so_far f cookie n choice has named sees =
    run_want (sight v) _ _
    ∙ (run_look (sight v) 1 _ _ has ∙ (run_find (sight v) 1 name _ _ named ∙ (run_see (sight v) f _ _ sees ∙ run_done (sight v) (removed size entries so_far n))))

pub removes : (v : Volume) (size entries so_far f cookie : ℕ) (n : Node) (choice : Choice) → get v.nodes 1 ≡ Some (root_with size entries so_far)
    → get v.names (1, name) ≡ Some (record { fileid = f; kind = kind.Reg; cookie = cookie }) → seen v f ≡ Some n
    → perform v remove nobody epoch choice ≡ the_outcome v (removed size entries so_far n)
unfolding perform
removes v size entries so_far f cookie n choice has named sees = ap (ends v (fault remove)) (remove_runs v size entries so_far f cookie n choice has named sees)

-- ---- the root's attributes

abbrev pub root_of : ℕ → Node
root_of mode = record (new_root 1) { mode = mode }

look_at_root_runs : (v : Volume) (mode : ℕ) (m : Node) (now : Time) (choice : Choice) → get v.nodes 1 ≡ Some (root_of mode) → seen v 1 ≡ Some m
    → run (sight v) (plan look_at_root nobody now choice) ≡ Ok (answering (reply.Getattr (Ok (attributes m))))
unfolding ◌>>=◌ u32_text u64_text u32_at u64_at zero_at form_text form_at magic_at handle_of
look_at_root_runs v mode m now choice has sees = run_look (sight v) 1 _ _ has ∙ (run_see (sight v) 1 _ _ sees ∙ run_done (sight v) _)

pub looks_at_root : (v : Volume) (mode : ℕ) (m : Node) (now : Time) (choice : Choice) → get v.nodes 1 ≡ Some (root_of mode) → seen v 1 ≡ Some m
    → perform v look_at_root nobody now choice ≡ (v, reply.Getattr (Ok (attributes m)))
unfolding perform
looks_at_root v mode m now choice has sees = ap (ends v (fault look_at_root)) (look_at_root_runs v mode m now choice has sees)

change_root_runs : (v : Volume) (choice : Choice) → get v.nodes 1 ≡ Some (new_root 1) → seen v 1 ≡ Some (new_root 1)
    → run (sight v) (plan change_root nobody epoch choice) ≡ Ok (setting (new_root 1) new_mode epoch)
unfolding ◌>>=◌ guarded u32_text u64_text u32_at u64_at zero_at form_text form_at magic_at handle_of
change_root_runs v choice has sees = run_look (sight v) 1 _ _ has ∙ (run_see (sight v) 1 _ _ sees ∙ run_done (sight v) _)

pub changes_root : (v : Volume) (choice : Choice) → get v.nodes 1 ≡ Some (new_root 1) → seen v 1 ≡ Some (new_root 1)
    → perform v change_root nobody epoch choice ≡ the_outcome v (setting (new_root 1) new_mode epoch)
unfolding perform
changes_root v choice has sees = ap (ends v (fault change_root)) (change_root_runs v choice has sees)

-- ---- the file

abbrev pub file_of : ℕ → Node
file_of size = record made_file { size = size }

write_runs : (v : Volume) (size : ℕ) (m : Node) (asked : Stable) (choice : Choice) → get v.nodes 2 ≡ Some (file_of size) → seen v 2 ≡ Some m
    → run (sight v) (plan (write 0 asked) nobody epoch choice) ≡ Ok (writing m 0 (120 ∷ []) asked v.verifier epoch choice.kept)
unfolding ◌>>=◌ write_in u32_text u64_text u32_at u64_at zero_at form_text form_at magic_at handle_of
write_runs v size m asked choice has sees =
    run_look (sight v) 2 _ _ has ∙ (run_see (sight v) 2 _ _ sees ∙ (run_verifier (sight v) _ ∙ run_done (sight v) _))

pub writes : (v : Volume) (size : ℕ) (m : Node) (asked : Stable) (choice : Choice) → get v.nodes 2 ≡ Some (file_of size) → seen v 2 ≡ Some m
    → perform v (write 0 asked) nobody epoch choice ≡ the_outcome v (writing m 0 (120 ∷ []) asked v.verifier epoch choice.kept)
unfolding perform
writes v size m asked choice has sees = ap (ends v (fault (write 0 asked))) (write_runs v size m asked choice has sees)

read_runs : (v : Volume) (size : ℕ) (m : Node) (now : Time) (choice : Choice) → get v.nodes 2 ≡ Some (file_of size) → seen v 2 ≡ Some m
    → run (sight v) (plan (read 0) nobody now choice) ≡ Ok (reading m 0 1 (bytes_from v 2 0 (readable m 0 1)))
unfolding ◌>>=◌ u32_text u64_text u32_at u64_at zero_at form_text form_at magic_at handle_of
read_runs v size m now choice has sees = run_look (sight v) 2 _ _ has ∙ (run_see (sight v) 2 _ _ sees ∙ (run_bytes (sight v) _ _ _ _ ∙ run_done (sight v) _))

pub reads : (v : Volume) (size : ℕ) (m : Node) (now : Time) (choice : Choice) → get v.nodes 2 ≡ Some (file_of size) → seen v 2 ≡ Some m
    → perform v (read 0) nobody now choice ≡ the_outcome v (reading m 0 1 (bytes_from v 2 0 (readable m 0 1)))
unfolding perform
reads v size m now choice has sees = ap (ends v (fault (read 0))) (read_runs v size m now choice has sees)

commit_runs : (v : Volume) (size : ℕ) (m : Node) (now : Time) (choice : Choice) → get v.nodes 2 ≡ Some (file_of size) → seen v 2 ≡ Some m
    → run (sight v) (plan commit nobody now choice) ≡ Ok (committing m v.verifier)
unfolding ◌>>=◌ u32_text u64_text u32_at u64_at zero_at form_text form_at magic_at handle_of
commit_runs v size m now choice has sees = run_look (sight v) 2 _ _ has ∙ (run_see (sight v) 2 _ _ sees ∙ (run_verifier (sight v) _ ∙ run_done (sight v) _))

pub commits : (v : Volume) (size : ℕ) (m : Node) (now : Time) (choice : Choice) → get v.nodes 2 ≡ Some (file_of size) → seen v 2 ≡ Some m
    → perform v commit nobody now choice ≡ the_outcome v (committing m v.verifier)
unfolding perform
commits v size m now choice has sees = ap (ends v (fault commit)) (commit_runs v size m now choice has sees)
