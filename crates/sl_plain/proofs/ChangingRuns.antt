-- The procedures that change something, step by step.
use Rattle.std.proofs.Common.{◌≡◌, ℕ, List, Option, Some, Ok}
use Rattle.std.specs.Prelude.{◌||◌, ◌&&◌, ◌==◌, nat_lt, nat_le, length, not, is_some, take}
use Rattle.sl_defs.specs.declared.setup.Time.{Time}
use Rattle.sl_defs.specs.declared.note.Choice.{Choice}
use Rattle.sl_types.specs.declared.kind.Status.TheVariants.{Exist, IsDir, Inval, FBig, NoSpc, MLink, NotDir, NotEmpty, NotSync, NameTooLong}
use Rattle.sl_types.specs.declared.attributes.Sattr.{Sattr}
use Rattle.sl_types.specs.declared.call.Stable.{Stable}
use Rattle.sl_types.specs.declared.call.CreateHow.{CreateHow}
use Rattle.sl_types.specs.declared.call.NodeData.{NodeData}
use Rattle.sl_types.specs.declared.cred.Cred.{Cred}
use Rattle.sl_types.specs.declared.handle.Handle.{Handle}
use Rattle.sl_model.specs.declared.node.Node.{Node}
use Rattle.sl_model.specs.declared.node.Entry.{Entry}
use Rattle.sl_model.specs.Plan.{Sight, run, and_then}
use Rattle.sl_model.specs.Volume.{is_dir, is_reg}
use Rattle.sl_model.specs.Checks.{live, see, entry, object, directory, has_bad_time, is_dots, is_dot, is_dot_dot}
use Rattle.sl_model.specs.Looking.{answering}
use Rattle.sl_model.specs.Changing.{guarded, guarded_by, same_time, is_too_big, setting, setattr, max_size, max_links, writing, writable, wrote, write, write_in, write_at, write_none, given, is_guarded, same_create, recreating, creating, create, create_at, create_present, create_absent, absent, making_directory, mkdir, making_link, symlink, has_bad_special_time, special_of, special_or, making_special, mknod, removal, remove, directory_removal, rmdir, climbs, see_if, is_bad_target, is_full, renaming, rename_to, rename_in, rename, linking, link}
use Rattle.sl_model.specs.Procedures.{with_handle}
use Rattle.sl_plain.specs.Steps.{refused, checked_name, checked_names, read_handle}
use Rattle.sl_plain.proofs.Runs.{runs}

pub guarded_by_run : (eye : Sight) (f : ℕ) (t : Time) → run eye (guarded_by f t) ≡
    and_then (run eye (see f)) (λ n. refused (not (same_time n.ctime t)) NotSync)
guarded_by_run eye f t = simp runs

pub setattr_run : (eye : Sight) (cred : Cred) (h : Handle) (s : Sattr) (guard : Option Time) (now : Time) → run eye (setattr cred h s guard now) ≡
    and_then (refused (has_bad_time s) Inval) (λ u. and_then (run eye (object cred h)) (λ u. and_then (run eye (guarded h.fileid guard)) (λ u. and_then (refused (is_some s.size && not (is_reg h.kind)) Inval) (λ u. and_then (refused (is_too_big s.size) FBig) (λ u. and_then (run eye (see h.fileid)) (λ n. Ok ((setting n s now))))))))
setattr_run eye cred h s guard now = simp runs

pub mkdir_run : (eye : Sight) (cred : Cred) (to : Handle) (name : List ℕ) (s : Sattr) (now : Time) (choice : Choice) → run eye (mkdir cred to name s now choice) ≡
    and_then (checked_name name) (λ u. and_then (refused (has_bad_time s) Inval) (λ u. and_then (run eye (directory cred to)) (λ d. and_then (run eye (absent to name)) (λ u. and_then (refused (nat_le max_links d.nlink) MLink) (λ u. and_then (refused (choice.fileid == 0) NoSpc) (λ u. Ok ((making_directory d name s cred now choice.fileid))))))))
mkdir_run eye cred to name s now choice = simp runs

pub remove_run : (eye : Sight) (cred : Cred) (h : Handle) (name : List ℕ) (now : Time) → run eye (remove cred h name now) ≡
    and_then (checked_name name) (λ u. and_then (run eye (directory cred h)) (λ d. and_then (refused (is_dots name) Inval) (λ u. and_then (run eye (entry h.fileid name)) (λ e. and_then (refused (is_dir e.kind) IsDir) (λ u. and_then (run eye (see e.fileid)) (λ n. Ok ((removal d name n now))))))))
remove_run eye cred h name now = simp runs

pub rmdir_run : (eye : Sight) (cred : Cred) (h : Handle) (name : List ℕ) (now : Time) → run eye (rmdir cred h name now) ≡
    and_then (checked_name name) (λ u. and_then (run eye (directory cred h)) (λ d. and_then (refused (is_dot name) Inval) (λ u. and_then (refused (is_dot_dot name) Exist) (λ u. and_then (run eye (entry h.fileid name)) (λ e. and_then (refused (not (is_dir e.kind)) NotDir) (λ u. and_then (run eye (see e.fileid)) (λ n. and_then (refused (not (n.entries == 0)) NotEmpty) (λ u. Ok ((directory_removal d name n now))))))))))
rmdir_run eye cred h name now = simp runs

pub link_run : (eye : Sight) (cred : Cred) (h : Handle) (to : Handle) (name : List ℕ) (now : Time) → run eye (link cred h to name now) ≡
    and_then (checked_name name) (λ u. and_then (run eye (live h)) (λ o. and_then (run eye (live to)) (λ d. and_then (refused (not (is_dir to.kind)) NotDir) (λ u. and_then (refused (is_dir h.kind) Inval) (λ u. and_then (run eye (absent to name)) (λ u. and_then (refused (nat_le max_links o.nlink) MLink) (λ u. and_then (run eye (see h.fileid)) (λ n. Ok ((linking d name n now))))))))))
link_run eye cred h to name now = simp runs

pub write_run : (eye : Sight) (cred : Cred) (h : Handle) (offset : ℕ) (count : ℕ) (asked : Stable) (bytes : List ℕ) (now : Time) (choice : Choice) → run eye (write cred h offset count asked bytes now choice) ≡
    and_then (run eye (object cred h)) (λ u. and_then (refused (not (is_reg h.kind) || nat_lt (length bytes) count) Inval) (λ u. run eye (write_in h offset count asked bytes now choice)))
write_run eye cred h offset count asked bytes now choice = simp runs

pub write_at_run : (eye : Sight) (h : Handle) (offset : ℕ) (count : ℕ) (asked : Stable) (bytes : List ℕ) (now : Time) (choice : Choice) → run eye (write_at h offset count asked bytes now choice) ≡
    and_then (refused (nat_le max_size offset) FBig) (λ u. and_then (run eye (see h.fileid)) (λ n. Ok ((writing n offset (take (writable offset count) bytes) asked eye.verifier now choice.kept))))
write_at_run eye h offset count asked bytes now choice = simp runs

pub write_none_run : (eye : Sight) (h : Handle) (asked : Stable) → run eye (write_none h asked) ≡
    and_then (run eye (see h.fileid)) (λ n. Ok (answering (wrote n 0 asked eye.verifier)))
write_none_run eye h asked = simp runs

pub create_run : (eye : Sight) (cred : Cred) (to : Handle) (name : List ℕ) (h : CreateHow) (now : Time) (choice : Choice) → run eye (create cred to name h now choice) ≡
    and_then (checked_name name) (λ u. and_then (refused (has_bad_time (given h)) Inval) (λ u. and_then (run eye (directory cred to)) (λ d. and_then (refused (is_too_big (given h).size) FBig) (λ u. and_then (refused (is_dots name) Exist) (λ u. run eye (create_at d name h cred now choice (eye.find to.fileid name)))))))
create_run eye cred to name h now choice = simp runs

pub create_present_run : (eye : Sight) (e : Entry) (h : CreateHow) (now : Time) → run eye (create_present e h now) ≡
    and_then (refused (is_guarded h || not (is_reg e.kind)) Exist) (λ u. and_then (run eye (see e.fileid)) (λ n. and_then (refused (not (same_create h n)) Exist) (λ u. Ok ((recreating n h now)))))
create_present_run eye e h now = simp runs

pub create_absent_run : (eye : Sight) (d : Node) (name : List ℕ) (h : CreateHow) (cred : Cred) (now : Time) (choice : Choice) → run eye (create_absent d name h cred now choice) ≡
    and_then (refused (choice.fileid == 0) NoSpc) (λ u. Ok ((creating d name h cred now choice.fileid)))
create_absent_run eye d name h cred now choice = simp runs

pub symlink_run : (eye : Sight) (cred : Cred) (to : Handle) (name : List ℕ) (s : Sattr) (path : List ℕ) (now : Time) (choice : Choice) → run eye (symlink cred to name s path now choice) ≡
    and_then (checked_name name) (λ u. and_then (refused (nat_lt 1024 (length path)) NameTooLong) (λ u. and_then (refused (has_bad_time s) Inval) (λ u. and_then (run eye (directory cred to)) (λ d. and_then (run eye (absent to name)) (λ u. and_then (refused (choice.fileid == 0) NoSpc) (λ u. Ok ((making_link d name s cred path now choice.fileid))))))))
symlink_run eye cred to name s path now choice = simp runs

pub mknod_run : (eye : Sight) (cred : Cred) (to : Handle) (name : List ℕ) (w : NodeData) (now : Time) (choice : Choice) → run eye (mknod cred to name w now choice) ≡
    and_then (checked_name name) (λ u. and_then (refused (has_bad_special_time (special_of w)) Inval) (λ u. and_then (run eye (directory cred to)) (λ d. and_then (run eye (special_or (special_of w))) (λ s. and_then (run eye (absent to name)) (λ u. and_then (refused (choice.fileid == 0) NoSpc) (λ u. Ok ((making_special d name s cred now choice.fileid))))))))
mknod_run eye cred to name w now choice = simp runs

pub rename_to_run : (eye : Sight) (from : Node) (name : List ℕ) (to : Node) (to_name : List ℕ) (e : Entry) (o : Option Entry) (now : Time) → run eye (rename_to from name to to_name e o now) ≡
    and_then (run eye (climbs (is_dir e.kind && not (from.fileid == to.fileid)) e.fileid to.fileid)) (λ is_below. and_then (refused is_below Inval) (λ u. and_then (run eye (see e.fileid)) (λ n. and_then (run eye (see_if o)) (λ t. and_then (refused (is_bad_target n t) Exist) (λ u. and_then (refused (not (from.fileid == to.fileid) && is_full n to t) MLink) (λ u. Ok ((renaming from name to to_name n t now))))))))
rename_to_run eye from name to to_name e o now = simp runs

pub rename_run : (eye : Sight) (cred : Cred) (a : Handle) (name : List ℕ) (b : Handle) (to_name : List ℕ) (now : Time) → run eye (rename cred a name b to_name now) ≡
    and_then (checked_names name to_name) (λ u. and_then (run eye (live a)) (λ f. and_then (run eye (live b)) (λ d. and_then (refused (not (is_dir a.kind)) NotDir) (λ u. and_then (refused (not (is_dir b.kind)) NotDir) (λ u. and_then (refused (is_dots name || is_dots to_name) Inval) (λ u. and_then (run eye (entry a.fileid name)) (λ e. run eye (rename_in f name d to_name e (eye.find b.fileid to_name) now))))))))
rename_run eye cred a name b to_name now = simp runs

pub absent_run : (eye : Sight) (h : Handle) (name : List ℕ) → run eye (absent h name) ≡
    and_then (refused (is_dots name) Exist) (λ u. refused (is_some (eye.find h.fileid name)) Exist)
unfolding absent
absent_run eye h name = simp runs

pub see_if_run : (eye : Sight) (e : Entry) → run eye (see_if (Some e)) ≡
    and_then (run eye (see e.fileid)) (λ n. Ok (Some n))
unfolding see_if
see_if_run eye e = simp runs

pub write_handle_run : (eye : Sight) (file : List ℕ) (cred : Cred) (offset : ℕ) (count : ℕ) (asked : Stable) (bytes : List ℕ) (now : Time) (choice : Choice) → run eye (with_handle file (λ h. write cred h offset count asked bytes now choice)) ≡
    and_then (read_handle file) (λ h. and_then (run eye (object cred h)) (λ u. and_then (refused (not (is_reg h.kind) || nat_lt (length bytes) count) Inval) (λ u. run eye (write_in h offset count asked bytes now choice))))
write_handle_run eye file cred offset count asked bytes now choice = simp runs
