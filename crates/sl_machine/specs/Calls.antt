-- What a call is about before anything is known of the volume: its handles, its names, and what it answers of itself.
use Rattle.std.specs.Prelude.{ℕ, ◌==◌, List, [], ◌∷◌, ◌++◌, Option, Some, None, Bool, true, false, not, ◌&&◌, ◌||◌, filter, filter_map, Result, Ok, Err, if◌then◌else◌, option_to_list}
use Rattle.std.specs.List.{list_any}
use Rattle.sl_defs.specs.declared.setup.Setup.{Setup}
use Rattle.sl_defs.specs.declared.setup.Time.{Time}
use Rattle.sl_types.specs.declared.call.Call.{Call}
use Rattle.sl_types.specs.declared.call.Call.TheVariants as call
use Rattle.sl_types.specs.declared.kind.Status.{Status}
use Rattle.sl_types.specs.declared.kind.Status.TheVariants as status
use Rattle.sl_types.specs.declared.cred.Cred.{Cred}
use Rattle.sl_types.specs.declared.handle.Handle.{Handle}
use Rattle.sl_types.specs.Handles.{handle_of}
use Rattle.sl_edit.specs.Fields.{first_handle, second_handle}
use Rattle.sl_cells.specs.Reading.{is_id}
use Rattle.sl_model.specs.Plan.{run}
use Rattle.sl_model.specs.Volume.{is_dir}
use Rattle.sl_model.specs.Checks.{is_dots}
use Rattle.sl_model.specs.Looking.{Outcome}
use Rattle.sl_model.specs.Changing.{given, is_too_big, special_of, Special}
use Rattle.sl_model.specs.Gathered.{Gathered, sight_in}
use Rattle.sl_model.specs.Procedures.{plan}
use Rattle.sl_history.specs.Arrivals.{is_changing, is_commit}
use Rattle.sl_history.specs.Legal.{no_choice}
use Rattle.sl_machine.specs.Memory.{Hold}

-- ---- handles

-- the handles of this server's form, in the order of the arguments
abbrev pub handles : Call → List Handle
handles c = filter_map handle_of (option_to_list (first_handle c) ++ option_to_list (second_handle c))

-- a handle of another volume, or of no possible object
abbrev pub is_foreign : Setup → Handle → Bool
is_foreign s h = not (h.volume == s.volume) || not (is_id h.fileid)

-- ---- what a call answers of itself

-- nothing is known, and no object is there
abbrev pub nothing_known : Gathered
nothing_known = record { cells = []; names = λ d c. []; text = λ f. []; bytes = λ f at n. []; verifier = 0 }

abbrev pub is_stale : Status → Bool
is_stale status.Stale = true
is_stale other = false

abbrev pub failure : Result Outcome Status → Option Status
failure (Ok o) = None
failure (Err s) = Some s

-- A handle that is none, or a name or time that can't be, is refused whatever the volume holds. So is a handle that no
-- object of this volume can have.
abbrev pub refused_if : Bool → Option Status → Option Status
refused_if foreign None = None
refused_if foreign (Some s) = if is_stale s && not foreign then None else Some s

unfoldable pub refused : Setup → Call → Cred → Time → Option Status
refused setup c cred now = refused_if (list_any (is_foreign setup) (handles c)) (failure (run (sight_in nothing_known) (plan c cred now no_choice)))

-- ---- names

-- a name in a directory
pub record Place : Type 0 where
  pub dir : ℕ
  pub name : List ℕ

abbrev pub place_by : Option Handle → List ℕ → List Place
place_by None name = []
place_by (Some h) name = if is_dir h.kind then record { dir = h.fileid; name = name } ∷ [] else []

abbrev pub place : List ℕ → List ℕ → List Place
place dir name = place_by (handle_of dir) name

-- `.` and `..` are no names that are kept
abbrev pub plain : List ℕ → List ℕ → List Place
plain dir name = if is_dots name then [] else place dir name

abbrev pub is_special : Option Special → Bool
is_special None = false
is_special (Some s) = true

abbrev pub only_if : Bool → List Place → List Place
only_if true ps = ps
only_if false ps = []

abbrev pub is_directory : Option Handle → Bool
is_directory None = false
is_directory (Some h) = is_dir h.kind

-- two places, where both are
abbrev pub both : List Place → List Place → List Place
both [] qs = []
both (p ∷ ps) [] = []
both (p ∷ ps) (q ∷ qs) = p ∷ q ∷ []

-- The names that a call looks up, unless it ends before: in a handle that is no directory's, at `.` or `..`, and where
-- its arguments alone make it fail.
abbrev pub sought : Call → List Place
sought (call.Lookup dir name) = plain dir name
sought (call.Create dir name how) = only_if (not (is_too_big (given how).size)) (plain dir name)
sought (call.Mkdir dir name attributes) = plain dir name
sought (call.Symlink dir name attributes path) = plain dir name
sought (call.Mknod dir name what) = only_if (is_special (special_of what)) (plain dir name)
sought (call.Remove dir name) = plain dir name
sought (call.Rmdir dir name) = plain dir name
sought (call.Rename from name to to_name) = both (plain from name) (plain to to_name)
sought (call.Link file dir name) = only_if (not (is_directory (handle_of file))) (plain dir name)
sought other = []

-- ---- locks

-- the whole tree
abbrev pub tree : Hold
tree = record { key = record { fileid = 0; dir = true }; alone = true }

-- MKDIR, RMDIR and RENAME change the tree's shape
abbrev pub takes_tree : Call → Bool
takes_tree (call.Mkdir dir name attributes) = true
takes_tree (call.Rmdir dir name) = true
takes_tree (call.Rename from name to to_name) = true
takes_tree other = false

-- a call that may change something, and COMMIT, holds its objects alone
abbrev pub holds_alone : Call → Bool
holds_alone c = is_changing c || is_commit c

abbrev pub hold : Call → Bool → ℕ → Hold
hold c dir f = record { key = record { fileid = f; dir = dir }; alone = holds_alone c }

-- each once
abbrev pub with_hold : Hold → List Hold → List Hold
with_hold h hs = if list_any (λ (g : Hold). g.key.fileid == h.key.fileid) hs then hs else h ∷ hs

abbrev pub holds : Call → Bool → List Handle → List Hold
holds c dir [] = []
holds c dir (h ∷ hs) = with_hold (hold c dir h.fileid) (holds c dir hs)

-- the directories of a call's handles, and its other objects
abbrev pub directories : Call → List Hold
directories c = holds c true (filter (λ (h : Handle). is_dir h.kind) (handles c))

abbrev pub objects : Call → List Hold
objects c = holds c false (filter (λ (h : Handle). not (is_dir h.kind)) (handles c))
