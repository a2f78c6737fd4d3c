-- The procedures that change something: the first case that applies is the answer.
use Rattle.std.specs.Prelude.{ℕ, ◌+◌, ◌-◌, ◌%◌, ◌^◌, ◌==◌, List, [], ◌∷◌, ◌++◌, Option, Some, None, Bool, true, false, not, ◌||◌, ◌&&◌, nat_lt, nat_le, min, take, Ok, is_some, if◌then◌else◌, length}
use Rattle.std.specs.Bool.{beq}
use Rattle.std.specs.Option.{unwrap_or}
use Rattle.sl_defs.specs.declared.setup.Time.{Time}
use Rattle.sl_defs.specs.declared.note.Choice.{Choice}
use Rattle.sl_types.specs.declared.kind.Kind.{Kind}
use Rattle.sl_types.specs.declared.kind.Kind.TheVariants as kind
use Rattle.sl_types.specs.declared.kind.Status.TheVariants.{Exist, IsDir, Inval, FBig, NoSpc, MLink, NotDir, NotEmpty, NotSync, NameTooLong, BadType}
use Rattle.sl_types.specs.declared.attributes.SetTime.{SetTime}
use Rattle.sl_types.specs.declared.attributes.SetTime.TheVariants as set
use Rattle.sl_types.specs.declared.attributes.Sattr.{Sattr}
use Rattle.sl_types.specs.declared.call.Stable.{Stable}
use Rattle.sl_types.specs.declared.call.Stable.TheVariants as stable
use Rattle.sl_types.specs.declared.call.CreateHow.{CreateHow}
use Rattle.sl_types.specs.declared.call.CreateHow.TheVariants as how
use Rattle.sl_types.specs.declared.call.NodeData.{NodeData}
use Rattle.sl_types.specs.declared.call.NodeData.TheVariants as what
use Rattle.sl_types.specs.declared.cred.Cred.{Cred}
use Rattle.sl_types.specs.declared.handle.Handle.{Handle}
use Rattle.sl_types.specs.declared.reply.MakeOk.{MakeOk}
use Rattle.sl_types.specs.declared.reply.Reply.{Reply}
use Rattle.sl_types.specs.declared.reply.Reply.TheVariants as reply
use Rattle.sl_types.specs.declared.kind.Status.TheVariants as ended
use Rattle.sl_types.specs.Handles.{handle_text}
use Rattle.sl_model.specs.declared.node.Node.{Node}
use Rattle.sl_model.specs.declared.node.Entry.{Entry}
use Rattle.sl_model.specs.Plan.{Plan, Done, Stop, NodeKey, ◌>>=◌}
use Rattle.sl_model.specs.Volume.{Change, PutNode, TakeNode, PutName, TakeName, PutText, PutBytes, AddWrite, written_to, is_dir, is_reg}
use Rattle.sl_model.specs.Checks.{refuse, checked, checked_both, has_bad_time, live, in_directory, granted, object, directory, see, entry, find, below, verifier, want, place, is_dots, is_dot, is_dot_dot}
use Rattle.sl_model.specs.Looking.{Outcome, unchanged, attributes, handle_to, no_wcc, wcc_of, up_to_unit}

-- the largest size of a file, and the greatest number of links to an object
abbrev pub max_size : ℕ
max_size = 2 ^ 40

abbrev pub max_links : ℕ
max_links = 65000

-- ---- setting attributes

-- a size that is given, and is above the largest
abbrev pub is_too_big : Option ℕ → Bool
is_too_big None = false
is_too_big (Some size) = nat_lt max_size size

-- a mode has twelve bits (RFC 1813, section 2.5, `fattr3`, mode); this server leaves away all others
abbrev pub mode_or : Option ℕ → ℕ → ℕ
mode_or None mode = mode
mode_or (Some m) mode = m % 4096

-- what a time is set to: the old one, now, or the client's
abbrev pub set_time : SetTime → Time → Time → Time
set_time set.Keep old now = old
set_time set.Server old now = now
set_time (set.Client t) old now = t

abbrev pub same_time : Time → Time → Bool
same_time a b = a.sec == b.sec && a.nsec == b.nsec

-- where a size is given the data changes, and mtime with it
abbrev pub mtime_or : Option ℕ → Time → Time → Time
mtime_or None old now = old
mtime_or (Some size) old now = now

-- a node after SETATTR: what is given is set, and ctime is now
abbrev pub set_attributes : Node → Sattr → Time → Node
set_attributes n s now = record n {
  mode = mode_or s.mode n.mode;
  uid = unwrap_or s.uid n.uid;
  gid = unwrap_or s.gid n.gid;
  size = unwrap_or s.size n.size;
  atime = set_time s.atime n.atime now;
  mtime = set_time s.mtime (mtime_or s.size n.mtime now) now;
  ctime = now;
}

-- the same attributes, but for those that no call sets
abbrev pub same_attributes : Node → Node → Bool
same_attributes a b =
    a.mode == b.mode && (a.uid == b.uid && (a.gid == b.gid && (a.size == b.size && (a.parent == b.parent &&
    (same_time a.atime b.atime && (same_time a.mtime b.mtime && same_time a.ctime b.ctime))))))

-- A node with other attributes is put. Where they stay as they are, unstable writes stay unstable too.
abbrev pub putting : Node → Node → List Change
putting before after = if same_attributes before after then [] else PutNode after.fileid after ∷ []

-- ---- SETATTR (RFC 1813, section 3.3.2)

-- the guard is the object's ctime (NFS3ERR_NOT_SYNC)
abbrev pub guarded_by : ℕ → Time → Plan (Unit {0})
guarded_by f t = do
  n ← see f
  refuse (not (same_time n.ctime t)) NotSync

unfoldable pub guarded : ℕ → Option Time → Plan (Unit {0})
guarded f None = Done tt
guarded f (Some t) = guarded_by f t

abbrev pub setting : Node → Sattr → Time → Outcome
setting n s now = record {
  changes = putting n (set_attributes n s now);
  answer = reply.Setattr ended.Ok (wcc_of (set_attributes n s now));
}

-- bytes past a size go, and bytes up to it are zero
abbrev pub setattr : Cred → Handle → Sattr → Option Time → Time → Plan Outcome
setattr cred h s guard now = do
  _ ← refuse (has_bad_time s) Inval
  _ ← object cred h
  _ ← guarded h.fileid guard
  _ ← refuse (is_some s.size && not (is_reg h.kind)) Inval
  _ ← refuse (is_too_big s.size) FBig
  n ← see h.fileid
  Done (setting n s now)

-- ---- WRITE (section 3.3.7)

abbrev pub is_unstable : Stable → Bool
is_unstable stable.Unstable = true
is_unstable _ = false

-- how many bytes are written
abbrev pub writable : ℕ → ℕ → ℕ
writable offset count = min count (up_to_unit offset)

abbrev pub wrote : Node → ℕ → Stable → ℕ → Reply
wrote n count committed verifier = reply.Write (Ok (record { wcc = wcc_of n; count = count; committed = committed; verifier = verifier }))

-- the node with those bytes
abbrev pub with_bytes : Node → ℕ → List ℕ → Time → Node
with_bytes n offset bytes now = written_to (offset + length bytes) now n

-- a write that isn't stable yet, and one that is
abbrev pub unstable_write : Node → ℕ → List ℕ → ℕ → Time → Outcome
unstable_write n offset bytes verifier now = record {
  changes = AddWrite (record { fileid = n.fileid; offset = offset; bytes = bytes; moment = now }) ∷ [];
  answer = wrote (with_bytes n offset bytes now) (length bytes) stable.Unstable verifier;
}

abbrev pub stable_write : Node → ℕ → List ℕ → ℕ → Time → Outcome
stable_write n offset bytes verifier now = record {
  changes = PutNode n.fileid (with_bytes n offset bytes now) ∷ PutBytes n.fileid offset bytes ∷ [];
  answer = wrote (with_bytes n offset bytes now) (length bytes) stable.FileSync verifier;
}

-- a write stays unstable only where the caller lets it, and the server chooses so
abbrev pub writing : Node → ℕ → List ℕ → Stable → ℕ → Time → Bool → Outcome
writing n offset bytes asked verifier now kept =
    if is_unstable asked && not kept then unstable_write n offset bytes verifier now else stable_write n offset bytes verifier now

-- count 0 is answered OK, and changes nothing
abbrev pub write_at : Handle → ℕ → ℕ → Stable → List ℕ → Time → Choice → Plan Outcome
write_at h offset count asked bytes now choice = do
  _ ← refuse (nat_le max_size offset) FBig
  n ← see h.fileid
  v ← verifier
  Done (writing n offset (take (writable offset count) bytes) asked v now choice.kept)

abbrev pub write_none : Handle → Stable → Plan Outcome
write_none h asked = do
  n ← see h.fileid
  v ← verifier
  unchanged (wrote n 0 asked v)

unfoldable pub write_in : Handle → ℕ → ℕ → Stable → List ℕ → Time → Choice → Plan Outcome
write_in h offset count asked bytes now choice = if count == 0 then write_none h asked else write_at h offset count asked bytes now choice

abbrev pub write : Cred → Handle → ℕ → ℕ → Stable → List ℕ → Time → Choice → Plan Outcome
write cred h offset count asked bytes now choice = do
  _ ← object cred h
  _ ← refuse (not (is_reg h.kind) || nat_lt (length bytes) count) Inval
  write_in h offset count asked bytes now choice

-- ---- a directory's names

abbrev pub one_if : Bool → ℕ
one_if b = if b then 1 else 0

-- a directory with one name more, of an object of that kind: a subdirectory's `..` is a link to it
abbrev pub with_name : Node → Kind → Time → Node
with_name d k now = record d {
  nlink = d.nlink + one_if (is_dir k);
  size = d.size + 32;
  entries = d.entries + 1;
  made = d.made + 1;
  mtime = now;
  ctime = now;
}

-- and with one name less
abbrev pub without_name : Node → Kind → Time → Node
without_name d k now = record d {
  nlink = d.nlink - one_if (is_dir k);
  size = d.size - 32;
  entries = d.entries - 1;
  mtime = now;
  ctime = now;
}

-- the next name's cookie: 3, 4, and so on, and none is given again
abbrev pub cookie_in : Node → ℕ
cookie_in d = d.made + 3

abbrev pub entry_to : Node → ℕ → Entry
entry_to n cookie = record { fileid = n.fileid; kind = n.kind; cookie = cookie }

-- ---- making (sections 3.3.8 to 3.3.11)

-- a new object: what is given, else the defaults, the caller's uid and gid, and now
abbrev pub new_node : Kind → ℕ → Sattr → Cred → Node → Time → ℕ → Node
new_node k mode s cred d now f = record {
  kind = k;
  mode = mode_or s.mode mode;
  nlink = 1 + one_if (is_dir k);
  uid = unwrap_or s.uid cred.uid;
  gid = unwrap_or s.gid cred.gid;
  size = 0;
  major = 0;
  minor = 0;
  fsid = d.fsid;
  fileid = f;
  atime = set_time s.atime now now;
  mtime = set_time s.mtime now now;
  ctime = now;
  parent = if is_dir k then d.fileid else 0;
  entries = 0;
  made = 0;
  verifier = None;
}

-- the results of a making
abbrev pub made : Node → MakeOk
made n = record { object = Some (handle_text (handle_to n)); attributes = Some (attributes n); wcc = no_wcc }

-- the object under a name of a directory
abbrev pub making : Node → List ℕ → Node → Time → List Change
making d name n now = PutNode d.fileid (with_name d n.kind now) ∷ PutName d.fileid name (entry_to n (cookie_in d)) ∷ PutNode n.fileid n ∷ []

-- nothing is there yet (NFS3ERR_EXIST; `.` and `..` are always there)
unfoldable pub absent : Handle → List ℕ → Plan (Unit {0})
absent h name = do
  _ ← refuse (is_dots name) Exist
  o ← find h.fileid name
  refuse (is_some o) Exist

-- a fileid is left for the object (NFS3ERR_NOSPC)
abbrev pub has_fileid : Choice → Plan (Unit {0})
has_fileid choice = refuse (choice.fileid == 0) NoSpc

-- ---- CREATE (section 3.3.8)

abbrev pub nothing_given : Sattr
nothing_given = record { mode = None; uid = None; gid = None; size = None; atime = set.Keep; mtime = set.Keep }

-- EXCLUSIVE gives no attributes
abbrev pub given : CreateHow → Sattr
given (how.Unchecked s) = s
given (how.Guarded s) = s
given (how.Exclusive v) = nothing_given

abbrev pub verifier_of : CreateHow → Option ℕ
verifier_of (how.Exclusive v) = Some v
verifier_of _ = None

abbrev pub is_guarded : CreateHow → Bool
is_guarded (how.Guarded s) = true
is_guarded _ = false

abbrev pub same_verifier : ℕ → Option ℕ → Bool
same_verifier v None = false
same_verifier v (Some w) = v == w

abbrev pub same_create : CreateHow → Node → Bool
same_create (how.Exclusive v) n = same_verifier v n.verifier
same_create _ n = true

-- a regular file, with a size of zeros where one is given
abbrev pub new_file : CreateHow → Cred → Node → Time → ℕ → Node
new_file h cred d now f = record (new_node kind.Reg 420 (given h) cred d now f) { size = unwrap_or (given h).size 0; verifier = verifier_of h }

-- the size alone, set as by SETATTR
abbrev pub size_alone : Option ℕ → Sattr
size_alone size = record { mode = None; uid = None; gid = None; size = size; atime = set.Keep; mtime = set.Keep }

abbrev pub resized : Node → Option ℕ → Time → Node
resized n None now = n
resized n (Some size) now = set_attributes n (size_alone (Some size)) now

-- a file that is there already
abbrev pub recreating : Node → CreateHow → Time → Outcome
recreating n h now = record {
  changes = putting n (resized n (given h).size now);
  answer = reply.Create (Ok (made (resized n (given h).size now)));
}

abbrev pub creating : Node → List ℕ → CreateHow → Cred → Time → ℕ → Outcome
creating d name h cred now f = record {
  changes = making d name (new_file h cred d now f) now;
  answer = reply.Create (Ok (made (new_file h cred d now f)));
}

-- the name is there: GUARDED fails, EXCLUSIVE succeeds for the create that made it, UNCHECKED sets the size alone
abbrev pub create_present : Entry → CreateHow → Time → Plan Outcome
create_present e h now = do
  _ ← refuse (is_guarded h || not (is_reg e.kind)) Exist
  n ← see e.fileid
  _ ← refuse (not (same_create h n)) Exist
  Done (recreating n h now)

abbrev pub create_absent : Node → List ℕ → CreateHow → Cred → Time → Choice → Plan Outcome
create_absent d name h cred now choice = do
  _ ← has_fileid choice
  Done (creating d name h cred now choice.fileid)

unfoldable pub create_at : Node → List ℕ → CreateHow → Cred → Time → Choice → Option Entry → Plan Outcome
create_at d name h cred now choice None = create_absent d name h cred now choice
create_at d name h cred now choice (Some e) = create_present e h now

abbrev pub create : Cred → Handle → List ℕ → CreateHow → Time → Choice → Plan Outcome
create cred to name h now choice = do
  _ ← checked name
  _ ← refuse (has_bad_time (given h)) Inval
  _ ← want (place to name)
  d ← directory cred to
  _ ← refuse (is_too_big (given h).size) FBig
  _ ← refuse (is_dots name) Exist
  o ← find to.fileid name
  create_at d name h cred now choice o

-- ---- MKDIR (section 3.3.9)

abbrev pub making_directory : Node → List ℕ → Sattr → Cred → Time → ℕ → Outcome
making_directory d name s cred now f = record {
  changes = making d name (new_node kind.Dir 493 s cred d now f) now;
  answer = reply.Mkdir (Ok (made (new_node kind.Dir 493 s cred d now f)));
}

-- a given size is ignored
abbrev pub mkdir : Cred → Handle → List ℕ → Sattr → Time → Choice → Plan Outcome
mkdir cred to name s now choice = do
  _ ← checked name
  _ ← refuse (has_bad_time s) Inval
  _ ← want (place to name)
  d ← directory cred to
  _ ← absent to name
  _ ← refuse (nat_le max_links d.nlink) MLink
  _ ← has_fileid choice
  Done (making_directory d name s cred now choice.fileid)

-- ---- SYMLINK (section 3.3.10)

abbrev pub new_link : Sattr → Cred → Node → List ℕ → Time → ℕ → Node
new_link s cred d path now f = record (new_node kind.Lnk 511 s cred d now f) { size = length path }

abbrev pub making_link : Node → List ℕ → Sattr → Cred → List ℕ → Time → ℕ → Outcome
making_link d name s cred path now f = record {
  changes = making d name (new_link s cred d path now f) now ++ PutText f path ∷ [];
  answer = reply.Symlink (Ok (made (new_link s cred d path now f)));
}

-- a path of more than 1024 bytes is too long; a given size is ignored
abbrev pub symlink : Cred → Handle → List ℕ → Sattr → List ℕ → Time → Choice → Plan Outcome
symlink cred to name s path now choice = do
  _ ← checked name
  _ ← refuse (nat_lt 1024 (length path)) NameTooLong
  _ ← refuse (has_bad_time s) Inval
  _ ← want (place to name)
  d ← directory cred to
  _ ← absent to name
  _ ← has_fileid choice
  Done (making_link d name s cred path now choice.fileid)

-- ---- MKNOD (section 3.3.11)

-- a special object: its kind, its attributes, and a device's numbers
pub record Special : Type 0 where
  pub kind : Kind
  pub attributes : Sattr
  pub major : ℕ
  pub minor : ℕ

-- regular files, directories and links are made by other procedures
abbrev pub special_of : NodeData → Option Special
special_of (what.Blk v) = Some (record { kind = kind.Blk; attributes = v.attributes; major = v.major; minor = v.minor })
special_of (what.Chr v) = Some (record { kind = kind.Chr; attributes = v.attributes; major = v.major; minor = v.minor })
special_of (what.Sock s) = Some (record { kind = kind.Sock; attributes = s; major = 0; minor = 0 })
special_of (what.Fifo s) = Some (record { kind = kind.Fifo; attributes = s; major = 0; minor = 0 })
special_of what.Reg = None
special_of what.Dir = None
special_of what.Lnk = None

abbrev pub has_bad_special_time : Option Special → Bool
has_bad_special_time None = false
has_bad_special_time (Some s) = has_bad_time s.attributes

abbrev pub special_or : Option Special → Plan Special
special_or None = Stop BadType
special_or (Some s) = Done s

abbrev pub new_special : Special → Cred → Node → Time → ℕ → Node
new_special s cred d now f = record (new_node s.kind 420 s.attributes cred d now f) { major = s.major; minor = s.minor }

abbrev pub making_special : Node → List ℕ → Special → Cred → Time → ℕ → Outcome
making_special d name s cred now f = record {
  changes = making d name (new_special s cred d now f) now;
  answer = reply.Mknod (Ok (made (new_special s cred d now f)));
}

-- a given size is ignored
abbrev pub mknod : Cred → Handle → List ℕ → NodeData → Time → Choice → Plan Outcome
mknod cred to name w now choice = do
  _ ← checked name
  _ ← refuse (has_bad_special_time (special_of w)) Inval
  _ ← want (place to name)
  d ← directory cred to
  s ← special_or (special_of w)
  _ ← absent to name
  _ ← has_fileid choice
  Done (making_special d name s cred now choice.fileid)

-- ---- REMOVE and RMDIR (sections 3.3.12 and 3.3.13)

-- the object's last name: a directory has no other
abbrev pub is_last : Node → Bool
is_last n = is_dir n.kind || n.nlink == 1

abbrev pub with_fewer_links : Node → Time → Node
with_fewer_links n now = record n { nlink = n.nlink - 1; ctime = now }

-- one name less, and without a name the object goes
abbrev pub dropped : Node → Time → Change
dropped n now = if is_last n then TakeNode n.fileid else PutNode n.fileid (with_fewer_links n now)

abbrev pub unlinking : Node → List ℕ → Node → Time → List Change
unlinking d name n now = PutNode d.fileid (without_name d n.kind now) ∷ TakeName d.fileid name ∷ dropped n now ∷ []

abbrev pub removal : Node → List ℕ → Node → Time → Outcome
removal d name n now = record { changes = unlinking d name n now; answer = reply.Remove ended.Ok no_wcc }

abbrev pub remove : Cred → Handle → List ℕ → Time → Plan Outcome
remove cred h name now = do
  _ ← checked name
  _ ← want (place h name)
  d ← directory cred h
  _ ← refuse (is_dots name) Inval
  e ← entry h.fileid name
  _ ← refuse (is_dir e.kind) IsDir
  n ← see e.fileid
  Done (removal d name n now)

abbrev pub directory_removal : Node → List ℕ → Node → Time → Outcome
directory_removal d name n now = record { changes = unlinking d name n now; answer = reply.Rmdir ended.Ok no_wcc }

abbrev pub rmdir : Cred → Handle → List ℕ → Time → Plan Outcome
rmdir cred h name now = do
  _ ← checked name
  _ ← want (place h name)
  d ← directory cred h
  _ ← refuse (is_dot name) Inval
  _ ← refuse (is_dot_dot name) Exist
  e ← entry h.fileid name
  _ ← refuse (not (is_dir e.kind)) NotDir
  n ← see e.fileid
  _ ← refuse (not (n.entries == 0)) NotEmpty
  Done (directory_removal d name n now)

-- ---- RENAME (section 3.3.14)

-- the object at the new name, if there is one
unfoldable pub see_if : Option Entry → Plan (Option Node)
see_if None = Done None
see_if (Some e) = do
  n ← see e.fileid
  Done (Some n)

-- both names are of one object
abbrev pub is_one : Entry → Option Entry → Bool
is_one e None = false
is_one e (Some t) = e.fileid == t.fileid

-- a target that can't be replaced: a directory by what is none, or the other way round, or a directory with entries
abbrev pub is_bad_target : Node → Option Node → Bool
is_bad_target n None = false
is_bad_target n (Some t) = not (beq (is_dir n.kind) (is_dir t.kind)) || (is_dir t.kind && not (t.entries == 0))

-- a directory with as many links as there may be gets one more
abbrev pub is_full : Node → Node → Option Node → Bool
is_full n d None = is_dir n.kind && nat_le max_links d.nlink
is_full n d (Some t) = false

-- Whether the directory is the moved one or below it. Within one directory nothing can come below itself.
unfoldable pub climbs : Bool → ℕ → ℕ → Plan Bool
climbs true a d = below a d
climbs false a d = Done false

-- the directory without the name of a present target
abbrev pub freed : Node → Option Node → Time → Node
freed d None now = d
freed d (Some t) now = without_name d t.kind now

abbrev pub dropping : Option Node → Time → List Change
dropping None now = []
dropping (Some t) now = dropped t now ∷ []

abbrev pub moved : Node → ℕ → Time → Node
moved n d now = record n { ctime = now; parent = if is_dir n.kind then d else n.parent }

-- the directory to, where it may be the directory from
abbrev pub renaming : Node → List ℕ → Node → List ℕ → Node → Option Node → Time → Outcome
renaming from name to to_name n t now =
    let less = without_name from n.kind now in
    let into = freed (if from.fileid == to.fileid then less else to) t now in
    record {
      changes = PutNode from.fileid less ∷ PutNode to.fileid (with_name into n.kind now)
          ∷ TakeName from.fileid name ∷ PutName to.fileid to_name (entry_to n (cookie_in into))
          ∷ dropping t now ++ putting n (moved n to.fileid now);
      answer = reply.Rename ended.Ok no_wcc no_wcc;
    }

abbrev pub rename_to : Node → List ℕ → Node → List ℕ → Entry → Option Entry → Time → Plan Outcome
rename_to from name to to_name e o now = do
  is_below ← climbs (is_dir e.kind && not (from.fileid == to.fileid)) e.fileid to.fileid
  _ ← refuse is_below Inval
  n ← see e.fileid
  t ← see_if o
  _ ← refuse (is_bad_target n t) Exist
  _ ← refuse (not (from.fileid == to.fileid) && is_full n to t) MLink
  Done (renaming from name to to_name n t now)

-- both names are of one object already, or it is moved
unfoldable pub rename_in : Node → List ℕ → Node → List ℕ → Entry → Option Entry → Time → Plan Outcome
rename_in from name to to_name e o now = if is_one e o then unchanged (reply.Rename ended.Ok no_wcc no_wcc) else rename_to from name to to_name e o now

abbrev pub rename : Cred → Handle → List ℕ → Handle → List ℕ → Time → Plan Outcome
rename cred a name b to_name now = do
  _ ← checked_both name to_name
  _ ← want (place a name ++ place b to_name)
  f ← live a
  d ← live b
  _ ← in_directory a
  _ ← in_directory b
  _ ← granted cred f
  _ ← granted cred d
  _ ← refuse (is_dots name || is_dots to_name) Inval
  e ← entry a.fileid name
  o ← find b.fileid to_name
  rename_in f name d to_name e o now

-- ---- LINK (section 3.3.15)

abbrev pub with_more_links : Node → Time → Node
with_more_links n now = record n { nlink = n.nlink + 1; ctime = now }

abbrev pub linking : Node → List ℕ → Node → Time → Outcome
linking d name n now = record {
  changes = making d name (with_more_links n now) now;
  answer = reply.Link ended.Ok (Some (attributes (with_more_links n now))) no_wcc;
}

abbrev pub link : Cred → Handle → Handle → List ℕ → Time → Plan Outcome
link cred h to name now = do
  _ ← checked name
  _ ← want (NodeKey h.fileid ∷ place to name)
  o ← live h
  d ← live to
  _ ← in_directory to
  _ ← granted cred o
  _ ← granted cred d
  _ ← refuse (is_dir h.kind) Inval
  _ ← absent to name
  _ ← refuse (nat_le max_links o.nlink) MLink
  n ← see h.fileid
  Done (linking d name n now)
