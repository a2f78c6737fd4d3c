-- The procedures that change nothing: the first case that applies is the answer.
use Rattle.std.specs.Prelude.{ℕ, ◌+◌, ◌-◌, ◌%◌, ◌^◌, ◌==◌, List, [], ◌∷◌, ◌++◌, Option, Some, None, Bool, true, false, not, nat_lt, nat_le, bit_and, min, Ok, map, if◌then◌else◌, length, codes}
use Rattle.sl_types.specs.declared.kind.Kind.TheVariants as kind
use Rattle.sl_types.specs.declared.kind.Status.TheVariants.{Inval, BadCookie, TooSmall}
use Rattle.sl_types.specs.declared.attributes.Fattr.{Fattr}
use Rattle.sl_types.specs.declared.cred.Cred.{Cred}
use Rattle.sl_types.specs.declared.handle.Handle.{Handle}
use Rattle.sl_types.specs.declared.entries.Entry as names
use Rattle.sl_types.specs.declared.entries.EntryPlus as plus
use Rattle.sl_types.specs.declared.reply.Wcc.{Wcc}
use Rattle.sl_types.specs.declared.reply.Reply.{Reply}
use Rattle.sl_types.specs.declared.reply.Reply.TheVariants as reply
use Rattle.sl_types.specs.Handles.{handle_text}
use Rattle.sl_model.specs.declared.node.Node.{Node}
use Rattle.sl_model.specs.declared.node.Listed.{Listed}
use Rattle.sl_model.specs.Plan.{Plan, Done, ◌>>=◌}
use Rattle.sl_model.specs.Volume.{Change, PutNode, is_reg, is_lnk}
use Rattle.sl_model.specs.Checks.{refuse, checked, object, directory, see, entry, names_behind, text_of, bytes_of, verifier, want, place, is_dot, is_dot_dot}

-- what a call answers, and what changes
pub record Outcome : Type 0 where
  pub changes : List Change
  pub answer : Reply

abbrev pub answering : Reply → Outcome
answering r = record { changes = []; answer = r }

abbrev pub unchanged : Reply → Plan Outcome
unchanged r = Done (answering r)

-- ---- words

-- the attributes of an object (RFC 1813, section 2.5, `fattr3`); that `used` is the size is this server's choice
abbrev pub attributes : Node → Fattr
attributes n = record {
  kind = n.kind;
  mode = n.mode;
  nlink = n.nlink;
  uid = n.uid;
  gid = n.gid;
  size = n.size;
  used = n.size;
  major = n.major;
  minor = n.minor;
  fsid = n.fsid;
  fileid = n.fileid;
  atime = n.atime;
  mtime = n.mtime;
  ctime = n.ctime;
}

-- the handle of a node
abbrev pub handle_to : Node → Handle
handle_to n = record { volume = n.fsid; fileid = n.fileid; kind = n.kind }

-- and of a directory, by its fileid
abbrev pub directory_handle : ℕ → ℕ → Handle
directory_handle volume f = record { volume = volume; fileid = f; kind = kind.Dir }

-- no attributes
abbrev pub no_wcc : Wcc
no_wcc = record { after = None }

abbrev pub wcc_of : Node → Wcc
wcc_of n = record { after = Some (attributes n) }

-- ---- GETATTR (RFC 1813, section 3.3.1)

abbrev pub getattr : Cred → Handle → Plan Outcome
getattr cred h = do
  _ ← object cred h
  n ← see h.fileid
  unchanged (reply.Getattr (Ok (attributes n)))

-- ---- LOOKUP (section 3.3.3)

abbrev pub found : Handle → Option Fattr → Reply
found object attributes = reply.Lookup (Ok (record { object = handle_text object; attributes = attributes; dir_attributes = None }))

-- `..` is the parent, and the root's is the root; this server gives no attributes with it
abbrev pub lookup_name : Handle → List ℕ → Plan Outcome
lookup_name h name = do
  e ← entry h.fileid name
  n ← see e.fileid
  unchanged (found (handle_to n) (Some (attributes n)))

unfoldable pub lookup_in : Handle → Node → List ℕ → Plan Outcome
lookup_in h d name =
    if is_dot name then unchanged (found (handle_to d) (Some (attributes d)))
    else if is_dot_dot name then unchanged (found (directory_handle d.fsid d.parent) None)
    else lookup_name h name

abbrev pub lookup : Cred → Handle → List ℕ → Plan Outcome
lookup cred h name = do
  _ ← checked name
  _ ← want (place h name)
  d ← directory cred h
  lookup_in h d name

-- ---- ACCESS (section 3.3.4): the asked ones of the six rights are granted

abbrev pub access : Cred → Handle → ℕ → Plan Outcome
access cred h bits = do
  _ ← object cred h
  n ← see h.fileid
  unchanged (reply.Access (Ok (record { attributes = Some (attributes n); bits = bit_and bits 63 })))

-- ---- READLINK (section 3.3.5)

abbrev pub readlink : Cred → Handle → Plan Outcome
readlink cred h = do
  n ← object cred h
  _ ← refuse (not (is_lnk h.kind)) Inval
  text ← text_of h.fileid
  unchanged (reply.Readlink (Ok (record { attributes = Some (attributes n); path = text })))

-- ---- READ (section 3.3.6)

-- bytes up to the end of the unit of 8192 bytes that the offset lies in: no call reads or writes past it
abbrev pub up_to_unit : ℕ → ℕ
up_to_unit offset = 8192 - offset % 8192

-- how many bytes are read
abbrev pub readable : Node → ℕ → ℕ → ℕ
readable n offset count = min count (min (up_to_unit offset) (n.size - offset))

abbrev pub reading : Node → ℕ → ℕ → List ℕ → Outcome
reading n offset count found = answering (reply.Read (Ok (record {
  attributes = Some (attributes n);
  count = readable n offset count;
  eof = nat_le n.size (offset + readable n offset count);
  bytes = found;
})))

abbrev pub read : Cred → Handle → ℕ → ℕ → Plan Outcome
read cred h offset count = do
  _ ← object cred h
  _ ← refuse (not (is_reg h.kind)) Inval
  n ← see h.fileid
  found ← bytes_of h.fileid offset (readable n offset count)
  Done (reading n offset count found)

-- ---- READDIR and READDIRPLUS (sections 3.3.16 and 3.3.17)

-- `.` and `..`, which have the cookies 1 and 2
abbrev pub dots : Node → List Listed
dots d = record { name = codes "."; fileid = d.fileid; kind = kind.Dir; cookie = 1 } ∷ record { name = codes ".."; fileid = d.parent; kind = kind.Dir; cookie = 2 } ∷ []

-- those behind a cookie
abbrev pub behind : ℕ → List Listed → List Listed
behind cookie [] = []
behind cookie (x ∷ xs) = if nat_lt cookie x.cookie then x ∷ behind cookie xs else behind cookie xs

-- the bytes of a line in the reply: a fixed part, and the name with its padding
abbrev pub line_size : ℕ → Listed → ℕ
line_size fixed x = fixed + (length x.name + (4 - length x.name % 4) % 4)

-- the longest front whose lines fit in so many bytes
abbrev pub fitting : ℕ → ℕ → List Listed → List Listed
fitting fixed room [] = []
fitting fixed room (x ∷ xs) = if nat_lt room (line_size fixed x) then [] else x ∷ fitting fixed (room - line_size fixed x) xs

-- no line fits, though there is one
abbrev pub is_too_small : ℕ → List Listed → List Listed → Bool
is_too_small limit [] (y ∷ ys) = true
is_too_small limit xs ys = nat_lt limit 20

abbrev pub same_length : List Listed → List Listed → Bool
same_length xs ys = length xs == length ys

abbrev pub name_line : Listed → names.Entry
name_line x = record { fileid = x.fileid; name = x.name; cookie = x.cookie }

abbrev pub plus_line : ℕ → Listed → plus.EntryPlus
plus_line volume x = record {
  fileid = x.fileid;
  name = x.name;
  cookie = x.cookie;
  attributes = None;
  handle = Some (handle_text (record { volume = volume; fileid = x.fileid; kind = x.kind }));
}

-- a reply has at most 8192 bytes of lines, and 20 around them
abbrev pub limit_of : ℕ → ℕ
limit_of count = min 8192 count

-- A listing: its directory, the lines that fit, and whether they are the last. Lines go by rising cookie.
pub record Listing : Type 0 where
  pub directory : Node
  pub lines : List Listed
  pub eof : Bool

abbrev pub listing : Cred → Handle → ℕ → ℕ → ℕ → ℕ → Plan Listing
listing cred h cookie verifier fixed count = do
  d ← directory cred h
  _ ← refuse (not (verifier == 0)) BadCookie
  names ← names_behind h.fileid cookie
  _ ← refuse (is_too_small (limit_of count) (fitting fixed (limit_of count - 20) (behind cookie (dots d) ++ names)) (behind cookie (dots d) ++ names)) TooSmall
  Done (record {
    directory = d;
    lines = fitting fixed (limit_of count - 20) (behind cookie (dots d) ++ names);
    eof = same_length (fitting fixed (limit_of count - 20) (behind cookie (dots d) ++ names)) (behind cookie (dots d) ++ names);
  })

abbrev pub readdir : Cred → Handle → ℕ → ℕ → ℕ → Plan Outcome
readdir cred h cookie verifier count = do
  l ← listing cred h cookie verifier 24 count
  unchanged (reply.Readdir (Ok (record { attributes = None; cookie_verifier = 0; entries = map name_line l.lines; eof = l.eof })))

-- `dircount` isn't looked at, and `maxcount` is the limit; this server gives no attributes with the names
abbrev pub readdirplus : Cred → Handle → ℕ → ℕ → ℕ → Plan Outcome
readdirplus cred h cookie verifier maxcount = do
  l ← listing cred h cookie verifier 68 maxcount
  unchanged (reply.Readdirplus (Ok (record { attributes = None; cookie_verifier = 0; entries = map (plus_line l.directory.fsid) l.lines; eof = l.eof })))

-- ---- FSSTAT, FSINFO and PATHCONF (sections 3.3.18 to 3.3.20)

abbrev pub told : Cred → Handle → Reply → Plan Outcome
told cred h r = do
  _ ← object cred h
  unchanged r

-- there is always room: 2^50 bytes and 2^40 files
abbrev pub fsstat : Cred → Handle → Plan Outcome
fsstat cred h = told cred h (reply.Fsstat (Ok (record {
  attributes = None;
  total_bytes = 2 ^ 50;
  free_bytes = 2 ^ 50;
  available_bytes = 2 ^ 50;
  total_files = 2 ^ 40;
  free_files = 2 ^ 40;
  available_files = 2 ^ 40;
  invariant_seconds = 0;
})))

-- times are to the nanosecond; the properties are links, symbolic links, one PATHCONF for all, and times that can be set
abbrev pub fsinfo : Cred → Handle → Plan Outcome
fsinfo cred h = told cred h (reply.Fsinfo (Ok (record {
  attributes = None;
  read_max = 8192;
  read_preferred = 8192;
  read_multiple = 512;
  write_max = 8192;
  write_preferred = 8192;
  write_multiple = 512;
  readdir_preferred = 8192;
  max_file_size = 2 ^ 40;
  time_delta = record { sec = 0; nsec = 1 };
  properties = 27;
})))

abbrev pub pathconf : Cred → Handle → Plan Outcome
pathconf cred h = told cred h (reply.Pathconf (Ok (record {
  attributes = None;
  link_max = 65000;
  name_max = 255;
  no_trunc = true;
  chown_restricted = true;
  case_insensitive = false;
  case_preserving = true;
})))

-- ---- COMMIT (section 3.3.21): the whole file, which becomes its view; then it has no unstable write

abbrev pub committing : Node → ℕ → Outcome
committing n verifier = record { changes = PutNode n.fileid n ∷ []; answer = reply.Commit (Ok (record { wcc = wcc_of n; verifier = verifier })) }

abbrev pub commit : Cred → Handle → Plan Outcome
commit cred h = do
  _ ← object cred h
  _ ← refuse (not (is_reg h.kind)) Inval
  n ← see h.fileid
  v ← verifier
  Done (committing n v)
