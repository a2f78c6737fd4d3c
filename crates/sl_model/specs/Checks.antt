-- The checks that procedures share.
use Rattle.std.specs.Prelude.{ℕ, ◌==◌, List, [], ◌∷◌, Option, Some, None, Bool, true, false, not, ◌||◌, ◌&&◌, nat_lt, nat_eq, codes, if◌then◌else◌, length}
use Rattle.std.specs.List.{list_any}
use Rattle.std.specs.Cmp.Lexicographic.{pointwise}
use Rattle.sl_types.specs.declared.kind.Kind.{Kind}
use Rattle.sl_types.specs.declared.kind.Status.{Status}
use Rattle.sl_types.specs.declared.kind.Status.TheVariants.{NoEnt, Acces, NotDir, NameTooLong, Stale, BadHandle}
use Rattle.sl_types.specs.declared.attributes.SetTime.{SetTime}
use Rattle.sl_types.specs.declared.attributes.SetTime.TheVariants as set
use Rattle.sl_types.specs.declared.attributes.Sattr.{Sattr}
use Rattle.sl_types.specs.declared.cred.Cred.{Cred}
use Rattle.sl_types.specs.declared.handle.Handle.{Handle}
use Rattle.sl_types.specs.Handles.{handle_of}
use Rattle.sl_types.specs.Numbers.{kind_number}
use Rattle.sl_model.specs.declared.node.Node.{Node}
use Rattle.sl_model.specs.declared.node.Entry.{Entry}
use Rattle.sl_model.specs.declared.node.Listed.{Listed}
use Rattle.sl_model.specs.Plan.{Plan, Done, Stop, Look, See, Find, Climb, Names, Text, Bytes, Verifier, Want, Key, NodeKey, NameKey, ◌>>=◌}
use Rattle.sl_model.specs.Volume.{is_dir}

-- where the test is true the call ends with this status
abbrev pub refuse : Bool → Status → Plan (Unit {0})
refuse b s = if b then Stop s else Done tt

-- ---- 1. handles (RFC 1813, section 2.6, NFS3ERR_BADHANDLE)

abbrev pub handle_or : Option Handle → Plan Handle
handle_or None = Stop BadHandle
handle_or (Some h) = Done h

-- what a handle's bytes say; other bytes than those of this server's form are refused
abbrev pub handle : List ℕ → Plan Handle
handle bytes = handle_or (handle_of bytes)

-- ---- 2. names, paths and times

-- the name is `.`, or `..`
abbrev pub is_dot : List ℕ → Bool
is_dot name = pointwise nat_eq name (codes ".")

abbrev pub is_dot_dot : List ℕ → Bool
is_dot_dot name = pointwise nat_eq name (codes "..")

abbrev pub is_dots : List ℕ → Bool
is_dots name = is_dot name || is_dot_dot name

-- no name: it is empty, or has a `/` or a zero byte
abbrev pub is_bad : List ℕ → Bool
is_bad name = length name == 0 || list_any (λ b. b == 47 || b == 0) name

-- a name (NFS3ERR_NAMETOOLONG; that a bad one is NFS3ERR_ACCES is this server's choice)
unfoldable pub checked : List ℕ → Plan (Unit {0})
checked name = do
  _ ← refuse (nat_lt 255 (length name)) NameTooLong
  refuse (is_bad name) Acces

unfoldable pub checked_both : List ℕ → List ℕ → Plan (Unit {0})
checked_both a b = do
  _ ← refuse (nat_lt 255 (length a) || nat_lt 255 (length b)) NameTooLong
  refuse (is_bad a || is_bad b) Acces

-- a client's time with nanoseconds past the second (RFC 1813, section 2.5, `nfstime3`)
abbrev pub is_bad_time : SetTime → Bool
is_bad_time (set.Client t) = nat_lt 999999999 t.nsec
is_bad_time _ = false

abbrev pub has_bad_time : Sattr → Bool
has_bad_time s = is_bad_time s.atime || is_bad_time s.mtime

-- ---- 3. and 4. objects

abbrev pub same_kind : Kind → Kind → Bool
same_kind a b = kind_number a == kind_number b

-- the node is the object of the handle: of its volume and of its kind
abbrev pub is_of : Handle → Node → Bool
is_of h n = n.fsid == h.volume && same_kind n.kind h.kind

abbrev pub object_or : Handle → Option Node → Plan Node
object_or h None = Stop Stale
object_or h (Some n) = if is_of h n then Done n else Stop Stale

-- the live object of a handle (NFS3ERR_STALE)
abbrev pub live : Handle → Plan Node
live h = Look h.fileid (object_or h)

-- a handle where a directory's is expected (NFS3ERR_NOTDIR)
abbrev pub in_directory : Handle → Plan (Unit {0})
in_directory h = refuse (not (is_dir h.kind)) NotDir

-- ---- 5. permission

-- Whether the caller may do what it asks for: every caller may. This server leaves permission to its clients.
abbrev pub is_granted : Cred → Node → Bool
is_granted cred n = true

abbrev pub granted : Cred → Node → Plan (Unit {0})
granted cred n = refuse (not (is_granted cred n)) Acces

-- ---- the checks of one handle

-- of any object
abbrev pub object : Cred → Handle → Plan Node
object cred h = do
  n ← live h
  _ ← granted cred n
  Done n

-- of a directory
abbrev pub directory : Cred → Handle → Plan Node
directory cred h = do
  d ← live h
  _ ← in_directory h
  _ ← granted cred d
  Done d

-- ---- looking up

abbrev pub node_or : Option Node → Plan Node
node_or None = Stop Stale
node_or (Some n) = Done n

abbrev pub see : ℕ → Plan Node
see f = See f node_or

abbrev pub entry_or : Option Entry → Plan Entry
entry_or None = Stop NoEnt
entry_or (Some e) = Done e

-- a name that has to be there (NFS3ERR_NOENT)
abbrev pub entry : ℕ → List ℕ → Plan Entry
entry d name = Find d name entry_or

abbrev pub find : ℕ → List ℕ → Plan (Option Entry)
find d name = Find d name Done

abbrev pub below : ℕ → ℕ → Plan Bool
below a d = Climb a d Done

abbrev pub names_behind : ℕ → ℕ → Plan (List Listed)
names_behind d cookie = Names d cookie Done

abbrev pub text_of : ℕ → Plan (List ℕ)
text_of f = Text f Done

abbrev pub bytes_of : ℕ → ℕ → ℕ → Plan (List ℕ)
bytes_of f at count = Bytes f at count Done

abbrev pub verifier : Plan ℕ
verifier = Verifier Done

-- ---- keys that are asked for together

abbrev pub want : List Key → Plan (Unit {0})
want ks = Want ks (Done tt)

-- a name, and then its directory
abbrev pub place : Handle → List ℕ → List Key
place h name = NameKey h.fileid name ∷ NodeKey h.fileid ∷ []
