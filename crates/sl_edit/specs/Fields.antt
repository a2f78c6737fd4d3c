-- The fields of calls and replies that are edited in place, and the same call or reply with another value there
-- (RFC 1813, section 3.3).
use Rattle.std.specs.Prelude.{ℕ, zero, suc, ◌==◌, List, ◌++◌, length, take, drop, Option, Some, None, Bool, Ok, if◌then◌else◌}
use Rattle.sl_types.specs.declared.attributes.Fattr.{Fattr}
use Rattle.sl_types.specs.declared.kind.Status.{Status}
use Rattle.sl_types.specs.declared.call.Call.{Call}
use Rattle.sl_types.specs.declared.call.Call.TheVariants as call
use Rattle.sl_types.specs.declared.reply.MakeOk.{MakeOk}
use Rattle.sl_types.specs.declared.reply.Reply.{Reply}
use Rattle.sl_types.specs.declared.reply.Reply.TheVariants as reply
use Rattle.sl_types.specs.Numbers.{is_ok_status}

-- ---- calls

-- the first handle of a call
abbrev pub first_handle : Call → Option (List ℕ)
first_handle call.Null = None
first_handle (call.Getattr object) = Some object
first_handle (call.Setattr object attributes guard) = Some object
first_handle (call.Lookup dir name) = Some dir
first_handle (call.Access object bits) = Some object
first_handle (call.Readlink link) = Some link
first_handle (call.Read file offset count) = Some file
first_handle (call.Write file offset count stability bytes) = Some file
first_handle (call.Create dir name how) = Some dir
first_handle (call.Mkdir dir name attributes) = Some dir
first_handle (call.Symlink dir name attributes path) = Some dir
first_handle (call.Mknod dir name what) = Some dir
first_handle (call.Remove dir name) = Some dir
first_handle (call.Rmdir dir name) = Some dir
first_handle (call.Rename from from_name to to_name) = Some from
first_handle (call.Link file dir name) = Some file
first_handle (call.Readdir dir cookie verifier count) = Some dir
first_handle (call.Readdirplus dir cookie verifier dircount maxcount) = Some dir
first_handle (call.Fsstat object) = Some object
first_handle (call.Fsinfo object) = Some object
first_handle (call.Pathconf object) = Some object
first_handle (call.Commit file offset count) = Some file

-- the second one, which only RENAME and LINK have
abbrev pub second_handle : Call → Option (List ℕ)
second_handle (call.Rename from from_name to to_name) = Some to
second_handle (call.Link file dir name) = Some dir
second_handle other = None

-- the handles of a call in the order of its arguments, from 0
abbrev pub handle_of : ℕ → Call → Option (List ℕ)
handle_of zero c = first_handle c
handle_of (suc zero) c = second_handle c
handle_of (suc (suc i)) c = None

abbrev pub with_first : List ℕ → Call → Call
with_first fh call.Null = call.Null
with_first fh (call.Getattr object) = call.Getattr fh
with_first fh (call.Setattr object attributes guard) = call.Setattr fh attributes guard
with_first fh (call.Lookup dir name) = call.Lookup fh name
with_first fh (call.Access object bits) = call.Access fh bits
with_first fh (call.Readlink link) = call.Readlink fh
with_first fh (call.Read file offset count) = call.Read fh offset count
with_first fh (call.Write file offset count stability bytes) = call.Write fh offset count stability bytes
with_first fh (call.Create dir name how) = call.Create fh name how
with_first fh (call.Mkdir dir name attributes) = call.Mkdir fh name attributes
with_first fh (call.Symlink dir name attributes path) = call.Symlink fh name attributes path
with_first fh (call.Mknod dir name what) = call.Mknod fh name what
with_first fh (call.Remove dir name) = call.Remove fh name
with_first fh (call.Rmdir dir name) = call.Rmdir fh name
with_first fh (call.Rename from from_name to to_name) = call.Rename fh from_name to to_name
with_first fh (call.Link file dir name) = call.Link fh dir name
with_first fh (call.Readdir dir cookie verifier count) = call.Readdir fh cookie verifier count
with_first fh (call.Readdirplus dir cookie verifier dircount maxcount) = call.Readdirplus fh cookie verifier dircount maxcount
with_first fh (call.Fsstat object) = call.Fsstat fh
with_first fh (call.Fsinfo object) = call.Fsinfo fh
with_first fh (call.Pathconf object) = call.Pathconf fh
with_first fh (call.Commit file offset count) = call.Commit fh offset count

abbrev pub with_second : List ℕ → Call → Call
with_second fh (call.Rename from from_name to to_name) = call.Rename from from_name fh to_name
with_second fh (call.Link file dir name) = call.Link file fh name
with_second fh other = other

abbrev pub with_handle : ℕ → List ℕ → Call → Call
with_handle zero fh c = with_first fh c
with_handle (suc zero) fh c = with_second fh c
with_handle (suc (suc i)) fh c = c

-- the count that a READ asks for
abbrev pub count_of : Call → Option ℕ
count_of (call.Read file offset count) = Some count
count_of other = None

abbrev pub with_count : ℕ → Call → Call
with_count n (call.Read file offset count) = call.Read file offset n
with_count n other = other

-- the bytes that a WRITE carries
abbrev pub content_of : Call → Option (List ℕ)
content_of (call.Write file offset count stability bytes) = Some bytes
content_of other = None

-- a WRITE of the first n of its bytes
abbrev pub cut_to : ℕ → Call → Call
cut_to n (call.Write file offset count stability bytes) = call.Write file offset n stability (take n bytes)
cut_to n other = other

-- ---- replies

abbrev pub if_ok : {A : Type 0} → Status → Option A → Option A
if_ok status x = if is_ok_status status then x else None

-- The attributes of the object that the call was about, in a reply that is OK.
abbrev pub attributes_of : Reply → Option Fattr
attributes_of (reply.Getattr (Ok attributes)) = Some attributes
attributes_of (reply.Setattr status wcc) = if_ok status wcc.after
attributes_of (reply.Lookup (Ok ok)) = ok.attributes
attributes_of (reply.Access (Ok ok)) = ok.attributes
attributes_of (reply.Readlink (Ok ok)) = ok.attributes
attributes_of (reply.Read (Ok ok)) = ok.attributes
attributes_of (reply.Write (Ok ok)) = ok.wcc.after
attributes_of (reply.Create (Ok ok)) = ok.attributes
attributes_of (reply.Mkdir (Ok ok)) = ok.attributes
attributes_of (reply.Symlink (Ok ok)) = ok.attributes
attributes_of (reply.Mknod (Ok ok)) = ok.attributes
attributes_of (reply.Link status attributes wcc) = if_ok status attributes
attributes_of (reply.Commit (Ok ok)) = ok.wcc.after
attributes_of other = None

abbrev pub made_with_attributes : Fattr → MakeOk → MakeOk
made_with_attributes a ok = record ok { attributes = Some a }

abbrev pub with_attributes : Fattr → Reply → Reply
with_attributes a (reply.Getattr (Ok attributes)) = reply.Getattr (Ok a)
with_attributes a (reply.Setattr status wcc) = reply.Setattr status (record { after = Some a })
with_attributes a (reply.Lookup (Ok ok)) = reply.Lookup (Ok (record ok { attributes = Some a }))
with_attributes a (reply.Access (Ok ok)) = reply.Access (Ok (record ok { attributes = Some a }))
with_attributes a (reply.Readlink (Ok ok)) = reply.Readlink (Ok (record ok { attributes = Some a }))
with_attributes a (reply.Read (Ok ok)) = reply.Read (Ok (record ok { attributes = Some a }))
with_attributes a (reply.Write (Ok ok)) = reply.Write (Ok (record ok { wcc = record { after = Some a } }))
with_attributes a (reply.Create (Ok ok)) = reply.Create (Ok (made_with_attributes a ok))
with_attributes a (reply.Mkdir (Ok ok)) = reply.Mkdir (Ok (made_with_attributes a ok))
with_attributes a (reply.Symlink (Ok ok)) = reply.Symlink (Ok (made_with_attributes a ok))
with_attributes a (reply.Mknod (Ok ok)) = reply.Mknod (Ok (made_with_attributes a ok))
with_attributes a (reply.Link status attributes wcc) = reply.Link status (Some a) wcc
with_attributes a (reply.Commit (Ok ok)) = reply.Commit (Ok (record ok { wcc = record { after = Some a } }))
with_attributes a other = other

-- the write verifier of WRITE and COMMIT
abbrev pub verifier_of : Reply → Option ℕ
verifier_of (reply.Write (Ok ok)) = Some ok.verifier
verifier_of (reply.Commit (Ok ok)) = Some ok.verifier
verifier_of other = None

abbrev pub with_verifier : ℕ → Reply → Reply
with_verifier v (reply.Write (Ok ok)) = reply.Write (Ok (record ok { verifier = v }))
with_verifier v (reply.Commit (Ok ok)) = reply.Commit (Ok (record ok { verifier = v }))
with_verifier v other = other

-- whether a READ reached the end of the file, or a listing that of the directory
abbrev pub eof_of : Reply → Option Bool
eof_of (reply.Read (Ok ok)) = Some ok.eof
eof_of (reply.Readdir (Ok ok)) = Some ok.eof
eof_of (reply.Readdirplus (Ok ok)) = Some ok.eof
eof_of other = None

abbrev pub with_eof : Bool → Reply → Reply
with_eof eof (reply.Read (Ok ok)) = reply.Read (Ok (record ok { eof = eof }))
with_eof eof (reply.Readdir (Ok ok)) = reply.Readdir (Ok (record ok { eof = eof }))
with_eof eof (reply.Readdirplus (Ok ok)) = reply.Readdirplus (Ok (record ok { eof = eof }))
with_eof eof other = other

-- the handle that a LOOKUP found, or that of what was made
abbrev pub object_of : Reply → Option (List ℕ)
object_of (reply.Lookup (Ok ok)) = Some ok.object
object_of (reply.Create (Ok ok)) = ok.object
object_of (reply.Mkdir (Ok ok)) = ok.object
object_of (reply.Symlink (Ok ok)) = ok.object
object_of (reply.Mknod (Ok ok)) = ok.object
object_of other = None

abbrev pub made_with_object : List ℕ → MakeOk → MakeOk
made_with_object fh ok = record ok { object = Some fh }

abbrev pub with_object : List ℕ → Reply → Reply
with_object fh (reply.Lookup (Ok ok)) = reply.Lookup (Ok (record ok { object = fh }))
with_object fh (reply.Create (Ok ok)) = reply.Create (Ok (made_with_object fh ok))
with_object fh (reply.Mkdir (Ok ok)) = reply.Mkdir (Ok (made_with_object fh ok))
with_object fh (reply.Symlink (Ok ok)) = reply.Symlink (Ok (made_with_object fh ok))
with_object fh (reply.Mknod (Ok ok)) = reply.Mknod (Ok (made_with_object fh ok))
with_object fh other = other

-- the last four bytes of a handle of 32, where it says which servers keep the object
abbrev pub keepers_in : Option (List ℕ) → Option (List ℕ)
keepers_in None = None
keepers_in (Some fh) = if length fh == 32 then Some (drop 28 fh) else None

abbrev pub keepers_of : Reply → Option (List ℕ)
keepers_of r = keepers_in (object_of r)

abbrev pub with_keepers_in : List ℕ → Option (List ℕ) → Reply → Reply
with_keepers_in keepers None r = r
with_keepers_in keepers (Some fh) r = with_object (take 28 fh ++ keepers) r

abbrev pub with_keepers : List ℕ → Reply → Reply
with_keepers keepers r = with_keepers_in keepers (object_of r) r
