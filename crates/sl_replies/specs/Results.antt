-- The results of each procedure (RFC 1813, section 3.3): which texts spell a reply's, and their canonical text.
use Rattle.std.specs.Prelude.{◌≡◌, ℕ, List, [], ◌∷◌, Option, Bool, true, false, Result, Ok, Err}
use Rattle.sl_defs.specs.Parts.{◌⨾◌, IsVoid, IsU32, IsU64, IsEnum, IsOptional}
use Rattle.sl_defs.specs.declared.setup.Time.{Time}
use Rattle.sl_xdr.specs.Reading.{number_of_flag}
use Rattle.sl_types.specs.declared.attributes.Fattr.{Fattr}
use Rattle.sl_types.specs.declared.entries.Entry.{Entry}
use Rattle.sl_types.specs.declared.entries.EntryPlus.{EntryPlus}
use Rattle.sl_types.specs.declared.kind.Status.{Status}
use Rattle.sl_types.specs.declared.kind.Status.TheVariants as status
use Rattle.sl_types.specs.declared.reply.Wcc.{Wcc}
use Rattle.sl_types.specs.declared.reply.AttrFault.{AttrFault}
use Rattle.sl_types.specs.declared.reply.WccFault.{WccFault}
use Rattle.sl_types.specs.declared.reply.LookupOk.{LookupOk}
use Rattle.sl_types.specs.declared.reply.AccessOk.{AccessOk}
use Rattle.sl_types.specs.declared.reply.ReadlinkOk.{ReadlinkOk}
use Rattle.sl_types.specs.declared.reply.ReadOk.{ReadOk}
use Rattle.sl_types.specs.declared.reply.WriteOk.{WriteOk}
use Rattle.sl_types.specs.declared.reply.MakeOk.{MakeOk}
use Rattle.sl_types.specs.declared.reply.ReaddirOk.{ReaddirOk}
use Rattle.sl_types.specs.declared.reply.ReaddirplusOk.{ReaddirplusOk}
use Rattle.sl_types.specs.declared.reply.FsstatOk.{FsstatOk}
use Rattle.sl_types.specs.declared.reply.FsinfoOk.{FsinfoOk}
use Rattle.sl_types.specs.declared.reply.PathconfOk.{PathconfOk}
use Rattle.sl_types.specs.declared.reply.CommitOk.{CommitOk}
use Rattle.sl_types.specs.declared.reply.Reply.{Reply}
use Rattle.sl_types.specs.declared.reply.Reply.TheVariants.{Null, Getattr, Setattr, Lookup, Access, Readlink, Read, Write, Create, Mkdir, Symlink, Mknod, Remove, Rmdir, Rename, Link, Readdir, Readdirplus, Fsstat, Fsinfo, Pathconf, Commit}
use Rattle.sl_types.specs.Numbers.{status_number, is_ok_status}
use Rattle.sl_items.specs.Spelling.{IsFh, IsBytes, IsTime, IsFattr, IsStable}

-- ---- parts of results (section 2.5)

-- nfsstat3
abbrev pub IsStatus : Status → List ℕ → Type 0
IsStatus = IsEnum status_number

-- bool (RFC 4506, section 4.4)
abbrev pub IsFlag : Bool → List ℕ → Type 0
IsFlag = IsEnum number_of_flag

-- post_op_attr
abbrev pub IsPostOpAttr : Option Fattr → List ℕ → Type 0
IsPostOpAttr = IsOptional IsFattr

-- post_op_fh3
abbrev pub IsPostOpFh : Option (List ℕ) → List ℕ → Type 0
IsPostOpFh = IsOptional IsFh

-- wcc_attr: size, mtime and ctime
abbrev pub WccAttr : Type 0
WccAttr = ℕ × (Time × Time)

abbrev pub IsWccAttr : WccAttr → List ℕ → Type 0
IsWccAttr a = IsU64 a.0 ⨾ IsTime a.1.0 ⨾ IsTime a.1.1

-- wcc_data: a pre_op_attr, which may be any, and a post_op_attr
abbrev pub IsWcc : Wcc → List ℕ → Type 0
IsWcc wcc text = (before : Option WccAttr) × (IsOptional IsWccAttr before ⨾ IsPostOpAttr wcc.after) text

-- A list: each element behind the flag 1, and at the end the flag 0 (RFC 4506, section 4.19).
abbrev pub IsList : {A : Type 0} → (A → List ℕ → Type 0) → List A → List ℕ → Type 0
IsList Is [] = IsFlag false
IsList Is (x ∷ xs) = IsFlag true ⨾ Is x ⨾ IsList Is xs

-- The results after status OK, or a failure: another status, and what follows it.
abbrev pub IsResult : {A B : Type 0} → (A → List ℕ → Type 0) → (B → Status) → (B → List ℕ → Type 0) → Result A B → List ℕ → Type 0
IsResult IsOk status_in IsFault (Ok ok) = IsStatus status.Ok ⨾ IsOk ok
IsResult IsOk status_in IsFault (Err fault) = λ text. (is_ok_status (status_in fault) ≡ false) × (IsStatus (status_in fault) ⨾ IsFault fault) text

-- a failure with a post_op_attr, and one with wcc_data
abbrev pub IsAttrResult : {A : Type 0} → (A → List ℕ → Type 0) → Result A AttrFault → List ℕ → Type 0
IsAttrResult IsOk = IsResult IsOk (λ fault. fault.status) (λ fault. IsPostOpAttr fault.attributes)

abbrev pub IsWccResult : {A : Type 0} → (A → List ℕ → Type 0) → Result A WccFault → List ℕ → Type 0
IsWccResult IsOk = IsResult IsOk (λ fault. fault.status) (λ fault. IsWcc fault.wcc)

-- ---- the results of each procedure after status OK

-- LOOKUP3resok (section 3.3.3): object, obj_attributes, dir_attributes
abbrev pub IsLookupOk : LookupOk → List ℕ → Type 0
IsLookupOk ok = IsFh ok.object ⨾ IsPostOpAttr ok.attributes ⨾ IsPostOpAttr ok.dir_attributes

-- ACCESS3resok (section 3.3.4): obj_attributes, access
abbrev pub IsAccessOk : AccessOk → List ℕ → Type 0
IsAccessOk ok = IsPostOpAttr ok.attributes ⨾ IsU32 ok.bits

-- READLINK3resok (section 3.3.5): symlink_attributes, data
abbrev pub IsReadlinkOk : ReadlinkOk → List ℕ → Type 0
IsReadlinkOk ok = IsPostOpAttr ok.attributes ⨾ IsBytes ok.path

-- READ3resok (section 3.3.6): file_attributes, count, eof, data
abbrev pub IsReadOk : ReadOk → List ℕ → Type 0
IsReadOk ok = IsPostOpAttr ok.attributes ⨾ IsU32 ok.count ⨾ IsFlag ok.eof ⨾ IsBytes ok.bytes

-- WRITE3resok (section 3.3.7): file_wcc, count, committed, verf
abbrev pub IsWriteOk : WriteOk → List ℕ → Type 0
IsWriteOk ok = IsWcc ok.wcc ⨾ IsU32 ok.count ⨾ IsStable ok.committed ⨾ IsU64 ok.verifier

-- CREATE3resok (section 3.3.8), and those of MKDIR, SYMLINK and MKNOD: obj, obj_attributes, dir_wcc
abbrev pub IsMakeOk : MakeOk → List ℕ → Type 0
IsMakeOk ok = IsPostOpFh ok.object ⨾ IsPostOpAttr ok.attributes ⨾ IsWcc ok.wcc

-- entry3 (section 3.3.16): fileid, name, cookie
abbrev pub IsEntry : Entry → List ℕ → Type 0
IsEntry e = IsU64 e.fileid ⨾ IsBytes e.name ⨾ IsU64 e.cookie

-- READDIR3resok (section 3.3.16): dir_attributes, cookieverf, and the dirlist3 entries, eof
abbrev pub IsReaddirOk : ReaddirOk → List ℕ → Type 0
IsReaddirOk ok = IsPostOpAttr ok.attributes ⨾ IsU64 ok.cookie_verifier ⨾ IsList IsEntry ok.entries ⨾ IsFlag ok.eof

-- entryplus3 (section 3.3.17): fileid, name, cookie, name_attributes, name_handle
abbrev pub IsEntryPlus : EntryPlus → List ℕ → Type 0
IsEntryPlus e = IsU64 e.fileid ⨾ IsBytes e.name ⨾ IsU64 e.cookie ⨾ IsPostOpAttr e.attributes ⨾ IsPostOpFh e.handle

-- READDIRPLUS3resok (section 3.3.17): as READDIR3resok
abbrev pub IsReaddirplusOk : ReaddirplusOk → List ℕ → Type 0
IsReaddirplusOk ok = IsPostOpAttr ok.attributes ⨾ IsU64 ok.cookie_verifier ⨾ IsList IsEntryPlus ok.entries ⨾ IsFlag ok.eof

-- FSSTAT3resok (section 3.3.18): obj_attributes, tbytes, fbytes, abytes, tfiles, ffiles, afiles, invarsec
abbrev pub IsFsstatOk : FsstatOk → List ℕ → Type 0
IsFsstatOk ok = IsPostOpAttr ok.attributes ⨾ IsU64 ok.total_bytes ⨾ IsU64 ok.free_bytes ⨾ IsU64 ok.available_bytes ⨾ IsU64 ok.total_files ⨾ IsU64 ok.free_files ⨾ IsU64 ok.available_files ⨾ IsU32 ok.invariant_seconds

-- FSINFO3resok (section 3.3.19): obj_attributes, rtmax, rtpref, rtmult, wtmax, wtpref, wtmult, dtpref, maxfilesize,
-- time_delta, properties
abbrev pub IsFsinfoOk : FsinfoOk → List ℕ → Type 0
IsFsinfoOk ok = IsPostOpAttr ok.attributes ⨾ IsU32 ok.read_max ⨾ IsU32 ok.read_preferred ⨾ IsU32 ok.read_multiple ⨾ IsU32 ok.write_max ⨾ IsU32 ok.write_preferred ⨾ IsU32 ok.write_multiple ⨾ IsU32 ok.readdir_preferred ⨾ IsU64 ok.max_file_size ⨾ IsTime ok.time_delta ⨾ IsU32 ok.properties

-- PATHCONF3resok (section 3.3.20): obj_attributes, linkmax, name_max, no_trunc, chown_restricted, case_insensitive,
-- case_preserving
abbrev pub IsPathconfOk : PathconfOk → List ℕ → Type 0
IsPathconfOk ok = IsPostOpAttr ok.attributes ⨾ IsU32 ok.link_max ⨾ IsU32 ok.name_max ⨾ IsFlag ok.no_trunc ⨾ IsFlag ok.chown_restricted ⨾ IsFlag ok.case_insensitive ⨾ IsFlag ok.case_preserving

-- COMMIT3resok (section 3.3.21): file_wcc, verf
abbrev pub IsCommitOk : CommitOk → List ℕ → Type 0
IsCommitOk ok = IsWcc ok.wcc ⨾ IsU64 ok.verifier

-- ---- the grammar: procedure n is that of section 3.3.n

abbrev pub procedure_of : Reply → ℕ
procedure_of Null = 0
procedure_of (Getattr result) = 1
procedure_of (Setattr outcome wcc) = 2
procedure_of (Lookup result) = 3
procedure_of (Access result) = 4
procedure_of (Readlink result) = 5
procedure_of (Read result) = 6
procedure_of (Write result) = 7
procedure_of (Create result) = 8
procedure_of (Mkdir result) = 9
procedure_of (Symlink result) = 10
procedure_of (Mknod result) = 11
procedure_of (Remove outcome wcc) = 12
procedure_of (Rmdir outcome wcc) = 13
procedure_of (Rename outcome from to) = 14
procedure_of (Link outcome attributes wcc) = 15
procedure_of (Readdir result) = 16
procedure_of (Readdirplus result) = 17
procedure_of (Fsstat result) = 18
procedure_of (Fsinfo result) = 19
procedure_of (Pathconf result) = 20
procedure_of (Commit result) = 21

-- These bytes spell the reply's results.
abbrev pub IsReply : Reply → List ℕ → Type 0
IsReply Null = IsVoid
-- GETATTR3res: nothing follows a failure
IsReply (Getattr result) = IsResult IsFattr (λ fault. fault) (λ fault. IsVoid) result
-- SETATTR3res: obj_wcc, whatever the status
IsReply (Setattr outcome obj_wcc) = IsStatus outcome ⨾ IsWcc obj_wcc
IsReply (Lookup result) = IsAttrResult IsLookupOk result
IsReply (Access result) = IsAttrResult IsAccessOk result
IsReply (Readlink result) = IsAttrResult IsReadlinkOk result
IsReply (Read result) = IsAttrResult IsReadOk result
IsReply (Write result) = IsWccResult IsWriteOk result
IsReply (Create result) = IsWccResult IsMakeOk result
IsReply (Mkdir result) = IsWccResult IsMakeOk result
IsReply (Symlink result) = IsWccResult IsMakeOk result
IsReply (Mknod result) = IsWccResult IsMakeOk result
-- REMOVE3res and RMDIR3res: dir_wcc, whatever the status
IsReply (Remove outcome dir_wcc) = IsStatus outcome ⨾ IsWcc dir_wcc
IsReply (Rmdir outcome dir_wcc) = IsStatus outcome ⨾ IsWcc dir_wcc
-- RENAME3res: fromdir_wcc, todir_wcc, whatever the status
IsReply (Rename outcome fromdir_wcc todir_wcc) = IsStatus outcome ⨾ IsWcc fromdir_wcc ⨾ IsWcc todir_wcc
-- LINK3res: file_attributes, linkdir_wcc, whatever the status
IsReply (Link outcome file_attributes linkdir_wcc) = IsStatus outcome ⨾ IsPostOpAttr file_attributes ⨾ IsWcc linkdir_wcc
IsReply (Readdir result) = IsAttrResult IsReaddirOk result
IsReply (Readdirplus result) = IsAttrResult IsReaddirplusOk result
IsReply (Fsstat result) = IsAttrResult IsFsstatOk result
IsReply (Fsinfo result) = IsAttrResult IsFsinfoOk result
IsReply (Pathconf result) = IsAttrResult IsPathconfOk result
IsReply (Commit result) = IsWccResult IsCommitOk result

-- these bytes spell the results of a reply to this procedure
abbrev pub IsReplyTo : ℕ → Reply → List ℕ → Type 0
IsReplyTo procedure reply text = IsReply reply text × (procedure_of reply ≡ procedure)
