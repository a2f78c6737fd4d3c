-- Reading the results of each procedure from the front of some bytes.
use Rattle.std.specs.Prelude.{ℕ, zero, suc, List, [], ◌∷◌, length, Option, Some, None, Result, Ok, Err, ◌==◌, if◌then◌else◌}
use Rattle.sl_defs.specs.Items.{◌>>=◌, u32_at, u64_at}
use Rattle.sl_defs.specs.Parts.{void_at, mapped, ◌⊗◌, enum_at, optional_at}
use Rattle.sl_xdr.specs.Reading.{flag_at}
use Rattle.sl_types.specs.declared.attributes.Fattr.{Fattr}
use Rattle.sl_types.specs.declared.entries.Entry.{Entry}
use Rattle.sl_types.specs.declared.entries.EntryPlus.{EntryPlus}
use Rattle.sl_types.specs.declared.kind.Status.{Status}
use Rattle.sl_types.specs.declared.reply.Wcc.{Wcc}
use Rattle.sl_types.specs.declared.reply.AttrFault.{AttrFault}
use Rattle.sl_types.specs.declared.reply.WccFault.{WccFault}
use Rattle.sl_types.specs.declared.reply.LookupOk.{LookupOk}
use Rattle.sl_types.specs.declared.reply.AccessOk.{AccessOk}
use Rattle.sl_types.specs.declared.reply.ReadlinkOk.{ReadlinkOk}
use Rattle.sl_types.specs.declared.reply.ReadOk.{ReadOk}
use Rattle.sl_types.specs.declared.reply.WriteOk.{WriteOk}
use Rattle.sl_types.specs.declared.reply.MakeOk.{MakeOk}
use Rattle.sl_types.specs.declared.reply.ReaddirOk.{ReaddirOk}
use Rattle.sl_types.specs.declared.reply.ReaddirplusOk.{ReaddirplusOk}
use Rattle.sl_types.specs.declared.reply.FsstatOk.{FsstatOk}
use Rattle.sl_types.specs.declared.reply.FsinfoOk.{FsinfoOk}
use Rattle.sl_types.specs.declared.reply.PathconfOk.{PathconfOk}
use Rattle.sl_types.specs.declared.reply.CommitOk.{CommitOk}
use Rattle.sl_types.specs.declared.reply.Reply.{Reply}
use Rattle.sl_types.specs.declared.reply.Reply.TheVariants.{Null, Getattr, Setattr, Lookup, Access, Readlink, Read, Write, Create, Mkdir, Symlink, Mknod, Remove, Rmdir, Rename, Link, Readdir, Readdirplus, Fsstat, Fsinfo, Pathconf, Commit}
use Rattle.sl_types.specs.Numbers.{status_of, is_ok_status}
use Rattle.sl_items.specs.Reading.{fh_at, bytes_at, time_at, fattr_at, stable_at}
use Rattle.sl_replies.specs.Results.{WccAttr}

-- a reader of values of this type
abbrev pub Reader : Type 0 → Type 0
Reader A = List ℕ → Option (A × List ℕ)

-- ---- parts of results

unfoldable pub status_at : Reader Status
status_at = enum_at status_of

abbrev pub post_op_attr_at : Reader (Option Fattr)
post_op_attr_at = optional_at fattr_at

abbrev pub post_op_fh_at : Reader (Option (List ℕ))
post_op_fh_at = optional_at fh_at

unfoldable pub wcc_attr_at : Reader WccAttr
wcc_attr_at = u64_at ⊗ time_at ⊗ time_at

-- what stood there before is passed over
unfoldable pub wcc_at : Reader Wcc
wcc_at = mapped (λ x. record { after = x.1 }) (optional_at wcc_attr_at ⊗ post_op_attr_at)

-- a list of fewer elements than this
unfoldable pub list_at : {A : Type 0} → Reader A → ℕ → Reader (List A)
list_at read zero bytes = None
list_at read (suc n) bytes = do
  more ← flag_at bytes
  (if more.0 then mapped (λ x. x.0 ∷ x.1) (read ⊗ list_at read n) else void_at []) more.1

-- the results after status OK, or the failure
unfoldable pub result_at : {A B : Type 0} → Reader A → (Status → Reader B) → Reader (Result A B)
result_at ok fault bytes = do
  status ← status_at bytes
  (if is_ok_status status.0 then mapped Ok ok else mapped Err (fault status.0)) status.1

unfoldable pub attr_fault_at : Status → Reader AttrFault
attr_fault_at status = mapped (λ a. record { status = status; attributes = a }) post_op_attr_at

unfoldable pub wcc_fault_at : Status → Reader WccFault
wcc_fault_at status = mapped (λ w. record { status = status; wcc = w }) wcc_at

-- ---- the results of each procedure after status OK

unfoldable pub lookup_ok_at : Reader LookupOk
lookup_ok_at = mapped (λ x. record { object = x.0; attributes = x.1.0; dir_attributes = x.1.1 }) (fh_at ⊗ post_op_attr_at ⊗ post_op_attr_at)

unfoldable pub access_ok_at : Reader AccessOk
access_ok_at = mapped (λ x. record { attributes = x.0; bits = x.1 }) (post_op_attr_at ⊗ u32_at)

unfoldable pub readlink_ok_at : Reader ReadlinkOk
readlink_ok_at = mapped (λ x. record { attributes = x.0; path = x.1 }) (post_op_attr_at ⊗ bytes_at)

unfoldable pub read_ok_at : Reader ReadOk
read_ok_at = mapped (λ x. record { attributes = x.0; count = x.1.0; eof = x.1.1.0; bytes = x.1.1.1 }) (post_op_attr_at ⊗ u32_at ⊗ flag_at ⊗ bytes_at)

unfoldable pub write_ok_at : Reader WriteOk
write_ok_at = mapped (λ x. record { wcc = x.0; count = x.1.0; committed = x.1.1.0; verifier = x.1.1.1 }) (wcc_at ⊗ u32_at ⊗ stable_at ⊗ u64_at)

unfoldable pub make_ok_at : Reader MakeOk
make_ok_at = mapped (λ x. record { object = x.0; attributes = x.1.0; wcc = x.1.1 }) (post_op_fh_at ⊗ post_op_attr_at ⊗ wcc_at)

unfoldable pub entry_at : Reader Entry
entry_at = mapped (λ x. record { fileid = x.0; name = x.1.0; cookie = x.1.1 }) (u64_at ⊗ bytes_at ⊗ u64_at)

unfoldable pub readdir_ok_at : ℕ → Reader ReaddirOk
readdir_ok_at most =
    mapped
    (λ x. record { attributes = x.0; cookie_verifier = x.1.0; entries = x.1.1.0; eof = x.1.1.1 })
    (post_op_attr_at ⊗ u64_at ⊗ list_at entry_at most ⊗ flag_at)

unfoldable pub entry_plus_at : Reader EntryPlus
entry_plus_at =
    mapped
    (λ x. record { fileid = x.0; name = x.1.0; cookie = x.1.1.0; attributes = x.1.1.1.0; handle = x.1.1.1.1 })
    (u64_at ⊗ bytes_at ⊗ u64_at ⊗ post_op_attr_at ⊗ post_op_fh_at)

unfoldable pub readdirplus_ok_at : ℕ → Reader ReaddirplusOk
readdirplus_ok_at most =
    mapped
    (λ x. record { attributes = x.0; cookie_verifier = x.1.0; entries = x.1.1.0; eof = x.1.1.1 })
    (post_op_attr_at ⊗ u64_at ⊗ list_at entry_plus_at most ⊗ flag_at)

unfoldable pub fsstat_ok_at : Reader FsstatOk
fsstat_ok_at =
    mapped
    (λ x. record {
      attributes = x.0;
      total_bytes = x.1.0;
      free_bytes = x.1.1.0;
      available_bytes = x.1.1.1.0;
      total_files = x.1.1.1.1.0;
      free_files = x.1.1.1.1.1.0;
      available_files = x.1.1.1.1.1.1.0;
      invariant_seconds = x.1.1.1.1.1.1.1;
    })
    (post_op_attr_at ⊗ u64_at ⊗ u64_at ⊗ u64_at ⊗ u64_at ⊗ u64_at ⊗ u64_at ⊗ u32_at)

unfoldable pub fsinfo_ok_at : Reader FsinfoOk
fsinfo_ok_at =
    mapped
    (λ x. record {
      attributes = x.0;
      read_max = x.1.0;
      read_preferred = x.1.1.0;
      read_multiple = x.1.1.1.0;
      write_max = x.1.1.1.1.0;
      write_preferred = x.1.1.1.1.1.0;
      write_multiple = x.1.1.1.1.1.1.0;
      readdir_preferred = x.1.1.1.1.1.1.1.0;
      max_file_size = x.1.1.1.1.1.1.1.1.0;
      time_delta = x.1.1.1.1.1.1.1.1.1.0;
      properties = x.1.1.1.1.1.1.1.1.1.1;
    })
    (post_op_attr_at ⊗ u32_at ⊗ u32_at ⊗ u32_at ⊗ u32_at ⊗ u32_at ⊗ u32_at ⊗ u32_at ⊗ u64_at ⊗ time_at ⊗ u32_at)

unfoldable pub pathconf_ok_at : Reader PathconfOk
pathconf_ok_at =
    mapped
    (λ x. record {
      attributes = x.0;
      link_max = x.1.0;
      name_max = x.1.1.0;
      no_trunc = x.1.1.1.0;
      chown_restricted = x.1.1.1.1.0;
      case_insensitive = x.1.1.1.1.1.0;
      case_preserving = x.1.1.1.1.1.1;
    })
    (post_op_attr_at ⊗ u32_at ⊗ u32_at ⊗ flag_at ⊗ flag_at ⊗ flag_at ⊗ flag_at)

unfoldable pub commit_ok_at : Reader CommitOk
commit_ok_at = mapped (λ x. record { wcc = x.0; verifier = x.1 }) (wcc_at ⊗ u64_at)

-- ---- a reply

-- a status and wcc_data
abbrev pub changed_at : (Status → Wcc → Reply) → Reader Reply
changed_at reply = mapped (λ x. reply x.0 x.1) (status_at ⊗ wcc_at)

unfoldable pub rename_at : Reader Reply
rename_at = mapped (λ x. Rename x.0 x.1.0 x.1.1) (status_at ⊗ wcc_at ⊗ wcc_at)

unfoldable pub link_at : Reader Reply
link_at = mapped (λ x. Link x.0 x.1.0 x.1.1) (status_at ⊗ post_op_attr_at ⊗ wcc_at)

-- the results of a reply to this procedure, with lists of fewer elements than most
unfoldable pub reply_at : ℕ → ℕ → Reader Reply
reply_at n most =
    if n == 0 then void_at Null
    else if n == 1 then mapped Getattr (result_at fattr_at void_at)
    else if n == 2 then changed_at Setattr
    else if n == 3 then mapped Lookup (result_at lookup_ok_at attr_fault_at)
    else if n == 4 then mapped Access (result_at access_ok_at attr_fault_at)
    else if n == 5 then mapped Readlink (result_at readlink_ok_at attr_fault_at)
    else if n == 6 then mapped Read (result_at read_ok_at attr_fault_at)
    else if n == 7 then mapped Write (result_at write_ok_at wcc_fault_at)
    else if n == 8 then mapped Create (result_at make_ok_at wcc_fault_at)
    else if n == 9 then mapped Mkdir (result_at make_ok_at wcc_fault_at)
    else if n == 10 then mapped Symlink (result_at make_ok_at wcc_fault_at)
    else if n == 11 then mapped Mknod (result_at make_ok_at wcc_fault_at)
    else if n == 12 then changed_at Remove
    else if n == 13 then changed_at Rmdir
    else if n == 14 then rename_at
    else if n == 15 then link_at
    else if n == 16 then mapped Readdir (result_at (readdir_ok_at most) attr_fault_at)
    else if n == 17 then mapped Readdirplus (result_at (readdirplus_ok_at most) attr_fault_at)
    else if n == 18 then mapped Fsstat (result_at fsstat_ok_at attr_fault_at)
    else if n == 19 then mapped Fsinfo (result_at fsinfo_ok_at attr_fault_at)
    else if n == 20 then mapped Pathconf (result_at pathconf_ok_at attr_fault_at)
    else if n == 21 then mapped Commit (result_at commit_ok_at wcc_fault_at)
    else λ _. None

-- what was read, where nothing is left
abbrev pub whole : {A : Type 0} → A × List ℕ → Option A
whole x = if length x.1 == 0 then Some x.0 else None

-- the reply that the whole bytes spell, if they spell one: a list has fewer elements than the reply has bytes
unfoldable pub reply_of : ℕ → List ℕ → Option Reply
reply_of procedure bytes = do
  reply ← reply_at procedure (length bytes) bytes
  whole reply
