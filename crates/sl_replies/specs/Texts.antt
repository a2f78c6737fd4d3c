-- The canonical text of each reply: padding of zeros, and nothing from before the call.
use Rattle.std.specs.Prelude.{◌≡◌, ℕ, List, [], ◌∷◌, ◌++◌, Option, IfSome, Bool, true, false, Result, Ok, Err, All}
use Rattle.sl_defs.specs.Items.{u32_text, u64_text, opaque_text}
use Rattle.sl_defs.specs.Parts.{optional_text}
use Rattle.sl_xdr.specs.Reading.{number_of_flag}
use Rattle.sl_types.specs.declared.attributes.Fattr.{Fattr}
use Rattle.sl_types.specs.declared.entries.Entry.{Entry}
use Rattle.sl_types.specs.declared.entries.EntryPlus.{EntryPlus}
use Rattle.sl_types.specs.declared.kind.Status.{Status}
use Rattle.sl_types.specs.declared.reply.Wcc.{Wcc}
use Rattle.sl_types.specs.declared.reply.AttrFault.{AttrFault}
use Rattle.sl_types.specs.declared.reply.WccFault.{WccFault}
use Rattle.sl_types.specs.declared.reply.LookupOk.{LookupOk}
use Rattle.sl_types.specs.declared.reply.AccessOk.{AccessOk}
use Rattle.sl_types.specs.declared.reply.ReadlinkOk.{ReadlinkOk}
use Rattle.sl_types.specs.declared.reply.ReadOk.{ReadOk}
use Rattle.sl_types.specs.declared.reply.WriteOk.{WriteOk}
use Rattle.sl_types.specs.declared.reply.MakeOk.{MakeOk}
use Rattle.sl_types.specs.declared.reply.ReaddirOk.{ReaddirOk}
use Rattle.sl_types.specs.declared.reply.ReaddirplusOk.{ReaddirplusOk}
use Rattle.sl_types.specs.declared.reply.FsstatOk.{FsstatOk}
use Rattle.sl_types.specs.declared.reply.FsinfoOk.{FsinfoOk}
use Rattle.sl_types.specs.declared.reply.PathconfOk.{PathconfOk}
use Rattle.sl_types.specs.declared.reply.CommitOk.{CommitOk}
use Rattle.sl_types.specs.declared.reply.Reply.{Reply}
use Rattle.sl_types.specs.declared.reply.Reply.TheVariants.{Null, Getattr, Setattr, Lookup, Access, Readlink, Read, Write, Create, Mkdir, Symlink, Mknod, Remove, Rmdir, Rename, Link, Readdir, Readdirplus, Fsstat, Fsinfo, Pathconf, Commit}
use Rattle.sl_types.specs.Numbers.{status_number, is_ok_status}
use Rattle.sl_items.specs.Spelling.{stable_number, time_text, fattr_text, FitsFh, FitsBytes}

-- ---- parts of results

abbrev pub status_text : Status → List ℕ
status_text status = u32_text (status_number status)

abbrev pub flag_text : Bool → List ℕ
flag_text flag = u32_text (number_of_flag flag)

abbrev pub post_op_attr_text : Option Fattr → List ℕ
post_op_attr_text = optional_text fattr_text

abbrev pub post_op_fh_text : Option (List ℕ) → List ℕ
post_op_fh_text = optional_text opaque_text

-- no pre_op_attr
unfoldable pub wcc_text : Wcc → List ℕ
wcc_text wcc = u32_text 0 ++ post_op_attr_text wcc.after

unfoldable pub list_text : {A : Type 0} → (A → List ℕ) → List A → List ℕ
list_text text_of [] = flag_text false
list_text text_of (x ∷ xs) = flag_text true ++ (text_of x ++ list_text text_of xs)

unfoldable pub attr_fault_text : AttrFault → List ℕ
attr_fault_text fault = status_text fault.status ++ post_op_attr_text fault.attributes

unfoldable pub wcc_fault_text : WccFault → List ℕ
wcc_fault_text fault = status_text fault.status ++ wcc_text fault.wcc

-- status OK and the results, or the failure
abbrev pub result_text : {A B : Type 0} → (A → List ℕ) → (B → List ℕ) → Result A B → List ℕ
result_text ok_text fault_text (Ok ok) = u32_text 0 ++ ok_text ok
result_text ok_text fault_text (Err fault) = fault_text fault

-- ---- the results of each procedure after status OK

unfoldable pub lookup_ok_text : LookupOk → List ℕ
lookup_ok_text ok = opaque_text ok.object ++ (post_op_attr_text ok.attributes ++ post_op_attr_text ok.dir_attributes)

unfoldable pub access_ok_text : AccessOk → List ℕ
access_ok_text ok = post_op_attr_text ok.attributes ++ u32_text ok.bits

unfoldable pub readlink_ok_text : ReadlinkOk → List ℕ
readlink_ok_text ok = post_op_attr_text ok.attributes ++ opaque_text ok.path

unfoldable pub read_ok_text : ReadOk → List ℕ
read_ok_text ok = post_op_attr_text ok.attributes ++ (u32_text ok.count ++ (flag_text ok.eof ++ opaque_text ok.bytes))

unfoldable pub write_ok_text : WriteOk → List ℕ
write_ok_text ok = wcc_text ok.wcc ++ (u32_text ok.count ++ (u32_text (stable_number ok.committed) ++ u64_text ok.verifier))

unfoldable pub make_ok_text : MakeOk → List ℕ
make_ok_text ok = post_op_fh_text ok.object ++ (post_op_attr_text ok.attributes ++ wcc_text ok.wcc)

unfoldable pub entry_text : Entry → List ℕ
entry_text e = u64_text e.fileid ++ (opaque_text e.name ++ u64_text e.cookie)

unfoldable pub readdir_ok_text : ReaddirOk → List ℕ
readdir_ok_text ok = post_op_attr_text ok.attributes ++ (u64_text ok.cookie_verifier ++ (list_text entry_text ok.entries ++ flag_text ok.eof))

unfoldable pub entry_plus_text : EntryPlus → List ℕ
entry_plus_text e = u64_text e.fileid ++ (opaque_text e.name ++ (u64_text e.cookie ++ (post_op_attr_text e.attributes ++ post_op_fh_text e.handle)))

unfoldable pub readdirplus_ok_text : ReaddirplusOk → List ℕ
readdirplus_ok_text ok = post_op_attr_text ok.attributes ++ (u64_text ok.cookie_verifier ++ (list_text entry_plus_text ok.entries ++ flag_text ok.eof))

-- the numbers of bytes, and of files
unfoldable pub fsstat_bytes_text : FsstatOk → List ℕ
fsstat_bytes_text ok = u64_text ok.total_bytes ++ (u64_text ok.free_bytes ++ u64_text ok.available_bytes)

unfoldable pub fsstat_files_text : FsstatOk → List ℕ
fsstat_files_text ok = u64_text ok.total_files ++ (u64_text ok.free_files ++ (u64_text ok.available_files ++ u32_text ok.invariant_seconds))

unfoldable pub fsstat_ok_text : FsstatOk → List ℕ
fsstat_ok_text ok = post_op_attr_text ok.attributes ++ (fsstat_bytes_text ok ++ fsstat_files_text ok)

-- how much is read and written at once
unfoldable pub fsinfo_read_text : FsinfoOk → List ℕ
fsinfo_read_text ok = u32_text ok.read_max ++ (u32_text ok.read_preferred ++ u32_text ok.read_multiple)

unfoldable pub fsinfo_write_text : FsinfoOk → List ℕ
fsinfo_write_text ok = u32_text ok.write_max ++ (u32_text ok.write_preferred ++ (u32_text ok.write_multiple ++ u32_text ok.readdir_preferred))

-- the limits of the file system
unfoldable pub fsinfo_limits_text : FsinfoOk → List ℕ
fsinfo_limits_text ok = u64_text ok.max_file_size ++ (time_text ok.time_delta ++ u32_text ok.properties)

unfoldable pub fsinfo_ok_text : FsinfoOk → List ℕ
fsinfo_ok_text ok = post_op_attr_text ok.attributes ++ (fsinfo_read_text ok ++ (fsinfo_write_text ok ++ fsinfo_limits_text ok))

unfoldable pub pathconf_flags_text : PathconfOk → List ℕ
pathconf_flags_text ok = flag_text ok.no_trunc ++ (flag_text ok.chown_restricted ++ (flag_text ok.case_insensitive ++ flag_text ok.case_preserving))

unfoldable pub pathconf_ok_text : PathconfOk → List ℕ
pathconf_ok_text ok = post_op_attr_text ok.attributes ++ (u32_text ok.link_max ++ (u32_text ok.name_max ++ pathconf_flags_text ok))

unfoldable pub commit_ok_text : CommitOk → List ℕ
commit_ok_text ok = wcc_text ok.wcc ++ u64_text ok.verifier

-- ---- a reply

abbrev pub changed_text : Status → Wcc → List ℕ
changed_text status wcc = status_text status ++ wcc_text wcc

abbrev pub reply_text : Reply → List ℕ
reply_text Null = []
reply_text (Getattr result) = result_text fattr_text status_text result
reply_text (Setattr status wcc) = changed_text status wcc
reply_text (Lookup result) = result_text lookup_ok_text attr_fault_text result
reply_text (Access result) = result_text access_ok_text attr_fault_text result
reply_text (Readlink result) = result_text readlink_ok_text attr_fault_text result
reply_text (Read result) = result_text read_ok_text attr_fault_text result
reply_text (Write result) = result_text write_ok_text wcc_fault_text result
reply_text (Create result) = result_text make_ok_text wcc_fault_text result
reply_text (Mkdir result) = result_text make_ok_text wcc_fault_text result
reply_text (Symlink result) = result_text make_ok_text wcc_fault_text result
reply_text (Mknod result) = result_text make_ok_text wcc_fault_text result
reply_text (Remove status wcc) = changed_text status wcc
reply_text (Rmdir status wcc) = changed_text status wcc
reply_text (Rename status from to) = status_text status ++ (wcc_text from ++ wcc_text to)
reply_text (Link status attributes wcc) = status_text status ++ (post_op_attr_text attributes ++ wcc_text wcc)
reply_text (Readdir result) = result_text readdir_ok_text attr_fault_text result
reply_text (Readdirplus result) = result_text readdirplus_ok_text attr_fault_text result
reply_text (Fsstat result) = result_text fsstat_ok_text attr_fault_text result
reply_text (Fsinfo result) = result_text fsinfo_ok_text attr_fault_text result
reply_text (Pathconf result) = result_text pathconf_ok_text attr_fault_text result
reply_text (Commit result) = result_text commit_ok_text wcc_fault_text result

-- ---- what a reply keeps: lengths, and the statuses of failures

abbrev pub FitsEntry : Entry → Type 0
FitsEntry e = FitsBytes e.name

abbrev pub FitsEntryPlus : EntryPlus → Type 0
FitsEntryPlus e = FitsBytes e.name × IfSome e.handle FitsFh

-- what is asked of the results after status OK, or that a failure isn't status OK
abbrev pub FitsResult : {A B : Type 0} → (A → Type 0) → (B → Status) → Result A B → Type 0
FitsResult Fits status_in (Ok ok) = Fits ok
FitsResult Fits status_in (Err fault) = is_ok_status (status_in fault) ≡ false

abbrev pub FitsAttrResult : {A : Type 0} → (A → Type 0) → Result A AttrFault → Type 0
FitsAttrResult Fits = FitsResult Fits (λ fault. fault.status)

abbrev pub FitsWccResult : {A : Type 0} → (A → Type 0) → Result A WccFault → Type 0
FitsWccResult Fits = FitsResult Fits (λ fault. fault.status)

abbrev pub FitsReply : Reply → Type 0
FitsReply Null = Unit {0}
FitsReply (Getattr result) = FitsResult (λ ok. Unit {0}) (λ fault. fault) result
FitsReply (Setattr status wcc) = Unit {0}
FitsReply (Lookup result) = FitsAttrResult (λ ok. FitsFh ok.object) result
FitsReply (Access result) = FitsAttrResult (λ ok. Unit {0}) result
FitsReply (Readlink result) = FitsAttrResult (λ ok. FitsBytes ok.path) result
FitsReply (Read result) = FitsAttrResult (λ ok. FitsBytes ok.bytes) result
FitsReply (Write result) = FitsWccResult (λ ok. Unit {0}) result
FitsReply (Create result) = FitsWccResult (λ ok. IfSome ok.object FitsFh) result
FitsReply (Mkdir result) = FitsWccResult (λ ok. IfSome ok.object FitsFh) result
FitsReply (Symlink result) = FitsWccResult (λ ok. IfSome ok.object FitsFh) result
FitsReply (Mknod result) = FitsWccResult (λ ok. IfSome ok.object FitsFh) result
FitsReply (Remove status wcc) = Unit {0}
FitsReply (Rmdir status wcc) = Unit {0}
FitsReply (Rename status from to) = Unit {0}
FitsReply (Link status attributes wcc) = Unit {0}
FitsReply (Readdir result) = FitsAttrResult (λ ok. All FitsEntry ok.entries) result
FitsReply (Readdirplus result) = FitsAttrResult (λ ok. All FitsEntryPlus ok.entries) result
FitsReply (Fsstat result) = FitsAttrResult (λ ok. Unit {0}) result
FitsReply (Fsinfo result) = FitsAttrResult (λ ok. Unit {0}) result
FitsReply (Pathconf result) = FitsAttrResult (λ ok. Unit {0}) result
FitsReply (Commit result) = FitsWccResult (λ ok. Unit {0}) result
