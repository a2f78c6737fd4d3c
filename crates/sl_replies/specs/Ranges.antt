-- The numbers of a reply lie in the ranges of their types.
use Rattle.std.specs.Prelude.{Option, IfSome, Result, Ok, Err, All}
use Rattle.sl_types.specs.declared.attributes.Fattr.{Fattr}
use Rattle.sl_types.specs.declared.entries.Entry.{Entry}
use Rattle.sl_types.specs.declared.entries.EntryPlus.{EntryPlus}
use Rattle.sl_types.specs.declared.reply.Wcc.{Wcc}
use Rattle.sl_types.specs.declared.reply.AttrFault.{AttrFault}
use Rattle.sl_types.specs.declared.reply.WccFault.{WccFault}
use Rattle.sl_types.specs.declared.reply.LookupOk.{LookupOk}
use Rattle.sl_types.specs.declared.reply.AccessOk.{AccessOk}
use Rattle.sl_types.specs.declared.reply.ReadlinkOk.{ReadlinkOk}
use Rattle.sl_types.specs.declared.reply.ReadOk.{ReadOk}
use Rattle.sl_types.specs.declared.reply.WriteOk.{WriteOk}
use Rattle.sl_types.specs.declared.reply.MakeOk.{MakeOk}
use Rattle.sl_types.specs.declared.reply.ReaddirOk.{ReaddirOk}
use Rattle.sl_types.specs.declared.reply.ReaddirplusOk.{ReaddirplusOk}
use Rattle.sl_types.specs.declared.reply.FsstatOk.{FsstatOk}
use Rattle.sl_types.specs.declared.reply.FsinfoOk.{FsinfoOk}
use Rattle.sl_types.specs.declared.reply.PathconfOk.{PathconfOk}
use Rattle.sl_types.specs.declared.reply.CommitOk.{CommitOk}
use Rattle.sl_types.specs.declared.reply.Reply.{Reply}
use Rattle.sl_types.specs.declared.reply.Reply.TheVariants.{Null, Getattr, Setattr, Lookup, Access, Readlink, Read, Write, Create, Mkdir, Symlink, Mknod, Remove, Rmdir, Rename, Link, Readdir, Readdirplus, Fsstat, Fsinfo, Pathconf, Commit}
use Rattle.sl_items.specs.Spelling.{FitsU32, FitsU64, FitsTime, FitsFattr}

abbrev pub AttrInRange : Option Fattr → Type 0
AttrInRange attributes = IfSome attributes FitsFattr

abbrev pub WccInRange : Wcc → Type 0
WccInRange wcc = AttrInRange wcc.after

abbrev pub LookupInRange : LookupOk → Type 0
LookupInRange ok = AttrInRange ok.attributes × AttrInRange ok.dir_attributes

abbrev pub AccessInRange : AccessOk → Type 0
AccessInRange ok = AttrInRange ok.attributes × FitsU32 ok.bits

abbrev pub ReadlinkInRange : ReadlinkOk → Type 0
ReadlinkInRange ok = AttrInRange ok.attributes

abbrev pub ReadInRange : ReadOk → Type 0
ReadInRange ok = AttrInRange ok.attributes × FitsU32 ok.count

abbrev pub WriteInRange : WriteOk → Type 0
WriteInRange ok = WccInRange ok.wcc × FitsU32 ok.count × FitsU64 ok.verifier

abbrev pub MakeInRange : MakeOk → Type 0
MakeInRange ok = AttrInRange ok.attributes × WccInRange ok.wcc

abbrev pub EntryInRange : Entry → Type 0
EntryInRange e = FitsU64 e.fileid × FitsU64 e.cookie

abbrev pub ReaddirInRange : ReaddirOk → Type 0
ReaddirInRange ok = AttrInRange ok.attributes × FitsU64 ok.cookie_verifier × All EntryInRange ok.entries

abbrev pub EntryPlusInRange : EntryPlus → Type 0
EntryPlusInRange e = FitsU64 e.fileid × FitsU64 e.cookie × AttrInRange e.attributes

abbrev pub ReaddirplusInRange : ReaddirplusOk → Type 0
ReaddirplusInRange ok = AttrInRange ok.attributes × FitsU64 ok.cookie_verifier × All EntryPlusInRange ok.entries

pub record FsstatInRange (ok : FsstatOk) : Type 0 where
  pub attributes : AttrInRange ok.attributes
  pub total_bytes : FitsU64 ok.total_bytes
  pub free_bytes : FitsU64 ok.free_bytes
  pub available_bytes : FitsU64 ok.available_bytes
  pub total_files : FitsU64 ok.total_files
  pub free_files : FitsU64 ok.free_files
  pub available_files : FitsU64 ok.available_files
  pub invariant_seconds : FitsU32 ok.invariant_seconds

pub record FsinfoInRange (ok : FsinfoOk) : Type 0 where
  pub attributes : AttrInRange ok.attributes
  pub read_max : FitsU32 ok.read_max
  pub read_preferred : FitsU32 ok.read_preferred
  pub read_multiple : FitsU32 ok.read_multiple
  pub write_max : FitsU32 ok.write_max
  pub write_preferred : FitsU32 ok.write_preferred
  pub write_multiple : FitsU32 ok.write_multiple
  pub readdir_preferred : FitsU32 ok.readdir_preferred
  pub max_file_size : FitsU64 ok.max_file_size
  pub time_delta : FitsTime ok.time_delta
  pub properties : FitsU32 ok.properties

abbrev pub PathconfInRange : PathconfOk → Type 0
PathconfInRange ok = AttrInRange ok.attributes × FitsU32 ok.link_max × FitsU32 ok.name_max

abbrev pub CommitInRange : CommitOk → Type 0
CommitInRange ok = WccInRange ok.wcc × FitsU64 ok.verifier

abbrev pub AttrResultInRange : {A : Type 0} → (A → Type 0) → Result A AttrFault → Type 0
AttrResultInRange InRange (Ok ok) = InRange ok
AttrResultInRange InRange (Err fault) = AttrInRange fault.attributes

abbrev pub WccResultInRange : {A : Type 0} → (A → Type 0) → Result A WccFault → Type 0
WccResultInRange InRange (Ok ok) = InRange ok
WccResultInRange InRange (Err fault) = WccInRange fault.wcc

abbrev pub ReplyInRange : Reply → Type 0
ReplyInRange Null = Unit {0}
ReplyInRange (Getattr (Ok attributes)) = FitsFattr attributes
ReplyInRange (Getattr (Err status)) = Unit {0}
ReplyInRange (Setattr status wcc) = WccInRange wcc
ReplyInRange (Lookup result) = AttrResultInRange LookupInRange result
ReplyInRange (Access result) = AttrResultInRange AccessInRange result
ReplyInRange (Readlink result) = AttrResultInRange ReadlinkInRange result
ReplyInRange (Read result) = AttrResultInRange ReadInRange result
ReplyInRange (Write result) = WccResultInRange WriteInRange result
ReplyInRange (Create result) = WccResultInRange MakeInRange result
ReplyInRange (Mkdir result) = WccResultInRange MakeInRange result
ReplyInRange (Symlink result) = WccResultInRange MakeInRange result
ReplyInRange (Mknod result) = WccResultInRange MakeInRange result
ReplyInRange (Remove status wcc) = WccInRange wcc
ReplyInRange (Rmdir status wcc) = WccInRange wcc
ReplyInRange (Rename status from to) = WccInRange from × WccInRange to
ReplyInRange (Link status attributes wcc) = AttrInRange attributes × WccInRange wcc
ReplyInRange (Readdir result) = AttrResultInRange ReaddirInRange result
ReplyInRange (Readdirplus result) = AttrResultInRange ReaddirplusInRange result
ReplyInRange (Fsstat result) = AttrResultInRange FsstatInRange result
ReplyInRange (Fsinfo result) = AttrResultInRange FsinfoInRange result
ReplyInRange (Pathconf result) = AttrResultInRange PathconfInRange result
ReplyInRange (Commit result) = WccResultInRange CommitInRange result
