-- The canonical text of a reply is one of its spellings.
use Rattle.std.proofs.Common.{◌≡◌, ℕ, suc, ◌≤◌, List, [], ◌∷◌, ◌++◌, length, Option, Some, None, Result, Ok, Err, refl, sym, ap, ◌∙◌, append_assoc, append-nil, arith}
use Rattle.std.specs.Prelude.{All, IfSome}
use Rattle.std.proofs.lemmas.List.{length-append}
use Rattle.sl_defs.specs.Items.{u32_text, u64_text}
use Rattle.sl_defs.proofs.ItemLaws.{same_pair}
use Rattle.sl_types.specs.declared.entries.Entry.{Entry}
use Rattle.sl_types.specs.declared.entries.EntryPlus.{EntryPlus}
use Rattle.sl_types.specs.declared.reply.Wcc.{Wcc}
use Rattle.sl_types.specs.declared.reply.AttrFault.{AttrFault}
use Rattle.sl_types.specs.declared.reply.WccFault.{WccFault}
use Rattle.sl_types.specs.declared.reply.LookupOk.{LookupOk}
use Rattle.sl_types.specs.declared.reply.AccessOk.{AccessOk}
use Rattle.sl_types.specs.declared.reply.ReadlinkOk.{ReadlinkOk}
use Rattle.sl_types.specs.declared.reply.ReadOk.{ReadOk}
use Rattle.sl_types.specs.declared.reply.WriteOk.{WriteOk}
use Rattle.sl_types.specs.declared.reply.MakeOk.{MakeOk}
use Rattle.sl_types.specs.declared.reply.ReaddirOk.{ReaddirOk}
use Rattle.sl_types.specs.declared.reply.ReaddirplusOk.{ReaddirplusOk}
use Rattle.sl_types.specs.declared.reply.FsstatOk.{FsstatOk}
use Rattle.sl_types.specs.declared.reply.FsinfoOk.{FsinfoOk}
use Rattle.sl_types.specs.declared.reply.PathconfOk.{PathconfOk}
use Rattle.sl_types.specs.declared.reply.CommitOk.{CommitOk}
use Rattle.sl_types.specs.declared.reply.Reply.{Reply}
use Rattle.sl_types.specs.declared.reply.Reply.TheVariants.{Null, Getattr, Setattr, Lookup, Access, Readlink, Read, Write, Create, Mkdir, Symlink, Mknod, Remove, Rmdir, Rename, Link, Readdir, Readdirplus, Fsstat, Fsinfo, Pathconf, Commit}
use Rattle.sl_types.specs.Numbers.{status_number}
use Rattle.sl_items.specs.Spelling.{time_text, FitsFh, FitsBytes}
use Rattle.sl_items.proofs.DataTexts.{fh_spells, bytes_spells, time_spells, fattr_spells, optional_fattr_spells, optional_fh_spells}
use Rattle.sl_replies.specs.Results.{IsWcc, IsList, IsAttrResult, IsWccResult, IsLookupOk, IsAccessOk, IsReadlinkOk, IsReadOk, IsWriteOk, IsMakeOk, IsEntry, IsReaddirOk, IsEntryPlus, IsReaddirplusOk, IsFsstatOk, IsFsinfoOk, IsPathconfOk, IsCommitOk, procedure_of}
use Rattle.sl_replies.specs.Reading.{reply_at}
use Rattle.sl_replies.specs.Texts.{wcc_text, list_text, attr_fault_text, wcc_fault_text, result_text, lookup_ok_text, access_ok_text, readlink_ok_text, read_ok_text, write_ok_text, make_ok_text, entry_text, readdir_ok_text, entry_plus_text, readdirplus_ok_text, fsstat_bytes_text, fsstat_files_text, fsstat_ok_text, fsinfo_read_text, fsinfo_write_text, fsinfo_limits_text, fsinfo_ok_text, pathconf_flags_text, pathconf_ok_text, commit_ok_text, FitsEntry, FitsEntryPlus, FitsAttrResult, FitsWccResult}
use Rattle.sl_replies.specs.Ranges.{WccInRange, LookupInRange, AccessInRange, ReadlinkInRange, ReadInRange, WriteInRange, MakeInRange, EntryInRange, ReaddirInRange, EntryPlusInRange, ReaddirplusInRange, FsstatInRange, FsinfoInRange, PathconfInRange, CommitInRange, AttrResultInRange, WccResultInRange}
use Rattle.sl_replies.specs.Laws.{CanonicalTextsSpell, SpellingsAreRead, NoSpellingIsAFront}
use Rattle.sl_replies.proofs.Replies.{reply_found, whole_found}

wcc_spells : (w : Wcc) → WccInRange w → IsWcc w (wcc_text w)
unfolding wcc_text
wcc_spells w range = (None, (u32_text 0, _, (u32_text 0, [], (refl, omega arith), refl, sym (append-nil (u32_text 0))), optional_fattr_spells w.after range, refl))

-- ---- results and failures

module _ {A : Type 0} (IsOk : A → List ℕ → Type 0) (ok_text : A → List ℕ) (Fits : A → Type 0) (InRange : A → Type 0) (spells : (ok : A) → Fits ok → InRange ok → IsOk ok (ok_text ok)) where
  attr_spells : (r : Result A AttrFault) → FitsAttrResult Fits r → AttrResultInRange InRange r → IsAttrResult IsOk r (result_text ok_text attr_fault_text r)
  unfolding attr_fault_text
  attr_spells (Ok ok) fits range = (u32_text 0, ok_text ok, refl, spells ok fits range, refl)
  attr_spells (Err fault) fits range = (fits, (_, _, refl, optional_fattr_spells fault.attributes range, refl))

  wcc_result_spells : (r : Result A WccFault) → FitsWccResult Fits r → WccResultInRange InRange r → IsWccResult IsOk r (result_text ok_text wcc_fault_text r)
  unfolding wcc_fault_text
  wcc_result_spells (Ok ok) fits range = (u32_text 0, ok_text ok, refl, spells ok fits range, refl)
  wcc_result_spells (Err fault) fits range = (fits, (_, _, refl, wcc_spells fault.wcc range, refl))

-- ---- lists

head_fits : {A : Type 0} (P : A → Type 0) (x : A) (xs : List A) → All P (x ∷ xs) → P x
head_fits P x xs all = all 0 x (omega arith)

tail_fits : {A : Type 0} (P : A → Type 0) (x : A) (xs : List A) → All P (x ∷ xs) → All P xs
tail_fits P x xs all k d lt = all (suc k) d (omega arith)

module _ {A : Type 0} (Is : A → List ℕ → Type 0) (text_of : A → List ℕ) (Fits InRange : A → Type 0) (spells : (x : A) → Fits x → InRange x → Is x (text_of x)) where
  list_spells : (xs : List A) → All Fits xs → All InRange xs → IsList Is xs (list_text text_of xs)
  unfolding list_text
  list_spells [] fits range = refl
  list_spells (x ∷ xs) fits range =
      (u32_text 1, _, refl, (_, _, spells x (head_fits Fits x xs fits) (head_fits InRange x xs range), list_spells xs (tail_fits Fits x xs fits) (tail_fits InRange x xs range), refl), refl)

-- ---- the results of each procedure after status OK

lookup_ok_spells : (ok : LookupOk) → FitsFh ok.object → LookupInRange ok → IsLookupOk ok (lookup_ok_text ok)
unfolding lookup_ok_text
lookup_ok_spells ok fits range = (_, _, fh_spells ok.object fits, (_, _, optional_fattr_spells ok.attributes range.0, optional_fattr_spells ok.dir_attributes range.1, refl), refl)

access_ok_spells : (ok : AccessOk) → Unit {0} → AccessInRange ok → IsAccessOk ok (access_ok_text ok)
unfolding access_ok_text
access_ok_spells ok fits range = (_, _, optional_fattr_spells ok.attributes range.0, (refl, range.1), refl)

readlink_ok_spells : (ok : ReadlinkOk) → FitsBytes ok.path → ReadlinkInRange ok → IsReadlinkOk ok (readlink_ok_text ok)
unfolding readlink_ok_text
readlink_ok_spells ok fits range = (_, _, optional_fattr_spells ok.attributes range, bytes_spells ok.path fits, refl)

read_ok_spells : (ok : ReadOk) → FitsBytes ok.bytes → ReadInRange ok → IsReadOk ok (read_ok_text ok)
unfolding read_ok_text
read_ok_spells ok fits range = (_, _, optional_fattr_spells ok.attributes range.0, (_, _, (refl, range.1), (_, _, refl, bytes_spells ok.bytes fits, refl), refl), refl)

write_ok_spells : (ok : WriteOk) → Unit {0} → WriteInRange ok → IsWriteOk ok (write_ok_text ok)
unfolding write_ok_text
write_ok_spells ok fits range = (_, _, wcc_spells ok.wcc range.0, (_, _, (refl, range.1), (_, _, refl, (refl, range.2), refl), refl), refl)

make_ok_spells : (ok : MakeOk) → IfSome ok.object FitsFh → MakeInRange ok → IsMakeOk ok (make_ok_text ok)
unfolding make_ok_text
make_ok_spells ok fits range = (_, _, optional_fh_spells ok.object fits, (_, _, optional_fattr_spells ok.attributes range.0, wcc_spells ok.wcc range.1, refl), refl)

entry_spells : (e : Entry) → FitsEntry e → EntryInRange e → IsEntry e (entry_text e)
unfolding entry_text
entry_spells e fits range = (_, _, (refl, range.0), (_, _, bytes_spells e.name fits, (refl, range.1), refl), refl)

readdir_ok_spells : (ok : ReaddirOk) → All FitsEntry ok.entries → ReaddirInRange ok → IsReaddirOk ok (readdir_ok_text ok)
unfolding readdir_ok_text
readdir_ok_spells ok fits range = (_, _, optional_fattr_spells ok.attributes range.0, (_, _, (refl, range.1), (_, _, list_spells IsEntry entry_text FitsEntry EntryInRange entry_spells ok.entries fits range.2, refl, refl), refl), refl)

entry_plus_spells : (e : EntryPlus) → FitsEntryPlus e → EntryPlusInRange e → IsEntryPlus e (entry_plus_text e)
unfolding entry_plus_text
entry_plus_spells e fits range = (_, _, (refl, range.0), (_, _, bytes_spells e.name fits.0, (_, _, (refl, range.1), (_, _, optional_fattr_spells e.attributes range.2, optional_fh_spells e.handle fits.1, refl), refl), refl), refl)

readdirplus_ok_spells : (ok : ReaddirplusOk) → All FitsEntryPlus ok.entries → ReaddirplusInRange ok → IsReaddirplusOk ok (readdirplus_ok_text ok)
unfolding readdirplus_ok_text
readdirplus_ok_spells ok fits range = (_, _, optional_fattr_spells ok.attributes range.0, (_, _, (refl, range.1), (_, _, list_spells IsEntryPlus entry_plus_text FitsEntryPlus EntryPlusInRange entry_plus_spells ok.entries fits range.2, refl, refl), refl), refl)

fsstat_ok_spells : (ok : FsstatOk) → Unit {0} → FsstatInRange ok → IsFsstatOk ok (fsstat_ok_text ok)
unfolding fsstat_ok_text fsstat_bytes_text fsstat_files_text
fsstat_ok_spells ok fits range =
    let rest = u64_text ok.total_bytes ++ (u64_text ok.free_bytes ++ (u64_text ok.available_bytes ++ (u64_text ok.total_files ++ (u64_text ok.free_files ++ (u64_text ok.available_files ++ u32_text ok.invariant_seconds))))) in
    (_, rest, optional_fattr_spells ok.attributes range.attributes, (_, _, (refl, range.total_bytes), (_, _, (refl, range.free_bytes), (_, _, (refl, range.available_bytes), (_, _, (refl, range.total_files), (_, _, (refl, range.free_files), (_, _, (refl, range.available_files), (refl, range.invariant_seconds), refl), refl), refl), refl), refl), refl), simp append_assoc)

fsinfo_ok_spells : (ok : FsinfoOk) → Unit {0} → FsinfoInRange ok → IsFsinfoOk ok (fsinfo_ok_text ok)
unfolding fsinfo_ok_text fsinfo_read_text fsinfo_write_text fsinfo_limits_text
fsinfo_ok_spells ok fits range =
    let rest = u32_text ok.read_max ++ (u32_text ok.read_preferred ++ (u32_text ok.read_multiple ++ (u32_text ok.write_max ++ (u32_text ok.write_preferred ++ (u32_text ok.write_multiple ++ (u32_text ok.readdir_preferred ++ (u64_text ok.max_file_size ++ (time_text ok.time_delta ++ u32_text ok.properties)))))))) in
    (_, rest, optional_fattr_spells ok.attributes range.attributes, (_, _, (refl, range.read_max), (_, _, (refl, range.read_preferred), (_, _, (refl, range.read_multiple), (_, _, (refl, range.write_max), (_, _, (refl, range.write_preferred), (_, _, (refl, range.write_multiple), (_, _, (refl, range.readdir_preferred), (_, _, (refl, range.max_file_size), (_, _, time_spells ok.time_delta range.time_delta, (refl, range.properties), refl), refl), refl), refl), refl), refl), refl), refl), refl), simp append_assoc)

pathconf_ok_spells : (ok : PathconfOk) → Unit {0} → PathconfInRange ok → IsPathconfOk ok (pathconf_ok_text ok)
unfolding pathconf_ok_text pathconf_flags_text
pathconf_ok_spells ok fits range = (_, _, optional_fattr_spells ok.attributes range.0, (_, _, (refl, range.1), (_, _, (refl, range.2), (_, _, refl, (_, _, refl, (_, _, refl, refl, refl), refl), refl), refl), refl), refl)

commit_ok_spells : (ok : CommitOk) → Unit {0} → CommitInRange ok → IsCommitOk ok (commit_ok_text ok)
unfolding commit_ok_text
commit_ok_spells ok fits range = (_, _, wcc_spells ok.wcc range.0, (refl, range.1), refl)

-- ---- replies

pub reply_spells : CanonicalTextsSpell
reply_spells Null fits range = refl
reply_spells (Getattr (Ok attributes)) fits range = (_, _, refl, fattr_spells attributes range, refl)
reply_spells (Getattr (Err failure)) fits range = (fits, (_, [], refl, refl, sym (append-nil (u32_text (status_number failure)))))
reply_spells (Setattr outcome wcc) fits range = (_, _, refl, wcc_spells wcc range, refl)
reply_spells (Lookup r) fits range = attr_spells IsLookupOk lookup_ok_text (λ ok. FitsFh ok.object) LookupInRange lookup_ok_spells r fits range
reply_spells (Access r) fits range = attr_spells IsAccessOk access_ok_text (λ ok. Unit {0}) AccessInRange access_ok_spells r fits range
reply_spells (Readlink r) fits range = attr_spells IsReadlinkOk readlink_ok_text (λ ok. FitsBytes ok.path) ReadlinkInRange readlink_ok_spells r fits range
reply_spells (Read r) fits range = attr_spells IsReadOk read_ok_text (λ ok. FitsBytes ok.bytes) ReadInRange read_ok_spells r fits range
reply_spells (Write r) fits range = wcc_result_spells IsWriteOk write_ok_text (λ ok. Unit {0}) WriteInRange write_ok_spells r fits range
reply_spells (Create r) fits range = wcc_result_spells IsMakeOk make_ok_text (λ ok. IfSome ok.object FitsFh) MakeInRange make_ok_spells r fits range
reply_spells (Mkdir r) fits range = wcc_result_spells IsMakeOk make_ok_text (λ ok. IfSome ok.object FitsFh) MakeInRange make_ok_spells r fits range
reply_spells (Symlink r) fits range = wcc_result_spells IsMakeOk make_ok_text (λ ok. IfSome ok.object FitsFh) MakeInRange make_ok_spells r fits range
reply_spells (Mknod r) fits range = wcc_result_spells IsMakeOk make_ok_text (λ ok. IfSome ok.object FitsFh) MakeInRange make_ok_spells r fits range
reply_spells (Remove outcome wcc) fits range = (_, _, refl, wcc_spells wcc range, refl)
reply_spells (Rmdir outcome wcc) fits range = (_, _, refl, wcc_spells wcc range, refl)
reply_spells (Rename outcome from to) fits range = (_, _, refl, (_, _, wcc_spells from range.0, wcc_spells to range.1, refl), refl)
reply_spells (Link outcome attributes wcc) fits range = (_, _, refl, (_, _, optional_fattr_spells attributes range.0, wcc_spells wcc range.1, refl), refl)
reply_spells (Readdir r) fits range = attr_spells IsReaddirOk readdir_ok_text (λ ok. All FitsEntry ok.entries) ReaddirInRange readdir_ok_spells r fits range
reply_spells (Readdirplus r) fits range = attr_spells IsReaddirplusOk readdirplus_ok_text (λ ok. All FitsEntryPlus ok.entries) ReaddirplusInRange readdirplus_ok_spells r fits range
reply_spells (Fsstat r) fits range = attr_spells IsFsstatOk fsstat_ok_text (λ ok. Unit {0}) FsstatInRange fsstat_ok_spells r fits range
reply_spells (Fsinfo r) fits range = attr_spells IsFsinfoOk fsinfo_ok_text (λ ok. Unit {0}) FsinfoInRange fsinfo_ok_spells r fits range
reply_spells (Pathconf r) fits range = attr_spells IsPathconfOk pathconf_ok_text (λ ok. Unit {0}) PathconfInRange pathconf_ok_spells r fits range
reply_spells (Commit r) fits range = wcc_result_spells IsCommitOk commit_ok_text (λ ok. Unit {0}) CommitInRange commit_ok_spells r fits range

pub spelled_is_read : SpellingsAreRead
spelled_is_read r text is = whole_found r text is

pub begins_none : NoSpellingIsAFront
begins_none r s text more same is_r is_s =
    let most = length (text ++ more) in
    let short : length text ≤ most = omega (arith, length-append text more) in
    let first = reply_found r most text more short is_r in
    let second : reply_at (procedure_of s) most (text ++ more) ≡ Some (s, []) = ap (reply_at (procedure_of s) most) (sym (append-nil (text ++ more))) ∙ reply_found s most (text ++ more) [] (omega arith) is_s in
    let both : ◌≡◌ {A = Option (Reply × List ℕ)} (Some (r, more)) (Some (s, [])) = sym first ∙ ap (λ (n : ℕ). reply_at n most (text ++ more)) same ∙ second in
    let p = same_pair (r, more) (s, []) both in
    (ap (λ (q : Reply × List ℕ). q.0) p, ap (λ (q : Reply × List ℕ). q.1) p)
