-- Replies: what is read is spelled so, and what is spelled so is read.
use Rattle.std.proofs.Common.{◌≡◌, ℕ, ◌≤◌, eqb, List, [], ◌∷◌, ◌++◌, length, Option, Some, None, Result, Ok, Err, refl, sym, ap, subst, ◌∙◌, append-nil, arith}
use Rattle.std.specs.Prelude.{IfOk}
use Rattle.std.proofs.lemmas.Bool.{eqb-true}
use Rattle.std.proofs.lemmas.List.{length-append}
use Rattle.std.proofs.lemmas.Option.{cond_some}
use Rattle.sl_defs.specs.Items.{AreBytes}
use Rattle.sl_defs.specs.Parts.{◌⨾◌, ◌⊗◌, IsVoid, IsU64, void_at}
use Rattle.sl_defs.proofs.ItemLaws.{bind_some}
use Rattle.sl_defs.proofs.Readers.{IsReader, Took, made, takes_nothing, both, mapped_takes, mapped_found}
use Rattle.sl_types.specs.declared.fault.ArgsFault.{ArgsFault}
use Rattle.sl_types.specs.declared.fault.ArgsFault.TheVariants as fault
use Rattle.sl_types.specs.declared.reply.AttrFault.{AttrFault}
use Rattle.sl_types.specs.declared.reply.ReaddirOk.{ReaddirOk}
use Rattle.sl_types.specs.declared.reply.ReaddirplusOk.{ReaddirplusOk}
use Rattle.sl_types.specs.declared.reply.Reply.{Reply}
use Rattle.sl_types.specs.declared.reply.Reply.TheVariants.{Null, Getattr, Setattr, Lookup, Access, Readlink, Read, Write, Create, Mkdir, Symlink, Mknod, Remove, Rmdir, Rename, Link, Readdir, Readdirplus, Fsstat, Fsinfo, Pathconf, Commit}
use Rattle.sl_items.specs.Reading.{fattr_at, GivesArgs}
use Rattle.sl_items.specs.Spelling.{IsFattr}
use Rattle.sl_items.proofs.Choices.{chosen}
use Rattle.sl_items.proofs.DataReaders.{fattr_reader}
use Rattle.sl_replies.specs.Results.{IsStatus, IsFlag, IsPostOpAttr, IsWcc, IsResult, IsAttrResult, IsWccResult, IsLookupOk, IsAccessOk, IsReadlinkOk, IsReadOk, IsWriteOk, IsMakeOk, IsFsstatOk, IsFsinfoOk, IsPathconfOk, IsCommitOk, IsEntry, IsEntryPlus, IsReaddirOk, IsReaddirplusOk, procedure_of, IsReply, IsReplyTo}
use Rattle.sl_replies.specs.Reading.{status_at, post_op_attr_at, wcc_at, result_at, attr_fault_at, wcc_fault_at, lookup_ok_at, access_ok_at, readlink_ok_at, read_ok_at, write_ok_at, make_ok_at, readdir_ok_at, readdirplus_ok_at, fsstat_ok_at, fsinfo_ok_at, pathconf_ok_at, commit_ok_at, rename_at, link_at, reply_at, whole, reply_of}
use Rattle.sl_replies.proofs.ResultReaders.{status_reader, post_op_attr_reader, wcc_reader, results, no_fault_reader, attr_fault_reader, wcc_fault_reader, IsReaddirShort, IsReaddirplusShort, any_length, short_enough, lookup_ok_reader, access_ok_reader, readlink_ok_reader, read_ok_reader, write_ok_reader, make_ok_reader, readdir_ok_reader, readdirplus_ok_reader, fsstat_ok_reader, fsinfo_ok_reader, pathconf_ok_reader, commit_ok_reader}

-- ---- the results of each procedure

getattr : IsReader (result_at fattr_at void_at) (IsResult IsFattr (λ fault. fault) (λ fault. IsVoid))
getattr = results fattr_reader no_fault_reader

lookup : IsReader (result_at lookup_ok_at attr_fault_at) (IsAttrResult IsLookupOk)
lookup = results lookup_ok_reader attr_fault_reader

access : IsReader (result_at access_ok_at attr_fault_at) (IsAttrResult IsAccessOk)
access = results access_ok_reader attr_fault_reader

readlink : IsReader (result_at readlink_ok_at attr_fault_at) (IsAttrResult IsReadlinkOk)
readlink = results readlink_ok_reader attr_fault_reader

read : IsReader (result_at read_ok_at attr_fault_at) (IsAttrResult IsReadOk)
read = results read_ok_reader attr_fault_reader

write : IsReader (result_at write_ok_at wcc_fault_at) (IsWccResult IsWriteOk)
write = results write_ok_reader wcc_fault_reader

make : IsReader (result_at make_ok_at wcc_fault_at) (IsWccResult IsMakeOk)
make = results make_ok_reader wcc_fault_reader

readdir : (most : ℕ) → IsReader (result_at (readdir_ok_at most) attr_fault_at) (IsAttrResult (IsReaddirShort most))
readdir most = results (readdir_ok_reader most) attr_fault_reader

readdirplus : (most : ℕ) → IsReader (result_at (readdirplus_ok_at most) attr_fault_at) (IsAttrResult (IsReaddirplusShort most))
readdirplus most = results (readdirplus_ok_reader most) attr_fault_reader

fsstat : IsReader (result_at fsstat_ok_at attr_fault_at) (IsAttrResult IsFsstatOk)
fsstat = results fsstat_ok_reader attr_fault_reader

fsinfo : IsReader (result_at fsinfo_ok_at attr_fault_at) (IsAttrResult IsFsinfoOk)
fsinfo = results fsinfo_ok_reader attr_fault_reader

pathconf : IsReader (result_at pathconf_ok_at attr_fault_at) (IsAttrResult IsPathconfOk)
pathconf = results pathconf_ok_reader attr_fault_reader

commit : IsReader (result_at commit_ok_at wcc_fault_at) (IsWccResult IsCommitOk)
commit = results commit_ok_reader wcc_fault_reader

changed : IsReader (status_at ⊗ wcc_at) (λ x. IsStatus x.0 ⨾ IsWcc x.1)
changed = both status_reader wcc_reader

rename : IsReader (status_at ⊗ wcc_at ⊗ wcc_at) (λ x. IsStatus x.0 ⨾ IsWcc x.1.0 ⨾ IsWcc x.1.1)
rename = both status_reader (both wcc_reader wcc_reader)

link : IsReader (status_at ⊗ post_op_attr_at ⊗ wcc_at) (λ x. IsStatus x.0 ⨾ IsPostOpAttr x.1.0 ⨾ IsWcc x.1.1)
link = both status_reader (both post_op_attr_reader wcc_reader)

-- results whose part after status OK is spelled in another way too
respelled : {A : Type 0} (P Q : A → List ℕ → Type 0) (most : ℕ) → ((ok : A) (text : List ℕ) → length text ≤ most → P ok text → Q ok text) → (r : Result A AttrFault) (text : List ℕ) → length text ≤ most → IsAttrResult P r text → IsAttrResult Q r text
respelled P Q most f (Ok ok) text fits is = (is.0, is.1, is.2, f ok is.1 (omega (arith, fits, ap length is.4, length-append is.0 is.1)) is.3, is.4)
respelled P Q most f (Err e) text fits is = is

readdir_long : (most : ℕ) (r : Result ReaddirOk AttrFault) (text : List ℕ) → IsAttrResult (IsReaddirShort most) r text → IsAttrResult IsReaddirOk r text
readdir_long most r text is = respelled (IsReaddirShort most) IsReaddirOk (length text) (λ ok text fits is. any_length IsEntry (IsPostOpAttr ok.attributes) (IsU64 ok.cookie_verifier) (IsFlag ok.eof) ok.entries most text is) r text (omega arith) is

readdir_short : (most : ℕ) (r : Result ReaddirOk AttrFault) (text : List ℕ) → length text ≤ most → IsAttrResult IsReaddirOk r text → IsAttrResult (IsReaddirShort most) r text
readdir_short most r text fits is = respelled IsReaddirOk (IsReaddirShort most) most (λ ok text fits is. short_enough IsEntry (IsPostOpAttr ok.attributes) (IsU64 ok.cookie_verifier) (IsFlag ok.eof) ok.entries most text fits is) r text fits is

readdirplus_long : (most : ℕ) (r : Result ReaddirplusOk AttrFault) (text : List ℕ) → IsAttrResult (IsReaddirplusShort most) r text → IsAttrResult IsReaddirplusOk r text
readdirplus_long most r text is = respelled (IsReaddirplusShort most) IsReaddirplusOk (length text) (λ ok text fits is. any_length IsEntryPlus (IsPostOpAttr ok.attributes) (IsU64 ok.cookie_verifier) (IsFlag ok.eof) ok.entries most text is) r text (omega arith) is

readdirplus_short : (most : ℕ) (r : Result ReaddirplusOk AttrFault) (text : List ℕ) → length text ≤ most → IsAttrResult IsReaddirplusOk r text → IsAttrResult (IsReaddirplusShort most) r text
readdirplus_short most r text fits is = respelled IsReaddirplusOk (IsReaddirplusShort most) most (λ ok text fits is. short_enough IsEntryPlus (IsPostOpAttr ok.attributes) (IsU64 ok.cookie_verifier) (IsFlag ok.eof) ok.entries most text fits is) r text fits is

-- ---- what is spelled is read

pub reply_found : (r : Reply) (most : ℕ) (text rest : List ℕ) → length text ≤ most → IsReply r text → reply_at (procedure_of r) most (text ++ rest) ≡ Some (r, rest)
unfolding reply_at rename_at link_at
reply_found Null most text rest fits is = rw is refl
reply_found (Getattr r) most text rest fits is = mapped_found getattr Getattr r text rest is
reply_found (Setattr s w) most text rest fits is = mapped_found changed (λ x. Setattr x.0 x.1) (s, w) text rest is
reply_found (Lookup r) most text rest fits is = mapped_found lookup Lookup r text rest is
reply_found (Access r) most text rest fits is = mapped_found access Access r text rest is
reply_found (Readlink r) most text rest fits is = mapped_found readlink Readlink r text rest is
reply_found (Read r) most text rest fits is = mapped_found read Read r text rest is
reply_found (Write r) most text rest fits is = mapped_found write Write r text rest is
reply_found (Create r) most text rest fits is = mapped_found make Create r text rest is
reply_found (Mkdir r) most text rest fits is = mapped_found make Mkdir r text rest is
reply_found (Symlink r) most text rest fits is = mapped_found make Symlink r text rest is
reply_found (Mknod r) most text rest fits is = mapped_found make Mknod r text rest is
reply_found (Remove s w) most text rest fits is = mapped_found changed (λ x. Remove x.0 x.1) (s, w) text rest is
reply_found (Rmdir s w) most text rest fits is = mapped_found changed (λ x. Rmdir x.0 x.1) (s, w) text rest is
reply_found (Rename s v w) most text rest fits is = mapped_found rename (λ x. Rename x.0 x.1.0 x.1.1) (s, (v, w)) text rest is
reply_found (Link s a w) most text rest fits is = mapped_found link (λ x. Link x.0 x.1.0 x.1.1) (s, (a, w)) text rest is
reply_found (Readdir r) most text rest fits is = mapped_found (readdir most) Readdir r text rest (readdir_short most r text fits is)
reply_found (Readdirplus r) most text rest fits is = mapped_found (readdirplus most) Readdirplus r text rest (readdirplus_short most r text fits is)
reply_found (Fsstat r) most text rest fits is = mapped_found fsstat Fsstat r text rest is
reply_found (Fsinfo r) most text rest fits is = mapped_found fsinfo Fsinfo r text rest is
reply_found (Pathconf r) most text rest fits is = mapped_found pathconf Pathconf r text rest is
reply_found (Commit r) most text rest fits is = mapped_found commit Commit r text rest is

-- ---- what is read is spelled

pub reply_takes : (n most : ℕ) (bytes : List ℕ) (x : Reply × List ℕ) → AreBytes bytes → reply_at n most bytes ≡ Some x → Took (IsReplyTo n) bytes x
unfolding reply_at rename_at link_at
reply_takes n most bytes x fits e =
    let P = Took (IsReplyTo n) bytes x in
    let I = IsReplyTo n in
    let z = Some x in
    chosen n 0 _ _ bytes z P e (λ is h. made I bytes Null bytes [] x h (refl, sym is) (takes_nothing bytes fits)) (λ e1.
    chosen n 1 _ _ bytes z P e1 (λ is h. mapped_takes getattr I Getattr (λ a text t. (t, sym is)) bytes x fits h) (λ e2.
    chosen n 2 _ _ bytes z P e2 (λ is h. mapped_takes changed I (λ x. Setattr x.0 x.1) (λ a text t. (t, sym is)) bytes x fits h) (λ e3.
    chosen n 3 _ _ bytes z P e3 (λ is h. mapped_takes lookup I Lookup (λ a text t. (t, sym is)) bytes x fits h) (λ e4.
    chosen n 4 _ _ bytes z P e4 (λ is h. mapped_takes access I Access (λ a text t. (t, sym is)) bytes x fits h) (λ e5.
    chosen n 5 _ _ bytes z P e5 (λ is h. mapped_takes readlink I Readlink (λ a text t. (t, sym is)) bytes x fits h) (λ e6.
    chosen n 6 _ _ bytes z P e6 (λ is h. mapped_takes read I Read (λ a text t. (t, sym is)) bytes x fits h) (λ e7.
    chosen n 7 _ _ bytes z P e7 (λ is h. mapped_takes write I Write (λ a text t. (t, sym is)) bytes x fits h) (λ e8.
    chosen n 8 _ _ bytes z P e8 (λ is h. mapped_takes make I Create (λ a text t. (t, sym is)) bytes x fits h) (λ e9.
    chosen n 9 _ _ bytes z P e9 (λ is h. mapped_takes make I Mkdir (λ a text t. (t, sym is)) bytes x fits h) (λ e10.
    chosen n 10 _ _ bytes z P e10 (λ is h. mapped_takes make I Symlink (λ a text t. (t, sym is)) bytes x fits h) (λ e11.
    chosen n 11 _ _ bytes z P e11 (λ is h. mapped_takes make I Mknod (λ a text t. (t, sym is)) bytes x fits h) (λ e12.
    chosen n 12 _ _ bytes z P e12 (λ is h. mapped_takes changed I (λ x. Remove x.0 x.1) (λ a text t. (t, sym is)) bytes x fits h) (λ e13.
    chosen n 13 _ _ bytes z P e13 (λ is h. mapped_takes changed I (λ x. Rmdir x.0 x.1) (λ a text t. (t, sym is)) bytes x fits h) (λ e14.
    chosen n 14 _ _ bytes z P e14 (λ is h. mapped_takes rename I (λ x. Rename x.0 x.1.0 x.1.1) (λ a text t. (t, sym is)) bytes x fits h) (λ e15.
    chosen n 15 _ _ bytes z P e15 (λ is h. mapped_takes link I (λ x. Link x.0 x.1.0 x.1.1) (λ a text t. (t, sym is)) bytes x fits h) (λ e16.
    chosen n 16 _ _ bytes z P e16 (λ is h. mapped_takes (readdir most) I Readdir (λ r text t. (readdir_long most r text t, sym is)) bytes x fits h) (λ e17.
    chosen n 17 _ _ bytes z P e17 (λ is h. mapped_takes (readdirplus most) I Readdirplus (λ r text t. (readdirplus_long most r text t, sym is)) bytes x fits h) (λ e18.
    chosen n 18 _ _ bytes z P e18 (λ is h. mapped_takes fsstat I Fsstat (λ a text t. (t, sym is)) bytes x fits h) (λ e19.
    chosen n 19 _ _ bytes z P e19 (λ is h. mapped_takes fsinfo I Fsinfo (λ a text t. (t, sym is)) bytes x fits h) (λ e20.
    chosen n 20 _ _ bytes z P e20 (λ is h. mapped_takes pathconf I Pathconf (λ a text t. (t, sym is)) bytes x fits h) (λ e21.
    chosen n 21 _ _ bytes z P e21 (λ is h. mapped_takes commit I Commit (λ a text t. (t, sym is)) bytes x fits h) (λ none. absurd cc))))))))))))))))))))))

-- ---- the whole bytes

empty_is : (rest : List ℕ) → length rest ≡ 0 → rest ≡ []
empty_is [] e = refl
empty_is (b ∷ bs) e = absurd (omega arith)

whole_takes : (n : ℕ) (bytes : List ℕ) (r : Reply) → AreBytes bytes → reply_of n bytes ≡ Some r → IsReplyTo n r bytes
unfolding reply_of
whole_takes n bytes r fits e =
    let b = bind_some (reply_at n (length bytes) bytes) whole r e in
    let g = cond_some (eqb (length b.0.1) 0) b.0.0 r b.2 in
    let t = reply_takes n (length bytes) bytes b.0 fits b.1 in
    let all : bytes ≡ t.0 = t.2.parts ∙ ap (λ (rest : List ℕ). t.0 ++ rest) (empty_is b.0.1 (eqb-true _ _ g.0)) ∙ append-nil t.0 in
    subst (λ (text : List ℕ). IsReplyTo n r text) (sym all) (subst (λ (r : Reply). IsReplyTo n r t.0) g.1 t.1)

pub whole_found : (r : Reply) (bytes : List ℕ) → IsReply r bytes → reply_of (procedure_of r) bytes ≡ Some r
unfolding reply_of
whole_found r bytes is = rw (ap (reply_at (procedure_of r) (length bytes)) (sym (append-nil bytes)) ∙ reply_found r (length bytes) bytes [] (omega arith) is) refl

clash : {A : Type 0} (x : A) → ◌≡◌ {A = Option A} None (Some x) → ⊥
clash x e = cc

module _ (n : ℕ) (bytes : List ℕ) where
  pub reply_is_found : (r : Result Reply ArgsFault) → AreBytes bytes → GivesArgs (λ r. r) r (reply_of n bytes) → IfOk r (λ reply. IsReplyTo n reply bytes)
  reply_is_found (Ok reply) fits gives = whole_takes n bytes reply fits gives
  reply_is_found (Err e) fits gives = tt

  pub no_reply : (r : Result Reply ArgsFault) → GivesArgs (λ r. r) r (reply_of n bytes) → r ≡ Err fault.Garbage → (reply : Reply) → IsReplyTo n reply bytes → ⊥
  no_reply (Ok reply) gives e = absurd cc
  no_reply (Err fault.Garbage) gives e = λ reply is. clash reply (sym gives ∙ ap (λ (n : ℕ). reply_of n bytes) (sym is.1) ∙ whole_found reply bytes is.0)
  no_reply (Err fault.NoMemory) gives e = absurd cc
