-- Where the fields of each procedure's results stand.
use Rattle.std.proofs.Common.{◌≡◌, ℕ, ◌+◌, ◌-◌, Bool, true, false, cond, leb, List, [], ◌++◌, length, drop, Option, Some, None, Ok, Err, refl, sym, ap, subst, ◌∙◌, append_assoc, append-nil, arith}
use Rattle.std.proofs.lemmas.Bool.{le-leb}
use Rattle.std.proofs.lemmas.List.{drop_at, length-append}
use Rattle.sl_defs.specs.Items.{u32_text, ◌>>=◌}
use Rattle.sl_defs.specs.Parts.{◌⨾◌, IsU32, IsU64, IsOptional}
use Rattle.sl_defs.proofs.ItemLaws.{length-u32_text}
use Rattle.sl_defs.proofs.Readers.{IsReader, u32_reader, u64_reader, both, optional}
use Rattle.sl_types.specs.declared.attributes.Fattr.{Fattr}
use Rattle.sl_types.specs.declared.kind.Status.{Status}
use Rattle.sl_types.specs.declared.kind.Status.TheVariants as status
use Rattle.sl_types.specs.declared.call.Stable.{Stable}
use Rattle.sl_types.specs.declared.reply.Wcc.{Wcc}
use Rattle.sl_types.specs.declared.reply.Reply.{Reply}
use Rattle.sl_types.specs.declared.reply.Reply.TheVariants as reply
use Rattle.sl_types.specs.Numbers.{status_number, is_ok_status}
use Rattle.sl_items.specs.Spelling.{IsFh, IsBytes, IsFattr, IsStable, stable_number}
use Rattle.sl_items.proofs.DataReaders.{fh_reader, time_reader}
use Rattle.sl_replies.specs.Reading.{wcc_attr_at}
use Rattle.sl_replies.specs.Results.{IsStatus, IsFlag, IsPostOpAttr, IsPostOpFh, WccAttr, IsWccAttr, IsWcc, IsList, IsEntry, IsEntryPlus, IsReply, IsReplyTo, procedure_of}
use Rattle.sl_replies.proofs.ResultReaders.{post_op_attr_reader, post_op_fh_reader}
use Rattle.sl_edit.specs.Fields.{attributes_of, with_attributes, made_with_attributes, verifier_of, with_verifier, eof_of, with_eof, object_of, with_object, made_with_object}
use Rattle.sl_edit.specs.Spans.{word_at, behind_u32, behind_handle, behind_pre_op, behind_optional_handle, behind_post_op, behind_wcc, layout_of, attributes_from, attributes_in, verifier_from, verifier_in, last_from, eof_from, eof_in, object_from, object_in}
use Rattle.sl_edit.proofs.Numbers.{stable_fits}
use Rattle.sl_edit.proofs.Inner.{InnerIf, At, AtIf, at_end, here, then_more, behind, turned, moved, flagged, ok_passes, fault_stops}

-- ---- what reading passes

wcc_attr_reader : IsReader wcc_attr_at IsWccAttr
unfolding wcc_attr_at
wcc_attr_reader = both u64_reader (both time_reader time_reader)

handle_passes : (fh text rest : List ℕ) → IsFh fh text → behind_handle (text ++ rest) ≡ Some rest
handle_passes fh text rest is = rw (fh_reader.found fh text rest is) refl

pre_op_passes : (o : Option WccAttr) (text rest : List ℕ) → IsOptional IsWccAttr o text → behind_pre_op (text ++ rest) ≡ Some rest
unfolding behind_pre_op
pre_op_passes o text rest is = rw ((optional wcc_attr_reader).found o text rest is) refl

optional_handle_passes : (o : Option (List ℕ)) (text rest : List ℕ) → IsPostOpFh o text → behind_optional_handle (text ++ rest) ≡ Some rest
unfolding behind_optional_handle
optional_handle_passes o text rest is = rw (post_op_fh_reader.found o text rest is) refl

post_op_passes : (o : Option Fattr) (text rest : List ℕ) → IsPostOpAttr o text → behind_post_op (text ++ rest) ≡ Some rest
unfolding behind_post_op
post_op_passes o text rest is = rw (post_op_attr_reader.found o text rest is) refl

wcc_passes : (w : Wcc) (text rest : List ℕ) → IsWcc w text → behind_wcc (text ++ rest) ≡ Some rest
unfolding behind_wcc
wcc_passes w text rest is =
    let parts = is.1 in
    ap behind_wcc (ap (λ (t : List ℕ). t ++ rest) parts.4 ∙ append_assoc parts.0 parts.1 rest)
    ∙ rw (pre_op_passes is.0 parts.0 (parts.1 ++ rest) parts.2) (post_op_passes w.after parts.1 rest parts.3)

u32_passes : (n : ℕ) (text rest : List ℕ) → IsU32 n text → behind_u32 (text ++ rest) ≡ Some rest
unfolding behind_u32
u32_passes n text rest is = rw (u32_reader.found n text rest is) refl

stable_passes : (s : Stable) (text rest : List ℕ) → IsStable s text → behind_u32 (text ++ rest) ≡ Some rest
stable_passes s text rest is = u32_passes (stable_number s) text rest (is, stable_fits s)

-- where nothing is read behind anything
nothing : {A B : Type 0} (x : Option A) (f : A → Option B) → ((a : A) → f a ≡ None) → (x >>= f) ≡ None
nothing None f none = refl
nothing (Some a) f none = none a

ok_is : (s : Status) → is_ok_status s ≡ true → s ≡ status.Ok
ok_is status.Ok e = refl
ok_is other e = absurd cc

-- ---- fields at the front of what stands behind a status

module _ {V : Type 0} (Spells : V → List ℕ → Type 0) where
  -- results that are OK
  ok_first : (Is : V → List ℕ → Type 0) (from : List ℕ → Option (List ℕ)) (o : Option V) (Now : List ℕ → Type 0) (text : List ℕ) (is : (IsStatus status.Ok ⨾ Now) text) → InnerIf Spells Is from o is.1
      → InnerIf Spells (λ v. IsStatus status.Ok ⨾ Is v) (λ t. word_at 0 t >>= from) o text
  ok_first Is from o Now text is i =
      moved Spells (λ v. IsStatus status.Ok ⨾ Is v) (λ t. word_at 0 t >>= from) o (is.0 ++ is.1) text is.4
      (behind Spells Is (word_at 0) from (IsStatus status.Ok) o is.0 is.1 is.2 (λ rest. ok_passes is.0 rest is.2) i)

  -- results with a failure
  failed : (from : List ℕ → Option (List ℕ)) (s : Status) (Now : List ℕ → Type 0) (text : List ℕ) → is_ok_status s ≡ false → (IsStatus s ⨾ Now) text → (rest : List ℕ) → (word_at 0 (text ++ rest) >>= from) ≡ None
  failed from s Now text not_ok is rest =
      ap (λ (t : List ℕ). word_at 0 t >>= from) (ap (λ (t : List ℕ). t ++ rest) is.4 ∙ append_assoc is.0 is.1 rest)
      ∙ rw (fault_stops s is.0 (is.1 ++ rest) not_ok is.2) refl

  -- results whose form is the same whatever the status
  either_first : (Is : V → List ℕ → Type 0) (from : List ℕ → Option (List ℕ)) (o : Option V) (s : Status) (Now : List ℕ → Type 0) (text : List ℕ) (is : (IsStatus s ⨾ Now) text) → InnerIf Spells Is from o is.1
      → InnerIf Spells (λ v. IsStatus s ⨾ Is v) (λ t. word_at 0 t >>= from) (cond (is_ok_status s) o None) text
  either_first Is from o s Now text is i =
      elim (is_ok_status s) as (λ b. is_ok_status s ≡ b → InnerIf Spells (λ v. IsStatus s ⨾ Is v) (λ t. word_at 0 t >>= from) (cond b o None) text) [
        | true ↦ λ ok.
            moved Spells (λ v. IsStatus s ⨾ Is v) (λ t. word_at 0 t >>= from) o (is.0 ++ is.1) text is.4
            (behind Spells Is (word_at 0) from (IsStatus s) o is.0 is.1 is.2 (λ rest. ok_passes is.0 rest (is.2 ∙ ap (λ (s : Status). u32_text (status_number s)) (ok_is s ok))) i)
        | false ↦ λ not_ok. failed from s Now text not_ok is
      ] refl

  -- what holds of the results of a reply holds of the reply
  replied : (r : Reply) (with_value : V → Reply) (from : List ℕ → Option (List ℕ)) (o : Option V) (text : List ℕ) → ((v : V) → procedure_of (with_value v) ≡ procedure_of r)
      → InnerIf Spells (λ v. IsReply (with_value v)) from o text → InnerIf Spells (λ v. IsReplyTo (procedure_of r) (with_value v)) from o text
  replied r with_value from o text same i = turned Spells (λ v. IsReply (with_value v)) (λ v. IsReplyTo (procedure_of r) (with_value v)) from o text (λ v t is. (is, same v)) i

  -- behind another part
  behind_first : (pass : List ℕ → Option (List ℕ)) (First : List ℕ → Type 0) (Is : V → List ℕ → Type 0) (from : List ℕ → Option (List ℕ)) (o : Option V) (Now : List ℕ → Type 0) (text : List ℕ) (is : (First ⨾ Now) text)
      → ((first rest : List ℕ) → First first → pass (first ++ rest) ≡ Some rest) → InnerIf Spells Is from o is.1 → InnerIf Spells (λ v. First ⨾ Is v) (λ t. pass t >>= from) o text
  behind_first pass First Is from o Now text is passes i =
      moved Spells (λ v. First ⨾ Is v) (λ t. pass t >>= from) o (is.0 ++ is.1) text is.4
      (behind Spells Is pass from First o is.0 is.1 is.2 (λ rest. passes is.0 rest is.2) i)

  -- at the very front
  front_first : (value : V) (Others : List ℕ → Type 0) (text : List ℕ) → (Spells value ⨾ Others) text → InnerIf Spells (λ v. Spells v ⨾ Others) Some (Some value) text
  front_first value Others text is =
      moved Spells (λ v. Spells v ⨾ Others) Some (Some value) (is.0 ++ is.1) text is.4
      (then_more Spells Spells Some Others (Some value) is.0 is.1 is.3 (here Spells value is.0 is.2))

-- ---- attributes

abbrev with_after : Fattr → Wcc
with_after a = record { after = Some a }

post_first : (o : Option Fattr) (Others : List ℕ → Type 0) (text : List ℕ) → (IsPostOpAttr o ⨾ Others) text → InnerIf IsFattr (λ a. IsPostOpAttr (Some a) ⨾ Others) (word_at 1) o text
post_first o Others text is =
    moved IsFattr (λ a. IsPostOpAttr (Some a) ⨾ Others) (word_at 1) o (is.0 ++ is.1) text is.4
    (then_more IsFattr (λ a. IsPostOpAttr (Some a)) (word_at 1) Others o is.0 is.1 is.3 (flagged IsFattr o is.0 is.2))

abbrev in_wcc : List ℕ → Option (List ℕ)
in_wcc t = behind_pre_op t >>= word_at 1

wcc_alone : (w : Wcc) (text : List ℕ) → IsWcc w text → InnerIf IsFattr (λ a. IsWcc (with_after a)) in_wcc w.after text
wcc_alone w text is =
    let parts = is.1 in
    moved IsFattr (λ a. IsWcc (with_after a)) in_wcc w.after (parts.0 ++ parts.1) text parts.4
    (turned IsFattr (λ a. IsOptional IsWccAttr is.0 ⨾ IsPostOpAttr (Some a)) (λ a. IsWcc (with_after a)) in_wcc w.after (parts.0 ++ parts.1) (λ a t i. (is.0, i))
    (behind IsFattr (λ a. IsPostOpAttr (Some a)) behind_pre_op (word_at 1) (IsOptional IsWccAttr is.0) w.after parts.0 parts.1 parts.2 (λ rest. pre_op_passes is.0 parts.0 rest parts.2) (flagged IsFattr w.after parts.1 parts.3)))

wcc_first : (w : Wcc) (Others : List ℕ → Type 0) (text : List ℕ) → (IsWcc w ⨾ Others) text → InnerIf IsFattr (λ a. IsWcc (with_after a) ⨾ Others) in_wcc w.after text
wcc_first w Others text is =
    moved IsFattr (λ a. IsWcc (with_after a) ⨾ Others) in_wcc w.after (is.0 ++ is.1) text is.4
    (then_more IsFattr (λ a. IsWcc (with_after a)) in_wcc Others w.after is.0 is.1 is.3 (wcc_alone w is.0 is.2))

-- behind a part that is passed
post_behind : (pass : List ℕ → Option (List ℕ)) (First : List ℕ → Type 0) (o : Option Fattr) (Others : List ℕ → Type 0) (text : List ℕ) → ((first rest : List ℕ) → First first → pass (first ++ rest) ≡ Some rest) → (First ⨾ IsPostOpAttr o ⨾ Others) text
    → InnerIf IsFattr (λ a. First ⨾ IsPostOpAttr (Some a) ⨾ Others) (λ t. pass t >>= word_at 1) o text
post_behind pass First o Others text passes is =
    moved IsFattr (λ a. First ⨾ IsPostOpAttr (Some a) ⨾ Others) (λ t. pass t >>= word_at 1) o (is.0 ++ is.1) text is.4
    (behind IsFattr (λ a. IsPostOpAttr (Some a) ⨾ Others) pass (word_at 1) First o is.0 is.1 is.2 (λ rest. passes is.0 rest is.2) (post_first o Others is.1 is.3))

-- the same of the results of a reply that are OK, by what stands at their front
module _ (r : Reply) (with_value : Fattr → Reply) (same : (a : Fattr) → procedure_of (with_value a) ≡ procedure_of r) (o : Option Fattr) (Others : List ℕ → Type 0) (text : List ℕ) where
  ok_post : ((a : Fattr) (t : List ℕ) → (IsStatus status.Ok ⨾ IsPostOpAttr (Some a) ⨾ Others) t → IsReply (with_value a) t) → (IsStatus status.Ok ⨾ IsPostOpAttr o ⨾ Others) text
      → InnerIf IsFattr (λ a. IsReplyTo (procedure_of r) (with_value a)) (λ t. word_at 0 t >>= word_at 1) o text
  ok_post reads is =
      replied IsFattr r with_value (λ t. word_at 0 t >>= word_at 1) o text same
      (turned IsFattr (λ a. IsStatus status.Ok ⨾ IsPostOpAttr (Some a) ⨾ Others) (λ a. IsReply (with_value a)) (λ t. word_at 0 t >>= word_at 1) o text reads
      (ok_first IsFattr (λ a. IsPostOpAttr (Some a) ⨾ Others) (word_at 1) o (IsPostOpAttr o ⨾ Others) text is (post_first o Others is.1 is.3)))

  ok_behind : (pass : List ℕ → Option (List ℕ)) (First : List ℕ → Type 0) → ((first rest : List ℕ) → First first → pass (first ++ rest) ≡ Some rest)
      → ((a : Fattr) (t : List ℕ) → (IsStatus status.Ok ⨾ First ⨾ IsPostOpAttr (Some a) ⨾ Others) t → IsReply (with_value a) t) → (IsStatus status.Ok ⨾ First ⨾ IsPostOpAttr o ⨾ Others) text
      → InnerIf IsFattr (λ a. IsReplyTo (procedure_of r) (with_value a)) (λ t. word_at 0 t >>= (λ u. pass u >>= word_at 1)) o text
  ok_behind pass First passes reads is =
      replied IsFattr r with_value (λ t. word_at 0 t >>= (λ u. pass u >>= word_at 1)) o text same
      (turned IsFattr (λ a. IsStatus status.Ok ⨾ First ⨾ IsPostOpAttr (Some a) ⨾ Others) (λ a. IsReply (with_value a)) (λ t. word_at 0 t >>= (λ u. pass u >>= word_at 1)) o text reads
      (ok_first IsFattr (λ a. First ⨾ IsPostOpAttr (Some a) ⨾ Others) (λ u. pass u >>= word_at 1) o (First ⨾ IsPostOpAttr o ⨾ Others) text is (post_behind pass First o Others is.1 passes is.3)))

ok_wcc : (r : Reply) (with_value : Fattr → Reply) (same : (a : Fattr) → procedure_of (with_value a) ≡ procedure_of r) (w : Wcc) (Others : List ℕ → Type 0) (text : List ℕ)
    → ((a : Fattr) (t : List ℕ) → (IsStatus status.Ok ⨾ IsWcc (with_after a) ⨾ Others) t → IsReply (with_value a) t) → (IsStatus status.Ok ⨾ IsWcc w ⨾ Others) text
    → InnerIf IsFattr (λ a. IsReplyTo (procedure_of r) (with_value a)) (λ t. word_at 0 t >>= in_wcc) w.after text
ok_wcc r with_value same w Others text reads is =
    replied IsFattr r with_value (λ t. word_at 0 t >>= in_wcc) w.after text same
    (turned IsFattr (λ a. IsStatus status.Ok ⨾ IsWcc (with_after a) ⨾ Others) (λ a. IsReply (with_value a)) (λ t. word_at 0 t >>= in_wcc) w.after text reads
    (ok_first IsFattr (λ a. IsWcc (with_after a) ⨾ Others) in_wcc w.after (IsWcc w ⨾ Others) text is (wcc_first w Others is.1 is.3)))

pub attributes_stand : (r : Reply) (text : List ℕ) → IsReply r text → InnerIf IsFattr (λ a. IsReplyTo (procedure_of r) (with_attributes a r)) (attributes_in (procedure_of r)) (attributes_of r) text
unfolding attributes_in layout_of attributes_from
attributes_stand reply.Null text is = λ rest. refl
attributes_stand (reply.Getattr (Ok a)) text is = replied IsFattr (reply.Getattr (Ok a)) (λ a. reply.Getattr (Ok a)) (λ t. word_at 0 t >>= Some) (Some a) text (λ v. refl) (ok_first IsFattr IsFattr Some (Some a) (IsFattr a) text is (here IsFattr a is.1 is.3))
attributes_stand (reply.Getattr (Err s)) text is = failed IsFattr Some s _ text is.0 is.1
attributes_stand (reply.Setattr s w) text is = replied IsFattr (reply.Setattr s w) (λ a. reply.Setattr s (with_after a)) (λ t. word_at 0 t >>= in_wcc) (cond (is_ok_status s) w.after None) text (λ v. refl) (either_first IsFattr (λ a. IsWcc (with_after a)) in_wcc w.after s (IsWcc w) text is (wcc_alone w is.1 is.3))
attributes_stand (reply.Lookup (Ok ok)) text is = ok_behind (reply.Lookup (Ok ok)) (λ a. reply.Lookup (Ok (record ok { attributes = Some a }))) (λ v. refl) ok.attributes (IsPostOpAttr ok.dir_attributes) text behind_handle (IsFh ok.object) (λ first rest. handle_passes ok.object first rest) (λ a t i. i) is
attributes_stand (reply.Access (Ok ok)) text is = ok_post (reply.Access (Ok ok)) (λ a. reply.Access (Ok (record ok { attributes = Some a }))) (λ v. refl) ok.attributes (IsU32 ok.bits) text (λ a t i. i) is
attributes_stand (reply.Readlink (Ok ok)) text is = ok_post (reply.Readlink (Ok ok)) (λ a. reply.Readlink (Ok (record ok { attributes = Some a }))) (λ v. refl) ok.attributes (IsBytes ok.path) text (λ a t i. i) is
attributes_stand (reply.Read (Ok ok)) text is = ok_post (reply.Read (Ok ok)) (λ a. reply.Read (Ok (record ok { attributes = Some a }))) (λ v. refl) ok.attributes (IsU32 ok.count ⨾ IsFlag ok.eof ⨾ IsBytes ok.bytes) text (λ a t i. i) is
attributes_stand (reply.Write (Ok ok)) text is = ok_wcc (reply.Write (Ok ok)) (λ a. reply.Write (Ok (record ok { wcc = with_after a }))) (λ v. refl) ok.wcc (IsU32 ok.count ⨾ IsStable ok.committed ⨾ IsU64 ok.verifier) text (λ a t i. i) is
attributes_stand (reply.Remove s w) text is = λ rest. refl
attributes_stand (reply.Rmdir s w) text is = λ rest. refl
attributes_stand (reply.Rename s from to) text is = λ rest. refl
attributes_stand (reply.Link s attributes w) text is = replied IsFattr (reply.Link s attributes w) (λ a. reply.Link s (Some a) w) (λ t. word_at 0 t >>= word_at 1) (cond (is_ok_status s) attributes None) text (λ v. refl) (either_first IsFattr (λ a. IsPostOpAttr (Some a) ⨾ IsWcc w) (word_at 1) attributes s (IsPostOpAttr attributes ⨾ IsWcc w) text is (post_first attributes (IsWcc w) is.1 is.3))
attributes_stand (reply.Readdir result) text is = λ rest. refl
attributes_stand (reply.Readdirplus result) text is = λ rest. refl
attributes_stand (reply.Fsstat result) text is = λ rest. refl
attributes_stand (reply.Fsinfo result) text is = λ rest. refl
attributes_stand (reply.Pathconf result) text is = λ rest. refl
attributes_stand (reply.Commit (Ok ok)) text is = ok_wcc (reply.Commit (Ok ok)) (λ a. reply.Commit (Ok (record ok { wcc = with_after a }))) (λ v. refl) ok.wcc (IsU64 ok.verifier) text (λ a t i. i) is
attributes_stand (reply.Lookup (Err e)) text is = failed IsFattr (λ u. behind_handle u >>= word_at 1) e.status _ text is.0 is.1
attributes_stand (reply.Access (Err e)) text is = failed IsFattr (word_at 1) e.status _ text is.0 is.1
attributes_stand (reply.Readlink (Err e)) text is = failed IsFattr (word_at 1) e.status _ text is.0 is.1
attributes_stand (reply.Read (Err e)) text is = failed IsFattr (word_at 1) e.status _ text is.0 is.1
attributes_stand (reply.Write (Err e)) text is = failed IsFattr in_wcc e.status _ text is.0 is.1
attributes_stand (reply.Commit (Err e)) text is = failed IsFattr in_wcc e.status _ text is.0 is.1
attributes_stand (reply.Create (Ok ok)) text is = ok_behind (reply.Create (Ok ok)) (λ a. reply.Create (Ok (made_with_attributes a ok))) (λ v. refl) ok.attributes (IsWcc ok.wcc) text behind_optional_handle (IsPostOpFh ok.object) (λ first rest. optional_handle_passes ok.object first rest) (λ a t i. i) is
attributes_stand (reply.Create (Err e)) text is = failed IsFattr (λ u. behind_optional_handle u >>= word_at 1) e.status _ text is.0 is.1
attributes_stand (reply.Mkdir (Ok ok)) text is = ok_behind (reply.Mkdir (Ok ok)) (λ a. reply.Mkdir (Ok (made_with_attributes a ok))) (λ v. refl) ok.attributes (IsWcc ok.wcc) text behind_optional_handle (IsPostOpFh ok.object) (λ first rest. optional_handle_passes ok.object first rest) (λ a t i. i) is
attributes_stand (reply.Mkdir (Err e)) text is = failed IsFattr (λ u. behind_optional_handle u >>= word_at 1) e.status _ text is.0 is.1
attributes_stand (reply.Symlink (Ok ok)) text is = ok_behind (reply.Symlink (Ok ok)) (λ a. reply.Symlink (Ok (made_with_attributes a ok))) (λ v. refl) ok.attributes (IsWcc ok.wcc) text behind_optional_handle (IsPostOpFh ok.object) (λ first rest. optional_handle_passes ok.object first rest) (λ a t i. i) is
attributes_stand (reply.Symlink (Err e)) text is = failed IsFattr (λ u. behind_optional_handle u >>= word_at 1) e.status _ text is.0 is.1
attributes_stand (reply.Mknod (Ok ok)) text is = ok_behind (reply.Mknod (Ok ok)) (λ a. reply.Mknod (Ok (made_with_attributes a ok))) (λ v. refl) ok.attributes (IsWcc ok.wcc) text behind_optional_handle (IsPostOpFh ok.object) (λ first rest. optional_handle_passes ok.object first rest) (λ a t i. i) is
attributes_stand (reply.Mknod (Err e)) text is = failed IsFattr (λ u. behind_optional_handle u >>= word_at 1) e.status _ text is.0 is.1

-- ---- verifiers

-- numbers that are passed before a field
abbrev behind_word : List ℕ → Option (List ℕ)
behind_word t = behind_u32 t >>= Some

abbrev behind_two_words : List ℕ → Option (List ℕ)
behind_two_words t = behind_u32 t >>= behind_word

pub verifier_stands : (r : Reply) (text : List ℕ) → IsReply r text → InnerIf IsU64 (λ v. IsReplyTo (procedure_of r) (with_verifier v r)) (verifier_in (procedure_of r)) (verifier_of r) text
unfolding verifier_in verifier_from
verifier_stands (reply.Write (Ok ok)) text is =
    let behind_status = is.3 in
    let behind_data = behind_status.3 in
    let behind_count = behind_data.3 in
    replied IsU64 (reply.Write (Ok ok)) (λ v. reply.Write (Ok (record ok { verifier = v }))) (λ t. word_at 0 t >>= (λ u. behind_wcc u >>= behind_two_words)) (Some ok.verifier) text (λ v. refl)
    (ok_first IsU64 (λ v. IsWcc ok.wcc ⨾ IsU32 ok.count ⨾ IsStable ok.committed ⨾ IsU64 v) (λ u. behind_wcc u >>= behind_two_words) (Some ok.verifier) _ text is
    (behind_first IsU64 behind_wcc (IsWcc ok.wcc) (λ v. IsU32 ok.count ⨾ IsStable ok.committed ⨾ IsU64 v) behind_two_words (Some ok.verifier) _ is.1 behind_status (λ first rest. wcc_passes ok.wcc first rest)
    (behind_first IsU64 behind_u32 (IsU32 ok.count) (λ v. IsStable ok.committed ⨾ IsU64 v) behind_word (Some ok.verifier) _ behind_status.1 behind_data (λ first rest. u32_passes ok.count first rest)
    (behind_first IsU64 behind_u32 (IsStable ok.committed) IsU64 Some (Some ok.verifier) _ behind_data.1 behind_count (λ first rest. stable_passes ok.committed first rest)
    (here IsU64 ok.verifier behind_count.1 behind_count.3)))))
verifier_stands (reply.Write (Err e)) text is = failed IsU64 (λ u. behind_wcc u >>= behind_two_words) e.status _ text is.0 is.1
verifier_stands (reply.Commit (Ok ok)) text is =
    replied IsU64 (reply.Commit (Ok ok)) (λ v. reply.Commit (Ok (record ok { verifier = v }))) (λ t. word_at 0 t >>= (λ u. behind_wcc u >>= Some)) (Some ok.verifier) text (λ v. refl)
    (ok_first IsU64 (λ v. IsWcc ok.wcc ⨾ IsU64 v) (λ u. behind_wcc u >>= Some) (Some ok.verifier) _ text is
    (behind_first IsU64 behind_wcc (IsWcc ok.wcc) IsU64 Some (Some ok.verifier) _ is.1 is.3 (λ first rest. wcc_passes ok.wcc first rest)
    (here IsU64 ok.verifier is.3.1 is.3.3)))
verifier_stands (reply.Commit (Err e)) text is = failed IsU64 (λ u. behind_wcc u >>= Some) e.status _ text is.0 is.1
verifier_stands other text is = λ rest. nothing (word_at 0 (text ++ rest)) _ (λ ok. refl)

-- ---- handles that were found or made

made_stands : (o : Option (List ℕ)) (Others : List ℕ → Type 0) (text : List ℕ) → (IsPostOpFh o ⨾ Others) text → InnerIf IsFh (λ v. IsPostOpFh (Some v) ⨾ Others) (word_at 1) o text
made_stands o Others text is =
    moved IsFh (λ v. IsPostOpFh (Some v) ⨾ Others) (word_at 1) o (is.0 ++ is.1) text is.4
    (then_more IsFh (λ v. IsPostOpFh (Some v)) (word_at 1) Others o is.0 is.1 is.3 (flagged IsFh o is.0 is.2))

pub object_stands : (r : Reply) (text : List ℕ) → IsReply r text → InnerIf IsFh (λ v. IsReplyTo (procedure_of r) (with_object v r)) (object_in (procedure_of r)) (object_of r) text
unfolding object_in layout_of object_from
object_stands (reply.Lookup (Ok ok)) text is = replied IsFh (reply.Lookup (Ok ok)) (λ v. reply.Lookup (Ok (record ok { object = v }))) (λ t. word_at 0 t >>= Some) (Some ok.object) text (λ v. refl) (ok_first IsFh (λ v. IsFh v ⨾ IsPostOpAttr ok.attributes ⨾ IsPostOpAttr ok.dir_attributes) Some (Some ok.object) _ text is (front_first IsFh ok.object (IsPostOpAttr ok.attributes ⨾ IsPostOpAttr ok.dir_attributes) is.1 is.3))
object_stands (reply.Lookup (Err e)) text is = failed IsFh Some e.status _ text is.0 is.1
object_stands (reply.Create (Ok ok)) text is = replied IsFh (reply.Create (Ok ok)) (λ v. reply.Create (Ok (made_with_object v ok))) (λ t. word_at 0 t >>= word_at 1) ok.object text (λ v. refl) (ok_first IsFh (λ v. IsPostOpFh (Some v) ⨾ IsPostOpAttr ok.attributes ⨾ IsWcc ok.wcc) (word_at 1) ok.object _ text is (made_stands ok.object (IsPostOpAttr ok.attributes ⨾ IsWcc ok.wcc) is.1 is.3))
object_stands (reply.Create (Err e)) text is = failed IsFh (word_at 1) e.status _ text is.0 is.1
object_stands (reply.Mkdir (Ok ok)) text is = replied IsFh (reply.Mkdir (Ok ok)) (λ v. reply.Mkdir (Ok (made_with_object v ok))) (λ t. word_at 0 t >>= word_at 1) ok.object text (λ v. refl) (ok_first IsFh (λ v. IsPostOpFh (Some v) ⨾ IsPostOpAttr ok.attributes ⨾ IsWcc ok.wcc) (word_at 1) ok.object _ text is (made_stands ok.object (IsPostOpAttr ok.attributes ⨾ IsWcc ok.wcc) is.1 is.3))
object_stands (reply.Mkdir (Err e)) text is = failed IsFh (word_at 1) e.status _ text is.0 is.1
object_stands (reply.Symlink (Ok ok)) text is = replied IsFh (reply.Symlink (Ok ok)) (λ v. reply.Symlink (Ok (made_with_object v ok))) (λ t. word_at 0 t >>= word_at 1) ok.object text (λ v. refl) (ok_first IsFh (λ v. IsPostOpFh (Some v) ⨾ IsPostOpAttr ok.attributes ⨾ IsWcc ok.wcc) (word_at 1) ok.object _ text is (made_stands ok.object (IsPostOpAttr ok.attributes ⨾ IsWcc ok.wcc) is.1 is.3))
object_stands (reply.Symlink (Err e)) text is = failed IsFh (word_at 1) e.status _ text is.0 is.1
object_stands (reply.Mknod (Ok ok)) text is = replied IsFh (reply.Mknod (Ok ok)) (λ v. reply.Mknod (Ok (made_with_object v ok))) (λ t. word_at 0 t >>= word_at 1) ok.object text (λ v. refl) (ok_first IsFh (λ v. IsPostOpFh (Some v) ⨾ IsPostOpAttr ok.attributes ⨾ IsWcc ok.wcc) (word_at 1) ok.object _ text is (made_stands ok.object (IsPostOpAttr ok.attributes ⨾ IsWcc ok.wcc) is.1 is.3))
object_stands (reply.Mknod (Err e)) text is = failed IsFh (word_at 1) e.status _ text is.0 is.1
object_stands reply.Null text is = λ rest. refl
object_stands (reply.Getattr result) text is = λ rest. nothing (word_at 0 (text ++ rest)) _ (λ ok. refl)
object_stands (reply.Setattr s w) text is = λ rest. nothing (word_at 0 (text ++ rest)) _ (λ ok. refl)
object_stands (reply.Access result) text is = λ rest. nothing (word_at 0 (text ++ rest)) _ (λ ok. refl)
object_stands (reply.Readlink result) text is = λ rest. nothing (word_at 0 (text ++ rest)) _ (λ ok. refl)
object_stands (reply.Read result) text is = λ rest. nothing (word_at 0 (text ++ rest)) _ (λ ok. refl)
object_stands (reply.Write result) text is = λ rest. nothing (word_at 0 (text ++ rest)) _ (λ ok. refl)
object_stands (reply.Remove s w) text is = λ rest. refl
object_stands (reply.Rmdir s w) text is = λ rest. refl
object_stands (reply.Rename s from to) text is = λ rest. refl
object_stands (reply.Link s attributes w) text is = λ rest. nothing (word_at 0 (text ++ rest)) _ (λ ok. refl)
object_stands (reply.Readdir result) text is = λ rest. refl
object_stands (reply.Readdirplus result) text is = λ rest. refl
object_stands (reply.Fsstat result) text is = λ rest. refl
object_stands (reply.Fsinfo result) text is = λ rest. refl
object_stands (reply.Pathconf result) text is = λ rest. refl
object_stands (reply.Commit result) text is = λ rest. nothing (word_at 0 (text ++ rest)) _ (λ ok. refl)

-- ---- end marks

pub flag_length : (b : Bool) (text : List ℕ) → IsFlag b text → length text ≡ 4
flag_length true text is = ap length is ∙ length-u32_text 1
flag_length false text is = ap length is ∙ length-u32_text 0

-- the last field of a listing: its end mark
listing_ends : (First Second Third : List ℕ → Type 0) (eof : Bool) (text : List ℕ) → (IsStatus status.Ok ⨾ First ⨾ Second ⨾ Third ⨾ IsFlag eof) text
    → At IsFlag (λ b. IsStatus status.Ok ⨾ First ⨾ Second ⨾ Third ⨾ IsFlag b) (λ t. word_at 0 t >>= last_from) eof text
unfolding last_from
listing_ends First Second Third eof text is =
    let a = is.3 in
    let b = a.3 in
    let c = b.3 in
    let front = a.0 ++ (b.0 ++ c.0) in
    let regroup : (e : List ℕ) → a.0 ++ (b.0 ++ (c.0 ++ e)) ≡ front ++ e = λ e. ap (λ (t : List ℕ). a.0 ++ t) (sym (append_assoc b.0 c.0 e)) ∙ sym (append_assoc a.0 (b.0 ++ c.0) e) in
    let behind_status : is.1 ≡ front ++ c.1 = a.4 ∙ ap (λ (t : List ℕ). a.0 ++ t) (b.4 ∙ ap (λ (t : List ℕ). b.0 ++ t) c.4) ∙ regroup c.1 in
    let long : length is.1 ≡ length front + 4 = omega (arith, ap length behind_status, length-append front c.1, flag_length eof c.1 c.3) in
    let enough : leb 4 (length is.1) ≡ true = le-leb _ _ (omega (arith, long)) in
    let cut : length is.1 - 4 ≡ length front = omega (arith, long) in
    let last : drop (length front) is.1 ≡ c.1 = ap (drop (length front)) behind_status ∙ drop_at front c.1 (length front) refl in
    record {
      before = is.0 ++ front;
      field = c.1;
      after = [];
      is = c.3;
      parts = is.4 ∙ ap (λ (t : List ℕ). is.0 ++ t) (behind_status ∙ ap (λ (t : List ℕ). front ++ t) (sym (append-nil c.1))) ∙ sym (append_assoc is.0 front (c.1 ++ []));
      found = ap (λ (t : List ℕ). word_at 0 t >>= last_from) is.4 ∙ rw (ok_passes is.0 is.1 is.2, enough, cut, last, append-nil c.1) refl;
      again = λ other field is_field. (is.0, a.0 ++ (b.0 ++ (c.0 ++ (field ++ []))), is.2, (a.0, b.0 ++ (c.0 ++ (field ++ [])), a.2, (b.0, c.0 ++ (field ++ []), b.2, (c.0, field ++ [], c.2, subst (IsFlag other) (sym (append-nil field)) is_field, refl), refl), refl), append_assoc is.0 front (field ++ []) ∙ ap (λ (t : List ℕ). is.0 ++ t) (sym (regroup (field ++ []))));
    }

-- what holds of the results of a reply holds of the reply
listing_of : (r : Reply) (with_value : Bool → Reply) (from : List ℕ → Option (List ℕ)) (eof : Bool) (text : List ℕ) → ((b : Bool) → procedure_of (with_value b) ≡ procedure_of r)
    → At IsFlag (λ b. IsReply (with_value b)) from eof text → At IsFlag (λ b. IsReplyTo (procedure_of r) (with_value b)) from eof text
listing_of r with_value from eof text same i = record { before = i.before; field = i.field; after = i.after; is = i.is; parts = i.parts; found = i.found; again = λ other field is. (i.again other field is, same other) }

-- where reading finds the end mark of a READ, and of a listing
abbrev in_read : List ℕ → Option (List ℕ)
in_read t = word_at 0 t >>= (λ u. behind_post_op u >>= behind_word)

abbrev in_listing : List ℕ → Option (List ℕ)
in_listing t = word_at 0 t >>= last_from

pub end_mark_stands : (r : Reply) (text : List ℕ) → IsReply r text → AtIf IsFlag (λ b. IsReplyTo (procedure_of r) (with_eof b r)) (eof_in (procedure_of r)) (eof_of r) text
unfolding eof_in eof_from
end_mark_stands (reply.Read (Ok ok)) text is =
    let behind_status = is.3 in
    let behind_attributes = behind_status.3 in
    at_end IsFlag (λ b. IsReplyTo 6 (reply.Read (Ok (record ok { eof = b })))) in_read (Some ok.eof) text
    (replied IsFlag (reply.Read (Ok ok)) (λ b. reply.Read (Ok (record ok { eof = b }))) in_read (Some ok.eof) text (λ v. refl)
    (ok_first IsFlag (λ b. IsPostOpAttr ok.attributes ⨾ IsU32 ok.count ⨾ IsFlag b ⨾ IsBytes ok.bytes) (λ u. behind_post_op u >>= behind_word) (Some ok.eof) _ text is
    (behind_first IsFlag behind_post_op (IsPostOpAttr ok.attributes) (λ b. IsU32 ok.count ⨾ IsFlag b ⨾ IsBytes ok.bytes) behind_word (Some ok.eof) _ is.1 behind_status (λ first rest. post_op_passes ok.attributes first rest)
    (behind_first IsFlag behind_u32 (IsU32 ok.count) (λ b. IsFlag b ⨾ IsBytes ok.bytes) Some (Some ok.eof) _ behind_status.1 behind_attributes (λ first rest. u32_passes ok.count first rest)
    (front_first IsFlag ok.eof (IsBytes ok.bytes) behind_attributes.1 behind_attributes.3)))))
end_mark_stands (reply.Read (Err e)) text is = at_end IsFlag (λ b. IsReplyTo 6 (reply.Read (Err e))) in_read None text (failed IsFlag (λ u. behind_post_op u >>= behind_word) e.status _ text is.0 is.1)
end_mark_stands (reply.Readdir (Ok ok)) text is = listing_of (reply.Readdir (Ok ok)) (λ b. reply.Readdir (Ok (record ok { eof = b }))) in_listing ok.eof text (λ b. refl) (listing_ends (IsPostOpAttr ok.attributes) (IsU64 ok.cookie_verifier) (IsList IsEntry ok.entries) ok.eof text is)
end_mark_stands (reply.Readdir (Err e)) text is = at_end IsFlag (λ b. IsReplyTo 16 (reply.Readdir (Err e))) in_listing None text (failed IsFlag last_from e.status _ text is.0 is.1)
end_mark_stands (reply.Readdirplus (Ok ok)) text is = listing_of (reply.Readdirplus (Ok ok)) (λ b. reply.Readdirplus (Ok (record ok { eof = b }))) in_listing ok.eof text (λ b. refl) (listing_ends (IsPostOpAttr ok.attributes) (IsU64 ok.cookie_verifier) (IsList IsEntryPlus ok.entries) ok.eof text is)
end_mark_stands (reply.Readdirplus (Err e)) text is = at_end IsFlag (λ b. IsReplyTo 17 (reply.Readdirplus (Err e))) in_listing None text (failed IsFlag last_from e.status _ text is.0 is.1)
end_mark_stands other text is = nothing (word_at 0 text) _ (λ ok. refl)
