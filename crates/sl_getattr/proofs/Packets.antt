-- A forwarded GETATTR is read as one about the same object, and its answer as it was written.
use Rattle.std.proofs.Common.{◌≡◌, ℕ, ◌+◌, ◌-◌, ◌*◌, ◌%◌, ◌^◌, ◌<◌, ◌==◌, ◌&&◌, ◌||◌, Bool, true, false, not, List, [], ◌++◌, length, drop, Option, Some, None, Ok, Err, refl, sym, ap, subst, ◌∙◌, append_assoc, arith, codes, if◌then◌else◌}
use Rattle.std.specs.Prelude.{option_and_then}
use Rattle.std.specs.Int.{w64, from_be_bytes}
use Rattle.std.proofs.lemmas.Nat.{be_bytes_8}
use Rattle.std.proofs.lemmas.List.{drop_at, length-append}
use Rattle.std.proofs.lemmas.Bool.Decides.{nat_tests}
use Rattle.sl_defs.specs.Items.{AreBytes, u32_text, u64_text, u64_at}
use Rattle.sl_defs.specs.Parts.{IsU32}
use Rattle.sl_items.specs.Spelling.{FitsFattr}
use Rattle.sl_defs.specs.Rpc.{CallHeader, call_header_at, refusal_of, Refusal, immediate_reply, immediate_of, refused_with, accepted_text}
use Rattle.sl_defs.proofs.ItemLaws.{u32_found, AreBytes-drop, AreBytes-take, AreBytes-u64_text, u64_takes, length-u32_text, length-u64_text}
use Rattle.sl_defs.proofs.HeaderLaws.{header_takes, header_found}
use Rattle.sl_defs.specs.declared.setup.Setup.{Setup}
use Rattle.sl_types.specs.declared.call.Call.{Call}
use Rattle.sl_types.specs.declared.call.Call.TheVariants as call
use Rattle.sl_types.specs.declared.handle.Handle.{Handle}
use Rattle.sl_types.specs.declared.handle.InternalHandle.{InternalHandle}
use Rattle.sl_types.specs.declared.kind.Status.TheVariants as status
use Rattle.sl_types.specs.declared.reply.Reply.TheVariants as reply
use Rattle.sl_types.specs.Handles.{form_text, handle_text, internal_text, FitsHandle, FitsInternal, handle_of}
use Rattle.sl_types.specs.Numbers.{kind_number}
use Rattle.sl_types.proofs.HandleLaws.{handle_found, handle_is_found, internal_found}
use Rattle.sl_rpc.specs.Heads.{caller_of}
use Rattle.sl_calls.specs.Reading.{args_at}
use Rattle.sl_calls.proofs.Calls.{args_takes, args_at_front}
use Rattle.sl_replies.specs.Texts.{reply_text, FitsReply}
use Rattle.sl_replies.specs.Ranges.{ReplyInRange}
use Rattle.sl_replies.specs.Reading.{reply_of}
use Rattle.sl_replies.proofs.Canonical.{reply_spells, spelled_is_read}
use Rattle.sl_edit.specs.declared.span.Span.{Span}
use Rattle.sl_edit.specs.Packets.{IsCallPacket}
use Rattle.sl_edit.specs.Laws.{with_xid, HandlesHaveSlots, CallXidsHaveSlots}
use Rattle.sl_edit.specs.Edits.{HasSlot, IsSlot, IsItself, spliced}
use Rattle.sl_edit.specs.Spans.{handle_span, xid_span, word_at, results_in}
use Rattle.sl_edit.specs.Fields as field
use Rattle.sl_policy.specs.Sites.{site_of}
use Rattle.sl_model.specs.Looking.{attributes}
use Rattle.sl_model.specs.Perform.{new_root}
use Rattle.sl_cells.specs.Reading.{is_id}
use Rattle.sl_history.specs.Arrivals.{Asked, IsAsked, datagram, read_header, with_header, with_args, asked_in}
use Rattle.sl_machine.specs.Calls.{is_foreign}
use Rattle.sl_machine.specs.Packets.{forwarded, with_keepers, keepers, keepers_at, keepers_text, handle_in, put_at, outer, outer_text, reply_in}
use Rattle.sl_getattr.proofs.Stepping.{same_some, not_none, not_both}
use Rattle.sl_getattr.proofs.Looking.{look_by, is_root}
use Rattle.sl_getattr.proofs.Turning.{ForwardsAreRead, CallsFit}
use Rattle.sl_getattr.proofs.Remembering.{AnswersAreRead}
use Rattle.sl_getattr.proofs.Splicing.{length_in, end_spliced}

-- ---- a datagram that is a call is a call's packet

record IsPacketOf (bytes : List ℕ) (q : Asked) : Type 0 where
  header : CallHeader
  xid : header.xid ≡ q.xid
  is : IsCallPacket bytes header q.call

none_refused : (h : CallHeader) (o : Option Refusal) → refusal_of h ≡ o → immediate_of h (refused_with h o) ≡ None → refusal_of h ≡ None
none_refused h None is none = is
none_refused h (Some r) is none = absurd (not_none none)

module _ (bytes : List ℕ) (q : Asked) (fits : AreBytes bytes) where
  by_args : (h : CallHeader) (args : List ℕ) → call_header_at bytes ≡ Some (h, args) → refusal_of h ≡ None → (o : Option (Call × List ℕ)) → args_at h.procedure args ≡ o
      → asked_in (with_args h o) ≡ Some q → IsPacketOf bytes q
  by_args h args found accepted None none is = absurd (not_none (sym is))
  by_args h args found accepted (Some c) read is =
      let head = header_takes bytes (h, args) fits found in
      let rest : AreBytes args = subst AreBytes (ap (drop (length head.0)) head.2 ∙ drop_at head.0 args (length head.0) refl) (AreBytes-drop (length head.0) bytes fits) in
      let took = args_takes h.procedure args c rest read in
      record {
        header = h;
        xid = ap (λ (q : Asked). q.xid) (same_some is);
        is = subst (IsCallPacket bytes h) (ap (λ (q : Asked). q.call) (same_some is)) (record {
          head = head.0;
          args = args;
          is_header = head.1;
          accepted = accepted;
          begins = record { number = took.1.1; text = took.0; rest = c.1; args = took.1.0; whole = took.2.parts };
          whole = head.2;
        });
      }

  by_immediate : (h : CallHeader) (args : List ℕ) → call_header_at bytes ≡ Some (h, args) → (o : Option (List ℕ)) → immediate_reply h ≡ o → asked_in (with_header h args o) ≡ Some q → IsPacketOf bytes q
  by_immediate h args found (Some answer) some is = absurd (not_none (sym is))
  by_immediate h args found None none is = by_args h args found (none_refused h (refusal_of h) refl none) (args_at h.procedure args) refl is

  by_header : (o : Option (CallHeader × List ℕ)) → call_header_at bytes ≡ o → asked_in (read_header o) ≡ Some q → IsPacketOf bytes q
  by_header None none is = absurd (not_none (sym is))
  by_header (Some h) found is = by_immediate h.0 h.1 found (immediate_reply h.0) refl is

  is_packet : datagram bytes ≡ IsAsked q → IsPacketOf bytes q
  unfolding datagram
  is_packet is = by_header (call_header_at bytes) refl (ap asked_in is)

-- ---- and a call's packet is read as the call

read_packet : (packet : List ℕ) (header : CallHeader) (object : List ℕ) → IsCallPacket packet header (call.Getattr object)
    → datagram packet ≡ IsAsked (record { xid = header.xid; procedure = header.procedure; call = call.Getattr object; cred = caller_of header })
unfolding datagram
read_packet packet header object is =
    ap (λ bytes. read_header (call_header_at bytes)) is.whole ∙ ap read_header (header_found is.head header is.args is.is_header)
    ∙ ap (with_header header is.args) (ap (λ o. immediate_of header (refused_with header o)) is.accepted ∙ ap (λ b. if b then Some (accepted_text header.xid 0) else None) (asks header.procedure (sym is.begins.number)))
    ∙ ap (with_args header) (args_at_front header.procedure (call.Getattr object) is.args is.begins).1
  where
    asks : (n : ℕ) → n ≡ 1 → (n == 0) ≡ false
    asks n is = grind arith

-- ---- a handle that is read

-- a number that fits has the same text
fitting : (v : ℕ) → (m : ℕ) × (u64_text m ≡ u64_text v) × (m < 2 ^ 64)
unfolding u64_text u64_at
fitting v = (
  from_be_bytes w64 (u64_text v),
  be_bytes_8 (u64_text v) (from_be_bytes w64 (u64_text v)) (length-u64_text v) (AreBytes-u64_text v) refl,
  (u64_takes (u64_text v) (from_be_bytes w64 (u64_text v), []) (AreBytes-u64_text v) refl).1,
)

pub handle_fits : (h : Handle) → handle_of (handle_text h) ≡ Some h → FitsHandle h
unfolding form_text
handle_fits h is =
    let volume = fitting h.volume in
    let fileid = fitting h.fileid in
    let other : Handle = record { volume = volume.0; fileid = fileid.0; kind = h.kind } in
    let fits : FitsHandle other = record { volume = volume.2; fileid = fileid.2 } in
    let same : handle_text other ≡ handle_text h =
    ap (λ t. codes "SLH1" ++ (u32_text 0 ++ (t ++ (u64_text fileid.0 ++ (u32_text (kind_number h.kind) ++ u32_text 0))))) volume.1
    ∙ ap (λ t. codes "SLH1" ++ (u32_text 0 ++ (u64_text h.volume ++ (t ++ (u32_text (kind_number h.kind) ++ u32_text 0))))) fileid.1 in
    subst FitsHandle (same_some (sym (handle_found other fits) ∙ ap handle_of same ∙ is)) fits

spelled_handle : (object : List ℕ) (h : Handle) → AreBytes object → handle_of object ≡ Some h → object ≡ handle_text h
spelled_handle object h fits is = handle_is_found object (Some h) fits (sym is)

-- ---- among the servers

site_fits : (f : ℕ) → is_id f ≡ true → site_of f < 2 ^ 16
site_fits f is = grind (arith, nat_tests)

-- the handle that is forwarded
abbrev inner : Handle → InternalHandle
inner h = record { handle = h; site = site_of h.fileid; actor = 16 }

inner_fits : (h : Handle) → FitsHandle h → is_id h.fileid ≡ true → FitsInternal (inner h)
inner_fits h fits id = record { handle = fits; site = site_fits h.fileid id; actor = omega arith }

outer_is : (h : Handle) → FitsHandle h → is_id h.fileid ≡ true → handle_of (outer (internal_text (inner h))) ≡ Some h
outer_is h fits id = ap (λ o. handle_of (outer_text (internal_text (inner h)) o)) (internal_found (inner h) (inner_fits h fits id)) ∙ handle_found h fits

-- all but the last number of a handle
abbrev front_of : Handle → List ℕ
front_of h = codes "SLH1" ++ (u32_text 0 ++ (u64_text h.volume ++ (u64_text h.fileid ++ u32_text (kind_number h.kind))))

in_front : (h : Handle) (last : ℕ) → form_text h last ≡ front_of h ++ u32_text last
unfolding form_text
in_front h last = sym (
    append_assoc (codes "SLH1") (u32_text 0 ++ (u64_text h.volume ++ (u64_text h.fileid ++ u32_text (kind_number h.kind)))) (u32_text last)
    ∙ ap (λ t. codes "SLH1" ++ t) (append_assoc (u32_text 0) (u64_text h.volume ++ (u64_text h.fileid ++ u32_text (kind_number h.kind))) (u32_text last)
    ∙ ap (λ t. u32_text 0 ++ t) (append_assoc (u64_text h.volume) (u64_text h.fileid ++ u32_text (kind_number h.kind)) (u32_text last)
    ∙ ap (λ t. u64_text h.volume ++ t) (append_assoc (u64_text h.fileid) (u32_text (kind_number h.kind)) (u32_text last)))))

own_id : (s : Setup) (h : Handle) → is_foreign s h ≡ false → is_id h.fileid ≡ true
own_id s h own = by (is_id h.fileid) (h.volume == s.volume) own
  where
    by : (id same : Bool) → (not same || not id) ≡ false → id ≡ true
    by true same is = refl
    by false true is = sym is
    by false false is = sym is

-- ---- the packet is forwarded

module _ (handles : HandlesHaveSlots) (call_xids : CallXidsHaveSlots) where
  -- the slot of the one handle
  record OneHandle (packet : List ℕ) (header : CallHeader) (object : List ℕ) : Type 0 where
    span : Span
    is : handle_span 0 packet ≡ Some span
    slot : IsSlot IsItself (λ fh new. IsCallPacket new header (field.with_handle 0 fh (call.Getattr object))) packet span object
    alone : handle_span 1 packet ≡ None

  one_handle : (packet : List ℕ) (header : CallHeader) (object : List ℕ) → IsCallPacket packet header (call.Getattr object) → OneHandle packet header object
  one_handle packet header object is = by (handle_span 0 packet) (handle_span 1 packet) refl refl (handles 0 packet header (call.Getattr object) is) (handles 1 packet header (call.Getattr object) is)
    where
      by : (a b : Option Span) → handle_span 0 packet ≡ a → handle_span 1 packet ≡ b
          → HasSlot IsItself (λ fh new. IsCallPacket new header (field.with_handle 0 fh (call.Getattr object))) packet a (Some object)
          → HasSlot IsItself (λ fh new. IsCallPacket new header (field.with_handle 1 fh (call.Getattr object))) packet b None → OneHandle packet header object
      by None b first second slot other = absurd slot
      by (Some span) (Some another) first second slot other = absurd other
      by (Some span) None first second slot other = record { span = span; is = first; slot = slot; alone = second }

  module _ (packet : List ℕ) (header : CallHeader) (object : List ℕ) (h : Handle) (fits : AreBytes packet) (is : IsCallPacket packet header (call.Getattr object)) (spelled : handle_of object ≡ Some h) where
    the : OneHandle packet header object
    the = one_handle packet header object is

    -- the object's bytes are bytes
    object_fits : AreBytes object
    object_fits = subst AreBytes the.slot.spelled (AreBytes-take (the.span.to - the.span.from) (drop the.span.from packet) (AreBytes-drop the.span.from packet fits))

    object_is : object ≡ handle_text h
    object_is = spelled_handle object h object_fits spelled

    pub its_fits : FitsHandle h
    its_fits = handle_fits h (ap handle_of (sym object_is) ∙ spelled)

    put : List ℕ
    put = u32_text (site_of h.fileid * 2 ^ 16 + 16)

    kept : with_keepers 16 (call.Getattr object) 0 (with_keepers 16 (call.Getattr object) 1 packet) ≡ spliced packet the.span (internal_text (inner h))
    unfolding put
    kept =
        ap (λ o. with_keepers 16 (call.Getattr object) 0 (put_at (keepers_at o) (keepers_text 16 (call.Getattr object) (handle_in packet o)) packet)) the.alone
        ∙ ap (λ o. put_at (keepers_at o) (keepers_text 16 (call.Getattr object) (handle_in packet o)) packet) the.is
        ∙ ap (λ t. spliced packet (keepers the.span) (keepers_text 16 (call.Getattr object) (handle_of t))) the.slot.spelled
        ∙ ap (λ o. spliced packet (keepers the.span) (keepers_text 16 (call.Getattr object) o)) spelled
        ∙ end_spliced packet the.span the.slot.place (front_of h) (u32_text 0) (the.slot.spelled ∙ object_is ∙ in_front h 0) (length-u32_text 0) put
        ∙ ap (spliced packet the.span) (sym (in_front h (site_of h.fileid * 2 ^ 16 + 16)))

    same_length : length (internal_text (inner h)) ≡ the.span.to - the.span.from
    same_length =
        ap length (in_front h (site_of h.fileid * 2 ^ 16 + 16)) ∙ lengths (site_of h.fileid * 2 ^ 16 + 16) 0 ∙ sym (ap length (the.slot.spelled ∙ object_is ∙ in_front h 0))
        ∙ length_in packet the.span the.slot.place
      where
        lengths : (m n : ℕ) → length (front_of h ++ u32_text m) ≡ length (front_of h ++ u32_text n)
        lengths m n = omega (arith, length-append (front_of h) (u32_text m), length-append (front_of h) (u32_text n), length-u32_text m, length-u32_text n)

    -- with its handle among the servers the packet asks about that
    inner_packet : IsCallPacket (with_keepers 16 (call.Getattr object) 0 (with_keepers 16 (call.Getattr object) 1 packet)) header (call.Getattr (internal_text (inner h)))
    inner_packet = subst (λ p. IsCallPacket p header (call.Getattr (internal_text (inner h)))) (sym kept) (the.slot.says (internal_text (inner h)) (internal_text (inner h)) refl same_length)

  -- the xid becomes the tag
  tagged : (packet : List ℕ) (header : CallHeader) (c : Call) (tag : ℕ) → IsCallPacket packet header c
      → IsCallPacket (put_at (xid_span packet) (u32_text (tag % 2 ^ 32)) packet) (with_xid (tag % 2 ^ 32) header) c
  tagged packet header c tag is = by (xid_span packet) (call_xids packet header c is)
    where
      four : (span : Span) → IsSlot IsU32 (λ xid new. IsCallPacket new (with_xid xid header) c) packet span header.xid → length (u32_text (tag % 2 ^ 32)) ≡ span.to - span.from
      four span slot = length-u32_text (tag % 2 ^ 32) ∙ sym (length-u32_text header.xid) ∙ sym (ap length slot.spelled.0) ∙ length_in packet span slot.place

      by : (o : Option Span) → HasSlot IsU32 (λ xid new. IsCallPacket new (with_xid xid header) c) packet o (Some header.xid)
          → IsCallPacket (put_at o (u32_text (tag % 2 ^ 32)) packet) (with_xid (tag % 2 ^ 32) header) c
      by None slot = absurd slot
      by (Some span) slot = slot.says (tag % 2 ^ 32) (u32_text (tag % 2 ^ 32)) (refl, omega arith) (four span slot)

  pub forwards_are_read : ForwardsAreRead
  unfolding forwarded
  forwards_are_read s tag bytes object q h fits read asks spelled own r asked =
      let of = is_packet bytes q fits read in
      let packet : IsCallPacket bytes of.header (call.Getattr object) = subst (IsCallPacket bytes of.header) asks of.is in
      let id = own_id s h own in
      let handle = its_fits bytes of.header object h fits packet spelled in
      let sent : IsCallPacket (forwarded 16 tag (call.Getattr object) bytes) (with_xid (tag % 2 ^ 32) of.header) (call.Getattr (internal_text (inner h))) =
      tagged (with_keepers 16 (call.Getattr object) 0 (with_keepers 16 (call.Getattr object) 1 bytes)) of.header (call.Getattr (internal_text (inner h))) tag
      (inner_packet bytes of.header object h fits packet spelled) in
      let same = same_some (sym (ap asked_in (read_packet (forwarded 16 tag (call.Getattr object) bytes) (with_xid (tag % 2 ^ 32) of.header) (internal_text (inner h)) sent))
      ∙ ap (λ c. asked_in (datagram (forwarded 16 tag c bytes))) (sym asks) ∙ asked) in
      record {
        object = internal_text (inner h);
        is = ap (λ (a : Asked). a.call) (sym same);
        spelled = outer_is h handle id;
        small = handle.volume;
        fits = subst (λ (a : Asked). a.xid < 2 ^ 32) same (omega arith);
      }

  pub calls_fit : CallsFit
  calls_fit bytes object q fits read asks =
      let of = is_packet bytes q fits read in
      let packet : IsCallPacket bytes of.header (call.Getattr object) = subst (IsCallPacket bytes of.header) asks of.is in
      (subst (λ n. n < 2 ^ 32) of.xid of.is.is_header.fits.xid, λ h spelled. (its_fits bytes of.header object h fits packet spelled).volume)

-- ---- an answer

behind_xid : List ℕ
behind_xid = u32_text 1 ++ (u32_text 0 ++ (u32_text 0 ++ (u32_text 0 ++ u32_text 0)))

words : (results : List ℕ) → behind_xid ++ results ≡ u32_text 1 ++ (u32_text 0 ++ (u32_text 0 ++ (u32_text 0 ++ (u32_text 0 ++ results))))
unfolding behind_xid
words results =
    append_assoc (u32_text 1) (u32_text 0 ++ (u32_text 0 ++ (u32_text 0 ++ u32_text 0))) results
    ∙ ap (λ (t : List ℕ). u32_text 1 ++ t) (append_assoc (u32_text 0) (u32_text 0 ++ (u32_text 0 ++ u32_text 0)) results
    ∙ ap (λ (t : List ℕ). u32_text 0 ++ t) (append_assoc (u32_text 0) (u32_text 0 ++ u32_text 0) results
    ∙ ap (λ (t : List ℕ). u32_text 0 ++ t) (append_assoc (u32_text 0) (u32_text 0) results)))

passes_word : (k : ℕ) (rest : List ℕ) → k < 2 ^ 32 → word_at k (u32_text k ++ rest) ≡ Some rest
unfolding word_at
passes_word k rest fits = rw (u32_found k rest fits, itself k) refl
  where
    itself : (k : ℕ) → (k == k) ≡ true
    itself k = grind arith

results_found : (xid : ℕ) (results : List ℕ) → xid < 2 ^ 32 → results_in (accepted_text xid 0 ++ results) ≡ Some results
unfolding results_in accepted_text behind_xid
results_found xid results fits =
    ap results_in (append_assoc (u32_text xid) behind_xid results ∙ ap (λ (t : List ℕ). u32_text xid ++ t) (words results))
    ∙ rw (
      u32_found xid (u32_text 1 ++ (u32_text 0 ++ (u32_text 0 ++ (u32_text 0 ++ (u32_text 0 ++ results))))) fits,
      passes_word 1 (u32_text 0 ++ (u32_text 0 ++ (u32_text 0 ++ (u32_text 0 ++ results)))) (omega arith),
      passes_word 0 (u32_text 0 ++ (u32_text 0 ++ (u32_text 0 ++ results))) (omega arith),
      passes_word 0 (u32_text 0 ++ (u32_text 0 ++ results)) (omega arith),
      passes_word 0 (u32_text 0 ++ results) (omega arith),
      passes_word 0 results (omega arith),
    ) refl

root_fits : (volume : ℕ) → volume < 2 ^ 64 → FitsFattr (attributes (new_root volume))
root_fits volume fits = record {
  mode = omega arith;
  nlink = omega arith;
  uid = omega arith;
  gid = omega arith;
  size = omega arith;
  used = omega arith;
  major = omega arith;
  minor = omega arith;
  fsid = fits;
  fileid = omega arith;
  atime = record { sec = omega arith; nsec = omega arith };
  mtime = record { sec = omega arith; nsec = omega arith };
  ctime = record { sec = omega arith; nsec = omega arith };
}

-- what is answered is in range
in_range : (volume : ℕ) (b : Bool) → (b ≡ true → volume < 2 ^ 64) → FitsReply (reply.Getattr (if b then Ok (attributes (new_root volume)) else Err status.Stale))
    × ReplyInRange (reply.Getattr (if b then Ok (attributes (new_root volume)) else Err status.Stale))
in_range volume true fits = (tt, root_fits volume (fits refl))
in_range volume false fits = (refl, tt)

of_volume : (volume : ℕ) (h : Handle) → h.volume < 2 ^ 64 → is_root volume h ≡ true → volume < 2 ^ 64
of_volume volume h small is = subst (λ v. v < 2 ^ 64) (sym (same volume h.volume (second (h.fileid == 1) (volume == h.volume) _ is))) small
  where
    second : (a b c : Bool) → (a && (b && c)) ≡ true → b ≡ true
    second true true c is = refl
    second true false c is = is
    second false b c is = absurd (not_both is refl)

    same : (a b : ℕ) → (a == b) ≡ true → a ≡ b
    same a b is = grind arith

reply_fits : (volume : ℕ) (o : Option Handle) → ((h : Handle) → o ≡ Some h → h.volume < 2 ^ 64) → FitsReply (reply.Getattr (look_by volume o)) × ReplyInRange (reply.Getattr (look_by volume o))
reply_fits volume None small = (refl, tt)
reply_fits volume (Some h) small = in_range volume (is_root volume h) (of_volume volume h (small h refl))

pub answers_are_read : AnswersAreRead
unfolding reply_in
answers_are_read volume q o small fits r read =
    let range = reply_fits volume o small in
    let spells = reply_spells (reply.Getattr (look_by volume o)) range.0 range.1 in
    same_some (sym read ∙ ap (λ z. option_and_then (reply_of 1) z) (results_found q.xid (reply_text (reply.Getattr (look_by volume o))) fits)
    ∙ spelled_is_read (reply.Getattr (look_by volume o)) (reply_text (reply.Getattr (look_by volume o))) spells)
