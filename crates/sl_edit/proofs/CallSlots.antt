-- The fields of a call that are edited have their slots.
use Rattle.std.proofs.Common.{◌≡◌, ℕ, ◌+◌, ◌-◌, ◌^◌, ◌<◌, ◌≤◌, true, false, eqb, leb, List, [], ◌++◌, length, replicate, take, drop, Option, Some, None, refl, sym, ap, subst, ◌∙◌, append_assoc, append-nil, arith}
use Rattle.std.proofs.lemmas.List.{length-append, length-take, length-drop, length-replicate, take-append-drop, take_at}
use Rattle.std.proofs.lemmas.Bool.{le-leb}
use Rattle.sl_defs.specs.Items.{u32_text, padding, IsOpaque, opaque_text, u32_at}
use Rattle.sl_defs.specs.Parts.{IsU32, IsU64}
use Rattle.sl_defs.specs.Rpc.{CallHeader, IsCallHeader, numbers_text, refusal_of}
use Rattle.sl_defs.proofs.ItemLaws.{u32_found, length-u32_text, opaque_text_is}
use Rattle.sl_defs.proofs.Readers.{u64_reader}
use Rattle.sl_defs.proofs.HeaderLaws.{header_found}
use Rattle.sl_types.specs.declared.call.Stable.{Stable}
use Rattle.sl_types.specs.declared.call.Call.{Call}
use Rattle.sl_types.specs.declared.call.Call.TheVariants as call
use Rattle.sl_items.specs.Spelling.{IsFh, stable_number}
use Rattle.sl_items.proofs.DataReaders.{fh_reader, bytes_reader}
use Rattle.sl_calls.specs.Args.{IsArgs, procedure_of}
use Rattle.sl_edit.specs.declared.span.Span.{Span}
use Rattle.sl_edit.specs.Packets.{IsCallPacket}
use Rattle.sl_edit.specs.Fields.{handle_of, with_handle, with_count, cut_to}
use Rattle.sl_edit.specs.Edits.{spliced, HasSlot, IsItself, IsSlot}
use Rattle.sl_edit.specs.Spans.{span_of, xid_span, fh_span, args_in, handle_span, behind_u32, behind_u64, count_from, count_span, content_at, content_in}
use Rattle.sl_edit.specs.Laws.{with_xid, CallXidsHaveSlots, HandlesHaveSlots, CountsHaveSlots, IsContent, HasContent, WritesAreCut}
use Rattle.sl_edit.specs.declared.cuts.Content.{Content}
use Rattle.sl_edit.specs.Cuts.{word_span, cut_length, padded, cut_packet}
use Rattle.sl_edit.proofs.Middles.{span_same, three, middle, middle_found, middle_spliced, slot}
use Rattle.sl_edit.proofs.Numbers.{stable_fits}
use Rattle.sl_edit.proofs.Handles.{Stands, StandsIf, handle_stands}

-- an opaque's item in its parts
module _ (front body item after : List ℕ) (is : IsOpaque item body) where
  abbrev size_text : List ℕ
  size_text = u32_text (length body)

  pub item_parts : item ++ after ≡ size_text ++ (body ++ (is.pad ++ after))
  item_parts =
      ap (λ (t : List ℕ). t ++ after) is.spelled
      ∙ append_assoc size_text (body ++ is.pad) after
      ∙ ap (λ (t : List ℕ). size_text ++ t) (append_assoc body is.pad after)

  pub item_middle : front ++ (item ++ after) ≡ three (front ++ size_text) body (is.pad ++ after)
  item_middle = ap (λ (t : List ℕ). front ++ t) item_parts ∙ sym (append_assoc front size_text (body ++ (is.pad ++ after)))

  pub number_found : u32_at (item ++ after) ≡ Some (length body, body ++ (is.pad ++ after))
  number_found = ap u32_at item_parts ∙ u32_found (length body) (body ++ (is.pad ++ after)) is.short

  pub body_found : span_of (front ++ (item ++ after)) (body ++ (is.pad ++ after)) (length body) ≡ Some (middle (front ++ size_text) body (is.pad ++ after))
  body_found = ap (λ (t : List ℕ). span_of t (body ++ (is.pad ++ after)) (length body)) item_middle ∙ middle_found (front ++ size_text) body (is.pad ++ after)

-- the bytes of a handle in the item of it
pub fh_found : (front fh item after : List ℕ) (is : IsFh fh item) → fh_span (front ++ (item ++ after)) (item ++ after) ≡ Some (middle (front ++ u32_text (length fh)) fh (is.0.pad ++ after))
unfolding fh_span
fh_found front fh item after is = rw (number_found front fh item after is.0, fh_reader.found fh item after is) (body_found front fh item after is.0)

module _ (packet : List ℕ) (header : CallHeader) (c : Call) (is : IsCallPacket packet header c) where
  abbrev text : List ℕ
  text = is.begins.text

  abbrev rest : List ℕ
  rest = is.begins.rest

  -- the packet in its three parts: the header, the arguments, and what follows
  pub in_parts : packet ≡ is.head ++ (text ++ rest)
  in_parts = is.whole ∙ ap (λ (t : List ℕ). is.head ++ t) is.begins.whole

  pub args_found : args_in packet ≡ Some (procedure_of c, text ++ rest)
  unfolding args_in
  args_found =
      ap args_in in_parts ∙ rw (header_found is.head header (text ++ rest) is.is_header, is.accepted) (ap (λ (n : ℕ). Some (n, text ++ rest)) (sym is.begins.number))

  -- the packet with other arguments of the same procedure
  pub with_args : (other : Call) (args : List ℕ) → procedure_of other ≡ procedure_of c → IsArgs other args → IsCallPacket (is.head ++ (args ++ rest)) header other
  with_args other args same spells = record {
    head = is.head;
    args = args ++ rest;
    is_header = is.is_header;
    accepted = is.accepted;
    begins = record { number = same ∙ is.begins.number; text = args; rest = rest; args = spells; whole = refl };
    whole = refl;
  }

-- ---- handles

-- the item of another handle of the same length
pub other_item : (fh other item : List ℕ) (is : IsFh fh item) → length other ≡ length fh → IsFh other (u32_text (length fh) ++ (other ++ is.0.pad))
other_item fh other item is same =
    let opaque = is.0 in (
      record {
        pad = opaque.pad;
        pad_length = opaque.pad_length ∙ ap padding (sym same);
        short = omega (arith, opaque.short, same);
        spelled = ap (λ (n : ℕ). u32_text n ++ (other ++ opaque.pad)) (sym same);
      },
      omega (arith, is.1, same),
    )

module _ (i : ℕ) (packet : List ℕ) (header : CallHeader) (c : Call) (is : IsCallPacket packet header c) where
  abbrev Says : List ℕ → List ℕ → Type 0
  Says fh new = IsCallPacket new header (with_handle i fh c)

  handle_none : StandsIf i c is.begins.text None → handle_span i packet ≡ None
  unfolding handle_span
  handle_none reads = rw (args_found packet header c is, reads is.begins.rest) refl

  module _ (fh : List ℕ) (s : Stands i c is.begins.text fh) where
    abbrev after : List ℕ
    after = s.others ++ is.begins.rest

    abbrev number : List ℕ
    number = u32_text (length fh)

    abbrev before : List ℕ
    before = (is.head ++ s.front) ++ number

    abbrev behind : List ℕ
    behind = s.is.0.pad ++ after

    in_item : packet ≡ (is.head ++ s.front) ++ (s.item ++ after)
    in_item =
        in_parts packet header c is
        ∙ ap (λ (t : List ℕ). is.head ++ (t ++ is.begins.rest)) s.parts
        ∙ ap (λ (t : List ℕ). is.head ++ t) (append_assoc s.front (s.item ++ s.others) is.begins.rest ∙ ap (λ (t : List ℕ). s.front ++ t) (append_assoc s.item s.others is.begins.rest))
        ∙ sym (append_assoc is.head s.front (s.item ++ after))

    in_three : packet ≡ three before fh behind
    in_three = in_item ∙ item_middle (is.head ++ s.front) fh s.item after s.is.0

    handle_found : handle_span i packet ≡ Some (middle before fh behind)
    unfolding handle_span
    handle_found =
        rw (args_found packet header c is, s.found is.begins.rest)
        (ap (λ (t : List ℕ). fh_span t (s.item ++ after)) in_item ∙ fh_found (is.head ++ s.front) fh s.item after s.is)

    -- the packet with another handle of the same length
    says : (other : List ℕ) → length other ≡ length fh → Says other (before ++ (other ++ behind))
    says other same =
        let item = number ++ (other ++ s.is.0.pad) in
        let whole : is.head ++ ((s.front ++ (item ++ s.others)) ++ is.begins.rest) ≡ before ++ (other ++ behind) =
        ap (λ (t : List ℕ). is.head ++ t) (append_assoc s.front (item ++ s.others) is.begins.rest ∙ ap (λ (t : List ℕ). s.front ++ t) (append_assoc item s.others is.begins.rest))
        ∙ sym (append_assoc is.head s.front (item ++ after))
        ∙ ap (λ (t : List ℕ). (is.head ++ s.front) ++ t) (append_assoc number (other ++ s.is.0.pad) after ∙ ap (λ (t : List ℕ). number ++ t) (append_assoc other s.is.0.pad after))
        ∙ sym (append_assoc (is.head ++ s.front) number (other ++ behind)) in
        subst (Says other) whole (with_args packet header c is (with_handle i other c) (s.front ++ (item ++ s.others)) (s.same other) (s.again other item (other_item fh other s.item s.is same)))

    handle_slot : IsSlot IsItself Says packet (middle before fh behind) fh
    handle_slot =
        subst (λ (t : List ℕ). IsSlot IsItself Says t (middle before fh behind) fh) (sym in_three)
        (slot before fh behind IsItself Says fh refl (λ other text itself same. subst (λ (t : List ℕ). Says other (before ++ (t ++ behind))) (sym itself) (says other (ap length (sym itself) ∙ same))))

  handle_has : (o : Option (List ℕ)) → StandsIf i c is.begins.text o → HasSlot IsItself Says packet (handle_span i packet) o
  handle_has None reads = subst (λ (s : Option Span). HasSlot IsItself Says packet s None) (sym (handle_none reads)) tt
  handle_has (Some fh) s = subst (λ (o : Option Span). HasSlot IsItself Says packet o (Some fh)) (sym (handle_found fh s)) (handle_slot fh s)

pub handles : HandlesHaveSlots
handles i packet header c is = handle_has i packet header c is (handle_of i c) (handle_stands i c is.begins.text is.begins.args)

-- ---- the xid

module _ (packet : List ℕ) (header : CallHeader) (c : Call) (is : IsCallPacket packet header c) where
  abbrev h : IsCallHeader is.head header
  h = is.is_header

  -- the header behind its xid
  abbrev behind_xid : List ℕ
  behind_xid = (u32_text 0 ++ (u32_text header.rpc_version ++ (u32_text header.program ++ (u32_text header.version ++ u32_text header.procedure)))) ++ (h.credential_text ++ h.verifier_text)

  -- the header with another xid
  header_with : (xid : ℕ) → xid < 2 ^ 32 → IsCallHeader (u32_text xid ++ behind_xid) (with_xid xid header)
  unfolding numbers_text
  header_with xid fits = record {
    fits = record { xid = fits; rpc_version = h.fits.rpc_version; program = h.fits.program; version = h.fits.version; procedure = h.fits.procedure; flavor = h.fits.flavor };
    credential_text = h.credential_text;
    credential = h.credential;
    verifier_text = h.verifier_text;
    verifier_flavor = h.verifier_flavor;
    verifier_body = h.verifier_body;
    verifier = h.verifier;
    spelled = sym (append_assoc (u32_text xid) (u32_text 0 ++ (u32_text header.rpc_version ++ (u32_text header.program ++ (u32_text header.version ++ u32_text header.procedure)))) (h.credential_text ++ h.verifier_text));
  }

  head_is : is.head ≡ u32_text header.xid ++ behind_xid
  unfolding numbers_text
  head_is = h.spelled ∙ append_assoc (u32_text header.xid) (u32_text 0 ++ (u32_text header.rpc_version ++ (u32_text header.program ++ (u32_text header.version ++ u32_text header.procedure)))) (h.credential_text ++ h.verifier_text)

  in_xid : packet ≡ three [] (u32_text header.xid) (behind_xid ++ is.args)
  in_xid = is.whole ∙ ap (λ (t : List ℕ). t ++ is.args) head_is ∙ append_assoc (u32_text header.xid) behind_xid is.args

  -- the packet with another xid
  says_xid : (xid : ℕ) → xid < 2 ^ 32 → IsCallPacket (u32_text xid ++ (behind_xid ++ is.args)) (with_xid xid header) c
  unfolding refusal_of
  says_xid xid fits = record {
    head = u32_text xid ++ behind_xid;
    args = is.args;
    is_header = header_with xid fits;
    accepted = is.accepted;
    begins = is.begins;
    whole = sym (append_assoc (u32_text xid) behind_xid is.args);
  }

  abbrev SaysXid : ℕ → List ℕ → Type 0
  SaysXid xid new = IsCallPacket new (with_xid xid header) c

  xid_found : xid_span packet ≡ Some (middle [] (u32_text header.xid) (behind_xid ++ is.args))
  xid_found =
      ap xid_span in_xid
      ∙ ap (span_of (three [] (u32_text header.xid) (behind_xid ++ is.args)) (three [] (u32_text header.xid) (behind_xid ++ is.args))) (sym (length-u32_text header.xid))
      ∙ middle_found [] (u32_text header.xid) (behind_xid ++ is.args)

  xid_slot : IsSlot IsU32 SaysXid packet (middle [] (u32_text header.xid) (behind_xid ++ is.args)) header.xid
  xid_slot =
      subst (λ (t : List ℕ). IsSlot IsU32 SaysXid t (middle [] (u32_text header.xid) (behind_xid ++ is.args)) header.xid) (sym in_xid)
      (slot [] (u32_text header.xid) (behind_xid ++ is.args) IsU32 SaysXid header.xid (refl, h.fits.xid) (λ xid text number same. subst (λ (t : List ℕ). SaysXid xid (t ++ (behind_xid ++ is.args))) (sym number.0) (says_xid xid number.1)))

  pub xid_has : HasSlot IsU32 SaysXid packet (xid_span packet) (Some header.xid)
  xid_has = subst (λ (s : Option Span). HasSlot IsU32 SaysXid packet s (Some header.xid)) (sym xid_found) xid_slot

pub call_xids : CallXidsHaveSlots
call_xids packet header c is = xid_has packet header c is

-- ---- the count of READ

-- the count stands behind a handle and an offset
count_behind : (file : List ℕ) (offset : ℕ) (fh_text offset_text rest : List ℕ) → IsFh file fh_text → IsU64 offset offset_text → count_from (fh_text ++ (offset_text ++ rest)) ≡ Some rest
unfolding behind_u64
count_behind file offset fh_text offset_text rest is_file is_offset = rw (fh_reader.found file fh_text (offset_text ++ rest) is_file, u64_reader.found offset offset_text rest is_offset) refl

module _ (packet : List ℕ) (header : CallHeader) (file : List ℕ) (offset count : ℕ) (is : IsCallPacket packet header (call.Read file offset count)) where
  abbrev read : Call
  read = call.Read file offset count

  abbrev parts : IsArgs read is.begins.text
  parts = is.begins.args

  abbrev fh_text : List ℕ
  fh_text = parts.0

  abbrev offset_text : List ℕ
  offset_text = parts.3.0

  -- the packet up to the count
  abbrev up_to : List ℕ
  up_to = (is.head ++ fh_text) ++ offset_text

  args_are : is.begins.text ++ is.begins.rest ≡ fh_text ++ (offset_text ++ (u32_text count ++ is.begins.rest))
  args_are =
      ap (λ (t : List ℕ). t ++ is.begins.rest) (parts.4 ∙ ap (λ (t : List ℕ). fh_text ++ t) (parts.3.4 ∙ ap (λ (t : List ℕ). offset_text ++ t) parts.3.3.0))
      ∙ append_assoc fh_text (offset_text ++ u32_text count) is.begins.rest
      ∙ ap (λ (t : List ℕ). fh_text ++ t) (append_assoc offset_text (u32_text count) is.begins.rest)

  regroup : (t : List ℕ) → is.head ++ (fh_text ++ (offset_text ++ t)) ≡ up_to ++ t
  regroup t = sym (append_assoc is.head fh_text (offset_text ++ t)) ∙ sym (append_assoc (is.head ++ fh_text) offset_text t)

  in_count : packet ≡ three up_to (u32_text count) is.begins.rest
  in_count = in_parts packet header read is ∙ ap (λ (t : List ℕ). is.head ++ t) args_are ∙ regroup (u32_text count ++ is.begins.rest)

  count_read : count_from (is.begins.text ++ is.begins.rest) ≡ Some (u32_text count ++ is.begins.rest)
  count_read = ap count_from args_are ∙ count_behind file offset fh_text offset_text (u32_text count ++ is.begins.rest) parts.2 parts.3.2

  count_found : count_span packet ≡ Some (middle up_to (u32_text count) is.begins.rest)
  unfolding count_span
  count_found =
      rw (args_found packet header read is, count_read)
      (ap (λ (t : List ℕ). span_of t (u32_text count ++ is.begins.rest) 4) in_count
      ∙ ap (span_of (three up_to (u32_text count) is.begins.rest) (u32_text count ++ is.begins.rest)) (sym (length-u32_text count))
      ∙ middle_found up_to (u32_text count) is.begins.rest)

  abbrev SaysCount : ℕ → List ℕ → Type 0
  SaysCount n new = IsCallPacket new header (with_count n read)

  says_count : (n : ℕ) → n < 2 ^ 32 → SaysCount n (up_to ++ (u32_text n ++ is.begins.rest))
  says_count n fits =
      let text = fh_text ++ (offset_text ++ u32_text n) in
      let spelled : IsArgs (call.Read file offset n) text = (fh_text, offset_text ++ u32_text n, parts.2, (offset_text, u32_text n, parts.3.2, (refl, fits), refl), refl) in
      let whole : is.head ++ (text ++ is.begins.rest) ≡ up_to ++ (u32_text n ++ is.begins.rest) =
      ap (λ (t : List ℕ). is.head ++ t) (append_assoc fh_text (offset_text ++ u32_text n) is.begins.rest ∙ ap (λ (t : List ℕ). fh_text ++ t) (append_assoc offset_text (u32_text n) is.begins.rest))
      ∙ regroup (u32_text n ++ is.begins.rest) in
      subst (SaysCount n) whole (with_args packet header read is (call.Read file offset n) text refl spelled)

  pub count_has : HasSlot IsU32 SaysCount packet (count_span packet) (Some count)
  count_has =
      let own = slot up_to (u32_text count) is.begins.rest IsU32 SaysCount count (refl, parts.3.3.1) (λ n text number same. subst (λ (t : List ℕ). SaysCount n (up_to ++ (t ++ is.begins.rest))) (sym number.0) (says_count n number.1)) in
      let here = subst (λ (t : List ℕ). IsSlot IsU32 SaysCount t (middle up_to (u32_text count) is.begins.rest) count) (sym in_count) own in
      subst (λ (s : Option Span). HasSlot IsU32 SaysCount packet s (Some count)) (sym count_found) here

-- other calls have no count
no_count : (packet : List ℕ) (header : CallHeader) (c : Call) (is : IsCallPacket packet header c) → eqb (procedure_of c) 6 ≡ false → HasSlot IsU32 (λ n new. IsCallPacket new header (with_count n c)) packet (count_span packet) None
unfolding count_span
no_count packet header c is other =
    let nowhere : count_span packet ≡ None = rw (args_found packet header c is, other) refl in
    subst (λ (s : Option Span). HasSlot IsU32 (λ n new. IsCallPacket new header (with_count n c)) packet s None) (sym nowhere) tt

pub counts : CountsHaveSlots
counts packet header (call.Read file offset count) is = count_has packet header file offset count is
counts packet header other is = no_count packet header other is refl

-- ---- the bytes of WRITE

module _ (packet : List ℕ) (header : CallHeader) (file : List ℕ) (offset count : ℕ) (stability : Stable) (bytes : List ℕ) (is : IsCallPacket packet header (call.Write file offset count stability bytes)) where
  abbrev write : Call
  write = call.Write file offset count stability bytes

  abbrev fields : IsArgs write is.begins.text
  fields = is.begins.args

  abbrev file_text : List ℕ
  file_text = fields.0

  abbrev place_text : List ℕ
  place_text = fields.3.0

  abbrev stable_text : List ℕ
  stable_text = u32_text (stable_number stability)

  abbrev item : List ℕ
  item = fields.3.3.3.1

  abbrev opaque : IsOpaque item bytes
  opaque = fields.3.3.3.3

  -- the packet up to the count
  abbrev before_count : List ℕ
  before_count = (is.head ++ file_text) ++ place_text

  -- the packet up to the item of the bytes
  abbrev before_item : List ℕ
  before_item = (before_count ++ u32_text count) ++ stable_text

  write_text : is.begins.text ++ is.begins.rest ≡ file_text ++ (place_text ++ (u32_text count ++ (stable_text ++ (item ++ is.begins.rest))))
  write_text =
      ap (λ (t : List ℕ). t ++ is.begins.rest) (fields.4 ∙ ap (λ (t : List ℕ). file_text ++ t) (fields.3.4 ∙ ap (λ (t : List ℕ). place_text ++ t) (fields.3.3.4 ∙ ap (λ (t : List ℕ). t ++ fields.3.3.1) fields.3.3.2.0 ∙ ap (λ (t : List ℕ). u32_text count ++ t) (fields.3.3.3.4 ∙ ap (λ (t : List ℕ). t ++ item) fields.3.3.3.2))))
      ∙ append_assoc file_text (place_text ++ (u32_text count ++ (stable_text ++ item))) is.begins.rest
      ∙ ap (λ (t : List ℕ). file_text ++ t) (append_assoc place_text (u32_text count ++ (stable_text ++ item)) is.begins.rest
      ∙ ap (λ (t : List ℕ). place_text ++ t) (append_assoc (u32_text count) (stable_text ++ item) is.begins.rest
      ∙ ap (λ (t : List ℕ). u32_text count ++ t) (append_assoc stable_text item is.begins.rest)))

  -- parts behind the header, put with it
  with_front : (t : List ℕ) → is.head ++ (file_text ++ (place_text ++ t)) ≡ before_count ++ t
  with_front t = sym (append_assoc is.head file_text (place_text ++ t)) ∙ sym (append_assoc (is.head ++ file_text) place_text t)

  in_write : packet ≡ before_count ++ (u32_text count ++ (stable_text ++ (item ++ is.begins.rest)))
  in_write = in_parts packet header write is ∙ ap (λ (t : List ℕ). is.head ++ t) write_text ∙ with_front (u32_text count ++ (stable_text ++ (item ++ is.begins.rest)))

  in_item_of_write : packet ≡ before_item ++ (item ++ is.begins.rest)
  in_item_of_write = in_write ∙ sym (append_assoc before_count (u32_text count) (stable_text ++ (item ++ is.begins.rest))) ∙ sym (append_assoc (before_count ++ u32_text count) stable_text (item ++ is.begins.rest))

  content_read : count_from (is.begins.text ++ is.begins.rest) ≡ Some (u32_text count ++ (stable_text ++ (item ++ is.begins.rest)))
  content_read = ap count_from write_text ∙ count_behind file offset file_text place_text (u32_text count ++ (stable_text ++ (item ++ is.begins.rest))) fields.2 fields.3.2

  -- the packet up to the bytes
  abbrev before_bytes : List ℕ
  before_bytes = before_item ++ u32_text (length bytes)

  abbrev behind_bytes : List ℕ
  behind_bytes = opaque.pad ++ is.begins.rest

  abbrev content : Content
  content = record { count = length before_count; number = length before_item; bytes = length before_bytes; len = length bytes }

  in_bytes : packet ≡ before_bytes ++ (bytes ++ behind_bytes)
  in_bytes = in_item_of_write ∙ item_middle before_item bytes item is.begins.rest opaque

  item_of : item ++ is.begins.rest ≡ u32_text (length bytes) ++ (bytes ++ behind_bytes)
  item_of = item_parts before_item bytes item is.begins.rest opaque

  -- an interval that begins where this rest does
  rest_found : (front back : List ℕ) (size : ℕ) → size ≤ length back → packet ≡ front ++ back → span_of packet back size ≡ Some (record { from = length front; to = length front + size })
  unfolding span_of
  rest_found front back size fits whole =
      let long : length packet ≡ length front + length back = ap length whole ∙ length-append front back in
      let from : length packet - length back ≡ length front = omega (arith, long) in
      let inside : leb (length front + size) (length packet) ≡ true = le-leb _ _ (omega (arith, long, fits)) in
      rw (from, inside) refl

  content_found : content_in packet ≡ Some content
  unfolding content_in content_at behind_u32
  content_found =
      let r1 = stable_text ++ (item ++ is.begins.rest) in
      let r2 = item ++ is.begins.rest in
      let r3 = bytes ++ behind_bytes in
      let room : length bytes + padding (length bytes) ≤ length r3 = omega (arith, length-append bytes behind_bytes, length-append opaque.pad is.begins.rest, opaque.pad_length) in
      let long1 : 4 ≤ length (u32_text count ++ r1) = omega (arith, length-append (u32_text count) r1, length-u32_text count) in
      let long2 : 4 ≤ length r2 = omega (arith, ap length item_of, length-append (u32_text (length bytes)) r3, length-u32_text (length bytes)) in
      rw (
        args_found packet header write is,
        content_read,
        u32_found count r1 fields.3.3.2.1,
        u32_found (stable_number stability) r2 (stable_fits stability),
        number_found before_item bytes item is.begins.rest opaque,
        bytes_reader.found bytes item is.begins.rest opaque,
        rest_found before_count (u32_text count ++ r1) 4 long1 in_write,
        rest_found before_item r2 4 long2 in_item_of_write,
        rest_found before_bytes r3 (length bytes + padding (length bytes)) room in_bytes,
      ) refl

  -- ---- the packet after a cut to n bytes
  module _ (n : ℕ) (few : n ≤ length bytes) where
    abbrev kept : List ℕ
    kept = take n bytes

    abbrev zeros : List ℕ
    zeros = replicate (padding n) 0

    -- what stands behind the bytes that are kept: some of it becomes zeros
    abbrev behind_kept : List ℕ
    behind_kept = drop n bytes ++ behind_bytes

    abbrev gap : List ℕ
    gap = take (padding n) behind_kept

    abbrev tail : List ℕ
    tail = drop (padding n) behind_kept

    kept_long : length kept ≡ n
    kept_long = omega (arith, length-take n bytes, few)

    gap_long : length gap ≡ padding n
    gap_long =
        omega (arith, length-take (padding n) behind_kept, length-append (drop n bytes) behind_bytes, length-drop n bytes, length-append opaque.pad is.begins.rest, opaque.pad_length, few)

    in_gap : packet ≡ (before_bytes ++ kept) ++ (gap ++ tail)
    in_gap =
        in_bytes
        ∙ ap (λ (t : List ℕ). before_bytes ++ (t ++ behind_bytes)) (sym (take-append-drop n bytes))
        ∙ ap (λ (t : List ℕ). before_bytes ++ t) (append_assoc kept (drop n bytes) behind_bytes ∙ ap (λ (t : List ℕ). kept ++ t) (sym (take-append-drop (padding n) behind_kept)))
        ∙ sym (append_assoc before_bytes kept (gap ++ tail))

    padded_is : padded content n packet ≡ (before_bytes ++ kept) ++ (zeros ++ tail)
    padded_is =
        let from : length before_bytes + n ≡ length (before_bytes ++ kept) = omega (arith, length-append before_bytes kept, kept_long) in
        let to : length before_bytes + n + padding n ≡ length (before_bytes ++ kept) + length gap = omega (arith, from, gap_long) in
        ap (λ (s : Span). spliced packet s zeros) (span_same (length before_bytes + n) (length before_bytes + n + padding n) (length (before_bytes ++ kept)) (length (before_bytes ++ kept) + length gap) from to)
        ∙ ap (λ (t : List ℕ). spliced t (middle (before_bytes ++ kept) gap tail) zeros) in_gap
        ∙ middle_spliced (before_bytes ++ kept) gap tail zeros

    -- the same in the parts around its number
    around_number : (before_bytes ++ kept) ++ (zeros ++ tail) ≡ before_item ++ (u32_text (length bytes) ++ (kept ++ (zeros ++ tail)))
    around_number = append_assoc before_bytes kept (zeros ++ tail) ∙ append_assoc before_item (u32_text (length bytes)) (kept ++ (zeros ++ tail))

    -- a number in place of another one
    renumbered : (front back : List ℕ) (m : ℕ) → spliced (front ++ (u32_text m ++ back)) (word_span (length front)) (u32_text n) ≡ front ++ (u32_text n ++ back)
    renumbered front back m =
        let to : length front + 4 ≡ length front + length (u32_text m) = ap (λ (k : ℕ). length front + k) (sym (length-u32_text m)) in
        rw to (middle_spliced front (u32_text m) back (u32_text n))

    abbrev numbered : List ℕ
    numbered = u32_text n ++ (kept ++ (zeros ++ tail))

    around_count : before_item ++ numbered ≡ before_count ++ (u32_text count ++ (stable_text ++ numbered))
    around_count = append_assoc (before_count ++ u32_text count) stable_text numbered ∙ append_assoc before_count (u32_text count) (stable_text ++ numbered)

    cut_is : cut_packet content n packet ≡ before_count ++ (u32_text n ++ (stable_text ++ numbered))
    cut_is =
        ap (λ (t : List ℕ). spliced (spliced t (word_span (length before_item)) (u32_text n)) (word_span (length before_count)) (u32_text n)) (padded_is ∙ around_number)
        ∙ ap (λ (t : List ℕ). spliced t (word_span (length before_count)) (u32_text n)) (renumbered before_item (kept ++ (zeros ++ tail)) (length bytes) ∙ around_count)
        ∙ renumbered before_count (stable_text ++ numbered) count

    -- up to its new end
    abbrev args : List ℕ
    args = u32_text n ++ (stable_text ++ opaque_text kept)

    opaque_is : opaque_text kept ≡ u32_text n ++ (kept ++ zeros)
    unfolding opaque_text
    opaque_is = rw kept_long refl

    ends : before_count ++ (u32_text n ++ (stable_text ++ numbered)) ≡ (before_count ++ args) ++ tail
    ends =
        ap (λ (t : List ℕ). before_count ++ (u32_text n ++ (stable_text ++ t))) (ap (λ (t : List ℕ). u32_text n ++ t) (sym (append_assoc kept zeros tail)) ∙ sym (append_assoc (u32_text n) (kept ++ zeros) tail) ∙ ap (λ (t : List ℕ). t ++ tail) (sym opaque_is))
        ∙ ap (λ (t : List ℕ). before_count ++ t) (ap (λ (t : List ℕ). u32_text n ++ t) (sym (append_assoc stable_text (opaque_text kept) tail)) ∙ sym (append_assoc (u32_text n) (stable_text ++ opaque_text kept) tail))
        ∙ sym (append_assoc before_count args tail)

    end_is : length (before_count ++ args) ≡ cut_length content n
    end_is =
        omega (
          arith,
          length-append before_count args,
          length-append (u32_text n) (stable_text ++ opaque_text kept),
          length-append stable_text (opaque_text kept),
          ap length opaque_is,
          length-append (u32_text n) (kept ++ zeros),
          length-append kept zeros,
          kept_long,
          length-replicate {A = ℕ} (padding n) 0,
          length-u32_text n,
          length-u32_text (stable_number stability),
          length-append before_item (u32_text (length bytes)),
          length-append (before_count ++ u32_text count) stable_text,
          length-append before_count (u32_text count),
          length-u32_text (length bytes),
          length-u32_text count,
        )

    cut_text_is : take (cut_length content n) (cut_packet content n packet) ≡ before_count ++ args
    cut_text_is = ap (take (cut_length content n)) (cut_is ∙ ends) ∙ take_at (before_count ++ args) tail (cut_length content n) end_is

    -- a WRITE of the first n bytes
    says_cut : IsCallPacket (before_count ++ args) header (cut_to n write)
    says_cut =
        let short : length kept < 2 ^ 32 = omega (arith, kept_long, few, opaque.short) in
        let fits : n < 2 ^ 32 = omega (arith, few, opaque.short) in
        let whole_args = file_text ++ (place_text ++ args) in
        let spelled : IsArgs (cut_to n write) whole_args = (file_text, _, fields.2, (place_text, _, fields.3.2, (u32_text n, _, (refl, fits), (stable_text, opaque_text kept, refl, opaque_text_is kept short, refl), refl), refl), refl) in
        record {
          head = is.head;
          args = whole_args;
          is_header = is.is_header;
          accepted = is.accepted;
          begins = record { number = is.begins.number; text = whole_args; rest = []; args = spelled; whole = sym (append-nil whole_args) };
          whole = sym (with_front args);
        }

    cut_says : IsCallPacket (take (cut_length content n) (cut_packet content n packet)) header (cut_to n write)
    cut_says = subst (λ (t : List ℕ). IsCallPacket t header (cut_to n write)) (sym cut_text_is) says_cut

  pub content_has : HasContent packet header write (content_in packet) (Some bytes)
  content_has =
      let own : IsContent packet header write content bytes = record { long = refl; cut = cut_says } in
      subst (λ (c : Option Content). HasContent packet header write c (Some bytes)) (sym content_found) own

-- other calls carry no bytes
no_content : (packet : List ℕ) (header : CallHeader) (c : Call) (is : IsCallPacket packet header c) → eqb (procedure_of c) 7 ≡ false → HasContent packet header c (content_in packet) None
unfolding content_in
no_content packet header c is other =
    let nowhere : content_in packet ≡ None = rw (args_found packet header c is, other) refl in
    subst (λ (o : Option Content). HasContent packet header c o None) (sym nowhere) tt

pub writes : WritesAreCut
writes packet header (call.Write file offset count stability bytes) is = content_has packet header file offset count stability bytes is
writes packet header other is = no_content packet header other is refl
