-- The packet that is forwarded of a GETATTR, as an edit of the client's.
use Rattle.std.proofs.Common.{◌≡◌, ℕ, ◌+◌, ◌-◌, ◌*◌, ◌%◌, ◌^◌, ◌≤◌, ◌==◌, true, List, ◌++◌, length, take, drop, codes, Option, Some, None, Ok, option_and_then, refl, sym, ap, subst, ◌∙◌, append_assoc, if◌then◌else◌, arith}
use Rattle.std.proofs.Math.Seq.{drop-append_seam, take-append_seam, take-add}
use Rattle.std.proofs.lemmas.List.{length-drop, length-take, length-append}
use Rattle.sl_defs.specs.Items.{u32_text, u64_text, AreBytes}
use Rattle.sl_defs.specs.Rpc.{CallHeader, IsCallHeader, Refusal, refusal_of, refused_with, immediate_of, immediate_reply, call_header_at}
use Rattle.sl_defs.proofs.HeaderLaws.{header_takes}
use Rattle.sl_defs.proofs.ItemLaws.{AreBytes-drop}
use Rattle.sl_types.specs.Numbers.{kind_number}
use Rattle.sl_types.specs.declared.call.Call.{Call}
use Rattle.sl_types.specs.declared.call.Call.TheVariants as call
use Rattle.sl_types.specs.declared.handle.Handle.{Handle}
use Rattle.sl_types.specs.declared.handle.InternalHandle.{InternalHandle}
use Rattle.sl_types.specs.Handles.{form_text, handle_of, handle_text, internal_text}
use Rattle.sl_types.specs.declared.reply.Reply.{Reply}
use Rattle.sl_replies.specs.Reading.{reply_of}
use Rattle.sl_calls.specs.Args.{BeginsWithArgs, procedure_of}
use Rattle.sl_calls.specs.Reading.{args_at}
use Rattle.sl_calls.proofs.Calls.{is_found}
use Rattle.sl_edit.specs.declared.span.Span.{Span}
use Rattle.sl_edit.specs.Edits.{Edited, HasSlot, IsItself, IsOrdered, bytes_in, refilled, spliced}
use Rattle.sl_edit.specs.Packets.{IsCallPacket}
use Rattle.sl_edit.specs.Spans.{handle_span, results_in, sized, xid_span}
use Rattle.sl_edit.specs.Laws.{HandlesHaveSlots}
use Rattle.sl_policy.specs.Sites.{site_of}
use Rattle.sl_route.specs.Places.{site_of_byte}
use Rattle.sl_frames.specs.Actors.{is_directory}
use Rattle.sl_history.specs.Arrivals.{Asked, Datagram, IsJunk, IsAnswered, IsAsked, with_args, with_header, read_header, datagram}
use Rattle.sl_machine.specs.Packets.{put_at, keepers, keepers_at, offset_of, keepers_text, handle_in, with_keepers, with_xid, forwarded, reply_in}
use Rattle.sl_world.specs.Admitting.{internal}

-- ---- a datagram that asks something is a packet of that call

pub record IsPacketOf (packet : List ℕ) (q : Asked) : Type 0 where
  pub header : CallHeader
  pub same : header.procedure ≡ q.procedure
  pub is : IsCallPacket packet header q.call

asked_or : Asked → Datagram → Asked
asked_or other IsJunk = other
asked_or other (IsAnswered answer) = other
asked_or other (IsAsked q) = q

by_args : (packet text rest : List ℕ) (q : Asked) (h : CallHeader) (read : Option (Call × List ℕ)) → AreBytes rest → IsCallHeader text h → packet ≡ text ++ rest → refusal_of h ≡ None
    → args_at h.procedure rest ≡ read → with_args h read ≡ IsAsked q → IsPacketOf packet q
unfolding asked_or
by_args packet text rest q h None fits is whole taken args says = absurd cc
by_args packet text rest q h (Some c) fits is whole taken args says = record {
  header = h;
  same = ap (λ d. (asked_or q d).procedure) says;
  is = record {
    head = text;
    args = rest;
    is_header = is;
    accepted = taken;
    begins = subst (λ x. BeginsWithArgs h.procedure x rest) (ap (λ d. (asked_or q d).call) says) (is_found h.procedure rest (Ok c.0) c.1 fits args);
    whole = whole;
  };
}

at_once_none : (h : CallHeader) (reason : Option Refusal) → immediate_of h (refused_with h reason) ≡ None → reason ≡ None
at_once_none h None none = refl
at_once_none h (Some reason) none = absurd cc

by_answer : (packet text rest : List ℕ) (q : Asked) (h : CallHeader) (answer : Option (List ℕ)) → AreBytes rest → IsCallHeader text h → packet ≡ text ++ rest → immediate_reply h ≡ answer
    → with_header h rest answer ≡ IsAsked q → IsPacketOf packet q
by_answer packet text rest q h (Some reply) fits is whole at_once says = absurd cc
by_answer packet text rest q h None fits is whole at_once says =
    by_args packet text rest q h (args_at h.procedure rest) fits is whole (at_once_none h (refusal_of h) at_once) refl says

behind : (packet text rest : List ℕ) → packet ≡ text ++ rest → AreBytes packet → AreBytes rest
behind packet text rest whole fits = subst AreBytes (ap (drop (length text)) whole ∙ drop-append_seam text rest) (AreBytes-drop (length text) packet fits)

by_header : (packet : List ℕ) (q : Asked) (read : Option (CallHeader × List ℕ)) → AreBytes packet → call_header_at packet ≡ read → read_header read ≡ IsAsked q → IsPacketOf packet q
by_header packet q None fits reads says = absurd cc
by_header packet q (Some x) fits reads says =
    let taken = header_takes packet x fits reads in
    by_answer packet taken.0 x.1 q x.0 (immediate_reply x.0) (behind packet taken.0 x.1 taken.2 fits) taken.1 taken.2 refl says

pub is_packet : (packet : List ℕ) (q : Asked) → AreBytes packet → datagram packet ≡ IsAsked q → IsPacketOf packet q
unfolding datagram
is_packet packet q fits is = by_header packet q (call_header_at packet) fits refl is

-- a GETATTR is procedure 1
pub is_getattr : (packet : List ℕ) (q : Asked) (object : List ℕ) → AreBytes packet → datagram packet ≡ IsAsked q → q.call ≡ call.Getattr object → q.procedure ≡ 1
is_getattr packet q object fits is asks = let p = is_packet packet q fits is in sym p.same ∙ sym p.is.begins.number ∙ ap procedure_of asks

-- ---- where its handle stands

-- the call has a handle alone, which stands here
pub record HasHandle (packet : List ℕ) (h : Handle) : Type 0 where
  pub span : Span
  pub first : handle_span 0 packet ≡ Some span
  pub place : IsOrdered packet span
  pub spelled : bytes_in packet span ≡ handle_text h
  pub alone : handle_span 1 packet ≡ None

none_by : {V : Type 0} (Spells : V → List ℕ → Type 0) (Says : V → List ℕ → Type 0) (packet : List ℕ) (o : Option Span) → HasSlot Spells Says packet o None → o ≡ None
none_by Spells Says packet None has = refl
none_by Spells Says packet (Some span) has = absurd has

handle_by : (Says : List ℕ → List ℕ → Type 0) (packet : List ℕ) (h : Handle) (o : Option Span) → handle_span 0 packet ≡ o → handle_span 1 packet ≡ None
    → HasSlot IsItself Says packet o (Some (handle_text h)) → HasHandle packet h
handle_by Says packet h None first alone has = absurd has
handle_by Says packet h (Some span) first alone has = record { span = span; first = first; place = has.place; spelled = has.spelled; alone = alone }

of_getattr : HandlesHaveSlots → (packet : List ℕ) (header : CallHeader) (c : Call) (h : Handle) → c ≡ call.Getattr (handle_text h) → IsCallPacket packet header c → HasHandle packet h
of_getattr handles packet header c h same is =
    let getattr : IsCallPacket packet header (call.Getattr (handle_text h)) = subst (IsCallPacket packet header) same is in
    handle_by _ packet h (handle_span 0 packet) refl (none_by _ _ packet (handle_span 1 packet) (handles 1 packet header (call.Getattr (handle_text h)) getattr))
    (handles 0 packet header (call.Getattr (handle_text h)) getattr)

pub has_handle : HandlesHaveSlots → (packet : List ℕ) (q : Asked) (h : Handle) → AreBytes packet → datagram packet ≡ IsAsked q → q.call ≡ call.Getattr (handle_text h) → HasHandle packet h
has_handle handles packet q h fits is asks = let p = is_packet packet q fits is in of_getattr handles packet p.header q.call h asks p.is

-- ---- the last four bytes of a handle

-- what stands before them
front_text : Handle → List ℕ
front_text h = codes "SLH1" ++ (u32_text 0 ++ (u64_text h.volume ++ (u64_text h.fileid ++ u32_text (kind_number h.kind))))

regrouped : (a b c d e f : List ℕ) → a ++ (b ++ (c ++ (d ++ (e ++ f)))) ≡ (a ++ (b ++ (c ++ (d ++ e)))) ++ f
regrouped a b c d e f =
    sym (append_assoc a (b ++ (c ++ (d ++ e))) f ∙ ap (λ t. a ++ t) (append_assoc b (c ++ (d ++ e)) f ∙ ap (λ t. b ++ t) (append_assoc c (d ++ e) f ∙ ap (λ t. c ++ t) (append_assoc d e f))))

in_two : (h : Handle) (last : ℕ) → form_text h last ≡ front_text h ++ u32_text last
unfolding form_text front_text
in_two h last = regrouped (codes "SLH1") (u32_text 0) (u64_text h.volume) (u64_text h.fileid) (u32_text (kind_number h.kind)) (u32_text last)

front_long : (h : Handle) → length (front_text h) ≡ 28
unfolding front_text u32_text u64_text
front_long h = refl

form_long : (h : Handle) (last : ℕ) → length (form_text h last) ≡ 32
unfolding form_text u32_text u64_text
form_long h last = refl

-- an interval of 32 bytes whose first 28 are these
as_long : (packet : List ℕ) (span : Span) (text : List ℕ) → IsOrdered packet span → bytes_in packet span ≡ text → length text ≡ 32 → span.to ≡ span.from + 32
as_long packet span text place spelled long =
    let whole = ap length spelled ∙ long in
    omega (arith, place.ordered, place.inside, whole, length-take (span.to - span.from) (drop span.from packet), length-drop span.from packet)

front_of : (rest front old : List ℕ) → length front + 4 ≤ length rest → take (length front + 4) rest ≡ front ++ old → take (length front) rest ≡ front
front_of rest front old enough spelled =
    let both : take (length front) rest ++ take 4 (drop (length front) rest) ≡ front ++ old = sym (take-add (length front) 4 rest) ∙ spelled in
    let long : length (take (length front) rest) ≡ length front = omega (arith, length-take (length front) rest, enough) in
    sym (take-append_seam (take (length front) rest) (take 4 (drop (length front) rest)))
    ∙ ap (λ n. take n (take (length front) rest ++ take 4 (drop (length front) rest))) long ∙ ap (take (length front)) both ∙ take-append_seam front old

-- the last four bytes may be written alone
same_edit : (packet front old new : List ℕ) (span : Span) → IsOrdered packet span → bytes_in packet span ≡ front ++ old → length front ≡ 28 → length old ≡ 4
    → spliced packet (keepers span) new ≡ spliced packet span (front ++ new)
same_edit packet front old new span place spelled long short =
    let to : span.to ≡ span.from + 32 = as_long packet span (front ++ old) place spelled (length-append front old ∙ omega (arith, long, short)) in
    let at : span.to - 4 ≡ span.from + length front = omega (arith, to, long) in
    let size : span.to - span.from ≡ length front + 4 = omega (arith, to, long) in
    let seen : take (length front) (drop span.from packet) ≡ front =
    front_of (drop span.from packet) front old (omega (arith, to, long, place.inside, length-drop span.from packet)) (ap (λ n. take n (drop span.from packet)) (sym size) ∙ spelled) in
    ap (λ n. take n packet ++ (new ++ drop span.to packet)) at
    ∙ ap (λ t. t ++ (new ++ drop span.to packet)) (take-add span.from (length front) packet ∙ ap (λ t. take span.from packet ++ t) seen)
    ∙ append_assoc (take span.from packet) front (new ++ drop span.to packet)
    ∙ ap (λ t. take span.from packet ++ t) (sym (append_assoc front new (drop span.to packet)))

-- ---- the packet that is forwarded

u32_long : (n : ℕ) → length (u32_text n) ≡ 4
unfolding u32_text
u32_long n = refl

fitted : (span : Span) → span.to ≡ span.from + 32 → sized 32 (Some span) ≡ Some span
fitted span long = ap (λ n. if n == 32 then Some span else None) (size span.from span.to long)
  where
    size : (from to : ℕ) → to ≡ from + 32 → to - from ≡ 32
    size from to e = omega arith

one_edit : (packet : List ℕ) (span : Span) (h : Handle) (last : ℕ) → IsOrdered packet span → bytes_in packet span ≡ handle_text h
    → spliced packet (keepers span) (u32_text last) ≡ spliced packet span (form_text h last)
one_edit packet span h last place spelled =
    same_edit packet (front_text h) (u32_text 0) (u32_text last) span place (spelled ∙ in_two h 0) (front_long h) (u32_long 0)
    ∙ ap (spliced packet span) (sym (in_two h last))

kept : (packet : List ℕ) (to : ℕ) (c : Call) (h : Handle) → HasHandle packet h → handle_of (handle_text h) ≡ Some h → is_directory to ≡ true
    → with_keepers to c 0 packet ≡ refilled packet (sized 32 (handle_span 0 packet)) (internal_text (internal h to))
kept packet to c h has spelled directory =
    ap (λ o. put_at (keepers_at o) (keepers_text to c (handle_in packet o)) packet) has.first
    ∙ ap (λ o. spliced packet (keepers has.span) (keepers_text to c o)) (ap handle_of has.spelled ∙ spelled)
    ∙ ap (λ b. spliced packet (keepers has.span) (u32_text ((if b then site_of h.fileid else site_of_byte h.fileid (offset_of c)) * 2 ^ 16 + to))) directory
    ∙ one_edit packet has.span h (site_of h.fileid * 2 ^ 16 + to) has.place has.spelled
    ∙ ap (λ o. refilled packet o (internal_text (internal h to))) (sym (ap (sized 32) has.first ∙ fitted has.span (as_long packet has.span (handle_text h) has.place has.spelled (form_long h 0))))

no_second : (packet : List ℕ) (to : ℕ) (c : Call) → handle_span 1 packet ≡ None → with_keepers to c 1 packet ≡ packet
no_second packet to c none = ap (λ o. put_at (keepers_at o) (keepers_text to c (handle_in packet o)) packet) none

edited_twice : (packet first last text : List ℕ) (to tag : ℕ) (c : Call) (o : Option Span) → with_keepers to c 1 packet ≡ packet → with_keepers to c 0 packet ≡ refilled packet o text
    → Edited o text packet first → Edited (xid_span first) (u32_text (tag % 2 ^ 32)) first last → last ≡ forwarded to tag c packet
unfolding forwarded
edited_twice packet first last text to tag c o second keeps one two =
    two ∙ put_same (xid_span first) (u32_text (tag % 2 ^ 32)) first ∙ ap (with_xid tag) (one ∙ sym keeps ∙ ap (with_keepers to c 0) (sym second))
  where
    put_same : (o : Option Span) (text packet : List ℕ) → refilled packet o text ≡ put_at o text packet
    put_same None text packet = refl
    put_same (Some span) text packet = refl

pub is_forwarded : HandlesHaveSlots → (packet first last : List ℕ) (q : Asked) (h : Handle) (to tag : ℕ) → AreBytes packet → datagram packet ≡ IsAsked q → q.call ≡ call.Getattr (handle_text h)
    → handle_of (handle_text h) ≡ Some h → is_directory to ≡ true → Edited (sized 32 (handle_span 0 packet)) (internal_text (internal h to)) packet first
    → Edited (xid_span first) (u32_text (tag % 2 ^ 32)) first last → last ≡ forwarded to tag (call.Getattr (handle_text h)) packet
is_forwarded slots packet first last q h to tag fits is asks spelled directory one two =
    let has = has_handle slots packet q h fits is asks in
    edited_twice packet first last (internal_text (internal h to)) to tag (call.Getattr (handle_text h)) (sized 32 (handle_span 0 packet))
    (no_second packet to (call.Getattr (handle_text h)) has.alone) (kept packet to (call.Getattr (handle_text h)) h has spelled directory) one two

-- the same, as the code edits a buffer
pub forwards : HandlesHaveSlots → (packet items lent bytes first again last result : List ℕ) (n : ℕ) (q : Asked) (h : Handle) (i : InternalHandle) (to tag : ℕ) → AreBytes packet → datagram packet ≡ IsAsked q
    → q.call ≡ call.Getattr (handle_text h) → handle_of (handle_text h) ≡ Some h → is_directory to ≡ true → items ≡ packet → lent ≡ items → n ≡ length items
    → bytes ≡ internal_text i → i ≡ internal h to → Edited (sized (length bytes) (handle_span 0 lent)) bytes lent first → length first ≡ length lent
    → again ≡ take n (first ++ drop (length first) items) → Edited (xid_span again) (u32_text (tag % 2 ^ 32)) again last → length last ≡ length again
    → result ≡ take n (last ++ drop (length last) (take n (first ++ drop (length first) items))) → result ≡ forwarded to tag (call.Getattr (handle_text h)) packet
forwards slots packet items lent bytes first again last result n q h i to tag fits is asks spelled directory items_is lent_is n_is bytes_is i_is one one_long again_is two two_long result_is =
    let text : bytes ≡ internal_text (internal h to) = bytes_is ∙ ap internal_text i_is in
    let edited : Edited (sized 32 (handle_span 0 packet)) (internal_text (internal h to)) packet first =
    one ∙ ap (λ b. refilled lent (sized (length b) (handle_span 0 lent)) b) text
    ∙ ap (λ k. refilled lent (sized k (handle_span 0 lent)) (internal_text (internal h to))) (form_long h (site_of h.fileid * 2 ^ 16 + to))
    ∙ ap (λ p. refilled p (sized 32 (handle_span 0 p)) (internal_text (internal h to))) (lent_is ∙ items_is) in
    let first_long : length first ≡ n = one_long ∙ ap length lent_is ∙ sym n_is in
    let again_first : again ≡ first = again_is ∙ put n first (drop (length first) items) first_long in
    let edited_again : Edited (xid_span first) (u32_text (tag % 2 ^ 32)) first last = two ∙ ap (λ p. refilled p (xid_span p) (u32_text (tag % 2 ^ 32))) again_first in
    let last_long : length last ≡ n = two_long ∙ ap length again_first ∙ first_long in
    result_is ∙ put n last (drop (length last) (take n (first ++ drop (length first) items))) last_long
    ∙ is_forwarded slots packet first last q h to tag fits is asks spelled directory edited edited_again
  where
    put : (n : ℕ) (text others : List ℕ) → length text ≡ n → take n (text ++ others) ≡ text
    put n text others long = ap (λ k. take k (text ++ others)) (sym long) ∙ take-append_seam text others

-- ---- the reply that a packet has

pub no_reply : (n : ℕ) (packet : List ℕ) → results_in packet ≡ None → None ≡ reply_in n packet
unfolding reply_in
no_reply n packet none = sym (ap (option_and_then (reply_of n)) none)

pub some_reply : (n : ℕ) (packet results : List ℕ) (o : Option Reply) → results_in packet ≡ Some results → reply_of n results ≡ o → o ≡ reply_in n packet
unfolding reply_in
some_reply n packet results o found is = sym (ap (option_and_then (reply_of n)) found ∙ is)
