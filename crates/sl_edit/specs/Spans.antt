-- Where the fields of a packet stand that are edited in place, by reading the packet from its front.
use Rattle.std.specs.Prelude.{ℕ, zero, suc, ◌+◌, ◌-◌, ◌==◌, List, length, drop, Option, Some, None, is_some, nat_le, if◌then◌else◌}
use Rattle.sl_defs.specs.Items.{◌>>=◌, u32_at, u64_at, padding}
use Rattle.sl_defs.specs.Parts.{optional_at}
use Rattle.sl_defs.specs.Rpc.{call_header_at, refusal_of}
use Rattle.sl_items.specs.Reading.{fh_at, bytes_at, fattr_at}
use Rattle.sl_replies.specs.Reading.{wcc_attr_at}
use Rattle.sl_edit.specs.declared.span.Span.{Span}
use Rattle.sl_edit.specs.declared.cuts.Content.{Content}
use Rattle.sl_edit.specs.declared.layout.Layout.{Layout}
use Rattle.sl_edit.specs.declared.layout.Layout.TheVariants.{Bare, Flagged, Wcc, Handle, OptionalHandle}

-- the interval of so many bytes where this rest of the packet begins, if they are all there
unfoldable pub span_of : List ℕ → List ℕ → ℕ → Option Span
span_of packet rest size =
    let from = length packet - length rest in
    if nat_le (from + size) (length packet) then Some (record { from = from; to = from + size }) else None

-- an interval that is so many bytes long
abbrev pub sized : ℕ → Option Span → Option Span
sized size None = None
sized size (Some span) = if span.to - span.from == size then Some span else None

-- what follows this number
unfoldable pub word_at : ℕ → List ℕ → Option (List ℕ)
word_at k bytes = do
  n ← u32_at bytes
  if n.0 == k then Some n.1 else None

-- what follows any number
unfoldable pub behind_u32 : List ℕ → Option (List ℕ)
behind_u32 bytes = do
  n ← u32_at bytes
  Some n.1

-- the xid stands first (RFC 5531, section 9)
abbrev pub xid_span : List ℕ → Option Span
xid_span packet = span_of packet packet 4

-- the bytes of the handle whose item begins here
unfoldable pub fh_span : List ℕ → List ℕ → Option Span
fh_span packet item = do
  number ← u32_at item
  fh ← fh_at item
  span_of packet number.1 (length fh.0)

-- ---- calls

-- a call's procedure, and the packet from its arguments on
unfoldable pub args_in : List ℕ → Option (ℕ × List ℕ)
args_in packet = do
  header ← call_header_at packet
  if is_some (refusal_of header.0) then None else Some (header.0.procedure, header.1)

-- what follows a handle
abbrev pub behind_handle : List ℕ → Option (List ℕ)
behind_handle bytes = do
  fh ← fh_at bytes
  Some fh.1

-- what follows a handle and a name
abbrev pub behind_entry : List ℕ → Option (List ℕ)
behind_entry bytes = do
  dir ← fh_at bytes
  name ← bytes_at dir.1
  Some name.1

-- the arguments from the item of the second handle on: RENAME has it behind a handle and a name, LINK behind a handle
unfoldable pub second_from : ℕ → List ℕ → Option (List ℕ)
second_from n args = if n == 14 then behind_entry args else if n == 15 then behind_handle args else None

-- the arguments from the item of the i-th handle on, from 0
unfoldable pub handle_from : ℕ → ℕ → List ℕ → Option (List ℕ)
handle_from zero n args = if n == 0 then None else Some args
handle_from (suc zero) n args = second_from n args
handle_from (suc (suc i)) n args = None

unfoldable pub handle_span : ℕ → List ℕ → Option Span
handle_span i packet = do
  args ← args_in packet
  item ← handle_from i args.0 args.1
  fh_span packet item

-- what follows a number of eight bytes
unfoldable pub behind_u64 : List ℕ → Option (List ℕ)
behind_u64 bytes = do
  n ← u64_at bytes
  Some n.1

-- the arguments from the count on, which READ and WRITE have behind a handle and an offset
abbrev pub count_from : List ℕ → Option (List ℕ)
count_from args = do
  offset ← behind_handle args
  behind_u64 offset

unfoldable pub count_span : List ℕ → Option Span
count_span packet = do
  args ← args_in packet
  count ← (if args.0 == 6 then count_from args.1 else None)
  span_of packet count 4

-- what follows two numbers
abbrev pub behind_two : List ℕ → Option (List ℕ)
behind_two bytes = do
  second ← behind_u32 bytes
  behind_u32 second

-- Where a WRITE has its count, the number of its bytes, and these bytes: how stable it is to be stands between the first two.
unfoldable pub content_at : List ℕ → List ℕ → Option Content
content_at packet count = do
  item ← behind_two count
  number ← u32_at item
  bytes ← bytes_at item
  first ← span_of packet count 4
  second ← span_of packet item 4
  room ← span_of packet number.1 (length bytes.0 + padding (length bytes.0))
  Some (record { count = first.from; number = second.from; bytes = room.from; len = length bytes.0 })

unfoldable pub content_in : List ℕ → Option Content
content_in packet = do
  args ← args_in packet
  count ← (if args.0 == 7 then count_from args.1 else None)
  content_at packet count

-- ---- replies

-- the packet from its results on: before them stand the xid, and the numbers of an accepted reply that was a success
-- (RFC 5531, section 9)
unfoldable pub results_in : List ℕ → Option (List ℕ)
results_in packet = do
  xid ← u32_at packet
  reply ← word_at 1 xid.1
  accepted ← word_at 0 reply
  flavor ← word_at 0 accepted
  body ← word_at 0 flavor
  word_at 0 body

-- what stands at the front of the results of each procedure that is about an object (RFC 1813, section 3.3)
unfoldable pub layout_of : ℕ → Option Layout
layout_of n =
    if n == 1 then Some Bare
    else if n == 2 then Some Wcc
    else if n == 3 then Some Handle
    else if n == 4 then Some Flagged
    else if n == 5 then Some Flagged
    else if n == 6 then Some Flagged
    else if n == 7 then Some Wcc
    else if n == 8 then Some OptionalHandle
    else if n == 9 then Some OptionalHandle
    else if n == 10 then Some OptionalHandle
    else if n == 11 then Some OptionalHandle
    else if n == 15 then Some Flagged
    else if n == 21 then Some Wcc
    else None

-- what follows attributes from before the call, and a handle, either of which may be absent
unfoldable pub behind_pre_op : List ℕ → Option (List ℕ)
behind_pre_op bytes = do
  before ← optional_at wcc_attr_at bytes
  Some before.1

unfoldable pub behind_optional_handle : List ℕ → Option (List ℕ)
behind_optional_handle bytes = do
  fh ← optional_at fh_at bytes
  Some fh.1

-- the results from the object's attributes on, if they are there
unfoldable pub attributes_from : Layout → List ℕ → Option (List ℕ)
attributes_from Bare ok = Some ok
attributes_from Flagged ok = word_at 1 ok
attributes_from Wcc ok = behind_pre_op ok >>= word_at 1
attributes_from Handle ok = behind_handle ok >>= word_at 1
attributes_from OptionalHandle ok = behind_optional_handle ok >>= word_at 1

-- the same of the results of a procedure, whose status has to be OK
unfoldable pub attributes_in : ℕ → List ℕ → Option (List ℕ)
attributes_in n results = do
  layout ← layout_of n
  ok ← word_at 0 results
  attributes_from layout ok

unfoldable pub attributes_span : ℕ → List ℕ → Option Span
attributes_span n packet = do
  results ← results_in packet
  attributes ← attributes_in n results
  span_of packet attributes 84

-- what follows attributes that may be absent, and wcc_data
unfoldable pub behind_post_op : List ℕ → Option (List ℕ)
behind_post_op bytes = do
  attributes ← optional_at fattr_at bytes
  Some attributes.1

unfoldable pub behind_wcc : List ℕ → Option (List ℕ)
behind_wcc bytes = do
  before ← behind_pre_op bytes
  behind_post_op before

-- the results of WRITE and COMMIT from the verifier on
unfoldable pub verifier_from : ℕ → List ℕ → Option (List ℕ)
verifier_from n ok =
    if n == 7 then (do
      wcc ← behind_wcc ok
      count ← behind_u32 wcc
      committed ← behind_u32 count
      Some committed)
    else if n == 21 then (do
      wcc ← behind_wcc ok
      Some wcc)
    else None

unfoldable pub verifier_in : ℕ → List ℕ → Option (List ℕ)
verifier_in n results = do
  ok ← word_at 0 results
  verifier_from n ok

unfoldable pub verifier_span : ℕ → List ℕ → Option Span
verifier_span n packet = do
  results ← results_in packet
  verifier ← verifier_in n results
  span_of packet verifier 8

-- the last four bytes, where a listing has its end mark
unfoldable pub last_from : List ℕ → Option (List ℕ)
last_from ok = if nat_le 4 (length ok) then Some (drop (length ok - 4) ok) else None

-- the results of READ and of the listings from the end mark on
unfoldable pub eof_from : ℕ → List ℕ → Option (List ℕ)
eof_from n ok =
    if n == 6 then (do
      attributes ← behind_post_op ok
      count ← behind_u32 attributes
      Some count)
    else if n == 16 then last_from ok
    else if n == 17 then last_from ok
    else None

unfoldable pub eof_in : ℕ → List ℕ → Option (List ℕ)
eof_in n results = do
  ok ← word_at 0 results
  eof_from n ok

unfoldable pub eof_span : ℕ → List ℕ → Option Span
eof_span n packet = do
  results ← results_in packet
  eof ← eof_in n results
  span_of packet eof 4

-- the results from the item of the handle on that the call found or made, if it is there
unfoldable pub object_from : Layout → List ℕ → Option (List ℕ)
object_from Handle ok = Some ok
object_from OptionalHandle ok = word_at 1 ok
object_from other ok = None

unfoldable pub object_in : ℕ → List ℕ → Option (List ℕ)
object_in n results = do
  layout ← layout_of n
  ok ← word_at 0 results
  object_from layout ok

-- the last four bytes of a handle of 32
abbrev pub keepers_within : Span → Option Span
keepers_within span = if span.to - span.from == 32 then Some (record { from = span.to - 4; to = span.to }) else None

unfoldable pub keepers_span : ℕ → List ℕ → Option Span
keepers_span n packet = do
  results ← results_in packet
  item ← object_in n results
  handle ← fh_span packet item
  keepers_within handle
