-- Packets between the proxy and the servers: the client's own, edited in place.
use Rattle.std.specs.Prelude.{ℕ, ◌+◌, ◌-◌, ◌*◌, ◌%◌, ◌^◌, ◌==◌, List, Option, Some, None, Bool, false, not, ◌||◌, length, Result, Ok, Err, if◌then◌else◌, option_and_then}
use Rattle.sl_defs.specs.Items.{u32_text}
use Rattle.sl_defs.specs.declared.setup.Time.{Time}
use Rattle.sl_types.specs.declared.attributes.Fattr.{Fattr}
use Rattle.sl_types.specs.declared.kind.Kind.TheVariants as kind
use Rattle.sl_types.specs.declared.call.Call.{Call}
use Rattle.sl_types.specs.declared.call.Call.TheVariants as call
use Rattle.sl_types.specs.declared.call.Stable.TheVariants as stable
use Rattle.sl_types.specs.declared.handle.Handle.{Handle}
use Rattle.sl_types.specs.declared.handle.InternalHandle.{InternalHandle}
use Rattle.sl_types.specs.Handles.{handle_of, internal_of, handle_text, internal_text}
use Rattle.sl_types.specs.declared.reply.MakeOk.{MakeOk}
use Rattle.sl_types.specs.declared.reply.Reply.{Reply}
use Rattle.sl_types.specs.declared.reply.Reply.TheVariants as reply
use Rattle.sl_replies.specs.Reading.{reply_of}
use Rattle.sl_edit.specs.declared.span.Span.{Span}
use Rattle.sl_edit.specs.Edits.{spliced, bytes_in}
use Rattle.sl_edit.specs.Cuts.{shortened}
use Rattle.sl_edit.specs.Spans.{xid_span, handle_span, count_span, content_in, results_in}
use Rattle.sl_edit.specs.Fields.{first_handle, second_handle, with_first, with_second}
use Rattle.sl_policy.specs.Sites.{site_of}
use Rattle.sl_route.specs.Places.{site_of_byte}
use Rattle.sl_frames.specs.Actors.{is_directory}

-- ---- from the proxy to a server

abbrev pub put_at : Option Span → List ℕ → List ℕ → List ℕ
put_at None text packet = packet
put_at (Some span) text packet = spliced packet span text

-- the last four bytes of a handle tell the servers its site, and the actor that it goes to
abbrev pub keepers : Span → Span
keepers span = record { from = span.to - 4; to = span.to }

abbrev pub keepers_at : Option Span → Option Span
keepers_at None = None
keepers_at (Some span) = Some (keepers span)

-- of an object's handle that goes to a directory server, the object's site; of a file's that goes to a data server, the
-- site of the byte that the call begins with
abbrev pub offset_of : Call → ℕ
offset_of (call.Read file offset count) = offset
offset_of (call.Write file offset count asked bytes) = offset
offset_of other = 0

abbrev pub site_for : ℕ → Call → Handle → ℕ
site_for to c h = if is_directory to then site_of h.fileid else site_of_byte h.fileid (offset_of c)

abbrev pub keepers_text : ℕ → Call → Option Handle → List ℕ
keepers_text to c None = u32_text 0
keepers_text to c (Some h) = u32_text (site_for to c h * 2 ^ 16 + to)

abbrev pub handle_in : List ℕ → Option Span → Option Handle
handle_in packet None = None
handle_in packet (Some span) = handle_of (bytes_in packet span)

-- the i-th handle becomes one among the servers
abbrev pub with_keepers : ℕ → Call → ℕ → List ℕ → List ℕ
with_keepers to c i packet = put_at (keepers_at (handle_span i packet)) (keepers_text to c (handle_in packet (handle_span i packet))) packet

-- the xid is the request's tag
abbrev pub with_xid : ℕ → List ℕ → List ℕ
with_xid tag packet = put_at (xid_span packet) (u32_text (tag % 2 ^ 32)) packet

-- What is forwarded of a client's packet: its handles become handles among the servers, and its xid the tag.
unfoldable pub forwarded : ℕ → ℕ → Call → List ℕ → List ℕ
forwarded to tag c packet = with_xid tag (with_keepers to c 0 (with_keepers to c 1 packet))

-- a READ asks for so many bytes
unfoldable pub forwarded_read : ℕ → ℕ → ℕ → Call → List ℕ → List ℕ
forwarded_read to tag count c packet = put_at (count_span packet) (u32_text count) (forwarded to tag c packet)

-- fewer bytes are written than it asks for, or than it carries
abbrev pub needs_cut : ℕ → Call → Bool
needs_cut n (call.Write file offset count asked bytes) = not (n == count) || not (n == length bytes)
needs_cut n other = false

-- a WRITE of the first so many bytes is cut, where it has others
unfoldable pub forwarded_write : ℕ → ℕ → ℕ → Call → List ℕ → List ℕ
forwarded_write to tag n c packet = if needs_cut n c then shortened (content_in (forwarded to tag c packet)) n (forwarded to tag c packet) else forwarded to tag c packet

-- ---- at a server

abbrev pub outer_text : List ℕ → Option InternalHandle → List ℕ
outer_text bytes None = bytes
outer_text bytes (Some i) = handle_text i.handle

-- the client's handle
abbrev pub outer : List ℕ → List ℕ
outer bytes = outer_text bytes (internal_of bytes)

abbrev pub with_outer_first : Option (List ℕ) → Call → Call
with_outer_first None c = c
with_outer_first (Some h) c = with_first (outer h) c

abbrev pub with_outer_second : Option (List ℕ) → Call → Call
with_outer_second None c = c
with_outer_second (Some h) c = with_second (outer h) c

-- the call as the client made it
abbrev pub outer_call : Call → Call
outer_call c = with_outer_second (second_handle c) (with_outer_first (first_handle c) c)

-- ---- a made object's handle

abbrev pub inner_text : ℕ → Option Handle → List ℕ → List ℕ
inner_text actor None bytes = bytes
inner_text actor (Some h) bytes = internal_text (record { handle = h; site = site_of h.fileid; actor = actor })

abbrev pub inner_object : ℕ → Option (List ℕ) → Option (List ℕ)
inner_object actor None = None
inner_object actor (Some bytes) = Some (inner_text actor (handle_of bytes) bytes)

abbrev pub outer_object : Option (List ℕ) → Option (List ℕ)
outer_object None = None
outer_object (Some bytes) = Some (outer bytes)

abbrev pub made_with : {E : Type 0} → (Option (List ℕ) → Option (List ℕ)) → Result MakeOk E → Result MakeOk E
made_with f (Ok m) = Ok (record m { object = f m.object })
made_with f (Err e) = Err e

abbrev pub with_object : (Option (List ℕ) → Option (List ℕ)) → Reply → Reply
with_object f (reply.Create r) = reply.Create (made_with f r)
with_object f (reply.Mkdir r) = reply.Mkdir (made_with f r)
with_object f (reply.Symlink r) = reply.Symlink (made_with f r)
with_object f (reply.Mknod r) = reply.Mknod (made_with f r)
with_object f other = other

-- ---- replies among the servers

abbrev pub no_time : Time
no_time = record { sec = 0; nsec = 0 }

-- what stands in place of a file's attributes, which the data servers don't have
abbrev pub blank : Fattr
blank = record {
  kind = kind.Reg;
  mode = 0;
  nlink = 0;
  uid = 0;
  gid = 0;
  size = 0;
  used = 0;
  major = 0;
  minor = 0;
  fsid = 0;
  fileid = 0;
  atime = no_time;
  mtime = no_time;
  ctime = no_time;
}

abbrev pub read_reply : List ℕ → Reply
read_reply bytes = reply.Read (Ok (record { attributes = Some blank; count = length bytes; eof = false; bytes = bytes }))

abbrev pub write_reply : ℕ → Reply
write_reply count = reply.Write (Ok (record { wcc = record { after = Some blank }; count = count; committed = stable.Unstable; verifier = 0 }))

-- the reply to a procedure that a packet has
unfoldable pub reply_in : ℕ → List ℕ → Option Reply
reply_in procedure packet = option_and_then (reply_of procedure) (results_in packet)
