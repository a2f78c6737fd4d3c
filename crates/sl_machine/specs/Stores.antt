-- What a data server does, a row for each case: a small-file server, or a storage node.
use Rattle.std.proofs.Common.{zero, suc}
use Rattle.std.specs.Prelude.{◌≡◌, ℕ, ◌+◌, ◌-◌, ◌==◌, ◌<◌, List, [], ◌∷◌, ◌++◌, Option, Some, None, Bool, true, false, not, ◌&&◌, nat_lt, nat_le, take, filter, length, slice_index, if◌then◌else◌}
use Rattle.std.specs.Option.{unwrap_or}
use Rattle.std.specs.FinMap as map
use Rattle.sl_types.specs.declared.call.Call.{Call}
use Rattle.sl_types.specs.declared.call.Call.TheVariants as call
use Rattle.sl_types.specs.Handles.{handle_of}
use Rattle.sl_types.specs.declared.writes.Write.{Write}
use Rattle.sl_records.specs.declared.data_server.DataRecord.TheVariants as store
use Rattle.sl_frames.specs.declared.work.Work.{Work}
use Rattle.sl_frames.specs.declared.work.Work.TheVariants as work
use Rattle.sl_frames.specs.declared.frame.Frame.{Frame}
use Rattle.sl_frames.specs.declared.body.Body.{Body}
use Rattle.sl_frames.specs.declared.body.Body.TheVariants as body
use Rattle.sl_history.specs.Arrivals.{Asked, asked_in, datagram, answer_to, fileid_of}
use Rattle.sl_machine.specs.Records.{OfData, Bytes, Held, bytes_of, boot_of, locked_in, last_finished}
use Rattle.sl_machine.specs.Memory.{Store, Buffered, Actor, OfStore}
use Rattle.sl_machine.specs.World.{Scene, Task, Given, TakesUp, Segment, quiet, sends}
use Rattle.sl_machine.specs.Verdicts.{Verdict, OldFence, Stray, Finished, Parks, IsKept, BelowLow, Answers, verdict, for_store, seen, renewed, parked, taken_up, keeping, answering, is_locked_for}
use Rattle.sl_machine.specs.Directories.{take_ups}
use Rattle.sl_machine.specs.Packets.{outer_call, read_reply, write_reply}

-- ---- its bytes: the buffered writes over the stable ones

abbrev pub byte_after : ℕ → ℕ → Buffered → ℕ → ℕ
byte_after f at b before =
    if b.fileid == f && (nat_le b.write.offset at && nat_lt at (b.write.offset + length b.write.bytes)) then slice_index b.write.bytes (at - b.write.offset) else before

abbrev pub byte_over : ℕ → ℕ → List Buffered → ℕ → ℕ
byte_over f at [] before = before
byte_over f at (b ∷ bs) before = byte_over f at bs (byte_after f at b before)

abbrev pub byte_here : Bytes → List Buffered → ℕ → ℕ → ℕ
byte_here stable buffered f at = byte_over f at buffered (unwrap_or (map.get stable (f, at)) 0)

-- from an offset on, so many
abbrev pub bytes_here : Bytes → List Buffered → ℕ → ℕ → ℕ → List ℕ
bytes_here stable buffered f at zero = []
bytes_here stable buffered f at (suc count) = byte_here stable buffered f at ∷ bytes_here stable buffered f (at + 1) count

-- the buffered writes of a file, the oldest first
abbrev pub is_of : ℕ → Buffered → Bool
is_of f b = b.fileid == f

abbrev pub writes_of : ℕ → List Buffered → List Write
writes_of f [] = []
writes_of f (b ∷ bs) = if is_of f b then b.write ∷ writes_of f bs else writes_of f bs

abbrev pub without_file : ℕ → List Buffered → List Buffered
without_file f bs = filter (λ b. not (is_of f b)) bs

-- ---- rows, after what was seen

abbrev pub own_boot : Actor → ℕ
own_boot a = boot_of a.records

-- A frame of a greater fence: what is buffered and kept goes. A data server records no fence.
pub record Renews (m : Store) (f : Frame) (e : ℕ) (seg : Segment) : Type 0 where
  pub greater : m.site.fence < f.fence
  pub does : seg ≡ quiet (OfStore (record { site = renewed f m.site; buffered = [] })) (Given f e ∷ [])

abbrev pub still : Store → Segment
still m = quiet (OfStore m) []

abbrev pub answers : Scene → Actor → Store → Frame → Body → Segment
answers x a m f b = sends (OfStore m) (answering x.actor (own_boot a) f b) []

abbrev pub again_acknowledged : Scene → Actor → Store → Frame → Body → Segment
again_acknowledged x a m f (body.Lock w) = still m
again_acknowledged x a m f other = answers x a m f body.Ack

abbrev pub packet : Scene → Actor → Store → Frame → List ℕ → Segment
packet x a m f bytes = answers x a m f (body.Packet bytes)

-- the answer to a WRITE is kept
abbrev pub keeps_packet : Scene → Actor → Store → Frame → List ℕ → Segment
keeps_packet x a m f bytes =
    answers x a (record m { site = keeping f.tag (answering x.actor (own_boot a) f (body.Packet bytes)) m.site }) f (body.Packet bytes)

abbrev pub with_write : Store → ℕ → ℕ → List ℕ → Store
with_write m f offset bytes = record m { buffered = m.buffered ++ record { fileid = f; write = record { offset = offset; bytes = bytes } } ∷ [] }

-- READ gives the bytes that are asked for, and WRITE is buffered
abbrev pub serves_call : Scene → Actor → Store → Frame → Asked → Call → Segment
serves_call x a m f asked (call.Read file offset count) =
    packet x a m f (answer_to asked (read_reply (bytes_here (bytes_of a.records) m.buffered (fileid_of (handle_of file)) offset count)))
serves_call x a m f asked (call.Write file offset count stability bytes) =
    keeps_packet x a (with_write m (fileid_of (handle_of file)) offset (take count bytes)) f (answer_to asked (write_reply (length (take count bytes))))
serves_call x a m f asked other = still m

abbrev pub serves : Scene → Actor → Store → Frame → Option Asked → Segment
serves x a m f None = still m
serves x a m f (Some asked) = serves_call x a m f asked (outer_call asked.call)

-- the record of a Lock has the bytes that are to be kept
abbrev pub with_kept : List Buffered → Work → Work
with_kept bs (work.Keep f writes) = work.Keep f (writes_of f bs)
with_kept bs other = other

abbrev pub locks : Scene → Actor → Store → Frame → Work → Segment
locks x a m f w =
    if is_locked_for f.op (locked_in a.records) then answers x a m f body.Grant
    else record {
      append = Some (OfData (store.Lock f.op f.fence (with_kept m.buffered w)));
      memory = OfStore m;
      frames = answering x.actor (own_boot a) f body.Grant ∷ [];
      notes = [];
      todo = [];
    }

-- bytes that are kept or put, and those of a file that is dropped, are buffered no longer
abbrev pub without_work : Work → List Buffered → List Buffered
without_work (work.Keep f writes) bs = without_file f bs
without_work (work.Put f offset bytes) bs = without_file f bs
without_work (work.Drop f) bs = without_file f bs
without_work other bs = bs

abbrev pub without_held : Option Held → List Buffered → List Buffered
without_held None bs = bs
without_held (Some h) bs = without_work h.work bs

abbrev pub buffered_then : Bool → Option Held → List Buffered → List Buffered
buffered_then true held bs = without_held held bs
buffered_then false held bs = bs

abbrev pub finishes : Scene → Actor → Store → Frame → Bool → Segment
finishes x a m f applied = record {
  append = Some (OfData (store.Finish f.op applied));
  memory = OfStore (record { site = record m.site { parked = [] }; buffered = buffered_then applied (locked_in a.records) m.buffered });
  frames = answering x.actor (own_boot a) f body.Ack ∷ [];
  notes = [];
  todo = take_ups (taken_up m.site.parked);
}

-- a call or a Lock may rely on another boot than this one
abbrev pub relies_wrongly : Actor → Frame → Bool
relies_wrongly a f = not (f.boot == 0) && not (f.boot == own_boot a)

abbrev pub done_for : Scene → Actor → Store → Frame → Body → Segment
done_for x a m f (body.Forward chosen bytes) = if relies_wrongly a f then answers x a m f body.Refuse else serves x a m f (asked_in (datagram bytes))
done_for x a m f (body.Lock w) = if relies_wrongly a f then answers x a m f body.Refuse else locks x a m f w
done_for x a m f body.Apply = finishes x a m f true
done_for x a m f body.Release = finishes x a m f false
done_for x a m f other = still m

abbrev pub by_verdict : Scene → Actor → Store → Frame → Verdict → Segment
by_verdict x a m f OldFence = still m
by_verdict x a m f Stray = still m
by_verdict x a m f Finished = again_acknowledged x a m f f.body
by_verdict x a m f Parks = still (record m { site = parked f m.site })
by_verdict x a m f (IsKept answer) = sends (OfStore m) answer []
by_verdict x a m f BelowLow = still m
by_verdict x a m f Answers = done_for x a m f f.body

abbrev pub admits : Scene → Actor → Store → Frame → Segment
admits x a m f = by_verdict x a m f (verdict for_store (locked_in a.records) (last_finished a.records) m.site f)

pub record Admits (x : Scene) (a : Actor) (m : Store) (f : Frame) (seg : Segment) : Type 0 where
  pub not_greater : nat_lt m.site.fence f.fence ≡ false
  pub does : seg ≡ admits x a (record m { site = seen f m.site }) f

-- ---- its opening: it counts its boots, and has forgotten all else

pub record Boots (a : Actor) (seg : Segment) : Type 0 where
  pub does :
      seg ≡ record {
        append = Some (OfData (store.Boot (own_boot a + 1)));
        memory = OfStore (record { site = record { fence = 0; low = 0; kept = map.empty; parked = [] }; buffered = [] });
        frames = [];
        notes = [];
        todo = [];
      }

pub data StoreRow (x : Scene) (a : Actor) (m : Store) (t : Task) (seg : Segment) : Type 0 where
  IsRenewed : (f : Frame) (e : ℕ) → t ≡ Given f e → Renews m f e seg → StoreRow x a m t seg
  IsAdmitted : (f : Frame) (e : ℕ) → t ≡ Given f e → Admits x a m f seg → StoreRow x a m t seg
  IsTakenUp : (f : Frame) → t ≡ TakesUp f → Admits x a m f seg → StoreRow x a m t seg
