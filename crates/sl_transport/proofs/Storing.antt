-- Each segment of a data server is proper.
use Rattle.std.proofs.Common.{◌≡◌, ℕ, ◌||◌, Bool, true, false, List, [], ◌∷◌, ◌++◌, Option, Some, None, cond, refl, sym, subst}
use Rattle.std.specs.List.{list_any}
use Rattle.sl_types.specs.declared.call.Call.{Call}
use Rattle.sl_types.specs.declared.call.Call.TheVariants as call
use Rattle.sl_records.specs.declared.data_server.DataRecord.TheVariants as store
use Rattle.sl_frames.specs.declared.work.Work.{Work}
use Rattle.sl_frames.specs.declared.frame.Frame.{Frame}
use Rattle.sl_frames.specs.declared.body.Body.{Body}
use Rattle.sl_frames.specs.declared.body.Body.TheVariants as body
use Rattle.sl_history.specs.Arrivals.{Asked, asked_in, datagram}
use Rattle.sl_machine.specs.Packets.{outer_call}
use Rattle.sl_machine.specs.Records.{OfData, locked_in, last_finished}
use Rattle.sl_machine.specs.Memory.{Store, Actor, OfStore}
use Rattle.sl_machine.specs.World.{Scene, Task, Segment}
use Rattle.sl_machine.specs.Verdicts.{Verdict, OldFence, Stray, Finished, Parks, IsKept, BelowLow, Answers, for_store, verdict, seen, parked, is_operating, is_same_request, is_locked_for, answering}
use Rattle.sl_machine.specs.Stores.{own_boot, still, answers, again_acknowledged, keeps_packet, serves_call, serves, with_kept, locks, finishes, relies_wrongly, done_for, by_verdict, admits, Boots, StoreRow, IsRenewed, IsAdmitted, IsTakenUp}
use Rattle.sl_transport.specs.Kinds.{asks}
use Rattle.sl_transport.proofs.Proper.{KeptIn, Proper, either}
use Rattle.sl_transport.proofs.Kept.{kept_seen, kept_renewed, kept_empty, kept_put}
use Rattle.sl_transport.proofs.Judging.{OfVerdict, of_verdict}

module _ (S : Frame → Type 0) (x : Scene) (own : (f : Frame) → f.from ≡ x.actor → asks f.body ≡ false → S f) where
  stays : (m : Store) → KeptIn S m.site → Proper S (still m)
  stays m kept = record { notes = tt; frames = tt; memory = kept }

  answers_proper : (a : Actor) (m : Store) (f : Frame) (b : Body) → asks b ≡ false → KeptIn S m.site → Proper S (answers x a m f b)
  answers_proper a m f b tells kept = record { notes = tt; frames = (own _ refl tells, tt); memory = kept }

  again_proper : (a : Actor) (m : Store) (f : Frame) (b : Body) → KeptIn S m.site → Proper S (again_acknowledged x a m f b)
  again_proper a m f (body.Lock w) kept = stays m kept
  again_proper a m f other kept = answers_proper a m f body.Ack refl kept

  keeps_proper : (a : Actor) (m : Store) (f : Frame) (bytes : List ℕ) → KeptIn S m.site → Proper S (keeps_packet x a m f bytes)
  keeps_proper a m f bytes kept = record {
    notes = tt;
    frames = (own _ refl refl, tt);
    memory = kept_put S f.tag (answering x.actor (own_boot a) f (body.Packet bytes)) m.site (own _ refl refl) kept;
  }

  serves_call_proper : (a : Actor) (m : Store) (f : Frame) (asked : Asked) (c : Call) → KeptIn S m.site → Proper S (serves_call x a m f asked c)
  serves_call_proper a m f asked (call.Read file offset count) kept = answers_proper a m f _ refl kept
  serves_call_proper a m f asked (call.Write file offset count stability bytes) kept = keeps_proper a _ f _ kept
  serves_call_proper a m f asked other kept = stays m kept

  serves_proper : (a : Actor) (m : Store) (f : Frame) (o : Option Asked) → KeptIn S m.site → Proper S (serves x a m f o)
  serves_proper a m f None kept = stays m kept
  serves_proper a m f (Some asked) kept = serves_call_proper a m f asked (outer_call asked.call) kept

  locks_proper : (a : Actor) (m : Store) (f : Frame) (w : Work) → KeptIn S m.site → Proper S (locks x a m f w)
  locks_proper a m f w kept = either (is_locked_for f.op (locked_in a.records)) (answers_proper a m f body.Grant refl kept) locked
    where
      locked : Proper S (record { append = Some (OfData (store.Lock f.op f.fence (with_kept m.buffered w))); memory = OfStore m; frames = answering x.actor (own_boot a) f body.Grant ∷ []; notes = []; todo = [] })
      locked = record { notes = tt; frames = (own _ refl refl, tt); memory = kept }

  finishes_proper : (a : Actor) (m : Store) (f : Frame) (applied : Bool) → KeptIn S m.site → Proper S (finishes x a m f applied)
  finishes_proper a m f applied kept = record { notes = tt; frames = (own _ refl refl, tt); memory = kept }

  done_proper : (a : Actor) (m : Store) (f : Frame) (b : Body) → KeptIn S m.site → Proper S (done_for x a m f b)
  done_proper a m f (body.Forward chosen bytes) kept =
      either (relies_wrongly a f) (answers_proper a m f body.Refuse refl kept) (serves_proper a m f (asked_in (datagram bytes)) kept)
  done_proper a m f (body.Lock w) kept = either (relies_wrongly a f) (answers_proper a m f body.Refuse refl kept) (locks_proper a m f w kept)
  done_proper a m f body.Apply kept = finishes_proper a m f true kept
  done_proper a m f body.Release kept = finishes_proper a m f false kept
  done_proper a m f other kept = stays m kept

  kept_parked : (f : Frame) (m : Store) → KeptIn S m.site → KeptIn S (parked f m.site)
  kept_parked f m kept = by (is_operating f.body || list_any (is_same_request f) m.site.parked)
    where
      by : (b : Bool) → KeptIn S (cond b m.site (record m.site { parked = m.site.parked ++ f ∷ [] }))
      by true = kept
      by false = kept

  by_verdict_proper : (a : Actor) (m : Store) (f : Frame) (v : Verdict) → KeptIn S m.site → OfVerdict S v → Proper S (by_verdict x a m f v)
  by_verdict_proper a m f OldFence kept of = stays m kept
  by_verdict_proper a m f Stray kept of = stays m kept
  by_verdict_proper a m f Finished kept of = again_proper a m f f.body kept
  by_verdict_proper a m f Parks kept of = stays (record m { site = parked f m.site }) (kept_parked f m kept)
  by_verdict_proper a m f (IsKept answer) kept of = record { notes = tt; frames = (of, tt); memory = kept }
  by_verdict_proper a m f BelowLow kept of = stays m kept
  by_verdict_proper a m f Answers kept of = done_proper a m f f.body kept

  admits_proper : (a : Actor) (m : Store) (f : Frame) → KeptIn S m.site → Proper S (admits x a m f)
  admits_proper a m f kept =
      by_verdict_proper a m f (verdict for_store (locked_in a.records) (last_finished a.records) m.site f) kept
      (of_verdict S for_store (locked_in a.records) (last_finished a.records) m.site f (kept f.tag))

  pub boots_proper : (a : Actor) (s : Segment) → Boots a s → Proper S s
  boots_proper a s boots = subst (Proper S) (sym boots.does) (record { notes = tt; frames = tt; memory = kept_empty S })

  pub store_proper : (a : Actor) (m : Store) (t : Task) (s : Segment) → KeptIn S m.site → StoreRow x a m t s → Proper S s
  store_proper a m t s kept (IsRenewed f e is row) = subst (Proper S) (sym row.does) (record { notes = tt; frames = tt; memory = kept_renewed S f m.site })
  store_proper a m t s kept (IsAdmitted f e is row) = subst (Proper S) (sym row.does) (admits_proper a (record m { site = seen f m.site }) f (kept_seen S f m.site kept))
  store_proper a m t s kept (IsTakenUp f is row) = subst (Proper S) (sym row.does) (admits_proper a (record m { site = seen f m.site }) f (kept_seen S f m.site kept))
