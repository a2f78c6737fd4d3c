-- Each segment of a directory server is proper.
use Rattle.std.proofs.Common.{◌≡◌, ℕ, ◌||◌, Bool, true, false, List, [], ◌∷◌, ◌++◌, Option, Some, None, cond, refl, sym, subst}
use Rattle.std.specs.Prelude.{nat_lt}
use Rattle.std.specs.List.{list_any}
use Rattle.sl_defs.specs.declared.note.Choice.{Choice}
use Rattle.sl_records.specs.declared.directory.DirRecord.TheVariants as dir
use Rattle.sl_frames.specs.declared.work.Work.{Work}
use Rattle.sl_frames.specs.declared.frame.Frame.{Frame}
use Rattle.sl_frames.specs.declared.body.Body.{Body}
use Rattle.sl_frames.specs.declared.body.Body.TheVariants as body
use Rattle.sl_history.specs.Arrivals.{Asked, asked_in, datagram, is_changing}
use Rattle.sl_machine.specs.Packets.{outer_call}
use Rattle.sl_machine.specs.Records.{OfDir, Cells, cells_of, locked_in, last_finished, next_counter, counter_end, fileid_at}
use Rattle.sl_machine.specs.Memory.{Site, Actor, OfSite}
use Rattle.sl_machine.specs.World.{Scene, Task, Segment, quiet}
use Rattle.sl_machine.specs.Verdicts.{Verdict, OldFence, Stray, Finished, Parks, IsKept, BelowLow, Answers, for_directory, verdict, seen, parked, is_operating, is_same_request, is_locked_for, answering}
use Rattle.sl_machine.specs.Directories.{again_acknowledged, answers, minted, none_left, mints, does_call, looks, forwarded_choice, serves, locks, finishes, done_for, by_verdict, admits, DirectoryRow, IsRenewed, IsAdmitted, IsTakenUp, IsFounded, IsOpen}
use Rattle.sl_transport.specs.Kinds.{asks}
use Rattle.sl_transport.proofs.Proper.{KeptIn, Proper, either}
use Rattle.sl_transport.proofs.Kept.{kept_seen, kept_renewed, kept_put}
use Rattle.sl_transport.proofs.Judging.{OfVerdict, of_verdict}

module _ (S : Frame → Type 0) (i : ℕ) (own : (f : Frame) → f.from ≡ i → asks f.body ≡ false → S f) where
  stays : (s : Site) (todo : List Task) → KeptIn S s → Proper S (quiet (OfSite s) todo)
  stays s todo kept = record { notes = tt; frames = tt; memory = kept }

  answers_proper : (s : Site) (f : Frame) (b : Body) → asks b ≡ false → KeptIn S s → Proper S (answers i s f b)
  answers_proper s f b tells kept = record { notes = tt; frames = (own _ refl tells, tt); memory = kept }

  again_proper : (s : Site) (f : Frame) (b : Body) → KeptIn S s → Proper S (again_acknowledged i s f b)
  again_proper s f (body.Lock work) kept = stays s [] kept
  again_proper s f other kept = answers_proper s f body.Ack refl kept

  minted_proper : (s : Site) (f : Frame) (fileid : ℕ) → KeptIn S s → Proper S (minted i s f fileid)
  minted_proper s f fileid kept = record {
    notes = tt;
    frames = (own _ refl refl, tt);
    memory = kept_put S f.tag (answering i 0 f (body.Minted fileid)) s (own _ refl refl) kept;
  }

  none_left_proper : (s : Site) (f : Frame) → KeptIn S s → Proper S (none_left i s f)
  none_left_proper s f kept = record {
    notes = tt;
    frames = (own _ refl refl, tt);
    memory = kept_put S f.tag (answering i 0 f (body.Minted 0)) s (own _ refl refl) kept;
  }

  mints_proper : (a : Actor) (s : Site) (f : Frame) (site : ℕ) → KeptIn S s → Proper S (mints i a s f site)
  mints_proper a s f site kept =
      either (nat_lt (next_counter site a.records) counter_end) (minted_proper s f (fileid_at site (next_counter site a.records)) kept) (none_left_proper s f kept)

  locks_proper : (a : Actor) (s : Site) (f : Frame) (work : Work) → KeptIn S s → Proper S (locks i a s f work)
  locks_proper a s f work kept = either (is_locked_for f.op (locked_in a.records)) (answers_proper s f body.Grant refl kept) locked
    where
      locked : Proper S (record { append = Some (OfDir (dir.Lock f.op f.fence work)); memory = OfSite s; frames = answering i 0 f body.Grant ∷ []; notes = []; todo = [] })
      locked = record { notes = tt; frames = (own _ refl refl, tt); memory = kept }

  finishes_proper : (s : Site) (f : Frame) (applied : Bool) → KeptIn S s → Proper S (finishes i s f applied)
  finishes_proper s f applied kept = record { notes = tt; frames = (own _ refl refl, tt); memory = kept }

  kept_parked : (f : Frame) (s : Site) → KeptIn S s → KeptIn S (parked f s)
  kept_parked f s kept = by (is_operating f.body || list_any (is_same_request f) s.parked)
    where
      by : (b : Bool) → KeptIn S (cond b s (record s { parked = s.parked ++ f ∷ [] }))
      by true = kept
      by false = kept

module _ (S : Frame → Type 0) (x : Scene) (own : (f : Frame) → f.from ≡ x.actor → asks f.body ≡ false → S f) where
  does_proper : (s : Site) (f : Frame) (chosen : ℕ) (a : Asked) (c : Cells) (choice : Choice) → KeptIn S s → Proper S (does_call x s f chosen a c choice)
  does_proper s f chosen a c choice kept = record {
    notes = tt;
    frames = (own _ refl refl, tt);
    memory = kept_put S f.tag _ s (own _ refl refl) kept;
  }

  serves_proper : (s : Site) (f : Frame) (chosen : ℕ) (c : Cells) (o : Option Asked) → KeptIn S s → Proper S (serves x s f chosen c o)
  serves_proper s f chosen c None kept = stays S x.actor own s [] kept
  serves_proper s f chosen c (Some a) kept =
      either (is_changing (outer_call a.call)) (does_proper s f chosen a c (forwarded_choice chosen) kept) look
    where
      look : Proper S (looks x s f a c (forwarded_choice chosen))
      look = record { notes = tt; frames = (own _ refl refl, tt); memory = kept }

  done_proper : (a : Actor) (s : Site) (f : Frame) (b : Body) → KeptIn S s → Proper S (done_for x a s f b)
  done_proper a s f (body.Ask keys) kept = answers_proper S x.actor own s f _ refl kept
  done_proper a s f (body.List d cookie limit) kept = answers_proper S x.actor own s f _ refl kept
  done_proper a s f (body.Mint site) kept = mints_proper S x.actor own a s f site kept
  done_proper a s f (body.Forward chosen packet) kept = serves_proper s f chosen (cells_of a.records) (asked_in (datagram packet)) kept
  done_proper a s f (body.Lock work) kept = locks_proper S x.actor own a s f work kept
  done_proper a s f body.Apply kept = finishes_proper S x.actor own s f true kept
  done_proper a s f body.Release kept = finishes_proper S x.actor own s f false kept
  done_proper a s f other kept = stays S x.actor own s [] kept

  by_verdict_proper : (a : Actor) (s : Site) (f : Frame) (v : Verdict) → KeptIn S s → OfVerdict S v → Proper S (by_verdict x a s f v)
  by_verdict_proper a s f OldFence kept of = stays S x.actor own s [] kept
  by_verdict_proper a s f Stray kept of = stays S x.actor own s [] kept
  by_verdict_proper a s f Finished kept of = again_proper S x.actor own s f f.body kept
  by_verdict_proper a s f Parks kept of = stays S x.actor own (parked f s) [] (kept_parked S x.actor own f s kept)
  by_verdict_proper a s f (IsKept answer) kept of = record { notes = tt; frames = (of, tt); memory = kept }
  by_verdict_proper a s f BelowLow kept of = stays S x.actor own s [] kept
  by_verdict_proper a s f Answers kept of = done_proper a s f f.body kept

  admits_proper : (a : Actor) (s : Site) (f : Frame) → KeptIn S s → Proper S (admits x a s f)
  admits_proper a s f kept =
      by_verdict_proper a s f (verdict for_directory (locked_in a.records) (last_finished a.records) s f) kept
      (of_verdict S for_directory (locked_in a.records) (last_finished a.records) s f (kept f.tag))

  pub directory_proper : (a : Actor) (s : Site) (t : Task) (seg : Segment) → KeptIn S s → DirectoryRow x a s t seg → Proper S seg
  directory_proper a s t seg kept (IsRenewed f e is row) = subst (Proper S) (sym row.does) (record { notes = tt; frames = tt; memory = kept_renewed S f s })
  directory_proper a s t seg kept (IsAdmitted f e is row) = subst (Proper S) (sym row.does) (admits_proper a (seen f s) f (kept_seen S f s kept))
  directory_proper a s t seg kept (IsTakenUp f is row) = subst (Proper S) (sym row.does) (admits_proper a (seen f s) f (kept_seen S f s kept))
  directory_proper a s t seg kept (IsFounded is row) = subst (Proper S) (sym row.does) (record { notes = tt; frames = tt; memory = kept })
  directory_proper a s t seg kept (IsOpen is row) = subst (Proper S) (sym row.does) (stays S x.actor own s [] kept)
