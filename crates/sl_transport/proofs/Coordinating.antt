-- Each segment of the coordinator is proper.
use Rattle.std.proofs.Common.{◌≡◌, ◌==◌, ◌&&◌, ◌||◌, Bool, true, false, List, [], ◌∷◌, ◌++◌, Option, Some, None, cond, refl, sym, subst}
use Rattle.std.specs.Prelude.{nat_le}
use Rattle.sl_records.specs.declared.started.Started.{Started}
use Rattle.sl_records.specs.declared.coordinator.LogEntry.TheVariants as log
use Rattle.sl_frames.specs.Actors.{is_proxy}
use Rattle.sl_frames.specs.declared.intent.Part.{Part}
use Rattle.sl_frames.specs.declared.intent.What.{What}
use Rattle.sl_frames.specs.declared.intent.What.TheVariants as what
use Rattle.sl_frames.specs.declared.frame.Frame.{Frame}
use Rattle.sl_frames.specs.declared.body.Body.{Body}
use Rattle.sl_frames.specs.declared.body.Body.TheVariants as body
use Rattle.sl_machine.specs.Records.{Record, OfLog, unfinished, decision_of, with_op}
use Rattle.sl_machine.specs.Memory.{Site, Vote, Coord, Actor, OfCoord}
use Rattle.sl_machine.specs.World.{Scene, Task, Proceeds, Segment}
use Rattle.sl_machine.specs.Verdicts.{Verdict, OldFence, IsKept, Answers, for_coordinator, verdict, seen, keeping}
use Rattle.sl_machine.specs.Coordinators.{still, heard_from, has_voted, all_voted, is_among, servers_of, locks_of, finals_of, frame_to, final, decided_frame, note_by, note_if, keeps_decision, decides, granted_by, acknowledged_by, ends, on_undecided, on_decided, votes_on, votes, takes, waits, is_started, done_for, by_verdict, admits, again_for, again, started_by, CoordinatorRow, IsRenewed, IsAdmitted, IsRefused, IsStarted, IsWelcomed, IsResting, IsSentAgain}
use Rattle.sl_transport.specs.Kinds.{asks}
use Rattle.sl_transport.proofs.Proper.{Plain, Each, KeptIn, Proper, either, each_either, each_both}
use Rattle.sl_transport.proofs.Kept.{kept_seen, kept_renewed, kept_put}
use Rattle.sl_transport.proofs.Judging.{OfVerdict, of_verdict}

final_tells : (agreed : Bool) → asks (final agreed) ≡ false
final_tells true = refl
final_tells false = refl

module _ (S : Frame → Type 0) (own : (f : Frame) → f.from ≡ 1 → asks f.body ≡ false → S f) where
  stays : (m : Coord) (todo : List Task) → KeptIn S m.site → Proper S (still m todo)
  stays m todo kept = record { notes = tt; frames = tt; memory = kept }

  each_lock : (s : Started) (vs : List Vote) (ps : List Part) → Each S (locks_of s vs ps)
  each_lock s vs [] = tt
  each_lock s vs (p ∷ ps) = each_either S (has_voted vs s.op p.actor) (locks_of s vs ps) (frame_to s p.actor p.boot (body.Lock p.work) ∷ locks_of s vs ps) (each_lock s vs ps) (own _ refl refl, each_lock s vs ps)

  each_final : (s : Started) (agreed : Bool) (vs : List Vote) (ps : List Part) → Each S (finals_of s agreed vs ps)
  each_final s agreed vs [] = tt
  each_final s agreed vs (p ∷ ps) =
      each_either S (has_voted vs s.op p.actor) (finals_of s agreed vs ps) (frame_to s p.actor 0 (final agreed) ∷ finals_of s agreed vs ps) (each_final s agreed vs ps) (own _ refl (final_tells agreed), each_final s agreed vs ps)

  plain_by : (s : Started) (o : What) → Plain (note_by s o ∷ [])
  plain_by s (what.Call chosen kept) = tt
  plain_by s (what.Flush f) = tt

  plain_if : (agreed : Bool) (s : Started) → Plain (note_if agreed s)
  plain_if true s = plain_by s s.intent.what
  plain_if false s = tt

  kept_decision : (s : Started) (agreed : Bool) (site : Site) → KeptIn S site → KeptIn S (keeps_decision s agreed site)
  kept_decision s agreed site kept = by (s.request.fence == site.fence && nat_le site.low s.request.tag)
    where
      by : (b : Bool) → KeptIn S (cond b (keeping s.request.tag (decided_frame s agreed) site) site)
      by true = kept_put S s.request.tag (decided_frame s agreed) site (own _ refl refl) kept
      by false = kept

  decides_proper : (m : Coord) (s : Started) (agreed : Bool) (tells : List Frame) → KeptIn S m.site → Each S tells → Proper S (decides m s agreed tells)
  decides_proper m s agreed tells kept each = record {
    notes = plain_if agreed s;
    frames = each_both S tells (finals_of s agreed m.acknowledged s.intent.parts) each (each_final s agreed m.acknowledged s.intent.parts);
    memory = kept_decision s agreed m.site kept;
  }

  undecided_proper : (m : Coord) (f : Frame) (b : Body) (s : Started) → KeptIn S m.site → Proper S (on_undecided m f b s)
  undecided_proper m f body.Grant s kept =
      either (all_voted (granted_by m f).granted s) (decides_proper (granted_by m f) s true (decided_frame s true ∷ []) kept (own _ refl refl, tt)) (stays (granted_by m f) [] kept)
  undecided_proper m f body.Refuse s kept = decides_proper m s false (decided_frame s false ∷ []) kept (own _ refl refl, tt)
  undecided_proper m f other s kept = stays m [] kept

  ends_proper : (m : Coord) (s : Started) → KeptIn S m.site → Proper S (ends m s)
  ends_proper m s kept = either (all_voted m.acknowledged s) done (stays m [] kept)
    where
      done : Proper S (record { append = Some (OfLog (log.Done s.op)); memory = OfCoord m; frames = []; notes = []; todo = Proceeds ∷ [] })
      done = record { notes = tt; frames = tt; memory = kept }

  decided_proper : (m : Coord) (f : Frame) (b : Body) (s : Started) → KeptIn S m.site → Proper S (on_decided m f b s)
  decided_proper m f body.Ack s kept = ends_proper (acknowledged_by m f) s kept
  decided_proper m f other s kept = stays m [] kept

  votes_on_proper : (m : Coord) (f : Frame) (s : Started) (o : Option Bool) → KeptIn S m.site → Proper S (votes_on m f s o)
  votes_on_proper m f s None kept = undecided_proper m f f.body s kept
  votes_on_proper m f s (Some agreed) kept = decided_proper m f f.body s kept

  votes_proper : (a : Actor) (m : Coord) (f : Frame) (o : Option Started) → KeptIn S m.site → Proper S (votes a m f o)
  votes_proper a m f None kept = stays m [] kept
  votes_proper a m f (Some s) kept = either (is_among (servers_of s.intent) f.from) (votes_on_proper m f s (decision_of a.records s.op) kept) (stays m [] kept)

  takes_proper : (a : Actor) (m : Coord) (f : Frame) → KeptIn S m.site → Proper S (takes a m f)
  takes_proper a m f kept =
      either (waits m.queue f || is_started (unfinished a.records) f) (stays m [] kept) (stays (record m { queue = m.queue ++ f ∷ [] }) (Proceeds ∷ []) kept)

  done_proper : (a : Actor) (m : Coord) (f : Frame) (b : Body) → KeptIn S m.site → Proper S (done_for a m f b)
  done_proper a m f body.Hello kept = record { notes = tt; frames = tt; memory = kept }
  done_proper a m f (body.Intent i) kept = takes_proper a m f kept
  done_proper a m f other kept = votes_proper a m f (with_op f.op (unfinished a.records)) kept

  kept_heard : (f : Frame) (m : Coord) → KeptIn S m.site → KeptIn S (heard_from f m).site
  kept_heard f m kept = by (is_proxy f.from)
    where
      by : (b : Bool) → KeptIn S (cond b (record m { heard = true }) m).site
      by true = kept
      by false = kept

  by_verdict_proper : (a : Actor) (m : Coord) (f : Frame) (v : Verdict) → KeptIn S m.site → OfVerdict S v → Proper S (by_verdict a m f v)
  by_verdict_proper a m f OldFence kept of = stays m [] kept
  by_verdict_proper a m f (IsKept answer) kept of = record { notes = tt; frames = (of, tt); memory = kept_heard f m kept }
  by_verdict_proper a m f Answers kept of = done_proper a (heard_from f m) f f.body (kept_heard f m kept)
  by_verdict_proper a m f other kept of = stays (heard_from f m) [] (kept_heard f m kept)

  admits_proper : (a : Actor) (m : Coord) (f : Frame) → KeptIn S m.site → Proper S (admits a m f)
  admits_proper a m f kept = by_verdict_proper a m f (verdict for_coordinator None 0 m.site f) kept (of_verdict S for_coordinator None 0 m.site f (kept f.tag))

  again_each : (m : Coord) (s : Started) (o : Option Bool) → Each S (again_for m s o)
  again_each m s (Some agreed) = each_final s agreed m.acknowledged s.intent.parts
  again_each m s None = each_either S m.heard (locks_of s m.granted s.intent.parts) [] (each_lock s m.granted s.intent.parts) tt

  all_again : (rs : List Record) (m : Coord) (ss : List Started) → Each S (again rs m ss)
  all_again rs m [] = tt
  all_again rs m (s ∷ ss) = each_both S (again_for m s (decision_of rs s.op)) (again rs m ss) (again_each m s (decision_of rs s.op)) (all_again rs m ss)

  pub coordinator_proper : (x : Scene) (a : Actor) (m : Coord) (t : Task) (s : Segment) → KeptIn S m.site → CoordinatorRow x a m t s → Proper S s
  coordinator_proper x a m t s kept (IsRenewed f e is row) = subst (Proper S) (sym row.does) (record { notes = tt; frames = tt; memory = kept_renewed S f m.site })
  coordinator_proper x a m t s kept (IsAdmitted f e is row) = subst (Proper S) (sym row.does) (admits_proper a (record m { site = seen f m.site }) f (kept_seen S f m.site kept))
  coordinator_proper x a m t s kept (IsRefused op is row) = subst (Proper S) (sym row.does) (decides_proper m row.started false [] kept tt)
  coordinator_proper x a m t s kept (IsStarted is row) =
      subst (Proper S) (sym row.does) (record { notes = tt; frames = each_lock (started_by a row.next) [] row.next.intent.parts; memory = kept })
  coordinator_proper x a m t s kept (IsWelcomed is row) = subst (Proper S) (sym row.does) (record { notes = tt; frames = (own _ refl refl, tt); memory = kept })
  coordinator_proper x a m t s kept (IsResting is row) = subst (Proper S) (sym row.does) (stays m [] kept)
  coordinator_proper x a m t s kept (IsSentAgain is row) = subst (Proper S) (sym row.does) (record { notes = tt; frames = all_again a.records m (unfinished a.records); memory = kept })
