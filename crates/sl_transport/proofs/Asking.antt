-- What a data server sends and keeps answers what was given to it.
use Rattle.std.proofs.Common.{◌≡◌, ℕ, ◌==◌, ◌&&◌, ◌||◌, Bool, true, false, not, List, [], ◌∷◌, ◌++◌, Option, Some, None, cond, filter, refl, sym, ap, subst}
use Rattle.std.specs.Prelude.{nat_lt, nat_le}
use Rattle.std.specs.List.{list_any}
use Rattle.std.specs.FinMap as map
use Rattle.sl_types.specs.declared.call.Call.{Call}
use Rattle.sl_types.specs.declared.call.Call.TheVariants as call
use Rattle.sl_records.specs.declared.data_server.DataRecord.TheVariants as store
use Rattle.sl_frames.specs.declared.work.Work.{Work}
use Rattle.sl_frames.specs.declared.frame.Frame.{Frame}
use Rattle.sl_frames.specs.declared.body.Body.{Body}
use Rattle.sl_frames.specs.declared.body.Body.TheVariants as body
use Rattle.sl_history.specs.Arrivals.{asked_in, datagram}
use Rattle.sl_history.specs.Arrivals as arrivals
use Rattle.sl_history.specs.Licensed.{is_request}
use Rattle.sl_history.specs.Wired.{fits, Answers}
use Rattle.sl_machine.specs.Packets.{outer_call}
use Rattle.sl_machine.specs.Records.{OfData, Held, locked_in, last_finished}
use Rattle.sl_machine.specs.Memory.{Site, Store, Memory, Actor, OfStore}
use Rattle.sl_machine.specs.World.{Scene, Task, Given, TakesUp, Segment}
use Rattle.sl_machine.specs.Verdicts.{Verdict, OldFence, Stray, Finished, Parks, IsKept, BelowLow, is_vote, is_operating, is_apply, is_same_request, is_locked_for, blocks, kept_or, of_request, for_store, verdict, seen, lowered, renewed, parked, forwards_change, taken_up, answering}
use Rattle.sl_machine.specs.Verdicts as verdicts
use Rattle.sl_machine.specs.Directories.{take_ups}
use Rattle.sl_machine.specs.Stores.{own_boot, still, answers, again_acknowledged, keeps_packet, serves_call, serves, with_kept, locks, finishes, relies_wrongly, done_for, by_verdict, admits, Boots, StoreRow, IsRenewed, IsAdmitted, IsTakenUp}
use Rattle.sl_transport.proofs.Proper.{Each, KeptIn, each_either, each_both}
use Rattle.sl_transport.proofs.Kept.{kept_seen, kept_renewed, kept_empty, kept_put}
use Rattle.sl_transport.proofs.Stepping.{EachTask}

-- it was given to this actor
abbrev pub GivenTo : (Frame → Type 0) → ℕ → Frame → Type 0
GivenTo G i f = G f × (f.to ≡ i)

-- it answers something that was given
pub record Asked (G : Frame → Type 0) (f : Frame) : Type 0 where
  pub asking : Frame
  pub given : G asking
  pub answers : Answers asking f

-- what is kept answers what was given, and what is parked was given
pub record Knows (G : Frame → Type 0) (i : ℕ) (s : Site) : Type 0 where
  pub kept : KeptIn (Asked G) s
  pub parked : Each (GivenTo G i) s.parked

abbrev pub KnowsIn : (Frame → Type 0) → ℕ → Memory → Type 0
KnowsIn G i (OfStore m) = Knows G i m.site
KnowsIn G i other = ⊥

abbrev pub IsOfGiven : (Frame → Type 0) → ℕ → Task → Type 0
IsOfGiven G i (Given f e) = GivenTo G i f
IsOfGiven G i (TakesUp f) = GivenTo G i f
IsOfGiven G i other = Unit {0}

pub record Replies (G : Frame → Type 0) (i : ℕ) (s : Segment) : Type 0 where
  pub frames : Each (Asked G) s.frames
  pub memory : KnowsIn G i s.memory
  pub todo : EachTask (IsOfGiven G i) s.todo

replies_either : {G : Frame → Type 0} {i : ℕ} (b : Bool) {s r : Segment} → Replies G i s → Replies G i r → Replies G i (cond b s r)
replies_either true p q = p
replies_either false p q = q

-- ---- what is held changes

each_filter : (S : Frame → Type 0) (p : Frame → Bool) (fs : List Frame) → Each S fs → Each S (filter p fs)
each_filter S p [] h = tt
each_filter S p (f ∷ fs) h = each_either S (p f) (f ∷ filter p fs) (filter p fs) (h.0, each_filter S p fs h.1) (each_filter S p fs h.1)

module _ (G : Frame → Type 0) (i : ℕ) where
  all_taken_up : (fs : List Frame) → Each (GivenTo G i) fs → EachTask (IsOfGiven G i) (take_ups fs)
  all_taken_up [] h = tt
  all_taken_up (f ∷ fs) h = (h.0, all_taken_up fs h.1)

  pub taken_up_in_order : (fs : List Frame) → Each (GivenTo G i) fs → EachTask (IsOfGiven G i) (take_ups (taken_up fs))
  taken_up_in_order fs h = all_taken_up (taken_up fs)
      (each_both (GivenTo G i) (filter (λ (f : Frame). forwards_change f.body) fs) (filter (λ (f : Frame). not (forwards_change f.body)) fs)
      (each_filter (GivenTo G i) (λ (f : Frame). forwards_change f.body) fs h) (each_filter (GivenTo G i) (λ (f : Frame). not (forwards_change f.body)) fs h))

  knows_seen : (f : Frame) (s : Site) → Knows G i s → Knows G i (seen f s)
  knows_seen f s k = record { kept = kept_seen (Asked G) f s k.kept; parked = by (f.fence == s.fence) }
    where
      by : (b : Bool) → Each (GivenTo G i) (cond b (lowered f.low s) s).parked
      by true = k.parked
      by false = k.parked

  knows_renewed : (f : Frame) (s : Site) → Knows G i s → Knows G i (renewed f s)
  knows_renewed f s k = record { kept = kept_renewed (Asked G) f s; parked = k.parked }

  knows_parked : (f : Frame) (s : Site) → GivenTo G i f → Knows G i s → Knows G i (parked f s)
  knows_parked f s given k = by (is_operating f.body || list_any (is_same_request f) s.parked)
    where
      by : (b : Bool) → Knows G i (cond b s (record s { parked = s.parked ++ f ∷ [] }))
      by true = k
      by false = record { kept = k.kept; parked = each_both (GivenTo G i) s.parked (f ∷ []) k.parked (given, tt) }

-- ---- the verdict

-- an answer that is kept answers what was given, and only what is sent for an operation is finished
abbrev OfVerdict : (Frame → Type 0) → Frame → Verdict → Type 0
OfVerdict G f (IsKept answer) = Asked G answer
OfVerdict G f Finished = is_operating f.body ≡ true
OfVerdict G f other = Unit {0}

pub first_of : (a b : Bool) → a && b ≡ true → a ≡ true
first_of true b e = refl
first_of false b e = e

module _ (G : Frame → Type 0) (f : Frame) where
  of_either : (b : Bool) (v w : Verdict) → (b ≡ true → OfVerdict G f v) → OfVerdict G f w → OfVerdict G f (cond b v w)
  of_either true v w p q = p refl
  of_either false v w p q = q

  of_kept : (s : Site) → KeptIn (Asked G) s → OfVerdict G f (of_request s f)
  of_kept s h = by (map.get s.kept f.tag) refl
    where
      by : (o : Option Frame) → map.get s.kept f.tag ≡ o → OfVerdict G f (kept_or o (cond (nat_lt f.tag s.low) BelowLow verdicts.Answers))
      by None e = of_either (nat_lt f.tag s.low) BelowLow verdicts.Answers (λ e. tt) tt
      by (Some answer) e = h f.tag answer e

  of_verdict : (takes : Body → Bool) (locked : Option Held) (last : ℕ) (s : Site) → KeptIn (Asked G) s → OfVerdict G f (verdict takes locked last s f)
  unfolding verdict
  of_verdict takes locked last s h =
      of_either (nat_lt f.fence s.fence && not (is_vote f.body)) OldFence _ (λ e. tt)
      (of_either (not (takes f.body)) Stray _ (λ e. tt)
      (of_either (is_operating f.body && nat_le f.op last) Finished _ (first_of (is_operating f.body) (nat_le f.op last))
      (of_either (is_apply f.body && not (is_locked_for f.op locked)) Stray _ (λ e. tt)
      (of_either (blocks f locked) Parks _ (λ e. tt)
      (of_either (is_request f.body) (of_request s f) verdicts.Answers (λ e. of_kept s h) tt)))))

-- ---- the rows of a data server

module _ (G : Frame → Type 0) (x : Scene) where
  stays : (m : Store) → Knows G x.actor m.site → Replies G x.actor (still m)
  stays m k = record { frames = tt; memory = k; todo = tt }

  replying : (a : Actor) (f : Frame) (b : Body) → GivenTo G x.actor f → fits f.body b ≡ true → Asked G (answering x.actor (own_boot a) f b)
  replying a f b given fit = record { asking = f; given = given.0; answers = record { kind = fit; sender = sym given.1; receiver = refl; fence = refl; tag = refl; op = refl } }

  answers_so : (a : Actor) (m : Store) (f : Frame) (b : Body) → GivenTo G x.actor f → fits f.body b ≡ true → Knows G x.actor m.site → Replies G x.actor (answers x a m f b)
  answers_so a m f b given fit k = record { frames = (replying a f b given fit, tt); memory = k; todo = tt }

  acknowledges : (a : Actor) (m : Store) (f : Frame) (b : Body) → f.body ≡ b → is_operating b ≡ true → GivenTo G x.actor f → Knows G x.actor m.site
      → Replies G x.actor (again_acknowledged x a m f b)
  acknowledges a m f (body.Lock w) is operates given k = stays m k
  acknowledges a m f body.Apply is operates given k = answers_so a m f body.Ack given (ap (λ c. fits c body.Ack) is) k
  acknowledges a m f body.Release is operates given k = answers_so a m f body.Ack given (ap (λ c. fits c body.Ack) is) k
  acknowledges a m f other is operates given k = absurd cc

  keeps_so : (a : Actor) (m : Store) (f : Frame) (bytes : List ℕ) → GivenTo G x.actor f → fits f.body (body.Packet bytes) ≡ true → Knows G x.actor m.site
      → Replies G x.actor (keeps_packet x a m f bytes)
  keeps_so a m f bytes given fit k = record {
    frames = (replying a f (body.Packet bytes) given fit, tt);
    memory = record { kept = kept_put (Asked G) f.tag (answering x.actor (own_boot a) f (body.Packet bytes)) m.site (replying a f (body.Packet bytes) given fit) k.kept; parked = k.parked };
    todo = tt;
  }

  serves_call_so : (a : Actor) (m : Store) (f : Frame) (asked : arrivals.Asked) (c : Call) → GivenTo G x.actor f → ((bytes : List ℕ) → fits f.body (body.Packet bytes) ≡ true)
      → Knows G x.actor m.site → Replies G x.actor (serves_call x a m f asked c)
  serves_call_so a m f asked (call.Read file offset count) given fit k = answers_so a m f _ given (fit _) k
  serves_call_so a m f asked (call.Write file offset count stability bytes) given fit k = keeps_so a _ f _ given (fit _) k
  serves_call_so a m f asked other given fit k = stays m k

  serves_so : (a : Actor) (m : Store) (f : Frame) (o : Option arrivals.Asked) → GivenTo G x.actor f → ((bytes : List ℕ) → fits f.body (body.Packet bytes) ≡ true)
      → Knows G x.actor m.site → Replies G x.actor (serves x a m f o)
  serves_so a m f None given fit k = stays m k
  serves_so a m f (Some asked) given fit k = serves_call_so a m f asked (outer_call asked.call) given fit k

  locks_so : (a : Actor) (m : Store) (f : Frame) (w : Work) → GivenTo G x.actor f → fits f.body body.Grant ≡ true → Knows G x.actor m.site → Replies G x.actor (locks x a m f w)
  locks_so a m f w given fit k = replies_either (is_locked_for f.op (locked_in a.records)) (answers_so a m f body.Grant given fit k) locked
    where
      locked : Replies G x.actor (record { append = Some (OfData (store.Lock f.op f.fence (with_kept m.buffered w))); memory = OfStore m; frames = answering x.actor (own_boot a) f body.Grant ∷ []; notes = []; todo = [] })
      locked = record { frames = (replying a f body.Grant given fit, tt); memory = k; todo = tt }

  finishes_so : (a : Actor) (m : Store) (f : Frame) (applied : Bool) → GivenTo G x.actor f → fits f.body body.Ack ≡ true → Knows G x.actor m.site
      → Replies G x.actor (finishes x a m f applied)
  finishes_so a m f applied given fit k = record {
    frames = (replying a f body.Ack given fit, tt);
    memory = record { kept = k.kept; parked = tt };
    todo = taken_up_in_order G x.actor m.site.parked k.parked;
  }

  done_so : (a : Actor) (m : Store) (f : Frame) (b : Body) → f.body ≡ b → GivenTo G x.actor f → Knows G x.actor m.site → Replies G x.actor (done_for x a m f b)
  done_so a m f (body.Forward chosen bytes) is given k =
      replies_either (relies_wrongly a f) (answers_so a m f body.Refuse given (ap (λ c. fits c body.Refuse) is) k)
      (serves_so a m f (asked_in (datagram bytes)) given (λ reply. ap (λ c. fits c (body.Packet reply)) is) k)
  done_so a m f (body.Lock w) is given k =
      replies_either (relies_wrongly a f) (answers_so a m f body.Refuse given (ap (λ c. fits c body.Refuse) is) k) (locks_so a m f w given (ap (λ c. fits c body.Grant) is) k)
  done_so a m f body.Apply is given k = finishes_so a m f true given (ap (λ c. fits c body.Ack) is) k
  done_so a m f body.Release is given k = finishes_so a m f false given (ap (λ c. fits c body.Ack) is) k
  done_so a m f other is given k = stays m k

  by_verdict_so : (a : Actor) (m : Store) (f : Frame) (v : Verdict) → GivenTo G x.actor f → Knows G x.actor m.site → OfVerdict G f v → Replies G x.actor (by_verdict x a m f v)
  by_verdict_so a m f OldFence given k of = stays m k
  by_verdict_so a m f Stray given k of = stays m k
  by_verdict_so a m f Finished given k of = acknowledges a m f f.body refl of given k
  by_verdict_so a m f Parks given k of = stays (record m { site = parked f m.site }) (knows_parked G x.actor f m.site given k)
  by_verdict_so a m f (IsKept answer) given k of = record { frames = (of, tt); memory = k; todo = tt }
  by_verdict_so a m f BelowLow given k of = stays m k
  by_verdict_so a m f verdicts.Answers given k of = done_so a m f f.body refl given k

  admits_so : (a : Actor) (m : Store) (f : Frame) → GivenTo G x.actor f → Knows G x.actor m.site → Replies G x.actor (admits x a m f)
  admits_so a m f given k =
      by_verdict_so a m f (verdict for_store (locked_in a.records) (last_finished a.records) m.site f) given k
      (of_verdict G f for_store (locked_in a.records) (last_finished a.records) m.site k.kept)

  pub boots_so : (a : Actor) (s : Segment) → Boots a s → Replies G x.actor s
  boots_so a s boots = subst (Replies G x.actor) (sym boots.does) (record { frames = tt; memory = record { kept = kept_empty (Asked G); parked = tt }; todo = tt })

  pub store_so : (a : Actor) (m : Store) (t : Task) (s : Segment) → Knows G x.actor m.site → IsOfGiven G x.actor t → StoreRow x a m t s → Replies G x.actor s
  store_so a m t s k given (IsRenewed f e is row) =
      subst (Replies G x.actor) (sym row.does) (record { frames = tt; memory = knows_renewed G x.actor f m.site k; todo = (subst (IsOfGiven G x.actor) is given, tt) })
  store_so a m t s k given (IsAdmitted f e is row) =
      subst (Replies G x.actor) (sym row.does) (admits_so a (record m { site = seen f m.site }) f (subst (IsOfGiven G x.actor) is given) (knows_seen G x.actor f m.site k))
  store_so a m t s k given (IsTakenUp f is row) =
      subst (Replies G x.actor) (sym row.does) (admits_so a (record m { site = seen f m.site }) f (subst (IsOfGiven G x.actor) is given) (knows_seen G x.actor f m.site k))
