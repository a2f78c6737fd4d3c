-- What a directory server tells, grants and acknowledges answers what was given to it. What it keeps are replies and fileids.
use Rattle.std.proofs.Common.{◌≡◌, ℕ, ◌==◌, ◌&&◌, ◌||◌, Bool, true, false, not, List, [], ◌∷◌, ◌++◌, Option, Some, None, cond, refl, sym, ap, subst, ◌∙◌, ◌<◌, ◌≤◌, arith}
use Rattle.std.proofs.lemmas.Bool.Decides.{nat_tests}
use Rattle.std.specs.Prelude.{nat_lt, nat_le}
use Rattle.std.specs.List.{list_any}
use Rattle.std.specs.FinMap as map
use Rattle.sl_defs.specs.declared.note.Choice.{Choice}
use Rattle.sl_records.specs.declared.directory.DirRecord.TheVariants as dir
use Rattle.sl_frames.specs.Actors.{is_directory}
use Rattle.sl_frames.specs.declared.work.Work.{Work}
use Rattle.sl_frames.specs.declared.frame.Frame.{Frame}
use Rattle.sl_frames.specs.declared.body.Body.{Body}
use Rattle.sl_frames.specs.declared.body.Body.TheVariants as body
use Rattle.sl_history.specs.Arrivals.{asked_in, datagram, is_changing}
use Rattle.sl_history.specs.Arrivals as arrivals
use Rattle.sl_history.specs.Frames.{or_else}
use Rattle.sl_history.specs.Licensed.{is_request}
use Rattle.sl_history.specs.Wired.{fits, is_answer}
use Rattle.sl_machine.specs.Packets.{outer_call}
use Rattle.sl_machine.specs.Records.{Record, OfDir, Cells, Held, cells_of, locked_in, last_finished, next_counter, counter_end, fileid_at}
use Rattle.sl_machine.specs.Memory.{Site, Memory, Actor, OfSite}
use Rattle.sl_machine.specs.World.{Scene, Task, Segment, quiet}
use Rattle.sl_machine.specs.Openings.{RestoredSite, restored, answer_in, answer_of}
use Rattle.sl_machine.specs.Runs.{OpensDirectory}
use Rattle.sl_machine.specs.Verdicts.{Verdict, OldFence, Stray, Finished, Parks, IsKept, BelowLow, is_vote, is_operating, is_apply, is_same_request, is_locked_for, blocks, kept_or, of_request, for_directory, verdict, seen, lowered, parked, answering}
use Rattle.sl_machine.specs.Verdicts as verdicts
use Rattle.sl_machine.specs.Directories.{again_acknowledged, answers, listed, found_cells, minted, none_left, mints, does_call, looks, forwarded_choice, serves, locks, finishes, done_for, by_verdict, admits, DirectoryRow, IsRenewed, IsAdmitted, IsTakenUp, IsFounded, IsOpen}
use Rattle.sl_transport.specs.Answering.{is_recorded, is_decision, may_be_older}
use Rattle.sl_transport.proofs.Proper.{Each, KeptIn, each_both}
use Rattle.sl_transport.proofs.Kept.{IfThere, there, kept_seen, kept_renewed, kept_put}
use Rattle.sl_transport.proofs.Stepping.{EachTask}
use Rattle.sl_transport.proofs.Asking.{GivenTo, Asked, IsOfGiven, taken_up_in_order, first_of}

-- it was asked for, if it can't be older
abbrev pub IsTold : (Frame → Type 0) → Frame → Type 0
IsTold G f = is_answer f.body ≡ true → may_be_older f ≡ false → Asked G f

abbrev pub IsOlder : Frame → Type 0
IsOlder f = may_be_older f ≡ true

pub record Holds (G : Frame → Type 0) (i : ℕ) (s : Site) : Type 0 where
  pub kept : KeptIn IsOlder s
  pub parked : Each (GivenTo G i) s.parked

-- the same of a memory, if it is a directory server's
abbrev pub HoldsIn : (Frame → Type 0) → ℕ → Memory → Type 0
HoldsIn G i (OfSite s) = Holds G i s
HoldsIn G i other = ⊥

pub record Tells (G : Frame → Type 0) (i : ℕ) (s : Segment) : Type 0 where
  pub frames : Each (IsTold G) s.frames
  pub memory : HoldsIn G i s.memory
  pub todo : EachTask (IsOfGiven G i) s.todo

tells_either : {G : Frame → Type 0} {i : ℕ} (b : Bool) {s r : Segment} → Tells G i s → Tells G i r → Tells G i (cond b s r)
tells_either true p q = p
tells_either false p q = q

true_false : true ≡ false → ⊥
true_false e = cc

not_both : (b : Bool) → b ≡ true → b ≡ false → ⊥
not_both b e f = true_false (sym e ∙ f)

-- ---- the verdict

abbrev OfVerdict : Frame → Verdict → Type 0
OfVerdict f (IsKept answer) = IsOlder answer
OfVerdict f Finished = is_operating f.body ≡ true
OfVerdict f other = Unit {0}

module _ (f : Frame) where
  of_either : (b : Bool) (v w : Verdict) → (b ≡ true → OfVerdict f v) → OfVerdict f w → OfVerdict f (cond b v w)
  of_either true v w p q = p refl
  of_either false v w p q = q

  of_kept : (s : Site) → KeptIn IsOlder s → OfVerdict f (of_request s f)
  of_kept s h = by (map.get s.kept f.tag) refl
    where
      by : (o : Option Frame) → map.get s.kept f.tag ≡ o → OfVerdict f (kept_or o (cond (nat_lt f.tag s.low) BelowLow verdicts.Answers))
      by None e = of_either (nat_lt f.tag s.low) BelowLow verdicts.Answers (λ e. tt) tt
      by (Some answer) e = h f.tag answer e

  of_verdict : (takes : Body → Bool) (locked : Option Held) (last : ℕ) (s : Site) → KeptIn IsOlder s → OfVerdict f (verdict takes locked last s f)
  unfolding verdict
  of_verdict takes locked last s h =
      of_either (nat_lt f.fence s.fence && not (is_vote f.body)) OldFence _ (λ e. tt)
      (of_either (not (takes f.body)) Stray _ (λ e. tt)
      (of_either (is_operating f.body && nat_le f.op last) Finished _ (first_of (is_operating f.body) (nat_le f.op last))
      (of_either (is_apply f.body && not (is_locked_for f.op locked)) Stray _ (λ e. tt)
      (of_either (blocks f locked) Parks _ (λ e. tt)
      (of_either (is_request f.body) (of_request s f) verdicts.Answers (λ e. of_kept s h) tt)))))

-- ---- what is restored

module _ (i : ℕ) (class : is_directory i ≡ true) where
  older : (f : Frame) → f.from ≡ i → is_recorded f.body ≡ true → IsOlder f
  older f from recorded = ap (λ b. b || is_decision f.body) (ap (λ a. is_directory a && is_recorded f.body) from ∙ ap (λ b. b && is_recorded f.body) class ∙ recorded)

  older_if : (b : Bool) (f : Frame) → IsOlder f → IfThere IsOlder (cond b (Some f) None)
  older_if true f h = h
  older_if false f h = tt

  older_either : (o p : Option Frame) → IfThere IsOlder o → IfThere IsOlder p → IfThere IsOlder (or_else o p)
  older_either None p h g = g
  older_either (Some f) p h g = h

  answers_in : (fence tag : ℕ) (r : Record) → IfThere IsOlder (answer_in i fence tag r)
  answers_in fence tag (OfDir (dir.Mint m)) =
      older_if (m.fence == fence && m.tag == tag) (restored i fence tag (body.Minted m.fileid)) (older (restored i fence tag (body.Minted m.fileid)) refl refl)
  answers_in fence tag (OfDir (dir.Did d)) =
      older_if (d.request.fence == fence && d.request.tag == tag) (restored i fence tag (body.Packet d.reply)) (older (restored i fence tag (body.Packet d.reply)) refl refl)
  answers_in fence tag other = tt

  answers_of : (fence tag : ℕ) (rs : List Record) → IfThere IsOlder (answer_of i rs fence tag)
  answers_of fence tag [] = tt
  answers_of fence tag (r ∷ rs) = older_either (answer_in i fence tag r) (answer_of i rs fence tag) (answers_in fence tag r) (answers_of fence tag rs)

  above_or_none : (low tag : ℕ) (o p : Option Frame) → (low ≤ tag → o ≡ p) → (tag < low → o ≡ None) → IfThere IsOlder p → IfThere IsOlder o
  above_or_none low tag o p above below h = by (nat_lt tag low) refl
    where
      is_below : nat_lt tag low ≡ true → tag < low
      is_below e = grind (arith, nat_tests)

      is_above : nat_lt tag low ≡ false → low ≤ tag
      is_above e = grind (arith, nat_tests)

      by : (b : Bool) → nat_lt tag low ≡ b → IfThere IsOlder o
      by true e = subst (IfThere IsOlder) (sym (below (is_below e))) tt
      by false e = subst (IfThere IsOlder) (sym (above (is_above e))) h

  restored_older : (rs : List Record) (s : Site) → RestoredSite i rs s → KeptIn IsOlder s
  restored_older rs s r tag = there IsOlder (map.get s.kept tag)
      (above_or_none s.low tag (map.get s.kept tag) (answer_of i rs s.fence tag) (r.kept tag) (r.gone tag) (answers_of s.fence tag rs))

-- ---- the rows

module _ (G : Frame → Type 0) (i : ℕ) (class : is_directory i ≡ true) where
  holds_seen : (f : Frame) (s : Site) → Holds G i s → Holds G i (seen f s)
  holds_seen f s k = record { kept = kept_seen IsOlder f s k.kept; parked = by (f.fence == s.fence) }
    where
      by : (b : Bool) → Each (GivenTo G i) (cond b (lowered f.low s) s).parked
      by true = k.parked
      by false = k.parked

  holds_parked : (f : Frame) (s : Site) → GivenTo G i f → Holds G i s → Holds G i (parked f s)
  holds_parked f s given k = by (is_operating f.body || list_any (is_same_request f) s.parked)
    where
      by : (b : Bool) → Holds G i (cond b s (record s { parked = s.parked ++ f ∷ [] }))
      by true = k
      by false = record { kept = k.kept; parked = each_both (GivenTo G i) s.parked (f ∷ []) k.parked (given, tt) }

  holds_put : (tag : ℕ) (answer : Frame) (s : Site) → answer.from ≡ i → is_recorded answer.body ≡ true → Holds G i s → Holds G i (verdicts.keeping tag answer s)
  holds_put tag answer s from recorded k = record { kept = kept_put IsOlder tag answer s (older i class answer from recorded) k.kept; parked = k.parked }

  stays : (s : Site) → Holds G i s → Tells G i (quiet (OfSite s) [])
  stays s k = record { frames = tt; memory = k; todo = tt }

  replying : (f : Frame) (b : Body) → GivenTo G i f → fits f.body b ≡ true → IsTold G (answering i 0 f b)
  replying f b given fit = λ is young. record { asking = f; given = given.0; answers = record { kind = fit; sender = sym given.1; receiver = refl; fence = refl; tag = refl; op = refl } }

  answers_so : (s : Site) (f : Frame) (b : Body) → GivenTo G i f → fits f.body b ≡ true → Holds G i s → Tells G i (answers i s f b)
  answers_so s f b given fit k = record { frames = (replying f b given fit, tt); memory = k; todo = tt }

  acknowledges : (s : Site) (f : Frame) (b : Body) → f.body ≡ b → is_operating b ≡ true → GivenTo G i f → Holds G i s → Tells G i (again_acknowledged i s f b)
  acknowledges s f (body.Lock w) is operates given k = stays s k
  acknowledges s f body.Apply is operates given k = answers_so s f body.Ack given (ap (λ c. fits c body.Ack) is) k
  acknowledges s f body.Release is operates given k = answers_so s f body.Ack given (ap (λ c. fits c body.Ack) is) k
  acknowledges s f other is operates given k = absurd cc

  mints_so : (a : Actor) (s : Site) (f : Frame) (site : ℕ) → GivenTo G i f → ((n : ℕ) → fits f.body (body.Minted n) ≡ true) → Holds G i s → Tells G i (mints i a s f site)
  mints_so a s f site given fit k = tells_either (nat_lt (next_counter site a.records) counter_end) fresh none
    where
      fresh : Tells G i (minted i s f (fileid_at site (next_counter site a.records)))
      fresh = record {
        frames = (replying f _ given (fit _), tt);
        memory = holds_put f.tag (answering i 0 f (body.Minted (fileid_at site (next_counter site a.records)))) s refl refl k;
        todo = tt;
      }

      none : Tells G i (none_left i s f)
      none = record { frames = (replying f _ given (fit _), tt); memory = holds_put f.tag (answering i 0 f (body.Minted 0)) s refl refl k; todo = tt }

  locks_so : (a : Actor) (s : Site) (f : Frame) (work : Work) → GivenTo G i f → fits f.body body.Grant ≡ true → Holds G i s → Tells G i (locks i a s f work)
  locks_so a s f work given fit k = tells_either (is_locked_for f.op (locked_in a.records)) (answers_so s f body.Grant given fit k) locked
    where
      locked : Tells G i (record { append = Some (OfDir (dir.Lock f.op f.fence work)); memory = OfSite s; frames = answering i 0 f body.Grant ∷ []; notes = []; todo = [] })
      locked = record { frames = (replying f body.Grant given fit, tt); memory = k; todo = tt }

  finishes_so : (s : Site) (f : Frame) (applied : Bool) → GivenTo G i f → fits f.body body.Ack ≡ true → Holds G i s → Tells G i (finishes i s f applied)
  finishes_so s f applied given fit k = record {
    frames = (replying f body.Ack given fit, tt);
    memory = record { kept = k.kept; parked = tt };
    todo = taken_up_in_order G i s.parked k.parked;
  }

module _ (G : Frame → Type 0) (x : Scene) (class : is_directory x.actor ≡ true) where
  does_so : (s : Site) (f : Frame) (chosen : ℕ) (a : arrivals.Asked) (c : Cells) (choice : Choice) → GivenTo G x.actor f → ((bytes : List ℕ) → fits f.body (body.Packet bytes) ≡ true)
      → Holds G x.actor s → Tells G x.actor (does_call x s f chosen a c choice)
  does_so s f chosen a c choice given fit k = record {
    frames = (replying G x.actor class f _ given (fit _), tt);
    memory = holds_put G x.actor class f.tag _ s refl refl k;
    todo = tt;
  }

  serves_so : (s : Site) (f : Frame) (chosen : ℕ) (c : Cells) (o : Option arrivals.Asked) → GivenTo G x.actor f → ((bytes : List ℕ) → fits f.body (body.Packet bytes) ≡ true)
      → Holds G x.actor s → Tells G x.actor (serves x s f chosen c o)
  serves_so s f chosen c None given fit k = stays G x.actor class s k
  serves_so s f chosen c (Some a) given fit k =
      tells_either (is_changing (outer_call a.call)) (does_so s f chosen a c (forwarded_choice chosen) given fit k) look
    where
      look : Tells G x.actor (looks x s f a c (forwarded_choice chosen))
      look = record { frames = (replying G x.actor class f _ given (fit _), tt); memory = k; todo = tt }

  done_so : (a : Actor) (s : Site) (f : Frame) (b : Body) → f.body ≡ b → GivenTo G x.actor f → Holds G x.actor s → Tells G x.actor (done_for x a s f b)
  done_so a s f (body.Ask keys) is given k = answers_so G x.actor class s f (found_cells (cells_of a.records) keys) given (ap (λ c. fits c (found_cells (cells_of a.records) keys)) is) k
  done_so a s f (body.List d cookie limit) is given k = answers_so G x.actor class s f (listed (cells_of a.records) d cookie limit) given (ap (λ c. fits c (listed (cells_of a.records) d cookie limit)) is) k
  done_so a s f (body.Mint site) is given k = mints_so G x.actor class a s f site given (λ n. ap (λ c. fits c (body.Minted n)) is) k
  done_so a s f (body.Forward chosen packet) is given k = serves_so s f chosen (cells_of a.records) (asked_in (datagram packet)) given (λ bytes. ap (λ c. fits c (body.Packet bytes)) is) k
  done_so a s f (body.Lock work) is given k = locks_so G x.actor class a s f work given (ap (λ c. fits c body.Grant) is) k
  done_so a s f body.Apply is given k = finishes_so G x.actor class s f true given (ap (λ c. fits c body.Ack) is) k
  done_so a s f body.Release is given k = finishes_so G x.actor class s f false given (ap (λ c. fits c body.Ack) is) k
  done_so a s f other is given k = stays G x.actor class s k

  by_verdict_so : (a : Actor) (s : Site) (f : Frame) (v : Verdict) → GivenTo G x.actor f → Holds G x.actor s → OfVerdict f v → Tells G x.actor (by_verdict x a s f v)
  by_verdict_so a s f OldFence given k of = stays G x.actor class s k
  by_verdict_so a s f Stray given k of = stays G x.actor class s k
  by_verdict_so a s f Finished given k of = acknowledges G x.actor class s f f.body refl of given k
  by_verdict_so a s f Parks given k of = stays G x.actor class (parked f s) (holds_parked G x.actor class f s given k)
  by_verdict_so a s f (IsKept answer) given k of = record { frames = ((λ is young. absurd (not_both (may_be_older answer) of young)), tt); memory = k; todo = tt }
  by_verdict_so a s f BelowLow given k of = stays G x.actor class s k
  by_verdict_so a s f verdicts.Answers given k of = done_so a s f f.body refl given k

  admits_so : (a : Actor) (s : Site) (f : Frame) → GivenTo G x.actor f → Holds G x.actor s → Tells G x.actor (admits x a s f)
  admits_so a s f given k =
      by_verdict_so a s f (verdict for_directory (locked_in a.records) (last_finished a.records) s f) given k
      (of_verdict f for_directory (locked_in a.records) (last_finished a.records) s k.kept)

  pub directory_so : (a : Actor) (s : Site) (t : Task) (seg : Segment) → Holds G x.actor s → IsOfGiven G x.actor t → DirectoryRow x a s t seg → Tells G x.actor seg
  directory_so a s t seg k given (IsRenewed f e is row) =
      subst (Tells G x.actor) (sym row.does) (record { frames = tt; memory = record { kept = kept_renewed IsOlder f s; parked = k.parked }; todo = (subst (IsOfGiven G x.actor) is given, tt) })
  directory_so a s t seg k given (IsAdmitted f e is row) =
      subst (Tells G x.actor) (sym row.does) (admits_so a (seen f s) f (subst (IsOfGiven G x.actor) is given) (holds_seen G x.actor class f s k))
  directory_so a s t seg k given (IsTakenUp f is row) =
      subst (Tells G x.actor) (sym row.does) (admits_so a (seen f s) f (subst (IsOfGiven G x.actor) is given) (holds_seen G x.actor class f s k))
  directory_so a s t seg k given (IsFounded is row) = subst (Tells G x.actor) (sym row.does) (record { frames = tt; memory = k; todo = tt })
  directory_so a s t seg k given (IsOpen is row) = subst (Tells G x.actor) (sym row.does) (stays G x.actor class s k)

  pub opens_so : (a : Actor) (seg : Segment) → OpensDirectory x a seg → Tells G x.actor seg
  opens_so a seg opens = subst (Tells G x.actor) (sym opens.does) (record {
    frames = tt;
    memory = record { kept = restored_older x.actor class a.records opens.site opens.restored; parked = subst (Each (GivenTo G x.actor)) (sym opens.restored.parked) tt };
    todo = (tt, tt);
  })
