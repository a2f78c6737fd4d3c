-- A Welcome of the coordinator's answers a Hello that was given to it. What it keeps are decisions.
use Rattle.std.proofs.Common.{◌≡◌, ℕ, ◌==◌, ◌&&◌, ◌||◌, ◌<◌, ◌≤◌, Bool, true, false, not, List, [], ◌∷◌, ◌++◌, Option, Some, None, cond, refl, sym, ap, subst, ◌∙◌, arith}
use Rattle.std.specs.Prelude.{nat_lt, nat_le}
use Rattle.std.proofs.lemmas.Bool.Decides.{nat_tests}
use Rattle.std.specs.FinMap as map
use Rattle.sl_records.specs.declared.started.Started.{Started}
use Rattle.sl_records.specs.declared.coordinator.LogEntry.TheVariants as log
use Rattle.sl_frames.specs.Actors.{is_proxy}
use Rattle.sl_frames.specs.declared.intent.Part.{Part}
use Rattle.sl_frames.specs.declared.frame.Frame.{Frame}
use Rattle.sl_frames.specs.declared.body.Body.{Body}
use Rattle.sl_frames.specs.declared.body.Body.TheVariants as body
use Rattle.sl_history.specs.Licensed.{is_request}
use Rattle.sl_history.specs.Wired.{fits, is_answer}
use Rattle.sl_machine.specs.Records.{Record, OfLog, Held, unfinished, decision_of, with_op, started_of}
use Rattle.sl_machine.specs.Memory.{Site, Vote, Coord, Memory, Actor, OfCoord}
use Rattle.sl_machine.specs.World.{Scene, Task, Proceeds, Segment}
use Rattle.sl_machine.specs.Openings.{RestoredCoord, decided_by, decided_for}
use Rattle.sl_machine.specs.Runs.{OpensCoordinator}
use Rattle.sl_machine.specs.Verdicts.{Verdict, OldFence, Stray, Finished, Parks, IsKept, BelowLow, Answers, is_vote, is_operating, is_apply, is_locked_for, blocks, kept_or, of_request, for_coordinator, verdict, seen, lowered, keeping}
use Rattle.sl_machine.specs.Coordinators.{still, heard_from, has_voted, all_voted, is_among, servers_of, locks_of, finals_of, frame_to, final, decided_frame, welcome, keeps_decision, decides, granted_by, acknowledged_by, ends, on_undecided, on_decided, votes_on, votes, refusals, takes, waits, is_started, done_for, by_verdict, again_for, again, started_by, CoordinatorRow, IsRenewed, IsAdmitted, IsRefused, IsStarted, IsWelcomed, IsResting, IsSentAgain}
use Rattle.sl_transport.specs.Kinds.{asks, IsOfItsSender}
use Rattle.sl_transport.proofs.Proper.{Each, KeptIn, each_either, each_both}
use Rattle.sl_transport.proofs.Kept.{IfThere, there, kept_seen, kept_renewed, kept_put}
use Rattle.sl_transport.proofs.Stepping.{EachTask, tasks_both}
use Rattle.sl_transport.proofs.Asking.{GivenTo, IsOfGiven}
use Rattle.sl_transport.proofs.Telling.{IsTold, IsOlder}

true_false : true ≡ false → ⊥
true_false e = cc

-- a Hello of this fence was given
pub record HelloOf (G : Frame → Type 0) (fence : ℕ) : Type 0 where
  pub hello : Frame
  pub given : GivenTo G 1 hello
  pub kind : hello.body ≡ body.Hello
  pub fence_is : hello.fence ≡ fence

pub record Owes (G : Frame → Type 0) (m : Coord) : Type 0 where
  pub kept : KeptIn IsOlder m.site
  pub owed : m.owes ≡ true → HelloOf G m.site.fence

abbrev pub OwesIn : (Frame → Type 0) → Memory → Type 0
OwesIn G (OfCoord m) = Owes G m
OwesIn G other = ⊥

pub record Speaks (G : Frame → Type 0) (s : Segment) : Type 0 where
  pub frames : Each (IsTold G) s.frames
  pub memory : OwesIn G s.memory
  pub todo : EachTask (IsOfGiven G 1) s.todo

speaks_either : {G : Frame → Type 0} (b : Bool) {s r : Segment} → Speaks G s → Speaks G r → Speaks G (cond b s r)
speaks_either true p q = p
speaks_either false p q = q

-- ---- the verdict

-- what is answered is of no older fence, but for votes
abbrev OfVerdict : Site → Frame → Verdict → Type 0
OfVerdict s f (IsKept answer) = IsOlder answer
OfVerdict s f Answers = nat_lt f.fence s.fence && not (is_vote f.body) ≡ false
OfVerdict s f other = Unit {0}

module _ (s : Site) (f : Frame) where
  of_either : (b : Bool) (v w : Verdict) → OfVerdict s f v → (b ≡ false → OfVerdict s f w) → OfVerdict s f (cond b v w)
  of_either true v w p q = p
  of_either false v w p q = q refl

  of_kept : KeptIn IsOlder s → nat_lt f.fence s.fence && not (is_vote f.body) ≡ false → OfVerdict s f (of_request s f)
  of_kept h young = by (map.get s.kept f.tag) refl
    where
      by : (o : Option Frame) → map.get s.kept f.tag ≡ o → OfVerdict s f (kept_or o (cond (nat_lt f.tag s.low) BelowLow Answers))
      by None e = of_either (nat_lt f.tag s.low) BelowLow Answers tt (λ e. young)
      by (Some answer) e = h f.tag answer e

  of_verdict : (takes : Body → Bool) (locked : Option Held) (last : ℕ) → KeptIn IsOlder s → OfVerdict s f (verdict takes locked last s f)
  unfolding verdict
  of_verdict takes locked last h =
      of_either (nat_lt f.fence s.fence && not (is_vote f.body)) OldFence _ tt (λ young.
      of_either (not (takes f.body)) Stray _ tt (λ e.
      of_either (is_operating f.body && nat_le f.op last) Finished _ tt (λ e.
      of_either (is_apply f.body && not (is_locked_for f.op locked)) Stray _ tt (λ e.
      of_either (blocks f locked) Parks _ tt (λ e.
      of_either (is_request f.body) (of_request s f) Answers (of_kept h young) (λ e. young))))))

-- ---- what is restored

older_if : (b : Bool) (o p : Option Frame) → IfThere IsOlder o → IfThere IsOlder p → IfThere IsOlder (cond b o p)
older_if true o p h g = h
older_if false o p h g = g

by_decision : (s : Started) (o : Option Bool) → IfThere IsOlder (decided_by s o)
by_decision s None = tt
by_decision s (Some agreed) = refl

decisions_of : (rs : List Record) (fence tag : ℕ) (ss : List Started) → IfThere IsOlder (decided_for rs fence tag ss)
decisions_of rs fence tag [] = tt
decisions_of rs fence tag (s ∷ ss) =
    older_if (s.request.fence == fence && s.request.tag == tag) (decided_by s (decision_of rs s.op)) (decided_for rs fence tag ss) (by_decision s (decision_of rs s.op)) (decisions_of rs fence tag ss)

above_or_none : (low tag : ℕ) (o p : Option Frame) → (low ≤ tag → o ≡ p) → (tag < low → o ≡ None) → IfThere IsOlder p → IfThere IsOlder o
above_or_none low tag o p above below h = by (nat_lt tag low) refl
  where
    is_below : nat_lt tag low ≡ true → tag < low
    is_below e = grind (arith, nat_tests)

    is_above : nat_lt tag low ≡ false → low ≤ tag
    is_above e = grind (arith, nat_tests)

    by : (b : Bool) → nat_lt tag low ≡ b → IfThere IsOlder o
    by true e = subst (IfThere IsOlder) (sym (below (is_below e))) tt
    by false e = subst (IfThere IsOlder) (sym (above (is_above e))) h

restored_older : (rs : List Record) (m : Coord) → RestoredCoord rs m → KeptIn IsOlder m.site
restored_older rs m r tag = there IsOlder (map.get m.site.kept tag)
    (above_or_none m.site.low tag (map.get m.site.kept tag) (decided_for rs m.site.fence tag (started_of rs)) (r.kept tag) (r.gone tag) (decisions_of rs m.site.fence tag (started_of rs)))

-- ---- numbers

same_fence : (a b : ℕ) → nat_lt a b ≡ false → nat_lt b a ≡ false → b ≡ a
same_fence a b e d = grind (arith, nat_tests)

the_proxy : (a : ℕ) → is_proxy a ≡ true → 0 ≡ a
the_proxy a is = grind (arith, nat_tests)

and_true : (b : Bool) → b && true ≡ false → b ≡ false
and_true false e = refl
and_true true e = e

-- ---- the rows

module _ (G : Frame → Type 0) (shape : (f : Frame) → G f → IsOfItsSender f) where
  no_answer : (f : Frame) → is_answer f.body ≡ false → IsTold G f
  no_answer f none = λ is young. absurd (true_false (sym is ∙ none))

  older_told : (f : Frame) → IsOlder f → IsTold G f
  older_told f older = λ is young. absurd (true_false (sym older ∙ young))

  stays : (m : Coord) (todo : List Task) → EachTask (IsOfGiven G 1) todo → Owes G m → Speaks G (still m todo)
  stays m todo tasks k = record { frames = tt; memory = k; todo = tasks }

  each_lock : (s : Started) (vs : List Vote) (ps : List Part) → Each (IsTold G) (locks_of s vs ps)
  each_lock s vs [] = tt
  each_lock s vs (p ∷ ps) = each_either (IsTold G) (has_voted vs s.op p.actor) (locks_of s vs ps) (frame_to s p.actor p.boot (body.Lock p.work) ∷ locks_of s vs ps)
      (each_lock s vs ps) (no_answer (frame_to s p.actor p.boot (body.Lock p.work)) refl, each_lock s vs ps)

  final_told : (s : Started) (p : Part) (agreed : Bool) → IsTold G (frame_to s p.actor 0 (final agreed))
  final_told s p true = no_answer (frame_to s p.actor 0 body.Apply) refl
  final_told s p false = no_answer (frame_to s p.actor 0 body.Release) refl

  each_final : (s : Started) (agreed : Bool) (vs : List Vote) (ps : List Part) → Each (IsTold G) (finals_of s agreed vs ps)
  each_final s agreed vs [] = tt
  each_final s agreed vs (p ∷ ps) = each_either (IsTold G) (has_voted vs s.op p.actor) (finals_of s agreed vs ps) (frame_to s p.actor 0 (final agreed) ∷ finals_of s agreed vs ps)
      (each_final s agreed vs ps) (final_told s p agreed, each_final s agreed vs ps)

  owes_decision : (m : Coord) (s : Started) (agreed : Bool) → Owes G m → Owes G (record m { site = keeps_decision s agreed m.site })
  owes_decision m s agreed k = by (s.request.fence == m.site.fence && nat_le m.site.low s.request.tag)
    where
      by : (b : Bool) → Owes G (record m { site = cond b (keeping s.request.tag (decided_frame s agreed) m.site) m.site })
      by true = record { kept = kept_put IsOlder s.request.tag (decided_frame s agreed) m.site refl k.kept; owed = k.owed }
      by false = record { kept = k.kept; owed = k.owed }

  decides_so : (m : Coord) (s : Started) (agreed : Bool) (tells : List Frame) → Each (IsTold G) tells → Owes G m → Speaks G (decides m s agreed tells)
  decides_so m s agreed tells told k = record {
    frames = each_both (IsTold G) tells (finals_of s agreed m.acknowledged s.intent.parts) told (each_final s agreed m.acknowledged s.intent.parts);
    memory = owes_decision m s agreed k;
    todo = tt;
  }

  decided_told : (s : Started) (agreed : Bool) → IsTold G (decided_frame s agreed)
  decided_told s agreed = older_told (decided_frame s agreed) refl

  granted_so : (m : Coord) (f : Frame) → Owes G m → Owes G (granted_by m f)
  granted_so m f k = record { kept = k.kept; owed = k.owed }

  acknowledged_so : (m : Coord) (f : Frame) → Owes G m → Owes G (acknowledged_by m f)
  acknowledged_so m f k = record { kept = k.kept; owed = k.owed }

  undecided_so : (m : Coord) (f : Frame) (b : Body) (s : Started) → Owes G m → Speaks G (on_undecided m f b s)
  undecided_so m f body.Grant s k =
      speaks_either (all_voted (granted_by m f).granted s) (decides_so (granted_by m f) s true (decided_frame s true ∷ []) (decided_told s true, tt) (granted_so m f k)) (stays (granted_by m f) [] tt (granted_so m f k))
  undecided_so m f body.Refuse s k = decides_so m s false (decided_frame s false ∷ []) (decided_told s false, tt) k
  undecided_so m f other s k = stays m [] tt k

  ends_so : (m : Coord) (s : Started) → Owes G m → Speaks G (ends m s)
  ends_so m s k = speaks_either (all_voted m.acknowledged s) done (stays m [] tt k)
    where
      done : Speaks G (record { append = Some (OfLog (log.Done s.op)); memory = OfCoord m; frames = []; notes = []; todo = Proceeds ∷ [] })
      done = record { frames = tt; memory = k; todo = (tt, tt) }

  decided_so : (m : Coord) (f : Frame) (b : Body) (s : Started) → Owes G m → Speaks G (on_decided m f b s)
  decided_so m f body.Ack s k = ends_so (acknowledged_by m f) s (acknowledged_so m f k)
  decided_so m f other s k = stays m [] tt k

  votes_on_so : (m : Coord) (f : Frame) (s : Started) (o : Option Bool) → Owes G m → Speaks G (votes_on m f s o)
  votes_on_so m f s None k = undecided_so m f f.body s k
  votes_on_so m f s (Some agreed) k = decided_so m f f.body s k

  votes_so : (a : Actor) (m : Coord) (f : Frame) (o : Option Started) → Owes G m → Speaks G (votes a m f o)
  votes_so a m f None k = stays m [] tt k
  votes_so a m f (Some s) k = speaks_either (is_among (servers_of s.intent) f.from) (votes_on_so m f s (decision_of a.records s.op) k) (stays m [] tt k)

  takes_so : (a : Actor) (m : Coord) (f : Frame) → Owes G m → Speaks G (takes a m f)
  takes_so a m f k =
      speaks_either (waits m.queue f || is_started (unfinished a.records) f) (stays m [] tt k) (stays (record m { queue = m.queue ++ f ∷ [] }) (Proceeds ∷ []) (tt, tt) (record { kept = k.kept; owed = k.owed }))

  all_refused : (ss : List Started) → EachTask (IsOfGiven G 1) (refusals ss)
  all_refused [] = tt
  all_refused (s ∷ ss) = (tt, all_refused ss)

  done_so : (a : Actor) (m : Coord) (f : Frame) (b : Body) → f.body ≡ b → GivenTo G 1 f → nat_lt f.fence m.site.fence && not (is_vote f.body) ≡ false → nat_lt m.site.fence f.fence ≡ false → Owes G m
      → Speaks G (done_for a m f b)
  done_so a m f body.Hello is given young not_greater k = record {
    frames = tt;
    memory = record {
      kept = k.kept;
      owed = λ e. record {
        hello = f;
        given = given;
        kind = is;
        fence_is = sym (same_fence f.fence m.site.fence (and_true (nat_lt f.fence m.site.fence) (sym (ap (λ b. nat_lt f.fence m.site.fence && not (is_vote b)) is) ∙ young)) not_greater);
      };
    };
    todo = tasks_both (IsOfGiven G 1) (refusals _) (Proceeds ∷ []) (all_refused _) (tt, tt);
  }
  done_so a m f (body.Intent i) is given young not_greater k = takes_so a m f k
  done_so a m f other is given young not_greater k = votes_so a m f (with_op f.op (unfinished a.records)) k

  owes_heard : (f : Frame) (m : Coord) → Owes G m → Owes G (heard_from f m)
  owes_heard f m k = by (is_proxy f.from)
    where
      by : (b : Bool) → Owes G (cond b (record m { heard = true }) m)
      by true = record { kept = k.kept; owed = k.owed }
      by false = k

  site_heard : (f : Frame) (m : Coord) → (heard_from f m).site ≡ m.site
  site_heard f m = by (is_proxy f.from)
    where
      by : (b : Bool) → (cond b (record m { heard = true }) m).site ≡ m.site
      by true = refl
      by false = refl

  by_verdict_so : (a : Actor) (m : Coord) (f : Frame) (v : Verdict) → GivenTo G 1 f → nat_lt m.site.fence f.fence ≡ false → Owes G m → OfVerdict m.site f v → Speaks G (by_verdict a m f v)
  by_verdict_so a m f OldFence given not_greater k of = stays m [] tt k
  by_verdict_so a m f (IsKept answer) given not_greater k of = record { frames = (older_told answer of, tt); memory = owes_heard f m k; todo = tt }
  by_verdict_so a m f Answers given not_greater k of = done_so a (heard_from f m) f f.body refl given
      (ap (λ (s : Site). nat_lt f.fence s.fence && not (is_vote f.body)) (site_heard f m) ∙ of) (ap (λ (s : Site). nat_lt s.fence f.fence) (site_heard f m) ∙ not_greater) (owes_heard f m k)
  by_verdict_so a m f other given not_greater k of = stays (heard_from f m) [] tt (owes_heard f m k)

  owes_seen : (f : Frame) (m : Coord) → Owes G m → Owes G (record m { site = seen f m.site })
  owes_seen f m k = record { kept = kept_seen IsOlder f m.site k.kept; owed = λ e. subst (HelloOf G) (sym (fence_seen f m.site)) (k.owed e) }
    where
      fence_seen : (f : Frame) (s : Site) → (seen f s).fence ≡ s.fence
      fence_seen f s = by (f.fence == s.fence)
        where
          by : (b : Bool) → (cond b (lowered f.low s) s).fence ≡ s.fence
          by true = refl
          by false = refl

  not_greater_seen : (f : Frame) (s : Site) → nat_lt s.fence f.fence ≡ false → nat_lt (seen f s).fence f.fence ≡ false
  not_greater_seen f s e = by (f.fence == s.fence)
    where
      by : (b : Bool) → nat_lt (cond b (lowered f.low s) s).fence f.fence ≡ false
      by true = e
      by false = e

  again_each : (m : Coord) (s : Started) (o : Option Bool) → Each (IsTold G) (again_for m s o)
  again_each m s (Some agreed) = each_final s agreed m.acknowledged s.intent.parts
  again_each m s None = each_either (IsTold G) m.heard (locks_of s m.granted s.intent.parts) [] (each_lock s m.granted s.intent.parts) tt

  all_again : (rs : List Record) (m : Coord) (ss : List Started) → Each (IsTold G) (again rs m ss)
  all_again rs m [] = tt
  all_again rs m (s ∷ ss) = each_both (IsTold G) (again_for m s (decision_of rs s.op)) (again rs m ss) (again_each m s (decision_of rs s.op)) (all_again rs m ss)

  welcome_told : (fence : ℕ) → HelloOf G fence → IsTold G (welcome fence)
  welcome_told fence h = λ is young. record {
    asking = h.hello;
    given = h.given.0;
    answers = record {
      kind = ap (λ b. fits b body.Welcome) h.kind;
      sender = sym h.given.1;
      receiver = the_proxy h.hello.from by_proxy;
      fence = sym h.fence_is;
      tag = sym ((shape h.hello h.given.0).tag h.kind);
      op = sym ((shape h.hello h.given.0).operation by_proxy);
    };
  }
    where
      by_proxy : is_proxy h.hello.from ≡ true
      by_proxy = sym (shape h.hello h.given.0).kind ∙ ap asks h.kind

  pub opens_so : (a : Actor) (s : Segment) → OpensCoordinator a s → Speaks G s
  opens_so a s opens = subst (Speaks G) (sym opens.does) (record {
    frames = tt;
    memory = record { kept = restored_older a.records opens.coord opens.restored; owed = λ e. absurd (true_false (sym e ∙ opens.restored.owes)) };
    todo = tt;
  })

  pub coordinator_so : (x : Scene) (a : Actor) (m : Coord) (t : Task) (s : Segment) → Owes G m → IsOfGiven G 1 t → CoordinatorRow x a m t s → Speaks G s
  coordinator_so x a m t s k given (IsRenewed f e is row) = subst (Speaks G) (sym row.does) (record {
    frames = tt;
    memory = record { kept = kept_renewed IsOlder f m.site; owed = λ e. absurd (true_false (sym e)) };
    todo = (subst (IsOfGiven G 1) is given, tt);
  })
  coordinator_so x a m t s k given (IsAdmitted f e is row) = subst (Speaks G) (sym row.does)
      (by_verdict_so a (record m { site = seen f m.site }) f (verdict for_coordinator None 0 (seen f m.site) f) (subst (IsOfGiven G 1) is given) (not_greater_seen f m.site row.not_greater) (owes_seen f m k)
      (of_verdict (seen f m.site) f for_coordinator None 0 (kept_seen IsOlder f m.site k.kept)))
  coordinator_so x a m t s k given (IsRefused op is row) = subst (Speaks G) (sym row.does) (decides_so m row.started false [] tt k)
  coordinator_so x a m t s k given (IsStarted is row) = subst (Speaks G) (sym row.does)
      (record { frames = each_lock (started_by a row.next) [] row.next.intent.parts; memory = record { kept = k.kept; owed = k.owed }; todo = (tt, tt) })
  coordinator_so x a m t s k given (IsWelcomed is row) = subst (Speaks G) (sym row.does)
      (record { frames = (welcome_told m.site.fence (k.owed row.owed), tt); memory = record { kept = k.kept; owed = λ e. absurd (true_false (sym e)) }; todo = tt })
  coordinator_so x a m t s k given (IsResting is row) = subst (Speaks G) (sym row.does) (stays m [] tt k)
  coordinator_so x a m t s k given (IsSentAgain is row) = subst (Speaks G) (sym row.does) (record { frames = all_again a.records m (unfinished a.records); memory = k; todo = tt })
