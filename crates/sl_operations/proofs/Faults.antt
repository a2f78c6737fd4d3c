-- Appends that are cut, openings after them, and ticks.
use Rattle.std.proofs.Common.{◌≡◌, ℕ, ◌+◌, true, false, List, [], ◌∷◌, Some, None, refl, sym, ap, subst, ◌∙◌, inl, unwrap_or}
use Rattle.std.specs.Ordering.{nat_cmp}
use Rattle.std.specs.FinMap.{find}
use Rattle.sl_defs.specs.declared.event.Event.TheVariants as event
use Rattle.sl_frames.specs.declared.frame.Frame.{Frame}
use Rattle.sl_history.specs.Turns.{Remark, Down}
use Rattle.sl_machine.specs.Records.{Record}
use Rattle.sl_machine.specs.Memory.{Actor}
use Rattle.sl_machine.specs.World.{World, Given, Opening, Ticks, Segment, Told, nothing, scene, with_actor, cut_actor, stopped_actor, begun, landed}
use Rattle.sl_machine.specs.Openings.{Found, settled}
use Rattle.sl_machine.specs.Runs.{TurnRun, May, Steps, Faulted, is_up, remarks_of, opened_actor, done_by}
use Rattle.sl_witness.specs.Histories.{turn}
use Rattle.sl_witness.proofs.Maps.{got_here}
use Rattle.sl_operations.proofs.Maps.{with_entry, got, inserted}
use Rattle.sl_operations.proofs.Stages.{Stage, world, Course, scene_of, after_all, begun_stage, landed_stage, given_world, steps, told_by, done_list, done_are}

abbrev with_actor_stage : Stage → ℕ → Actor → Stage
with_actor_stage s i a = record s { actors = with_entry i a s.actors }

actor_put : (s : Stage) (i : ℕ) (a : Actor) → with_actor (world s) i a ≡ world (with_actor_stage s i a)
actor_put s i a = λ j. record (world s) { actors = inserted s.actors i a j }

-- ---- a frame is given, and the append of its segment is cut

abbrev pub cut_stage : Stage → ℕ → ℕ → Actor → Record → Stage
cut_stage s k i a r = with_actor_stage (landed_stage s k) i (cut_actor a r)

pub cuts :
    (s : Stage) (k : ℕ) (f : Frame) (e : ℕ) (a : Actor) (g : Segment) (r : Record) → find nat_cmp k s.flight ≡ Some (record { frame = f; event = e })
    → find nat_cmp f.to s.actors ≡ Some a → is_up (Some a) ≡ true → May (scene_of s f.to) a (Given f e) g → g.append ≡ Some r
    → TurnRun (world s) (turn (event.Give k) (Down f.to ∷ [])) (world (cut_stage s k f.to a r))
cuts s k f e a g r flies there up may append = record {
  told = record { frames = []; notes = Down f.to ∷ [] };
  is = (
    record { flying = record { frame = f; event = e }; is = got s.flight k _ flies },
    inl (
      ap is_up (got s.actors f.to _ there) ∙ up,
      record {
        segments = [];
        left = Given f e ∷ [];
        middle = landed (begun (world s)) k;
        so_far = nothing;
        plays = (refl, refl, refl);
        ends = Faulted (record {
          actor = a;
          task = Given f e;
          rest = [];
          segment = g;
          cut = r;
          next = refl;
          is = got s.actors f.to _ there;
          may = may;
          append = append;
          world = sym (ap (λ w. with_actor w f.to (cut_actor a r)) (given_world s k) ∙ actor_put (landed_stage s k) f.to (cut_actor a r));
          noted = refl;
        });
      },
    ),
  );
  remarks = refl;
  moment = refl;
}

-- ---- an actor is opened over the records that are found

-- these notes are what the last record says
abbrev pub opened_stage : Stage → ℕ → Actor → List Record → List Remark → Stage
opened_stage s i a rs notes = record (begun_stage s) { actors = with_entry i (opened_actor a rs) s.actors; done_in = done_list notes (s.event + 1) s.done_in }

abbrev pub opened_world : Stage → ℕ → Actor → List Record → List Remark → World
opened_world s i a rs notes = done_by notes (with_actor (begun (world s)) i (opened_actor a rs))

opened_is : (s : Stage) (i : ℕ) (a : Actor) (rs : List Record) (notes : List Remark) → opened_world s i a rs notes ≡ world (opened_stage s i a rs notes)
opened_is s i a rs notes = λ j. record (begun (world s)) { actors = inserted s.actors i (opened_actor a rs) j; done_in = done_are notes (s.event + 1) s.done_in j }

abbrev noting : List Remark → Told
noting notes = record { frames = []; notes = notes }

opens_to :
    (s : Stage) (i : ℕ) (a : Actor) (rs : List Record) (gs : List Segment) (notes : List Remark)
    → Course (scene (opened_world s i a rs notes) i) (Opening ∷ []) (opened_actor a rs) gs
    → Steps i (Opening ∷ []) (opened_world s i a rs notes) (noting notes) (world (after_all (opened_stage s i a rs notes) i (opened_actor a rs) gs)) (told_by s.next (noting notes) gs)
opens_to s i a rs gs notes course =
    steps gs (Opening ∷ []) (opened_world s i a rs notes) (opened_stage s i a rs notes) i (opened_actor a rs) (noting notes) (opened_is s i a rs notes) (got_here _ i _) course

pub starts :
    (s : Stage) (i : ℕ) (a : Actor) (rs : List Record) (noted : ℕ) (gs : List Segment) (notes : List Remark) → find nat_cmp i s.actors ≡ Some a
    → a.memory ≡ None → is_up (Some a) ≡ false → Found a rs → find nat_cmp i s.noted ≡ Some noted → settled noted rs ≡ notes
    → Course (scene (opened_world s i a rs notes) i) (Opening ∷ []) (opened_actor a rs) gs
    → TurnRun (world s) (turn (event.Start i) (remarks_of (told_by s.next (noting notes) gs))) (world (after_all (opened_stage s i a rs notes) i (opened_actor a rs) gs))
starts s i a rs noted gs notes there down is_down found were_noted settled_is course = record {
  told = told_by s.next (noting notes) gs;
  is = inl (
    ap is_up (got s.actors i _ there) ∙ is_down,
    inl (record {
      actor = a;
      records = rs;
      is = got s.actors i _ there;
      down = down;
      found = found;
      steps =
          subst
          (λ ns. Steps i (Opening ∷ []) (opened_world s i a rs ns) (noting ns) (world (after_all (opened_stage s i a rs notes) i (opened_actor a rs) gs)) (told_by s.next (noting notes) gs))
          (sym (ap (λ o. settled (unwrap_or o 0) rs) (got s.noted i _ were_noted) ∙ settled_is))
          (opens_to s i a rs gs notes course);
    }),
  );
  remarks = refl;
  moment = refl;
}

-- ---- the proxy ticks, and then the coordinator

abbrev pub ticked_stage : Stage → Actor → List Segment → Stage
ticked_stage s a gs = after_all (begun_stage s) 0 a gs

pub ticks :
    (s : Stage) (a : Actor) (gs : List Segment) (b : Actor) (hs : List Segment) → find nat_cmp 0 s.actors ≡ Some a → is_up (Some a) ≡ true
    → Course (scene_of s 0) (Ticks ∷ []) a gs → find nat_cmp 1 (ticked_stage s a gs).actors ≡ Some b → is_up (Some b) ≡ true
    → Course (scene (world (ticked_stage s a gs)) 1) (Ticks ∷ []) b hs
    → TurnRun (world s) (turn event.Tick (remarks_of (told_by (ticked_stage s a gs).next (told_by s.next nothing gs) hs))) (world (after_all (ticked_stage s a gs) 1 b hs))
ticks s a gs b hs there up course other_there other_up other_course = record {
  told = told_by (ticked_stage s a gs).next (told_by s.next nothing gs) hs;
  is = record {
    middle = world (ticked_stage s a gs);
    so_far = told_by s.next nothing gs;
    proxy = inl (ap is_up (got s.actors 0 _ there) ∙ up, steps gs (Ticks ∷ []) (begun (world s)) (begun_stage s) 0 a nothing refl (got s.actors 0 _ there) course);
    coordinator = inl (
      ap is_up (got (ticked_stage s a gs).actors 1 _ other_there) ∙ other_up,
      steps hs (Ticks ∷ []) (world (ticked_stage s a gs)) (ticked_stage s a gs) 1 b (told_by s.next nothing gs) refl (got (ticked_stage s a gs).actors 1 _ other_there) other_course,
    );
  };
  remarks = refl;
  moment = refl;
}

-- ---- an actor stops

abbrev pub stopped_stage : Stage → ℕ → Actor → Stage
stopped_stage s i a = with_actor_stage (begun_stage s) i (stopped_actor a)

pub stops : (s : Stage) (i image : ℕ) (a : Actor) → find nat_cmp i s.actors ≡ Some a → TurnRun (world s) (turn (event.Stop i image) []) (world (stopped_stage s i a))
stops s i image a there = record {
  told = nothing;
  is = record { actor = a; is = got s.actors i _ there; world = sym (actor_put (begun_stage s) i (stopped_actor a)); noted = refl };
  remarks = refl;
  moment = refl;
}
