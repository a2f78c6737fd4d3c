-- The run up to the Welcome, which ends in a world whose maps are known by their entries.
use Rattle.std.proofs.Common.{◌≡◌, ℕ, T, true, false, List, [], ◌∷◌, Some, None, sym, ap, subst, ◌∙◌, refl}
use Rattle.std.specs.Ordering.{nat_cmp}
use Rattle.std.specs.Cmp.{nat_cmp_total}
use Rattle.std.specs.FinMap.{FinMap, from_sorted, is_sorted, get-from_sorted, get-from_entries, same_map, nat_cmp-IsAntisymmetric}
use Rattle.sl_frames.specs.declared.frame.Frame.{Frame}
use Rattle.sl_defs.specs.declared.event.Event.TheVariants as event
use Rattle.sl_history.specs.Turns.{Verf}
use Rattle.sl_machine.specs.Memory.{Site, Coord, Actor}
use Rattle.sl_machine.specs.Memory as memory
use Rattle.sl_machine.specs.World.{World, Segment, played, with_actor, after_segment, begun, landed}
use Rattle.sl_machine.specs.Records.{Record}
use Rattle.sl_machine.specs.Records as records
use Rattle.sl_records.specs.declared.coordinator.LogEntry.TheVariants as log
use Rattle.sl_machine.specs.Runs.{Run, TurnRun}
use Rattle.sl_witness.specs.Histories.{setup, fence, turn, welcomed}
use Rattle.sl_witness.proofs.Openings.{blank, counts_start, reads_log, reads_cells, makes_root, boots, w0, w1, w2, w3, w4, w5}
use Rattle.sl_witness.proofs.Welcomes.{coordinator_5, coordinator_6a, coordinator_6b, records_fence, hears, welcomes, proxy_5, proxy_7, is_welcome, w6, w7, greeted_run, is_welcomed}
use Rattle.sl_operations.proofs.Maps.{of, with_entry, inserted, removed, kept_from}
use Rattle.sl_operations.proofs.Stages.{Stage, world, after_one, one_played, landed_stage}

sorted_is : {X : Type 0} (es : List (ℕ × X)) → T (is_sorted nat_cmp es) → from_sorted {R = nat_cmp} es ≡ of es
sorted_is es h = same_map nat_cmp_total nat_cmp-IsAntisymmetric _ _ (λ q. get-from_sorted nat_cmp es q h ∙ sym (get-from_entries nat_cmp_total es q))

-- ---- each step from a known world ends in a known world

abbrev with_actor_stage : Stage → ℕ → Actor → Stage
with_actor_stage s i a = record s { actors = with_entry i a s.actors }

actor_put : (s : Stage) (i : ℕ) (a : Actor) → with_actor (world s) i a ≡ world (with_actor_stage s i a)
actor_put s i a = λ j. record (world s) { actors = inserted s.actors i a j }

goes : (w : World) (s : Stage) (i : ℕ) (a : Actor) (g : Segment) → w ≡ world s → played w i a g ≡ world (after_one s i a g)
goes w s i a g e = ap (λ w. played w i a g) e ∙ one_played s i a g

puts : (w : World) (s : Stage) (i : ℕ) (a : Actor) → w ≡ world s → with_actor w i a ≡ world (with_actor_stage s i a)
puts w s i a e = ap (λ w. with_actor w i a) e ∙ actor_put s i a

lands : (w : World) (s : Stage) (k : ℕ) → w ≡ world s → landed (begun w) k ≡ world (landed_stage s k)
lands w s k e = ap (λ w. landed (begun w) k) e ∙ (λ j. record (begun (world s)) { flight = removed s.flight k j })

-- ---- the opening

abbrev blanks : List (ℕ × Actor)
blanks = (0, blank) ∷ (1, blank) ∷ (16, blank) ∷ (32, blank) ∷ (48, blank) ∷ []

abbrev none_noted : List (ℕ × ℕ)
none_noted = (0, 0) ∷ (1, 0) ∷ (16, 0) ∷ (32, 0) ∷ (48, 0) ∷ []

abbrev s0 : Stage
s0 = record { event = 0; next = 1; actors = blanks; flight = []; done_in = []; noted = none_noted }

e0 : w0 ≡ world s0
e0 = λ j. record (world s0) { actors = sorted_is blanks tt j; noted = sorted_is none_noted tt j }

-- after an actor's first segment
abbrev opened_stage : Stage → ℕ → Segment → Stage
opened_stage s i g = after_one (with_actor_stage s i blank) i blank g

opened : (w : World) (s : Stage) (i : ℕ) (g : Segment) → w ≡ world s → played (with_actor w i blank) i blank g ≡ world (opened_stage s i g)
opened w s i g e = goes (with_actor w i blank) (with_actor_stage s i blank) i blank g (puts w s i blank e)

abbrev s1 : Stage
s1 = opened_stage s0 0 counts_start

abbrev s2 : Stage
s2 = opened_stage s1 1 reads_log

abbrev s3 : Stage
s3 = after_one (opened_stage s2 16 reads_cells) 16 (after_segment blank reads_cells) makes_root

abbrev s4 : Stage
s4 = opened_stage s3 32 boots

abbrev s5 : Stage
s5 = opened_stage s4 48 boots

e1 : w1 ≡ world s1
e1 = opened w0 s0 0 counts_start e0

e2 : w2 ≡ world s2
e2 = opened w1 s1 1 reads_log e1

e3 : w3 ≡ world s3
e3 = goes (played (with_actor w2 16 blank) 16 blank reads_cells) (opened_stage s2 16 reads_cells) 16 (after_segment blank reads_cells) makes_root (opened w2 s2 16 reads_cells e2)

e4 : w4 ≡ world s4
e4 = opened w3 s3 32 boots e3

e5 : w5 ≡ world s5
e5 = opened w4 s4 48 boots e4

-- ---- Hello and Welcome

abbrev v6 : World
v6 = landed (begun w5) 1

abbrev t6 : Stage
t6 = landed_stage s5 1

abbrev s6a : Stage
s6a = after_one t6 1 coordinator_5 records_fence

abbrev s6b : Stage
s6b = after_one s6a 1 coordinator_6a hears

abbrev s6 : Stage
s6 = after_one s6b 1 coordinator_6b welcomes

e6 : w6 ≡ world s6
e6 = goes _ s6b 1 coordinator_6b welcomes (goes _ s6a 1 coordinator_6a hears (goes v6 t6 1 coordinator_5 records_fence (lands w5 s5 1 e5)))

-- ---- the stage at the Welcome

abbrev pub no_answers : Site
no_answers = record { fence = fence; low = 0; kept = of []; parked = [] }

abbrev pub coordinator_idle : Coord
coordinator_idle = record { site = no_answers; queue = []; granted = []; acknowledged = []; owes = false; heard = true }

-- with these kept answers
abbrev coordinator_with : FinMap nat_cmp Frame → Actor
coordinator_with kept = record {
  memory = Some (memory.OfCoord (record coordinator_idle { site = record no_answers { kept = kept } }));
  records = records.OfLog (log.Fence fence) ∷ [];
  limbo = None;
}

abbrev pub coordinator_welcomed : Actor
coordinator_welcomed = coordinator_with (of [])

abbrev pub directory_opened : Actor
directory_opened = after_segment (after_segment blank reads_cells) makes_root

abbrev pub store_opened : Actor
store_opened = after_segment blank boots

-- the stage, with this coordinator
abbrev stage_with : Actor → Stage
stage_with c = record {
  event = 2;
  next = 3;
  actors = (0, proxy_7) ∷ (1, c) ∷ (48, store_opened) ∷ (32, store_opened) ∷ (16, directory_opened) ∷ [];
  flight = [];
  done_in = [];
  noted = (0, 1) ∷ (1, 1) ∷ (48, 1) ∷ (32, 1) ∷ (16, 1) ∷ [];
}

abbrev pub s7 : Stage
s7 = stage_with coordinator_welcomed

e7 : w7 ≡ world s7
e7 =
    goes _ (landed_stage s6 2) 0 proxy_5 is_welcome (lands w6 s6 2 e6)
    ∙ ap (λ kept. world (stage_with (coordinator_with kept))) (kept_from [] 0)

pub welcomed_here : TurnRun w6 (turn (event.Give 2) (Verf fence ∷ [])) (world s7)
welcomed_here = subst (TurnRun w6 (turn (event.Give 2) (Verf fence ∷ []))) e7 is_welcomed

abbrev pub welcomed_run : Run setup welcomed (world s7)
welcomed_run = (w6, greeted_run, refl, welcomed_here)
