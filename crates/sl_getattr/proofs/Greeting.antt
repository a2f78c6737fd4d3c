-- What the coordinator does for a Hello, where there are no operations.
use Rattle.std.proofs.Common.{◌≡◌, ℕ, ◌<◌, ◌==◌, ◌&&◌, Bool, true, false, List, [], ◌∷◌, ◌++◌, filter, Option, Some, None, refl, sym, ap, subst, ◌∙◌, arith, if◌then◌else◌}
use Rattle.std.specs.Prelude.{nat_lt}
use Rattle.std.proofs.lemmas.Bool.Decides.{nat_tests}
use Rattle.std.specs.FinMap.{get}
use Rattle.sl_records.specs.declared.coordinator.LogEntry.TheVariants as log
use Rattle.sl_frames.specs.Actors.{is_proxy}
use Rattle.sl_frames.specs.declared.frame.Frame.{Frame}
use Rattle.sl_frames.specs.declared.body.Body.TheVariants as body
use Rattle.sl_history.specs.Turns.{Remark}
use Rattle.sl_history.specs.Turns as note
use Rattle.sl_machine.specs.Records.{Record, OfLog, started_of, still_going, unfinished}
use Rattle.sl_machine.specs.Memory.{Site, Coord, Memory, Actor, OfCoord}
use Rattle.sl_machine.specs.World.{World, Given, Proceeds, Segment, Told, scene, played, told, after_segment}
use Rattle.sl_machine.specs.Verdicts.{lowered, OldFence, Answers, verdict, for_coordinator, seen, renewed}
use Rattle.sl_machine.specs.Coordinators.{still, heard_from, welcome, greets, refusals, is_outdated, by_verdict, admits}
use Rattle.sl_machine.specs.Coordinators as coordinators
use Rattle.sl_machine.specs.Runs.{May, Steps}
use Rattle.sl_transport.proofs.Proper.{Each}
use Rattle.sl_transport.proofs.Kept.{kept_seen, kept_renewed}
use Rattle.sl_getattr.proofs.Stepping.{Begun, Does, Falls, Spends, begun, not_none, not_nil, coordinator_row, no_coordinator}
use Rattle.sl_getattr.proofs.Maps.{has_put}
use Rattle.sl_getattr.proofs.Sound.{IsCoordinator}
use Rattle.sl_getattr.proofs.Tales.{IsPlain}
use Rattle.sl_getattr.proofs.Licensing.{AreHarmless}
use Rattle.sl_getattr.proofs.Counting.{IsCalm, AreDowns}
use Rattle.sl_getattr.proofs.Doing.{Did, did_last, did_then, did_fall}
use Rattle.sl_getattr.proofs.Rows.{CoordinatorOnFrame, CoordinatorRenews, CoordinatorAdmits, coordinator_given, Proceeding, Starts, Welcomes, Rests, proceeds_row}

-- ---- how the step ends

abbrev pub IsCoordinatorIf : Option Memory → List Record → Type 0
IsCoordinatorIf (Some (OfCoord m)) rs = IsCoordinator m rs
IsCoordinatorIf other rs = Unit {0}

-- the Welcome to a Hello
abbrev pub IsWelcomeTo : Frame → Frame → Type 0
IsWelcomeTo f g = (g.to ≡ 0) × (g.from ≡ 1) × (g.«body» ≡ body.Welcome) × (g.fence ≡ f.fence) × (g.tag ≡ 0) × (g.op ≡ 0)

pub record Greeted (f : Frame) (w : World) (n : Told) (w' : World) (n' : Told) : Type 0 where
  pub memory : Option Memory
  pub records : List Record
  pub frames : List Frame
  pub notes : List Remark
  pub did : Did 1 w n w' n' memory records frames notes
  pub sound : IsCoordinatorIf memory records
  pub welcomes : Each (IsWelcomeTo f) frames
  pub plain : IsPlain notes
  pub calm : IsCalm notes
  pub downs : AreDowns notes
  pub harmless : AreHarmless notes

-- first a segment that sends and notes nothing
greeted_then : (f : Frame) (w : World) (n : Told) (a : Actor) (s : Segment) (w' : World) (n' : Told) → s.frames ≡ [] → s.notes ≡ [] → Greeted f (played w 1 a s) (told w s n) w' n' → Greeted f w n w' n'
greeted_then f w n a s w' n' silent unnoted later = record {
  memory = later.memory;
  records = later.records;
  frames = later.frames;
  notes = later.notes;
  did = subst (λ rs. Did 1 w n w' n' later.memory later.records later.frames rs) (ap (λ rs. rs ++ later.notes) unnoted)
      (did_then 1 w n a s w' n' later.memory later.records later.frames later.notes silent later.did);
  sound = later.sound;
  welcomes = later.welcomes;
  plain = later.plain;
  calm = later.calm;
  downs = later.downs;
  harmless = later.harmless;
}

greeted_last : (f : Frame) (w : World) (n : Told) (a : Actor) (m : Coord) (fs : List Frame) (w' : World) (n' : Told) → IsCoordinator m a.records → Each (IsWelcomeTo f) fs
    → Steps 1 [] (played w 1 a (record { append = None; memory = OfCoord m; frames = fs; notes = []; todo = [] })) (told w (record { append = None; memory = OfCoord m; frames = fs; notes = []; todo = [] }) n) w' n'
    → Greeted f w n w' n'
greeted_last f w n a m fs w' n' sound each steps = record {
  memory = Some (OfCoord m);
  records = a.records;
  frames = fs;
  notes = [];
  did = did_last 1 w n a (record { append = None; memory = OfCoord m; frames = fs; notes = []; todo = [] }) w' n' refl steps;
  sound = sound;
  welcomes = each;
  plain = tt;
  calm = tt;
  downs = tt;
  harmless = tt;
}

greeted_fall : (f : Frame) (w : World) (n : Told) (a : Actor) (r : Record) (w' : World) (n' : Told) → Did 1 w n w' n' None a.records [] (note.Down 1 ∷ []) → Greeted f w n w' n'
greeted_fall f w n a r w' n' did = record { memory = None; records = a.records; frames = []; notes = note.Down 1 ∷ []; did = did; sound = tt; welcomes = tt; plain = tt; calm = tt; downs = tt; harmless = tt }

-- ---- it goes on

empty_queue : (m : Coord) (n : coordinators.Next) → m.queue ≡ [] → m.queue ≡ n.before ++ n.frame ∷ n.behind → ⊥
empty_queue m n none is = by n.before (sym none ∙ is)
  where
    by : (before : List Frame) → [] ≡ before ++ n.frame ∷ n.behind → ⊥
    by [] is = not_nil (sym is)
    by (f ∷ fs) is = not_nil (sym is)

proceeds : (f : Frame) (w : World) (n : Told) (a : Actor) (m : Coord) (w' : World) (n' : Told) → get w.actors 1 ≡ Some a → a.memory ≡ Some (OfCoord m) → IsCoordinator m a.records
    → m.site.fence ≡ f.fence → Steps 1 (Proceeds ∷ []) w n w' n' → Greeted f w n w' n'
proceeds f w n a m w' n' is up sound same steps = by (begun 1 Proceeds [] w n a w' n' is steps)
  where
    row : (z : Segment) → May (scene w 1) a Proceeds z → Proceeding a m z
    row z may = proceeds_row (scene w 1) a m z (coordinator_row (scene w 1) a m Proceeds z refl up may)

    none : (z : Segment) → Proceeding a m z → z.append ≡ None
    none z (Starts row) = absurd (empty_queue m row.next sound.queue row.is.is)
    none z (Welcomes row) = ap (λ (z : Segment). z.append) row.does
    none z (Rests row) = ap (λ (z : Segment). z.append) row.does

    ends : (z : Segment) → Proceeding a m z → Steps 1 (z.todo ++ []) (played w 1 a z) (told w z n) w' n' → Greeted f w n w' n'
    ends z (Starts row) steps = absurd (empty_queue m row.next sound.queue row.is.is)
    ends z (Welcomes row) steps = greeted_last f w n a (record m { owes = false }) (welcome m.site.fence ∷ []) w' n'
        (record { queue = sound.queue; kept = sound.kept; started = sound.started }) ((refl, refl, refl, same, refl, refl), tt)
        (subst (λ (z : Segment). Steps 1 (z.todo ++ []) (played w 1 a z) (told w z n) w' n') row.does steps)
    ends z (Rests row) steps = greeted_last f w n a m [] w' n' sound tt (subst (λ (z : Segment). Steps 1 (z.todo ++ []) (played w 1 a z) (told w z n) w' n') row.does steps)

    by : Begun 1 Proceeds [] w n a w' n' → Greeted f w n w' n'
    by (Does first) = ends first.segment (row first.segment first.may) first.behind
    by (Falls cut) = absurd (not_none (sym cut.append ∙ none cut.segment (row cut.segment cut.may)))
    by (Spends spent) = absurd (no_coordinator a.memory m spent.proxy up spent.up)

-- ---- a Hello is admitted

verdict_is : (m : Coord) (f : Frame) → f.«body» ≡ body.Hello → verdict for_coordinator None 0 m.site f ≡ (if nat_lt f.fence m.site.fence && true then OldFence else Answers)
unfolding verdict
verdict_is m f is = rw is refl

pub nothing_unfinished : (rs : List Record) → started_of rs ≡ [] → unfinished rs ≡ []
nothing_unfinished rs none = ap (still_going rs) none

greets_is : (a : Actor) (m : Coord) → started_of a.records ≡ [] → greets a m ≡ still (record m { owes = true }) (Proceeds ∷ [])
greets_is a m none = ap (λ ss. still (record m { owes = true }) (refusals (filter (is_outdated a.records m.site.fence) ss) ++ Proceeds ∷ [])) (nothing_unfinished a.records none)

admits_is : (a : Actor) (m : Coord) (f : Frame) → f.«body» ≡ body.Hello → started_of a.records ≡ []
    → admits a m f ≡ (if nat_lt f.fence m.site.fence && true then still m [] else still (record (heard_from f m) { owes = true }) (Proceeds ∷ []))
admits_is a m f is none = ap (by_verdict a m f) (verdict_is m f is) ∙ by (nat_lt f.fence m.site.fence && true)
  where
    by : (b : Bool) → by_verdict a m f (if b then OldFence else Answers) ≡ (if b then still m [] else still (record (heard_from f m) { owes = true }) (Proceeds ∷ []))
    by true = refl
    by false = ap (coordinators.done_for a (heard_from f m) f) is ∙ greets_is a (heard_from f m) none

sound_heard : (f : Frame) (m : Coord) (rs : List Record) → IsCoordinator m rs → IsCoordinator (record (heard_from f m) { owes = true }) rs
sound_heard f m rs sound = by (is_proxy f.from)
  where
    by : (b : Bool) → IsCoordinator (record (if b then record m { heard = true } else m) { owes = true }) rs
    by true = record { queue = sound.queue; kept = sound.kept; started = sound.started }
    by false = record { queue = sound.queue; kept = sound.kept; started = sound.started }

heard_fence : (f : Frame) (m : Coord) → (record (heard_from f m) { owes = true }).site.fence ≡ m.site.fence
heard_fence f m = by (is_proxy f.from)
  where
    by : (b : Bool) → (record (if b then record m { heard = true } else m) { owes = true }).site.fence ≡ m.site.fence
    by true = refl
    by false = refl

-- the segment for a Hello that isn't of a greater fence
admitted : (w : World) (n : Told) (a : Actor) (m : Coord) (f : Frame) (z : Segment) (w' : World) (n' : Told) → IsCoordinator m a.records → (b : Bool)
    → (b ≡ false → m.site.fence ≡ f.fence) → z ≡ (if b then still m [] else still (record (heard_from f m) { owes = true }) (Proceeds ∷ []))
    → Steps 1 (z.todo ++ []) (played w 1 a z) (told w z n) w' n' → Greeted f w n w' n'
admitted w n a m f z w' n' sound true same does steps = greeted_last f w n a m [] w' n' sound tt (subst (λ (z : Segment). Steps 1 (z.todo ++ []) (played w 1 a z) (told w z n) w' n') does steps)
admitted w n a m f z w' n' sound false same does steps =
    greeted_then f w n a seg w' n' refl refl (proceeds f (played w 1 a seg) (told w seg n) (after_segment a seg) (record (heard_from f m) { owes = true }) w' n'
    (has_put w.actors 1 (after_segment a seg)) refl (sound_heard f m a.records sound) (heard_fence f m ∙ same refl) (subst (λ (z : Segment). Steps 1 (z.todo ++ []) (played w 1 a z) (told w z n) w' n') does steps))
  where
    seg : Segment
    seg = still (record (heard_from f m) { owes = true }) (Proceeds ∷ [])

admitted_none : (m : Coord) (f : Frame) (z : Segment) (b : Bool) → z ≡ (if b then still m [] else still (record (heard_from f m) { owes = true }) (Proceeds ∷ [])) → z.append ≡ None
admitted_none m f z true does = ap (λ (z : Segment). z.append) does
admitted_none m f z false does = ap (λ (z : Segment). z.append) does

seen_sound : (f : Frame) (m : Coord) (rs : List Record) → IsCoordinator m rs → IsCoordinator (record m { site = seen f m.site }) rs
seen_sound f m rs sound = record { queue = sound.queue; kept = kept_seen (λ g. ⊥) f m.site sound.kept; started = sound.started }

seen_fence : (f : Frame) (s : Site) → (seen f s).fence ≡ s.fence
seen_fence f s = by (f.fence == s.fence)
  where
    by : (b : Bool) → (if b then lowered f.low s else s).fence ≡ s.fence
    by true = refl
    by false = refl

same_by : (a b c : ℕ) → c ≡ b → (nat_lt a c && true) ≡ false → nat_lt b a ≡ false → c ≡ a
same_by a b c same younger greater = grind (arith, nat_tests)

-- ---- a Hello is given

abbrev recorded : Coord → Frame → ℕ → Segment
recorded m f e = record {
  append = Some (OfLog (log.Fence f.fence));
  memory = OfCoord (record m { site = renewed f m.site; queue = []; owes = false });
  frames = [];
  notes = [];
  todo = Given f e ∷ [];
}

recorded_sound : (m : Coord) (f : Frame) (rs : List Record) → IsCoordinator m rs → IsCoordinator (record m { site = renewed f m.site; queue = []; owes = false }) (OfLog (log.Fence f.fence) ∷ rs)
unfolding started_of
recorded_sound m f rs sound = record { queue = refl; kept = kept_renewed (λ g. ⊥) f m.site; started = ap (λ ss. ss ++ []) sound.started }

module _ (w : World) (n : Told) (a : Actor) (m : Coord) (f : Frame) (e : ℕ) (w' : World) (n' : Told) (is : get w.actors 1 ≡ Some a) (up : a.memory ≡ Some (OfCoord m))
    (sound : IsCoordinator m a.records) (kind : f.«body» ≡ body.Hello) where
  row_for : (z : Segment) → May (scene w 1) a (Given f e) z → CoordinatorOnFrame a m f e z
  row_for z may = coordinator_given (scene w 1) a m f e z (coordinator_row (scene w 1) a m (Given f e) z refl up may)

  is_older : Bool
  is_older = nat_lt f.fence (seen f m.site).fence && true

  admits_so : (z : Segment) → coordinators.Admits a m f z → Steps 1 (z.todo ++ []) (played w 1 a z) (told w z n) w' n' → Greeted f w n w' n'
  unfolding is_older
  admits_so z row steps = admitted w n a (record m { site = seen f m.site }) f z w' n' (seen_sound f m a.records sound) is_older
      (λ younger. same_by f.fence m.site.fence (seen f m.site).fence (seen_fence f m.site) younger row.not_greater)
      (row.does ∙ admits_is a (record m { site = seen f m.site }) f kind sound.started) steps

  admits_none : (z : Segment) → coordinators.Admits a m f z → z.append ≡ None
  unfolding is_older
  admits_none z row = admitted_none (record m { site = seen f m.site }) f z is_older (row.does ∙ admits_is a (record m { site = seen f m.site }) f kind sound.started)

  -- of no greater fence
  given_same : (m.site.fence < f.fence → ⊥) → Steps 1 (Given f e ∷ []) w n w' n' → Greeted f w n w' n'
  given_same not_greater steps = by (begun 1 (Given f e) [] w n a w' n' is steps)
    where
      on_first : (z : Segment) → CoordinatorOnFrame a m f e z → Steps 1 (z.todo ++ []) (played w 1 a z) (told w z n) w' n' → Greeted f w n w' n'
      on_first z (CoordinatorRenews row) steps = absurd (not_greater row.greater)
      on_first z (CoordinatorAdmits row) steps = admits_so z row steps

      none : (z : Segment) → CoordinatorOnFrame a m f e z → z.append ≡ None
      none z (CoordinatorRenews row) = absurd (not_greater row.greater)
      none z (CoordinatorAdmits row) = admits_none z row

      by : Begun 1 (Given f e) [] w n a w' n' → Greeted f w n w' n'
      by (Does first) = on_first first.segment (row_for first.segment first.may) first.behind
      by (Falls cut) = absurd (not_none (sym cut.append ∙ none cut.segment (row_for cut.segment cut.may)))
      by (Spends spent) = absurd (no_coordinator a.memory m spent.proxy up spent.up)

not_itself : (k : ℕ) → k < k → ⊥
not_itself k less = omega arith

pub greets_so : (w : World) (n : Told) (a : Actor) (m : Coord) (f : Frame) (e : ℕ) (w' : World) (n' : Told) → get w.actors 1 ≡ Some a → a.memory ≡ Some (OfCoord m)
    → IsCoordinator m a.records → f.«body» ≡ body.Hello → Steps 1 (Given f e ∷ []) w n w' n' → Greeted f w n w' n'
greets_so w n a m f e w' n' is up sound kind steps = by (begun 1 (Given f e) [] w n a w' n' is steps)
  where
    renews : (z : Segment) → z ≡ recorded m f e → Steps 1 (z.todo ++ []) (played w 1 a z) (told w z n) w' n' → Greeted f w n w' n'
    renews z does steps =
        let seg = recorded m f e in
        greeted_then f w n a seg w' n' refl refl
        (given_same (played w 1 a seg) (told w seg n) (after_segment a seg) (record m { site = renewed f m.site; queue = []; owes = false }) f e w' n'
        (has_put w.actors 1 (after_segment a seg)) refl (recorded_sound m f a.records sound) kind (not_itself f.fence)
        (subst (λ (z : Segment). Steps 1 (z.todo ++ []) (played w 1 a z) (told w z n) w' n') does steps))

    on_first : (z : Segment) → CoordinatorOnFrame a m f e z → Steps 1 (z.todo ++ []) (played w 1 a z) (told w z n) w' n' → Greeted f w n w' n'
    on_first z (CoordinatorRenews row) steps = renews z row.does steps
    on_first z (CoordinatorAdmits row) steps = admits_so w n a m f e w' n' is up sound kind z row steps

    by : Begun 1 (Given f e) [] w n a w' n' → Greeted f w n w' n'
    by (Does first) = on_first first.segment (row_for w n a m f e w' n' is up sound kind first.segment first.may) first.behind
    by (Falls cut) = greeted_fall f w n a cut.cut w' n' (did_fall 1 w n a cut.cut w' n' cut.world cut.noted)
    by (Spends spent) = absurd (no_coordinator a.memory m spent.proxy up spent.up)
