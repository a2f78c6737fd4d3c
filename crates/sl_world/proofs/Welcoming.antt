-- The coordinator's steps for a Hello are those of the machine.
use Rattle.std.proofs.Common.{◌≡◌, ℕ, ◌<◌, ◌||◌, Bool, true, false, T, List, [], ◌∷◌, ◌++◌, Some, Ok, refl, ap, subst, sym, ◌∙◌, nat_lt, max, if◌then◌else◌}
use Rattle.sl_records.specs.declared.coordinator.LogEntry.TheVariants as log
use Rattle.sl_frames.specs.Actors.{is_proxy}
use Rattle.sl_frames.specs.declared.frame.Frame.{Frame}
use Rattle.sl_frames.specs.declared.body.Body.TheVariants as body
use Rattle.sl_machine.specs.Records.{Record, OfLog, started_of, unfinished}
use Rattle.sl_machine.specs.Memory.{Site, Coord, Actor, OfCoord}
use Rattle.sl_machine.specs.World.{Scene, Given, Proceeds, Segment, sends, after_segment}
use Rattle.sl_machine.specs.Verdicts.{verdict, seen}
use Rattle.sl_machine.specs.Coordinators.{NoneStarts, admits, heard_from, still, welcome}
use Rattle.sl_machine.specs.Coordinators as coordinator
use Rattle.sl_machine.specs.Runs.{ByCoordinator}
use Rattle.sl_world.specs.Acting.{IsStep, later}
use Rattle.sl_world.specs.Sites.{bare, seen_by}
use Rattle.sl_world.proofs.Seeing.{seen_is, unseen}
use Rattle.sl_world.proofs.Numbers.{not_less, twice, not_greater, same_by, less_by}
use Rattle.sl_world.specs.Coordinating.{held, NoOperation, greeted, greeting, GivesStep}
use Rattle.sl_world.specs.declared.step.Step.{Step}
use Rattle.sl_world.specs.declared.coordinator.Coordinator.{Coordinator}

-- ---- an empty queue

is_nil : {A : Type 0} → List A → Bool
is_nil [] = true
is_nil (x ∷ xs) = false

nothing_inside : {A : Type 0} (before : List A) (x : A) (behind : List A) → [] ≡ before ++ x ∷ behind → ⊥
unfolding is_nil
nothing_inside [] x behind e = subst (λ l. T (is_nil l)) e tt
nothing_inside (b ∷ before) x behind e = subst (λ l. T (is_nil l)) e tt

pub nothing_waits : NoneStarts [] []
nothing_waits n is = nothing_inside n.before n.frame n.behind is.is

-- ---- what it holds

-- a coordinator without intents
abbrev idle : Site → Bool → Bool → Coord
idle s owes heard = record { site = s; queue = []; granted = []; acknowledged = []; owes = owes; heard = heard }

heard_by : (b : Bool) (s : Site) (heard : Bool) → (if b then idle s false true else idle s false heard) ≡ idle s false (b || heard)
heard_by true s heard = refl
heard_by false s heard = refl

no_unfinished : (rs : List Record) → NoOperation rs → unfinished rs ≡ []
no_unfinished rs none = rw none refl

-- ---- a Hello of its own fence

greets : Coord → Segment
greets m = still (record m { owes = true }) (Proceeds ∷ [])

welcomes : Coord → Segment
welcomes m = sends (OfCoord (record m { owes = false })) (welcome m.site.fence) []

admits_hello : (a : Actor) (m : Coord) (f : Frame) → f.«body» ≡ body.Hello → nat_lt f.fence m.site.fence ≡ false → NoOperation a.records
    → admits a m f ≡ greets (heard_from f m)
unfolding verdict greets
admits_hello a m f hello young none = rw (hello, young, none) refl

abbrev before : Frame → ℕ → Bool → Coord
before f low heard = idle (bare f.fence low) false heard

abbrev behind : Frame → ℕ → Bool → Coord
behind f low heard = idle (bare f.fence (max low f.low)) false (is_proxy f.from || heard)

greets_so : (a : Actor) (f : Frame) (low : ℕ) (heard : Bool) → f.«body» ≡ body.Hello → NoOperation a.records
    → greets (behind f low heard) ≡ admits a (record (before f low heard) { site = seen f (bare f.fence low) }) f
greets_so a f low heard hello none =
    sym (ap (λ s. admits a (idle s false heard) f) (seen_is f low) ∙ admits_hello a (idle (bare f.fence (max low f.low)) false heard) f hello (not_less f.fence) none
    ∙ ap greets (heard_by (is_proxy f.from) (bare f.fence (max low f.low)) heard))

same_fence : (x : Scene) (a : Actor) (f : Frame) (e low : ℕ) (heard : Bool) → x.actor ≡ 1 → a.memory ≡ Some (OfCoord (before f low heard)) → NoOperation a.records
    → f.«body» ≡ body.Hello → IsStep x a (Given f e) (welcome f.fence ∷ []) [] (OfCoord (behind f low heard)) NoOperation
unfolding greets welcomes
same_fence x a f e low heard is memory none hello = record {
  segments = greets (behind f low heard) ∷ welcomes (idle (bare f.fence (max low f.low)) true (is_proxy f.from || heard)) ∷ [];
  after = _;
  acts = (
    ByCoordinator (before f low heard) is memory (coordinator.IsAdmitted f e refl (record { not_greater = not_less f.fence; does = greets_so a f low heard hello none })),
    (
      ByCoordinator _ is refl (coordinator.IsWelcomed refl (record { owed = refl; idle = no_unfinished a.records none; none = nothing_waits; does = refl })),
      refl,
    ),
  );
  sends = refl;
  remarks = refl;
  memory = refl;
  keeps = none;
}

-- ---- a Hello of a greater fence

-- the fence is recorded
renews : Frame → ℕ → Bool → Segment
renews f e heard = record { append = Some (OfLog (log.Fence f.fence)); memory = OfCoord (before f f.low heard); frames = []; notes = []; todo = Given f e ∷ [] }

still_none : (r : ℕ) (rs : List Record) → NoOperation rs → NoOperation (OfLog (log.Fence r) ∷ rs)
unfolding started_of
still_none r rs none = rw none refl

-- what follows a segment is a step together with it
after_renewal : (x : Scene) (a : Actor) (c : Coordinator) (f : Frame) (e : ℕ) → x.actor ≡ 1 → a.memory ≡ Some (OfCoord (held c)) → c.site.fence < f.fence
    → IsStep (later x (renews f e c.heard)) (after_segment a (renews f e c.heard)) (Given f e) (welcome f.fence ∷ []) [] (OfCoord (behind f f.low c.heard)) NoOperation
    → IsStep x a (Given f e) (welcome f.fence ∷ []) [] (OfCoord (idle (bare f.fence f.low) false (is_proxy f.from || c.heard))) NoOperation
unfolding renews
after_renewal x a c f e is memory greater step = record {
  segments = renews f e c.heard ∷ step.segments;
  after = step.after;
  acts = (ByCoordinator (held c) is memory (coordinator.IsRenewed f e refl (record { greater = greater; does = refl })), step.acts);
  sends = step.sends;
  remarks = step.remarks;
  memory = step.memory ∙ ap (λ low. Some (OfCoord (idle (bare f.fence low) false (is_proxy f.from || c.heard)))) (twice f.low);
  keeps = step.keeps;
}

greater_fence : (x : Scene) (a : Actor) (c : Coordinator) (f : Frame) (e : ℕ) → x.actor ≡ 1 → a.memory ≡ Some (OfCoord (held c)) → NoOperation a.records
    → f.«body» ≡ body.Hello → c.site.fence < f.fence → IsStep x a (Given f e) (welcome f.fence ∷ []) [] (OfCoord (idle (bare f.fence f.low) false (is_proxy f.from || c.heard))) NoOperation
unfolding renews
greater_fence x a c f e is memory none hello greater =
    after_renewal x a c f e is memory greater
    (same_fence (later x (renews f e c.heard)) (after_segment a (renews f e c.heard)) f e f.low c.heard is refl (still_none f.fence a.records none) hello)

-- ---- a Hello of an older fence

passes_over : (a : Actor) (m : Coord) (f : Frame) → f.«body» ≡ body.Hello → nat_lt f.fence m.site.fence ≡ true → admits a m f ≡ still m []
unfolding verdict
passes_over a m f hello older = rw (hello, older) refl

older_fence : (x : Scene) (a : Actor) (c : Coordinator) (f : Frame) (e : ℕ) → x.actor ≡ 1 → a.memory ≡ Some (OfCoord (held c)) → NoOperation a.records
    → f.«body» ≡ body.Hello → nat_lt f.fence c.site.fence ≡ true → IsStep x a (Given f e) [] [] (OfCoord (held c)) NoOperation
older_fence x a c f e is memory none hello older = record {
  segments = still (held c) [] ∷ [];
  after = _;
  acts = (
    ByCoordinator (held c) is memory (coordinator.IsAdmitted f e refl (record {
      not_greater = not_greater f.fence c.site.fence older;
      does = sym (ap (λ s. admits a (record (held c) { site = s }) f) (unseen f (held c).site older) ∙ passes_over a (held c) f hello older);
    })),
    refl,
  );
  sends = refl;
  remarks = refl;
  memory = refl;
  keeps = none;
}

-- ---- a Hello

not_older : (x : Scene) (a : Actor) (c : Coordinator) (f : Frame) (e : ℕ) (greater : Bool) → nat_lt c.site.fence f.fence ≡ greater → nat_lt f.fence c.site.fence ≡ false
    → x.actor ≡ 1 → a.memory ≡ Some (OfCoord (held c)) → NoOperation a.records → f.«body» ≡ body.Hello
    → IsStep x a (Given f e) (welcome f.fence ∷ []) [] (OfCoord (idle (bare f.fence (if greater then f.low else max c.site.low f.low)) false (is_proxy f.from || c.heard))) NoOperation
not_older x a c f e true g o is memory none hello = greater_fence x a c f e is memory none hello (less_by c.site.fence f.fence g)
not_older x a c f e false g o is memory none hello =
    same_fence x a f e c.site.low c.heard is (memory ∙ ap (λ fence. Some (OfCoord (idle (bare fence c.site.low) false c.heard))) (same_by f.fence c.site.fence o g)) none hello

by_age : (x : Scene) (a : Actor) (c : Coordinator) (f : Frame) (e : ℕ) (older : Bool) → nat_lt f.fence c.site.fence ≡ older
    → x.actor ≡ 1 → a.memory ≡ Some (OfCoord (held c)) → NoOperation a.records → f.«body» ≡ body.Hello
    → IsStep x a (Given f e) (if older then [] else welcome f.fence ∷ []) [] (OfCoord (held (if older then c else record { site = seen_by c.site f; heard = is_proxy f.from || c.heard }))) NoOperation
by_age x a c f e true o is memory none hello = older_fence x a c f e is memory none hello o
by_age x a c f e false o is memory none hello = not_older x a c f e (nat_lt c.site.fence f.fence) refl o is memory none hello

-- what it does for a Hello is a step that the machine says
pub hears_hello : (c : Coordinator) (f : Frame) → f.«body» ≡ body.Hello → (x : Scene) (a : Actor) (e : ℕ) → x.actor ≡ 1 → a.memory ≡ Some (OfCoord (held c)) → NoOperation a.records
    → IsStep x a (Given f e) (greeting c f) [] (OfCoord (held (greeted c f))) NoOperation
hears_hello c f hello x a e is memory none = by_age x a c f e (nat_lt f.fence c.site.fence) refl is memory none hello

pub gives_step : (c new : Coordinator) (f : Frame) (step : Step) → f.«body» ≡ body.Hello → step.frames ≡ greeting c f → step.notes ≡ [] → new ≡ greeted c f → GivesStep c new f (Ok step)
gives_step c new f step hello sent noted is_now x a e is memory none = rw (sent, noted, is_now) (hears_hello c f hello x a e is memory none)
