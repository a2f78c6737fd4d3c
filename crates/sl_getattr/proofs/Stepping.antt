-- A step taken apart: its first segment, or how it ends before that.
use Rattle.std.proofs.Common.{◌≡◌, ℕ, ◌==◌, Bool, true, false, T, List, [], ◌∷◌, ◌++◌, Option, Some, None, refl, sym, ap, subst, ◌∙◌}
use Rattle.std.specs.FinMap.{get}
use Rattle.sl_frames.specs.Actors.{is_directory, is_data}
use Rattle.sl_frames.specs.declared.frame.Frame.{Frame}
use Rattle.sl_machine.specs.Records.{Record}
use Rattle.sl_machine.specs.Memory.{Site, Coord, Proxy, Store, Memory, Actor, OfProxy, OfCoord, OfSite, OfStore}
use Rattle.sl_machine.specs.World.{World, Task, Given, Opening, Segment, Scene, Told, scene, played, told, with_actor, cut_actor}
use Rattle.sl_machine.specs.Proxies.{ProxyRow, Uses, breaks}
use Rattle.sl_machine.specs.Coordinators.{CoordinatorRow}
use Rattle.sl_machine.specs.Directories.{DirectoryRow}
use Rattle.sl_machine.specs.Runs.{May, ByProxy, ByCoordinator, ByDirectory, ByStore, ByOpenedProxy, ByOpenedCoordinator, ByOpenedDirectory, ByOpenedStore, Plays, Ends, Whole, Faulted, IsSpent, Steps, down_told, is_up}

-- ---- small facts

first_or : Task → List Task → Task
first_or t [] = t
first_or t (u ∷ others) = u

rest_of : List Task → List Task
rest_of [] = []
rest_of (u ∷ others) = others

is_nil : {A : Type 0} → List A → Bool
is_nil [] = true
is_nil (x ∷ xs) = false

pub not_nil : {A : Type 0} {x : A} {xs : List A} → x ∷ xs ≡ [] → ⊥
unfolding is_nil
not_nil is = subst (λ l. T (is_nil l)) (sym is) tt

is_none : {A : Type 0} → Option A → Bool
is_none None = true
is_none (Some x) = false

pub not_none : {A : Type 0} {x : A} → Some x ≡ None → ⊥
unfolding is_none
not_none is = subst (λ o. T (is_none o)) (sym is) tt

some_or : {A : Type 0} → A → Option A → A
some_or x None = x
some_or x (Some y) = y

pub same_some : {A : Type 0} {x y : A} → Some x ≡ Some y → x ≡ y
unfolding some_or
same_some {A} {x} {y} is = ap (some_or x) is

pub not_both : {b : Bool} → b ≡ true → b ≡ false → ⊥
not_both holds fails = subst (λ b. T b) (sym holds ∙ fails) tt

-- ---- the first segment

-- the actor does this segment first
pub record First (i : ℕ) (t : Task) (rest : List Task) (w : World) (n : Told) (a : Actor) (w' : World) (n' : Told) : Type 0 where
  pub segment : Segment
  pub may : May (scene w i) a t segment
  pub behind : Steps i (segment.todo ++ rest) (played w i a segment) (told w segment n) w' n'

-- the append of that segment is cut
pub record FirstCut (i : ℕ) (t : Task) (w : World) (n : Told) (a : Actor) (w' : World) (n' : Told) : Type 0 where
  pub segment : Segment
  pub may : May (scene w i) a t segment
  pub cut : Record
  pub append : segment.append ≡ Some cut
  pub world : w' ≡ with_actor w i (cut_actor a cut)
  pub noted : n' ≡ down_told i n

-- the proxy's fences are spent
pub record FirstSpent (i : ℕ) (t : Task) (a : Actor) : Type 0 where
  pub here : i ≡ 0
  pub frame : Frame
  pub event : ℕ
  pub is : t ≡ Given frame event
  pub proxy : Proxy
  pub up : a.memory ≡ Some (OfProxy proxy)
  pub uses : Uses proxy frame
  pub broken : breaks proxy frame ≡ true

pub data Begun (i : ℕ) (t : Task) (rest : List Task) (w : World) (n : Told) (a : Actor) (w' : World) (n' : Told) : Type 0 where
  Does : First i t rest w n a w' n' → Begun i t rest w n a w' n'
  Falls : FirstCut i t w n a w' n' → Begun i t rest w n a w' n'
  Spends : FirstSpent i t a → Begun i t rest w n a w' n'

by_end : (i : ℕ) (t : Task) (rest : List Task) (w : World) (n : Told) (a : Actor) (w' : World) (n' : Told) → get w.actors i ≡ Some a
    → Ends i (t ∷ rest) w n w' n' → Begun i t rest w n a w' n'
unfolding first_or
by_end i t rest w n a w' n' is (Whole none world noted) = absurd (not_nil none)
by_end i t rest w n a w' n' is (Faulted cut) = Falls (record {
  segment = cut.segment;
  may = subst (λ u. May (scene w i) u t cut.segment) (same_some (sym cut.is ∙ is)) (subst (λ u. May (scene w i) cut.actor u cut.segment) (sym (ap (first_or Opening) cut.next)) cut.may);
  cut = cut.cut;
  append = cut.append;
  world = cut.world ∙ ap (λ u. with_actor w i (cut_actor u cut.cut)) (same_some (sym cut.is ∙ is));
  noted = cut.noted;
})
by_end i t rest w n a w' n' is (IsSpent spent) = Spends (record {
  here = spent.proxy_is;
  frame = spent.frame;
  event = spent.event;
  is = ap (first_or Opening) spent.next;
  proxy = spent.proxy;
  up = subst (λ (u : Actor). u.memory ≡ Some (OfProxy spent.proxy)) (same_some (sym spent.is ∙ is)) spent.up;
  uses = spent.uses;
  broken = spent.broken;
})

by_segments : (i : ℕ) (t : Task) (rest : List Task) (w : World) (n : Told) (a : Actor) (w' : World) (n' : Told) → get w.actors i ≡ Some a
    → (ss : List Segment) (left : List Task) (v : World) (m : Told) → Plays i (t ∷ rest) w n ss left v m → Ends i left v m w' n' → Begun i t rest w n a w' n'
by_segments i t rest w n a w' n' is [] left v m plays ends =
    by_end i t rest w n a w' n' is
    (subst (λ u. Ends i (t ∷ rest) w u w' n') plays.2 (subst (λ u. Ends i (t ∷ rest) u m w' n') plays.1 (subst (λ u. Ends i u v m w' n') plays.0 ends)))
by_segments i t rest w n a w' n' is (s ∷ ss) left v m plays ends =
    let same = same_some (sym plays.1 ∙ is) in
    Does (record {
      segment = s;
      may = subst (λ u. May (scene w i) u t s) same plays.2;
      behind = record {
        segments = ss;
        left = left;
        middle = v;
        so_far = m;
        plays = subst (λ u. Plays i (s.todo ++ rest) (played w i u s) (told w s n) ss left v m) same plays.3;
        ends = ends;
      };
    })

pub begun : (i : ℕ) (t : Task) (rest : List Task) (w : World) (n : Told) (a : Actor) (w' : World) (n' : Told) → get w.actors i ≡ Some a
    → Steps i (t ∷ rest) w n w' n' → Begun i t rest w n a w' n'
begun i t rest w n a w' n' is steps = by_segments i t rest w n a w' n' is steps.segments steps.left steps.middle steps.so_far steps.plays steps.ends

-- ---- nothing is left to do

over_end : (i : ℕ) (w : World) (n : Told) (w' : World) (n' : Told) → Ends i [] w n w' n' → (w' ≡ w) × (n' ≡ n)
over_end i w n w' n' (Whole none world noted) = (world, noted)
over_end i w n w' n' (Faulted cut) = absurd (not_nil (sym cut.next))
over_end i w n w' n' (IsSpent spent) = absurd (not_nil (sym spent.next))

over_by : (i : ℕ) (w : World) (n : Told) (w' : World) (n' : Told) (ss : List Segment) (left : List Task) (v : World) (m : Told) → Plays i [] w n ss left v m → Ends i left v m w' n'
    → (w' ≡ w) × (n' ≡ n)
over_by i w n w' n' [] left v m plays ends =
    over_end i w n w' n' (subst (λ u. Ends i [] w u w' n') plays.2 (subst (λ u. Ends i [] u m w' n') plays.1 (subst (λ u. Ends i u v m w' n') plays.0 ends)))
over_by i w n w' n' (s ∷ ss) left v m plays ends = absurd plays

pub over : (i : ℕ) (w : World) (n : Told) (w' : World) (n' : Told) → Steps i [] w n w' n' → (w' ≡ w) × (n' ≡ n)
over i w n w' n' steps = over_by i w n w' n' steps.segments steps.left steps.middle steps.so_far steps.plays steps.ends

-- ---- each class of actors has its own rows

proxy_or : Proxy → Option Memory → Proxy
proxy_or p (Some (OfProxy q)) = q
proxy_or p other = p

coord_or : Coord → Option Memory → Coord
coord_or m (Some (OfCoord q)) = q
coord_or m other = m

site_or : Site → Option Memory → Site
site_or m (Some (OfSite q)) = q
site_or m other = m

pub same_proxy : (p q : Proxy) → Some (OfProxy p) ≡ Some (OfProxy q) → p ≡ q
unfolding proxy_or
same_proxy p q is = ap (proxy_or p) is

pub same_coord : (p q : Coord) → Some (OfCoord p) ≡ Some (OfCoord q) → p ≡ q
unfolding coord_or
same_coord p q is = ap (coord_or p) is

pub same_site : (p q : Site) → Some (OfSite p) ≡ Some (OfSite q) → p ≡ q
unfolding site_or
same_site p q is = ap (site_or p) is

pub proxy_row : (x : Scene) (a : Actor) (p : Proxy) (t : Task) (s : Segment) → x.actor ≡ 0 → a.memory ≡ Some (OfProxy p) → May x a t s → ProxyRow x p t s
proxy_row x a p t s here up (ByProxy q is memory row) = subst (λ u. ProxyRow x u t s) (same_proxy q p (sym memory ∙ up)) row
proxy_row x a p t s here up (ByCoordinator m is memory row) = absurd (not_both (ap (λ i. i == 1) is) (ap (λ i. i == 1) here))
proxy_row x a p t s here up (ByDirectory m is memory row) = absurd (not_both is (ap is_directory here))
proxy_row x a p t s here up (ByStore m is memory row) = absurd (not_both is (ap is_data here))
proxy_row x a p t s here up (ByOpenedProxy is down task opens) = absurd (not_none (sym up ∙ down))
proxy_row x a p t s here up (ByOpenedCoordinator is down task opens) = absurd (not_none (sym up ∙ down))
proxy_row x a p t s here up (ByOpenedDirectory is down task opens) = absurd (not_none (sym up ∙ down))
proxy_row x a p t s here up (ByOpenedStore is down task opens) = absurd (not_none (sym up ∙ down))

pub coordinator_row : (x : Scene) (a : Actor) (m : Coord) (t : Task) (s : Segment) → x.actor ≡ 1 → a.memory ≡ Some (OfCoord m) → May x a t s → CoordinatorRow x a m t s
coordinator_row x a m t s here up (ByProxy q is memory row) = absurd (not_both (ap (λ i. i == 0) is) (ap (λ i. i == 0) here))
coordinator_row x a m t s here up (ByCoordinator q is memory row) = subst (λ u. CoordinatorRow x a u t s) (same_coord q m (sym memory ∙ up)) row
coordinator_row x a m t s here up (ByDirectory q is memory row) = absurd (not_both is (ap is_directory here))
coordinator_row x a m t s here up (ByStore q is memory row) = absurd (not_both is (ap is_data here))
coordinator_row x a m t s here up (ByOpenedProxy is down task opens) = absurd (not_none (sym up ∙ down))
coordinator_row x a m t s here up (ByOpenedCoordinator is down task opens) = absurd (not_none (sym up ∙ down))
coordinator_row x a m t s here up (ByOpenedDirectory is down task opens) = absurd (not_none (sym up ∙ down))
coordinator_row x a m t s here up (ByOpenedStore is down task opens) = absurd (not_none (sym up ∙ down))

pub directory_row : (x : Scene) (a : Actor) (m : Site) (t : Task) (s : Segment) → x.actor ≡ 16 → a.memory ≡ Some (OfSite m) → May x a t s → DirectoryRow x a m t s
directory_row x a m t s here up (ByProxy q is memory row) = absurd (not_both (ap (λ i. i == 0) is) (ap (λ i. i == 0) here))
directory_row x a m t s here up (ByCoordinator q is memory row) = absurd (not_both (ap (λ i. i == 1) is) (ap (λ i. i == 1) here))
directory_row x a m t s here up (ByDirectory q is memory row) = subst (λ u. DirectoryRow x a u t s) (same_site q m (sym memory ∙ up)) row
directory_row x a m t s here up (ByStore q is memory row) = absurd (not_both is (ap is_data here))
directory_row x a m t s here up (ByOpenedProxy is down task opens) = absurd (not_none (sym up ∙ down))
directory_row x a m t s here up (ByOpenedCoordinator is down task opens) = absurd (not_none (sym up ∙ down))
directory_row x a m t s here up (ByOpenedDirectory is down task opens) = absurd (not_none (sym up ∙ down))
directory_row x a m t s here up (ByOpenedStore is down task opens) = absurd (not_none (sym up ∙ down))

-- ---- classes are apart

is_proxy_memory : Option Memory → Bool
is_proxy_memory (Some (OfProxy p)) = true
is_proxy_memory other = false

pub no_coordinator : (o : Option Memory) (m : Coord) (p : Proxy) → o ≡ Some (OfCoord m) → o ≡ Some (OfProxy p) → ⊥
unfolding is_proxy_memory
no_coordinator o m p is other = not_both (ap is_proxy_memory other) (ap is_proxy_memory is)

pub no_directory : (o : Option Memory) (m : Site) (p : Proxy) → o ≡ Some (OfSite m) → o ≡ Some (OfProxy p) → ⊥
unfolding is_proxy_memory
no_directory o m p is other = not_both (ap is_proxy_memory other) (ap is_proxy_memory is)

is_site_memory : Option Memory → Bool
is_site_memory (Some (OfSite m)) = true
is_site_memory other = false

no_store : (o : Option Memory) (m : Site) (q : Store) → o ≡ Some (OfSite m) → o ≡ Some (OfStore q) → ⊥
unfolding is_site_memory
no_store o m q is other = not_both (ap is_site_memory is) (ap is_site_memory other)

-- of any directory server
pub any_directory_row : (x : Scene) (a : Actor) (m : Site) (t : Task) (s : Segment) → is_directory x.actor ≡ true → a.memory ≡ Some (OfSite m) → May x a t s → DirectoryRow x a m t s
any_directory_row x a m t s here up (ByProxy q is memory row) = absurd (not_both here (ap is_directory is))
any_directory_row x a m t s here up (ByCoordinator q is memory row) = absurd (not_both here (ap is_directory is))
any_directory_row x a m t s here up (ByDirectory q is memory row) = subst (λ u. DirectoryRow x a u t s) (same_site q m (sym memory ∙ up)) row
any_directory_row x a m t s here up (ByStore q is memory row) = absurd (no_store a.memory m q up memory)
any_directory_row x a m t s here up (ByOpenedProxy is down task opens) = absurd (not_none (sym up ∙ down))
any_directory_row x a m t s here up (ByOpenedCoordinator is down task opens) = absurd (not_none (sym up ∙ down))
any_directory_row x a m t s here up (ByOpenedDirectory is down task opens) = absurd (not_none (sym up ∙ down))
any_directory_row x a m t s here up (ByOpenedStore is down task opens) = absurd (not_none (sym up ∙ down))

-- ---- what an actor that does something has for a memory

pub record HasProxy (a : Actor) : Type 0 where
  pub proxy : Proxy
  pub up : a.memory ≡ Some (OfProxy proxy)

pub record HasCoordinator (a : Actor) : Type 0 where
  pub coordinator : Coord
  pub up : a.memory ≡ Some (OfCoord coordinator)

pub record HasSite (a : Actor) : Type 0 where
  pub site : Site
  pub up : a.memory ≡ Some (OfSite site)

acts_as_proxy : (x : Scene) (a : Actor) (t : Task) (s : Segment) → x.actor ≡ 0 → (t ≡ Opening → ⊥) → May x a t s → HasProxy a
acts_as_proxy x a t s here opened (ByProxy q is memory row) = record { proxy = q; up = memory }
acts_as_proxy x a t s here opened (ByCoordinator m is memory row) = absurd (not_both (ap (λ i. i == 1) is) (ap (λ i. i == 1) here))
acts_as_proxy x a t s here opened (ByDirectory m is memory row) = absurd (not_both is (ap is_directory here))
acts_as_proxy x a t s here opened (ByStore m is memory row) = absurd (not_both is (ap is_data here))
acts_as_proxy x a t s here opened (ByOpenedProxy is down task opens) = absurd (opened task)
acts_as_proxy x a t s here opened (ByOpenedCoordinator is down task opens) = absurd (opened task)
acts_as_proxy x a t s here opened (ByOpenedDirectory is down task opens) = absurd (opened task)
acts_as_proxy x a t s here opened (ByOpenedStore is down task opens) = absurd (opened task)

acts_as_coordinator : (x : Scene) (a : Actor) (t : Task) (s : Segment) → x.actor ≡ 1 → (t ≡ Opening → ⊥) → May x a t s → HasCoordinator a
acts_as_coordinator x a t s here opened (ByProxy q is memory row) = absurd (not_both (ap (λ i. i == 0) is) (ap (λ i. i == 0) here))
acts_as_coordinator x a t s here opened (ByCoordinator m is memory row) = record { coordinator = m; up = memory }
acts_as_coordinator x a t s here opened (ByDirectory m is memory row) = absurd (not_both is (ap is_directory here))
acts_as_coordinator x a t s here opened (ByStore m is memory row) = absurd (not_both is (ap is_data here))
acts_as_coordinator x a t s here opened (ByOpenedProxy is down task opens) = absurd (opened task)
acts_as_coordinator x a t s here opened (ByOpenedCoordinator is down task opens) = absurd (opened task)
acts_as_coordinator x a t s here opened (ByOpenedDirectory is down task opens) = absurd (opened task)
acts_as_coordinator x a t s here opened (ByOpenedStore is down task opens) = absurd (opened task)

acts_as_directory : (x : Scene) (a : Actor) (t : Task) (s : Segment) → x.actor ≡ 16 → (t ≡ Opening → ⊥) → May x a t s → HasSite a
acts_as_directory x a t s here opened (ByProxy q is memory row) = absurd (not_both (ap (λ i. i == 0) is) (ap (λ i. i == 0) here))
acts_as_directory x a t s here opened (ByCoordinator m is memory row) = absurd (not_both (ap (λ i. i == 1) is) (ap (λ i. i == 1) here))
acts_as_directory x a t s here opened (ByDirectory m is memory row) = record { site = m; up = memory }
acts_as_directory x a t s here opened (ByStore m is memory row) = absurd (not_both is (ap is_data here))
acts_as_directory x a t s here opened (ByOpenedProxy is down task opens) = absurd (opened task)
acts_as_directory x a t s here opened (ByOpenedCoordinator is down task opens) = absurd (opened task)
acts_as_directory x a t s here opened (ByOpenedDirectory is down task opens) = absurd (opened task)
acts_as_directory x a t s here opened (ByOpenedStore is down task opens) = absurd (opened task)

pub proxy_acts : (t : Task) (rest : List Task) (w : World) (n : Told) (a : Actor) (w' : World) (n' : Told) → (t ≡ Opening → ⊥) → get w.actors 0 ≡ Some a → Steps 0 (t ∷ rest) w n w' n' → HasProxy a
proxy_acts t rest w n a w' n' opened is steps = by (begun 0 t rest w n a w' n' is steps)
  where
    by : Begun 0 t rest w n a w' n' → HasProxy a
    by (Does first) = acts_as_proxy (scene w 0) a t first.segment refl opened first.may
    by (Falls cut) = acts_as_proxy (scene w 0) a t cut.segment refl opened cut.may
    by (Spends spent) = record { proxy = spent.proxy; up = spent.up }

pub coordinator_acts : (t : Task) (rest : List Task) (w : World) (n : Told) (a : Actor) (w' : World) (n' : Told) → (t ≡ Opening → ⊥) → get w.actors 1 ≡ Some a → Steps 1 (t ∷ rest) w n w' n'
    → HasCoordinator a
coordinator_acts t rest w n a w' n' opened is steps = by (begun 1 t rest w n a w' n' is steps)
  where
    by : Begun 1 t rest w n a w' n' → HasCoordinator a
    by (Does first) = acts_as_coordinator (scene w 1) a t first.segment refl opened first.may
    by (Falls cut) = acts_as_coordinator (scene w 1) a t cut.segment refl opened cut.may
    by (Spends spent) = absurd (not_both (ap (λ i. i == 0) spent.here) refl)

pub directory_acts : (t : Task) (rest : List Task) (w : World) (n : Told) (a : Actor) (w' : World) (n' : Told) → (t ≡ Opening → ⊥) → get w.actors 16 ≡ Some a → Steps 16 (t ∷ rest) w n w' n'
    → HasSite a
directory_acts t rest w n a w' n' opened is steps = by (begun 16 t rest w n a w' n' is steps)
  where
    by : Begun 16 t rest w n a w' n' → HasSite a
    by (Does first) = acts_as_directory (scene w 16) a t first.segment refl opened first.may
    by (Falls cut) = acts_as_directory (scene w 16) a t cut.segment refl opened cut.may
    by (Spends spent) = absurd (not_both (ap (λ i. i == 0) spent.here) refl)

-- an actor that is up is there
pub record IsThere (o : Option Actor) : Type 0 where
  pub actor : Actor
  pub is : o ≡ Some actor

pub there_if_up : (o : Option Actor) → is_up o ≡ true → IsThere o
there_if_up None up = absurd (not_both up refl)
there_if_up (Some a) up = record { actor = a; is = refl }
