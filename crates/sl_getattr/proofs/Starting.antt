-- The opening of a new volume.
use Rattle.std.proofs.Common.{◌≡◌, ℕ, ◌+◌, ◌*◌, ◌^◌, ◌%◌, ◌==◌, ◌<◌, ◌≤◌, ◌&&◌, ◌||◌, inl, inr, Bool, true, false, not, T, List, [], ◌∷◌, ◌++◌, map, Option, Some, None, refl, sym, ap, subst, ◌∙◌, cond, arith}
use Rattle.std.specs.Prelude.{nat_lt}
use Rattle.std.proofs.lemmas.List.{append-nil}
use Rattle.std.proofs.lemmas.Bool.Decides.{nat_tests}
use Rattle.std.specs.declared.cmp.Ordering.{Ordering}
use Rattle.std.specs.declared.cmp.Ordering.TheVariants.{Less, Equal, Greater}
use Rattle.std.specs.Ordering.{nat_cmp, eq_by_cmp, is_lt, is_eq}
use Rattle.std.specs.FinMap.{get, empty, entries, entries_sorted}
use Rattle.std.specs.FinMap.Entries.{is_sorted, below_all}
use Rattle.sl_defs.specs.declared.setup.Setup.{Setup}
use Rattle.sl_route.specs.declared.class.Class.TheVariants as class
use Rattle.sl_records.specs.declared.directory.DirRecord.TheVariants as dir
use Rattle.sl_frames.specs.Actors.{is_directory}
use Rattle.sl_frames.specs.declared.frame.Frame.{Frame}
use Rattle.sl_frames.specs.declared.body.Body.TheVariants as body
use Rattle.sl_history.specs.Turns.{Remark}
use Rattle.sl_history.specs.Turns as note
use Rattle.sl_history.specs.Placing.{carrier}
use Rattle.sl_history.specs.Frames.{last_among, hello_fence}
use Rattle.sl_machine.specs.Records.{starts_of, Record, OfDir, cells_of, locked_in, started_of, root_cell, has_root}
use Rattle.sl_machine.specs.Memory.{Site, Coord, Proxy, Memory, Actor, OfProxy, OfCoord, OfSite, OfStore, no_soft}
use Rattle.sl_machine.specs.World.{World, Opening, Founds, Segment, Told, nothing, scene, played, told, after_segment, appended, with_actor, quiet, numbered}
use Rattle.sl_machine.specs.Proxies.{hello}
use Rattle.sl_machine.specs.Proxies as proxies
use Rattle.sl_machine.specs.Stores as stores
use Rattle.sl_machine.specs.Directories as directories
use Rattle.sl_machine.specs.Openings.{Found, WithoutLimbo, WithLimbo, settled, last_notes, RestoredSite, RestoredCoord}
use Rattle.sl_machine.specs.Runs.{May, ByProxy, ByCoordinator, ByDirectory, ByStore, ByOpenedProxy, ByOpenedCoordinator, ByOpenedDirectory, ByOpenedStore, OpensDirectory, OpensCoordinator, Steps, Begins, FailsToOpen, Starts, StartsEach, opened_actor, done_by, with_notes, noted_of, actors_of}
use Rattle.sl_transport.proofs.Proper.{Each}
use Rattle.sl_transport.proofs.Opening.{Has, AreDistinct}
use Rattle.sl_transport.proofs.Stepping.{same_key, put_else}
use Rattle.sl_getattr.specs.Built.{IsBlank}
use Rattle.sl_getattr.proofs.Stepping.{Begun, Does, Falls, Spends, begun, same_some, same_proxy, not_none, not_both, any_directory_row}
use Rattle.sl_getattr.proofs.Maps.{has_put, none_in}
use Rattle.sl_getattr.proofs.Looking.{root_alone}
use Rattle.sl_getattr.proofs.Sound.{IsBare, IsCoordinator, IsDirectory}
use Rattle.sl_getattr.proofs.Counting.{AreDowns, AreSent, downs_both, sent_both, numbered_sent, last_both}
use Rattle.sl_getattr.proofs.Flights.{AllFly, fly_launched}
use Rattle.sl_getattr.proofs.Doing.{Did, did_last, did_then, did_fall}
use Rattle.sl_getattr.proofs.Rows.{Founding, Makes, Opens, founds_row, apart}

-- ---- what an actor holds when it was opened on an empty disk

abbrev pub IsOpened : Setup → ℕ → Option Memory → List Record → Type 0
IsOpened s i (Some (OfProxy p)) rs = (p.pending ≡ empty) × (p.soft ≡ no_soft) × (p.next_tag ≡ 1) × (p.welcomed ≡ false) × (0 < p.fence)
IsOpened s i (Some (OfCoord m)) rs = IsCoordinator m rs
IsOpened s i (Some (OfSite m)) rs = i ≡ 16 → IsDirectory s m rs
IsOpened s i (Some (OfStore m)) rs = Unit {0}
IsOpened s i None rs = Unit {0}

abbrev pub IsHelloFrame : Frame → Type 0
IsHelloFrame f = (f.to ≡ 1) × (f.«body» ≡ body.Hello) × IsBare f

-- the proxy says hello under its fence, and nobody else sends anything
pub record Says (i : ℕ) (m : Option Memory) (fs : List Frame) : Type 0 where
  pub silent : (i ≡ 0 → ⊥) → fs ≡ []
  pub first : (p : Proxy) → m ≡ Some (OfProxy p) → fs ≡ hello p.fence ∷ []

abbrev no_proxy : Option Memory → Bool
no_proxy (Some (OfProxy p)) = false
no_proxy other = true

-- who is no proxy sends nothing
says_nothing : (i : ℕ) (m : Option Memory) → no_proxy m ≡ true → Says i m []
says_nothing i m none = record { silent = λ other. refl; first = λ p is. absurd (not_both (sym (ap no_proxy is) ∙ none) refl) }

pub record Opened (s : Setup) (i : ℕ) (w : World) (n : Told) (w' : World) (n' : Told) : Type 0 where
  pub memory : Option Memory
  pub records : List Record
  pub frames : List Frame
  pub notes : List Remark
  pub did : Did i w n w' n' memory records frames notes
  pub opened : IsOpened s i memory records
  pub hellos : Each IsHelloFrame frames
  pub says : Says i memory frames
  pub downs : AreDowns notes

-- ---- what an empty disk restores

none_by : (o : Option Frame) (low tag : ℕ) → (low ≤ tag → o ≡ None) → (tag < low → o ≡ None) → (f : Frame) → o ≡ Some f → ⊥
none_by o low tag above below f is = by (nat_lt tag low) refl
  where
    is_below : nat_lt tag low ≡ true → tag < low
    is_below e = grind (arith, nat_tests)

    is_above : nat_lt tag low ≡ false → low ≤ tag
    is_above e = grind (arith, nat_tests)

    by : (b : Bool) → nat_lt tag low ≡ b → ⊥
    by true e = not_none (sym is ∙ below (is_below e))
    by false e = not_none (sym is ∙ above (is_above e))

coordinator_opened : (m : Coord) → RestoredCoord [] m → IsCoordinator m []
unfolding started_of
coordinator_opened m r = record {
  queue = r.queue;
  kept = λ tag f is. none_by (get m.site.kept tag) m.site.low tag (r.kept tag) (r.gone tag) f is;
  started = refl;
}

directory_opened : (s : Setup) (actor volume : ℕ) (m : Site) → volume ≡ s.volume → RestoredSite actor [] m → IsDirectory s m (OfDir (dir.Root (root_cell volume)) ∷ [])
unfolding cells_of locked_in
directory_opened s actor volume m same r = record {
  kept = λ tag f is. none_by (get m.kept tag) m.low tag (r.kept tag) (r.gone tag) f is;
  cells = ap root_alone same;
  unlocked = refl;
}

-- ---- one actor, from where it has read its disk

-- every fence is above 0
positive : (starts : ℕ) → 0 < (starts + 1) * 2 ^ 32
positive starts = omega arith

fallen : (s : Setup) (i : ℕ) (w : World) (n : Told) (a : Actor) (w' : World) (n' : Told) → Did i w n w' n' None a.records [] (note.Down i ∷ []) → Opened s i w n w' n'
fallen s i w n a w' n' did = record { memory = None; records = a.records; frames = []; notes = note.Down i ∷ []; did = did; opened = tt; hellos = tt; says = says_nothing i None refl; downs = tt }

-- by one segment
opened_last : (s : Setup) (i : ℕ) (w : World) (n : Told) (a : Actor) (z : Segment) (w' : World) (n' : Told) → z.todo ≡ [] → IsOpened s i (Some z.memory) (appended z.append a.records)
    → Each IsHelloFrame z.frames → Says i (Some z.memory) z.frames → AreDowns z.notes → Steps i (z.todo ++ []) (played w i a z) (told w z n) w' n' → Opened s i w n w' n'
opened_last s i w n a z w' n' none opened hellos says downs steps = record {
  memory = Some z.memory;
  records = appended z.append a.records;
  frames = z.frames;
  notes = z.notes;
  did = did_last i w n a z w' n' none steps;
  opened = opened;
  hellos = hellos;
  says = says;
  downs = downs;
}

opened_then : (s : Setup) (i : ℕ) (w : World) (n : Told) (a : Actor) (z : Segment) (w' : World) (n' : Told) → z.frames ≡ [] → z.notes ≡ [] → Opened s i (played w i a z) (told w z n) w' n'
    → Opened s i w n w' n'
opened_then s i w n a z w' n' silent unnoted later = record {
  memory = later.memory;
  records = later.records;
  frames = later.frames;
  notes = later.notes;
  did = subst (λ rs. Did i w n w' n' later.memory later.records later.frames rs) (ap (λ rs. rs ++ later.notes) unnoted)
      (did_then i w n a z w' n' later.memory later.records later.frames later.notes silent later.did);
  opened = later.opened;
  hellos = later.hellos;
  says = later.says;
  downs = later.downs;
}

-- the server of site 0 has to make the root
is_due : (s : Setup) (i : ℕ) (rs : List Record) → s.dirs ≡ 1 → i ≡ 16 → rs ≡ [] → (i == carrier s class.Dir 0 && not (has_root rs)) ≡ true
unfolding carrier
is_due s i rs one at none =
    ap (λ k. k == 16 + 0 % s.dirs && not (has_root rs)) at ∙ ap (λ d. 16 == 16 + 0 % d && not (has_root rs)) one ∙ ap (λ qs. not (has_root qs)) none

module _ (s : Setup) (one : s.dirs ≡ 1) (i : ℕ) where
  -- a directory server makes the root
  founds : (w : World) (n : Told) (a : Actor) (m : Site) (w' : World) (n' : Told) → w.setup ≡ s → get w.actors i ≡ Some a → is_directory i ≡ true → a.memory ≡ Some (OfSite m) → a.records ≡ []
      → RestoredSite i [] m → Steps i (Founds ∷ []) w n w' n' → Opened s i w n w' n'
  founds w n a m w' n' setup is class up blank restored steps = by (begun i Founds [] w n a w' n' is steps)
    where
      row : (z : Segment) → May (scene w i) a Founds z → Founding (scene w i) a m z
      row z may = founds_row (scene w i) a m z (any_directory_row (scene w i) a m Founds z class up may)

      makes : (z : Segment) → directories.MakesRoot (scene w i) a m z → Steps i (z.todo ++ []) (played w i a z) (told w z n) w' n' → Opened s i w n w' n'
      makes z row steps = opened_last s i w n a z w' n' (ap (λ (z : Segment). z.todo) row.does)
          (subst (λ (z : Segment). IsOpened s i (Some z.memory) (appended z.append a.records)) (sym row.does)
          (λ at. subst (λ rs. IsDirectory s m (OfDir (dir.Root (root_cell w.setup.volume)) ∷ rs)) (sym blank) (directory_opened s i w.setup.volume m (ap (λ (z : Setup). z.volume) setup) restored)))
          (subst (λ (z : Segment). Each IsHelloFrame z.frames) (sym row.does) tt) (subst (λ (z : Segment). Says i (Some z.memory) z.frames) (sym row.does) (says_nothing i _ refl))
          (subst (λ (z : Segment). AreDowns z.notes) (sym row.does) tt) steps

      opens : (z : Segment) → directories.OpensSo (scene w i) a m z → Steps i (z.todo ++ []) (played w i a z) (told w z n) w' n' → Opened s i w n w' n'
      opens z row steps = opened_last s i w n a z w' n' (ap (λ (z : Segment). z.todo) row.does)
          (subst (λ (z : Segment). IsOpened s i (Some z.memory) (appended z.append a.records)) (sym row.does)
          (λ at. absurd (not_both (is_due w.setup i a.records (ap (λ (z : Setup). z.dirs) setup ∙ one) at blank) row.undue)))
          (subst (λ (z : Segment). Each IsHelloFrame z.frames) (sym row.does) tt) (subst (λ (z : Segment). Says i (Some z.memory) z.frames) (sym row.does) (says_nothing i _ refl))
          (subst (λ (z : Segment). AreDowns z.notes) (sym row.does) tt) steps

      on_first : (z : Segment) → Founding (scene w i) a m z → Steps i (z.todo ++ []) (played w i a z) (told w z n) w' n' → Opened s i w n w' n'
      on_first z (Makes row) steps = makes z row steps
      on_first z (Opens row) steps = opens z row steps

      by : Begun i Founds [] w n a w' n' → Opened s i w n w' n'
      by (Does first) = on_first first.segment (row first.segment first.may) first.behind
      by (Falls cut) = fallen s i w n a w' n' (did_fall i w n a cut.cut w' n' cut.world cut.noted)
      by (Spends spent) = absurd (apart spent.is refl)

  module _ (w : World) (n : Told) (a : Actor) (w' : World) (n' : Told) (setup : w.setup ≡ s) (is : get w.actors i ≡ Some a) (down : a.memory ≡ None) (blank : a.records ≡ []) where
    proxy_first : (z : Segment) → i ≡ 0 → proxies.Opens a z → Steps i (z.todo ++ []) (played w i a z) (told w z n) w' n' → Opened s i w n w' n'
    proxy_first z here row steps = opened_last s i w n a z w' n' (ap (λ (z : Segment). z.todo) row.does)
        (subst (λ (z : Segment). IsOpened s i (Some z.memory) (appended z.append a.records)) (sym row.does) (refl, refl, refl, refl, positive (starts_of a.records)))
        (subst (λ (z : Segment). Each IsHelloFrame z.frames) (sym row.does) ((refl, refl, (refl, refl, refl)), tt))
        (subst (λ (z : Segment). Says i (Some z.memory) z.frames) (sym row.does) (record {
          silent = λ other. absurd (other here);
          first = λ p is. ap (λ (q : Proxy). hello q.fence ∷ []) (same_proxy _ p is);
        }))
        (subst (λ (z : Segment). AreDowns z.notes) (sym row.does) tt) steps

    coordinator_first : (z : Segment) → OpensCoordinator a z → Steps i (z.todo ++ []) (played w i a z) (told w z n) w' n' → Opened s i w n w' n'
    coordinator_first z row steps = opened_last s i w n a z w' n' (ap (λ (z : Segment). z.todo) row.does)
        (subst (λ (z : Segment). IsOpened s i (Some z.memory) (appended z.append a.records)) (sym row.does)
        (subst (IsCoordinator row.coord) (sym blank) (coordinator_opened row.coord (subst (λ rs. RestoredCoord rs row.coord) blank row.restored))))
        (subst (λ (z : Segment). Each IsHelloFrame z.frames) (sym row.does) tt) (subst (λ (z : Segment). Says i (Some z.memory) z.frames) (sym row.does) (says_nothing i _ refl))
        (subst (λ (z : Segment). AreDowns z.notes) (sym row.does) tt) steps

    store_first : (z : Segment) → stores.Boots a z → Steps i (z.todo ++ []) (played w i a z) (told w z n) w' n' → Opened s i w n w' n'
    store_first z row steps = opened_last s i w n a z w' n' (ap (λ (z : Segment). z.todo) row.does)
        (subst (λ (z : Segment). IsOpened s i (Some z.memory) (appended z.append a.records)) (sym row.does) tt)
        (subst (λ (z : Segment). Each IsHelloFrame z.frames) (sym row.does) tt) (subst (λ (z : Segment). Says i (Some z.memory) z.frames) (sym row.does) (says_nothing i _ refl))
        (subst (λ (z : Segment). AreDowns z.notes) (sym row.does) tt) steps

    directory_first : (z : Segment) → is_directory i ≡ true → OpensDirectory (scene w i) a z → Steps i (z.todo ++ []) (played w i a z) (told w z n) w' n' → Opened s i w n w' n'
    directory_first z class row steps =
        let seg = quiet (OfSite row.site) (Founds ∷ []) in
        opened_then s i w n a seg w' n' refl refl
        (founds (played w i a seg) (told w seg n) (after_segment a seg) row.site w' n' setup (has_put w.actors i (after_segment a seg)) class refl blank
        (subst (λ rs. RestoredSite i rs row.site) blank row.restored)
        (subst (λ (z : Segment). Steps i (z.todo ++ []) (played w i a z) (told w z n) w' n') row.does steps))

    on_first : (z : Segment) → May (scene w i) a Opening z → Steps i (z.todo ++ []) (played w i a z) (told w z n) w' n' → Opened s i w n w' n'
    on_first z (ByProxy p here up row) steps = absurd (not_none (sym up ∙ down))
    on_first z (ByCoordinator m here up row) steps = absurd (not_none (sym up ∙ down))
    on_first z (ByDirectory m here up row) steps = absurd (not_none (sym up ∙ down))
    on_first z (ByStore m here up row) steps = absurd (not_none (sym up ∙ down))
    on_first z (ByOpenedProxy here none task row) steps = proxy_first z here row steps
    on_first z (ByOpenedCoordinator here none task row) steps = coordinator_first z row steps
    on_first z (ByOpenedDirectory here none task row) steps = directory_first z here row steps
    on_first z (ByOpenedStore here none task row) steps = store_first z row steps

    opens_so : Steps i (Opening ∷ []) w n w' n' → Opened s i w n w' n'
    opens_so steps = by (begun i Opening [] w n a w' n' is steps)
      where
        by : Begun i Opening [] w n a w' n' → Opened s i w n w' n'
        by (Does first) = on_first first.segment first.may first.behind
        by (Falls cut) = fallen s i w n a w' n' (did_fall i w n a cut.cut w' n' cut.world cut.noted)
        by (Spends spent) = absurd (apart spent.is refl)

-- ---- one actor of an opening

-- it is down, and nothing was ever recorded
abbrev pub IsUnopened : Actor → Type 0
IsUnopened a = (a.memory ≡ None) × (a.limbo ≡ None) × (a.records ≡ [])

found_nothing : (a : Actor) (rs : List Record) → IsUnopened a → Found a rs → rs ≡ []
found_nothing a rs blank (WithoutLimbo is) = is ∙ blank.2
found_nothing a rs blank (WithLimbo r limbo is) = absurd (not_none (sym limbo ∙ blank.1))

settled_nothing : (k : ℕ) → settled k [] ≡ []
settled_nothing k = by (nat_lt k 0)
  where
    by : (b : Bool) → cond b (last_notes []) [] ≡ []
    by true = refl
    by false = refl

-- from where its disk was read
opened_from : (s : Setup) (i : ℕ) (w : World) (n : Told) (b : Actor) (w' : World) (n' : Told) → Opened s i (with_actor w i b) n w' n' → Opened s i w n w' n'
opened_from s i w n b w' n' o = record {
  memory = o.memory;
  records = o.records;
  frames = o.frames;
  notes = o.notes;
  did = record {
    actor = o.did.actor;
    own = o.did.own;
    memory = o.did.memory;
    records = o.did.records;
    others = λ j other. o.did.others j other ∙ put_else w.actors i b j other;
    setup = o.did.setup;
    event = o.did.event;
    moment = o.did.moment;
    flight = o.did.flight;
    frames = o.did.frames;
    noted = o.did.noted;
  };
  opened = o.opened;
  hellos = o.hellos;
  says = o.says;
  downs = o.downs;
}

module _ (s : Setup) (one : s.dirs ≡ 1) (i : ℕ) (w : World) (n : Told) (w' : World) (n' : Told) (setup : w.setup ≡ s) (blank : (a : Actor) → get w.actors i ≡ Some a → IsUnopened a) where
  begins_so : Begins i w n w' n' → Opened s i w n w' n'
  begins_so begins =
      let b = opened_actor begins.actor [] in
      opened_from s i w n b w' n'
      (opens_so s one i (with_actor w i b) n b w' n' setup (has_put w.actors i b) refl refl
      (subst (λ ms. Steps i (Opening ∷ []) (with_actor w i b) (record n { notes = ms }) w' n') (append-nil n.notes)
      (subst (λ q. Steps i (Opening ∷ []) (done_by q (with_actor w i b)) (with_notes q n) w' n') (settled_nothing (noted_of w i))
      (subst (λ rs. Steps i (Opening ∷ []) (done_by (settled (noted_of w i) rs) (with_actor w i (opened_actor begins.actor rs))) (with_notes (settled (noted_of w i) rs) n) w' n')
      (found_nothing begins.actor begins.records (blank begins.actor begins.is) begins.found) begins.steps))))

  fails_so : FailsToOpen i w n w' n' → Opened s i w n w' n'
  fails_so fails = record {
    memory = None;
    records = fails.actor.records;
    frames = [];
    notes = note.Down i ∷ [];
    did = record {
      actor = fails.actor;
      own = ap (λ (v : World). get v.actors i) fails.world ∙ fails.is;
      memory = fails.down;
      records = refl;
      others = λ j other. ap (λ (v : World). get v.actors j) fails.world;
      setup = ap (λ (v : World). v.setup) fails.world;
      event = ap (λ (v : World). v.event) fails.world;
      moment = ap (λ (v : World). v.moment) fails.world;
      flight = ap (λ (v : World). v.flight) fails.world;
      frames = ap (λ (v : Told). v.frames) fails.noted ∙ sym (append-nil n.frames);
      noted = ap (λ (v : Told). v.notes) fails.noted;
    };
    opened = tt;
    hellos = tt;
    says = says_nothing i None refl;
    downs = tt;
  }

  starts_so : Starts i w n w' n' → Opened s i w n w' n'
  starts_so (inl begins) = begins_so begins
  starts_so (inr fails) = fails_so fails

-- ---- all actors, one after the other

pub record SoFar (s : Setup) (is : List ℕ) (w : World) (n : Told) : Type 0 where
  pub setup : w.setup ≡ s
  pub event : w.event ≡ 0
  pub waits : (j : ℕ) (a : Actor) → Has is j ≡ true → get w.actors j ≡ Some a → IsUnopened a
  pub opened : (j : ℕ) (a : Actor) → get w.actors j ≡ Some a → IsOpened s j a.memory a.records
  pub flight : AllFly (λ f. IsHelloFrame f.frame) w.flight
  pub said : (a : Actor) (p : Proxy) → get w.actors 0 ≡ Some a → a.memory ≡ Some (OfProxy p) → last_among hello_fence n.frames ≡ Some p.fence
  pub frames : AreSent n.frames
  pub notes : AreDowns n.notes

itself : (k : ℕ) → eq_by_cmp nat_cmp k k ≡ true
itself k = grind arith

or_true : (b : Bool) → b || true ≡ true
or_true true = refl
or_true false = refl

-- what is among distinct numbers is apart from the one before them
apart_from : (i : ℕ) (is : List ℕ) (j : ℕ) → Has is i ≡ false → Has is j ≡ true → eq_by_cmp nat_cmp j i ≡ false
apart_from i is j none has = by (eq_by_cmp nat_cmp j i) refl
  where
    by : (b : Bool) → eq_by_cmp nat_cmp j i ≡ b → b ≡ false
    by true e = absurd (not_both has (ap (Has is) (same_key j i e) ∙ none))
    by false e = refl

one_more : (s : Setup) (i : ℕ) (is : List ℕ) (w : World) (n : Told) (w' : World) (n' : Told) → Has is i ≡ false → SoFar s (i ∷ is) w n → Opened s i w n w' n' → SoFar s is w' n'
one_more s i is w n w' n' distinct so o = record {
  setup = o.did.setup ∙ so.setup;
  event = o.did.event ∙ so.event;
  waits = λ j a has there. so.waits j a (ap (λ b. eq_by_cmp nat_cmp j i || b) has ∙ or_true (eq_by_cmp nat_cmp j i)) (sym (o.did.others j (apart_from i is j distinct has)) ∙ there);
  opened = λ j a there. by j a there (eq_by_cmp nat_cmp j i) refl;
  flight = subst (AllFly (λ f. IsHelloFrame f.frame)) (sym o.did.flight) (fly_launched (λ f. IsHelloFrame f.frame) w.flight w.next_frame w.event o.frames so.flight o.hellos);
  said = λ a p there up. speaks a p there up (eq_by_cmp nat_cmp 0 i) refl;
  frames = subst AreSent (sym o.did.frames) (sent_both n.frames (numbered w.next_frame o.frames) so.frames (numbered_sent w.next_frame o.frames (hellos o.frames o.hellos)));
  notes = subst AreDowns (sym o.did.noted) (downs_both n.notes o.notes so.notes o.downs);
}
  where
    hellos : (fs : List Frame) → Each IsHelloFrame fs → Each (λ f. f.«body» ≡ body.Hello) fs
    hellos [] each = tt
    hellos (f ∷ fs) each = (each.0.1, hellos fs each.1)

    speaks : (a : Actor) (p : Proxy) → get w'.actors 0 ≡ Some a → a.memory ≡ Some (OfProxy p) → (b : Bool) → eq_by_cmp nat_cmp 0 i ≡ b → last_among hello_fence n'.frames ≡ Some p.fence
    speaks a p there up true e =
        ap (last_among hello_fence) (o.did.frames ∙ ap (λ fs. n.frames ++ numbered w.next_frame fs) (o.says.first p (sym o.did.memory
        ∙ ap (λ (z : Actor). z.memory) (same_some (sym o.did.own ∙ ap (get w'.actors) (sym (same_key 0 i e)) ∙ there)) ∙ up)))
        ∙ last_both hello_fence n.frames (numbered w.next_frame (hello p.fence ∷ []))
    speaks a p there up false e =
        ap (last_among hello_fence) (o.did.frames ∙ ap (λ fs. n.frames ++ numbered w.next_frame fs) (o.says.silent (λ zero_is. not_both (ap (eq_by_cmp nat_cmp 0) zero_is) e)) ∙ append-nil n.frames)
        ∙ so.said a p (sym (o.did.others 0 e) ∙ there) up

    by : (j : ℕ) (a : Actor) → get w'.actors j ≡ Some a → (b : Bool) → eq_by_cmp nat_cmp j i ≡ b → IsOpened s j a.memory a.records
    by j a there true e =
        subst (λ (z : Actor). IsOpened s j z.memory z.records) (same_some (sym o.did.own ∙ ap (get w'.actors) (sym (same_key j i e)) ∙ there))
        (subst (λ k. IsOpened s k o.did.actor.memory o.did.actor.records) (sym (same_key j i e))
        (subst (λ m. IsOpened s i m o.did.actor.records) (sym o.did.memory) (subst (λ rs. IsOpened s i o.memory rs) (sym o.did.records) o.opened)))
    by j a there false e = so.opened j a (sym (o.did.others j e) ∙ there)

all_start : (s : Setup) → s.dirs ≡ 1 → (is : List ℕ) (w : World) (n : Told) (w' : World) (n' : Told) → AreDistinct is → SoFar s is w n → StartsEach is w n w' n' → SoFar s [] w' n'
all_start s one [] w n w' n' distinct so starts = subst (λ z. SoFar s [] z n') (sym starts.0) (subst (λ z. SoFar s [] w z) (sym starts.1) so)
all_start s one (i ∷ is) w n w' n' distinct so starts =
    all_start s one is starts.0 starts.1 w' n' distinct.1
    (one_more s i is w n starts.0 starts.1 distinct.0 so
    (starts_so s one i w n starts.0 starts.1 so.setup (λ a there. so.waits i a (ap (λ b. b || Has is i) (itself i)) there) starts.2)) starts.3

-- ---- from the beginning

first_of_both : (a b : Bool) → T (a && b) → T a
first_of_both true b h = tt
first_of_both false b h = h

second_of_both : (a b : Bool) → T (a && b) → T b
second_of_both true b h = h
second_of_both false b h = absurd h

less_apart : (r : Ordering) → T (is_lt r) → is_eq r ≡ false
less_apart Less h = refl
less_apart Equal h = absurd h
less_apart Greater h = refl

not_below : {X : Type 0} (i : ℕ) (es : List (ℕ × X)) → T (below_all nat_cmp i es) → Has (map (λ e. e.0) es) i ≡ false
not_below i [] h = refl
not_below i (e ∷ es) h =
    ap (λ b. b || Has (map (λ e. e.0) es) i) (less_apart (nat_cmp i e.0) (first_of_both (is_lt (nat_cmp i e.0)) (below_all nat_cmp i es) h))
    ∙ not_below i es (second_of_both (is_lt (nat_cmp i e.0)) (below_all nat_cmp i es) h)

distinct_keys : {X : Type 0} (es : List (ℕ × X)) → T (is_sorted nat_cmp es) → AreDistinct (map (λ e. e.0) es)
distinct_keys [] h = tt
distinct_keys (e ∷ es) h = (
  not_below e.0 es (first_of_both (below_all nat_cmp e.0 es) (is_sorted nat_cmp es) h),
  distinct_keys es (second_of_both (below_all nat_cmp e.0 es) (is_sorted nat_cmp es) h),
)

unopened : (s : Setup) (w : World) → IsBlank s w → (j : ℕ) (a : Actor) → get w.actors j ≡ Some a → IsUnopened a
unopened s w blank j a there = ((blank.initial.actors j a there).0, (blank.initial.actors j a there).1, blank.records j a there)

none_flies : (w : World) → w.flight ≡ empty → AllFly (λ f. IsHelloFrame f.frame) w.flight
none_flies w none k f there = absurd (none_in k f (ap (λ m. get m k) (sym none) ∙ there))

pub opening_so : (s : Setup) (w : World) (w' : World) (n' : Told) → s.dirs ≡ 1 → IsBlank s w → StartsEach (actors_of s) w nothing w' n' → SoFar s [] w' n'
opening_so s w w' n' one blank starts =
    all_start s one (actors_of s) w nothing w' n' (subst AreDistinct blank.initial.all (distinct_keys (entries w.actors) (entries_sorted w.actors))) (record {
      setup = blank.initial.setup_is;
      event = blank.initial.event;
      waits = λ j a has there. unopened s w blank j a there;
      opened = λ j a there. subst (λ m. IsOpened s j m a.records) (sym (unopened s w blank j a there).0) tt;
      flight = none_flies w blank.initial.flight;
      said = λ a p there up. absurd (not_none (sym up ∙ (unopened s w blank 0 a there).0));
      frames = tt;
      notes = tt;
    }) starts
