-- The ensemble opens, an actor after the other.
use Rattle.std.proofs.Common.{◌≡◌, ℕ, ◌==◌, ◌&&◌, Bool, true, false, List, [], ◌∷◌, ◌++◌, map, length, Option, Some, None, refl, sym, ap, subst, ◌∙◌, inl, lit<, cond, nat_lt}
use Rattle.std.specs.Ordering.{nat_cmp, eq_by_cmp}
use Rattle.std.specs.FinMap.{FinMap, empty, get, insert, find, from_sorted, entries-from_sorted, get-from_sorted}
use Rattle.sl_defs.specs.declared.setup.Setup.{Setup}
use Rattle.sl_records.specs.declared.proxy.ProxyRecord.TheVariants as start
use Rattle.sl_records.specs.declared.directory.DirRecord.TheVariants as dir
use Rattle.sl_records.specs.declared.data_server.DataRecord.TheVariants as store
use Rattle.sl_frames.specs.Actors.{is_data}
use Rattle.sl_route.specs.declared.class.Class.TheVariants as class
use Rattle.sl_history.specs.Turns.{Remark, Sent}
use Rattle.sl_history.specs.Placing.{carrier}
use Rattle.sl_machine.specs.Records.{Record, root_cell, started_of}
use Rattle.sl_machine.specs.Records as records
use Rattle.sl_machine.specs.Memory.{Site, Store, Coord, Proxy, Memory, Actor}
use Rattle.sl_machine.specs.Memory as memory
use Rattle.sl_machine.specs.World.{World, Opening, Segment, Told, nothing, quiet, played, told, with_actor, after_segment}
use Rattle.sl_machine.specs.World as world
use Rattle.sl_machine.specs.Directories.{MakesRoot}
use Rattle.sl_machine.specs.Directories as directory
use Rattle.sl_machine.specs.Proxies.{fresh, hello}
use Rattle.sl_machine.specs.Openings.{settled, WithoutLimbo}
use Rattle.sl_machine.specs.Runs.{Run, TurnRun, IsInitial, Starts, StartsEach, Steps, ByOpenedProxy, ByOpenedCoordinator, ByOpenedDirectory, ByOpenedStore, ByDirectory, Whole, noted_of, done_by}
use Rattle.sl_witness.specs.Histories.{setup, epoch, fence, opening, opened}
use Rattle.sl_witness.specs.Runs.{HasEmptyDisks, TheEnsembleOpens}
use Rattle.sl_witness.proofs.Maps.{got_here, got_past, got_none, found_meets}

-- ---- before

abbrev pub blank : Actor
blank = record { memory = None; records = []; limbo = None }

abbrev blanks : List (ℕ × Actor)
blanks = (0, blank) ∷ (1, blank) ∷ (16, blank) ∷ (32, blank) ∷ (48, blank) ∷ []

abbrev none_noted : List (ℕ × ℕ)
none_noted = (0, 0) ∷ (1, 0) ∷ (16, 0) ∷ (32, 0) ∷ (48, 0) ∷ []

abbrev pub w0 : World
w0 = record {
  setup = setup;
  actors = from_sorted blanks;
  flight = empty;
  next_frame = 1;
  event = 0;
  moment = epoch;
  done_in = empty;
  noted = from_sorted none_noted;
}

abbrev IsBlank : ℕ → Actor → Type 0
IsBlank i a = (a.memory ≡ None) × (a.limbo ≡ None) × (a.records ≡ []) × (find nat_cmp i none_noted ≡ Some 0)

all_blank : (i : ℕ) (a : Actor) → get w0.actors i ≡ Some a → IsBlank i a
all_blank i a is =
    found_meets IsBlank blanks
    ((refl, refl, refl, refl), ((refl, refl, refl, refl), ((refl, refl, refl, refl), ((refl, refl, refl, refl), ((refl, refl, refl, refl), tt)))))
    i a (sym (get-from_sorted nat_cmp blanks i tt) ∙ is)

has_blank : (i : ℕ) → find nat_cmp i blanks ≡ Some blank → get w0.actors i ≡ Some blank
has_blank i is = get-from_sorted nat_cmp blanks i tt ∙ is

pub empty_disks : HasEmptyDisks w0
empty_disks i a is = (all_blank i a is).2

pub initial : IsInitial setup w0
initial = record {
  setup_is = refl;
  actors = λ i a is.
      let b = all_blank i a is in
      (b.0, b.1, get-from_sorted nat_cmp none_noted i tt ∙ b.3 ∙ ap (λ rs. Some (length rs)) (sym b.2));
  all = ap (λ es. map (λ e. e.0) es) (entries-from_sorted nat_cmp blanks tt);
  flight = refl;
  next_frame = refl;
  event = refl;
  moment = refl;
  done_in = refl;
}

-- ---- an opening over an empty disk

pub either_way : {A : Type 0} (b : Bool) (x : A) → cond b x x ≡ x
either_way true x = refl
either_way false x = refl

nothing_settled : (n : ℕ) → settled n [] ≡ []
nothing_settled n = either_way (nat_lt n 0) []

abbrev sent : List Remark → Told
sent frames = record { frames = frames; notes = [] }

begins : (i : ℕ) (w : World) (frames : List Remark) (w' : World) (n' : Told) → get w.actors i ≡ Some blank
    → Steps i (Opening ∷ []) (with_actor w i blank) (sent frames) w' n' → Starts i w (sent frames) w' n'
begins i w frames w' n' is s = inl (record {
  actor = blank;
  records = [];
  is = is;
  down = refl;
  found = WithoutLimbo refl;
  steps = subst (λ rs. Steps i (Opening ∷ []) (done_by rs (with_actor w i blank)) (record { frames = frames; notes = rs }) w' n') (sym (nothing_settled (noted_of w i))) s;
})

-- ---- the proxy

abbrev pub counts_start : Segment
counts_start = record {
  append = Some (records.OfProxy (start.Start 1));
  memory = memory.OfProxy (fresh fence);
  frames = hello fence ∷ [];
  notes = [];
  todo = [];
}

abbrev pub after_proxy : World → World
after_proxy w = played (with_actor w 0 blank) 0 blank counts_start

opens_proxy : (w : World) (frames : List Remark) → get w.actors 0 ≡ Some blank
    → Starts 0 w (sent frames) (after_proxy w) (sent (frames ++ Sent w.next_frame (hello fence) ∷ []))
opens_proxy w frames is = begins 0 w frames _ _ is (record {
  segments = counts_start ∷ [];
  left = [];
  middle = after_proxy w;
  so_far = sent (frames ++ Sent w.next_frame (hello fence) ∷ []);
  plays = (blank, got_here _ 0 blank, ByOpenedProxy refl refl refl (record { unspent = lit< tt; does = refl }), (refl, refl, refl));
  ends = Whole refl refl refl;
})

-- ---- the coordinator

abbrev pub no_site : Site
no_site = record { fence = 0; low = 0; kept = empty; parked = [] }

abbrev pub new_coordinator : Coord
new_coordinator = record { site = no_site; queue = []; granted = []; acknowledged = []; owes = false; heard = false }

abbrev pub reads_log : Segment
reads_log = quiet (memory.OfCoord new_coordinator) []

abbrev pub after_coordinator : World → World
after_coordinator w = played (with_actor w 1 blank) 1 blank reads_log

opens_coordinator : (w : World) (frames : List Remark) → get w.actors 1 ≡ Some blank
    → Starts 1 w (sent frames) (after_coordinator w) (sent (frames ++ []))
unfolding started_of
opens_coordinator w frames is = begins 1 w frames _ _ is (record {
  segments = reads_log ∷ [];
  left = [];
  middle = after_coordinator w;
  so_far = sent (frames ++ []);
  plays = (
    blank,
    got_here _ 1 blank,
    ByOpenedCoordinator refl refl refl (record {
      coord = new_coordinator;
      restored = record {
        fence = refl;
        low = refl;
        kept = λ tag h. got_none tag;
        gone = λ tag h. got_none tag;
        parked = refl;
        queue = refl;
        granted = refl;
        acknowledged = refl;
        owes = refl;
        heard = refl;
      };
      does = refl;
    }),
    (refl, refl, refl),
  );
  ends = Whole refl refl refl;
})

-- ---- the directory server

abbrev pub reads_cells : Segment
reads_cells = quiet (memory.OfSite no_site) (world.Founds ∷ [])

abbrev pub makes_root : Segment
makes_root = record { append = Some (records.OfDir (dir.Root (root_cell 1))); memory = memory.OfSite no_site; frames = []; notes = []; todo = [] }

abbrev pub reading : World → World
reading w = played (with_actor w 16 blank) 16 blank reads_cells

abbrev pub after_directory : World → World
after_directory w = played (reading w) 16 (after_segment blank reads_cells) makes_root

is_due : (s : Setup) → s ≡ setup → ((16 == carrier s class.Dir 0) && true) ≡ true
unfolding carrier
is_due s e = ap (λ (s : Setup). (16 == carrier s class.Dir 0) && true) e

does_root : (s : Setup) → s ≡ setup
    → makes_root ≡ record { append = Some (records.OfDir (dir.Root (root_cell s.volume))); memory = memory.OfSite no_site; frames = []; notes = []; todo = [] }
does_root s e = ap (λ (s : Setup). record { append = Some (records.OfDir (dir.Root (root_cell s.volume))); memory = memory.OfSite no_site; frames = []; notes = []; todo = [] }) (sym e)

opens_directory : (w : World) (frames : List Remark) → w.setup ≡ setup → get w.actors 16 ≡ Some blank
    → Starts 16 w (sent frames) (after_directory w) (sent ((frames ++ []) ++ []))
opens_directory w frames e is = begins 16 w frames _ _ is (record {
  segments = reads_cells ∷ makes_root ∷ [];
  left = [];
  middle = after_directory w;
  so_far = sent ((frames ++ []) ++ []);
  plays = (
    blank,
    got_here _ 16 blank,
    ByOpenedDirectory refl refl refl (record {
      site = no_site;
      restored = record { fence = refl; low = refl; kept = λ tag h. got_none tag; gone = λ tag h. got_none tag; parked = refl };
      does = refl;
    }),
    (
      after_segment blank reads_cells,
      got_here _ 16 _,
      ByDirectory no_site refl refl (directory.IsFounded refl (record { due = is_due w.setup e; does = does_root w.setup e })),
      (refl, refl, refl),
    ),
  );
  ends = Whole refl refl refl;
})

-- ---- a data server

abbrev pub no_store : Store
no_store = record { site = no_site; buffered = [] }

abbrev pub boots : Segment
boots = record { append = Some (records.OfData (store.Boot 1)); memory = memory.OfStore no_store; frames = []; notes = []; todo = [] }

abbrev pub after_store : ℕ → World → World
after_store i w = played (with_actor w i blank) i blank boots

opens_store : (i : ℕ) (w : World) (frames : List Remark) → is_data i ≡ true → get w.actors i ≡ Some blank
    → Starts i w (sent frames) (after_store i w) (sent (frames ++ []))
opens_store i w frames among is = begins i w frames _ _ is (record {
  segments = boots ∷ [];
  left = [];
  middle = after_store i w;
  so_far = sent (frames ++ []);
  plays = (blank, got_here _ i blank, ByOpenedStore among refl refl (record { does = refl }), (refl, refl, refl));
  ends = Whole refl refl refl;
})

-- ---- all of them

abbrev pub w1 : World
w1 = after_proxy w0

abbrev pub w2 : World
w2 = after_coordinator w1

abbrev pub w3 : World
w3 = after_directory w2

abbrev pub w4 : World
w4 = after_store 32 w3

abbrev pub w5 : World
w5 = after_store 48 w4

-- an actor of another number is what it was, where one is opened
pub past_two : (m : FinMap nat_cmp Actor) (k : ℕ) (x y : Actor) (q : ℕ) (r : Option Actor) → eq_by_cmp nat_cmp q k ≡ false → get m q ≡ r
    → get (insert (insert m k x) k y) q ≡ r
past_two m k x y q r apart e = got_past _ k y q r apart (got_past m k x q r apart e)

pub past_three : (m : FinMap nat_cmp Actor) (k : ℕ) (x y z : Actor) (q : ℕ) (r : Option Actor) → eq_by_cmp nat_cmp q k ≡ false → get m q ≡ r
    → get (insert (insert (insert m k x) k y) k z) q ≡ r
past_three m k x y z q r apart e = got_past _ k z q r apart (past_two m k x y q r apart e)

abbrev pub greeted_once : List Remark
greeted_once = Sent 1 (hello fence) ∷ []

opens_all : StartsEach (0 ∷ 1 ∷ 16 ∷ 32 ∷ 48 ∷ []) w0 nothing w5 (sent greeted_once)
opens_all = (
  w1,
  sent greeted_once,
  opens_proxy w0 [] (has_blank 0 refl),
  (
    w2,
    sent greeted_once,
    opens_coordinator w1 greeted_once (past_two _ 0 _ _ 1 _ refl (has_blank 1 refl)),
    (
      w3,
      sent greeted_once,
      opens_directory w2 greeted_once refl (past_two _ 1 _ _ 16 _ refl (past_two _ 0 _ _ 16 _ refl (has_blank 16 refl))),
      (
        w4,
        sent greeted_once,
        opens_store 32 w3 greeted_once refl blank_32,
        (w5, sent greeted_once, opens_store 48 w4 greeted_once refl blank_48, (refl, refl)),
      ),
    ),
  ),
)
  where
    blank_32 : get w3.actors 32 ≡ Some blank
    blank_32 = past_three _ 16 _ _ _ 32 _ refl (past_two _ 1 _ _ 32 _ refl (past_two _ 0 _ _ 32 _ refl (has_blank 32 refl)))

    blank_48 : get w4.actors 48 ≡ Some blank
    blank_48 = past_two _ 32 _ _ 48 _ refl (past_three _ 16 _ _ _ 48 _ refl (past_two _ 1 _ _ 48 _ refl (past_two _ 0 _ _ 48 _ refl (has_blank 48 refl))))

pub opens : TurnRun w0 opening w5
opens = record { told = sent greeted_once; is = (initial, opens_all); remarks = refl; moment = refl }

abbrev pub opened_run : Run setup opened w5
opened_run = (w0, initial, refl, opens)

-- ---- after it

pub proxy_opened : get w5.actors 0 ≡ Some (after_segment blank counts_start)
proxy_opened = past_two _ 48 _ _ 0 _ refl (past_two _ 32 _ _ 0 _ refl (past_three _ 16 _ _ _ 0 _ refl (past_two _ 1 _ _ 0 _ refl (got_here _ 0 _))))

pub coordinator_opened : get w5.actors 1 ≡ Some (after_segment blank reads_log)
coordinator_opened = past_two _ 48 _ _ 1 _ refl (past_two _ 32 _ _ 1 _ refl (past_three _ 16 _ _ _ 1 _ refl (got_here _ 1 _)))

pub directory_opened : get w5.actors 16 ≡ Some (after_segment (after_segment blank reads_cells) makes_root)
directory_opened = past_two _ 48 _ _ 16 _ refl (past_two _ 32 _ _ 16 _ refl (got_here _ 16 _))

pub small_opened : get w5.actors 32 ≡ Some (after_segment blank boots)
small_opened = past_two _ 48 _ _ 32 _ refl (got_here _ 32 _)

pub node_opened : get w5.actors 48 ≡ Some (after_segment blank boots)
node_opened = got_here _ 48 _

pub the_ensemble_opens : TheEnsembleOpens
the_ensemble_opens = record {
  world = w5;
  run = opened_run;
  empty = empty_disks;
  proxy = (memory.OfProxy (fresh fence), proxy_opened);
  coordinator = (memory.OfCoord new_coordinator, coordinator_opened);
  directory = (memory.OfSite no_site, directory_opened);
  small = (memory.OfStore no_store, small_opened);
  node = (memory.OfStore no_store, node_opened);
}
