-- The ensemble opens, an actor after the other, on empty disks.
use Rattle.std.proofs.Common.{◌≡◌, ℕ, ◌==◌, ◌&&◌, Bool, true, false, List, [], ◌∷◌, ◌++◌, Some, None, refl, sym, ap, subst, ◌∙◌, cond, inl, nat_lt, lit<}
use Rattle.std.proofs.lemmas.List.{append-nil}
use Rattle.std.specs.Ordering.{nat_cmp}
use Rattle.std.specs.Cmp.{nat_cmp_total}
use Rattle.std.specs.FinMap.{empty, get, get-insert, get-empty}
use Rattle.sl_defs.specs.declared.setup.Setup.{Setup}
use Rattle.sl_route.specs.declared.class.Class.TheVariants as class
use Rattle.sl_records.specs.declared.proxy.ProxyRecord.TheVariants as start
use Rattle.sl_records.specs.declared.directory.DirRecord.TheVariants as dir
use Rattle.sl_records.specs.declared.data_server.DataRecord.TheVariants as store
use Rattle.sl_frames.specs.Actors.{is_data, is_directory}
use Rattle.sl_frames.specs.declared.frame.Frame.{Frame}
use Rattle.sl_history.specs.Placing.{carrier}
use Rattle.sl_machine.specs.Records.{Record, root_cell, started_of, cells_of, locked_in}
use Rattle.sl_machine.specs.Records as records
use Rattle.sl_machine.specs.Memory.{Site, Store, Coord, Proxy, Memory, Actor}
use Rattle.sl_machine.specs.Memory as memory
use Rattle.sl_machine.specs.World.{Opening, Founds, Scene, scene, Segment, Told, nothing, quiet, played, told, with_actor, after_segment, numbered}
use Rattle.sl_machine.specs.World as machine
use Rattle.sl_machine.specs.Directories as directory
use Rattle.sl_machine.specs.Proxies.{fresh, hello}
use Rattle.sl_machine.specs.Openings.{settled, WithoutLimbo}
use Rattle.sl_machine.specs.Runs.{Starts, Steps, ByOpenedProxy, ByOpenedCoordinator, ByOpenedDirectory, ByOpenedStore, ByDirectory, Whole, noted_of, done_by, with_notes}
use Rattle.sl_world.specs.Acting.{IsStep, frames_of, notes_of, world_after, told_after}
use Rattle.sl_world.specs.Worlds.{IsPlayed, Any}
use Rattle.sl_world.specs.Coordinating.{NoOperation}
use Rattle.sl_world.specs.Serving.{HasRoot}
use Rattle.sl_world.proofs.Maps.{got_here}
use Rattle.sl_world.proofs.Playing.{steps_are_played}
use Rattle.sl_world.proofs.Turning.{is_played, is_told}

-- ---- one actor

abbrev pub blank : Actor
blank = record { memory = None; records = []; limbo = None }

either_way : {A : Type 0} (b : Bool) (x : A) → cond b x x ≡ x
either_way true x = refl
either_way false x = refl

nothing_settled : (n : ℕ) → settled n [] ≡ []
nothing_settled n = either_way (nat_lt n 0) []

-- The actor was opened: these frames were sent, and nothing noted.
pub record IsOpened (w : machine.World) (i : ℕ) (n : Told) (frames : List Frame) (m : Memory) (Keeps : List Record → Type 0) : Type 0 where
  pub world : machine.World
  pub after : Actor
  pub starts : Starts i w n world (record n { frames = n.frames ++ numbered w.next_frame frames })
  pub played : IsPlayed w i after frames world
  pub memory : after.memory ≡ Some m
  pub keeps : Keeps after.records

begins : (i : ℕ) (w : machine.World) (n : Told) (w' : machine.World) (n' : Told) → get w.actors i ≡ Some blank
    → Steps i (Opening ∷ []) (with_actor w i blank) n w' n' → Starts i w n w' n'
begins i w n w' n' is s = inl (record {
  actor = blank;
  records = [];
  is = is;
  down = refl;
  found = WithoutLimbo refl;
  steps = subst (λ rs. Steps i (Opening ∷ []) (done_by rs (with_actor w i blank)) (with_notes rs n) w' n') (sym (nothing_settled (noted_of w i)))
      (subst (λ notes. Steps i (Opening ∷ []) (with_actor w i blank) (record { frames = n.frames; notes = notes }) w' n') (sym (append-nil n.notes)) s);
})

opened_told : (w : machine.World) (i : ℕ) (n : Told) (step_frames frames : List Frame) (segments : List Segment) → frames_of segments ≡ frames → notes_of segments ≡ []
    → record n { frames = n.frames ++ numbered w.next_frame frames } ≡ told_after (with_actor w i blank) i blank segments n
opened_told w i n step_frames frames segments sends none =
    sym (is_told (with_actor w i blank) i blank segments n ∙ ap (λ fs. record { frames = n.frames ++ numbered w.next_frame fs; notes = n.notes ++ notes_of segments }) sends
    ∙ ap (λ rs. record { frames = n.frames ++ numbered w.next_frame frames; notes = n.notes ++ rs }) none
    ∙ ap (λ rs. record { frames = n.frames ++ numbered w.next_frame frames; notes = rs }) (append-nil n.notes))

with_blank : (w : machine.World) (i : ℕ) (after : Actor) (frames : List Frame) (w' : machine.World) → IsPlayed (with_actor w i blank) i after frames w' → IsPlayed w i after frames w'
with_blank w i after frames w' p = record {
  here = p.here;
  others = λ j apart. p.others j apart ∙ get-insert nat_cmp_total w.actors i blank j ∙ ap (λ b. cond b (Some blank) (get w.actors j)) apart;
  flight = p.flight;
  next_frame = p.next_frame;
  setup = p.setup;
  event = p.event;
  moment = p.moment;
}

pub opens : (w : machine.World) (i : ℕ) (n : Told) (frames : List Frame) (m : Memory) (Keeps : List Record → Type 0) → get w.actors i ≡ Some blank
    → IsStep (scene (with_actor w i blank) i) blank Opening frames [] m Keeps → IsOpened w i n frames m Keeps
opens w i n frames m Keeps is step = record {
  world = world_after (with_actor w i blank) i blank step.segments;
  after = step.after;
  starts = begins i w n _ _ is (record {
    segments = step.segments;
    left = [];
    middle = world_after (with_actor w i blank) i blank step.segments;
    so_far = told_after (with_actor w i blank) i blank step.segments n;
    plays = steps_are_played (with_actor w i blank) i blank step.after (Opening ∷ []) step.segments n (got_here w.actors i blank) step.acts;
    ends = Whole refl refl (opened_told w i n frames frames step.segments step.sends step.remarks);
  });
  played = with_blank w i step.after frames _ (subst (λ fs. IsPlayed (with_actor w i blank) i step.after fs (world_after (with_actor w i blank) i blank step.segments)) step.sends
      (is_played (with_actor w i blank) i blank step.after (Opening ∷ []) step.segments (got_here w.actors i blank) step.acts));
  memory = step.memory;
  keeps = step.keeps;
}

-- ---- each kind of actor

pub first_fence : ℕ
first_fence = 4294967296

abbrev pub no_site : Site
no_site = record { fence = 0; low = 0; kept = empty; parked = [] }

abbrev pub new_coordinator : Coord
new_coordinator = record { site = no_site; queue = []; granted = []; acknowledged = []; owes = false; heard = false }

abbrev counts_start : Segment
counts_start = record { append = Some (records.OfProxy (start.Start 1)); memory = memory.OfProxy (fresh 4294967296); frames = hello 4294967296 ∷ []; notes = []; todo = [] }

pub proxy_step : (x : Scene) → x.actor ≡ 0 → IsStep x blank Opening (hello 4294967296 ∷ []) [] (memory.OfProxy (fresh 4294967296)) Any
proxy_step x here = record {
  segments = counts_start ∷ [];
  after = _;
  acts = (ByOpenedProxy here refl refl (record { unspent = lit< tt; does = refl }), refl);
  sends = refl;
  remarks = refl;
  memory = refl;
  keeps = tt;
}

nothing_kept : (tag : ℕ) → get (empty {X = Frame} {R = nat_cmp}) tag ≡ None
nothing_kept tag = get-empty nat_cmp tag

pub coordinator_step : (x : Scene) → x.actor ≡ 1 → IsStep x blank Opening [] [] (memory.OfCoord new_coordinator) NoOperation
unfolding started_of
coordinator_step x here = record {
  segments = quiet (memory.OfCoord new_coordinator) [] ∷ [];
  after = _;
  acts = (
    ByOpenedCoordinator here refl refl (record {
      coord = new_coordinator;
      restored = record {
        fence = refl;
        low = refl;
        kept = λ tag h. nothing_kept tag;
        gone = λ tag h. nothing_kept tag;
        parked = refl;
        queue = refl;
        granted = refl;
        acknowledged = refl;
        owes = refl;
        heard = refl;
      };
      does = refl;
    }),
    refl,
  );
  sends = refl;
  remarks = refl;
  memory = refl;
  keeps = refl;
}

abbrev reads_cells : Segment
reads_cells = quiet (memory.OfSite no_site) (Founds ∷ [])

makes_root : ℕ → Segment
makes_root volume = record { append = Some (records.OfDir (dir.Root (root_cell volume))); memory = memory.OfSite no_site; frames = []; notes = []; todo = [] }

one_carrier : (s : Setup) → s.dirs ≡ 1 → carrier s class.Dir 0 ≡ 16
unfolding carrier
one_carrier s one = rw one refl

is_due : (s : Setup) → s.dirs ≡ 1 → ((16 == carrier s class.Dir 0) && true) ≡ true
is_due s one = ap (λ n. (16 == n) && true) (one_carrier s one)

pub directory_step : (x : Scene) → x.actor ≡ 16 → x.setup.dirs ≡ 1 → IsStep x blank Opening [] [] (memory.OfSite no_site) (HasRoot x.setup.volume)
unfolding makes_root cells_of locked_in
directory_step x here one = record {
  segments = reads_cells ∷ makes_root x.setup.volume ∷ [];
  after = _;
  acts = (
    ByOpenedDirectory (ap is_directory here) refl refl (record {
      site = no_site;
      restored = record { fence = refl; low = refl; kept = λ tag h. nothing_kept tag; gone = λ tag h. nothing_kept tag; parked = refl };
      does = refl;
    }),
    (
      ByDirectory no_site (ap is_directory here) refl (directory.IsFounded refl (record {
        due = ap (λ i. (i == carrier x.setup class.Dir 0) && true) here ∙ is_due x.setup one;
        does = refl;
      })),
      refl,
    ),
  );
  sends = refl;
  remarks = refl;
  memory = refl;
  keeps = record { cells = refl; unlocked = refl };
}

abbrev pub no_store : Store
no_store = record { site = no_site; buffered = [] }

pub store_step : (x : Scene) → is_data x.actor ≡ true → IsStep x blank Opening [] [] (memory.OfStore no_store) Any
store_step x class = record {
  segments = record { append = Some (records.OfData (store.Boot 1)); memory = memory.OfStore no_store; frames = []; notes = []; todo = [] } ∷ [];
  after = _;
  acts = (ByOpenedStore class refl refl (record { does = refl }), refl);
  sends = refl;
  remarks = refl;
  memory = refl;
  keeps = tt;
}
