-- The world that has opened follows the history of its opening.
use Rattle.std.proofs.Common.{◌≡◌, ℕ, zero, suc, ◌+◌, ◌<◌, ◌≤◌, true, false, List, [], ◌∷◌, Some, refl, sym, ap, subst, ◌∙◌, option_map, arith}
use Rattle.std.specs.Ordering.{nat_cmp, eq_by_cmp}
use Rattle.std.specs.Cmp.{nat_cmp_total}
use Rattle.std.proofs.lemmas.Map.Lookups.{exact_unsigned}
use Rattle.std.specs.FinMap.{empty, get, insert, get-empty, same_map}
use Rattle.sl_defs.specs.declared.setup.Setup.{Setup}
use Rattle.sl_frames.specs.Actors.{is_data}
use Rattle.sl_frames.specs.declared.frame.Frame.{Frame}
use Rattle.sl_history.specs.Turns.{Remark, Sent}
use Rattle.sl_machine.specs.Parts.{numbers}
use Rattle.sl_machine.specs.Memory.{Memory, Actor}
use Rattle.sl_machine.specs.Memory as memory
use Rattle.sl_machine.specs.World.{Told, nothing, scene, with_actor}
use Rattle.sl_machine.specs.World as machine
use Rattle.sl_machine.specs.Proxies.{fresh, hello}
use Rattle.sl_machine.specs.Runs.{StartsEach, TurnRun}
use Rattle.sl_world.specs.Coordinating.{NoOperation}
use Rattle.sl_world.specs.Serving.{HasRoot}
use Rattle.sl_world.specs.Proxying.{mapped, waiting_of, proxy_of}
use Rattle.sl_world.specs.declared.world.World.{World}
use Rattle.sl_world.specs.Handling.{silent}
use Rattle.sl_world.specs.Worlds.{IsUp, Any, IsSmall, Stands, Follows, flying_of, opening, opened, first_fence, sending}
use Rattle.sl_world.proofs.Mapping.{get_so, insert_so}
use Rattle.sl_world.proofs.Opening.{blank, IsOpened, opens, proxy_step, coordinator_step, directory_step, no_site, new_coordinator}
use Rattle.sl_world.proofs.Opened.{two, actors, first_world, has, initial, all_actors, found_left, found_right, found_behind, found_actor, AreOthers, AreDown, AreOpened, stores_open, front_0, front_1, front_16, blank_at_first}

-- ---- the data servers are down

apart_from : (n m : ℕ) → n < m → eq_by_cmp nat_cmp m n ≡ false
apart_from n m h = grind arith

others_numbers : (n first count : ℕ) → n < first → AreOthers n (numbers first count)
others_numbers n first zero h = tt
others_numbers n first (suc count) h = (apart_from n first h, others_numbers n (first + 1) count (omega arith))

others_two : (n first count second others : ℕ) → n < first → n < second → AreOthers n (two first count second others)
others_two n first zero second others h k = others_numbers n second others k
others_two n first (suc count) second others h k = (apart_from n first h, others_two n (first + 1) count second others (omega arith) k)

-- a data server that is down
abbrev IsDown : machine.World → ℕ → Type 0
IsDown w i = (get w.actors i ≡ Some blank) × (is_data i ≡ true)

down_numbers : (w : machine.World) (first count : ℕ) → ((i : ℕ) → first ≤ i → i < first + count → IsDown w i) → AreDown w (numbers first count)
down_numbers w first zero each_one = tt
down_numbers w first (suc count) each_one =
    let here = each_one first (omega arith) (omega arith) in
    (here.0, here.1, others_numbers first (first + 1) count (omega arith), down_numbers w (first + 1) count (λ i h k. each_one i (omega arith) (omega arith)))

down_two : (w : machine.World) (first count second others : ℕ) → first + count ≤ second → ((i : ℕ) → first ≤ i → i < first + count → IsDown w i)
    → ((i : ℕ) → second ≤ i → i < second + others → IsDown w i) → AreDown w (two first count second others)
down_two w first zero second others h each_one each_other = down_numbers w second others each_other
down_two w first (suc count) second others h each_one each_other =
    let here = each_one first (omega arith) (omega arith) in (
      here.0,
      here.1,
      others_two first (first + 1) count second others (omega arith) (omega arith),
      down_two w (first + 1) count second others (omega arith) (λ i h k. each_one i (omega arith) (omega arith)) each_other,
    )

small_is_data : (i n : ℕ) → n ≤ 4 → 32 ≤ i → i < 32 + n → is_data i ≡ true
small_is_data i n few h k = grind arith

node_is_data : (i n : ℕ) → n ≤ 8 → 48 ≤ i → i < 48 + n → is_data i ≡ true
node_is_data i n few h k = grind arith

-- ---- one after the other

mapped_empty : {X Y : Type 0} (g : X → Y) → mapped g empty ≡ empty
mapped_empty g = same_map nat_cmp_total exact_unsigned _ _ (λ q. get_so g empty q ∙ ap (option_map g) (get-empty nat_cmp q) ∙ sym (get-empty nat_cmp q))

module _ (s : Setup) (small : IsSmall s) where
  w0 : machine.World
  w0 = first_world s

  greeted : Told
  greeted = record { frames = Sent 1 (hello first_fence) ∷ []; notes = [] }

  proxy_opened : IsOpened (first_world s) 0 nothing (hello first_fence ∷ []) (memory.OfProxy (fresh first_fence)) Any
  proxy_opened = opens (first_world s) 0 nothing (hello first_fence ∷ []) (memory.OfProxy (fresh first_fence)) Any (has s small 0 (front_0 blank s))
      (proxy_step (scene (with_actor (first_world s) 0 blank) 0) refl)

  coordinator_opened : IsOpened proxy_opened.world 1 (record { frames = Sent 1 (hello first_fence) ∷ []; notes = [] }) [] (memory.OfCoord new_coordinator) NoOperation
  coordinator_opened = opens proxy_opened.world 1 (record { frames = Sent 1 (hello first_fence) ∷ []; notes = [] }) [] (memory.OfCoord new_coordinator) NoOperation
      (proxy_opened.played.others 1 refl ∙ has s small 1 (front_1 blank s)) (coordinator_step (scene (with_actor proxy_opened.world 1 blank) 1) refl)

  same_setup : coordinator_opened.world.setup ≡ s
  same_setup = coordinator_opened.played.setup ∙ proxy_opened.played.setup

  directory_opened : IsOpened coordinator_opened.world 16 (record { frames = Sent 1 (hello first_fence) ∷ []; notes = [] }) [] (memory.OfSite no_site) (HasRoot coordinator_opened.world.setup.volume)
  directory_opened = opens coordinator_opened.world 16 (record { frames = Sent 1 (hello first_fence) ∷ []; notes = [] }) [] (memory.OfSite no_site) (HasRoot coordinator_opened.world.setup.volume)
      (coordinator_opened.played.others 16 refl ∙ proxy_opened.played.others 16 refl ∙ has s small 16 (front_16 blank s))
      (directory_step (scene (with_actor coordinator_opened.world 16 blank) 16) refl (ap (λ (z : Setup). z.dirs) same_setup ∙ small.one))

  -- what is behind the three is as at first
  behind : (i : ℕ) → 16 < i → get directory_opened.world.actors i ≡ get (first_world s).actors i
  behind i h = directory_opened.played.others i (apart_from 16 i h) ∙ coordinator_opened.played.others i (apart_from 1 i (omega arith))
      ∙ proxy_opened.played.others i (apart_from 0 i (omega arith))

  small_down : (i : ℕ) → 32 ≤ i → i < 32 + s.small → IsDown directory_opened.world i
  small_down i h k =
      (behind i (omega arith) ∙ has s small i (found_actor blank s i (omega arith) (found_left blank i 32 s.small 48 s.nodes h k)), small_is_data i s.small small.small h k)

  few_small : 32 + s.small ≤ 48
  few_small = fits s.small small.small
    where
      fits : (n : ℕ) → n ≤ 4 → 32 + n ≤ 48
      fits n h = omega arith

  node_down : (i : ℕ) → 48 ≤ i → i < 48 + s.nodes → IsDown directory_opened.world i
  node_down i h k = (
    behind i (omega arith)
        ∙ has s small i (found_actor blank s i (omega arith) (found_behind blank i 32 s.small 48 s.nodes (reach (32 + s.small) 48 i few_small h) (found_right blank i 48 s.nodes h k))),
    node_is_data i s.nodes small.nodes h k,
  )
    where
      reach : (a b c : ℕ) → a ≤ b → b ≤ c → a ≤ c
      reach a b c h k = omega arith

  stores_opened : AreOpened directory_opened.world (two 32 s.small 48 s.nodes) (record { frames = Sent 1 (hello first_fence) ∷ []; notes = [] })
  stores_opened = stores_open (two 32 s.small 48 s.nodes) directory_opened.world (record { frames = Sent 1 (hello first_fence) ∷ []; notes = [] })
      (down_two directory_opened.world 32 s.small 48 s.nodes few_small small_down node_down)

  starts_all : StartsEach (actors s) (first_world s) nothing stores_opened.world (record { frames = Sent 1 (hello first_fence) ∷ []; notes = [] })
  starts_all = (
    proxy_opened.world,
    record { frames = Sent 1 (hello first_fence) ∷ []; notes = [] },
    proxy_opened.starts,
    (
      coordinator_opened.world,
      record { frames = Sent 1 (hello first_fence) ∷ []; notes = [] },
      coordinator_opened.starts,
      (directory_opened.world, record { frames = Sent 1 (hello first_fence) ∷ []; notes = [] }, directory_opened.starts, stores_opened.starts),
    ),
  )

  first_moment : stores_opened.world.moment ≡ record { sec = 0; nsec = 0 }
  first_moment = stores_opened.moment ∙ directory_opened.played.moment ∙ coordinator_opened.played.moment ∙ proxy_opened.played.moment

  opens_all : TurnRun (first_world s) (opening s (Sent 1 (hello first_fence) ∷ [])) stores_opened.world
  opens_all = record {
    told = record { frames = Sent 1 (hello first_fence) ∷ []; notes = [] };
    is = (initial s small, subst (λ is. StartsEach is (first_world s) nothing stores_opened.world (record { frames = Sent 1 (hello first_fence) ∷ []; notes = [] })) (sym (all_actors s small.one)) starts_all);
    remarks = refl;
    moment = sym first_moment;
  }

  same_memory : fresh first_fence ≡ proxy_of (opened s).proxy
  same_memory = ap (λ m. record (fresh first_fence) { pending = m }) (sym (mapped_empty waiting_of))

  proxy_up : IsUp stores_opened.world 0 (memory.OfProxy (proxy_of (opened s).proxy)) Any
  proxy_up = record {
    actor = proxy_opened.after;
    is = stores_opened.others 0 refl ∙ directory_opened.played.others 0 refl ∙ coordinator_opened.played.others 0 refl ∙ proxy_opened.played.here;
    memory = proxy_opened.memory ∙ ap (λ p. Some (memory.OfProxy p)) same_memory;
    keeps = tt;
  }

  coordinator_up : IsUp stores_opened.world 1 (memory.OfCoord new_coordinator) NoOperation
  coordinator_up = record {
    actor = coordinator_opened.after;
    is = stores_opened.others 1 refl ∙ directory_opened.played.others 1 refl ∙ coordinator_opened.played.here;
    memory = coordinator_opened.memory;
    keeps = coordinator_opened.keeps;
  }

  directory_up : IsUp stores_opened.world 16 (memory.OfSite no_site) (HasRoot s.volume)
  directory_up = record {
    actor = directory_opened.after;
    is = stores_opened.others 16 refl ∙ directory_opened.played.here;
    memory = directory_opened.memory;
    keeps = subst (λ (z : Setup). HasRoot z.volume directory_opened.after.records) same_setup directory_opened.keeps;
  }

  stands_opened : Stands (opened s) stores_opened.world
  stands_opened = record {
    first = refl;
    setup = stores_opened.setup ∙ directory_opened.played.setup ∙ same_setup;
    proxy = proxy_up;
    coordinator = coordinator_up;
    directory = directory_up;
    flight = stores_opened.flight ∙ directory_opened.played.flight ∙ coordinator_opened.played.flight ∙ proxy_opened.played.flight
        ∙ sym (insert_so flying_of empty 1 (record { frame = hello first_fence; event = 0 })
        ∙ ap (λ m. insert m 1 (record { frame = hello first_fence; event = 0 })) (mapped_empty flying_of));
    next_frame = stores_opened.next_frame ∙ directory_opened.played.next_frame ∙ more directory_opened.world coordinator_opened.world.next_frame
        ∙ coordinator_opened.played.next_frame ∙ more directory_opened.world proxy_opened.world.next_frame ∙ proxy_opened.played.next_frame;
    event = stores_opened.event ∙ directory_opened.played.event ∙ coordinator_opened.played.event ∙ proxy_opened.played.event;
    moment = first_moment;
  }
    where
      more : (w : machine.World) (n : ℕ) → n + 0 ≡ n
      more w n = omega arith

  pub opened_follows : Follows (opened s) (opening s (Sent 1 (hello first_fence) ∷ []) ∷ [])
  opened_follows = record { world = stores_opened.world; run = (first_world s, blank_at_first s small, refl, opens_all); stands = stands_opened }

-- what was opened so follows its opening
pub opened_so : (s : Setup) (before now : World) (first : Frame) (r : Remark) (rs : List Remark) → s.dirs ≡ 1 → s.small ≤ 4 → s.nodes ≤ 8 → first ≡ hello first_fence
    → before ≡ silent s → now ≡ sending (first ∷ []) before → r ≡ Sent before.next_frame first → rs ≡ r ∷ [] → Follows now (opening s rs ∷ [])
opened_so s before now first r rs one small nodes says came sends tells notes =
    subst (λ w. Follows w (opening s rs ∷ [])) (sym (sends ∙ ap (λ f. sending (f ∷ []) before) says ∙ ap (sending (hello first_fence ∷ [])) came))
    (subst (λ ns. Follows (opened s) (opening s ns ∷ [])) (sym (notes ∙ ap (λ n. n ∷ []) (tells ∙ ap (λ f. Sent before.next_frame f) says ∙ ap (λ w. Sent w.next_frame (hello first_fence)) came)))
    (opened_follows s (record { one = one; small = small; nodes = nodes })))
