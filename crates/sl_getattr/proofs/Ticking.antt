-- What is sent again at a tick.
use Rattle.std.proofs.Common.{◌≡◌, ℕ, List, [], ◌∷◌, ◌++◌, Option, Some, None, refl, sym, ap, subst, ◌∙◌, if◌then◌else◌}
use Rattle.std.specs.FinMap.{get, entries}
use Rattle.sl_frames.specs.declared.frame.Frame.{Frame}
use Rattle.sl_machine.specs.Memory.{Coord, Request, Waiting, Proxy, Actor, OfProxy, OfCoord}
use Rattle.sl_machine.specs.World.{World, Ticks, Segment, Told, scene, played, told}
use Rattle.sl_machine.specs.Proxies.{frame_again, frames_again, request_frame, hello}
use Rattle.sl_machine.specs.Coordinators.{again}
use Rattle.sl_machine.specs.Runs.{May, Steps}
use Rattle.sl_transport.proofs.Proper.{Each, each_both}
use Rattle.sl_getattr.proofs.Stepping.{Begun, Does, Falls, Spends, begun, not_none, coordinator_row, no_coordinator}
use Rattle.sl_getattr.proofs.Maps.{All, all_there}
use Rattle.sl_getattr.proofs.Sound.{IsCoordinator}
use Rattle.sl_getattr.proofs.Greeting.{nothing_unfinished}
use Rattle.sl_getattr.proofs.Doing.{Did, did_last, plays_on}
use Rattle.sl_getattr.proofs.Rows.{apart, proxy_ticks, coordinator_ticks}

-- ---- the proxy

abbrev pub sent_again : Proxy → List Frame
sent_again p = if p.welcomed then frames_again p (entries p.pending) else hello p.fence ∷ []

abbrev again_segment : Proxy → Segment
again_segment p = record { append = None; memory = OfProxy p; frames = sent_again p; notes = []; todo = [] }

pub proxy_ticks_so : (w : World) (n : Told) (a : Actor) (p : Proxy) (w' : World) (n' : Told) → get w.actors 0 ≡ Some a → a.memory ≡ Some (OfProxy p) → Steps 0 (Ticks ∷ []) w n w' n'
    → Did 0 w n w' n' (Some (OfProxy p)) a.records (sent_again p) []
proxy_ticks_so w n a p w' n' is up steps =
    did_last 0 w n a (again_segment p) w' n' refl
    (plays_on w n a p Ticks [] w' n' (again_segment p) is up (λ z row. (proxy_ticks (scene w 0) p z row).does) refl (λ f e t uses broken. apart t refl) steps)

-- each request goes out as before
each_request : (S : Frame → Type 0) (p : Proxy) (es : List (ℕ × Waiting)) → All (λ n c. (r : Request) → c.request ≡ Some r → S (request_frame p n r)) es → Each S (frames_again p es)
each_request S p [] all = tt
each_request S p (e ∷ es) all = each_both S (frame_again p e.0 e.1.request) (frames_again p es) (one e.1.request all.0) (each_request S p es all.1)
  where
    one : (o : Option Request) → ((r : Request) → o ≡ Some r → S (request_frame p e.0 r)) → Each S (frame_again p e.0 o)
    one None sends = tt
    one (Some r) sends = (sends r refl, tt)

pub all_requests : (S : Frame → Type 0) (p : Proxy) → ((n : ℕ) (c : Waiting) → get p.pending n ≡ Some c → (r : Request) → c.request ≡ Some r → S (request_frame p n r))
    → Each S (frames_again p (entries p.pending))
all_requests S p sends = each_request S p (entries p.pending) (all_there (λ n c. (r : Request) → c.request ≡ Some r → S (request_frame p n r)) p.pending sends)

-- ---- the coordinator has nothing to send

abbrev idle : Coord → Segment
idle m = record { append = None; memory = OfCoord m; frames = []; notes = []; todo = [] }

pub coordinator_ticks_so : (w : World) (n : Told) (a : Actor) (m : Coord) (w' : World) (n' : Told) → get w.actors 1 ≡ Some a → a.memory ≡ Some (OfCoord m) → IsCoordinator m a.records
    → Steps 1 (Ticks ∷ []) w n w' n' → Did 1 w n w' n' (Some (OfCoord m)) a.records [] []
coordinator_ticks_so w n a m w' n' is up sound steps = by (begun 1 Ticks [] w n a w' n' is steps)
  where
    does : (z : Segment) → May (scene w 1) a Ticks z → z ≡ idle m
    does z may = (coordinator_ticks (scene w 1) a m z (coordinator_row (scene w 1) a m Ticks z refl up may)).does
        ∙ ap (λ ss. record { append = None; memory = OfCoord m; frames = again a.records m ss; notes = []; todo = [] }) (nothing_unfinished a.records sound.started)

    by : Begun 1 Ticks [] w n a w' n' → Did 1 w n w' n' (Some (OfCoord m)) a.records [] []
    by (Does first) = did_last 1 w n a (idle m) w' n' refl (subst (λ (z : Segment). Steps 1 (z.todo ++ []) (played w 1 a z) (told w z n) w' n') (does first.segment first.may) first.behind)
    by (Falls cut) = absurd (not_none (sym cut.append ∙ ap (λ (z : Segment). z.append) (does cut.segment cut.may)))
    by (Spends spent) = absurd (no_coordinator a.memory m spent.proxy up spent.up)
