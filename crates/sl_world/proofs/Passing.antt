-- The proxy's steps for a datagram are those of the machine.
use Rattle.std.proofs.Common.{◌≡◌, ℕ, ◌+◌, ◌==◌, Bool, true, false, List, [], ◌∷◌, Some, None, refl, sym, ap, ◌∙◌, not, ◌&&◌, ◌||◌, min, nat_le}
use Rattle.std.specs.List.{list_any}
use Rattle.std.specs.Ordering.{nat_cmp}
use Rattle.std.specs.FinMap.{FinMap, insert, entries, len}
use Rattle.sl_defs.specs.declared.setup.Setup.{Setup}
use Rattle.sl_types.specs.declared.handle.Handle.{Handle}
use Rattle.sl_types.specs.Handles.{handle_of, handle_text}
use Rattle.sl_frames.specs.declared.body.Body.TheVariants as body
use Rattle.sl_history.specs.Arrivals.{IsAsked, datagram, most_waiting}
use Rattle.sl_history.specs.Placing.{object_server}
use Rattle.sl_machine.specs.Memory.{Hold, Waiting, Request, Proxy, Actor, OfProxy, conflict, conflicts, is_taken, are_free, nothing_told, no_soft, low_among}
use Rattle.sl_machine.specs.Memory as memory
use Rattle.sl_machine.specs.Calls.{is_foreign}
use Rattle.sl_machine.specs.World.{Scene, Arrives, Goes, sends}
use Rattle.sl_machine.specs.Packets.{forwarded}
use Rattle.sl_machine.specs.Proxies.{still, notes, with_call, waiting_for, takes, arrives, with_request, tagged, request_frame, asks, request, locks, does_want, ends, ready_among, first_ready, wakes, awaits_some}
use Rattle.sl_machine.specs.Proxies as proxies
use Rattle.sl_machine.specs.Runs.{ByProxy}
use Rattle.sl_world.specs.declared.look.Look.{Look}
use Rattle.std.specs.Prelude.{map as each}
use Rattle.sl_world.specs.declared.proxy.Proxy as code
use Rattle.sl_world.specs.Acting.{IsStep}
use Rattle.sl_world.specs.Proxying.{mapped, call_of, asked_of, request_of, hold_of, waiting_of, proxy_of, low_in, low_of, with_look, frame_of, MayStep, Unchanged}
use Rattle.sl_world.proofs.Mapping.{All, all_put, all_so, so, entries_so, insert_so, len_so, put_again, has_put}
use Rattle.sl_world.proofs.Wanting.{wants_lock, wants_answer}

-- ---- calls that share their objects, and wait for no lock

pub and_false : (b : Bool) → (b && false) ≡ false
and_false true = refl
and_false false = refl

pub record IsShared (w : Waiting) : Type 0 where
  pub shares : (h : Handle) → list_any (conflict (hold_of h)) w.held ≡ false
  pub awaits : w.awaits ≡ []

pub look_is_shared : (l : Look) → IsShared (waiting_of l)
look_is_shared l = record { shares = λ h. rw (and_false _) refl; awaits = refl }

pub free_among : (n : ℕ) (h : Handle) (es : List (ℕ × Waiting)) → All IsShared es → is_taken n (hold_of h ∷ []) es ≡ false
free_among n h [] all = refl
free_among n h (e ∷ es) all =
    ap (λ b. (not (e.0 == n) && (b || false)) || is_taken n (hold_of h ∷ []) es) (all.0.shares h)
    ∙ ap (λ b. b || is_taken n (hold_of h ∷ []) es) (and_false (not (e.0 == n))) ∙ free_among n h es all.1

pub none_ready : (p : Proxy) (es : List (ℕ × Waiting)) → All IsShared es → ready_among p es ≡ None
none_ready p [] all = refl
none_ready p (e ∷ es) all = rw (all.0.awaits) (none_ready p es all.1)

-- ---- a call is passed on

-- the call as it arrives, and with its lock
abbrev arrived : Look → Waiting
arrived l = waiting_for l.client l.packet (asked_of l)

abbrev holding : Look → Waiting
holding l = record (arrived l) { held = hold_of l.handle ∷ []; awaits = [] }

-- the call has a handle of this volume, and its request is the next one, to the object's server
pub record IsNext (p : code.Proxy) (l : Look) : Type 0 where
  pub spelled : handle_of (handle_text l.handle) ≡ Some l.handle
  pub own : is_foreign p.setup l.handle ≡ false
  pub tag : l.tag ≡ p.next_tag
  pub to : l.to ≡ object_server p.setup l.handle.fileid

abbrev pub calls : code.Proxy → FinMap nat_cmp Waiting
calls p = mapped waiting_of p.pending

abbrev with_arrived : code.Proxy → ℕ → Look → Proxy
with_arrived p n l = with_call n (arrived l) (proxy_of p)

abbrev with_holding : code.Proxy → ℕ → Look → Proxy
with_holding p n l = with_call n (holding l) (with_arrived p n l)

pub has_room : (p : code.Proxy) → nat_le most_waiting (len p.pending) ≡ false → nat_le most_waiting (len (calls p)) ≡ false
has_room p room = ap (nat_le most_waiting) (len_so waiting_of p.pending) ∙ room

takes_it : (p : code.Proxy) (n : ℕ) (l : Look) → p.welcomed ≡ true → nat_le most_waiting (len p.pending) ≡ false
    → takes (proxy_of p) n l.client l.packet (asked_of l) ≡ still (with_arrived p n l) (Goes n ∷ [])
takes_it p n l welcomed room = rw (welcomed, has_room p room) refl

all_shared : (p : code.Proxy) (n : ℕ) (l : Look) → All IsShared (entries (insert (calls p) n (arrived l)))
all_shared p n l = all_put IsShared (calls p) n (arrived l) (record { shares = λ h. refl; awaits = refl }) (all_so waiting_of IsShared p.pending look_is_shared)

locks_it : (p : code.Proxy) (n : ℕ) (l : Look) → locks (with_arrived p n l) n (arrived l) (hold_of l.handle ∷ []) ≡ still (with_holding p n l) (Goes n ∷ [])
locks_it p n l = rw (free_among n l.handle (entries (insert (calls p) n (arrived l))) (all_shared p n l)) refl

low_so : (es : List (ℕ × Look)) (low : ℕ) → low_among (each (so waiting_of) es) low ≡ low_in es low
low_so [] low = refl
low_so (e ∷ es) low = ap (min e.1.tag) (low_so es low)

pub low_is : (p : code.Proxy) → memory.low_of (proxy_of p) ≡ low_of p
low_is p = ap (λ es. low_among es p.next_tag) (entries_so waiting_of p.pending) ∙ low_so (entries p.pending) p.next_tag

tagged_is : (p : code.Proxy) (n : ℕ) (l : Look) → tagged (with_holding p n l) n (holding l) (request_of l) ≡ proxy_of (with_look p n l)
tagged_is p n l = ap (λ m. record (proxy_of p) { pending = m; next_tag = p.next_tag + 1 })
    (put_again (insert (calls p) n (arrived l)) n (holding l) (waiting_of l) ∙ put_again (calls p) n (arrived l) (waiting_of l) ∙ sym (insert_so waiting_of p.pending n l))

frame_is : (p : code.Proxy) (n : ℕ) (l : Look) → request_frame (proxy_of (with_look p n l)) n (request_of l) ≡ frame_of (with_look p n l) n l
frame_is p n l = ap (λ low. record { from = 0; to = l.to; fence = p.fence; tag = l.tag; low = low; op = 0; boot = 0; arrival = n; «body» = body.Forward 0 (forwarded l.to l.tag (call_of l) l.packet) })
    (low_is (with_look p n l))

asks_it : (p : code.Proxy) (n : ℕ) (l : Look)
    → asks (with_holding p n l) n (holding l) (request_of l) ≡ sends (OfProxy (proxy_of (with_look p n l))) (frame_of (with_look p n l) n l) []
asks_it p n l =
    ap (λ q. sends (OfProxy q) (request_frame q n (request_of l)) []) (tagged_is p n l)
    ∙ ap (λ f. sends (OfProxy (proxy_of (with_look p n l))) f []) (frame_is p n l)

request_is : (p : code.Proxy) (n : ℕ) (l : Look) (s : Setup) → s ≡ p.setup → IsNext p l
    → request (with_holding p n l) (object_server s l.handle.fileid) 0 (body.Forward 0 (forwarded (object_server s l.handle.fileid) p.next_tag (call_of l) l.packet)) ≡ request_of l
request_is p n l s same next = rw (same, sym next.to, sym next.tag) refl

passes_in : (x : Scene) (a : Actor) (p : code.Proxy) (n : ℕ) (l : Look) → p.welcomed ≡ true → nat_le most_waiting (len p.pending) ≡ false
    → datagram l.packet ≡ IsAsked (asked_of l) → IsNext p l → x.actor ≡ 0 → x.setup ≡ p.setup → a.memory ≡ Some (OfProxy (proxy_of p))
    → IsStep x a (Arrives n l.client l.packet) (frame_of (with_look p n l) n l ∷ []) [] (OfProxy (proxy_of (with_look p n l))) (Unchanged a)
passes_in x a p n l welcomed room asked next here setup memory = record {
  segments = still (with_arrived p n l) (Goes n ∷ []) ∷ still (with_holding p n l) (Goes n ∷ []) ∷ sends (OfProxy (proxy_of (with_look p n l))) (frame_of (with_look p n l) n l) [] ∷ [];
  after = _;
  acts = (
    ByProxy (proxy_of p) here memory (proxies.IsTaken n l.client l.packet refl (record {
      does = sym (ap (arrives (proxy_of p) n l.client l.packet) asked ∙ takes_it p n l welcomed room);
    })),
    (
      ByProxy (with_arrived p n l) here refl (proxies.IsGoing n refl (record {
        waiting = arrived l;
        is = has_put (calls p) n (arrived l);
        unasked = refl;
        does = sym (ap (does_want x (with_arrived p n l) n (arrived l))
            (wants_lock x.setup (with_arrived p n l) x.moment (arrived l) (handle_text l.handle) l.handle refl next.spelled (ap (λ s. is_foreign s l.handle) setup ∙ next.own) refl)
            ∙ locks_it p n l);
      })),
      (
        ByProxy (with_holding p n l) here refl (proxies.IsGoing n refl (record {
          waiting = holding l;
          is = has_put (insert (calls p) n (arrived l)) n (holding l);
          unasked = refl;
          does = sym (ap (does_want x (with_holding p n l) n (holding l))
              (wants_answer x.setup (with_holding p n l) x.moment (holding l) (handle_text l.handle) l.handle refl next.spelled (ap (λ s. is_foreign s l.handle) setup ∙ next.own) refl refl refl)
              ∙ ap (asks (with_holding p n l) n (holding l)) (request_is p n l x.setup setup next) ∙ asks_it p n l);
        })),
        refl,
      ),
    ),
  );
  sends = refl;
  remarks = refl;
  memory = refl;
  keeps = refl;
}

pub passes : (p : code.Proxy) (n : ℕ) (l : Look) → p.welcomed ≡ true → nat_le most_waiting (len p.pending) ≡ false → datagram l.packet ≡ IsAsked (asked_of l) → IsNext p l
    → MayStep p n (Arrives n l.client l.packet) (frame_of (with_look p n l) n l ∷ []) [] (with_look p n l)
passes p n l welcomed room asked next x a here setup event memory = passes_in x a p n l welcomed room asked next here setup memory
