-- What the proxy does for a datagram.
use Rattle.std.proofs.Common.{◌≡◌, ℕ, ◌+◌, ◌%◌, ◌==◌, ◌&&◌, ◌||◌, Bool, true, false, not, List, [], ◌∷◌, ◌++◌, Some, None, refl, sym, ap, subst, ◌∙◌, arith, if◌then◌else◌}
use Rattle.std.specs.List.{list_any}
use Rattle.std.specs.Ordering.{nat_cmp}
use Rattle.std.specs.FinMap.{FinMap, get, insert, entries}
use Rattle.sl_defs.specs.declared.setup.Setup.{Setup}
use Rattle.sl_types.specs.declared.call.Call.TheVariants as call
use Rattle.sl_types.specs.declared.handle.Handle.{Handle}
use Rattle.sl_types.specs.Handles.{handle_of}
use Rattle.sl_frames.specs.declared.frame.Frame.{Frame}
use Rattle.sl_frames.specs.declared.body.Body.TheVariants as body
use Rattle.sl_route.specs.declared.class.Class.TheVariants as class
use Rattle.sl_route.specs.Places.{first_server}
use Rattle.sl_history.specs.Arrivals.{Asked}
use Rattle.sl_history.specs.Placing.{carrier, object_server}
use Rattle.sl_policy.specs.Sites.{site_of}
use Rattle.sl_machine.specs.Memory.{Waiting, Request, Proxy, Actor, OfProxy, conflict, is_taken, are_free, no_soft}
use Rattle.sl_machine.specs.Calls.{is_foreign}
use Rattle.sl_machine.specs.World.{World, Scene, Goes, Wakes, Segment, Told, scene, played, told, after_segment}
use Rattle.sl_machine.specs.Packets.{forwarded}
use Rattle.sl_machine.specs.Wants.{Want, Lock, ForwardLook, wants}
use Rattle.sl_machine.specs.Proxies.{ProxyRow, still, with_call, waiting_for, tagged, request_frame, asks, does_want, ready_among, first_ready, wakes}
use Rattle.sl_machine.specs.Runs.{Steps}
use Rattle.sl_getattr.proofs.Stepping.{same_some}
use Rattle.sl_getattr.proofs.Maps.{All, all_there, of_put, Put, IsNew, WasThere, has_put, put_again}
use Rattle.sl_getattr.proofs.Wanting.{hold_of, wants_lock, wants_answer}
use Rattle.sl_getattr.proofs.Doing.{Did, did_last, did_then, plays_on}
use Rattle.sl_getattr.proofs.Rows.{apart, goes_row, wakes_row}

-- ---- calls that share their objects, and wait for no lock

and_false : (b : Bool) → (b && false) ≡ false
and_false true = refl
and_false false = refl

pub record IsShared (w : Waiting) : Type 0 where
  pub shares : (h : Handle) → list_any (conflict (hold_of h)) w.held ≡ false
  pub awaits : w.awaits ≡ []

abbrev pub AreShared : FinMap nat_cmp Waiting → Type 0
AreShared m = (n : ℕ) (w : Waiting) → get m n ≡ Some w → IsShared w

pub shared_by : (w : Waiting) (h : Handle) → w.held ≡ hold_of h ∷ [] → w.awaits ≡ [] → IsShared w
shared_by w h held awaits = record {
  shares = λ g. ap (list_any (conflict (hold_of g))) held ∙ rw (and_false _) refl;
  awaits = awaits;
}

pub shared_put : (m : FinMap nat_cmp Waiting) (n : ℕ) (w : Waiting) → IsShared w → AreShared m → AreShared (insert m n w)
shared_put m n w shared all k v is = by (of_put m n w k v is)
  where
    by : Put m n w k v → IsShared v
    by (IsNew at same) = subst IsShared (sym same) shared
    by (WasThere other was) = all k v was

free_among : (n : ℕ) (h : Handle) (es : List (ℕ × Waiting)) → All (λ k w. IsShared w) es → is_taken n (hold_of h ∷ []) es ≡ false
free_among n h [] all = refl
free_among n h (e ∷ es) all =
    ap (λ b. (not (e.0 == n) && (b || false)) || is_taken n (hold_of h ∷ []) es) (all.0.shares h)
    ∙ ap (λ b. b || is_taken n (hold_of h ∷ []) es) (and_false (not (e.0 == n))) ∙ free_among n h es all.1

none_among : (p : Proxy) (es : List (ℕ × Waiting)) → All (λ k w. IsShared w) es → ready_among p es ≡ None
none_among p [] all = refl
none_among p (e ∷ es) all = rw (all.0.awaits) (none_among p es all.1)

pub are_free_all : (m : FinMap nat_cmp Waiting) (n : ℕ) (h : Handle) → AreShared m → are_free m n (hold_of h ∷ []) ≡ true
are_free_all m n h all = ap not (free_among n h (entries m) (all_there (λ k w. IsShared w) m all))

pub none_ready : (p : Proxy) → AreShared p.pending → first_ready p ≡ None
none_ready p all = none_among p (entries p.pending) (all_there (λ k w. IsShared w) p.pending all)

-- ---- one directory server

pub one_server : (s : Setup) (f : ℕ) → s.dirs ≡ 1 → object_server s f ≡ 16
unfolding carrier
one_server s f one = ap (λ n. first_server class.Dir + site_of f % n) one ∙ by (site_of f)
  where
    by : (site : ℕ) → 16 + site % 1 ≡ 16
    by site = omega arith

-- ---- the last segment: nobody wakes

pub wakes_none : (w : World) (n : Told) (a : Actor) (p : Proxy) (w' : World) (n' : Told) → get w.actors 0 ≡ Some a → a.memory ≡ Some (OfProxy p) → AreShared p.pending
    → Steps 0 (Wakes ∷ []) w n w' n' → Did 0 w n w' n' (Some (OfProxy p)) a.records [] []
wakes_none w n a p w' n' is up all steps =
    did_last 0 w n a (still p []) w' n' refl
    (plays_on w n a p Wakes [] w' n' (still p []) is up (λ z row. (wakes_row (scene w 0) p z row).does ∙ ap (wakes p) (none_ready p all)) refl (λ f e t uses broken. apart t refl) steps)

-- ---- a call that goes on

forced : (x : Scene) (p : Proxy) (n : ℕ) (w : Waiting) (want : Want) (s : Segment) → get p.pending n ≡ Some w → wants x.setup p x.moment w ≡ want → does_want x p n w want ≡ s
    → (z : Segment) → ProxyRow x p (Goes n) z → z ≡ s
forced x p n w want s is wanted does z row =
    let goes = goes_row x p n z row in
    goes.does ∙ ap (λ v. does_want x p n v (wants x.setup p x.moment v)) (same_some (sym goes.is ∙ is)) ∙ ap (does_want x p n w) wanted ∙ does

-- its one next segment
pub goes_on : (w : World) (n : Told) (a : Actor) (p : Proxy) (k : ℕ) (c : Waiting) (want : Want) (s : Segment) (w' : World) (n' : Told) → get w.actors 0 ≡ Some a → a.memory ≡ Some (OfProxy p)
    → get p.pending k ≡ Some c → wants w.setup p w.moment c ≡ want → does_want (scene w 0) p k c want ≡ s → s.append ≡ None → Steps 0 (Goes k ∷ []) w n w' n'
    → Steps 0 (s.todo ++ []) (played w 0 a s) (told w s n) w' n'
goes_on w n a p k c want s w' n' is up there wanted does unappended steps =
    plays_on w n a p (Goes k) [] w' n' s is up (forced (scene w 0) p k c want s there wanted does) unappended (λ f e t uses broken. apart t refl) steps

-- ---- a GETATTR that is passed on

abbrev pub fresh_call : ℕ → List ℕ → Asked → Waiting
fresh_call client bytes q = waiting_for client bytes q

abbrev pub holding : ℕ → List ℕ → Asked → Handle → Waiting
holding client bytes q h = record (waiting_for client bytes q) { held = hold_of h ∷ []; awaits = [] }

abbrev pub its_request : ℕ → List ℕ → Asked → Request
its_request tag bytes q = record { tag = tag; to = 16; boot = 0; «body» = body.Forward 0 (forwarded 16 tag q.call bytes) }

-- the proxy with the call, whose request is out
abbrev pub with_look : Proxy → ℕ → ℕ → List ℕ → Asked → Handle → Proxy
with_look p k client bytes q h =
    record p { pending = insert p.pending k (record (holding client bytes q h) { request = Some (its_request p.next_tag bytes q) }); next_tag = p.next_tag + 1 }

abbrev pub its_frame : Proxy → ℕ → ℕ → List ℕ → Asked → Handle → Frame
its_frame p k client bytes q h = request_frame (with_look p k client bytes q h) k (its_request p.next_tag bytes q)

tagged_is : (p : Proxy) (k client : ℕ) (bytes : List ℕ) (q : Asked) (h : Handle)
    → tagged (with_call k (holding client bytes q h) (with_call k (fresh_call client bytes q) p)) k (holding client bytes q h) (its_request p.next_tag bytes q) ≡ with_look p k client bytes q h
tagged_is p k client bytes q h = ap (λ m. record p { pending = m; next_tag = p.next_tag + 1 })
    (put_again (insert p.pending k (fresh_call client bytes q)) k (holding client bytes q h) last ∙ put_again p.pending k (fresh_call client bytes q) last)
  where
    last : Waiting
    last = record (holding client bytes q h) { request = Some (its_request p.next_tag bytes q) }

asks_is : (s : Setup) (x : Scene) (p : Proxy) (k client : ℕ) (bytes : List ℕ) (q : Asked) (h : Handle) → s.dirs ≡ 1
    → does_want x (with_call k (holding client bytes q h) (with_call k (fresh_call client bytes q) p)) k (holding client bytes q h) (ForwardLook (object_server s h.fileid))
    ≡ record { append = None; memory = OfProxy (with_look p k client bytes q h); frames = its_frame p k client bytes q h ∷ []; notes = []; todo = [] }
asks_is s x p k client bytes q h one =
    ap (λ to. does_want x (with_call k (holding client bytes q h) (with_call k (fresh_call client bytes q) p)) k (holding client bytes q h) (ForwardLook to)) (one_server s h.fileid one)
    ∙ ap (λ z. record { append = None; memory = OfProxy z; frames = request_frame z k (its_request p.next_tag bytes q) ∷ []; notes = []; todo = [] }) (tagged_is p k client bytes q h)

-- from where it holds its lock
asked_then : (w : World) (n : Told) (a : Actor) (p : Proxy) (k client : ℕ) (bytes object : List ℕ) (q : Asked) (h : Handle) (w' : World) (n' : Told) → w.setup.dirs ≡ 1 → get w.actors 0 ≡ Some a
    → a.memory ≡ Some (OfProxy (with_call k (holding client bytes q h) (with_call k (fresh_call client bytes q) p)))
    → q.call ≡ call.Getattr object → handle_of object ≡ Some h → is_foreign w.setup h ≡ false → p.soft ≡ no_soft → Steps 0 (Goes k ∷ []) w n w' n'
    → Did 0 w n w' n' (Some (OfProxy (with_look p k client bytes q h))) a.records (its_frame p k client bytes q h ∷ []) []
asked_then w n a p k client bytes object q h w' n' one is up asks spelled own soft steps =
    did_last 0 w n a (record { append = None; memory = OfProxy (with_look p k client bytes q h); frames = its_frame p k client bytes q h ∷ []; notes = []; todo = [] }) w' n' refl
    (goes_on w n a (with_call k (holding client bytes q h) (with_call k (fresh_call client bytes q) p)) k (holding client bytes q h) (ForwardLook (object_server w.setup h.fileid)) _ w' n' is up
    (has_put (insert p.pending k (fresh_call client bytes q)) k (holding client bytes q h))
    (wants_answer w.setup (with_call k (holding client bytes q h) (with_call k (fresh_call client bytes q) p)) w.moment (holding client bytes q h) object h asks spelled own refl refl soft)
    (asks_is w.setup (scene w 0) p k client bytes q h one) refl steps)

-- from where it waits
pub locked_then : (w : World) (n : Told) (a : Actor) (p : Proxy) (k client : ℕ) (bytes object : List ℕ) (q : Asked) (h : Handle) (w' : World) (n' : Told) → w.setup.dirs ≡ 1 → get w.actors 0 ≡ Some a
    → a.memory ≡ Some (OfProxy (with_call k (fresh_call client bytes q) p)) → AreShared p.pending
    → q.call ≡ call.Getattr object → handle_of object ≡ Some h → is_foreign w.setup h ≡ false → p.soft ≡ no_soft → Steps 0 (Goes k ∷ []) w n w' n'
    → Did 0 w n w' n' (Some (OfProxy (with_look p k client bytes q h))) a.records (its_frame p k client bytes q h ∷ []) []
locked_then w n a p k client bytes object q h w' n' one is up all asks spelled own soft steps =
    did_then 0 w n a locked w' n' _ _ _ _ refl
    (asked_then (played w 0 a locked) (told w locked n) (after_segment a locked) p k client bytes object q h w' n' one (has_put w.actors 0 (after_segment a locked)) refl asks spelled own soft
    (goes_on w n a waits k (fresh_call client bytes q) (Lock (hold_of h ∷ [])) locked w' n' is up (has_put p.pending k (fresh_call client bytes q))
    (wants_lock w.setup waits w.moment (fresh_call client bytes q) object h asks spelled own refl)
    (ap (λ b. if b then locked else still (with_call k (record (fresh_call client bytes q) { awaits = hold_of h ∷ [] }) waits) [])
    (are_free_all waits.pending k h (shared_put p.pending k (fresh_call client bytes q) (record { shares = λ g. refl; awaits = refl }) all)))
    refl steps))
  where
    waits : Proxy
    waits = with_call k (fresh_call client bytes q) p

    locked : Segment
    locked = still (with_call k (holding client bytes q h) waits) (Goes k ∷ [])
