-- The proxy where one call waits, and no other.
use Rattle.std.proofs.Common.{◌≡◌, ℕ, ◌+◌, ◌==◌, ◌&&◌, ◌||◌, true, false, not, nat_le, min, if◌then◌else◌, List, [], ◌∷◌, ◌++◌, Some, None, refl, sym, ap, ◌∙◌, arith}
use Rattle.std.specs.Ordering.{nat_cmp}
use Rattle.std.specs.FinMap.{FinMap, len-empty}
use Rattle.sl_frames.specs.declared.frame.Frame.{Frame}
use Rattle.sl_history.specs.Turns.{Remark, Full}
use Rattle.sl_history.specs.Arrivals.{Asked, IsAsked, datagram, most_waiting}
use Rattle.sl_machine.specs.Memory.{Hold, Request, Waiting, Soft, Proxy, Actor, OfProxy, is_taken, conflicts, low_among}
use Rattle.sl_machine.specs.World.{Scene, Given, Goes, Wakes, Segment, sends}
use Rattle.sl_machine.specs.Proxies.{still, notes, arrives, with_call, waiting_for, does_want, asks, with_request, request_frame, goes_on, ends, wakes, first_ready, ready_among, has_answer, breaks, by_answer, boots_by}
use Rattle.sl_machine.specs.Proxies as proxy
use Rattle.sl_machine.specs.Wants.{wants, Lock}
use Rattle.sl_machine.specs.Runs.{May, ByProxy}
use Rattle.sl_witness.specs.Histories.{setup, epoch, fence}
use Rattle.sl_operations.proofs.Maps.{of, inserted, got_one, replaced, emptied, entries_none, entries_one}

-- a welcomed proxy
abbrev pub proxy_of : Soft → FinMap nat_cmp ℕ → List (ℕ × Waiting) → ℕ → Proxy
proxy_of soft boots calls tag = record { fence = fence; welcomed = true; pending = of calls; soft = soft; boots = boots; next_tag = tag }

-- the same, with this one call
abbrev pub with_one : Soft → FinMap nat_cmp ℕ → ℕ → Waiting → ℕ → Proxy
with_one soft boots n w tag = proxy_of soft boots ((n, w) ∷ []) tag

abbrev pub with_none : Soft → FinMap nat_cmp ℕ → ℕ → Proxy
with_none soft boots tag = proxy_of soft boots [] tag

same_number : (n : ℕ) → (n == n) ≡ true
same_number n = grind arith

-- ---- a call arrives

pub takes_one :
    (soft : Soft) (boots : FinMap nat_cmp ℕ) (n client tag : ℕ) (bytes : List ℕ) (a : Asked) → datagram bytes ≡ IsAsked a
    → still (with_one soft boots n (waiting_for client bytes a) tag) (Goes n ∷ []) ≡ arrives (with_none soft boots tag) n client bytes (datagram bytes)
takes_one soft boots n client tag bytes a is =
    let p = with_none soft boots tag in
    let w = waiting_for client bytes a in
    sym (
    ap (arrives p n client bytes) is
    ∙ (ap (λ count. if nat_le most_waiting count then notes p (Full n ∷ []) [] else still (with_call n w p) (Goes n ∷ [])) (len-empty nat_cmp Waiting)
    ∙ ap (λ m. still (record p { pending = m }) (Goes n ∷ [])) (inserted [] n w)))

-- ---- it goes on

abbrev pub with_locks : List Hold → Waiting → Waiting
with_locks holds w = record w { held = w.held ++ holds; awaits = [] }

pub locks_one :
    (x : Scene) (soft : Soft) (boots : FinMap nat_cmp ℕ) (n tag : ℕ) (w : Waiting) (holds : List Hold)
    → wants setup (with_one soft boots n w tag) epoch w ≡ Lock holds
    → still (with_one soft boots n (with_locks holds w) tag) (Goes n ∷ [])
    ≡ does_want x (with_one soft boots n w tag) n w (wants setup (with_one soft boots n w tag) epoch w)
locks_one x soft boots n tag w holds is =
    let p = with_one soft boots n w tag in
    let go = still (with_call n (with_locks holds w) p) (Goes n ∷ []) in
    let other = still (with_call n (record w { awaits = holds }) p) [] in
    sym (
    ap (does_want x p n w) is
    ∙ (ap (λ b. if not b then go else other) (ap (is_taken n holds) (entries_one n w) ∙ ap (λ b. (not b && conflicts holds w.held) || false) (same_number n))
    ∙ ap (λ m. still (record p { pending = m }) (Goes n ∷ [])) (replaced n w (with_locks holds w))))

-- the frame of its request
abbrev pub frame_of : ℕ → Request → Frame
frame_of n r = record { from = 0; to = r.to; fence = fence; tag = r.tag; low = r.tag; op = 0; boot = r.boot; arrival = n; «body» = r.«body» }

pub asks_one :
    (soft : Soft) (boots : FinMap nat_cmp ℕ) (n : ℕ) (w : Waiting) (r : Request) → min r.tag (r.tag + 1) ≡ r.tag
    → sends (OfProxy (with_one soft boots n (with_request r w) (r.tag + 1))) (frame_of n r) [] ≡ asks (with_one soft boots n w r.tag) n w r
asks_one soft boots n w r least =
    let p = with_one soft boots n w (r.tag + 1) in
    let q = with_one soft boots n (with_request r w) (r.tag + 1) in
    sym (
    ap (λ m. sends (OfProxy (record p { pending = m })) (request_frame (record p { pending = m }) n r) []) (replaced n w (with_request r w))
    ∙ ap (λ low. sends (OfProxy q) (record (frame_of n r) { low = low }) []) (ap (λ es. low_among es (r.tag + 1)) (entries_one n (with_request r w)) ∙ least))

pub goes_on_one :
    (soft : Soft) (boots : FinMap nat_cmp ℕ) (n tag : ℕ) (w u : Waiting)
    → still (with_one soft boots n u tag) (Goes n ∷ []) ≡ goes_on (with_one soft boots n w tag) n u
goes_on_one soft boots n tag w u = sym (ap (λ m. still (record (with_one soft boots n w tag) { pending = m }) (Goes n ∷ [])) (replaced n w u))

-- ---- it ends

pub ends_one :
    (soft later : Soft) (boots : FinMap nat_cmp ℕ) (n tag : ℕ) (w : Waiting) (rs : List Remark)
    → notes (with_none later boots tag) rs (Wakes ∷ []) ≡ ends (with_one soft boots n w tag) n later rs
ends_one soft later boots n tag w rs = sym (ap (λ m. notes (record (with_none later boots tag) { pending = m }) rs (Wakes ∷ [])) (emptied n w))

pub rests :
    (soft : Soft) (boots : FinMap nat_cmp ℕ) (tag : ℕ) → still (with_none soft boots tag) [] ≡ wakes (with_none soft boots tag) (first_ready (with_none soft boots tag))
rests soft boots tag = let p = with_none soft boots tag in sym (ap (λ es. wakes p (ready_among p es)) entries_none)

-- ---- rows

pub may_go :
    (x : Scene) (a : Actor) (soft : Soft) (boots : FinMap nat_cmp ℕ) (n tag : ℕ) (w : Waiting) (g : Segment) → x.actor ≡ 0
    → a.memory ≡ Some (OfProxy (with_one soft boots n w tag)) → w.request ≡ None
    → g ≡ does_want x (with_one soft boots n w tag) n w (wants x.setup (with_one soft boots n w tag) x.moment w) → May x a (Goes n) g
may_go x a soft boots n tag w g at is unasked does =
    ByProxy (with_one soft boots n w tag) at is (proxy.IsGoing n refl (record { waiting = w; is = got_one n w; unasked = unasked; does = does }))

pub may_rest :
    (x : Scene) (a : Actor) (soft : Soft) (boots : FinMap nat_cmp ℕ) (tag : ℕ) → x.actor ≡ 0 → a.memory ≡ Some (OfProxy (with_none soft boots tag))
    → May x a Wakes (still (with_none soft boots tag) [])
may_rest x a soft boots tag at is = ByProxy (with_none soft boots tag) at is (proxy.IsWaking refl (record { does = rests soft boots tag }))

-- an answer of the proxy's fence, from the server that was asked
pub may_use :
    (x : Scene) (a : Actor) (soft : Soft) (boots : FinMap nat_cmp ℕ) (n tag : ℕ) (w : Waiting) (r : Request) (f : Frame) (e : ℕ) (g : Segment) → x.actor ≡ 0
    → a.memory ≡ Some (OfProxy (with_one soft boots n w tag)) → w.request ≡ Some r → f.tag ≡ r.tag → f.fence ≡ fence → f.from ≡ r.to
    → has_answer w r.«body» f.«body» ≡ true → breaks (with_one soft boots n w tag) f ≡ false
    → g ≡ by_answer x (with_one soft (boots_by f boots) n w tag) n w e f.from r.«body» f.«body» → May x a (Given f e) g
may_use x a soft boots n tag w r f e g at is out tag_is fence_is sender answer unbroken does =
    ByProxy (with_one soft boots n w tag) at is (proxy.IsUsed f e refl (record {
      uses = record { arrival = n; waiting = w; request = r; is = got_one n w; out = out; tag = tag_is; fence = fence_is; sender = sender; answer = answer };
      unbroken = unbroken;
      does = does;
    }))
