-- The proxy's other steps are those of the machine: what it drops and refuses, and what it does for an answer.
use Rattle.std.proofs.Common.{◌≡◌, ℕ, ◌==◌, Bool, true, false, T, List, [], ◌∷◌, Option, Some, None, Result, Ok, Err, refl, sym, ap, subst, ◌∙◌, not, ◌&&◌, is_some, unwrap_or, nat_le, option_map, if◌then◌else◌}
use Rattle.std.proofs.lemmas.List.{append-nil}
use Rattle.std.specs.Ordering.{nat_cmp}
use Rattle.std.specs.FinMap.{get, empty, entries, len, get-empty}
use Rattle.sl_defs.specs.declared.setup.Setup.{Setup}
use Rattle.sl_defs.specs.declared.setup.Time.{Time}
use Rattle.sl_types.specs.declared.cred.Cred.{Cred}
use Rattle.sl_types.specs.declared.attributes.Fattr.{Fattr}
use Rattle.sl_types.specs.declared.call.Call.TheVariants as call
use Rattle.sl_types.specs.declared.kind.Status.{Status}
use Rattle.sl_types.specs.declared.reply.Reply.{Reply}
use Rattle.sl_types.specs.declared.reply.Reply.TheVariants as reply
use Rattle.sl_model.specs.Volume.{is_reg}
use Rattle.sl_frames.specs.Actors.{is_data}
use Rattle.sl_frames.specs.declared.frame.Frame.{Frame}
use Rattle.sl_frames.specs.declared.body.Body.TheVariants as body
use Rattle.sl_history.specs.Bodies.{is_welcome}
use Rattle.sl_history.specs.Turns.{Remark}
use Rattle.sl_history.specs.Turns as note
use Rattle.sl_history.specs.Arrivals.{Asked, IsJunk, IsAnswered, IsAsked, datagram, answer_to, is_changing, most_waiting}
use Rattle.sl_machine.specs.Memory.{Waiting, Request, Proxy, Soft, Actor, OfProxy, no_soft, soft_of, learnt}
use Rattle.sl_machine.specs.Calls.{refused}
use Rattle.sl_machine.specs.World.{Scene, Task, Given, Arrives, Goes, Wakes}
use Rattle.sl_machine.specs.Packets.{reply_in}
use Rattle.sl_machine.specs.Proxies.{still, notes, with_call, waiting_for, takes, arrives, does_want, ends, ready_among, first_ready, wakes, by_answer, by_packet, by_packet_if, boots_by, breaks, other_boot, has_answer, Uses, ends_look, with_attributes, learns}
use Rattle.sl_machine.specs.Proxies as proxies
use Rattle.sl_machine.specs.Runs.{ByProxy}
use Rattle.sl_world.specs.declared.look.Look.{Look}
use Rattle.sl_world.specs.declared.proxy.Proxy as code
use Rattle.sl_world.specs.Acting.{IsStep}
use Rattle.sl_world.specs.Proxying.{target, without, is_passing, asked_of, request_of, waiting_of, proxy_of, MayStep, Unchanged}
use Rattle.sl_world.proofs.Mapping.{all_so, get_so, remove_so, len_so, take_put, has_put}
use Rattle.sl_world.proofs.Wanting.{wants_refusal, refusal, refusal_is}
use Rattle.sl_world.proofs.Passing.{IsShared, look_is_shared, none_ready, calls, has_room}

-- ---- one segment

one : (p new : code.Proxy) (t : Task) (rs : List Remark) (x : Scene) (a : Actor) → x.actor ≡ 0 → a.memory ≡ Some (OfProxy (proxy_of p))
    → proxies.ProxyRow x (proxy_of p) t (notes (proxy_of new) rs []) → IsStep x a t [] rs (OfProxy (proxy_of new)) (Unchanged a)
one p new t rs x a here memory row = record {
  segments = notes (proxy_of new) rs [] ∷ [];
  after = _;
  acts = (ByProxy (proxy_of p) here memory row, refl);
  sends = refl;
  remarks = append-nil rs;
  memory = refl;
  keeps = refl;
}

-- ---- what is dropped, or answered at once

pub drops_junk : (p : code.Proxy) (n client : ℕ) (bytes : List ℕ) → datagram bytes ≡ IsJunk → MayStep p n (Arrives n client bytes) [] (note.Junk n ∷ []) p
drops_junk p n client bytes is x a here setup event memory =
    one p p (Arrives n client bytes) (note.Junk n ∷ []) x a here memory (proxies.IsTaken n client bytes refl (record { does = sym (ap (arrives (proxy_of p) n client bytes) is) }))

pub answers_now : (p : code.Proxy) (n client : ℕ) (bytes answer : List ℕ) → datagram bytes ≡ IsAnswered answer
    → MayStep p n (Arrives n client bytes) [] (note.Replied n n answer ∷ []) p
answers_now p n client bytes answer is x a here setup event memory =
    one p p (Arrives n client bytes) (note.Replied n n answer ∷ []) x a here memory (proxies.IsTaken n client bytes refl (record { does = sym (ap (arrives (proxy_of p) n client bytes) is) }))

is_early : (p : code.Proxy) (n client : ℕ) (bytes : List ℕ) (q : Asked) → p.welcomed ≡ false → takes (proxy_of p) n client bytes q ≡ notes (proxy_of p) (note.Early n ∷ []) []
is_early p n client bytes q unwelcome = rw unwelcome refl

pub drops_early : (p : code.Proxy) (n client : ℕ) (bytes : List ℕ) (q : Asked) → datagram bytes ≡ IsAsked q → p.welcomed ≡ false
    → MayStep p n (Arrives n client bytes) [] (note.Early n ∷ []) p
drops_early p n client bytes q is unwelcome x a here setup event memory =
    one p p (Arrives n client bytes) (note.Early n ∷ []) x a here memory
    (proxies.IsTaken n client bytes refl (record { does = sym (ap (arrives (proxy_of p) n client bytes) is ∙ is_early p n client bytes q unwelcome) }))

is_full : (p : code.Proxy) (n client : ℕ) (bytes : List ℕ) (q : Asked) → p.welcomed ≡ true → nat_le most_waiting (len (calls p)) ≡ true
    → takes (proxy_of p) n client bytes q ≡ notes (proxy_of p) (note.Full n ∷ []) []
is_full p n client bytes q welcomed full = rw (welcomed, full) refl

pub drops_full : (p : code.Proxy) (n client : ℕ) (bytes : List ℕ) (q : Asked) → datagram bytes ≡ IsAsked q → p.welcomed ≡ true → nat_le most_waiting (len p.pending) ≡ true
    → MayStep p n (Arrives n client bytes) [] (note.Full n ∷ []) p
drops_full p n client bytes q is welcomed full x a here setup event memory =
    one p p (Arrives n client bytes) (note.Full n ∷ []) x a here memory
    (proxies.IsTaken n client bytes refl (record {
      does = sym (ap (arrives (proxy_of p) n client bytes) is ∙ is_full p n client bytes q welcomed (ap (nat_le most_waiting) (len_so waiting_of p.pending) ∙ full));
    }))

-- ---- a call that is refused

abbrev arrived : ℕ → List ℕ → Asked → Waiting
arrived client bytes q = waiting_for client bytes q

abbrev with_arrived : code.Proxy → ℕ → ℕ → List ℕ → Asked → Proxy
with_arrived p n client bytes q = with_call n (arrived client bytes q) (proxy_of p)

takes_it : (p : code.Proxy) (n client : ℕ) (bytes : List ℕ) (q : Asked) → p.welcomed ≡ true → nat_le most_waiting (len p.pending) ≡ false
    → takes (proxy_of p) n client bytes q ≡ still (with_arrived p n client bytes q) (Goes n ∷ [])
takes_it p n client bytes q welcomed room = rw (welcomed, has_room p room) refl

forgotten : (p : code.Proxy) (n e client : ℕ) (bytes : List ℕ) (q : Asked) (t : Status)
    → ends (with_arrived p n client bytes q) n no_soft (note.Replied n e (answer_to q (reply.Getattr (Err t))) ∷ [])
    ≡ notes (proxy_of (without p n)) (note.Replied n e (answer_to q (reply.Getattr (Err t))) ∷ []) (Wakes ∷ [])
forgotten p n e client bytes q t =
    ap (λ m. notes (record (proxy_of p) { pending = m }) (note.Replied n e (answer_to q (reply.Getattr (Err t))) ∷ []) (Wakes ∷ []))
    (take_put (calls p) n (arrived client bytes q) ∙ sym (remove_so waiting_of p.pending n))

nobody_wakes : (p : code.Proxy) → wakes (proxy_of p) (first_ready (proxy_of p)) ≡ still (proxy_of p) []
nobody_wakes p = ap (wakes (proxy_of p)) (none_ready (proxy_of p) (entries (calls p)) (all_so waiting_of IsShared p.pending look_is_shared))

refuses_at : (p : code.Proxy) (n e client : ℕ) (bytes : List ℕ) (q : Asked) (object : List ℕ) (t : Status) → datagram bytes ≡ IsAsked q → q.call ≡ call.Getattr object
    → p.welcomed ≡ true → nat_le most_waiting (len p.pending) ≡ false
    → (x : Scene) (a : Actor) → x.actor ≡ 0 → e ≡ x.event → refused x.setup (call.Getattr object) q.cred x.moment ≡ Some t → a.memory ≡ Some (OfProxy (proxy_of p))
    → IsStep x a (Arrives n client bytes) [] (note.Replied n e (answer_to q (reply.Getattr (Err t))) ∷ []) (OfProxy (proxy_of (without p n))) (Unchanged a)
refuses_at p n e client bytes q object t is asks welcomed room x a here event refusal memory = record {
  segments =
      still (with_arrived p n client bytes q) (Goes n ∷ []) ∷ notes (proxy_of (without p n)) (note.Replied n e (answer_to q (reply.Getattr (Err t))) ∷ []) (Wakes ∷ [])
      ∷ still (proxy_of (without p n)) [] ∷ [];
  after = _;
  acts = (
    ByProxy (proxy_of p) here memory (proxies.IsTaken n client bytes refl (record {
      does = sym (ap (arrives (proxy_of p) n client bytes) is ∙ takes_it p n client bytes q welcomed room);
    })),
    (
      ByProxy (with_arrived p n client bytes q) here refl (proxies.IsGoing n refl (record {
        waiting = arrived client bytes q;
        is = has_put (calls p) n (arrived client bytes q);
        unasked = refl;
        does = sym (ap (does_want x (with_arrived p n client bytes q) n (arrived client bytes q))
            (wants_refusal x.setup (with_arrived p n client bytes q) x.moment (arrived client bytes q) object t asks refusal)
            ∙ ap (λ e. ends (with_arrived p n client bytes q) n no_soft (note.Replied n e (answer_to q (reply.Getattr (Err t))) ∷ [])) (sym event)
            ∙ forgotten p n e client bytes q t);
      })),
      (
        ByProxy (proxy_of (without p n)) here refl (proxies.IsWaking refl (record { does = sym (nobody_wakes (without p n)) })),
        refl,
      ),
    ),
  );
  sends = refl;
  remarks = refl;
  memory = refl;
  keeps = refl;
}

refusal_here : (s z : Setup) (object : List ℕ) (cred : Cred) (now : Time) (t : Status) → z ≡ s → target s object ≡ Err t → refused z (call.Getattr object) cred now ≡ Some t
refusal_here s z object cred now t same is = refusal_is z object cred now ∙ ap (λ y. refusal (target y object)) same ∙ ap refusal is

pub refuses_call : (p : code.Proxy) (n client : ℕ) (bytes : List ℕ) (q : Asked) (object : List ℕ) (t : Status) → datagram bytes ≡ IsAsked q → q.call ≡ call.Getattr object
    → p.welcomed ≡ true → nat_le most_waiting (len p.pending) ≡ false → target p.setup object ≡ Err t
    → MayStep p n (Arrives n client bytes) [] (note.Replied n n (answer_to q (reply.Getattr (Err t))) ∷ []) (without p n)
refuses_call p n client bytes q object t is asks welcomed room refusal x a here setup event memory =
    refuses_at p n n client bytes q object t is asks welcomed room x a here (sym event) (refusal_here p.setup x.setup object q.cred x.moment t setup refusal) memory

-- ---- the Welcome of its fence

pub is_welcomed : (p : code.Proxy) (n e : ℕ) (f : Frame) → f.fence ≡ p.fence → f.«body» ≡ body.Welcome → f.from ≡ 1 → p.welcomed ≡ false
    → MayStep p n (Given f e) [] (note.Verf p.fence ∷ []) (record p { welcomed = true })
is_welcomed p n e f fence kind sender first x a here setup event memory =
    one p (record p { welcomed = true }) (Given f e) (note.Verf p.fence ∷ []) x a here memory
    (proxies.IsGreeted f e refl (record { fence = fence; kind = kind; sender = sender; first = first; does = refl }))

-- ---- what is passed over

-- no request that is out is answered by this frame
pub record IsUnused (p : code.Proxy) (f : Frame) : Type 0 where
  pub no_answer : (k : ℕ) (l : Look) → get p.pending k ≡ Some l → f.fence ≡ p.fence → f.tag ≡ l.tag → f.from ≡ l.to
      → has_answer (waiting_of l) (request_of l).«body» f.«body» ≡ true → ⊥
  pub no_welcome : (f.fence == p.fence && (is_welcome f.«body» && (f.from == 1 && not p.welcomed))) ≡ false

-- the call, its request and what it waits for
record IsWaiting (p : code.Proxy) (k : ℕ) (w : Waiting) : Type 0 where
  look : Look
  is : get p.pending k ≡ Some look
  same : waiting_of look ≡ w

found_so : (p : code.Proxy) (k : ℕ) (w : Waiting) (o : Option Look) → get p.pending k ≡ o → option_map waiting_of o ≡ Some w → IsWaiting p k w
found_so p k w None is same = absurd (subst (λ o. T (not (is_some o))) same tt)
found_so p k w (Some l) is same = record { look = l; is = is; same = ap (λ o. unwrap_or o w) same }

out_so : (l : Look) (w : Waiting) (r : Request) → waiting_of l ≡ w → w.request ≡ Some r → request_of l ≡ r
out_so l w r same out = ap (λ o. unwrap_or o r) (ap (λ v. v.request) same ∙ out)

unused_by : (p : code.Proxy) (f : Frame) → IsUnused p f → (u : Uses (proxy_of p) f) → (l : Look) → get p.pending u.arrival ≡ Some l → waiting_of l ≡ u.waiting → request_of l ≡ u.request → ⊥
unused_by p f unused u l is same out =
    unused.no_answer u.arrival l is u.fence (u.tag ∙ sym (ap (λ r. r.tag) out)) (u.sender ∙ sym (ap (λ r. r.to) out))
    (subst (λ w. has_answer w (request_of l).«body» f.«body» ≡ true) (sym same) (subst (λ r. has_answer u.waiting r.«body» f.«body» ≡ true) (sym out) u.answer))

not_used : (p : code.Proxy) (f : Frame) → IsUnused p f → Uses (proxy_of p) f → ⊥
not_used p f unused u =
    let found = found_so p u.arrival u.waiting (get p.pending u.arrival) refl (sym (get_so waiting_of p.pending u.arrival) ∙ u.is) in
    unused_by p f unused u found.look found.is found.same (out_so found.look u.waiting u.request found.same u.out)

pub passes_over : (p : code.Proxy) (n e : ℕ) (f : Frame) → IsUnused p f → MayStep p n (Given f e) [] [] p
passes_over p n e f unused x a here setup event memory =
    one p p (Given f e) [] x a here memory (proxies.IsIgnored f e refl (record { no_answer = not_used p f unused; no_welcome = unused.no_welcome; does = refl }))

-- ---- an answer is used

-- the answer to a request that is out, whose attributes the proxy doesn't remember
pub record IsAnswer (p : code.Proxy) (f : Frame) (k : ℕ) (l : Look) (r : Result Fattr Status) : Type 0 where
  pub packet : List ℕ
  pub waits : get p.pending k ≡ Some l
  pub fence : f.fence ≡ p.fence
  pub tag : f.tag ≡ l.tag
  pub sender : f.from ≡ l.to
  pub by_directory : is_data f.from ≡ false
  pub kind : f.«body» ≡ body.Packet packet
  pub says : reply_in 1 packet ≡ Some (reply.Getattr r)

waits_so : (p : code.Proxy) (k : ℕ) (l : Look) → get p.pending k ≡ Some l → get (calls p) k ≡ Some (waiting_of l)
waits_so p k l waits = get_so waiting_of p.pending k ∙ ap (option_map waiting_of) waits

uses : (p : code.Proxy) (f : Frame) (k : ℕ) (l : Look) (r : Result Fattr Status) → IsAnswer p f k l r → Uses (proxy_of p) f
uses p f k l r answer = record {
  arrival = k;
  waiting = waiting_of l;
  request = request_of l;
  is = waits_so p k l answer.waits;
  out = refl;
  tag = answer.tag;
  fence = answer.fence;
  sender = answer.sender;
  answer = rw (answer.kind) (ap is_some answer.says);
}

no_boot : (f : Frame) → other_boot (get (empty {R = nat_cmp}) f.from) f.boot ≡ false
no_boot f = ap (λ o. other_boot o f.boot) (get-empty nat_cmp f.from)

unbroken : (p : code.Proxy) (f : Frame) (packet : List ℕ) → f.«body» ≡ body.Packet packet → is_data f.from ≡ false → breaks (proxy_of p) f ≡ false
unbroken p f packet kind by_directory = rw (kind, by_directory) refl

-- what the reply's attributes are, where none is remembered
is_not : (b : Bool) → not b ≡ true → b ≡ false
is_not false e = refl
is_not true e = sym e

same_reply : (s : Soft) (r : Result Fattr Status) → is_passing r ≡ true → with_attributes s (reply.Getattr r) ≡ reply.Getattr r
same_reply s (Ok a) pass = ap (λ b. reply.Getattr (Ok (if b then unwrap_or (soft_of s a.fileid) a else a))) (is_not (is_reg a.kind) pass)
same_reply s (Err t) pass = refl

learns_nothing : (s : Soft) (r : Result Fattr Status) → is_passing r ≡ true → learns (reply.Getattr r) s ≡ s
learns_nothing s (Ok a) pass = ap (λ b. if b then learnt a s else s) (is_not (is_reg a.kind) pass)
learns_nothing s (Err t) pass = refl

passing : (r : Result Fattr Status) → is_passing r ≡ true → (n e : ℕ) (x : Scene) (p : Proxy) (w : Waiting)
    → ends_look x p n w e (reply.Getattr r) ≡ ends p n p.soft (note.Replied n e (answer_to w.asked (reply.Getattr r)) ∷ [])
passing r pass n e x p w =
    ap (λ z. ends p n (learns z p.soft) (note.Replied n e (answer_to w.asked z) ∷ [])) (same_reply p.soft r pass)
    ∙ ap (λ s. ends p n s (note.Replied n e (answer_to w.asked (reply.Getattr r)) ∷ [])) (learns_nothing p.soft r pass)

ended : (p : code.Proxy) (k e : ℕ) (l : Look) (r : Result Fattr Status)
    → ends (proxy_of p) k no_soft (note.Replied k e (answer_to (asked_of l) (reply.Getattr r)) ∷ [])
    ≡ notes (proxy_of (without p k)) (note.Replied k e (answer_to (asked_of l) (reply.Getattr r)) ∷ []) (Wakes ∷ [])
ended p k e l r = ap (λ m. notes (record (proxy_of p) { pending = m }) (note.Replied k e (answer_to (asked_of l) (reply.Getattr r)) ∷ []) (Wakes ∷ [])) (sym (remove_so waiting_of p.pending k))

look_only : (x : Scene) (p : Proxy) (n : ℕ) (w : Waiting) (e server : ℕ) (r : Reply) → is_data server ≡ false → is_changing w.asked.call ≡ false
    → by_packet x p n w e server r ≡ ends_look x p n w e r
look_only x p n w e server r by_directory asks_only = rw (by_directory, asks_only) refl

by_directory_packet : (x : Scene) (p : code.Proxy) (f : Frame) (k e : ℕ) (l : Look) (r : Result Fattr Status) (packet : List ℕ) → is_passing r ≡ true → is_data f.from ≡ false
    → f.«body» ≡ body.Packet packet → reply_in 1 packet ≡ Some (reply.Getattr r)
    → by_answer x (record (proxy_of p) { boots = boots_by f empty }) k (waiting_of l) e f.from (request_of l).«body» f.«body»
    ≡ notes (proxy_of (without p k)) (note.Replied k e (answer_to (asked_of l) (reply.Getattr r)) ∷ []) (Wakes ∷ [])
by_directory_packet x p f k e l r packet pass by_directory kind says =
    rw (kind, by_directory, says) (look_only x (proxy_of p) k (waiting_of l) e f.from (reply.Getattr r) by_directory refl ∙ passing r pass k e x (proxy_of p) (waiting_of l) ∙ ended p k e l r)

uses_in : (x : Scene) (a : Actor) (p : code.Proxy) (f : Frame) (k e : ℕ) (l : Look) (r : Result Fattr Status) → is_passing r ≡ true → IsAnswer p f k l r
    → x.actor ≡ 0 → a.memory ≡ Some (OfProxy (proxy_of p))
    → IsStep x a (Given f e) [] (note.Replied k e (answer_to (asked_of l) (reply.Getattr r)) ∷ []) (OfProxy (proxy_of (without p k))) (Unchanged a)
unfolding uses
uses_in x a p f k e l r pass answer here memory = record {
  segments =
      notes (proxy_of (without p k)) (note.Replied k e (answer_to (asked_of l) (reply.Getattr r)) ∷ []) (Wakes ∷ []) ∷ still (proxy_of (without p k)) [] ∷ [];
  after = _;
  acts = (
    ByProxy (proxy_of p) here memory (proxies.IsUsed f e refl (record {
      uses = uses p f k l r answer;
      unbroken = unbroken p f answer.packet answer.kind answer.by_directory;
      does = sym (by_directory_packet x p f k e l r answer.packet pass answer.by_directory answer.kind answer.says);
    })),
    (
      ByProxy (proxy_of (without p k)) here refl (proxies.IsWaking refl (record { does = sym (nobody_wakes (without p k)) })),
      refl,
    ),
  );
  sends = refl;
  remarks = refl;
  memory = refl;
  keeps = refl;
}

pub answers_call : (p : code.Proxy) (n e : ℕ) (f : Frame) (k : ℕ) (l : Look) (r : Result Fattr Status) → is_passing r ≡ true → IsAnswer p f k l r
    → MayStep p n (Given f e) [] (note.Replied k e (answer_to (asked_of l) (reply.Getattr r)) ∷ []) (without p k)
answers_call p n e f k l r pass answer x a here setup event memory = uses_in x a p f k e l r pass answer here memory
