-- What the proxy sends asks for something, as each request does that it holds.
use Rattle.std.proofs.Common.{◌≡◌, ℕ, ◌&&◌, ◌||◌, Bool, true, false, List, [], ◌∷◌, ◌++◌, map, Option, Some, None, cond, refl, sym, ap, subst, ◌∙◌, not, arith}
use Rattle.std.specs.Prelude.{nat_le}
use Rattle.std.proofs.lemmas.Bool.Decides.{nat_tests}
use Rattle.std.specs.Ordering.{nat_cmp, eq_by_cmp}
use Rattle.std.specs.Cmp.{nat_cmp_total}
use Rattle.std.specs.FinMap.{FinMap, empty, get, insert, remove, entries, entries_sorted, find, len, get-empty, get-insert, get-remove, get-entries}
use Rattle.sl_defs.specs.declared.note.Choice.{Choice}
use Rattle.sl_defs.specs.declared.setup.Time.{Time}
use Rattle.sl_types.specs.declared.reply.Reply.{Reply}
use Rattle.sl_frames.specs.declared.body.Body.{Body}
use Rattle.sl_frames.specs.declared.body.Body.TheVariants as body
use Rattle.sl_frames.specs.declared.intent.What.{What}
use Rattle.sl_frames.specs.declared.intent.What.TheVariants as what
use Rattle.sl_frames.specs.Actors.{is_data}
use Rattle.sl_history.specs.Arrivals.{Asked, Datagram, IsJunk, IsAnswered, IsAsked, datagram, is_changing, most_waiting}
use Rattle.sl_history.specs.Legal.{no_choice}
use Rattle.sl_history.specs.Licensed.{is_request}
use Rattle.sl_machine.specs.Memory.{Hold, Request, Waiting, Proxy, Memory, Actor, Dirty, OfProxy, are_free}
use Rattle.sl_machine.specs.World.{Scene, Task, Segment}
use Rattle.sl_machine.specs.Packets.{reply_in}
use Rattle.sl_machine.specs.Wants.{Want, Lock, Recall, FlushFirst, AskFor, ListFrom, MintAt, ForwardLook, ForwardRead, ForwardWrite, ForwardEffect, Operate, Answer, Mark, wants, knowing, effect_with}
use Rattle.sl_machine.specs.Proxies.{waiting_for, answered, is_full_now, has_no_place, written_attributes, is_read, ends_read, ends_write, ends_effect, ends_look, arrives, takes, answers_as, locks, does_want, flush_of, is_ready, ready_among, first_ready, wakes, ends_operation, by_packet, by_packet_if, by_answer, boots_by, frame_again, frames_again, Opens, ProxyRow, IsTaken, IsGoing, IsWaking, IsUsed, IsRenewed, IsGreeted, IsIgnored, IsSentAgain}
use Rattle.sl_machine.specs.Proxies as proxies
use Rattle.sl_transport.specs.Kinds.{asks, IsOfItsSender}
use Rattle.sl_transport.proofs.Proper.{Each, each_either, each_both}
use Rattle.sl_transport.proofs.Opening.{Has, AreDistinct, distinct_keys}
use Rattle.sl_transport.proofs.Stepping.{same_key}

true_false : true ≡ false → ⊥
true_false e = cc

abbrev AsksFor : Option Request → Type 0
AsksFor None = Unit {0}
AsksFor (Some r) = is_request r.body ≡ true

abbrev AsksBy : Option Waiting → Type 0
AsksBy None = Unit {0}
AsksBy (Some w) = AsksFor w.request

-- each request that is held asks
abbrev pub AllAsk : FinMap nat_cmp Waiting → Type 0
AllAsk pending = (n : ℕ) → AsksBy (get pending n)

abbrev pub AsksIn : Memory → Type 0
AsksIn (OfProxy p) = AllAsk p.pending
AsksIn other = ⊥

pub record Requests (s : Segment) : Type 0 where
  pub frames : Each IsOfItsSender s.frames
  pub memory : AsksIn s.memory

requests_either : (b : Bool) {s r : Segment} → Requests s → Requests r → Requests (cond b s r)
requests_either true p q = p
requests_either false p q = q

-- ---- the calls that wait

pub none_ask : AllAsk empty
none_ask q = subst AsksBy (sym (get-empty nat_cmp q)) tt

put_asks : (pending : FinMap nat_cmp Waiting) (n : ℕ) (w : Waiting) → AllAsk pending → AsksFor w.request → AllAsk (insert pending n w)
put_asks pending n w h is q = subst AsksBy (sym (get-insert nat_cmp_total pending n w q)) (by (eq_by_cmp nat_cmp q n))
  where
    by : (b : Bool) → AsksBy (cond b (Some w) (get pending q))
    by true = is
    by false = h q

less_asks : (pending : FinMap nat_cmp Waiting) (n : ℕ) → AllAsk pending → AllAsk (remove pending n)
less_asks pending n h q = subst AsksBy (sym (get-remove nat_cmp_total pending n q)) (by (eq_by_cmp nat_cmp q n))
  where
    by : (b : Bool) → AsksBy (cond b None (get pending q))
    by true = tt
    by false = h q

abbrev EachAsks : List (ℕ × Waiting) → Type 0
EachAsks [] = Unit {0}
EachAsks (c ∷ cs) = AsksFor c.1.request × EachAsks cs

itself : (i : ℕ) → eq_by_cmp nat_cmp i i ≡ true
itself i = grind (arith, nat_tests)

first_no : (a b : Bool) → a || b ≡ false → a ≡ false
first_no false b e = refl
first_no true b e = absurd cc

second_no : (a b : Bool) → a || b ≡ false → b ≡ false
second_no false b e = e
second_no true b e = absurd cc

not_found : (q : ℕ) (cs : List (ℕ × Waiting)) → Has (map (λ c. c.0) cs) q ≡ false → find nat_cmp q cs ≡ None
not_found q [] e = refl
not_found q (c ∷ cs) e =
    ap (λ b. cond b (Some c.1) (find nat_cmp q cs)) (first_no (eq_by_cmp nat_cmp q c.0) (Has (map (λ c. c.0) cs) q) e)
    ∙ not_found q cs (second_no (eq_by_cmp nat_cmp q c.0) (Has (map (λ c. c.0) cs) q) e)

each_asks : (cs : List (ℕ × Waiting)) → AreDistinct (map (λ c. c.0) cs) → ((q : ℕ) → AsksBy (find nat_cmp q cs)) → EachAsks cs
each_asks [] distinct h = tt
each_asks (c ∷ cs) distinct h = (
  subst (λ b. AsksBy (cond b (Some c.1) (find nat_cmp c.0 cs))) (itself c.0) (h c.0),
  each_asks cs distinct.1 (λ q. by q (eq_by_cmp nat_cmp q c.0) refl),
)
  where
    by : (q : ℕ) (b : Bool) → eq_by_cmp nat_cmp q c.0 ≡ b → AsksBy (find nat_cmp q cs)
    by q true e = subst AsksBy (sym (ap (λ k. find nat_cmp k cs) (same_key q c.0 e) ∙ not_found c.0 cs distinct.0)) tt
    by q false e = subst (λ b. AsksBy (cond b (Some c.1) (find nat_cmp q cs))) e (h q)

all_each : (pending : FinMap nat_cmp Waiting) → AllAsk pending → EachAsks (entries pending)
all_each pending h = each_asks (entries pending) (distinct_keys (entries pending) (entries_sorted pending)) (λ q. subst AsksBy (get-entries pending q) (h q))

-- ---- the rows

abbrev AsksOne : Option (ℕ × Waiting) → Type 0
AsksOne None = Unit {0}
AsksOne (Some c) = AsksFor c.1.request

one_asks : (b : Bool) (c : ℕ × Waiting) (o : Option (ℕ × Waiting)) → AsksFor c.1.request → AsksOne o → AsksOne (cond b (Some c) o)
one_asks true c o p q = p
one_asks false c o p q = q

ready_asks : (p : Proxy) (cs : List (ℕ × Waiting)) → EachAsks cs → AsksOne (ready_among p cs)
ready_asks p [] h = tt
ready_asks p (c ∷ cs) h = one_asks (is_ready p c) c (ready_among p cs) h.0 (ready_asks p cs h.1)

-- a request asks, and is no Hello
request_asks : (b : Body) → is_request b ≡ true → asks b ≡ true
request_asks (body.Forward chosen packet) is = refl
request_asks (body.Ask keys) is = refl
request_asks (body.List dir cookie limit) is = refl
request_asks (body.Mint site) is = refl
request_asks (body.Intent i) is = refl
request_asks other is = absurd cc

no_hello : (b : Body) → is_request b ≡ true → b ≡ body.Hello → ⊥
no_hello b is e = true_false (sym is ∙ ap is_request e)

flush_asks : (x : Scene) (p : Proxy) (f : ℕ) (o : Option Dirty) → is_request (flush_of x p f o) ≡ true
flush_asks x p f None = refl
flush_asks x p f (Some d) = refl

hello_asks : (fence : ℕ) → IsOfItsSender (proxies.hello fence)
hello_asks fence = record { kind = refl; operation = λ e. refl; tag = λ e. refl }

frame_asks : (p : Proxy) (n : ℕ) (r : Request) → is_request r.body ≡ true → IsOfItsSender (proxies.request_frame p n r)
frame_asks p n r is = record { kind = request_asks r.body is; operation = λ e. refl; tag = λ e. absurd (no_hello r.body is e) }

module _ (p : Proxy) (h : AllAsk p.pending) where
  takes_so : (n client : ℕ) (bytes : List ℕ) (a : Asked) → Requests (takes p n client bytes a)
  takes_so n client bytes a =
      requests_either (not p.welcomed) (record { frames = tt; memory = h })
      (requests_either (nat_le most_waiting (len p.pending)) (record { frames = tt; memory = h })
      (record { frames = tt; memory = put_asks p.pending n (waiting_for client bytes a) h tt }))

  arrives_so : (n client : ℕ) (bytes : List ℕ) (d : Datagram) → Requests (arrives p n client bytes d)
  arrives_so n client bytes IsJunk = record { frames = tt; memory = h }
  arrives_so n client bytes (IsAnswered answer) = record { frames = tt; memory = h }
  arrives_so n client bytes (IsAsked a) = takes_so n client bytes a

  asks_so : (n : ℕ) (w : Waiting) (r : Request) → is_request r.body ≡ true → Requests (proxies.asks p n w r)
  asks_so n w r is = record { frames = (frame_asks (proxies.tagged p n w r) n r is, tt); memory = put_asks p.pending n (proxies.with_request r w) h is }

  answers_so : (x : Scene) (n : ℕ) (w : Waiting) (r : Reply) (mark : Mark) (did : Option Choice) → Requests (answers_as x p n w r mark did)
  answers_so x n w r mark None = record { frames = tt; memory = less_asks p.pending n h }
  answers_so x n w r mark (Some choice) = record { frames = tt; memory = less_asks p.pending n h }

  locks_so : (n : ℕ) (w : Waiting) (holds : List Hold) → AsksFor w.request → Requests (locks p n w holds)
  locks_so n w holds k =
      requests_either (are_free p.pending n holds) (record { frames = tt; memory = put_asks p.pending n (record w { held = w.held ++ holds; awaits = [] }) h k })
      (record { frames = tt; memory = put_asks p.pending n (record w { awaits = holds }) h k })

  wants_so : (x : Scene) (n : ℕ) (w : Waiting) (want : Want) → AsksFor w.request → Requests (does_want x p n w want)
  wants_so x n w (Lock holds) k = locks_so n w holds k
  wants_so x n w (Recall f) k = record { frames = tt; memory = put_asks p.pending n _ h k }
  wants_so x n w (FlushFirst f) k = asks_so n w _ (flush_asks x p f (get p.soft.dirty f))
  wants_so x n w (AskFor server ks) k = asks_so n w _ refl
  wants_so x n w (ListFrom server d cookie limit) k = asks_so n w _ refl
  wants_so x n w (MintAt site) k = asks_so n w _ refl
  wants_so x n w (ForwardLook server) k = asks_so n w _ refl
  wants_so x n w (ForwardRead server count) k = asks_so n w _ refl
  wants_so x n w (ForwardWrite server count) k = asks_so n w _ refl
  wants_so x n w (ForwardEffect server chosen) k = asks_so n w _ refl
  wants_so x n w (Operate choice parts) k = asks_so n w _ refl
  wants_so x n w (Answer e) k = answers_so x n w e.answer e.mark e.did

  wakes_so : (o : Option (ℕ × Waiting)) → AsksOne o → Requests (wakes p o)
  wakes_so None k = record { frames = tt; memory = h }
  wakes_so (Some c) k = record { frames = tt; memory = put_asks p.pending c.0 _ h k }

  operations_so : (x : Scene) (n : ℕ) (w : Waiting) (at : Time) (o : What) (e : ℕ) → Requests (ends_operation x p n w at o e)
  operations_so x n w at (what.Flush f) e = record { frames = tt; memory = put_asks p.pending n _ h tt }
  operations_so x n w at (what.Call chosen kept) e = record { frames = tt; memory = less_asks p.pending n h }

  reads_so : (x : Scene) (n : ℕ) (w : Waiting) (e : ℕ) (r : Reply) → Requests (ends_read x p n w e r)
  reads_so x n w e r = record { frames = tt; memory = less_asks p.pending n h }

  writes_so : (x : Scene) (n : ℕ) (w : Waiting) (e server : ℕ) (r : Reply) → Requests (ends_write x p n w e server r)
  writes_so x n w e server r =
      requests_either (has_no_place p.soft (written_attributes r)) (record { frames = tt; memory = put_asks p.pending n (answered w e (is_full_now w.told)) h tt })
      (record { frames = tt; memory = less_asks p.pending n h })

  effects_so : (x : Scene) (n : ℕ) (w : Waiting) (r : Reply) → Requests (ends_effect x p n w r)
  effects_so x n w r = record { frames = tt; memory = less_asks p.pending n h }

  looks_so : (x : Scene) (n : ℕ) (w : Waiting) (e : ℕ) (r : Reply) → Requests (ends_look x p n w e r)
  looks_so x n w e r = record { frames = tt; memory = less_asks p.pending n h }

  packets_so : (x : Scene) (n : ℕ) (w : Waiting) (e server : ℕ) (r : Reply) → Requests (by_packet x p n w e server r)
  packets_so x n w e server r =
      requests_either (is_data server && is_read w.asked.call) (reads_so x n w e r)
      (requests_either (is_data server) (writes_so x n w e server (effect_with (knowing x.setup p x.moment w) no_choice).answer)
      (requests_either (is_changing w.asked.call) (effects_so x n w r) (looks_so x n w e r)))

  packets_if_so : (x : Scene) (n : ℕ) (w : Waiting) (e server : ℕ) (o : Option Reply) → Requests (by_packet_if x p n w e server o)
  packets_if_so x n w e server None = record { frames = tt; memory = h }
  packets_if_so x n w e server (Some r) = packets_so x n w e server r

  uses_so : (x : Scene) (n : ℕ) (w : Waiting) (e server : ℕ) (asked answer : Body) → Requests (by_answer x p n w e server asked answer)
  uses_so x n w e server (body.Ask keys) (body.Found cells) = record { frames = tt; memory = put_asks p.pending n _ h tt }
  uses_so x n w e server (body.List d cookie limit) (body.Listed cells more) = record { frames = tt; memory = put_asks p.pending n _ h tt }
  uses_so x n w e server (body.Mint site) (body.Minted f) = record { frames = tt; memory = put_asks p.pending n _ h tt }
  uses_so x n w e server (body.Intent i) (body.Decided agreed) = operations_so x n w i.moment i.what e
  uses_so x n w e server (body.Forward chosen packet) (body.Packet answer) = packets_if_so x n w e server (reply_in w.asked.procedure answer)
  uses_so x n w e server asked answer = record { frames = tt; memory = h }

  again_asks : (n : ℕ) (o : Option Request) → AsksFor o → Each IsOfItsSender (frame_again p n o)
  again_asks n None k = tt
  again_asks n (Some r) k = (frame_asks p n r k, tt)

  all_again : (cs : List (ℕ × Waiting)) → EachAsks cs → Each IsOfItsSender (frames_again p cs)
  all_again [] k = tt
  all_again (c ∷ cs) k = each_both IsOfItsSender (frame_again p c.0 c.1.request) (frames_again p cs) (again_asks c.0 c.1.request k.0) (all_again cs k.1)

pub opens_so : (a : Actor) (s : Segment) → Opens a s → Requests s
opens_so a s opens = subst Requests (sym opens.does) (record { frames = (hello_asks _, tt); memory = none_ask })

pub proxy_so : (x : Scene) (p : Proxy) (t : Task) (s : Segment) → AllAsk p.pending → ProxyRow x p t s → Requests s
proxy_so x p t s h (IsTaken n client bytes is row) = subst Requests (sym row.does) (arrives_so p h n client bytes (datagram bytes))
proxy_so x p t s h (IsGoing n is row) = subst Requests (sym row.does) (wants_so p h x n row.waiting (wants x.setup p x.moment row.waiting) (subst AsksBy row.is (h n)))
proxy_so x p t s h (IsWaking is row) = subst Requests (sym row.does) (wakes_so p h (first_ready p) (ready_asks p (entries p.pending) (all_each p.pending h)))
proxy_so x p t s h (IsUsed f e is row) = subst Requests (sym row.does)
    (uses_so (record p { boots = boots_by f p.boots }) h x row.uses.arrival row.uses.waiting e f.from row.uses.request.«body» f.«body»)
proxy_so x p t s h (IsRenewed f e is row) = subst Requests (sym row.does) (record { frames = (hello_asks _, tt); memory = none_ask })
proxy_so x p t s h (IsGreeted f e is row) = subst Requests (sym row.does) (record { frames = tt; memory = h })
proxy_so x p t s h (IsIgnored f e is row) = subst Requests (sym row.does) (record { frames = tt; memory = h })
proxy_so x p t s h (IsSentAgain is row) = subst Requests (sym row.does) (record {
  frames = each_either IsOfItsSender p.welcomed (frames_again p (entries p.pending)) (proxies.hello p.fence ∷ []) (all_again p h (entries p.pending) (all_each p.pending h)) (hello_asks p.fence, tt);
  memory = h;
})
