-- What the history says of the proxy is what the proxy holds: its fence, whether it is welcomed, and the calls that wait.
use Rattle.std.proofs.Common.{◌≡◌, ℕ, ◌+◌, ◌<◌, ◌==◌, Bool, true, false, not, List, [], ◌∷◌, ◌++◌, filter, length, Option, Some, None, refl, sym, ap, ◌∙◌, arith, nat_le, if◌then◌else◌}
use Rattle.std.proofs.lemmas.List.{append-nil}
use Rattle.std.specs.Ordering.{nat_cmp}
use Rattle.std.specs.FinMap.{empty, get, insert, remove, keys, len}
use Rattle.sl_frames.specs.declared.frame.Frame.{Frame}
use Rattle.sl_frames.specs.declared.body.Body.TheVariants as body
use Rattle.sl_history.specs.Turns.{Remark, Sent, Did, Flush, Verf, Replied, Junk, Early, Full, Lost, Down, Turn, History, events}
use Rattle.sl_history.specs.Arrivals.{Asked, Datagram, datagram, asked_by, arrives, waits_on, waiting, drops_any, is_welcomed, crowded, turned_away, dropped_by, most_waiting, same_fence}
use Rattle.sl_history.specs.Frames.{or_else, hello_in, hello_fence, verf_of, last_among, last_in, last_hello, last_verf}
use Rattle.sl_history.specs.Frames as history
use Rattle.sl_history.specs.Licensed.{flush_in}
use Rattle.sl_machine.specs.Memory.{Waiting, Proxy}
use Rattle.sl_machine.specs.World.{numbered}
use Rattle.sl_transport.proofs.Proper.{Each}
use Rattle.sl_getattr.proofs.Keys.{keys_put, keys_removed, many_keys, none_without, no_keys}
use Rattle.sl_getattr.proofs.Stepping.{not_both}
use Rattle.sl_getattr.proofs.Licensing.{AreHarmless}

-- ---- the history and the proxy

pub record Counted (h : History) (p : Proxy) : Type 0 where
  pub hello : last_hello h ≡ Some p.fence
  pub verf : last_verf h ≡ (if p.welcomed then Some p.fence else None)
  pub waits : waiting h ≡ keys p.pending
  pub none : p.welcomed ≡ false → p.pending ≡ empty
  pub fence : 0 < p.fence

-- ---- notes that change nothing of it

abbrev pub IsCalm : List Remark → Type 0
IsCalm [] = Unit {0}
IsCalm (Sent k f ∷ rs) = (hello_in f f.«body» ≡ None) × IsCalm rs
IsCalm (Did n at choice ∷ rs) = ⊥
IsCalm (Flush f ∷ rs) = ⊥
IsCalm (Verf v ∷ rs) = ⊥
IsCalm (Replied n e bytes ∷ rs) = ⊥
IsCalm (r ∷ rs) = IsCalm rs

calm_hello : (rs : List Remark) → IsCalm rs → last_among hello_fence rs ≡ None
calm_hello [] calm = refl
calm_hello (Sent k f ∷ rs) calm = ap (λ o. or_else o (hello_in f f.«body»)) (calm_hello rs calm.1) ∙ calm.0
calm_hello (Did n at choice ∷ rs) calm = absurd calm
calm_hello (Flush f ∷ rs) calm = absurd calm
calm_hello (Verf v ∷ rs) calm = absurd calm
calm_hello (Replied n e bytes ∷ rs) calm = absurd calm
calm_hello (Junk n ∷ rs) calm = ap (λ o. or_else o None) (calm_hello rs calm)
calm_hello (Early n ∷ rs) calm = ap (λ o. or_else o None) (calm_hello rs calm)
calm_hello (Full n ∷ rs) calm = ap (λ o. or_else o None) (calm_hello rs calm)
calm_hello (Lost n ∷ rs) calm = ap (λ o. or_else o None) (calm_hello rs calm)
calm_hello (Down a ∷ rs) calm = ap (λ o. or_else o None) (calm_hello rs calm)

calm_verf : (rs : List Remark) → IsCalm rs → last_among verf_of rs ≡ None
calm_verf [] calm = refl
calm_verf (Sent k f ∷ rs) calm = ap (λ o. or_else o None) (calm_verf rs calm.1)
calm_verf (Did n at choice ∷ rs) calm = absurd calm
calm_verf (Flush f ∷ rs) calm = absurd calm
calm_verf (Verf v ∷ rs) calm = absurd calm
calm_verf (Replied n e bytes ∷ rs) calm = absurd calm
calm_verf (Junk n ∷ rs) calm = ap (λ o. or_else o None) (calm_verf rs calm)
calm_verf (Early n ∷ rs) calm = ap (λ o. or_else o None) (calm_verf rs calm)
calm_verf (Full n ∷ rs) calm = ap (λ o. or_else o None) (calm_verf rs calm)
calm_verf (Lost n ∷ rs) calm = ap (λ o. or_else o None) (calm_verf rs calm)
calm_verf (Down a ∷ rs) calm = ap (λ o. or_else o None) (calm_verf rs calm)

calm_waits : (rs : List Remark) (ns : List ℕ) → IsCalm rs → waits_on rs ns ≡ ns
calm_waits [] ns calm = refl
calm_waits (Sent k f ∷ rs) ns calm = calm_waits rs ns calm.1
calm_waits (Did n at choice ∷ rs) ns calm = absurd calm
calm_waits (Flush f ∷ rs) ns calm = absurd calm
calm_waits (Verf v ∷ rs) ns calm = absurd calm
calm_waits (Replied n e bytes ∷ rs) ns calm = absurd calm
calm_waits (Junk n ∷ rs) ns calm = calm_waits rs ns calm
calm_waits (Early n ∷ rs) ns calm = calm_waits rs ns calm
calm_waits (Full n ∷ rs) ns calm = calm_waits rs ns calm
calm_waits (Lost n ∷ rs) ns calm = calm_waits rs ns calm
calm_waits (Down a ∷ rs) ns calm = calm_waits rs ns calm

pub calm_both : (rs qs : List Remark) → IsCalm rs → IsCalm qs → IsCalm (rs ++ qs)
calm_both [] qs p q = q
calm_both (Sent k f ∷ rs) qs p q = (p.0, calm_both rs qs p.1 q)
calm_both (Did n at choice ∷ rs) qs p q = absurd p
calm_both (Flush f ∷ rs) qs p q = absurd p
calm_both (Verf v ∷ rs) qs p q = absurd p
calm_both (Replied n e bytes ∷ rs) qs p q = absurd p
calm_both (Junk n ∷ rs) qs p q = calm_both rs qs p q
calm_both (Early n ∷ rs) qs p q = calm_both rs qs p q
calm_both (Full n ∷ rs) qs p q = calm_both rs qs p q
calm_both (Lost n ∷ rs) qs p q = calm_both rs qs p q
calm_both (Down a ∷ rs) qs p q = calm_both rs qs p q

-- ---- a turn

-- nothing of fences is noted
hello_stays : (past : History) (t : Turn) (o : Option ℕ) → last_among hello_fence t.remarks ≡ None → last_hello past ≡ o → last_hello (t ∷ past) ≡ o
unfolding last_hello
hello_stays past t o none is = ap (λ z. or_else z (last_in hello_fence past)) none ∙ is

verf_stays : (past : History) (t : Turn) (o : Option ℕ) → last_among verf_of t.remarks ≡ None → last_verf past ≡ o → last_verf (t ∷ past) ≡ o
unfolding last_verf
verf_stays past t o none is = ap (λ z. or_else z (last_in verf_of past)) none ∙ is

waits_after : (past : History) (t : Turn) → waiting (t ∷ past) ≡ waits_on t.remarks (waiting past ++ arrives (events (t ∷ past)) t (asked_by t))
unfolding waiting
waits_after past t = refl

-- Nothing of it changes.
pub counted_calm : (past : History) (t : Turn) (p : Proxy) → IsCalm t.remarks → arrives (events (t ∷ past)) t (asked_by t) ≡ [] → Counted past p → Counted (t ∷ past) p
counted_calm past t p calm nothing c = record {
  hello = hello_stays past t (Some p.fence) (calm_hello t.remarks calm) c.hello;
  verf = verf_stays past t (if p.welcomed then Some p.fence else None) (calm_verf t.remarks calm) c.verf;
  waits = waits_after past t ∙ calm_waits t.remarks (waiting past ++ arrives (events (t ∷ past)) t (asked_by t)) calm ∙ ap (λ ns. waiting past ++ ns) nothing ∙ append-nil (waiting past) ∙ c.waits;
  none = c.none;
  fence = c.fence;
}

-- The proxy says hello again.
pub counted_hello : (past : History) (t : Turn) (p : Proxy) (k : ℕ) (f : Frame) → t.remarks ≡ Sent k f ∷ [] → hello_in f f.«body» ≡ Some p.fence → arrives (events (t ∷ past)) t (asked_by t) ≡ []
    → Counted past p → Counted (t ∷ past) p
unfolding last_hello
counted_hello past t p k f are says nothing c = record {
  hello = ap (λ rs. or_else (last_among hello_fence rs) (last_in hello_fence past)) are ∙ ap (λ o. or_else (or_else None o) (last_in hello_fence past)) says;
  verf = verf_stays past t (if p.welcomed then Some p.fence else None) (ap (last_among verf_of) are) c.verf;
  waits = waits_after past t ∙ ap (λ rs. waits_on rs (waiting past ++ arrives (events (t ∷ past)) t (asked_by t))) are ∙ ap (λ ns. waiting past ++ ns) nothing ∙ append-nil (waiting past) ∙ c.waits;
  none = c.none;
  fence = c.fence;
}

-- The proxy is welcomed.
pub counted_verf : (past : History) (t : Turn) (p : Proxy) → t.remarks ≡ Verf p.fence ∷ [] → p.welcomed ≡ false → Counted past p → Counted (t ∷ past) (record p { welcomed = true })
unfolding last_verf
counted_verf past t p are first c = record {
  hello = hello_stays past t (Some p.fence) (ap (last_among hello_fence) are) c.hello;
  verf = ap (λ rs. or_else (last_among verf_of rs) (last_in verf_of past)) are;
  waits = waits_after past t ∙ ap (λ rs. waits_on rs (waiting past ++ arrives (events (t ∷ past)) t (asked_by t))) are ∙ sym (ap (λ m. keys m) (c.none first) ∙ no_keys Waiting);
  none = λ e. absurd (not_both refl e);
  fence = c.fence;
}

abbrev pub without_key : ℕ → List ℕ → List ℕ
without_key n ns = filter (λ k. not (k == n)) ns

without_last : (n : ℕ) (ns : List ℕ) → without_key n (ns ++ n ∷ []) ≡ without_key n ns
without_last n [] = ap (λ b. if not b then n ∷ [] else []) (itself n)
  where
    itself : (k : ℕ) → (k == k) ≡ true
    itself k = grind arith
without_last n (k ∷ ns) = by (not (k == n)) (without_last n ns)
  where
    by : (b : Bool) → filter (λ k. not (k == n)) (ns ++ n ∷ []) ≡ filter (λ k. not (k == n)) ns
        → (if b then k ∷ filter (λ k. not (k == n)) (ns ++ n ∷ []) else filter (λ k. not (k == n)) (ns ++ n ∷ [])) ≡ (if b then k ∷ filter (λ k. not (k == n)) ns else filter (λ k. not (k == n)) ns)
    by true same = ap (λ ks. k ∷ ks) same
    by false same = same

-- A call that waits, or has just come, has its reply.
pub counted_reply : (past : History) (t : Turn) (p : Proxy) (n e : ℕ) (bytes : List ℕ) (came : List ℕ) → t.remarks ≡ Replied n e bytes ∷ [] → arrives (events (t ∷ past)) t (asked_by t) ≡ came
    → without_key n (waiting past ++ came) ≡ without_key n (waiting past) → Counted past p → Counted (t ∷ past) (record p { pending = remove p.pending n })
counted_reply past t p n e bytes came are is same c = record {
  hello = hello_stays past t (Some p.fence) (ap (last_among hello_fence) are) c.hello;
  verf = verf_stays past t (if p.welcomed then Some p.fence else None) (ap (last_among verf_of) are) c.verf;
  waits = waits_after past t ∙ ap (λ rs. waits_on rs (waiting past ++ arrives (events (t ∷ past)) t (asked_by t))) are ∙ ap (λ ns. without_key n (waiting past ++ ns)) is ∙ same
      ∙ ap (without_key n) c.waits ∙ sym (keys_removed p.pending n);
  none = λ e. ap (λ m. remove m n) (c.none e) ∙ none_left n;
  fence = c.fence;
}
  where
    none_left : (n : ℕ) → remove (empty {X = Waiting} {R = nat_cmp}) n ≡ empty
    none_left n = none_without n

pub counted_waited : (past : History) (t : Turn) (p : Proxy) (n e : ℕ) (bytes : List ℕ) → t.remarks ≡ Replied n e bytes ∷ [] → arrives (events (t ∷ past)) t (asked_by t) ≡ [] → Counted past p
    → Counted (t ∷ past) (record p { pending = remove p.pending n })
counted_waited past t p n e bytes are nothing c = counted_reply past t p n e bytes [] are nothing (ap (without_key n) (append-nil (waiting past))) c

pub counted_refused : (past : History) (t : Turn) (p : Proxy) (n e : ℕ) (bytes : List ℕ) → t.remarks ≡ Replied n e bytes ∷ [] → arrives (events (t ∷ past)) t (asked_by t) ≡ n ∷ [] → Counted past p
    → Counted (t ∷ past) (record p { pending = remove p.pending n })
counted_refused past t p n e bytes are came c = counted_reply past t p n e bytes (n ∷ []) are came (without_last n (waiting past)) c

-- A call comes that is passed on.
pub counted_asks : (past : History) (t : Turn) (p : Proxy) (n next : ℕ) (w : Waiting) → IsCalm t.remarks → arrives (events (t ∷ past)) t (asked_by t) ≡ n ∷ [] → p.welcomed ≡ true
    → ((k : ℕ) (v : Waiting) → get p.pending k ≡ Some v → k < n) → Counted past p → Counted (t ∷ past) (record p { pending = insert p.pending n w; next_tag = next })
counted_asks past t p n next w calm came welcomed below c = record {
  hello = hello_stays past t (Some p.fence) (calm_hello t.remarks calm) c.hello;
  verf = verf_stays past t (if p.welcomed then Some p.fence else None) (calm_verf t.remarks calm) c.verf;
  waits = waits_after past t ∙ calm_waits t.remarks (waiting past ++ arrives (events (t ∷ past)) t (asked_by t)) calm ∙ ap (λ ns. waiting past ++ ns) came ∙ ap (λ ns. ns ++ n ∷ []) c.waits
      ∙ sym (keys_put p.pending n w below);
  none = λ e. absurd (not_both welcomed e);
  fence = c.fence;
}

-- ---- which datagrams are dropped

welcomed_is : (h : History) (p : Proxy) → Counted h p → is_welcomed h ≡ p.welcomed
welcomed_is h p c = ap (λ o. same_fence o (last_verf h)) c.hello ∙ ap (same_fence (Some p.fence)) c.verf ∙ by p.welcomed p.fence
  where
    by : (b : Bool) (fence : ℕ) → same_fence (Some fence) (if b then Some fence else None) ≡ b
    by true fence = itself fence
      where
        itself : (k : ℕ) → (k == k) ≡ true
        itself k = grind arith
    by false fence = refl

crowd_is : (h : History) (p : Proxy) → Counted h p → nat_le most_waiting (length (waiting h)) ≡ nat_le most_waiting (len p.pending)
crowd_is h p c = ap (nat_le most_waiting) (ap length c.waits ∙ many_keys p.pending)

pub crowded_is : (h : History) (p : Proxy) (n : ℕ) → Counted h p → crowded h n ≡ (if not p.welcomed then Some (Early n) else if nat_le most_waiting (len p.pending) then Some (Full n) else None)
crowded_is h p n c =
    ap (λ b. if not b then Some (Early n) else if nat_le most_waiting (length (waiting h)) then Some (Full n) else None) (welcomed_is h p c)
    ∙ ap (λ b. if not p.welcomed then Some (Early n) else if b then Some (Full n) else None) (crowd_is h p c)

pub due_is : (past : History) (n : ℕ) (bytes : List ℕ) (d : Datagram) → history.is_up past 0 ≡ true → datagram bytes ≡ d → dropped_by past n bytes ≡ turned_away past n d
unfolding dropped_by
due_is past n bytes d up is = ap (λ b. if b then turned_away past n (datagram bytes) else Some (Lost n)) up ∙ ap (turned_away past n) is

pub due_lost : (past : History) (n : ℕ) (bytes : List ℕ) → history.is_up past 0 ≡ false → dropped_by past n bytes ≡ Some (Lost n)
unfolding dropped_by
due_lost past n bytes down = ap (λ b. if b then turned_away past n (datagram bytes) else Some (Lost n)) down

-- ---- frames and drops of a turn

pub calm_frames : (k : ℕ) (fs : List Frame) → Each (λ f. hello_in f f.«body» ≡ None) fs → IsCalm (numbered k fs)
calm_frames k [] each = tt
calm_frames k (f ∷ fs) each = (each.0, calm_frames (k + 1) fs each.1)

-- a call that is dropped doesn't wait
pub dropped_nothing : (n : ℕ) (t : Turn) (o : Option Asked) → drops_any n t.remarks ≡ true → arrives n t o ≡ []
dropped_nothing n t None drops = refl
dropped_nothing n t (Some a) drops = ap (λ b. if b then [] else n ∷ []) drops

pub came_in : (n : ℕ) (t : Turn) (o : Option Asked) (a : Asked) → o ≡ Some a → drops_any n t.remarks ≡ false → arrives n t o ≡ n ∷ []
came_in n t o a is kept = ap (arrives n t) is ∙ ap (λ b. if b then [] else n ∷ []) kept

-- ---- the notes of an opening

abbrev pub AreDowns : List Remark → Type 0
AreDowns [] = Unit {0}
AreDowns (Down a ∷ rs) = AreDowns rs
AreDowns (r ∷ rs) = ⊥

abbrev pub AreSent : List Remark → Type 0
AreSent [] = Unit {0}
AreSent (Sent k f ∷ rs) = (f.«body» ≡ body.Hello) × AreSent rs
AreSent (r ∷ rs) = ⊥

pub downs_calm : (rs : List Remark) → AreDowns rs → IsCalm rs
downs_calm [] downs = tt
downs_calm (Down a ∷ rs) downs = downs_calm rs downs
downs_calm (Sent k f ∷ rs) downs = absurd downs
downs_calm (Did m at choice ∷ rs) downs = absurd downs
downs_calm (Flush f ∷ rs) downs = absurd downs
downs_calm (Verf v ∷ rs) downs = absurd downs
downs_calm (Replied m e bytes ∷ rs) downs = absurd downs
downs_calm (Junk m ∷ rs) downs = absurd downs
downs_calm (Early m ∷ rs) downs = absurd downs
downs_calm (Full m ∷ rs) downs = absurd downs
downs_calm (Lost m ∷ rs) downs = absurd downs

pub downs_both : (rs qs : List Remark) → AreDowns rs → AreDowns qs → AreDowns (rs ++ qs)
downs_both [] qs p q = q
downs_both (Down a ∷ rs) qs p q = downs_both rs qs p q
downs_both (Sent k f ∷ rs) qs p q = absurd p
downs_both (Did m at choice ∷ rs) qs p q = absurd p
downs_both (Flush f ∷ rs) qs p q = absurd p
downs_both (Verf v ∷ rs) qs p q = absurd p
downs_both (Replied m e bytes ∷ rs) qs p q = absurd p
downs_both (Junk m ∷ rs) qs p q = absurd p
downs_both (Early m ∷ rs) qs p q = absurd p
downs_both (Full m ∷ rs) qs p q = absurd p
downs_both (Lost m ∷ rs) qs p q = absurd p

pub sent_both : (rs qs : List Remark) → AreSent rs → AreSent qs → AreSent (rs ++ qs)
sent_both [] qs p q = q
sent_both (Sent k f ∷ rs) qs p q = (p.0, sent_both rs qs p.1 q)
sent_both (Down a ∷ rs) qs p q = absurd p
sent_both (Did m at choice ∷ rs) qs p q = absurd p
sent_both (Flush f ∷ rs) qs p q = absurd p
sent_both (Verf v ∷ rs) qs p q = absurd p
sent_both (Replied m e bytes ∷ rs) qs p q = absurd p
sent_both (Junk m ∷ rs) qs p q = absurd p
sent_both (Early m ∷ rs) qs p q = absurd p
sent_both (Full m ∷ rs) qs p q = absurd p
sent_both (Lost m ∷ rs) qs p q = absurd p

pub numbered_sent : (k : ℕ) (fs : List Frame) → Each (λ f. f.«body» ≡ body.Hello) fs → AreSent (numbered k fs)
numbered_sent k [] each = tt
numbered_sent k (f ∷ fs) each = (each.0, numbered_sent (k + 1) fs each.1)

sent_verf : (rs : List Remark) → AreSent rs → last_among verf_of rs ≡ None
sent_verf [] sent = refl
sent_verf (Sent k f ∷ rs) sent = ap (λ o. or_else o None) (sent_verf rs sent.1)
sent_verf (Down a ∷ rs) sent = absurd sent
sent_verf (Did m at choice ∷ rs) sent = absurd sent
sent_verf (Flush f ∷ rs) sent = absurd sent
sent_verf (Verf v ∷ rs) sent = absurd sent
sent_verf (Replied m e bytes ∷ rs) sent = absurd sent
sent_verf (Junk m ∷ rs) sent = absurd sent
sent_verf (Early m ∷ rs) sent = absurd sent
sent_verf (Full m ∷ rs) sent = absurd sent
sent_verf (Lost m ∷ rs) sent = absurd sent

sent_waits : (rs qs : List Remark) (ns : List ℕ) → AreSent rs → waits_on (rs ++ qs) ns ≡ waits_on qs ns
sent_waits [] qs ns sent = refl
sent_waits (Sent k f ∷ rs) qs ns sent = sent_waits rs qs ns sent.1
sent_waits (Down a ∷ rs) qs ns sent = absurd sent
sent_waits (Did m at choice ∷ rs) qs ns sent = absurd sent
sent_waits (Flush f ∷ rs) qs ns sent = absurd sent
sent_waits (Verf v ∷ rs) qs ns sent = absurd sent
sent_waits (Replied m e bytes ∷ rs) qs ns sent = absurd sent
sent_waits (Junk m ∷ rs) qs ns sent = absurd sent
sent_waits (Early m ∷ rs) qs ns sent = absurd sent
sent_waits (Full m ∷ rs) qs ns sent = absurd sent
sent_waits (Lost m ∷ rs) qs ns sent = absurd sent

or_all : {A : Type 0} (a b c : Option A) → or_else a (or_else b c) ≡ or_else (or_else a b) c
or_all None b c = refl
or_all (Some x) b c = refl

pub last_both : {A : Type 0} (of : Remark → Option A) (rs qs : List Remark) → last_among of (rs ++ qs) ≡ or_else (last_among of qs) (last_among of rs)
last_both of [] qs = by (last_among of qs)
  where
    by : {A : Type 0} (o : Option A) → o ≡ or_else o None
    by None = refl
    by (Some x) = refl
last_both of (r ∷ rs) qs = ap (λ o. or_else o (of r)) (last_both of rs qs) ∙ sym (or_all (last_among of qs) (last_among of rs) (of r))

-- After the opening the proxy has said its first Hello, and isn't welcomed.
pub counted_opened : (t : Turn) (p : Proxy) (sent downs : List Remark) → t.remarks ≡ sent ++ downs → AreSent sent → AreDowns downs → last_among hello_fence sent ≡ Some p.fence
    → asked_by t ≡ None → p.welcomed ≡ false → p.pending ≡ empty → 0 < p.fence → Counted (t ∷ []) p
unfolding last_hello last_verf waiting
counted_opened t p sent downs are is_sent is_downs said none first nothing fence = record {
  hello = ap (λ rs. or_else (last_among hello_fence rs) None) are ∙ ap (λ o. or_else o None) (last_both hello_fence sent downs
      ∙ ap (λ o. or_else o (last_among hello_fence sent)) (calm_hello downs (downs_calm downs is_downs)) ∙ said);
  verf = ap (λ rs. or_else (last_among verf_of rs) None) are ∙ ap (λ o. or_else o None) (last_both verf_of sent downs
      ∙ ap (λ o. or_else o (last_among verf_of sent)) (calm_verf downs (downs_calm downs is_downs)) ∙ sent_verf sent is_sent)
      ∙ sym (ap (λ b. if b then Some p.fence else None) first);
  waits = ap (λ rs. waits_on rs ([] ++ arrives (events (t ∷ [])) t (asked_by t))) are ∙ sent_waits sent downs ([] ++ arrives (events (t ∷ [])) t (asked_by t)) is_sent
      ∙ calm_waits downs ([] ++ arrives (events (t ∷ [])) t (asked_by t)) (downs_calm downs is_downs) ∙ ap (arrives (events (t ∷ [])) t) none
      ∙ sym (ap (λ m. keys m) nothing ∙ no_keys Waiting);
  none = λ e. nothing;
  fence = fence;
}

pub sent_harmless : (rs : List Remark) → AreSent rs → AreHarmless rs
sent_harmless [] sent = tt
sent_harmless (Sent k f ∷ rs) sent = (ap flush_in sent.0, sent_harmless rs sent.1)
sent_harmless (Down a ∷ rs) sent = absurd sent
sent_harmless (Did m at choice ∷ rs) sent = absurd sent
sent_harmless (Flush f ∷ rs) sent = absurd sent
sent_harmless (Verf v ∷ rs) sent = absurd sent
sent_harmless (Replied m e bytes ∷ rs) sent = absurd sent
sent_harmless (Junk m ∷ rs) sent = absurd sent
sent_harmless (Early m ∷ rs) sent = absurd sent
sent_harmless (Full m ∷ rs) sent = absurd sent
sent_harmless (Lost m ∷ rs) sent = absurd sent

pub downs_harmless : (rs : List Remark) → AreDowns rs → AreHarmless rs
downs_harmless [] downs = tt
downs_harmless (Down a ∷ rs) downs = downs_harmless rs downs
downs_harmless (Sent k f ∷ rs) downs = absurd downs
downs_harmless (Did m at choice ∷ rs) downs = absurd downs
downs_harmless (Flush f ∷ rs) downs = absurd downs
downs_harmless (Verf v ∷ rs) downs = absurd downs
downs_harmless (Replied m e bytes ∷ rs) downs = absurd downs
downs_harmless (Junk m ∷ rs) downs = absurd downs
downs_harmless (Early m ∷ rs) downs = absurd downs
downs_harmless (Full m ∷ rs) downs = absurd downs
downs_harmless (Lost m ∷ rs) downs = absurd downs
