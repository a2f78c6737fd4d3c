-- A call that is replied waited still.
use Rattle.std.proofs.Common.{◌≡◌, ℕ, ◌==◌, ◌||◌, Bool, true, false, List, [], ◌∷◌, ◌++◌, map, Option, Some, None, cond, refl, sym, ap, subst, ◌∙◌, arith}
use Rattle.std.proofs.lemmas.List.{append-nil}
use Rattle.std.specs.List.{list_any}
use Rattle.std.specs.Ordering.{nat_cmp, eq_by_cmp}
use Rattle.std.specs.FinMap.{get, entries, get-entries}
use Rattle.std.specs.FinMap.Entries.{find}
use Rattle.sl_history.specs.Turns.{Remark, Sent, Did, Flush, Verf, Replied, Junk, Early, Full, Lost, Down, Turn, History, so_far, events}
use Rattle.sl_history.specs.Arrivals.{Asked, asked, asked_by, arrives, waiting}
use Rattle.sl_history.specs.Licensed.{is_in}
use Rattle.sl_history.specs.Fenced.{StillWaits, AllMayBeNoted}
use Rattle.sl_machine.specs.Memory.{Proxy, Waiting}
use Rattle.sl_getattr.proofs.Stepping.{not_none}
use Rattle.sl_getattr.proofs.Tales.{IsPlain}
use Rattle.sl_getattr.proofs.Counting.{Counted}

pub plain_fenced : (past : History) (t : Turn) (before rs : List Remark) → IsPlain rs → AllMayBeNoted t past before rs
plain_fenced past t before [] plain = tt
plain_fenced past t before (Sent k f ∷ rs) plain = (tt, plain_fenced past t (before ++ Sent k f ∷ []) rs plain)
plain_fenced past t before (Verf v ∷ rs) plain = (tt, plain_fenced past t (before ++ Verf v ∷ []) rs plain)
plain_fenced past t before (Down a ∷ rs) plain = (tt, plain_fenced past t (before ++ Down a ∷ []) rs plain)
plain_fenced past t before (Did m at choice ∷ rs) plain = absurd plain
plain_fenced past t before (Flush f ∷ rs) plain = absurd plain
plain_fenced past t before (Replied m e bytes ∷ rs) plain = absurd plain
plain_fenced past t before (Junk m ∷ rs) plain = absurd plain
plain_fenced past t before (Early m ∷ rs) plain = absurd plain
plain_fenced past t before (Full m ∷ rs) plain = absurd plain
plain_fenced past t before (Lost m ∷ rs) plain = absurd plain

still_waits : (h : History) (n : ℕ) (o : Option Asked) → is_in n (waiting h) ≡ true → StillWaits h n o
still_waits h n None there = tt
still_waits h n (Some a) there = there

-- before the turn's notes
waits_so_far : (past : History) (t : Turn) → waiting (so_far t [] ∷ past) ≡ waiting past ++ arrives (events (t ∷ past)) (so_far t []) (asked_by t)
unfolding waiting
waits_so_far past t = refl

or_true : (b : Bool) → b || true ≡ true
or_true true = refl
or_true false = refl

-- what is found has its key there
tests : (n k : ℕ) (b : Bool) → eq_by_cmp nat_cmp n k ≡ b → (k == n) ≡ b
tests n k true e = grind arith
tests n k false e = grind arith

key_by : {X : Type 0} (n : ℕ) (x : X) (e : ℕ × X) (es : List (ℕ × X)) (b : Bool) → eq_by_cmp nat_cmp n e.0 ≡ b → cond b (Some e.1) (find nat_cmp n es) ≡ Some x
    → (find nat_cmp n es ≡ Some x → list_any (λ k. k == n) (map (λ e. e.0) es) ≡ true) → (e.0 == n) || list_any (λ k. k == n) (map (λ e. e.0) es) ≡ true
key_by n x e es true same is rest = ap (λ b. b || list_any (λ k. k == n) (map (λ e. e.0) es)) (tests n e.0 true same)
key_by n x e es false other is rest = ap (λ b. (e.0 == n) || b) (rest is) ∙ or_true (e.0 == n)

found_key : {X : Type 0} (n : ℕ) (x : X) (es : List (ℕ × X)) → find nat_cmp n es ≡ Some x → list_any (λ k. k == n) (map (λ e. e.0) es) ≡ true
found_key n x [] is = absurd (not_none (sym is))
found_key {X} n x (e ∷ es) is = key_by n x e es (eq_by_cmp nat_cmp n e.0) refl is (found_key n x es)

-- the reply to a call that waited
pub waited_still : (past : History) (t : Turn) (p : Proxy) (n : ℕ) (c : Waiting) → arrives (events (t ∷ past)) (so_far t []) (asked_by t) ≡ [] → Counted past p → get p.pending n ≡ Some c
    → StillWaits (so_far t [] ∷ past) n (asked (so_far t [] ∷ past) n)
waited_still past t p n c nothing counted there = still_waits (so_far t [] ∷ past) n (asked (so_far t [] ∷ past) n)
    (ap (is_in n) (waits_so_far past t ∙ ap (λ ns. waiting past ++ ns) nothing ∙ append-nil (waiting past) ∙ counted.waits)
    ∙ found_key n c (entries p.pending) (sym (get-entries p.pending n) ∙ there))

-- and to one that has just come
last_in : (n : ℕ) (ns : List ℕ) → list_any (λ k. k == n) (ns ++ n ∷ []) ≡ true
last_in n [] = itself n
  where
    itself : (k : ℕ) → (k == k) || false ≡ true
    itself k = grind arith
last_in n (k ∷ ns) = ap (λ b. (k == n) || b) (last_in n ns) ∙ or_true (k == n)

pub came_just_now : (past : History) (t : Turn) (n : ℕ) → arrives (events (t ∷ past)) (so_far t []) (asked_by t) ≡ n ∷ [] → StillWaits (so_far t [] ∷ past) n (asked (so_far t [] ∷ past) n)
came_just_now past t n came = still_waits (so_far t [] ∷ past) n (asked (so_far t [] ∷ past) n)
    (ap (is_in n) (waits_so_far past t ∙ ap (λ ns. waiting past ++ ns) came) ∙ last_in n (waiting past))

-- what is answered at once never waits
pub never_waited : (h : History) (n : ℕ) → asked h n ≡ None → StillWaits h n (asked h n)
never_waited h n none = subst (StillWaits h n) (sym none) tt
