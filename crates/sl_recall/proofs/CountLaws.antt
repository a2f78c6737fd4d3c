-- Counts over a history, and sums and products that stop at a limit.
use Rattle.std.proofs.Common.{◌≡◌, ℕ, zero, suc, ◌+◌, ◌*◌, ◌<◌, ◌≤◌, ◌⊎◌, Bool, true, false, not, ◌&&◌, List, [], ◌∷◌, refl, ap, sym, subst, ◌∙◌, arith, inl, inr}
use Rattle.std.proofs.Math.Nat.{min-eq_left, min-eq_right, min-le_left, min-le_right, mul_assoc, zero-mul}
use Rattle.std.proofs.lemmas.List.Recursion.{is_count_by}
use Rattle.std.specs.Bool.{Decides}
use Rattle.std.specs.Prelude.{nat_le, min, cond, if◌then◌else◌, ◌||◌, ◌↔◌}
use Rattle.std.specs.List.{count_by, list_any}
use Rattle.sl_defs.specs.Histories.{Happening}
use Rattle.sl_recall.specs.Disturbing.{is_disturbed_turn}
use Rattle.sl_recall.proofs.ChangeLaws.{is_above, is_le, le_is}
use Rattle.sl_history.specs.Turns.{Remark, Sent, Did, Flush, Verf, Replied, Junk, Early, Full, Lost, Down, Turn, History}
use Rattle.sl_history.specs.Completing as completing
use Rattle.sl_history.specs.Completing.{most_frames}

-- ---- an actor went down

pub down_first : (r : Remark) (rs : List Remark) → completing.no_one_down (r ∷ rs) ≡ (completing.no_one_down (r ∷ []) && completing.no_one_down rs)
down_first (Sent k f) rs = refl
down_first (Did n at choice) rs = refl
down_first (Flush f) rs = refl
down_first (Verf v) rs = refl
down_first (Replied n e bytes) rs = refl
down_first (Junk n) rs = refl
down_first (Early n) rs = refl
down_first (Full n) rs = refl
down_first (Lost n) rs = refl
down_first (Down a) rs = refl

-- ---- sums and products up to a limit

-- r is x, or the limit, where x is that or more
pub record Stops (limit r x : ℕ) : Type 0 where
  pub within : r ≤ limit
  pub below : r ≤ x
  pub either : (r ≡ x) ⊎ (r ≡ limit)

pub exactly : (limit x : ℕ) → x ≤ limit → Stops limit x x
exactly limit x h = record { within = h; below = omega arith; either = inl refl }

min_cases : (a b : ℕ) → (min a b ≡ a) ⊎ (min a b ≡ b)
min_cases a b = at (nat_le a b) refl
  where
    at : (c : Bool) → nat_le a b ≡ c → (min a b ≡ a) ⊎ (min a b ≡ b)
    at true s = inl (min-eq_left (is_le a b s))
    at false s = inr (min-eq_right (omega (arith, is_above a b s)))

stopped : (limit r s : ℕ) → r ≡ min s limit → Stops limit r s
stopped limit r s e = record {
  within = subst (λ k. k ≤ limit) (sym e) (min-le_right s limit);
  below = subst (λ k. k ≤ s) (sym e) (min-le_left s limit);
  either = subst (λ k. (k ≡ s) ⊎ (k ≡ limit)) (sym e) (min_cases s limit);
}

-- r stops at s, which is x or the limit or more
through : (limit r s x : ℕ) → Stops limit r s → s ≤ x → ((s ≡ x) ⊎ (limit ≤ s)) → Stops limit r x
through limit r s x h le (inl e) = record { within = h.within; below = omega (arith, h.below, le); either = subst (λ k. (r ≡ k) ⊎ (r ≡ limit)) e h.either }
through limit r s x h le (inr over) = record { within = h.within; below = omega (arith, h.below, le); either = inr (at h.either) }
  where
    at : ((r ≡ s) ⊎ (r ≡ limit)) → r ≡ limit
    at (inl e) = omega (arith, e, over, h.within)
    at (inr e) = e

pub sum : (limit r a b x y : ℕ) → r ≡ min (a + b) limit → Stops limit a x → Stops limit b y → Stops limit r (x + y)
sum limit r a b x y e p q = through limit r (a + b) (x + y) (stopped limit r (a + b) e) (omega (arith, p.below, q.below)) (at p.either q.either)
  where
    at : ((a ≡ x) ⊎ (a ≡ limit)) → ((b ≡ y) ⊎ (b ≡ limit)) → (a + b ≡ x + y) ⊎ (limit ≤ a + b)
    at (inl s) (inl t) = inl (omega (arith, s, t))
    at (inr s) t = inr (omega (arith, s))
    at (inl s) (inr t) = inr (omega (arith, t))

grows : (a b c : ℕ) → b ≤ c → a * b ≤ a * c
grows zero b c h = omega arith
grows (suc a) b c h = omega (arith, h, grows a b c h)

at_least : (a b : ℕ) → 0 < a → b ≤ a * b
at_least zero b h = absurd (omega (arith, h))
at_least (suc a) b h = omega arith

pub product : (limit r a b y : ℕ) → r ≡ min (a * b) limit → Stops limit b y → Stops limit r (a * y)
product limit r zero b y e q = through limit r (zero * b) (zero * y) (stopped limit r (zero * b) e) (omega arith) (inl (zero-mul b ∙ sym (zero-mul y)))
product limit r (suc a) b y e q = through limit r (suc a * b) (suc a * y) (stopped limit r (suc a * b) e) (grows (suc a) b y q.below) (at q.either)
  where
    at : ((b ≡ y) ⊎ (b ≡ limit)) → (suc a * b ≡ suc a * y) ⊎ (limit ≤ suc a * b)
    at (inl t) = inl (ap (λ k. suc a * k) t)
    at (inr t) = inr (subst (λ k. k ≤ suc a * b) t (at_least (suc a) b (omega arith)))

pub least : (limit r x : ℕ) → Stops limit r x → r ≡ min x limit
least limit r x h = at h.either (min_cases x limit)
  where
    at : ((r ≡ x) ⊎ (r ≡ limit)) → ((min x limit ≡ x) ⊎ (min x limit ≡ limit)) → r ≡ min x limit
    at (inl s) (inl t) = s ∙ sym t
    at (inr s) (inr t) = s ∙ sym t
    at (inl s) (inr t) = omega (arith, s, t, h.within, min-le_left x limit)
    at (inr s) (inl t) = omega (arith, s, t, h.below, min-le_right x limit)

-- ---- counts

pub count_is : (is : Happening → Bool) (h : History) → completing.count is h ≡ count_by (λ (t : Turn). is t.happening) h
unfolding completing.count
count_is is h = is_count_by (completing.count is) (λ (t : Turn). is t.happening) refl (λ t past. one (is t.happening) (completing.count is past)) h
  where
    one : (b : Bool) (n : ℕ) → n + (if b then 1 else 0) ≡ cond b (1 + n) n
    one true n = omega arith
    one false n = omega arith

-- ---- disturbances

pub undisturbed_is : (h : History) → completing.is_undisturbed h ≡ not (list_any is_disturbed_turn h)
unfolding completing.is_undisturbed
undisturbed_is [] = refl
undisturbed_is (t ∷ past) = ap (λ b. b && (not (completing.disturbs t.happening) && completing.no_one_down t.remarks)) (undisturbed_is past) ∙ turned (list_any is_disturbed_turn past) (completing.disturbs t.happening) (completing.no_one_down t.remarks)
  where
    turned : (a d u : Bool) → (not a && (not d && u)) ≡ not ((d || not u) || a)
    turned true true u = refl
    turned true false true = refl
    turned true false false = refl
    turned false true u = refl
    turned false false true = refl
    turned false false false = refl

-- ---- the limit of frames

same : (n t r : ℕ) → ((((256 * n + 2) + 2 * (n * (n + 1))) + 80 * (n * t)) + 2 * t) + 4 * r ≡ most_frames n t r
same n t r =
    let twice : 2 * (n * (n + 1)) ≡ (2 * n) * (n + 1) = sym (mul_assoc 2 n (n + 1)) in
    let times : 80 * (n * t) ≡ (80 * n) * t = sym (mul_assoc 80 n t) in
    let front : 256 * n + 2 ≡ 2 + 256 * n = omega arith in
    ap (λ x. (((x + 2 * (n * (n + 1))) + 80 * (n * t)) + 2 * t) + 4 * r) front
    ∙ ap (λ x. ((((2 + 256 * n) + x) + 80 * (n * t)) + 2 * t) + 4 * r) twice
    ∙ ap (λ x. ((((2 + 256 * n) + (2 * n) * (n + 1)) + x) + 2 * t) + 4 * r) times

-- as it is computed, part by part
pub frames_stop : (limit n t r : ℕ) → n ≤ limit → t ≤ limit → r ≤ limit → 256 ≤ limit → (pairs next waits a b c d e f g i j k : ℕ)
    → next ≡ min (n + 1) limit → pairs ≡ min (n * next) limit → waits ≡ min (n * t) limit → a ≡ min (256 * n) limit → b ≡ min (a + 2) limit → c ≡ min (2 * pairs) limit → d ≡ min (b + c) limit
    → e ≡ min (80 * waits) limit → f ≡ min (d + e) limit → g ≡ min (2 * t) limit → i ≡ min (f + g) limit → j ≡ min (4 * r) limit → k ≡ min (i + j) limit
    → k ≡ min (most_frames n t r) limit
frames_stop limit n t r hn ht hr h pairs next waits a b c d e f g i j k xnext xpairs xwaits xa xb xc xd xe xf xg xi xj xk =
    let two : Stops limit 2 2 = exactly limit 2 (omega (arith, h)) in
    let pn : Stops limit next (n + 1) = sum limit next n 1 n 1 xnext (exactly limit n hn) (exactly limit 1 (omega (arith, h))) in
    let pp : Stops limit pairs (n * (n + 1)) = product limit pairs n next (n + 1) xpairs pn in
    let pw : Stops limit waits (n * t) = product limit waits n t t xwaits (exactly limit t ht) in
    let pa : Stops limit a (256 * n) = product limit a 256 n n xa (exactly limit n hn) in
    let pb : Stops limit b (256 * n + 2) = sum limit b a 2 (256 * n) 2 xb pa two in
    let pc : Stops limit c (2 * (n * (n + 1))) = product limit c 2 pairs (n * (n + 1)) xc pp in
    let pd : Stops limit d ((256 * n + 2) + 2 * (n * (n + 1))) = sum limit d b c (256 * n + 2) (2 * (n * (n + 1))) xd pb pc in
    let pe : Stops limit e (80 * (n * t)) = product limit e 80 waits (n * t) xe pw in
    let pf : Stops limit f (((256 * n + 2) + 2 * (n * (n + 1))) + 80 * (n * t)) = sum limit f d e ((256 * n + 2) + 2 * (n * (n + 1))) (80 * (n * t)) xf pd pe in
    let pg : Stops limit g (2 * t) = product limit g 2 t t xg (exactly limit t ht) in
    let pi : Stops limit i ((((256 * n + 2) + 2 * (n * (n + 1))) + 80 * (n * t)) + 2 * t) = sum limit i f g (((256 * n + 2) + 2 * (n * (n + 1))) + 80 * (n * t)) (2 * t) xi pf pg in
    let pj : Stops limit j (4 * r) = product limit j 4 r r xj (exactly limit r hr) in
    let pk : Stops limit k (((((256 * n + 2) + 2 * (n * (n + 1))) + 80 * (n * t)) + 2 * t) + 4 * r) = sum limit k i j ((((256 * n + 2) + 2 * (n * (n + 1))) + 80 * (n * t)) + 2 * t) (4 * r) xk pi pj in
    least limit k (most_frames n t r) (subst (Stops limit k) (same n t r) pk)

-- a number is within a limit of numbers exactly if it is so where that stops
pub within_limit : (limit g x m : ℕ) → g ≤ limit → m ≡ min x limit → (g ≤ m) ↔ (g ≤ x)
within_limit limit g x m h e = (λ le. omega (arith, le, s.below), λ le. at s.either le)
  where
    s : Stops limit m x
    s = stopped limit m x e

    at : ((m ≡ x) ⊎ (m ≡ limit)) → g ≤ x → g ≤ m
    at (inl t) le = omega (arith, t, le)
    at (inr t) le = omega (arith, t, h)

-- that no more frames were given than may be, by the counts of a program
pub bounded : (h : History) (g n t r m limit : ℕ) → g ≡ count_by (λ (x : Turn). completing.is_given x.happening) h → n ≡ count_by (λ (x : Turn). completing.is_call x.happening) h
    → t ≡ count_by (λ (x : Turn). completing.is_tick x.happening) h → r ≡ count_by (λ (x : Turn). completing.is_copy x.happening) h → g ≤ limit → m ≡ min (most_frames n t r) limit
    → Decides (nat_le g m) (completing.count completing.is_given h ≤ most_frames (completing.count completing.is_call h) (completing.count completing.is_tick h) (completing.count completing.is_copy h))
bounded h g n t r m limit eg en et er hg em = (λ s. subst (λ k. k) same (w.0 (is_le g m s)), λ s. le_is g m (w.1 (subst (λ k. k) (sym same) s)))
  where
    w : (g ≤ m) ↔ (g ≤ most_frames n t r)
    w = within_limit limit g (most_frames n t r) m hg em

    same : (g ≤ most_frames n t r) ≡ (completing.count completing.is_given h ≤ most_frames (completing.count completing.is_call h) (completing.count completing.is_tick h) (completing.count completing.is_copy h))
    same =
        ap (λ k. k ≤ most_frames n t r) (eg ∙ sym (count_is completing.is_given h))
        ∙ ap (λ k. completing.count completing.is_given h ≤ most_frames k t r) (en ∙ sym (count_is completing.is_call h))
        ∙ ap (λ k. completing.count completing.is_given h ≤ most_frames (completing.count completing.is_call h) k r) (et ∙ sym (count_is completing.is_tick h))
        ∙ ap (λ k. completing.count completing.is_given h ≤ most_frames (completing.count completing.is_call h) (completing.count completing.is_tick h) k) (er ∙ sym (count_is completing.is_copy h))
