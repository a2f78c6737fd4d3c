-- What a history is when a turn begins, and with one remark more.
use Rattle.std.proofs.Common.{◌≡◌, ℕ, ◌+◌, eqb, Bool, true, false, cond, not, ◌&&◌, ◌||◌, List, [], ◌∷◌, ◌++◌, refl, ap, sym, ◌∙◌, arith}
use Rattle.std.proofs.Math.Bool.{or-false, or_assoc, and-true}
use Rattle.std.specs.Prelude.{Option, Some, None}
use Rattle.sl_defs.specs.Histories.{Happening}
use Rattle.sl_defs.specs.declared.setup.Time.{Time}
use Rattle.sl_history.specs.Turns.{Remark, Sent, Did, Flush, Verf, Replied, Junk, Early, Full, Lost, Down, Turn, History, begun, noted}
use Rattle.sl_history.specs.Frames.{is_down, is_up, last_among, last_in, notes_down, or_else, sent_among, up_by}
use Rattle.sl_history.specs.Licensed.{request, request_among, request_if}
use Rattle.sl_history.specs.Wired.{frames}
use Rattle.sl_history.specs.Wired as wired

-- ---- the first of two

pub or_else_none : {A : Type 0} → (o : Option A) → or_else o None ≡ o
or_else_none None = refl
or_else_none (Some x) = refl

pub or_else_assoc : {A : Type 0} → (a b c : Option A) → or_else (or_else a b) c ≡ or_else a (or_else b c)
or_else_assoc None b c = refl
or_else_assoc (Some x) b c = refl

pub or_else_cond : {A : Type 0} → (b : Bool) (x : A) (o : Option A) → cond b (Some x) o ≡ or_else (cond b (Some x) None) o
or_else_cond true x o = refl
or_else_cond false x o = refl

-- what is found among remarks one after another is found so with one more at the end
found_last : {A : Type 0} → (find : List Remark → Option A) → find [] ≡ None → ((x : Remark) (rs : List Remark) → find (x ∷ rs) ≡ or_else (find (x ∷ [])) (find rs))
    → (rs : List Remark) (r : Remark) → find (rs ++ r ∷ []) ≡ or_else (find rs) (find (r ∷ []))
found_last find none step [] r = sym (ap (λ o. or_else o (find (r ∷ []))) none)
found_last find none step (x ∷ rs) r =
    step x (rs ++ r ∷ []) ∙ ap (or_else (find (x ∷ []))) (found_last find none step rs r) ∙ sym (or_else_assoc (find (x ∷ [])) (find rs) (find (r ∷ [])))
    ∙ ap (λ o. or_else o (find (r ∷ []))) (sym (step x rs))

-- ---- the frames of a turn

sent_step : (k : ℕ) (x : Remark) (rs : List Remark) → sent_among (x ∷ rs) k ≡ or_else (sent_among (x ∷ []) k) (sent_among rs k)
sent_step k (Sent n f) rs = or_else_cond (eqb n k) f (sent_among rs k)
sent_step k (Did n at choice) rs = refl
sent_step k (Flush f) rs = refl
sent_step k (Verf v) rs = refl
sent_step k (Replied n e bytes) rs = refl
sent_step k (Junk n) rs = refl
sent_step k (Early n) rs = refl
sent_step k (Full n) rs = refl
sent_step k (Lost n) rs = refl
sent_step k (Down a) rs = refl

pub sent_last : (k : ℕ) (rs : List Remark) (r : Remark) → sent_among (rs ++ r ∷ []) k ≡ or_else (sent_among rs k) (sent_among (r ∷ []) k)
sent_last k rs r = found_last (λ xs. sent_among xs k) refl (sent_step k) rs r

request_step : (fence tag : ℕ) (x : Remark) (rs : List Remark) → request_among (x ∷ rs) fence tag ≡ or_else (request_among (x ∷ []) fence tag) (request_among rs fence tag)
request_step fence tag (Sent n f) rs = ap (λ o. or_else o (request_among rs fence tag)) (sym (or_else_none (request_if fence tag f)))
request_step fence tag (Did n at choice) rs = refl
request_step fence tag (Flush f) rs = refl
request_step fence tag (Verf v) rs = refl
request_step fence tag (Replied n e bytes) rs = refl
request_step fence tag (Junk n) rs = refl
request_step fence tag (Early n) rs = refl
request_step fence tag (Full n) rs = refl
request_step fence tag (Lost n) rs = refl
request_step fence tag (Down a) rs = refl

pub request-noted : (t : Turn) (past : History) (r : Remark) (fence tag : ℕ)
    → request (noted (t ∷ past) r) fence tag ≡ or_else (request (t ∷ past) fence tag) (request_among (r ∷ []) fence tag)
unfolding request
request-noted t past r fence tag =
    ap (or_else (request past fence tag)) (found_last (λ xs. request_among xs fence tag) refl (request_step fence tag) t.remarks r)
    ∙ sym (or_else_assoc (request past fence tag) (request_among t.remarks fence tag) (request_among (r ∷ []) fence tag))

count_step : (x : Remark) (rs : List Remark) → wired.sent_among (x ∷ rs) ≡ wired.sent_among (x ∷ []) + wired.sent_among rs
count_step (Sent n f) rs = omega arith
count_step (Did n at choice) rs = omega arith
count_step (Flush f) rs = omega arith
count_step (Verf v) rs = omega arith
count_step (Replied n e bytes) rs = omega arith
count_step (Junk n) rs = omega arith
count_step (Early n) rs = omega arith
count_step (Full n) rs = omega arith
count_step (Lost n) rs = omega arith
count_step (Down a) rs = omega arith

count_last : (rs : List Remark) (r : Remark) → wired.sent_among (rs ++ r ∷ []) ≡ wired.sent_among rs + wired.sent_among (r ∷ [])
count_last [] r = omega arith
count_last (x ∷ rs) r =
    let here = count_step x (rs ++ r ∷ []) in
    let there = count_step x rs in
    let rest = count_last rs r in
    omega (arith, here, there, rest)

pub frames-noted : (t : Turn) (past : History) (r : Remark) → frames (noted (t ∷ past) r) ≡ frames (t ∷ past) + wired.sent_among (r ∷ [])
unfolding frames
frames-noted t past r =
    let more = count_last t.remarks r in
    omega (arith, more)

-- ---- the last of a kind

last_among-last : {A : Type 0} → (of : Remark → Option A) (rs : List Remark) (r : Remark) → last_among of (rs ++ r ∷ []) ≡ or_else (of r) (last_among of rs)
last_among-last of [] r = sym (or_else_none (of r))
last_among-last of (x ∷ rs) r = ap (λ o. or_else o (of x)) (last_among-last of rs r) ∙ or_else_assoc (of r) (last_among of rs) (of x)

pub last_in-noted : {A : Type 0} → (of : Remark → Option A) (t : Turn) (past : History) (r : Remark) → last_in of (noted (t ∷ past) r) ≡ or_else (of r) (last_in of (t ∷ past))
last_in-noted of t past r =
    ap (λ o. or_else o (last_in of past)) (last_among-last of t.remarks r) ∙ or_else_assoc (of r) (last_among of t.remarks) (last_in of past)

-- ---- who is up

notes_down-last : (a : ℕ) (rs : List Remark) (r : Remark) → notes_down a (rs ++ r ∷ []) ≡ (notes_down a rs || is_down a r)
notes_down-last a [] r = or-false (is_down a r)
notes_down-last a (x ∷ rs) r = ap (λ (b : Bool). is_down a x || b) (notes_down-last a rs r) ∙ sym (or_assoc (is_down a x) (notes_down a rs) (is_down a r))

neither : (u x y : Bool) → (u && not (x || y)) ≡ ((u && not x) && not y)
neither true true y = refl
neither true false y = refl
neither false x y = refl

pub is_up-noted : (t : Turn) (past : History) (r : Remark) (a : ℕ) → is_up (noted (t ∷ past) r) a ≡ (is_up (t ∷ past) a && not (is_down a r))
unfolding is_up
is_up-noted t past r a =
    let was = up_by t.happening a (is_up past a) in
    ap (λ (b : Bool). was && not b) (notes_down-last a t.remarks r) ∙ neither was (notes_down a t.remarks) (is_down a r)

pub is_up-begun : (past : History) (happening : Happening) (moment : Time) (a : ℕ) → is_up (begun past happening moment) a ≡ up_by happening a (is_up past a)
unfolding is_up
is_up-begun past happening moment a = and-true (up_by happening a (is_up past a))
