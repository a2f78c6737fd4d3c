-- What a history is with one remark more.
use Rattle.std.proofs.Common.{◌≡◌, ℕ, ◌<◌, eqb, leb, Bool, true, false, cond, not, ◌&&◌, ◌||◌, List, [], ◌∷◌, ◌++◌, refl, ap, sym, ◌∙◌}
use Rattle.std.proofs.Math.Bool.{or-false, or_assoc}
use Rattle.std.proofs.lemmas.Bool.{cond-false, lt-leb}
use Rattle.std.specs.Prelude.{Option, Some, None, option_and_then}
use Rattle.sl_model.specs.Volume.{Volume}
use Rattle.sl_history.specs.Turns.{Remark, Sent, Did, Flush, Verf, Replied, Junk, Early, Full, Lost, Down, Turn, History, events, is_event, so_far, turn_of}
use Rattle.sl_history.specs.Frames.{is_down, is_up, notes_down, or_else, up_by}
use Rattle.sl_history.specs.Arrivals.{Asked, asked, asked_by, drops, drops_any}
use Rattle.sl_history.specs.Volumes.{Effect, after_note, after_notes, effect, effect_among, performed, volume_after, volume_at}
use Rattle.sl_history.specs.Legal.{any_among, any_in}
use Rattle.sl_history.specs.Turns.{noted}

-- ---- tests

any_among-append : (is : Remark → Bool) (rs : List Remark) (r : Remark) → any_among is (rs ++ r ∷ []) ≡ (any_among is rs || is r)
any_among-append is [] r = or-false (is r)
any_among-append is (x ∷ rs) r = ap (λ (b : Bool). is x || b) (any_among-append is rs r) ∙ sym (or_assoc (is x) (any_among is rs) (is r))

pub any_in-noted : (is : Remark → Bool) (t : Turn) (past : History) (r : Remark) → any_in is (noted (t ∷ past) r) ≡ (any_in is (t ∷ past) || is r)
unfolding any_in
any_in-noted is t past r =
    ap (λ (b : Bool). any_in is past || b) (any_among-append is t.remarks r) ∙ sym (or_assoc (any_in is past) (any_among is t.remarks) (is r))

pub drops_any-append : (n : ℕ) (rs : List Remark) (r : Remark) → drops_any n (rs ++ r ∷ []) ≡ (drops_any n rs || drops n r)
drops_any-append n [] r = or-false (drops n r)
drops_any-append n (x ∷ rs) r = ap (λ (b : Bool). drops n x || b) (drops_any-append n rs r) ∙ sym (or_assoc (drops n x) (drops_any n rs) (drops n r))

-- ---- the proxy

notes_down-append : (a : ℕ) (rs : List Remark) (r : Remark) → notes_down a (rs ++ r ∷ []) ≡ (notes_down a rs || is_down a r)
notes_down-append a [] r = or-false (is_down a r)
notes_down-append a (x ∷ rs) r = ap (λ (b : Bool). is_down a x || b) (notes_down-append a rs r) ∙ sym (or_assoc (is_down a x) (notes_down a rs) (is_down a r))

neither : (u x y : Bool) → (u && not (x || y)) ≡ ((u && not x) && not y)
neither true true y = refl
neither true false y = refl
neither false x y = refl

pub is_up-noted : (t : Turn) (past : History) (r : Remark) (a : ℕ) → is_up (noted (t ∷ past) r) a ≡ (is_up (t ∷ past) a && not (is_down a r))
unfolding is_up
is_up-noted t past r a =
    let was = up_by t.happening a (is_up past a) in
    ap (λ (b : Bool). was && not b) (notes_down-append a t.remarks r) ∙ neither was (notes_down a t.remarks) (is_down a r)

-- ---- calls

asked_either : (b : Bool) (t t' : Turn) (o : Option Turn) → asked_by t' ≡ asked_by t
    → option_and_then asked_by (cond b (Some t') o) ≡ option_and_then asked_by (cond b (Some t) o)
asked_either true t t' o e = e
asked_either false t t' o e = refl

pub asked-noted : (t : Turn) (past : History) (r : Remark) (n : ℕ) → asked (noted (t ∷ past) r) n ≡ asked (t ∷ past) n
unfolding asked turn_of
asked-noted t past r n = asked_either (is_event past t n) t (so_far t (t.remarks ++ r ∷ [])) (turn_of past n) refl

-- ---- volumes

after_note_same : (h h' : History) → ((n : ℕ) → asked h' n ≡ asked h n) → (r : Remark) (v : Volume) → after_note h' r v ≡ after_note h r v
after_note_same h h' e (Sent k f) v = refl
after_note_same h h' e (Did n at choice) v = ap (λ (a : Option Asked). performed a at choice v) (e n)
after_note_same h h' e (Flush f) v = refl
after_note_same h h' e (Verf x) v = refl
after_note_same h h' e (Replied n x bytes) v = refl
after_note_same h h' e (Junk n) v = refl
after_note_same h h' e (Early n) v = refl
after_note_same h h' e (Full n) v = refl
after_note_same h h' e (Lost n) v = refl
after_note_same h h' e (Down a) v = refl

after_notes_same : (h h' : History) → ((n : ℕ) → asked h' n ≡ asked h n) → (rs : List Remark) (v : Volume) → after_notes h' rs v ≡ after_notes h rs v
after_notes_same h h' e [] v = refl
after_notes_same h h' e (r ∷ rs) v = ap (after_notes h' rs) (after_note_same h h' e r v) ∙ after_notes_same h h' e rs (after_note h r v)

after_notes-append : (h : History) (rs : List Remark) (r : Remark) (v : Volume) → after_notes h (rs ++ r ∷ []) v ≡ after_note h r (after_notes h rs v)
after_notes-append h [] r v = refl
after_notes-append h (x ∷ rs) r v = after_notes-append h rs r (after_note h x v)

pub volume_after-noted : (start : Volume) (t : Turn) (past : History) (r : Remark)
    → volume_after start (noted (t ∷ past) r) ≡ after_note (t ∷ past) r (volume_after start (t ∷ past))
unfolding volume_after
volume_after-noted start t past r =
    after_notes_same (t ∷ past) (noted (t ∷ past) r) (asked-noted t past r) (t.remarks ++ r ∷ []) (volume_after start past)
    ∙ after_notes-append (t ∷ past) t.remarks r (volume_after start past)

pub volume_at-noted : (start : Volume) (t : Turn) (past : History) (r : Remark) (n : ℕ) → n < events (t ∷ past)
    → volume_at start (noted (t ∷ past) r) n ≡ volume_at start (t ∷ past) n
unfolding volume_at
volume_at-noted start t past r n below =
    let no = lt-leb (events (t ∷ past)) n below in
    cond-false (leb (events (t ∷ past)) n) (volume_after start (noted (t ∷ past) r)) (volume_at start past n) no
    ∙ sym (cond-false (leb (events (t ∷ past)) n) (volume_after start (t ∷ past)) (volume_at start past n) no)

-- ---- effects

or_else_assoc : {A : Type 0} → (a b c : Option A) → or_else a (or_else b c) ≡ or_else (or_else a b) c
or_else_assoc None b c = refl
or_else_assoc (Some x) b c = refl

or_else_cond : {A : Type 0} → (b : Bool) (x : Option A) (y z : Option A) (v : A) → x ≡ or_else y z → cond b (Some v) x ≡ or_else (cond b (Some v) y) z
or_else_cond true x y z v e = refl
or_else_cond false x y z v e = e

effect_among_same : (h h' : History) → ((n : ℕ) → asked h' n ≡ asked h n) → events h' ≡ events h → (n : ℕ) (rs : List Remark) (v : Volume)
    → effect_among h' n rs v ≡ effect_among h n rs v
effect_among_same h h' e same n [] v = refl
effect_among_same h h' e same n (Sent k f ∷ rs) v = effect_among_same h h' e same n rs v
effect_among_same h h' e same n (Did k at choice ∷ rs) v =
    ap (λ (m : ℕ). cond (eqb k n) (Some (record { event = m; before = v; at = at; choice = choice })) (effect_among h' n rs (after_note h' (Did k at choice) v))) same
    ∙ ap (λ (x : Option Effect). cond (eqb k n) (Some (record { event = events h; before = v; at = at; choice = choice })) x)
    (ap (effect_among h' n rs) (after_note_same h h' e (Did k at choice) v) ∙ effect_among_same h h' e same n rs (after_note h (Did k at choice) v))
effect_among_same h h' e same n (Flush f ∷ rs) v = effect_among_same h h' e same n rs (after_note h (Flush f) v)
effect_among_same h h' e same n (Verf x ∷ rs) v = effect_among_same h h' e same n rs (after_note h (Verf x) v)
effect_among_same h h' e same n (Replied k x bytes ∷ rs) v = effect_among_same h h' e same n rs v
effect_among_same h h' e same n (Junk k ∷ rs) v = effect_among_same h h' e same n rs v
effect_among_same h h' e same n (Early k ∷ rs) v = effect_among_same h h' e same n rs v
effect_among_same h h' e same n (Full k ∷ rs) v = effect_among_same h h' e same n rs v
effect_among_same h h' e same n (Lost k ∷ rs) v = effect_among_same h h' e same n rs v
effect_among_same h h' e same n (Down a ∷ rs) v = effect_among_same h h' e same n rs v

effect_among-append : (h : History) (n : ℕ) (rs : List Remark) (r : Remark) (v : Volume)
    → effect_among h n (rs ++ r ∷ []) v ≡ or_else (effect_among h n rs v) (effect_among h n (r ∷ []) (after_notes h rs v))
effect_among-append h n [] r v = refl
effect_among-append h n (Sent k f ∷ rs) r v = effect_among-append h n rs r v
effect_among-append h n (Did k at choice ∷ rs) r v =
    or_else_cond (eqb k n) (effect_among h n (rs ++ r ∷ []) (after_note h (Did k at choice) v)) (effect_among h n rs (after_note h (Did k at choice) v))
    (effect_among h n (r ∷ []) (after_notes h rs (after_note h (Did k at choice) v))) (record { event = events h; before = v; at = at; choice = choice })
    (effect_among-append h n rs r (after_note h (Did k at choice) v))
effect_among-append h n (Flush f ∷ rs) r v = effect_among-append h n rs r (after_note h (Flush f) v)
effect_among-append h n (Verf x ∷ rs) r v = effect_among-append h n rs r (after_note h (Verf x) v)
effect_among-append h n (Replied k x bytes ∷ rs) r v = effect_among-append h n rs r v
effect_among-append h n (Junk k ∷ rs) r v = effect_among-append h n rs r v
effect_among-append h n (Early k ∷ rs) r v = effect_among-append h n rs r v
effect_among-append h n (Full k ∷ rs) r v = effect_among-append h n rs r v
effect_among-append h n (Lost k ∷ rs) r v = effect_among-append h n rs r v
effect_among-append h n (Down a ∷ rs) r v = effect_among-append h n rs r v

pub effect-noted : (start : Volume) (t : Turn) (past : History) (r : Remark) (n : ℕ)
    → effect start (noted (t ∷ past) r) n ≡ or_else (effect start (t ∷ past) n) (effect_among (t ∷ past) n (r ∷ []) (volume_after start (t ∷ past)))
unfolding effect volume_after
effect-noted start t past r n =
    let v = volume_after start past in
    ap (or_else (effect start past n)) (effect_among_same (t ∷ past) (noted (t ∷ past) r) (asked-noted t past r) refl n (t.remarks ++ r ∷ []) v
    ∙ effect_among-append (t ∷ past) n t.remarks r v)
    ∙ or_else_assoc (effect start past n) (effect_among (t ∷ past) n t.remarks v) (effect_among (t ∷ past) n (r ∷ []) (after_notes (t ∷ past) t.remarks v))
