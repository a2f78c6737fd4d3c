-- How what arrived and what waits follow a history.
use Rattle.std.proofs.Common.{◌≡◌, ℕ, zero, suc, ◌+◌, ◌-◌, ◌<◌, eqb, eqb-true, eq-eqb, Bool, true, false, cond, not, ◌&&◌, ◌||◌, List, [], ◌∷◌, ◌++◌, length, length-append, append-nil, refl, ap, sym, subst, ◌∙◌, arith}
use Rattle.std.proofs.Math.Bool.{or-false, or_assoc}
use Rattle.std.proofs.Math.Dec.{eqb-suc-suc, eqb-suc-zero, eqb-zero-suc}
use Rattle.std.proofs.lemmas.Bool.{cond-false, false_from_ne_true}
use Rattle.std.proofs.lemmas.List.Elements.{filter-append}
use Rattle.std.specs.Prelude.{◌==◌, Option, Some, None, filter, is_some, option_and_then, option_map}
use Rattle.std.specs.List.{slice_get}
use Rattle.sl_defs.specs.Histories.{Happening, Opens, Reaches, Happens, event_count}
use Rattle.sl_defs.specs.declared.event.Event.{Event}
use Rattle.sl_defs.specs.declared.setup.Time.{Time}
use Rattle.sl_history.specs.Turns as turns
use Rattle.sl_history.specs.Turns.{Remark, Sent, Did, Flush, Verf, Replied, Junk, Early, Full, Lost, Down, Turn, History, begun, events, is_event, noted, so_far, turn_of}
use Rattle.sl_history.specs.Arrivals.{Asked, arrives, asked, asked_by, asked_in, datagram, drops, drops_any, waiting, waits_on}
use Rattle.sl_past.specs.Words.{happening_of}
use Rattle.sl_past.specs.declared.happening.Happening as past
use Rattle.sl_past.specs.declared.happening.Happening.TheVariants as happening
use Rattle.sl_datagram.specs.declared.datagram.Datagram.{Datagram}
use Rattle.sl_datagram.specs.Datagrams.{datagram_of}
use Rattle.sl_ledger.specs.declared.arrivals.Arrivals.{Arrivals}
use Rattle.sl_ledger.specs.Waiting.{AreArrivalsOf, IsDropOf, IsQuiet, arrived, brought, kept_at, same}

-- ---- lists

-- what stands at a place of a list with one element more
pub get_last : {A : Type 0} → (xs : List A) (y : A) (n : ℕ) → slice_get (xs ++ y ∷ []) n ≡ cond (eqb (length xs) n) (Some y) (slice_get xs n)
get_last [] y zero = refl
get_last [] y (suc n) = sym (cond-false (eqb zero (suc n)) (Some y) None (eqb-zero-suc n))
get_last (x ∷ xs) y zero = sym (cond-false (eqb (suc (length xs)) zero) (Some y) (Some x) (eqb-suc-zero (length xs)))
get_last (x ∷ xs) y (suc n) = get_last xs y n ∙ ap (λ (b : Bool). cond b (Some y) (slice_get xs n)) (sym (eqb-suc-suc (length xs) n))

filter_kept : {A : Type 0} → (p : A → Bool) (x : A) (xs : List A) → p x ≡ true → filter p (x ∷ xs) ≡ x ∷ filter p xs
filter_kept p x xs e = ap (λ (b : Bool). cond b (x ∷ filter p xs) (filter p xs)) e

filter_left : {A : Type 0} → (p : A → Bool) (x : A) (xs : List A) → p x ≡ false → filter p (x ∷ xs) ≡ filter p xs
filter_left p x xs e = ap (λ (b : Bool). cond b (x ∷ filter p xs) (filter p xs)) e

filter_step : {A : Type 0} → (p q : A → Bool) (x : A) (xs : List A) → filter p (filter q xs) ≡ filter q (filter p xs) → (b c : Bool) → p x ≡ b → q x ≡ c
    → filter p (cond c (x ∷ filter q xs) (filter q xs)) ≡ filter q (cond b (x ∷ filter p xs) (filter p xs))
filter_step p q x xs rest true true e f = filter_kept p x (filter q xs) e ∙ ap (λ zs. x ∷ zs) rest ∙ sym (filter_kept q x (filter p xs) f)
filter_step p q x xs rest true false e f = rest ∙ sym (filter_left q x (filter p xs) f)
filter_step p q x xs rest false true e f = filter_left p x (filter q xs) e ∙ rest
filter_step p q x xs rest false false e f = rest

filter_both : {A : Type 0} → (p q : A → Bool) (xs : List A) → filter p (filter q xs) ≡ filter q (filter p xs)
filter_both p q [] = refl
filter_both p q (x ∷ xs) = filter_step p q x xs (filter_both p q xs) (p x) (q x) refl refl

-- ---- what waits

-- without an event
abbrev pub without : ℕ → List ℕ → List ℕ
without n ns = filter (λ k. not (k == n)) ns

waits_step : (x : Remark) (rs : List Remark) (ns : List ℕ) → waits_on (x ∷ rs) ns ≡ waits_on rs (waits_on (x ∷ []) ns)
waits_step (Sent n f) rs ns = refl
waits_step (Did n at choice) rs ns = refl
waits_step (Flush f) rs ns = refl
waits_step (Verf v) rs ns = refl
waits_step (Replied n e bytes) rs ns = refl
waits_step (Junk n) rs ns = refl
waits_step (Early n) rs ns = refl
waits_step (Full n) rs ns = refl
waits_step (Lost n) rs ns = refl
waits_step (Down a) rs ns = refl

waits_last : (rs : List Remark) (r : Remark) (ns : List ℕ) → waits_on (rs ++ r ∷ []) ns ≡ waits_on (r ∷ []) (waits_on rs ns)
waits_last [] r ns = refl
waits_last (x ∷ rs) r ns =
    waits_step x (rs ++ r ∷ []) ns ∙ waits_last rs r (waits_on (x ∷ []) ns) ∙ ap (waits_on (r ∷ [])) (sym (waits_step x rs ns))

-- an event may be left out before or after
without_step : (n : ℕ) (x : Remark) (ns : List ℕ) → without n (waits_on (x ∷ []) ns) ≡ waits_on (x ∷ []) (without n ns)
without_step n (Sent k f) ns = refl
without_step n (Did k at choice) ns = refl
without_step n (Flush f) ns = refl
without_step n (Verf v) ns = refl
without_step n (Replied k e bytes) ns = filter_both (λ m. not (m == n)) (λ m. not (m == k)) ns
without_step n (Junk k) ns = refl
without_step n (Early k) ns = refl
without_step n (Full k) ns = refl
without_step n (Lost k) ns = refl
without_step n (Down a) ns = refl

without_waits : (n : ℕ) (rs : List Remark) (ns : List ℕ) → without n (waits_on rs ns) ≡ waits_on rs (without n ns)
without_waits n [] ns = refl
without_waits n (x ∷ rs) ns =
    ap (without n) (waits_step x rs ns) ∙ without_waits n rs (waits_on (x ∷ []) ns) ∙ ap (waits_on rs) (without_step n x ns)
    ∙ sym (waits_step x rs (without n ns))

drops_any-last : (n : ℕ) (rs : List Remark) (r : Remark) → drops_any n (rs ++ r ∷ []) ≡ (drops_any n rs || drops n r)
drops_any-last n [] r = or-false (drops n r)
drops_any-last n (x ∷ rs) r = ap (λ (b : Bool). drops n x || b) (drops_any-last n rs r) ∙ sym (or_assoc (drops n x) (drops_any n rs) (drops n r))

-- the arrival of a turn, where this says whether it is dropped
abbrev comes : ℕ → Bool → Option Asked → List ℕ
comes n dropped None = []
comes n dropped (Some a) = cond dropped [] (n ∷ [])

arrives_comes : (n : ℕ) (t : Turn) (o : Option Asked) → arrives n t o ≡ comes n (drops_any n t.remarks) o
arrives_comes n t None = refl
arrives_comes n t (Some a) = refl

dropped_comes : (n : ℕ) (o : Option Asked) → comes n true o ≡ []
dropped_comes n None = refl
dropped_comes n (Some a) = refl

waiting-turn : (t : Turn) (past : History) → waiting (t ∷ past) ≡ waits_on t.remarks (waiting past ++ comes (events (t ∷ past)) (drops_any (events (t ∷ past)) t.remarks) (asked_by t))
unfolding waiting
waiting-turn t past = ap (λ ns. waits_on t.remarks (waiting past ++ ns)) (arrives_comes (events (t ∷ past)) t (asked_by t))

waiting-with : (t : Turn) (past : History) (r : Remark)
    → waiting (noted (t ∷ past) r) ≡ waits_on (r ∷ []) (waits_on t.remarks (waiting past ++ comes (events (t ∷ past)) (drops_any (events (t ∷ past)) t.remarks || drops (events (t ∷ past)) r) (asked_by t)))
waiting-with t past r =
    let n = events (t ∷ past) in
    waiting-turn (so_far t (t.remarks ++ r ∷ [])) past
    ∙ waits_last t.remarks r (waiting past ++ comes n (drops_any n (t.remarks ++ r ∷ [])) (asked_by t))
    ∙ ap (λ b. waits_on (r ∷ []) (waits_on t.remarks (waiting past ++ comes n b (asked_by t)))) (drops_any-last n t.remarks r)

-- a note that doesn't drop the newest event
waiting-noted : (t : Turn) (past : History) (r : Remark) → drops (events (t ∷ past)) r ≡ false → waiting (noted (t ∷ past) r) ≡ waits_on (r ∷ []) (waiting (t ∷ past))
waiting-noted t past r keeps =
    let n = events (t ∷ past) in
    waiting-with t past r
    ∙ ap (λ b. waits_on (r ∷ []) (waits_on t.remarks (waiting past ++ comes n b (asked_by t)))) (ap (λ b. drops_any n t.remarks || b) keeps ∙ or-false (drops_any n t.remarks))
    ∙ ap (waits_on (r ∷ [])) (sym (waiting-turn t past))

-- a note in a turn that brings no call
waiting-noted_quiet : (t : Turn) (past : History) (r : Remark) → asked_by t ≡ None → waiting (noted (t ∷ past) r) ≡ waits_on (r ∷ []) (waiting (t ∷ past))
waiting-noted_quiet t past r none =
    let n = events (t ∷ past) in
    waiting-with t past r
    ∙ ap (λ o. waits_on (r ∷ []) (waits_on t.remarks (waiting past ++ comes n (drops_any n t.remarks || drops n r) o))) none
    ∙ ap (λ o. waits_on (r ∷ []) (waits_on t.remarks (waiting past ++ comes n (drops_any n t.remarks) o))) (sym none)
    ∙ ap (waits_on (r ∷ [])) (sym (waiting-turn t past))

-- later events don't wait yet
without_other : (n k : ℕ) (d : Bool) (o : Option Asked) → k < n → without n (comes k d o) ≡ comes k d o
without_other n k d None below = refl
without_other n k true (Some a) below = refl
without_other n k false (Some a) below = filter_kept (λ m. not (m == n)) k [] (ap not (false_from_ne_true (k == n) (λ (e : (k == n) ≡ true). let same = eqb-true k n e in omega (arith, same, below))))

without_later : (h : History) (n : ℕ) → events h < n → without n (waiting h) ≡ waiting h
unfolding waiting
without_later [] n below = refl
without_later (t ∷ past) n below =
    let k = events (t ∷ past) in
    let d = drops_any k t.remarks in
    ap (without n) (waiting-turn t past) ∙ without_waits n t.remarks (waiting past ++ comes k d (asked_by t))
    ∙ ap (waits_on t.remarks) (filter-append (λ m. not (m == n)) (waiting past) (comes k d (asked_by t))
    ∙ ap (λ ns. ns ++ without n (comes k d (asked_by t))) (without_later past n (omega (arith, below)))
    ∙ ap (λ ns. waiting past ++ ns) (without_other n k d (asked_by t) below))
    ∙ sym (waiting-turn t past)

without_here : (n : ℕ) (d : Bool) (o : Option Asked) → without n (comes n d o) ≡ []
without_here n d None = refl
without_here n true (Some a) = refl
without_here n false (Some a) = filter_left (λ m. not (m == n)) n [] (ap not (eq-eqb n n refl))

-- a note that drops the newest event
waiting-dropped : (t : Turn) (past : History) (r : Remark) → event_count t.happening ≡ 1 → IsDropOf (events (t ∷ past)) r
    → waiting (noted (t ∷ past) r) ≡ without (events (t ∷ past)) (waiting (t ∷ past))
waiting-dropped t past r one drop =
    let n = events (t ∷ past) in
    let d = drops_any n t.remarks in
    waiting-with t past r ∙ drop.keeps (waits_on t.remarks (waiting past ++ comes n (d || drops n r) (asked_by t)))
    ∙ ap (λ ns. waits_on t.remarks (waiting past ++ ns)) (ap (λ b. comes n b (asked_by t)) (ap (λ b. d || b) (drop.drops_it n ∙ eq-eqb n n refl) ∙ or_true d) ∙ dropped_comes n (asked_by t) ∙ sym (without_here n d (asked_by t)))
    ∙ ap (λ ns. waits_on t.remarks (ns ++ without n (comes n d (asked_by t)))) (sym (without_later past n (omega (arith, one))))
    ∙ ap (waits_on t.remarks) (sym (filter-append (λ m. not (m == n)) (waiting past) (comes n d (asked_by t))))
    ∙ sym (without_waits n t.remarks (waiting past ++ comes n d (asked_by t)))
    ∙ ap (without n) (sym (waiting-turn t past))
  where
    or_true : (b : Bool) → (b || true) ≡ true
    or_true true = refl
    or_true false = refl

-- ---- what arrived

arrived_either : (b : Bool) (t t' : Turn) (o : Option Turn) → brought t' ≡ brought t → option_and_then brought (cond b (Some t') o) ≡ option_and_then brought (cond b (Some t) o)
arrived_either true t t' o e = e
arrived_either false t t' o e = refl

arrived-noted : (t : Turn) (past : History) (r : Remark) (n : ℕ) → arrived (noted (t ∷ past) r) n ≡ arrived (t ∷ past) n
unfolding turn_of
arrived-noted t past r n = arrived_either (is_event past t n) t (so_far t (t.remarks ++ r ∷ [])) (turn_of past n) refl

abbrev opened : Happening → Time → Turn
opened happening moment = record { happening = happening; moment = moment; remarks = [] }

arrived_if : (b : Bool) (t : Turn) (o : Option Turn) → option_and_then brought (cond b (Some t) o) ≡ cond b (brought t) (option_and_then brought o)
arrived_if true t o = refl
arrived_if false t o = refl

arrived-turn : (t : Turn) (past : History) (n : ℕ) → arrived (t ∷ past) n ≡ cond (is_event past t n) (brought t) (arrived past n)
unfolding turn_of
arrived-turn t past n = arrived_if (is_event past t n) t (turn_of past n)

-- that is what the call asks that arrived
pub asked_arrived : (h : History) (n : ℕ) → asked h n ≡ option_and_then asked_in (arrived h n)
unfolding asked
asked_arrived h n = of_turn (turn_of h n)
  where
    of_bytes : (o : Option (List ℕ)) → option_and_then (λ bytes. asked_in (datagram bytes)) o ≡ option_and_then asked_in (option_map datagram o)
    of_bytes None = refl
    of_bytes (Some bytes) = refl

    of_turn : (o : Option Turn) → option_and_then asked_by o ≡ option_and_then asked_in (option_and_then brought o)
    of_turn None = refl
    of_turn (Some t) = of_bytes (turns.datagram_of t.happening)

pub asked_of_brought : (t : Turn) → asked_by t ≡ option_and_then asked_in (brought t)
asked_of_brought t = of_bytes (turns.datagram_of t.happening)
  where
    of_bytes : (o : Option (List ℕ)) → option_and_then (λ bytes. asked_in (datagram bytes)) o ≡ option_and_then asked_in (option_map datagram o)
    of_bytes None = refl
    of_bytes (Some bytes) = refl

-- what is no event brings nothing
quiet_datagram : (x : Happening) → event_count x ≡ 0 → turns.datagram_of x ≡ None
quiet_datagram (Opens setup) e = refl
quiet_datagram (Reaches moment) e = refl
quiet_datagram (Happens ev) e = cc

quiet_asked : (t : Turn) → event_count t.happening ≡ 0 → asked_by t ≡ None
quiet_asked t e = ap (option_and_then (λ bytes. asked_in (datagram bytes))) (quiet_datagram t.happening e)

pub quiet_brought : (t : Turn) → event_count t.happening ≡ 0 → brought t ≡ None
quiet_brought t e = ap (option_map datagram) (quiet_datagram t.happening e)

no_event : (x : Happening) → eqb (event_count x) 1 ≡ false → event_count x ≡ 0
no_event (Opens setup) e = refl
no_event (Reaches moment) e = refl
no_event (Happens ev) e = cc

-- ---- the arrivals

with_note : (t : Turn) (past : History) (r : Remark) (a a' : Arrivals) → AreArrivalsOf (t ∷ past) a → a'.datagrams.items ≡ a.datagrams.items → a'.is_event ≡ a.is_event
    → a'.waiting.items ≡ waiting (noted (t ∷ past) r) → AreArrivalsOf (noted (t ∷ past) r) a'
with_note t past r a a' is datagrams first waits = record {
  count = ap length datagrams ∙ is.count;
  datagrams = λ n. ap (λ ds. option_map datagram_of (kept_at ds n)) datagrams ∙ is.datagrams n ∙ sym (arrived-noted t past r n);
  event = first ∙ is.event;
  waits = waits;
}

-- a note that does nothing to calls
pub arrivals_quiet : (t : Turn) (past : History) (r : Remark) (a : Arrivals) → IsQuiet r → AreArrivalsOf (t ∷ past) a → AreArrivalsOf (noted (t ∷ past) r) a
arrivals_quiet t past r a quiet is =
    with_note t past r a a is refl refl (is.waits ∙ sym (waiting-noted t past r (quiet.drops_none (events (t ∷ past))) ∙ quiet.keeps (waiting (t ∷ past))))

-- a reply
pub arrivals_answered : (t : Turn) (past : History) (n e : ℕ) (bytes : List ℕ) (a a' : Arrivals) → AreArrivalsOf (t ∷ past) a → a'.datagrams.items ≡ a.datagrams.items
    → a'.is_event ≡ a.is_event → a'.waiting.items ≡ without n a.waiting.items → AreArrivalsOf (noted (t ∷ past) (Replied n e bytes)) a'
arrivals_answered t past n e bytes a a' is datagrams first waits =
    with_note t past (Replied n e bytes) a a' is datagrams first (waits ∙ ap (without n) is.waits ∙ sym (waiting-noted t past (Replied n e bytes) refl))

-- a write verifier
pub arrivals_forgotten : (t : Turn) (past : History) (v : ℕ) (a a' : Arrivals) → AreArrivalsOf (t ∷ past) a → a'.datagrams.items ≡ a.datagrams.items
    → a'.is_event ≡ a.is_event → a'.waiting.items ≡ [] → AreArrivalsOf (noted (t ∷ past) (Verf v)) a'
arrivals_forgotten t past v a a' is datagrams first waits =
    with_note t past (Verf v) a a' is datagrams first (waits ∙ sym (waiting-noted t past (Verf v) refl))

-- a drop of the event that runs
pub arrivals_dropped : (t : Turn) (past : History) (n : ℕ) (r : Remark) (a a' : Arrivals) → IsDropOf n r → AreArrivalsOf (t ∷ past) a → a.is_event ≡ true
    → n ≡ events (t ∷ past) → a'.datagrams.items ≡ a.datagrams.items → a'.is_event ≡ a.is_event → a'.waiting.items ≡ without n a.waiting.items
    → AreArrivalsOf (noted (t ∷ past) r) a'
arrivals_dropped t past n r a a' drop is event number datagrams first waits =
    let one = eqb-true (event_count t.happening) 1 (sym is.event ∙ event) in
    with_note t past r a a' is datagrams first
    (waits ∙ ap (without n) is.waits ∙ ap (λ k. without k (waiting (t ∷ past))) number
    ∙ sym (waiting-dropped t past r one (subst (λ k. IsDropOf k r) number drop)))

-- a drop of another event
pub arrivals_not_dropped : (t : Turn) (past : History) (n : ℕ) (r : Remark) (a : Arrivals) → IsDropOf n r → AreArrivalsOf (t ∷ past) a
    → (a.is_event ≡ true → n ≡ events (t ∷ past) → ⊥) → AreArrivalsOf (noted (t ∷ past) r) a
arrivals_not_dropped t past n r a drop is other = with_note t past r a a is refl refl (is.waits ∙ sym (same_waits a.is_event refl ∙ drop.keeps (waiting (t ∷ past))))
  where
    same_waits : (b : Bool) → a.is_event ≡ b → waiting (noted (t ∷ past) r) ≡ waits_on (r ∷ []) (waiting (t ∷ past))
    same_waits true e = waiting-noted t past r (drop.drops_it (events (t ∷ past)) ∙ false_from_ne_true (eqb n (events (t ∷ past))) (λ (q : eqb n (events (t ∷ past)) ≡ true). other e (eqb-true n (events (t ∷ past)) q)))
    same_waits false e = waiting-noted_quiet t past r (quiet_asked t (no_event t.happening (sym is.event ∙ e)))

-- a turn that is no event begins
pub arrivals_begun : (past : History) (x : Happening) (moment : Time) (a a' : Arrivals) → AreArrivalsOf past a → event_count x ≡ 0 → a'.datagrams.items ≡ a.datagrams.items
    → a'.is_event ≡ false → a'.waiting.items ≡ a.waiting.items → AreArrivalsOf (begun past x moment) a'
arrivals_begun past x moment a a' is none datagrams first waits = record {
  count = ap length datagrams ∙ is.count ∙ ap (λ k. k + 1) (omega (arith, none));
  datagrams = λ n.
      ap (λ ds. option_map datagram_of (kept_at ds n)) datagrams ∙ is.datagrams n
      ∙ sym (arrived-turn (opened x moment) past n ∙ ap (λ b. cond (b && eqb (events past + 1) n) (brought (opened x moment)) (arrived past n)) (ap (λ k. eqb k 1) none));
  event = first ∙ sym (ap (λ k. eqb k 1) none);
  waits = waits ∙ is.waits ∙ sym (waiting-turn (opened x moment) past ∙ ap (λ o. waiting past ++ comes (events past + event_count x) false o) (quiet_asked (opened x moment) none) ∙ append-nil (waiting past));
}

-- a call that waits
abbrev pub fresh : ℕ → Bool → List ℕ
fresh n b = cond b (n ∷ []) []

comes_fresh : (n : ℕ) (o : Option Asked) → comes n false o ≡ fresh n (is_some o)
comes_fresh n None = refl
comes_fresh n (Some a) = refl

kept_last : (ds : List (Option Datagram)) (d : Option Datagram) (n : ℕ) → kept_at (ds ++ d ∷ []) n ≡ cond (eqb (length ds) n) d (kept_at ds n)
kept_last ds d n = ap (option_and_then same) (get_last ds d n) ∙ either (eqb (length ds) n)
  where
    either : (b : Bool) → option_and_then same (cond b (Some d) (slice_get ds n)) ≡ cond b d (kept_at ds n)
    either true = refl
    either false = refl

map_cond : (b : Bool) (d e : Option Datagram) → option_map datagram_of (cond b d e) ≡ cond b (option_map datagram_of d) (option_map datagram_of e)
map_cond true d e = refl
map_cond false d e = refl

-- an event begins
pub arrivals_come : (past : History) (x : Happening) (moment : Time) (d : Option Datagram) (a a' : Arrivals) → AreArrivalsOf past a → event_count x ≡ 1
    → option_map datagram_of d ≡ option_map datagram (turns.datagram_of x) → a'.datagrams.items ≡ a.datagrams.items ++ d ∷ [] → a'.is_event ≡ true
    → a'.waiting.items ≡ a.waiting.items ++ fresh (events past + 1) (is_some (option_and_then asked_in (option_map datagram_of d))) → AreArrivalsOf (begun past x moment) a'
arrivals_come past x moment d a a' is one brings datagrams first waits = record {
  count = ap length datagrams ∙ length-append a.datagrams.items (d ∷ []) ∙ omega (arith, is.count, one);
  datagrams = λ n.
      ap (λ ds. option_map datagram_of (kept_at ds n)) datagrams ∙ ap (option_map datagram_of) (kept_last a.datagrams.items d n)
      ∙ map_cond (eqb (length a.datagrams.items) n) d (kept_at a.datagrams.items n)
      ∙ ap (λ o. cond (eqb (length a.datagrams.items) n) o (option_map datagram_of (kept_at a.datagrams.items n))) brings
      ∙ ap (λ o. cond (eqb (length a.datagrams.items) n) (brought (opened x moment)) o) (is.datagrams n)
      ∙ ap (λ k. cond (eqb k n) (brought (opened x moment)) (arrived past n)) is.count
      ∙ sym (arrived-turn (opened x moment) past n ∙ ap (λ b. cond (b && eqb (events past + 1) n) (brought (opened x moment)) (arrived past n)) (ap (λ k. eqb k 1) one));
  event = first ∙ sym (ap (λ k. eqb k 1) one);
  waits =
      waits ∙ ap (λ ns. ns ++ fresh (events past + 1) (is_some (option_and_then asked_in (option_map datagram_of d)))) is.waits
      ∙ ap (λ o. waiting past ++ fresh (events past + 1) (is_some (option_and_then asked_in o))) brings
      ∙ ap (λ o. waiting past ++ fresh (events past + 1) (is_some o)) (sym (asked_of_brought (opened x moment)))
      ∙ ap (λ k. waiting past ++ fresh (events past + k) (is_some (asked_by (opened x moment)))) (sym one)
      ∙ ap (λ ns. waiting past ++ ns) (sym (comes_fresh (events past + event_count x) (asked_by (opened x moment))))
      ∙ sym (waiting-turn (opened x moment) past);
}

-- nothing has arrived yet
pub arrivals_none : (a : Arrivals) → a.datagrams.items ≡ None ∷ [] → a.is_event ≡ false → a.waiting.items ≡ [] → AreArrivalsOf [] a
unfolding turn_of waiting
arrivals_none a datagrams first waits = record {
  count = ap length datagrams;
  datagrams = λ n. ap (λ ds. option_map datagram_of (kept_at ds n)) datagrams ∙ none n;
  event = first;
  waits = waits;
}
  where
    none : (n : ℕ) → option_map datagram_of (kept_at (None ∷ []) n) ≡ None
    none zero = refl
    none (suc n) = refl

-- the newest datagram
pub newest_event : (t : Turn) (past : History) (a : Arrivals) → AreArrivalsOf (t ∷ past) a → a.is_event ≡ true → arrived (t ∷ past) (events (t ∷ past)) ≡ brought t
newest_event t past a is event =
    let one = eqb-true (event_count t.happening) 1 (sym is.event ∙ event) in
    arrived-turn t past (events (t ∷ past))
    ∙ ap (λ b. cond (b && eqb (events past + 1) (events (t ∷ past))) (brought t) (arrived past (events (t ∷ past)))) (sym is.event ∙ event)
    ∙ ap (λ b. cond b (brought t) (arrived past (events (t ∷ past)))) (eq-eqb (events past + 1) (events (t ∷ past)) (omega (arith, one)))

pub newest_quiet : (t : Turn) (past : History) (a : Arrivals) → AreArrivalsOf (t ∷ past) a → a.is_event ≡ false → brought t ≡ None
newest_quiet t past a is event = quiet_brought t (no_event t.happening (sym is.event ∙ event))

-- what waits where the call that comes does, and where it doesn't
pub waits_more : (ws ws' : List ℕ) (n k : ℕ) (b : Bool) → ws' ≡ ws ++ k ∷ [] → k ≡ n → true ≡ b → ws' ≡ ws ++ fresh n b
waits_more ws ws' n k b e same comes = e ∙ ap (λ m. ws ++ m ∷ []) same ∙ ap (λ c. ws ++ fresh n c) comes

pub waits_same : (ws : List ℕ) (n : ℕ) (b : Bool) → false ≡ b → ws ≡ ws ++ fresh n b
waits_same ws n b comes = sym (append-nil ws) ∙ ap (λ c. ws ++ fresh n c) comes

pub counted : (ds ds' : List (Option Datagram)) (d : Option Datagram) (n k : ℕ) → ds' ≡ ds ++ d ∷ [] → length ds ≡ n + 1 → k ≡ length ds' - 1 → k ≡ n + 1
counted ds ds' d n k e long number =
    let more = ap length e ∙ length-append ds (d ∷ []) in
    omega (arith, more, long, number)

pub no_count : (h : past.Happening) → ((e : Event) → h ≡ happening.Happens e → ⊥) → event_count (happening_of h) ≡ 0
no_count (happening.Opens setup) other = refl
no_count (happening.Reaches moment) other = refl
no_count (happening.Happens e) other = absurd (other e refl)
