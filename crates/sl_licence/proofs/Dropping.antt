-- Which datagrams have to be dropped, and which notes drop one.
use Rattle.std.proofs.Common.{◌≡◌, ℕ, Bool, true, false, cond, List, [], ◌∷◌, ◌++◌, refl, ap, sym, ◌∙◌, Option, Some, None}
use Rattle.std.proofs.lemmas.Bool.{true≢false}
use Rattle.std.specs.Prelude.{not, nat_le, length, option_map, is_some, ◌↔◌}
use Rattle.sl_history.specs.Turns.{Remark, Sent, Did, Flush, Verf, Replied, Junk, Early, Full, Lost, Down, Turn, History, events, so_far}
use Rattle.sl_history.specs.Turns as turns
use Rattle.sl_history.specs.Frames.{is_up}
use Rattle.sl_history.specs.Arrivals as arrivals
use Rattle.sl_history.specs.Arrivals.{crowded, datagram, dropped_by, is_welcomed, most_waiting, turned_away, waiting}
use Rattle.sl_history.specs.Licensed.{due_drop, dropping, option_list}
use Rattle.sl_licence.specs.declared.drops.Door.{Door}
use Rattle.sl_licence.specs.declared.drops.Dropped.{Dropped}
use Rattle.sl_licence.specs.declared.drops.Dropped.TheVariants as dropped
use Rattle.sl_licence.specs.Drops.{drop_in, dropped_at, met_by, next_met, note_of, notes_of}

-- ---- what is due

crowded_is : (past : History) (n : ℕ) (w f : Bool) → w ≡ is_welcomed past → f ≡ nat_le most_waiting (length (waiting past))
    → crowded past n ≡ cond (not w) (Some (Early n)) (cond f (Some (Full n)) None)
crowded_is past n w f welcomed full =
    ap (λ (b : Bool). cond (not b) (Some (Early n)) (cond (nat_le most_waiting (length (waiting past))) (Some (Full n)) None)) (sym welcomed)
    ∙ ap (λ (b : Bool). cond (not w) (Some (Early n)) (cond b (Some (Full n)) None)) (sym full)

asked_drop : (w f : Bool) (n : ℕ) (a : arrivals.Asked) → notes_of (dropped_at (met_by true w f) n (arrivals.IsAsked a)) ≡ option_list (cond (not w) (Some (Early n)) (cond f (Some (Full n)) None))
asked_drop false f n a = refl
asked_drop true true n a = refl
asked_drop true false n a = refl

junk_drop : (w f : Bool) (n : ℕ) → notes_of (dropped_at (met_by true w f) n arrivals.IsJunk) ≡ option_list (Some (Junk n))
junk_drop false f n = refl
junk_drop true true n = refl
junk_drop true false n = refl

answered_drop : (w f : Bool) (n : ℕ) (reply : List ℕ) → notes_of (dropped_at (met_by true w f) n (arrivals.IsAnswered reply)) ≡ []
answered_drop false f n reply = refl
answered_drop true true n reply = refl
answered_drop true false n reply = refl

due_at : (past : History) (n : ℕ) (d : arrivals.Datagram) (u w f : Bool) → w ≡ is_welcomed past → f ≡ nat_le most_waiting (length (waiting past))
    → notes_of (dropped_at (met_by u w f) n d) ≡ option_list (cond u (turned_away past n d) (Some (Lost n)))
due_at past n d false w f welcomed full = refl
due_at past n arrivals.IsJunk true w f welcomed full = junk_drop w f n
due_at past n (arrivals.IsAnswered reply) true w f welcomed full = answered_drop w f n reply
due_at past n (arrivals.IsAsked a) true w f welcomed full = asked_drop w f n a ∙ ap option_list (sym (crowded_is past n w f welcomed full))

due_by : (past : History) (n : ℕ) (bytes : List ℕ) → notes_of (dropped_at (next_met past) n (datagram bytes)) ≡ option_list (dropped_by past n bytes)
unfolding dropped_by
due_by past n bytes = due_at past n (datagram bytes) (is_up past 0) (is_welcomed past) (nat_le most_waiting (length (waiting past))) refl refl

none_due : (past : History) (t : Turn) (o : Option (List ℕ)) → option_map datagram o ≡ None → [] ≡ due_drop past t o
none_due past t None e = refl
none_due past t (Some bytes) e = absurd (cc)

some_due : (past : History) (t : Turn) (o : Option (List ℕ)) (d : arrivals.Datagram) → Some d ≡ option_map datagram o
    → notes_of (dropped_at (next_met past) (events (t ∷ past)) d) ≡ due_drop past t o
some_due past t None d e = absurd (cc)
some_due past t (Some bytes) d e =
    let same : d ≡ datagram bytes = cc in
    ap (λ (x : arrivals.Datagram). notes_of (dropped_at (next_met past) (events (t ∷ past)) x)) same ∙ due_by past (events (t ∷ past)) bytes

pub nothing_due : (past : History) (t : Turn) → None ≡ option_map datagram (turns.datagram_of t.happening) → [] ≡ due_drop past t (turns.datagram_of t.happening)
nothing_due past t e = none_due past t (turns.datagram_of t.happening) (sym e)

pub something_due : (past : History) (t : Turn) (d : arrivals.Datagram) (met : Door) (n : ℕ) → Some d ≡ option_map datagram (turns.datagram_of t.happening) → met ≡ next_met past
    → n ≡ events (so_far t [] ∷ past) → notes_of (dropped_at met n d) ≡ due_drop past t (turns.datagram_of t.happening)
something_due past t d met n e door newest =
    ap (λ (x : Door). notes_of (dropped_at x n d)) door ∙ ap (λ (k : ℕ). notes_of (dropped_at (next_met past) k d)) newest
    ∙ some_due past t (turns.datagram_of t.happening) d e

-- ---- the notes that drop

-- what a note drops is the note
drops_of : (r : Remark) (rs : List Remark) → dropping (r ∷ rs) ≡ notes_of (drop_in r) ++ dropping rs
drops_of (Sent k f) rs = refl
drops_of (Did n at choice) rs = refl
drops_of (Flush f) rs = refl
drops_of (Verf v) rs = refl
drops_of (Replied n e bytes) rs = refl
drops_of (Junk n) rs = refl
drops_of (Early n) rs = refl
drops_of (Full n) rs = refl
drops_of (Lost n) rs = refl
drops_of (Down a) rs = refl

same_note : (a b : Dropped) → note_of a ≡ note_of b → a ≡ b
same_note (dropped.Junk n) (dropped.Junk m) e = cc
same_note (dropped.Junk n) (dropped.Early m) e = absurd (cc)
same_note (dropped.Junk n) (dropped.Full m) e = absurd (cc)
same_note (dropped.Junk n) (dropped.Lost m) e = absurd (cc)
same_note (dropped.Early n) (dropped.Junk m) e = absurd (cc)
same_note (dropped.Early n) (dropped.Early m) e = cc
same_note (dropped.Early n) (dropped.Full m) e = absurd (cc)
same_note (dropped.Early n) (dropped.Lost m) e = absurd (cc)
same_note (dropped.Full n) (dropped.Junk m) e = absurd (cc)
same_note (dropped.Full n) (dropped.Early m) e = absurd (cc)
same_note (dropped.Full n) (dropped.Full m) e = cc
same_note (dropped.Full n) (dropped.Lost m) e = absurd (cc)
same_note (dropped.Lost n) (dropped.Junk m) e = absurd (cc)
same_note (dropped.Lost n) (dropped.Early m) e = absurd (cc)
same_note (dropped.Lost n) (dropped.Full m) e = absurd (cc)
same_note (dropped.Lost n) (dropped.Lost m) e = cc

first_due : (d : Dropped) (left : Option Dropped) (rs : List Remark) → note_of d ∷ rs ≡ notes_of left → Some d ≡ left
first_due d None rs e = absurd (cc)
first_due d (Some other) rs e = ap (λ (x : Dropped). Some x) (same_note d other (cc))

-- the notes that are left drop what is left
abbrev Drops : List Remark → Option Dropped → Type 0
Drops rs left = dropping rs ≡ notes_of left

-- a note that drops nothing
pub drops_none : (r : Remark) (rs : List Remark) (o left : Option Dropped) (P : Type 0) → o ≡ drop_in r → is_some o ≡ false → (Drops (r ∷ rs) left ↔ P) → Drops rs left ↔ P
drops_none r rs None left P is none both =
    let same : dropping (r ∷ rs) ≡ dropping rs = drops_of r rs ∙ ap (λ (x : Option Dropped). notes_of x ++ dropping rs) (sym is) in
    (λ drops. both.0 (same ∙ drops), λ holds. sym same ∙ both.1 holds)
drops_none r rs (Some d) left P is none both = absurd (cc)

-- one that drops what is left
pub drops_due : (r : Remark) (rs : List Remark) (o left : Option Dropped) (P : Type 0) → o ≡ drop_in r → is_some o ≡ true → o ≡ left → (Drops (r ∷ rs) left ↔ P) → Drops rs None ↔ P
drops_due r rs None left P is some due both = absurd (cc)
drops_due r rs (Some d) left P is some due both =
    let same : dropping (r ∷ rs) ≡ note_of d ∷ dropping rs = drops_of r rs ∙ ap (λ (x : Option Dropped). notes_of x ++ dropping rs) (sym is) in
    let left_is : note_of d ∷ [] ≡ notes_of left = ap notes_of due in
    (λ drops. both.0 (same ∙ ap (λ (x : List Remark). note_of d ∷ x) drops ∙ left_is), λ holds. tails (note_of d) (note_of d) (dropping rs) [] (sym same ∙ both.1 holds ∙ sym left_is))
  where
    tails : (a b : Remark) (xs ys : List Remark) → a ∷ xs ≡ b ∷ ys → xs ≡ ys
    tails a b xs ys e = cc

-- one that drops something else
pub drops_wrong : (r : Remark) (rs : List Remark) (o left : Option Dropped) (P : Type 0) → o ≡ drop_in r → is_some o ≡ true → (o ≡ left → ⊥) → (Drops (r ∷ rs) left ↔ P) → P → ⊥
drops_wrong r rs None left P is some wrong both holds = absurd (cc)
drops_wrong r rs (Some d) left P is some wrong both holds =
    let same : dropping (r ∷ rs) ≡ note_of d ∷ dropping rs = drops_of r rs ∙ ap (λ (x : Option Dropped). notes_of x ++ dropping rs) (sym is) in
    wrong (first_due d left (dropping rs) (sym same ∙ both.1 holds))

-- no note is left
pub drops_all : (left : Option Dropped) (b : Bool) (P : Type 0) → b ≡ not (is_some left) → (Drops [] left ↔ P) → (b ≡ true) ↔ P
drops_all None b P is both = (λ e. both.0 refl, λ holds. is)
drops_all (Some d) b P is both = (λ e. absurd (true≢false (sym e ∙ is)), λ holds. absurd (none (note_of d) (both.1 holds)))
  where
    none : (r : Remark) → [] ≡ r ∷ [] → ⊥
    none r e = cc
