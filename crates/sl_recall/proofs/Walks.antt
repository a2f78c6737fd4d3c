-- Claims that go over the remarks of a turn, and over the turns of a history, beside what a program keeps of them.
use Rattle.std.proofs.Common.{◌≡◌, ℕ, zero, suc, ◌+◌, ◌-◌, ◌<◌, ◌≤◌, ◌↔◌, Bool, true, false, List, [], ◌∷◌, ◌++◌, length, get_or, take, drop, drop-cons, add-one, refl, ap, sym, subst, ◌∙◌, arith}
use Rattle.std.proofs.Math.Seq.{take-suc}
use Rattle.std.proofs.lemmas.Bool.{iff_false, true≢false}
use Rattle.std.proofs.lemmas.List.{drop_all, map-append, take_all}
use Rattle.std.specs.Prelude.{Ok, map}
use Rattle.sl_past.specs.Words.{remark_of}
use Rattle.sl_past.specs.declared.remark.Remark as remark
use Rattle.sl_defs.specs.declared.bytes.NoMemory.{NoMemory}
use Rattle.sl_history.specs.Turns.{Remark, Turn, History, begun, so_far}
use Rattle.sl_history.specs.Deciding.{Says}

-- ---- the remarks of a turn

-- Whether all remarks may be noted goes over them, with those before.
pub record IsWalk (May : List Remark → Remark → Type 0) (All : List Remark → List Remark → Type 0) : Type 0 where
  pub nothing : (before : List Remark) → All before []
  pub more : (before : List Remark) (r : Remark) (rest : List Remark) → May before r → All (before ++ r ∷ []) rest → All before (r ∷ rest)
  pub first : (before : List Remark) (r : Remark) (rest : List Remark) → All before (r ∷ rest) → May before r
  pub others : (before : List Remark) (r : Remark) (rest : List Remark) → All before (r ∷ rest) → All (before ++ r ∷ []) rest

-- What is kept is that of the turn with the remarks before; whether all may be noted rests on the others.
pub record Midway {D : Type 0} (Keeps : History → D → Type 0) (All : List Remark → List Remark → Type 0) (t : Turn) (past : History) (before rest : List Remark) (d : D) : Type 0 where
  pub kept : Keeps (so_far t before ∷ past) d
  pub forth : All before rest → All [] t.remarks
  pub back : All [] t.remarks → All before rest

item_next : (items : List remark.Remark) (k : ℕ) (item : remark.Remark) → k < length items → item ≡ get_or items k item
    → map remark_of (drop k items) ≡ remark_of item ∷ map remark_of (drop (k + 1) items)
item_next items k item within is =
    ap (map remark_of) (drop-cons items k item within ∙ ap (λ (x : remark.Remark). x ∷ drop (suc k) items) (sym is))
    ∙ ap (λ (j : ℕ). remark_of item ∷ map remark_of (drop j items)) (sym (add-one k))

items_before : (items : List remark.Remark) (k : ℕ) (item : remark.Remark) → k < length items → item ≡ get_or items k item
    → map remark_of (take (k + 1) items) ≡ map remark_of (take k items) ++ remark_of item ∷ []
items_before items k item within is =
    ap (λ (j : ℕ). map remark_of (take j items)) (add-one k)
    ∙ ap (map remark_of) (take-suc items k item within ∙ ap (λ (x : remark.Remark). take k items ++ x ∷ []) (sym is))
    ∙ map-append remark_of (take k items) (item ∷ [])

-- so of the program's remarks, of which so many are passed
abbrev pub Here : {D : Type 0} → (History → D → Type 0) → (List Remark → List Remark → Type 0) → Turn → History → List remark.Remark → ℕ → D → Type 0
Here Keeps All t past items k d = Midway Keeps All t past (map remark_of (take k items)) (map remark_of (drop k items)) d

pub at_start : {D : Type 0} (Keeps : History → D → Type 0) (All : List Remark → List Remark → Type 0) (t : Turn) (past : History) (items : List remark.Remark) (d : D) → map remark_of items ≡ t.remarks
    → Keeps (begun past t.happening t.moment) d → Here Keeps All t past items 0 d
at_start Keeps All t past items d are is =
    subst (λ (rs : List Remark). Midway Keeps All t past [] rs d) (sym are) (record { kept = is; forth = λ all. all; back = λ all. all })

pub step_on : {D : Type 0} (Keeps : History → D → Type 0) (May : List Remark → Remark → Type 0) (All : List Remark → List Remark → Type 0) → IsWalk May All
    → (t : Turn) (past : History) (items : List remark.Remark) (k : ℕ) (item : remark.Remark) (d d' : D) → k < length items → item ≡ get_or items k item
    → Here Keeps All t past items k d → May (map remark_of (take k items)) (remark_of item)
    → Keeps (so_far t (map remark_of (take k items) ++ remark_of item ∷ []) ∷ past) d' → Here Keeps All t past items (k + 1) d'
step_on Keeps May All walk t past items k item d d' within is here may next =
    let before = map remark_of (take k items) in
    let rest = map remark_of (drop (k + 1) items) in
    let r = remark_of item in
    let now : Midway Keeps All t past before (r ∷ rest) d = subst (λ (rs : List Remark). Midway Keeps All t past before rs d) (item_next items k item within is) here in
    subst (λ (rs : List Remark). Midway Keeps All t past rs rest d') (sym (items_before items k item within is))
    (record { kept = next; forth = λ all. now.forth (walk.more before r rest may all); back = λ all. walk.others before r rest (now.back all) })

pub step_wrong : {D : Type 0} (Keeps : History → D → Type 0) (May : List Remark → Remark → Type 0) (All : List Remark → List Remark → Type 0) → IsWalk May All
    → (t : Turn) (past : History) (items : List remark.Remark) (k : ℕ) (item : remark.Remark) (d : D) → k < length items → item ≡ get_or items k item
    → Here Keeps All t past items k d → (May (map remark_of (take k items)) (remark_of item) → ⊥) → All [] t.remarks → ⊥
step_wrong Keeps May All walk t past items k item d within is here wrong all =
    let before = map remark_of (take k items) in
    let rest = map remark_of (drop (k + 1) items) in
    let now : Midway Keeps All t past before (remark_of item ∷ rest) d = subst (λ (rs : List Remark). Midway Keeps All t past before rs d) (item_next items k item within is) here in
    wrong (walk.first before (remark_of item) rest (now.back all))

pub at_end : {D : Type 0} (Keeps : History → D → Type 0) (May : List Remark → Remark → Type 0) (All : List Remark → List Remark → Type 0) → IsWalk May All
    → (t : Turn) (past : History) (items : List remark.Remark) (k : ℕ) (d : D) → map remark_of items ≡ t.remarks → length items ≤ k
    → Here Keeps All t past items k d → Keeps (t ∷ past) d × All [] t.remarks
at_end Keeps May All walk t past items k d are all here =
    let done : Midway Keeps All t past t.remarks [] d =
    subst (λ (rs : List Remark). Midway Keeps All t past rs [] d) (ap (map remark_of) (take_all k items all) ∙ are)
    (subst (λ (rs : List remark.Remark). Midway Keeps All t past (map remark_of (take k items)) (map remark_of rs) d) (drop_all k items all) here) in
    (done.kept, done.forth (walk.nothing t.remarks))

-- ---- the turns of a history

-- A claim on a history is one on each turn, behind its past.
pub record IsClaim (Holds : History → Type 0) (At : History → Turn → Type 0) : Type 0 where
  pub begins : Holds []
  pub goes : (t : Turn) (past : History) → Holds past → At past t → Holds (t ∷ past)
  pub before : (t : Turn) (past : History) → Holds (t ∷ past) → Holds past
  pub here : (t : Turn) (past : History) → Holds (t ∷ past) → At past t

-- The claim holds of the turns from k on, and what is kept is theirs.
pub record Passed {D : Type 0} (Keeps : History → D → Type 0) (Holds : History → Type 0) (h : History) (k : ℕ) (d : D) : Type 0 where
  pub kept : Keeps (drop k h) d
  pub holds : Holds (drop k h)

pub before_all : {D : Type 0} (Keeps : History → D → Type 0) (Holds : History → Type 0) (At : History → Turn → Type 0) → IsClaim Holds At → (h : History) (d : D) → Keeps [] d
    → Passed Keeps Holds h (length h) d
before_all Keeps Holds At claim h d is =
    let none = drop_all (length h) h (omega arith) in
    record { kept = subst (λ (x : History). Keeps x d) (sym none) is; holds = subst Holds (sym none) claim.begins }

turn_there : (h : History) (j k : ℕ) (t : Turn) → k ≡ j - 1 → 0 < j → k < length h → t ≡ get_or h k t → drop k h ≡ t ∷ drop j h
turn_there h j k t e some within is =
    let next : suc k ≡ j = omega (arith, e, some) in
    drop-cons h k t within ∙ ap (λ (x : Turn). x ∷ drop (suc k) h) (sym is) ∙ ap (λ i. t ∷ drop i h) next

holds_within : (Holds : History → Type 0) (At : History → Turn → Type 0) → IsClaim Holds At → (k : ℕ) (h : History) → Holds h → Holds (drop k h)
holds_within Holds At claim zero h holds = holds
holds_within Holds At claim (suc k) [] holds = holds
holds_within Holds At claim (suc k) (t ∷ past) holds = holds_within Holds At claim k past (claim.before t past holds)

pub passes : {D : Type 0} (Keeps : History → D → Type 0) (Holds : History → Type 0) (At : History → Turn → Type 0) → IsClaim Holds At
    → (h : History) (j k : ℕ) (t : Turn) (d d' : D) → k ≡ j - 1 → 0 < j → k < length h → t ≡ get_or h k t → Passed Keeps Holds h j d
    → Keeps (t ∷ drop j h) d' → At (drop j h) t → Passed Keeps Holds h k d'
passes Keeps Holds At claim h j k t d d' e some within is so next right =
    let there = turn_there h j k t e some within is in
    record {
      kept = subst (λ (x : History). Keeps x d') (sym there) next;
      holds = subst Holds (sym there) (claim.goes t (drop j h) so.holds right);
    }

pub fails : (Holds : History → Type 0) (At : History → Turn → Type 0) → IsClaim Holds At → (h : History) (j k : ℕ) (t : Turn) → k ≡ j - 1 → 0 < j → k < length h → t ≡ get_or h k t
    → (At (drop j h) t → ⊥) → Holds h → ⊥
fails Holds At claim h j k t e some within is wrong holds =
    wrong (claim.here t (drop j h) (subst Holds (turn_there h j k t e some within is) (holds_within Holds At claim k h holds)))

-- ---- answers

pub says_true : (b : Bool) (P : Type 0) → b ≡ true → Says {E = NoMemory} (Ok b) P → P
says_true true P e says = says
says_true false P e says = absurd (true≢false (sym e))

pub says_false : (b : Bool) (P : Type 0) → b ≡ false → Says {E = NoMemory} (Ok b) P → P → ⊥
says_false true P e says = absurd (true≢false e)
says_false false P e says = says

-- an answer that tells exactly whether it holds
pub says_so : (b : Bool) (P : Type 0) → ((b ≡ true) ↔ P) → Says {E = NoMemory} (Ok b) P
says_so true P both = both.0 refl
says_so false P both = λ p. iff_false both refl p

one_less : (j n : ℕ) → 0 < j → j ≤ n → j - 1 < n
one_less j n some within = omega (arith, some, within)

-- the turn before j is one of them
pub is_one : (j n : ℕ) → 0 < j → j ≤ n → j - 1 < n
is_one j n some within = omega (arith, some, within)

pub fewer : (j n : ℕ) → 0 < j → j ≤ n → j - 1 ≤ n
fewer j n some within = omega (arith, some, within)

pub all_of : (n : ℕ) → n ≤ n
all_of n = omega arith
