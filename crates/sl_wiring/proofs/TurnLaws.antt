-- The remarks of a turn, one after another, and the turns of a history.
use Rattle.std.proofs.Common.{◌≡◌, ℕ, zero, suc, ◌+◌, ◌-◌, ◌<◌, ◌≤◌, Bool, true, false, List, [], ◌∷◌, ◌++◌, length, get_or, take, drop, drop-cons, add-one, refl, ap, sym, subst, ◌∙◌, arith, inl, inr}
use Rattle.std.proofs.Math.Seq.{take-suc}
use Rattle.std.proofs.lemmas.List.{drop_all, map-append, take_all}
use Rattle.std.specs.Prelude.{Result, Ok, Err, IfErr, map}
use Rattle.sl_past.specs.Words.{remark_of}
use Rattle.sl_past.specs.declared.remark.Remark as remark
use Rattle.sl_defs.specs.Histories.{Happening}
use Rattle.sl_defs.specs.declared.setup.Setup.{Setup}
use Rattle.sl_model.specs.Volume.{Volume}
use Rattle.sl_history.specs.Turns.{Remark, Turn, History, begun, so_far}
use Rattle.sl_history.specs.Wired.{AllMayBeNoted, IsWiredTurn, MayNote, Wired}
use Rattle.sl_ledger.specs.Stops.{StopsAmong, StopsIn}
use Rattle.sl_ledger.specs.declared.fault.AuditFault.{AuditFault}
use Rattle.sl_ledger.specs.declared.fault.AuditFault.TheVariants.{NoMemory, Spent}
use Rattle.sl_wiring.specs.declared.docket.Docket.{Docket}
use Rattle.sl_wiring.specs.Dockets.{IsDocketOf}
use Rattle.sl_wiring.specs.Notes.{Notes}

-- The docket is that of the turn with the remarks before; whether all may be noted, and where performing stops, rests on the others.
pub record Midway (setup : Setup) (start : Volume) (t : Turn) (past : History) (before rest : List Remark) (d : Docket) : Type 0 where
  pub docket : IsDocketOf setup start (so_far t before ∷ past) d
  pub forth : AllMayBeNoted setup start t past before rest → AllMayBeNoted setup start t past [] t.remarks
  pub back : AllMayBeNoted setup start t past [] t.remarks → AllMayBeNoted setup start t past before rest
  pub stops : (f : AuditFault) → StopsAmong f start t past before rest → StopsAmong f start t past [] t.remarks

pub outset : (setup : Setup) (start : Volume) (t : Turn) (past : History) (d : Docket) → IsDocketOf setup start (begun past t.happening t.moment) d → Midway setup start t past [] t.remarks d
outset setup start t past d is = record { docket = is; forth = λ all. all; back = λ all. all; stops = λ f stops. stops }

pub onward : (setup : Setup) (start : Volume) (t : Turn) (past : History) (before : List Remark) (r : Remark) (rest : List Remark) (d d' : Docket)
    → Midway setup start t past before (r ∷ rest) d → Notes d d' t.happening r (Ok true) → Midway setup start t past (before ++ r ∷ []) rest d'
onward setup start t past before r rest d d' here notes =
    let may : MayNote setup start past t (so_far t before ∷ past) r = notes.decides setup start t past before refl here.docket in
    record {
      docket = notes.takes refl setup start t past before here.docket;
      forth = λ all. here.forth (may, all);
      back = λ all. (here.back all).1;
      stops = λ f stops. here.stops f (inr stops);
    }

pub arrived : (setup : Setup) (start : Volume) (t : Turn) (past : History) (d : Docket) → Midway setup start t past t.remarks [] d → IsDocketOf setup start (t ∷ past) d × AllMayBeNoted setup start t past [] t.remarks
arrived setup start t past d here = (here.docket, here.forth tt)

pub wrong_here : (setup : Setup) (start : Volume) (t : Turn) (past : History) (before : List Remark) (r : Remark) (rest : List Remark) (d d' : Docket)
    → Midway setup start t past before (r ∷ rest) d → Notes d d' t.happening r (Ok false) → AllMayBeNoted setup start t past [] t.remarks → ⊥
wrong_here setup start t past before r rest d d' here notes all = notes.decides setup start t past before refl here.docket (here.back all).0

pub stops_here : (setup : Setup) (start : Volume) (t : Turn) (past : History) (before : List Remark) (r : Remark) (rest : List Remark) (d d' : Docket) (f : AuditFault)
    → Midway setup start t past before (r ∷ rest) d → Notes d d' t.happening r (Err f) → StopsAmong f start t past [] t.remarks
stops_here setup start t past before r rest d d' f here notes = here.stops f (inl (notes.stopped setup start (so_far t before ∷ past) here.docket))

-- ---- the turn

pub stops_in_turn : (f : AuditFault) (start : Volume) (t : Turn) (past : History) → StopsAmong f start t past [] t.remarks → StopsIn f start (t ∷ past)
stops_in_turn NoMemory start t past stops = tt
stops_in_turn Spent start t past stops = inr stops

-- ---- the history

pub stops_before : (f : AuditFault) (start : Volume) (t : Turn) (past : History) → StopsIn f start past → StopsIn f start (t ∷ past)
stops_before NoMemory start t past stops = tt
stops_before Spent start t past stops = inl stops

-- what stops in an older part stops in the whole
pub stops_within : (f : AuditFault) (start : Volume) (k : ℕ) (h : History) → StopsIn f start (drop k h) → StopsIn f start h
stops_within f start zero h stops = stops
stops_within f start (suc k) [] stops = stops
stops_within f start (suc k) (t ∷ past) stops = stops_before f start t past (stops_within f start k past stops)

-- each older part of a wired history is wired
pub wired_within : (setup : Setup) (start : Volume) (k : ℕ) (h : History) → Wired setup start h → Wired setup start (drop k h)
wired_within setup start zero h wired = wired
wired_within setup start (suc k) [] wired = wired
wired_within setup start (suc k) (t ∷ past) wired = wired_within setup start k past wired.0

pub turn_at : (h : History) (k : ℕ) (t : Turn) → k < length h → t ≡ get_or h k t → drop k h ≡ t ∷ drop (suc k) h
turn_at h k t within is = drop-cons h k t within ∙ ap (λ (x : Turn). x ∷ drop (suc k) h) (sym is)

-- ---- the remarks, as the program has them

pub at_start : (setup : Setup) (start : Volume) (t : Turn) (past : History) (items : List remark.Remark) (d : Docket) → map remark_of items ≡ t.remarks
    → IsDocketOf setup start (begun past t.happening t.moment) d → Midway setup start t past (map remark_of (take 0 items)) (map remark_of (drop 0 items)) d
at_start setup start t past items d are is = subst (λ (rs : List Remark). Midway setup start t past [] rs d) (sym are) (outset setup start t past d is)

item_next : (items : List remark.Remark) (k : ℕ) (item : remark.Remark) → k < length items → item ≡ get_or items k item
    → map remark_of (drop k items) ≡ remark_of item ∷ map remark_of (drop (k + 1) items)
item_next items k item within is =
    ap (map remark_of) (drop-cons items k item within ∙ ap (λ (x : remark.Remark). x ∷ drop (suc k) items) (sym is))
    ∙ ap (λ (j : ℕ). remark_of item ∷ map remark_of (drop j items)) (sym (add-one k))

items_before : (items : List remark.Remark) (k : ℕ) (item : remark.Remark) → k < length items → item ≡ get_or items k item
    → map remark_of (take (k + 1) items) ≡ map remark_of (take k items) ++ remark_of item ∷ []
items_before items k item within is =
    ap (λ (j : ℕ). map remark_of (take j items)) (add-one k)
    ∙ ap (map remark_of) (take-suc items k item within ∙ ap (λ (x : remark.Remark). take k items ++ x ∷ []) (sym is))
    ∙ map-append remark_of (take k items) (item ∷ [])

here_is : (setup : Setup) (start : Volume) (t : Turn) (past : History) (items : List remark.Remark) (k : ℕ) (item : remark.Remark) (d : Docket) → k < length items → item ≡ get_or items k item
    → Midway setup start t past (map remark_of (take k items)) (map remark_of (drop k items)) d
    → Midway setup start t past (map remark_of (take k items)) (remark_of item ∷ map remark_of (drop (k + 1) items)) d
here_is setup start t past items k item d within is here =
    subst (λ (rs : List Remark). Midway setup start t past (map remark_of (take k items)) rs d) (item_next items k item within is) here

pub one_more : (setup : Setup) (start : Volume) (t : Turn) (past : History) (items : List remark.Remark) (k : ℕ) (item : remark.Remark) (d d' : Docket) → k < length items → item ≡ get_or items k item
    → Midway setup start t past (map remark_of (take k items)) (map remark_of (drop k items)) d → Notes d d' t.happening (remark_of item) (Ok true)
    → Midway setup start t past (map remark_of (take (k + 1) items)) (map remark_of (drop (k + 1) items)) d'
one_more setup start t past items k item d d' within is here notes =
    subst (λ (rs : List Remark). Midway setup start t past rs (map remark_of (drop (k + 1) items)) d') (sym (items_before items k item within is))
    (onward setup start t past (map remark_of (take k items)) (remark_of item) (map remark_of (drop (k + 1) items)) d d' (here_is setup start t past items k item d within is here) notes)

pub wrong_item : (setup : Setup) (start : Volume) (t : Turn) (past : History) (items : List remark.Remark) (k : ℕ) (item : remark.Remark) (d d' : Docket) → k < length items → item ≡ get_or items k item
    → Midway setup start t past (map remark_of (take k items)) (map remark_of (drop k items)) d → Notes d d' t.happening (remark_of item) (Ok false)
    → AllMayBeNoted setup start t past [] t.remarks → ⊥
wrong_item setup start t past items k item d d' within is here notes =
    wrong_here setup start t past (map remark_of (take k items)) (remark_of item) (map remark_of (drop (k + 1) items)) d d' (here_is setup start t past items k item d within is here) notes

pub stopping_item : (setup : Setup) (start : Volume) (t : Turn) (past : History) (items : List remark.Remark) (k : ℕ) (item : remark.Remark) (d d' : Docket) (f : AuditFault) → k < length items
    → item ≡ get_or items k item → Midway setup start t past (map remark_of (take k items)) (map remark_of (drop k items)) d → Notes d d' t.happening (remark_of item) (Err f)
    → StopsAmong f start t past [] t.remarks
stopping_item setup start t past items k item d d' f within is here notes =
    stops_here setup start t past (map remark_of (take k items)) (remark_of item) (map remark_of (drop (k + 1) items)) d d' f (here_is setup start t past items k item d within is here) notes

pub at_end : (setup : Setup) (start : Volume) (t : Turn) (past : History) (items : List remark.Remark) (k : ℕ) (d : Docket) → map remark_of items ≡ t.remarks → length items ≤ k
    → Midway setup start t past (map remark_of (take k items)) (map remark_of (drop k items)) d → IsDocketOf setup start (t ∷ past) d × AllMayBeNoted setup start t past [] t.remarks
at_end setup start t past items k d are all here =
    arrived setup start t past d
    (subst (λ (rs : List Remark). Midway setup start t past rs [] d) (ap (map remark_of) (take_all k items all) ∙ are)
    (subst (λ (rs : List remark.Remark). Midway setup start t past (map remark_of (take k items)) (map remark_of rs) d) (drop_all k items all) here))

-- ---- the whole turn, and the whole history

-- The turns from k on are wired, and the docket is theirs.
pub record Passed (setup : Setup) (start : Volume) (h : History) (k : ℕ) (d : Docket) : Type 0 where
  pub docket : IsDocketOf setup start (drop k h) d
  pub wired : Wired setup start (drop k h)

pub before_all : (setup : Setup) (start : Volume) (h : History) (k : ℕ) (d : Docket) → k ≡ length h → IsDocketOf setup start [] d → Passed setup start h k d
before_all setup start h k d e is =
    let none = drop_all k h (omega (arith, e)) in
    record { docket = subst (λ (x : History). IsDocketOf setup start x d) (sym none) is; wired = subst (λ (x : History). Wired setup start x) (sym none) tt }

turn_there : (h : History) (j k : ℕ) (t : Turn) → k ≡ j - 1 → 0 < j → k < length h → t ≡ get_or h k t → drop k h ≡ t ∷ drop j h
turn_there h j k t e some within is =
    let next : suc k ≡ j = omega (arith, e, some) in
    turn_at h k t within is ∙ ap (λ (i : ℕ). t ∷ drop i h) next

pub passes : (setup : Setup) (start : Volume) (h : History) (j k : ℕ) (t : Turn) (d d' : Docket) → k ≡ j - 1 → 0 < j → k < length h → t ≡ get_or h k t → Passed setup start h j d
    → IsDocketOf setup start (t ∷ drop j h) d' → IsWiredTurn setup start (drop j h) t → Passed setup start h k d'
passes setup start h j k t d d' e some within is so next wired =
    let there = turn_there h j k t e some within is in
    record {
      docket = subst (λ (x : History). IsDocketOf setup start x d') (sym there) next;
      wired = subst (λ (x : History). Wired setup start x) (sym there) (so.wired, wired);
    }

pub not_wired : (setup : Setup) (start : Volume) (h : History) (j k : ℕ) (t : Turn) → k ≡ j - 1 → 0 < j → k < length h → t ≡ get_or h k t → (IsWiredTurn setup start (drop j h) t → ⊥) → Wired setup start h → ⊥
not_wired setup start h j k t e some within is wrong wired =
    let part : Wired setup start (t ∷ drop j h) = subst (λ (x : History). Wired setup start x) (turn_there h j k t e some within is) (wired_within setup start k h wired) in
    wrong part.1

pub stops_there : (f : AuditFault) (start : Volume) (h : History) (j k : ℕ) (t : Turn) → k ≡ j - 1 → 0 < j → k < length h → t ≡ get_or h k t
    → StopsIn f start (t ∷ drop j h) → StopsIn f start h
stops_there f start h j k t e some within is stops =
    stops_within f start k h (subst (λ (x : History). StopsIn f start x) (sym (turn_there h j k t e some within is)) stops)

-- ---- the same, by the answers of the program

abbrev pub Here : Setup → Volume → Turn → History → List remark.Remark → ℕ → Docket → Type 0
Here setup start t past items k d = Midway setup start t past (map remark_of (take k items)) (map remark_of (drop k items)) d

as_noted : (d d' : Docket) (x : Happening) (t : Turn) (r : Remark) (b c : Bool) → x ≡ t.happening → b ≡ c → Notes d d' x r (Ok b) → Notes d d' t.happening r (Ok c)
as_noted d d' x t r b c when same notes =
    subst (λ (y : Bool). Notes d d' t.happening r (Ok y)) same (subst (λ (y : Happening). Notes d d' y r (Ok b)) when notes)

pub step_on : (setup : Setup) (start : Volume) (t : Turn) (past : History) (items : List remark.Remark) (k : ℕ) (item : remark.Remark) (d d' : Docket) (x : Happening) (b : Bool)
    → k < length items → item ≡ get_or items k item → x ≡ t.happening → b ≡ true → Here setup start t past items k d → Notes d d' x (remark_of item) (Ok b)
    → Here setup start t past items (k + 1) d'
step_on setup start t past items k item d d' x b within is when may here notes =
    one_more setup start t past items k item d d' within is here (as_noted d d' x t (remark_of item) b true when may notes)

pub step_wrong : (setup : Setup) (start : Volume) (t : Turn) (past : History) (items : List remark.Remark) (k : ℕ) (item : remark.Remark) (d d' : Docket) (x : Happening) (b : Bool)
    → k < length items → item ≡ get_or items k item → x ≡ t.happening → b ≡ false → Here setup start t past items k d → Notes d d' x (remark_of item) (Ok b)
    → AllMayBeNoted setup start t past [] t.remarks → ⊥
step_wrong setup start t past items k item d d' x b within is when wrong here notes =
    wrong_item setup start t past items k item d d' within is here (as_noted d d' x t (remark_of item) b false when wrong notes)

pub step_stops : (setup : Setup) (start : Volume) (t : Turn) (past : History) (items : List remark.Remark) (k : ℕ) (item : remark.Remark) (d d' : Docket) (x : Happening) (f : AuditFault)
    → k < length items → item ≡ get_or items k item → x ≡ t.happening → Here setup start t past items k d → Notes d d' x (remark_of item) (Err f)
    → StopsAmong f start t past [] t.remarks
step_stops setup start t past items k item d d' x f within is when here notes =
    stopping_item setup start t past items k item d d' f within is here (subst (λ (y : Happening). Notes d d' y (remark_of item) (Err f)) when notes)

-- ---- the answers for a turn

pub if_err : (P : AuditFault → Type 0) (r : Result Bool AuditFault) (f g : AuditFault) → r ≡ Err g → g ≡ f → P f → IfErr r P
if_err P r f g made same holds =
    subst (λ (x : Result Bool AuditFault). IfErr x P) (sym made) (subst (λ (x : AuditFault). P x) (sym same) holds)

pub no_memory_stops : (f : AuditFault) (start : Volume) (h : History) → f ≡ NoMemory → StopsIn f start h
no_memory_stops f start h e = subst (λ (x : AuditFault). StopsIn x start h) (sym e) tt

-- all turns have passed
pub all_passed : (setup : Setup) (start : Volume) (h : History) (k : ℕ) (d : Docket) → k ≤ 0 → Passed setup start h k d → Wired setup start h
all_passed setup start h zero d none passed = passed.wired
all_passed setup start h (suc k) d none passed = absurd (past k none)
  where
    past : (n : ℕ) → suc n ≤ 0 → ⊥
    past n below = omega (arith, below)
