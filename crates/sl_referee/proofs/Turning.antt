-- The remarks of a turn, one after another, and the turns of a history.
use Rattle.std.proofs.Common.{◌≡◌, ℕ, zero, suc, ◌+◌, ◌<◌, Bool, true, false, List, [], ◌∷◌, ◌++◌, length, get_or, take, drop, drop-cons, refl, ap, sym, subst, ◌∙◌, arith, inl, inr}
use Rattle.std.proofs.Common.{◌≤◌, ◌-◌, add-one}
use Rattle.std.proofs.Math.Seq.{take-suc}
use Rattle.std.proofs.lemmas.List.{drop_all, map-append, take_all}
use Rattle.std.specs.Prelude.{Result, Ok, Err, IfErr, map}
use Rattle.sl_past.specs.Words.{remark_of}
use Rattle.sl_past.specs.declared.remark.Remark as remark
use Rattle.sl_defs.specs.Histories.{Happening, Opens, Reaches, Happens}
use Rattle.sl_defs.specs.declared.event.Event.TheVariants as event
use Rattle.sl_defs.specs.declared.setup.Time.{Time}
use Rattle.sl_model.specs.Volume.{Volume}
use Rattle.sl_history.specs.Turns.{Remark, Turn, History, events, so_far}
use Rattle.sl_history.specs.Frames.{is_up}
use Rattle.sl_history.specs.Legal.{AllMayBeNoted, AnswersAtOnce, IsLegalTurn, Legal, MayNote}
use Rattle.sl_referee.specs.declared.docket.Docket.{Docket}
use Rattle.sl_referee.specs.declared.fault.RefereeFault.{RefereeFault}
use Rattle.sl_referee.specs.declared.fault.RefereeFault.TheVariants.{NoMemory, Spent, TooLong}
use Rattle.sl_referee.specs.Cases.{RepliesIn}
use Rattle.sl_referee.specs.Dockets.{IsDocketOf}
use Rattle.sl_history.specs.Turns.{begun}
use Rattle.sl_referee.specs.Notes.{Notes}
use Rattle.sl_referee.specs.Stops.{StopsAmong, StopsIn}

-- The docket is that of the turn with the remarks before; whether all may be noted, and where performing stops, rests on the others.
pub record Midway (start : Volume) (t : Turn) (past : History) (before rest : List Remark) (d : Docket) : Type 0 where
  pub docket : IsDocketOf start (so_far t before ∷ past) d
  pub forth : AllMayBeNoted start t past before rest → AllMayBeNoted start t past [] t.remarks
  pub back : AllMayBeNoted start t past [] t.remarks → AllMayBeNoted start t past before rest
  pub stops : (f : RefereeFault) → StopsAmong f start t past before rest → StopsAmong f start t past [] t.remarks

pub outset : (start : Volume) (t : Turn) (past : History) (d : Docket) → IsDocketOf start (begun past t.happening t.moment) d → Midway start t past [] t.remarks d
outset start t past d is = record { docket = is; forth = λ all. all; back = λ all. all; stops = λ f stops. stops }

pub onward : (start : Volume) (t : Turn) (past : History) (before : List Remark) (r : Remark) (rest : List Remark) (d d' : Docket)
    → Midway start t past before (r ∷ rest) d → Notes d d' t.moment r (Ok true) → Midway start t past (before ++ r ∷ []) rest d'
onward start t past before r rest d d' here notes =
    let may : MayNote start (so_far t before ∷ past) t.moment r = notes.decides start (so_far t before) past here.docket in
    record {
      docket = notes.takes refl start (so_far t before) past here.docket;
      forth = λ all. here.forth (may, all);
      back = λ all. (here.back all).1;
      stops = λ f stops. here.stops f (inr stops);
    }

pub arrived : (start : Volume) (t : Turn) (past : History) (d : Docket) → Midway start t past t.remarks [] d → IsDocketOf start (t ∷ past) d × AllMayBeNoted start t past [] t.remarks
arrived start t past d here = (here.docket, here.forth tt)

pub wrong_here : (start : Volume) (t : Turn) (past : History) (before : List Remark) (r : Remark) (rest : List Remark) (d d' : Docket)
    → Midway start t past before (r ∷ rest) d → Notes d d' t.moment r (Ok false) → AllMayBeNoted start t past [] t.remarks → ⊥
wrong_here start t past before r rest d d' here notes all = notes.decides start (so_far t before) past here.docket (here.back all).0

pub stops_here : (start : Volume) (t : Turn) (past : History) (before : List Remark) (r : Remark) (rest : List Remark) (d d' : Docket) (f : RefereeFault)
    → Midway start t past before (r ∷ rest) d → Notes d d' t.moment r (Err f) → StopsAmong f start t past [] t.remarks
stops_here start t past before r rest d d' f here notes = here.stops f (inl (notes.stopped start (so_far t before) past here.docket))

-- ---- the turn

-- what has to be noted of the turn, as the remarks say it
pub at_once : (past : History) (t : Turn) (happening : Happening) → (is_up past 0 ≡ true → RepliesIn (events (t ∷ past)) t.remarks happening) → AnswersAtOnce past t happening
at_once past t (Opens setup) replies = tt
at_once past t (Reaches moment) replies = tt
at_once past t (Happens (event.Call client bytes)) replies = replies
at_once past t (Happens (event.Give k)) replies = tt
at_once past t (Happens (event.Copy k)) replies = tt
at_once past t (Happens (event.Drop k)) replies = tt
at_once past t (Happens event.Tick) replies = tt
at_once past t (Happens (event.Stop a image)) replies = tt
at_once past t (Happens (event.Start a)) replies = tt
at_once past t (Happens (event.Fuse a after image)) replies = tt
at_once past t (Happens (event.Fail a after)) replies = tt

pub was_at_once : (past : History) (t : Turn) (happening : Happening) → AnswersAtOnce past t happening → is_up past 0 ≡ true → RepliesIn (events (t ∷ past)) t.remarks happening
was_at_once past t (Opens setup) answers up = tt
was_at_once past t (Reaches moment) answers up = tt
was_at_once past t (Happens (event.Call client bytes)) answers up = answers up
was_at_once past t (Happens (event.Give k)) answers up = tt
was_at_once past t (Happens (event.Copy k)) answers up = tt
was_at_once past t (Happens (event.Drop k)) answers up = tt
was_at_once past t (Happens event.Tick) answers up = tt
was_at_once past t (Happens (event.Stop a image)) answers up = tt
was_at_once past t (Happens (event.Start a)) answers up = tt
was_at_once past t (Happens (event.Fuse a after image)) answers up = tt
was_at_once past t (Happens (event.Fail a after)) answers up = tt

pub stops_in_turn : (f : RefereeFault) (start : Volume) (t : Turn) (past : History) → StopsAmong f start t past [] t.remarks → StopsIn f start (t ∷ past)
stops_in_turn NoMemory start t past stops = tt
stops_in_turn Spent start t past stops = inr stops
stops_in_turn TooLong start t past stops = inr stops

-- ---- the history

pub stops_before : (f : RefereeFault) (start : Volume) (t : Turn) (past : History) → StopsIn f start past → StopsIn f start (t ∷ past)
stops_before NoMemory start t past stops = tt
stops_before Spent start t past stops = inl stops
stops_before TooLong start t past stops = inl stops

-- what stops in an older part stops in the whole
pub stops_within : (f : RefereeFault) (start : Volume) (k : ℕ) (h : History) → StopsIn f start (drop k h) → StopsIn f start h
stops_within f start zero h stops = stops
stops_within f start (suc k) [] stops = stops
stops_within f start (suc k) (t ∷ past) stops = stops_before f start t past (stops_within f start k past stops)

-- each older part of a legal history is legal
pub legal_within : (start : Volume) (k : ℕ) (h : History) → Legal start h → Legal start (drop k h)
legal_within start zero h legal = legal
legal_within start (suc k) [] legal = legal
legal_within start (suc k) (t ∷ past) legal = legal_within start k past legal.0

pub turn_at : (h : History) (k : ℕ) (t : Turn) → k < length h → t ≡ get_or h k t → drop k h ≡ t ∷ drop (suc k) h
turn_at h k t within is = drop-cons h k t within ∙ ap (λ (x : Turn). x ∷ drop (suc k) h) (sym is)

-- ---- the remarks, as the program has them

pub at_start : (start : Volume) (t : Turn) (past : History) (items : List remark.Remark) (d : Docket) → map remark_of items ≡ t.remarks
    → IsDocketOf start (begun past t.happening t.moment) d → Midway start t past (map remark_of (take 0 items)) (map remark_of (drop 0 items)) d
at_start start t past items d are is = subst (λ (rs : List Remark). Midway start t past [] rs d) (sym are) (outset start t past d is)

item_next : (items : List remark.Remark) (k : ℕ) (item : remark.Remark) → k < length items → item ≡ get_or items k item
    → map remark_of (drop k items) ≡ remark_of item ∷ map remark_of (drop (k + 1) items)
item_next items k item within is =
    ap (map remark_of) (drop-cons items k item within ∙ ap (λ (x : remark.Remark). x ∷ drop (suc k) items) (sym is))
    ∙ ap (λ (j : ℕ). remark_of item ∷ map remark_of (drop j items)) (sym (add-one k))

items_before : (items : List remark.Remark) (k : ℕ) (item : remark.Remark) → k < length items → item ≡ get_or items k item
    → map remark_of (take (k + 1) items) ≡ map remark_of (take k items) ++ remark_of item ∷ []
items_before items k item within is =
    ap (λ (j : ℕ). map remark_of (take j items)) (add-one k)
    ∙ ap (map remark_of) (take-suc items k item within ∙ ap (λ (x : remark.Remark). take k items ++ x ∷ []) (sym is))
    ∙ map-append remark_of (take k items) (item ∷ [])

here_is : (start : Volume) (t : Turn) (past : History) (items : List remark.Remark) (k : ℕ) (item : remark.Remark) (d : Docket) → k < length items → item ≡ get_or items k item
    → Midway start t past (map remark_of (take k items)) (map remark_of (drop k items)) d
    → Midway start t past (map remark_of (take k items)) (remark_of item ∷ map remark_of (drop (k + 1) items)) d
here_is start t past items k item d within is here =
    subst (λ (rs : List Remark). Midway start t past (map remark_of (take k items)) rs d) (item_next items k item within is) here

pub one_more : (start : Volume) (t : Turn) (past : History) (items : List remark.Remark) (k : ℕ) (item : remark.Remark) (d d' : Docket) → k < length items → item ≡ get_or items k item
    → Midway start t past (map remark_of (take k items)) (map remark_of (drop k items)) d → Notes d d' t.moment (remark_of item) (Ok true)
    → Midway start t past (map remark_of (take (k + 1) items)) (map remark_of (drop (k + 1) items)) d'
one_more start t past items k item d d' within is here notes =
    subst (λ (rs : List Remark). Midway start t past rs (map remark_of (drop (k + 1) items)) d') (sym (items_before items k item within is))
    (onward start t past (map remark_of (take k items)) (remark_of item) (map remark_of (drop (k + 1) items)) d d' (here_is start t past items k item d within is here) notes)

pub wrong_item : (start : Volume) (t : Turn) (past : History) (items : List remark.Remark) (k : ℕ) (item : remark.Remark) (d d' : Docket) → k < length items → item ≡ get_or items k item
    → Midway start t past (map remark_of (take k items)) (map remark_of (drop k items)) d → Notes d d' t.moment (remark_of item) (Ok false)
    → AllMayBeNoted start t past [] t.remarks → ⊥
wrong_item start t past items k item d d' within is here notes =
    wrong_here start t past (map remark_of (take k items)) (remark_of item) (map remark_of (drop (k + 1) items)) d d' (here_is start t past items k item d within is here) notes

pub stopping_item : (start : Volume) (t : Turn) (past : History) (items : List remark.Remark) (k : ℕ) (item : remark.Remark) (d d' : Docket) (f : RefereeFault) → k < length items
    → item ≡ get_or items k item → Midway start t past (map remark_of (take k items)) (map remark_of (drop k items)) d → Notes d d' t.moment (remark_of item) (Err f)
    → StopsAmong f start t past [] t.remarks
stopping_item start t past items k item d d' f within is here notes =
    stops_here start t past (map remark_of (take k items)) (remark_of item) (map remark_of (drop (k + 1) items)) d d' f (here_is start t past items k item d within is here) notes

pub at_end : (start : Volume) (t : Turn) (past : History) (items : List remark.Remark) (k : ℕ) (d : Docket) → map remark_of items ≡ t.remarks → length items ≤ k
    → Midway start t past (map remark_of (take k items)) (map remark_of (drop k items)) d → IsDocketOf start (t ∷ past) d × AllMayBeNoted start t past [] t.remarks
at_end start t past items k d are all here =
    arrived start t past d
    (subst (λ (rs : List Remark). Midway start t past rs [] d) (ap (map remark_of) (take_all k items all) ∙ are)
    (subst (λ (rs : List remark.Remark). Midway start t past (map remark_of (take k items)) (map remark_of rs) d) (drop_all k items all) here))

-- ---- the whole turn, and the whole history

pub legal_turn : (start : Volume) (past : History) (t : Turn) → AllMayBeNoted start t past [] t.remarks
    → (is_up past 0 ≡ true → RepliesIn (events (t ∷ past)) t.remarks t.happening) → IsLegalTurn start past t
legal_turn start past t may replies = record { may = may; at_once = at_once past t t.happening replies }

-- The turns from k on are legal, and the docket is theirs.
pub record Passed (start : Volume) (h : History) (k : ℕ) (d : Docket) : Type 0 where
  pub docket : IsDocketOf start (drop k h) d
  pub legal : Legal start (drop k h)

pub before_all : (start : Volume) (h : History) (k : ℕ) (d : Docket) → k ≡ length h → IsDocketOf start [] d → Passed start h k d
before_all start h k d e is =
    let none = drop_all k h (omega (arith, e)) in
    record { docket = subst (λ (x : History). IsDocketOf start x d) (sym none) is; legal = subst (λ (x : History). Legal start x) (sym none) tt }

turn_there : (h : History) (j k : ℕ) (t : Turn) → k ≡ j - 1 → 0 < j → k < length h → t ≡ get_or h k t → drop k h ≡ t ∷ drop j h
turn_there h j k t e some within is =
    let next : suc k ≡ j = omega (arith, e, some) in
    turn_at h k t within is ∙ ap (λ (i : ℕ). t ∷ drop i h) next

pub passes : (start : Volume) (h : History) (j k : ℕ) (t : Turn) (d d' : Docket) → k ≡ j - 1 → 0 < j → k < length h → t ≡ get_or h k t → Passed start h j d
    → IsDocketOf start (t ∷ drop j h) d' → IsLegalTurn start (drop j h) t → Passed start h k d'
passes start h j k t d d' e some within is so next legal =
    let there = turn_there h j k t e some within is in
    record {
      docket = subst (λ (x : History). IsDocketOf start x d') (sym there) next;
      legal = subst (λ (x : History). Legal start x) (sym there) (so.legal, legal);
    }

pub not_legal : (start : Volume) (h : History) (j k : ℕ) (t : Turn) → k ≡ j - 1 → 0 < j → k < length h → t ≡ get_or h k t → (IsLegalTurn start (drop j h) t → ⊥) → Legal start h → ⊥
not_legal start h j k t e some within is wrong legal =
    let part : Legal start (t ∷ drop j h) = subst (λ (x : History). Legal start x) (turn_there h j k t e some within is) (legal_within start k h legal) in
    wrong part.1

pub stops_there : (f : RefereeFault) (start : Volume) (h : History) (j k : ℕ) (t : Turn) → k ≡ j - 1 → 0 < j → k < length h → t ≡ get_or h k t
    → StopsIn f start (t ∷ drop j h) → StopsIn f start h
stops_there f start h j k t e some within is stops =
    stops_within f start k h (subst (λ (x : History). StopsIn f start x) (sym (turn_there h j k t e some within is)) stops)

-- ---- the same, by the answers of the program

abbrev pub Here : Volume → Turn → History → List remark.Remark → ℕ → Docket → Type 0
Here start t past items k d = Midway start t past (map remark_of (take k items)) (map remark_of (drop k items)) d

as_noted : (d d' : Docket) (now : Time) (t : Turn) (r : Remark) (b c : Bool) → now ≡ t.moment → b ≡ c → Notes d d' now r (Ok b) → Notes d d' t.moment r (Ok c)
as_noted d d' now t r b c when same notes =
    subst (λ (x : Bool). Notes d d' t.moment r (Ok x)) same (subst (λ (x : Time). Notes d d' x r (Ok b)) when notes)

pub step_on : (start : Volume) (t : Turn) (past : History) (items : List remark.Remark) (k : ℕ) (item : remark.Remark) (d d' : Docket) (now : Time) (b : Bool)
    → k < length items → item ≡ get_or items k item → now ≡ t.moment → b ≡ true → Here start t past items k d → Notes d d' now (remark_of item) (Ok b)
    → Here start t past items (k + 1) d'
step_on start t past items k item d d' now b within is when may here notes =
    one_more start t past items k item d d' within is here (as_noted d d' now t (remark_of item) b true when may notes)

pub step_wrong : (start : Volume) (t : Turn) (past : History) (items : List remark.Remark) (k : ℕ) (item : remark.Remark) (d d' : Docket) (now : Time) (b : Bool)
    → k < length items → item ≡ get_or items k item → now ≡ t.moment → b ≡ false → Here start t past items k d → Notes d d' now (remark_of item) (Ok b)
    → AllMayBeNoted start t past [] t.remarks → ⊥
step_wrong start t past items k item d d' now b within is when wrong here notes =
    wrong_item start t past items k item d d' within is here (as_noted d d' now t (remark_of item) b false when wrong notes)

pub step_stops : (start : Volume) (t : Turn) (past : History) (items : List remark.Remark) (k : ℕ) (item : remark.Remark) (d d' : Docket) (now : Time) (f : RefereeFault)
    → k < length items → item ≡ get_or items k item → now ≡ t.moment → Here start t past items k d → Notes d d' now (remark_of item) (Err f)
    → StopsAmong f start t past [] t.remarks
step_stops start t past items k item d d' now f within is when here notes =
    stopping_item start t past items k item d d' f within is here (subst (λ (x : Time). Notes d d' x (remark_of item) (Err f)) when notes)

-- ---- the answers for a turn

pub if_err : (P : RefereeFault → Type 0) (r : Result Bool RefereeFault) (f g : RefereeFault) → r ≡ Err g → g ≡ f → P f → IfErr r P
if_err P r f g made same holds =
    subst (λ (x : Result Bool RefereeFault). IfErr x P) (sym made) (subst (λ (x : RefereeFault). P x) (sym same) holds)

pub no_memory_stops : (f : RefereeFault) (start : Volume) (h : History) → f ≡ NoMemory → StopsIn f start h
no_memory_stops f start h e = subst (λ (x : RefereeFault). StopsIn x start h) (sym e) tt
