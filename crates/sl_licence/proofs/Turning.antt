-- The notes of a turn, one after another, and the turns of a history.
use Rattle.std.proofs.Common.{◌≡◌, ℕ, zero, suc, ◌+◌, ◌-◌, ◌<◌, ◌≤◌, add-one, Bool, true, false, List, [], ◌∷◌, ◌++◌, length, get_or, take, drop, drop-cons, refl, ap, sym, subst, ◌∙◌, arith, inl, inr, Option, Some, None}
use Rattle.std.proofs.Math.Seq.{take-suc}
use Rattle.std.proofs.lemmas.Bool.{true≢false}
use Rattle.std.proofs.lemmas.List.{drop_all, map-append, take_all}
use Rattle.std.specs.Prelude.{Result, Ok, Err, IfErr, map, ◌↔◌}
use Rattle.sl_past.specs.Words.{remark_of}
use Rattle.sl_past.specs.declared.remark.Remark as remark
use Rattle.sl_defs.specs.Histories.{Happening}
use Rattle.sl_defs.specs.declared.setup.Time.{Time}
use Rattle.sl_model.specs.Volume.{Volume}
use Rattle.sl_history.specs.Turns.{Remark, Sent, Did, Flush, Verf, Replied, Junk, Early, Full, Lost, Down, Turn, History, begun, datagram_of, so_far}
use Rattle.sl_history.specs.Licensed.{AllMayBeNoted, IsFlushRequest, IsLicensedTurn, IsRequestedIf, Licensed, MayNote, due_drop, dropping, flush_in, was_sent}
use Rattle.sl_frames.specs.declared.frame.Frame.{Frame}
use Rattle.sl_ledger.specs.declared.ledger.Ledger.{Ledger}
use Rattle.sl_ledger.specs.Ledgers.{IsLedgerOf}
use Rattle.sl_ledger.specs.Stops.{StopsAmong, StopsIn}
use Rattle.sl_ledger.specs.declared.fault.AuditFault.{AuditFault}
use Rattle.sl_ledger.specs.declared.fault.AuditFault.TheVariants.{NoMemory, Spent}
use Rattle.sl_licence.specs.declared.asking.FlushRequest.{FlushRequest}
use Rattle.sl_licence.specs.declared.crowds.Crowds.{Crowds}
use Rattle.sl_licence.specs.declared.docket.Docket.{Docket}
use Rattle.sl_licence.specs.declared.drops.Door.{Door}
use Rattle.sl_licence.specs.declared.drops.Dropped.{Dropped}
use Rattle.sl_licence.specs.Asking.{new_if, new_request, request_for, unless}
use Rattle.sl_licence.specs.Crowds.{AreCrowdsOf}
use Rattle.sl_licence.specs.Drops.{next_met, notes_of}
use Rattle.sl_licence.specs.Dockets.{AreDue, IsDocketOf, IsDue, MayStand, Notes, Stands, with_new}

-- ---- a note, as it stands and as what it asks for is due

-- the flush that a note newly asks for is due
abbrev DueIf : Volume → History → Option FlushRequest → Type 0
DueIf start ended None = Unit {0}
DueIf start ended (Some w) = IsDue start ended w

unless_due : (b : Bool) (start : Volume) (ended : History) (f : Frame) (file : ℕ) → DueIf start ended (unless b (request_for f file)) → b ≡ false → IsFlushRequest start ended f.arrival file
unless_due true start ended f file due never = absurd (cc)
unless_due false start ended f file due never = due

due_unless : (b : Bool) (start : Volume) (ended : History) (f : Frame) (file : ℕ) → (b ≡ false → IsFlushRequest start ended f.arrival file) → DueIf start ended (unless b (request_for f file))
due_unless true start ended f file due = tt
due_unless false start ended f file due = due refl

requested : (o : Option ℕ) (start : Volume) (h ended : History) (f : Frame) → DueIf start ended (new_if h f o) → IsRequestedIf start h ended f o
requested None start h ended f due = tt
requested (Some file) start h ended f due = unless_due (was_sent h file f) start ended f file due

was_requested : (o : Option ℕ) (start : Volume) (h ended : History) (f : Frame) → IsRequestedIf start h ended f o → DueIf start ended (new_if h f o)
was_requested None start h ended f is = tt
was_requested (Some file) start h ended f is = due_unless (was_sent h file f) start ended f file is

may_note : (r : Remark) (start : Volume) (h ended : History) → MayStand start h r → DueIf start ended (new_request h r) → MayNote start h ended r
may_note (Sent k f) start h ended stands due = requested (flush_in f.body) start h ended f due
may_note (Did n at choice) start h ended stands due = stands
may_note (Flush f) start h ended stands due = stands
may_note (Verf v) start h ended stands due = stands
may_note (Replied n e bytes) start h ended stands due = tt
may_note (Junk n) start h ended stands due = tt
may_note (Early n) start h ended stands due = tt
may_note (Full n) start h ended stands due = tt
may_note (Lost n) start h ended stands due = tt
may_note (Down a) start h ended stands due = tt

may_stand : (r : Remark) (start : Volume) (h ended : History) → MayNote start h ended r → MayStand start h r × DueIf start ended (new_request h r)
may_stand (Sent k f) start h ended may = (tt, was_requested (flush_in f.body) start h ended f may)
may_stand (Did n at choice) start h ended may = (may, tt)
may_stand (Flush f) start h ended may = (may, tt)
may_stand (Verf v) start h ended may = (may, tt)
may_stand (Replied n e bytes) start h ended may = (tt, tt)
may_stand (Junk n) start h ended may = (tt, tt)
may_stand (Early n) start h ended may = (tt, tt)
may_stand (Full n) start h ended may = (tt, tt)
may_stand (Lost n) start h ended may = (tt, tt)
may_stand (Down a) start h ended may = (tt, tt)

-- ---- requests that are due

due_last : (start : Volume) (ended : History) (ws : List FlushRequest) (w : FlushRequest) → AreDue start ended (ws ++ w ∷ []) → AreDue start ended ws × IsDue start ended w
due_last start ended [] w due = (tt, due.0)
due_last start ended (x ∷ ws) w due = let rest = due_last start ended ws w due.1 in ((due.0, rest.0), rest.1)

last_due : (start : Volume) (ended : History) (ws : List FlushRequest) (w : FlushRequest) → AreDue start ended ws → IsDue start ended w → AreDue start ended (ws ++ w ∷ [])
last_due start ended [] w due here = (here, tt)
last_due start ended (x ∷ ws) w due here = (due.0, last_due start ended ws w due.1 here)

pub due_at : (start : Volume) (ended : History) (ws : List FlushRequest) (k : ℕ) (w : FlushRequest) → k < length ws → AreDue start ended ws → IsDue start ended (get_or ws k w)
due_at start ended [] k w within due = absurd (omega (arith, within))
due_at start ended (x ∷ ws) zero w within due = due.0
due_at start ended (x ∷ ws) (suc k) w within due = due_at start ended ws k w (omega (arith, within)) due.1

pub due_next : (start : Volume) (ended : History) (ws : List FlushRequest) (k : ℕ) (w : FlushRequest) → k < length ws → AreDue start ended (take k ws) → IsDue start ended (get_or ws k w)
    → AreDue start ended (take (k + 1) ws)
due_next start ended ws k w within due here =
    let next : take (k + 1) ws ≡ take k ws ++ get_or ws k w ∷ [] = ap (λ (j : ℕ). take j ws) (add-one k) ∙ take-suc ws k w within in
    subst (λ (x : List FlushRequest). AreDue start ended x) (sym next) (last_due start ended (take k ws) (get_or ws k w) due here)

due_new : (start : Volume) (ended : History) (ws : List FlushRequest) (o : Option FlushRequest) → AreDue start ended (with_new ws o) → AreDue start ended ws × DueIf start ended o
due_new start ended ws None due = (due, tt)
due_new start ended ws (Some w) due = due_last start ended ws w due

new_due : (start : Volume) (ended : History) (ws : List FlushRequest) (o : Option FlushRequest) → AreDue start ended ws → DueIf start ended o → AreDue start ended (with_new ws o)
new_due start ended ws None due here = due
new_due start ended ws (Some w) due here = last_due start ended ws w due here

-- ---- the notes

-- The docket is that of the turn with the notes before; whether all may be noted rests on the others, and on the new requests so far.
pub record Midway (start : Volume) (t : Turn) (past : History) (before rest : List Remark) (d : Docket) (ws : List FlushRequest) : Type 0 where
  pub docket : IsDocketOf start (so_far t before ∷ past) d
  pub forth : AllMayBeNoted start t past before rest → AreDue start (t ∷ past) ws → AllMayBeNoted start t past [] t.remarks
  pub back : AllMayBeNoted start t past [] t.remarks → AllMayBeNoted start t past before rest × AreDue start (t ∷ past) ws
  pub stops : (f : AuditFault) → StopsAmong f start t past before rest → StopsAmong f start t past [] t.remarks

outset : (start : Volume) (t : Turn) (past : History) (d : Docket) (ws : List FlushRequest) → ws ≡ [] → IsDocketOf start (begun past t.happening t.moment) d → Midway start t past [] t.remarks d ws
outset start t past d ws none is = record {
  docket = is;
  forth = λ all due. all;
  back = λ all. (all, subst (λ (x : List FlushRequest). AreDue start (t ∷ past) x) (sym none) tt);
  stops = λ f stops. stops;
}

onward : (start : Volume) (t : Turn) (past : History) (before : List Remark) (r : Remark) (rest : List Remark) (d d' : Docket) (ws ws' : List FlushRequest) (cs : Crowds)
    → AreCrowdsOf start past cs → Midway start t past before (r ∷ rest) d ws → Notes cs d d' ws ws' r (Ok true) → Midway start t past (before ++ r ∷ []) rest d' ws'
onward start t past before r rest d d' ws ws' cs crowds here notes =
    let stands : MayStand start (so_far t before ∷ past) r = notes.decides start (so_far t before) past here.docket crowds in
    let taken = notes.takes refl start (so_far t before) past here.docket crowds in
    let o : Option FlushRequest = new_request (so_far t before ∷ past) r in
    record {
      docket = taken.0;
      forth = λ all due.
          let parts = due_new start (t ∷ past) ws o (subst (λ (x : List FlushRequest). AreDue start (t ∷ past) x) taken.1 due) in
          here.forth (may_note r start (so_far t before ∷ past) (t ∷ past) stands parts.1, all) parts.0;
      back = λ all.
          let parts = here.back all in
          let more = may_stand r start (so_far t before ∷ past) (t ∷ past) parts.0.0 in
          (parts.0.1, subst (λ (x : List FlushRequest). AreDue start (t ∷ past) x) (sym taken.1) (new_due start (t ∷ past) ws o parts.1 more.1));
      stops = λ f stops. here.stops f (inr stops);
    }

wrong_here : (start : Volume) (t : Turn) (past : History) (before : List Remark) (r : Remark) (rest : List Remark) (d d' : Docket) (ws ws' : List FlushRequest) (cs : Crowds)
    → AreCrowdsOf start past cs → Midway start t past before (r ∷ rest) d ws → Notes cs d d' ws ws' r (Ok false) → AllMayBeNoted start t past [] t.remarks → ⊥
wrong_here start t past before r rest d d' ws ws' cs crowds here notes all =
    notes.decides start (so_far t before) past here.docket crowds (may_stand r start (so_far t before ∷ past) (t ∷ past) (here.back all).0.0).0

stops_here : (start : Volume) (t : Turn) (past : History) (before : List Remark) (r : Remark) (rest : List Remark) (d d' : Docket) (ws ws' : List FlushRequest) (cs : Crowds) (f : AuditFault)
    → Midway start t past before (r ∷ rest) d ws → Notes cs d d' ws ws' r (Err f) → StopsAmong f start t past [] t.remarks
stops_here start t past before r rest d d' ws ws' cs f here notes = here.stops f (inl (notes.stopped start (so_far t before) past here.docket))

-- ---- the notes, as the program has them

abbrev pub Here : Volume → Turn → History → List remark.Remark → ℕ → Docket → List FlushRequest → Type 0
Here start t past items k d ws = Midway start t past (map remark_of (take k items)) (map remark_of (drop k items)) d ws

pub at_start : (start : Volume) (t : Turn) (past : History) (items : List remark.Remark) (d : Docket) (ws : List FlushRequest) → map remark_of items ≡ t.remarks → ws ≡ []
    → IsDocketOf start (begun past t.happening t.moment) d → Here start t past items 0 d ws
at_start start t past items d ws are none is = subst (λ (rs : List Remark). Midway start t past [] rs d ws) (sym are) (outset start t past d ws none is)

item_next : (items : List remark.Remark) (k : ℕ) (item : remark.Remark) → k < length items → item ≡ get_or items k item
    → map remark_of (drop k items) ≡ remark_of item ∷ map remark_of (drop (k + 1) items)
item_next items k item within is =
    ap (map remark_of) (drop-cons items k item within ∙ ap (λ (x : remark.Remark). x ∷ drop (suc k) items) (sym is))
    ∙ ap (λ (j : ℕ). remark_of item ∷ map remark_of (drop j items)) (sym (add-one k))

items_before : (items : List remark.Remark) (k : ℕ) (item : remark.Remark) → k < length items → item ≡ get_or items k item
    → map remark_of (take (k + 1) items) ≡ map remark_of (take k items) ++ remark_of item ∷ []
items_before items k item within is =
    ap (λ (j : ℕ). map remark_of (take j items)) (add-one k)
    ∙ ap (map remark_of) (take-suc items k item within ∙ ap (λ (x : remark.Remark). take k items ++ x ∷ []) (sym is))
    ∙ map-append remark_of (take k items) (item ∷ [])

here_is : (start : Volume) (t : Turn) (past : History) (items : List remark.Remark) (k : ℕ) (item : remark.Remark) (d : Docket) (ws : List FlushRequest) → k < length items → item ≡ get_or items k item
    → Here start t past items k d ws → Midway start t past (map remark_of (take k items)) (remark_of item ∷ map remark_of (drop (k + 1) items)) d ws
here_is start t past items k item d ws within is here =
    subst (λ (rs : List Remark). Midway start t past (map remark_of (take k items)) rs d ws) (item_next items k item within is) here

pub step_on : (start : Volume) (t : Turn) (past : History) (items : List remark.Remark) (k : ℕ) (item : remark.Remark) (d d' : Docket) (ws ws' : List FlushRequest) (cs : Crowds) (b : Bool)
    → k < length items → item ≡ get_or items k item → b ≡ true → AreCrowdsOf start past cs → Here start t past items k d ws → Notes cs d d' ws ws' (remark_of item) (Ok b)
    → Here start t past items (k + 1) d' ws'
step_on start t past items k item d d' ws ws' cs b within is may crowds here notes =
    subst (λ (rs : List Remark). Midway start t past rs (map remark_of (drop (k + 1) items)) d' ws') (sym (items_before items k item within is))
    (onward start t past (map remark_of (take k items)) (remark_of item) (map remark_of (drop (k + 1) items)) d d' ws ws' cs crowds (here_is start t past items k item d ws within is here)
    (subst (λ (x : Bool). Notes cs d d' ws ws' (remark_of item) (Ok x)) may notes))

pub step_wrong : (start : Volume) (t : Turn) (past : History) (items : List remark.Remark) (k : ℕ) (item : remark.Remark) (d d' : Docket) (ws ws' : List FlushRequest) (cs : Crowds) (b : Bool)
    → k < length items → item ≡ get_or items k item → b ≡ false → AreCrowdsOf start past cs → Here start t past items k d ws → Notes cs d d' ws ws' (remark_of item) (Ok b)
    → AllMayBeNoted start t past [] t.remarks → ⊥
step_wrong start t past items k item d d' ws ws' cs b within is wrong crowds here notes =
    wrong_here start t past (map remark_of (take k items)) (remark_of item) (map remark_of (drop (k + 1) items)) d d' ws ws' cs crowds (here_is start t past items k item d ws within is here)
    (subst (λ (x : Bool). Notes cs d d' ws ws' (remark_of item) (Ok x)) wrong notes)

pub step_stops : (start : Volume) (t : Turn) (past : History) (items : List remark.Remark) (k : ℕ) (item : remark.Remark) (d d' : Docket) (ws ws' : List FlushRequest) (cs : Crowds) (f : AuditFault)
    → k < length items → item ≡ get_or items k item → Here start t past items k d ws → Notes cs d d' ws ws' (remark_of item) (Err f) → StopsAmong f start t past [] t.remarks
step_stops start t past items k item d d' ws ws' cs f within is here notes =
    stops_here start t past (map remark_of (take k items)) (remark_of item) (map remark_of (drop (k + 1) items)) d d' ws ws' cs f (here_is start t past items k item d ws within is here) notes

pub at_end : (start : Volume) (t : Turn) (past : History) (items : List remark.Remark) (k : ℕ) (d : Docket) (ws : List FlushRequest) → map remark_of items ≡ t.remarks → length items ≤ k
    → Here start t past items k d ws → IsDocketOf start (t ∷ past) d × (AreDue start (t ∷ past) ws ↔ AllMayBeNoted start t past [] t.remarks)
at_end start t past items k d ws are all here =
    ended (subst (λ (rs : List Remark). Midway start t past rs [] d ws) (ap (map remark_of) (take_all k items all) ∙ are)
    (subst (λ (rs : List remark.Remark). Midway start t past (map remark_of (take k items)) (map remark_of rs) d ws) (drop_all k items all) here))
  where
    ended : Midway start t past t.remarks [] d ws → IsDocketOf start (t ∷ past) d × (AreDue start (t ∷ past) ws ↔ AllMayBeNoted start t past [] t.remarks)
    ended here = (here.docket, (λ due. here.forth tt due, λ all. (here.back all).1))

-- ---- the turn

pub stands_true : (b : Bool) (start : Volume) (t : Turn) (past : History) (ws : List FlushRequest) → b ≡ true → Stands (Ok b) start t past ws → AreDue start (t ∷ past) ws ↔ AllMayBeNoted start t past [] t.remarks
stands_true true start t past ws e stands = stands
stands_true false start t past ws e stands = absurd (true≢false (sym e))

pub stands_false : (b : Bool) (start : Volume) (t : Turn) (past : History) (ws : List FlushRequest) → b ≡ false → Stands (Ok b) start t past ws → AllMayBeNoted start t past [] t.remarks → ⊥
stands_false true start t past ws e stands = absurd (true≢false e)
stands_false false start t past ws e stands = stands

pub right_drop : (past : History) (t : Turn) (items : List remark.Remark) (due : Option Dropped) → map remark_of items ≡ t.remarks → notes_of due ≡ due_drop past t (datagram_of t.happening)
    → dropping (map remark_of items) ≡ notes_of due → dropping t.remarks ≡ due_drop past t (datagram_of t.happening)
right_drop past t items due are is exactly = ap dropping (sym are) ∙ exactly ∙ is

pub wrong_drop : (start : Volume) (past : History) (t : Turn) (items : List remark.Remark) (due : Option Dropped) → map remark_of items ≡ t.remarks → notes_of due ≡ due_drop past t (datagram_of t.happening)
    → (dropping (map remark_of items) ≡ notes_of due → ⊥) → IsLicensedTurn start past t → ⊥
wrong_drop start past t items due are is never licensed = never (ap dropping are ∙ licensed.dropped ∙ sym is)

pub turn_begins : (start : Volume) (past : History) (t : Turn) (happening : Happening) (d d' : Docket) → happening ≡ t.happening
    → ((moment : Time) → IsDocketOf start past d → IsDocketOf start (begun past happening moment) d') → IsDocketOf start past d → IsDocketOf start (begun past t.happening t.moment) d'
turn_begins start past t happening d d' same begins is = subst (λ (x : Happening). IsDocketOf start (begun past x t.moment) d') same (begins t.moment is)

pub due_is : (start : Volume) (past : History) (t : Turn) (d d' : Docket) (l l' : Ledger) (door : Door) (due : Option Dropped) → l ≡ d.evidence.ledger → l' ≡ d'.evidence.ledger
    → ((h : History) → IsLedgerOf h l → door ≡ next_met h)
    → ((u : Turn) (h : History) → IsLedgerOf (so_far u [] ∷ h) l' → door ≡ next_met h → notes_of due ≡ due_drop h u (datagram_of u.happening))
    → IsDocketOf start past d → IsDocketOf start (begun past t.happening t.moment) d' → notes_of due ≡ due_drop past t (datagram_of t.happening)
due_is start past t d d' l l' door due before after meets drops was is =
    drops t past (subst (λ (x : Ledger). IsLedgerOf (so_far t [] ∷ past) x) (sym after) is.evidence.ledger)
    (meets past (subst (λ (x : Ledger). IsLedgerOf past x) (sym before) was.evidence.ledger))

pub not_exactly : (start : Volume) (past : History) (t : Turn) (items : List remark.Remark) (due : Option Dropped) (b : Bool) → map remark_of items ≡ t.remarks → b ≡ false
    → ((b ≡ true) ↔ (dropping (map remark_of items) ≡ notes_of due)) → notes_of due ≡ due_drop past t (datagram_of t.happening) → IsLicensedTurn start past t → ⊥
not_exactly start past t items due b are differs exactly is licensed =
    wrong_drop start past t items due are is (λ drops. true≢false (sym (exactly.1 drops) ∙ differs)) licensed

pub is_licensed_turn : (start : Volume) (past : History) (t : Turn) (items : List remark.Remark) (due : Option Dropped) (b : Bool) → map remark_of items ≡ t.remarks → b ≡ true
    → ((b ≡ true) ↔ (dropping (map remark_of items) ≡ notes_of due)) → notes_of due ≡ due_drop past t (datagram_of t.happening) → AllMayBeNoted start t past [] t.remarks → IsLicensedTurn start past t
is_licensed_turn start past t items due b are agrees exactly is may = record { may = may; dropped = right_drop past t items due are is (exactly.0 agrees) }

pub stops_in_turn : (f : AuditFault) (start : Volume) (t : Turn) (past : History) → StopsAmong f start t past [] t.remarks → StopsIn f start (t ∷ past)
stops_in_turn NoMemory start t past stops = tt
stops_in_turn Spent start t past stops = inr stops

pub no_memory_stops : (f : AuditFault) (start : Volume) (h : History) → f ≡ NoMemory → StopsIn f start h
no_memory_stops f start h e = subst (λ (x : AuditFault). StopsIn x start h) (sym e) tt

pub if_err : (P : AuditFault → Type 0) (r : Result Bool AuditFault) (f g : AuditFault) → r ≡ Err g → g ≡ f → P f → IfErr r P
if_err P r f g made same holds =
    subst (λ (x : Result Bool AuditFault). IfErr x P) (sym made) (subst (λ (x : AuditFault). P x) (sym same) holds)

-- ---- the history

stops_before : (f : AuditFault) (start : Volume) (t : Turn) (past : History) → StopsIn f start past → StopsIn f start (t ∷ past)
stops_before NoMemory start t past stops = tt
stops_before Spent start t past stops = inl stops

stops_within : (f : AuditFault) (start : Volume) (k : ℕ) (h : History) → StopsIn f start (drop k h) → StopsIn f start h
stops_within f start zero h stops = stops
stops_within f start (suc k) [] stops = stops
stops_within f start (suc k) (t ∷ past) stops = stops_before f start t past (stops_within f start k past stops)

licensed_within : (start : Volume) (k : ℕ) (h : History) → Licensed start h → Licensed start (drop k h)
licensed_within start zero h licensed = licensed
licensed_within start (suc k) [] licensed = licensed
licensed_within start (suc k) (t ∷ past) licensed = licensed_within start k past licensed.0

turn_at : (h : History) (k : ℕ) (t : Turn) → k < length h → t ≡ get_or h k t → drop k h ≡ t ∷ drop (suc k) h
turn_at h k t within is = drop-cons h k t within ∙ ap (λ (x : Turn). x ∷ drop (suc k) h) (sym is)

-- The turns from k on are licensed, and the docket and the crowds are theirs.
pub record Passed (start : Volume) (h : History) (k : ℕ) (d : Docket) (cs : Crowds) : Type 0 where
  pub docket : IsDocketOf start (drop k h) d
  pub crowds : AreCrowdsOf start (drop k h) cs
  pub licensed : Licensed start (drop k h)

pub before_all : (start : Volume) (h : History) (k : ℕ) (d : Docket) (cs : Crowds) → k ≡ length h → IsDocketOf start [] d → AreCrowdsOf start [] cs → Passed start h k d cs
before_all start h k d cs e is are =
    let none = drop_all k h (omega (arith, e)) in
    record {
      docket = subst (λ (x : History). IsDocketOf start x d) (sym none) is;
      crowds = subst (λ (x : History). AreCrowdsOf start x cs) (sym none) are;
      licensed = subst (λ (x : History). Licensed start x) (sym none) tt;
    }

turn_there : (h : History) (j k : ℕ) (t : Turn) → k ≡ j - 1 → 0 < j → k < length h → t ≡ get_or h k t → drop k h ≡ t ∷ drop j h
turn_there h j k t e some within is =
    let next : suc k ≡ j = omega (arith, e, some) in
    turn_at h k t within is ∙ ap (λ (i : ℕ). t ∷ drop i h) next

pub passes : (start : Volume) (h : History) (j k : ℕ) (t : Turn) (d d' : Docket) (cs cs' : Crowds) → k ≡ j - 1 → 0 < j → k < length h → t ≡ get_or h k t → Passed start h j d cs
    → IsDocketOf start (t ∷ drop j h) d' × AreCrowdsOf start (t ∷ drop j h) cs' → IsLicensedTurn start (drop j h) t → Passed start h k d' cs'
passes start h j k t d d' cs cs' e some within is so next licensed =
    let there = turn_there h j k t e some within is in
    record {
      docket = subst (λ (x : History). IsDocketOf start x d') (sym there) next.0;
      crowds = subst (λ (x : History). AreCrowdsOf start x cs') (sym there) next.1;
      licensed = subst (λ (x : History). Licensed start x) (sym there) (so.licensed, licensed);
    }

pub not_licensed : (start : Volume) (h : History) (j k : ℕ) (t : Turn) → k ≡ j - 1 → 0 < j → k < length h → t ≡ get_or h k t → (IsLicensedTurn start (drop j h) t → ⊥) → Licensed start h → ⊥
not_licensed start h j k t e some within is wrong licensed =
    let part : Licensed start (t ∷ drop j h) = subst (λ (x : History). Licensed start x) (turn_there h j k t e some within is) (licensed_within start k h licensed) in
    wrong part.1

pub stops_there : (f : AuditFault) (start : Volume) (h : History) (j k : ℕ) (t : Turn) → k ≡ j - 1 → 0 < j → k < length h → t ≡ get_or h k t
    → StopsIn f start (t ∷ drop j h) → StopsIn f start h
stops_there f start h j k t e some within is stops =
    stops_within f start k h (subst (λ (x : History). StopsIn f start x) (sym (turn_there h j k t e some within is)) stops)
