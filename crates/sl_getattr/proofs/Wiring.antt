-- Which turns are wired, where servers tell neither cells nor names, and all that is replied is GETATTR.
use Rattle.std.proofs.Common.{◌≡◌, ℕ, ◌+◌, inl, Bool, true, false, not, List, [], ◌∷◌, ◌++◌, Option, Some, None, refl, sym, ap, subst, ◌∙◌, if◌then◌else◌}
use Rattle.std.specs.Prelude.{option_and_then}
use Rattle.sl_defs.specs.declared.setup.Setup.{Setup}
use Rattle.sl_types.specs.declared.call.Call.TheVariants as call
use Rattle.sl_model.specs.Volume.{Volume}
use Rattle.sl_model.specs.Gathered.{is_unstable}
use Rattle.sl_model.specs.Perform.{fresh}
use Rattle.sl_frames.specs.declared.frame.Frame.{Frame}
use Rattle.sl_frames.specs.declared.body.Body.{Body}
use Rattle.sl_frames.specs.declared.body.Body.TheVariants as body
use Rattle.sl_history.specs.Turns.{Remark, Sent, Did, Flush, Verf, Replied, Junk, Early, Full, Lost, Down, Turn, History, so_far, turn_of, is_event}
use Rattle.sl_history.specs.Arrivals.{Asked, asked, asked_by}
use Rattle.sl_history.specs.Frames.{IsGivenIn}
use Rattle.sl_history.specs.Volumes.{volume_after}
use Rattle.sl_history.specs.Licensed.{request}
use Rattle.sl_history.specs.Wired.{Answers, is_answer, is_quiet, looked_at, IsWiredReply, IsReadIf, read_bytes, results_of, IsTrueAnswer, IsTrueIf, AreTrue, AllMayBeNoted}
use Rattle.sl_transport.specs.Flying.{AllNumbered}
use Rattle.sl_transport.specs.Acting.{AllSentRightly}
use Rattle.sl_machine.specs.World.{numbered}
use Rattle.sl_transport.proofs.Proper.{Each}
use Rattle.sl_getattr.proofs.Stepping.{not_both}
use Rattle.sl_getattr.proofs.Counting.{AreDowns, AreSent}
use Rattle.sl_getattr.proofs.Looking.{IsNew}
use Rattle.sl_getattr.proofs.Sound.{Tale}
use Rattle.sl_getattr.proofs.Tales.{HasNoEffect, tale_after}

-- ---- what a turn's notes are

-- the frame that is given in this turn is answered by this one
pub record IsAnswering (past : History) (t : Turn) (f : Frame) : Type 0 where
  pub asking : Frame
  pub given : IsGivenIn past t asking
  pub answers : Answers asking f

abbrev pub TellsNothing : Body → Type 0
TellsNothing (body.Found cells) = ⊥
TellsNothing (body.Listed cells more) = ⊥
TellsNothing other = Unit {0}

-- a GETATTR
abbrev pub AsksAttributes : Asked → Type 0
AsksAttributes a = (object : List ℕ) × (a.call ≡ call.Getattr object)

abbrev pub Wires : History → Turn → Remark → Type 0
Wires past t (Sent k f) = (is_answer f.«body» ≡ true → IsAnswering past t f) × TellsNothing f.«body»
Wires past t (Replied n e bytes) = (a : Asked) → asked (t ∷ past) n ≡ Some a → AsksAttributes a
Wires past t (Did n at choice) = ⊥
Wires past t (Flush f) = ⊥
Wires past t other = Unit {0}

abbrev pub AllWire : History → Turn → List Remark → Type 0
AllWire past t [] = Unit {0}
AllWire past t (r ∷ rs) = Wires past t r × AllWire past t rs

pub wire_both : (past : History) (t : Turn) (rs qs : List Remark) → AllWire past t rs → AllWire past t qs → AllWire past t (rs ++ qs)
wire_both past t [] qs p q = q
wire_both past t (r ∷ rs) qs p q = (p.0, wire_both past t rs qs p.1 q)

-- ---- each note

effects_then : (rs : List Remark) (past : History) (t : Turn) (r : Remark) → HasNoEffect rs → Wires past t r → HasNoEffect (rs ++ r ∷ [])
effects_then [] past t (Sent k f) none wires = tt
effects_then [] past t (Replied n e bytes) none wires = tt
effects_then [] past t (Did n at choice) none wires = absurd wires
effects_then [] past t (Flush f) none wires = absurd wires
effects_then [] past t (Verf v) none wires = tt
effects_then [] past t (Junk n) none wires = tt
effects_then [] past t (Early n) none wires = tt
effects_then [] past t (Full n) none wires = tt
effects_then [] past t (Lost n) none wires = tt
effects_then [] past t (Down a) none wires = tt
effects_then (Did n at choice ∷ rs) past t r none wires = absurd none
effects_then (Flush f ∷ rs) past t r none wires = absurd none
effects_then (Sent k f ∷ rs) past t r none wires = effects_then rs past t r none wires
effects_then (Verf v ∷ rs) past t r none wires = effects_then rs past t r none wires
effects_then (Replied n e bytes ∷ rs) past t r none wires = effects_then rs past t r none wires
effects_then (Junk n ∷ rs) past t r none wires = effects_then rs past t r none wires
effects_then (Early n ∷ rs) past t r none wires = effects_then rs past t r none wires
effects_then (Full n ∷ rs) past t r none wires = effects_then rs past t r none wires
effects_then (Lost n ∷ rs) past t r none wires = effects_then rs past t r none wires
effects_then (Down a ∷ rs) past t r none wires = effects_then rs past t r none wires

all_quiet : (number : ℕ) (v : Volume) (o : Option ℕ) → IsNew number v → is_quiet v o ≡ true
all_quiet number v None new = refl
all_quiet number v (Some f) new = ap (λ ws. not (is_unstable f ws)) new.stable

-- the call of an event, whatever is noted so far
pub same_call : (past : History) (t : Turn) (before : List Remark) (n : ℕ) → asked (so_far t before ∷ past) n ≡ asked (t ∷ past) n
unfolding asked turn_of
same_call past t before n = by (is_event past t n)
  where
    by : (b : Bool) → option_and_then asked_by (if b then Some (so_far t before) else turn_of past n) ≡ option_and_then asked_by (if b then Some t else turn_of past n)
    by true = refl
    by false = refl

wired_reply : (s : Setup) (past : History) (t : Turn) (n e : ℕ) (bytes : List ℕ) (o : Option Asked) → ((a : Asked) → o ≡ Some a → AsksAttributes a) → IsWiredReply s past t n e bytes o
wired_reply s past t n e bytes None asks = tt
wired_reply s past t n e bytes (Some a) asks =
    let get = asks a refl in
    subst (λ c. IsReadIf s past t n e c (read_bytes (results_of a.procedure bytes))) (sym get.1) (any_reading (read_bytes (results_of a.procedure bytes)) get.0)
  where
    any_reading : (o : Option (List ℕ)) (object : List ℕ) → IsReadIf s past t n e (call.Getattr object) o
    any_reading None object = tt
    any_reading (Some read) object = tt

pub all_wired : (s : Setup) (past : History) (t : Turn) (before rs : List Remark) → Tale s past → HasNoEffect before → AllNumbered t past before rs → AllSentRightly past t rs → AllWire past t rs
    → AllMayBeNoted s (fresh s.volume) t past before rs
all_wired s past t before [] tale none numbers senders wires = tt
all_wired s past t before (Sent k f ∷ rs) tale none numbers senders wires = (
  record {
    number = numbers.0;
    sender = senders.0;
    answer = λ is. let a = wires.0.0 is in record { asking = a.asking; given = inl (record { gives = a.given.gives; up = a.given.up }); answers = a.answers };
    quiet = all_quiet s.volume (volume_after (fresh s.volume) (so_far t before ∷ past)) (looked_at f.«body») (tale_after s past (so_far t before) tale none);
  },
  all_wired s past t (before ++ Sent k f ∷ []) rs tale (effects_then before past t (Sent k f) none wires.0) numbers.1 senders.1 wires.1,
)
all_wired s past t before (Replied n e bytes ∷ rs) tale none numbers senders wires = (
  wired_reply s past t n e bytes (asked (so_far t before ∷ past) n) (λ a is. wires.0 a (sym (same_call past t before n) ∙ is)),
  all_wired s past t (before ++ Replied n e bytes ∷ []) rs tale (effects_then before past t (Replied n e bytes) none wires.0) numbers.1 senders.1 wires.1,
)
all_wired s past t before (Did n at choice ∷ rs) tale none numbers senders wires = absurd wires.0
all_wired s past t before (Flush f ∷ rs) tale none numbers senders wires = absurd wires.0
all_wired s past t before (Verf v ∷ rs) tale none numbers senders wires = (tt, all_wired s past t (before ++ Verf v ∷ []) rs tale (effects_then before past t (Verf v) none tt) numbers.1 senders.1 wires.1)
all_wired s past t before (Junk n ∷ rs) tale none numbers senders wires = (tt, all_wired s past t (before ++ Junk n ∷ []) rs tale (effects_then before past t (Junk n) none tt) numbers.1 senders.1 wires.1)
all_wired s past t before (Early n ∷ rs) tale none numbers senders wires = (tt, all_wired s past t (before ++ Early n ∷ []) rs tale (effects_then before past t (Early n) none tt) numbers.1 senders.1 wires.1)
all_wired s past t before (Full n ∷ rs) tale none numbers senders wires = (tt, all_wired s past t (before ++ Full n ∷ []) rs tale (effects_then before past t (Full n) none tt) numbers.1 senders.1 wires.1)
all_wired s past t before (Lost n ∷ rs) tale none numbers senders wires = (tt, all_wired s past t (before ++ Lost n ∷ []) rs tale (effects_then before past t (Lost n) none tt) numbers.1 senders.1 wires.1)
all_wired s past t before (Down a ∷ rs) tale none numbers senders wires = (tt, all_wired s past t (before ++ Down a ∷ []) rs tale (effects_then before past t (Down a) none tt) numbers.1 senders.1 wires.1)

-- ---- what is told

true_answer : (s : Setup) (v : Volume) (server : ℕ) (asking b : Body) → TellsNothing b → IsTrueAnswer s v server asking b
true_answer s v server (body.Ask keys) (body.Found cells) nothing = absurd nothing
true_answer s v server (body.List d cookie limit) (body.Listed cells more) nothing = absurd nothing
true_answer s v server asking b nothing = tt

true_if : (s : Setup) (v : Volume) (f : Frame) (o : Option Frame) → TellsNothing f.«body» → IsTrueIf s v f o
true_if s v f None nothing = tt
true_if s v f (Some asking) nothing = true_answer s v f.from asking.«body» f.«body» nothing

pub all_true : (s : Setup) (v : Volume) (h past : History) (t : Turn) (rs : List Remark) → AllWire past t rs → AreTrue s v h rs
all_true s v h past t [] wires = tt
all_true s v h past t (Sent k f ∷ rs) wires = (true_if s v f (request h f.fence f.tag) wires.0.1, all_true s v h past t rs wires.1)
all_true s v h past t (Did n at choice ∷ rs) wires = absurd wires.0
all_true s v h past t (Flush f ∷ rs) wires = absurd wires.0
all_true s v h past t (Verf w ∷ rs) wires = all_true s v h past t rs wires.1
all_true s v h past t (Replied n e bytes ∷ rs) wires = all_true s v h past t rs wires.1
all_true s v h past t (Junk n ∷ rs) wires = all_true s v h past t rs wires.1
all_true s v h past t (Early n ∷ rs) wires = all_true s v h past t rs wires.1
all_true s v h past t (Full n ∷ rs) wires = all_true s v h past t rs wires.1
all_true s v h past t (Lost n ∷ rs) wires = all_true s v h past t rs wires.1
all_true s v h past t (Down a ∷ rs) wires = all_true s v h past t rs wires.1

-- ---- the notes of an opening, and of an end

pub downs_wire : (past : History) (t : Turn) (rs : List Remark) → AreDowns rs → AllWire past t rs
downs_wire past t [] is = tt
downs_wire past t (Sent k f ∷ rs) is = absurd is
downs_wire past t (Down a ∷ rs) is = (tt, downs_wire past t rs is)
downs_wire past t (Did m at choice ∷ rs) is = absurd is
downs_wire past t (Flush f ∷ rs) is = absurd is
downs_wire past t (Verf v ∷ rs) is = absurd is
downs_wire past t (Replied m e bytes ∷ rs) is = absurd is
downs_wire past t (Junk m ∷ rs) is = absurd is
downs_wire past t (Early m ∷ rs) is = absurd is
downs_wire past t (Full m ∷ rs) is = absurd is
downs_wire past t (Lost m ∷ rs) is = absurd is

no_answer : (f : Frame) → f.«body» ≡ body.Hello → is_answer f.«body» ≡ true → ⊥
no_answer f kind is = not_both is (ap is_answer kind)

pub sent_wire : (past : History) (t : Turn) (rs : List Remark) → AreSent rs → AllWire past t rs
sent_wire past t [] is = tt
sent_wire past t (Sent k f ∷ rs) is = ((λ answer. absurd (no_answer f is.0 answer), subst TellsNothing (sym is.0) tt), sent_wire past t rs is.1)
sent_wire past t (Down a ∷ rs) is = absurd is
sent_wire past t (Did m at choice ∷ rs) is = absurd is
sent_wire past t (Flush f ∷ rs) is = absurd is
sent_wire past t (Verf v ∷ rs) is = absurd is
sent_wire past t (Replied m e bytes ∷ rs) is = absurd is
sent_wire past t (Junk m ∷ rs) is = absurd is
sent_wire past t (Early m ∷ rs) is = absurd is
sent_wire past t (Full m ∷ rs) is = absurd is
sent_wire past t (Lost m ∷ rs) is = absurd is

pub frames_wire : (past : History) (t : Turn) (k : ℕ) (fs : List Frame) → Each (λ f. (is_answer f.«body» ≡ true → IsAnswering past t f) × TellsNothing f.«body») fs → AllWire past t (numbered k fs)
frames_wire past t k [] each = tt
frames_wire past t k (f ∷ fs) each = (each.0, frames_wire past t (k + 1) fs each.1)
