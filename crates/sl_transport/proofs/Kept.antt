-- Answers that are kept: as they are seen, put, renewed and restored.
use Rattle.std.proofs.Common.{◌≡◌, ℕ, ◌==◌, ◌<◌, ◌≤◌, ◌&&◌, Bool, true, false, List, [], ◌∷◌, Option, Some, None, cond, refl, sym, ap, subst, arith}
use Rattle.std.specs.Prelude.{nat_le, nat_lt, max}
use Rattle.std.proofs.lemmas.Bool.Decides.{nat_tests}
use Rattle.std.specs.Ordering.{nat_cmp, eq_by_cmp}
use Rattle.std.specs.Cmp.{nat_cmp_total}
use Rattle.std.specs.FinMap.{FinMap, empty, get, insert, retain_keys, get-empty, get-insert, get-retain_keys}
use Rattle.std.proofs.lemmas.Map.Lookups.{exact_unsigned}
use Rattle.sl_records.specs.declared.started.Started.{Started}
use Rattle.sl_records.specs.declared.directory.DirRecord.TheVariants as dir
use Rattle.sl_frames.specs.declared.frame.Frame.{Frame}
use Rattle.sl_frames.specs.declared.body.Body.TheVariants as body
use Rattle.sl_history.specs.Frames.{or_else}
use Rattle.sl_machine.specs.Records.{Record, OfDir, decision_of, started_of}
use Rattle.sl_machine.specs.Memory.{Site, Coord}
use Rattle.sl_machine.specs.Verdicts.{seen, lowered, renewed, keeping}
use Rattle.sl_machine.specs.Openings.{RestoredSite, RestoredCoord, restored, answer_in, answer_of, decided_by, decided_for}
use Rattle.sl_transport.specs.Kinds.{asks}
use Rattle.sl_transport.proofs.Proper.{KeptIn}

-- ---- of a frame, if there is one

abbrev pub IfThere : (Frame → Type 0) → Option Frame → Type 0
IfThere S None = Unit {0}
IfThere S (Some f) = S f

pub there : (S : Frame → Type 0) (o : Option Frame) → IfThere S o → (f : Frame) → o ≡ Some f → S f
there S o h f e = subst (IfThere S) e h

there_if : (S : Frame → Type 0) (b : Bool) (o p : Option Frame) → IfThere S o → IfThere S p → IfThere S (cond b o p)
there_if S true o p h g = h
there_if S false o p h g = g

there_either : (S : Frame → Type 0) (o p : Option Frame) → IfThere S o → IfThere S p → IfThere S (or_else o p)
there_either S None p h g = g
there_either S (Some f) p h g = h

if_there : (S : Frame → Type 0) (o : Option Frame) → ((f : Frame) → o ≡ Some f → S f) → IfThere S o
if_there S None h = tt
if_there S (Some f) h = h f refl

-- ---- what is held changes

pub kept_retained : (S : Frame → Type 0) (m : FinMap nat_cmp Frame) (p : ℕ → Bool) → ((q : ℕ) (f : Frame) → get m q ≡ Some f → S f) → (q : ℕ) (f : Frame) → get (retain_keys m p) q ≡ Some f → S f
kept_retained S m p h q = there S (get (retain_keys m p) q)
    (subst (IfThere S) (sym (get-retain_keys m p q (λ x e. ap p (sym (exact_unsigned q x e))))) (there_if S (p q) (get m q) None (if_there S (get m q) (h q)) tt))

pub kept_seen : (S : Frame → Type 0) (f : Frame) (s : Site) → KeptIn S s → KeptIn S (seen f s)
kept_seen S f s h = by (f.fence == s.fence)
  where
    by : (b : Bool) → KeptIn S (cond b (lowered f.low s) s)
    by true = kept_retained S s.kept (λ tag. nat_le (max s.low f.low) tag) h
    by false = h

pub kept_renewed : (S : Frame → Type 0) (f : Frame) (s : Site) → KeptIn S (renewed f s)
kept_renewed S f s q = there S (get (empty {X = Frame} {R = nat_cmp}) q) (subst (IfThere S) (sym (get-empty nat_cmp q)) tt)

pub kept_empty : (S : Frame → Type 0) (q : ℕ) (f : Frame) → get (empty {X = Frame} {R = nat_cmp}) q ≡ Some f → S f
kept_empty S q = there S (get (empty {X = Frame} {R = nat_cmp}) q) (subst (IfThere S) (sym (get-empty nat_cmp q)) tt)

pub kept_put : (S : Frame → Type 0) (tag : ℕ) (answer : Frame) (s : Site) → S answer → KeptIn S s → KeptIn S (keeping tag answer s)
kept_put S tag answer s is h q = there S (get (insert s.kept tag answer) q)
    (subst (IfThere S) (sym (get-insert nat_cmp_total s.kept tag answer q)) (there_if S (eq_by_cmp nat_cmp q tag) (Some answer) (get s.kept q) is (if_there S (get s.kept q) (h q))))

-- ---- what records tell

answers_in : (S : Frame → Type 0) (actor fence tag : ℕ) → ((f : Frame) → f.from ≡ actor → asks f.body ≡ false → S f) → (r : Record) → IfThere S (answer_in actor fence tag r)
answers_in S actor fence tag own (OfDir (dir.Mint m)) = there_if S (m.fence == fence && m.tag == tag) (Some (restored actor fence tag (body.Minted m.fileid))) None (own (restored actor fence tag (body.Minted m.fileid)) refl refl) tt
answers_in S actor fence tag own (OfDir (dir.Did d)) =
    there_if S (d.request.fence == fence && d.request.tag == tag) (Some (restored actor fence tag (body.Packet d.reply))) None (own (restored actor fence tag (body.Packet d.reply)) refl refl) tt
answers_in S actor fence tag own other = tt

answers_of : (S : Frame → Type 0) (actor fence tag : ℕ) → ((f : Frame) → f.from ≡ actor → asks f.body ≡ false → S f) → (rs : List Record) → IfThere S (answer_of actor rs fence tag)
answers_of S actor fence tag own [] = tt
answers_of S actor fence tag own (r ∷ rs) = there_either S (answer_in actor fence tag r) (answer_of actor rs fence tag) (answers_in S actor fence tag own r) (answers_of S actor fence tag own rs)

by_decision : (S : Frame → Type 0) → ((f : Frame) → f.from ≡ 1 → asks f.body ≡ false → S f) → (s : Started) (o : Option Bool) → IfThere S (decided_by s o)
by_decision S own s None = tt
by_decision S own s (Some agreed) = own _ refl refl

decisions_of : (S : Frame → Type 0) → ((f : Frame) → f.from ≡ 1 → asks f.body ≡ false → S f) → (rs : List Record) (fence tag : ℕ) (ss : List Started) → IfThere S (decided_for rs fence tag ss)
decisions_of S own rs fence tag [] = tt
decisions_of S own rs fence tag (s ∷ ss) = there_if S (s.request.fence == fence && s.request.tag == tag) (decided_by s (decision_of rs s.op)) (decided_for rs fence tag ss) (by_decision S own s (decision_of rs s.op)) (decisions_of S own rs fence tag ss)

-- what a look-up finds at or above a number, and below it nothing
above_or_none : (S : Frame → Type 0) (low tag : ℕ) (o p : Option Frame) → (low ≤ tag → o ≡ p) → (tag < low → o ≡ None) → IfThere S p → IfThere S o
above_or_none S low tag o p above below h = by (nat_lt tag low) refl
  where
    is_below : nat_lt tag low ≡ true → tag < low
    is_below e = grind (arith, nat_tests)

    is_above : nat_lt tag low ≡ false → low ≤ tag
    is_above e = grind (arith, nat_tests)

    by : (b : Bool) → nat_lt tag low ≡ b → IfThere S o
    by true e = subst (IfThere S) (sym (below (is_below e))) tt
    by false e = subst (IfThere S) (sym (above (is_above e))) h

pub kept_restored : (S : Frame → Type 0) (actor : ℕ) (rs : List Record) (s : Site) → ((f : Frame) → f.from ≡ actor → asks f.body ≡ false → S f) → RestoredSite actor rs s → KeptIn S s
kept_restored S actor rs s own r tag = there S (get s.kept tag)
    (above_or_none S s.low tag (get s.kept tag) (answer_of actor rs s.fence tag) (r.kept tag) (r.gone tag) (answers_of S actor s.fence tag own rs))

pub kept_decided : (S : Frame → Type 0) (rs : List Record) (m : Coord) → ((f : Frame) → f.from ≡ 1 → asks f.body ≡ false → S f) → RestoredCoord rs m → KeptIn S m.site
kept_decided S rs m own r tag = there S (get m.site.kept tag)
    (above_or_none S m.site.low tag (get m.site.kept tag) (decided_for rs m.site.fence tag (started_of rs)) (r.kept tag) (r.gone tag) (decisions_of S own rs m.site.fence tag (started_of rs)))
