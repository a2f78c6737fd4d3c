-- Sets of files, as lists that have each file once.
use Rattle.std.proofs.Common.{◌≡◌, ℕ, suc, ◌+◌, ◌-◌, ◌<◌, ◌≤◌, eqb-true, Bool, true, false, cond, ◌||◌, List, [], ◌∷◌, length, refl, ap, sym, ◌∙◌, arith, Option}
use Rattle.std.proofs.lemmas.Bool.{lt-leb, true≢false}
use Rattle.std.specs.Prelude.{◌==◌, not, nat_le}
use Rattle.std.specs.BTreeMap.{is_at}
use Rattle.std.specs.BTreeSet as sorted
use Rattle.std.specs.List.{list_any}
use Rattle.std.specs.Ordering.{nat_cmp}
use Rattle.sl_defs.specs.Histories.{Happening}
use Rattle.sl_defs.specs.declared.setup.Time.{Time}
use Rattle.sl_model.specs.Volume.{Unstable}
use Rattle.sl_history.specs.Turns.{Remark, Turn, History, begun, noted}
use Rattle.sl_history.specs.Licensed.{ended_by, files_of, flushing_on, is_in, most_dirty, reaches, together, with, without, without_if}
use Rattle.sl_licence.specs.declared.dirty.Files.{Files}
use Rattle.sl_licence.specs.declared.dirty.Flushing.{Flushing}
use Rattle.sl_licence.specs.Dirty.{AreFiles, AreFlushing, has_file, number_of, others_in}
use Rattle.sl_licence.proofs.Histories.{flushing-begun, flushing-noted}

-- ---- one file more

absorbed : (s v : Bool) → (s ≡ true → v ≡ true) → (s || v) ≡ v
absorbed true v h = sym (h refl)
absorbed false v h = refl

has_with : (b : Bool) (file f : ℕ) (fs : List ℕ) → b ≡ is_in file fs → ((file == f) || is_in f fs) ≡ is_in f (cond b fs (file ∷ fs))
has_with true file f fs known = absorbed (file == f) (is_in f fs) (λ same. ap (λ (x : ℕ). is_in x fs) (sym (eqb-true file f same)) ∙ sym known)
has_with false file f fs known = refl

-- how long the list is without f, and one where f is in it
abbrev counted : ℕ → List ℕ → ℕ
counted f fs = length (without f fs) + number_of (is_in f fs)

count_new : (same was : Bool) (file : ℕ) (rest : List ℕ) (k : ℕ) → (same ≡ true → was ≡ false) → length rest + number_of was ≡ k
    → length (cond (not same) (file ∷ rest) rest) + number_of (same || was) ≡ k + 1
count_new true true file rest k none is = absurd (true≢false (none refl))
count_new true false file rest k none is = let goal : length rest + 1 ≡ k + 1 = omega (arith, is) in goal
count_new false true file rest k none is = let goal : suc (length rest) + 1 ≡ k + 1 = omega (arith, is) in goal
count_new false false file rest k none is = let goal : suc (length rest) + 0 ≡ k + 1 = omega (arith, is) in goal

count_with : (b : Bool) (file f : ℕ) (fs : List ℕ) (k n : ℕ) → b ≡ is_in file fs → n ≡ k + cond (not b) 1 0 → counted f fs ≡ k → counted f (cond b fs (file ∷ fs)) ≡ n
count_with true file f fs k n known more is = let goal : counted f fs ≡ n = omega (arith, more, is) in goal
count_with false file f fs k n known more is =
    let new = count_new (file == f) (is_in f fs) file (without f fs) k (λ same. ap (λ (x : ℕ). is_in x fs) (sym (eqb-true file f same)) ∙ sym known) is in
    let goal : counted f (file ∷ fs) ≡ n = new ∙ sym more in
    goal

pub one_more_file : (fs : List ℕ) (old new : Files) (file : ℕ) (added : Bool) → ((f : ℕ) → has_file new f ≡ ((file == f) || has_file old f))
    → added ≡ not (has_file old file) → sorted.btree_set_len new.files ≡ sorted.btree_set_len old.files + cond added 1 0 → AreFiles fs old → AreFiles (with file fs) new
one_more_file fs old new file added has is_new more are = record {
  has = λ f.
      has f ∙ ap (λ (b : Bool). (file == f) || b) (are.has f) ∙ has_with (is_in file fs) file f fs refl;
  count = λ f.
      count_with (is_in file fs) file f fs (sorted.btree_set_len old.files) (sorted.btree_set_len new.files) refl
      (more ∙ ap (λ (b : Bool). sorted.btree_set_len old.files + cond b 1 0) (is_new ∙ ap not (are.has file))) (are.count f);
}

pub no_files : (s : Files) → s.files.keys ≡ [] → AreFiles [] s
no_files s none = record {
  has = λ f. ap (λ ks. list_any (is_at (nat_cmp f)) ks) none;
  count = λ f. ap length (sym none);
}

pub others_are : (fs : List ℕ) (s : Files) (f : ℕ) → AreFiles fs s → others_in s f ≡ length (without f fs)
others_are fs s f are =
    let has : number_of (has_file s f) ≡ number_of (is_in f fs) = ap number_of (are.has f) in
    let count = are.count f in
    let goal : sorted.btree_set_len s.files - number_of (has_file s f) ≡ length (without f fs) = omega (arith, has, count) in
    goal

-- ---- how many there are

with_length : (b : Bool) (f : ℕ) (fs : List ℕ) → length (cond b fs (f ∷ fs)) ≤ length fs + 1
with_length true f fs = omega arith
with_length false f fs = omega arith

pub together_length : (ms ns : List ℕ) → length (together ms ns) ≤ length ms + length ns
together_length [] ns = omega arith
together_length (m ∷ ms) ns =
    let again = together_length ms ns in
    let one = with_length (is_in m (together ms ns)) m (together ms ns) in
    let goal : length (with m (together ms ns)) ≤ suc (length ms) + length ns = omega (arith, again, one) in
    goal

pub files_length : (ws : List Unstable) → length (files_of ws) ≤ length ws
files_length [] = omega arith
files_length (w ∷ ws) =
    let again = files_length ws in
    let one = with_length (is_in w.fileid (files_of ws)) w.fileid (files_of ws) in
    let goal : length (with w.fileid (files_of ws)) ≤ suc (length ws) = omega (arith, again, one) in
    goal

kept_length : (b : Bool) (m : ℕ) (rest : List ℕ) (k : ℕ) → length rest ≤ k → length (cond b (m ∷ rest) rest) ≤ suc k
kept_length true m rest k few = omega (arith, few)
kept_length false m rest k few = omega (arith, few)

pub without_length : (f : ℕ) (fs : List ℕ) → length (without f fs) ≤ length fs
without_length f [] = omega arith
without_length f (m ∷ fs) = kept_length (not (m == f)) m (without f fs) (length fs) (without_length f fs)

pub few_files : (fs : List ℕ) (ws : List Unstable) (f : ℕ) → length fs + length ws < most_dirty → nat_le most_dirty (length (without f (together fs (files_of ws)))) ≡ false
few_files fs ws f few =
    let a = together_length fs (files_of ws) in
    let b = files_length ws in
    let c = without_length f (together fs (files_of ws)) in
    lt-leb most_dirty (length (without f (together fs (files_of ws)))) (omega (arith, a, b, c, few))

pub few_in_set : (fs : List ℕ) (s : Files) (f : ℕ) → AreFiles fs s → sorted.btree_set_len s.files < most_dirty → nat_le most_dirty (length (without f fs)) ≡ false
few_in_set fs s f are few = let count = are.count f in lt-leb most_dirty (length (without f fs)) (omega (arith, count, few))

-- ---- what is being flushed

pub flushing_ends : (past : History) (happening : Happening) (moment : Time) (o : Option ℕ) (old new : Flushing)
    → o ≡ ended_by past (reaches past (record { happening = happening; moment = moment; remarks = [] })) → new.files.items ≡ without_if o old.files.items → AreFlushing past old
    → AreFlushing (begun past happening moment) new
flushing_ends past happening moment o old new ended items are = record {
  files = items ∙ ap (λ (x : Option ℕ). without_if x old.files.items) ended
      ∙ ap (without_if (ended_by past (reaches past (record { happening = happening; moment = moment; remarks = [] })))) are.files ∙ sym (flushing-begun past happening moment);
}

pub flushing_goes_on : (t : Turn) (past : History) (r : Remark) (old new : Flushing) → new.files.items ≡ flushing_on (r ∷ []) old.files.items → AreFlushing (t ∷ past) old
    → AreFlushing (noted (t ∷ past) r) new
flushing_goes_on t past r old new items are = record { files = items ∙ ap (flushing_on (r ∷ [])) are.files ∙ sym (flushing-noted t past r) }
