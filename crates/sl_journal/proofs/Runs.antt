-- How a run of device calls goes on.
use Rattle.std.proofs.Common.{inl, inr, ⊎_elim, ℕ, ◌<◌, List, refl, ◌∙◌, subst, arith}
use Rattle.sl_disk.specs.Shelf.{Told, Situation, LeavesOthers, SameImages, Elapses, Torn, Follows, NoMore, SameCounts, KeepsScript, Rose}
use Rattle.sl_disk.specs.Shelf as shelf
use Rattle.sl_disk.specs.declared.shelf.ShelfFault.{ShelfFault}
use Rattle.sl_disk.specs.declared.shelf.ShelfFault.TheVariants as device
use Rattle.sl_disk.proofs.Tearing.{torn_same}
use Rattle.sl_journal.specs.Moments.{LeavesOnly, IsTorn}
use Rattle.sl_journal.specs.Settled.{CountsFault, fault_of}
use Rattle.sl_journal.specs.declared.fault.JournalFault.{JournalFault}
use Rattle.sl_journal.specs.declared.fault.JournalFault.TheVariants as fault

-- ---- the other disks

pub others_same : (disk : ℕ) (old : Situation) → LeavesOthers disk old old
others_same disk old = record { told = λ d other. refl; images = λ d other c. (λ p. p, λ p. p) }

pub others_then : (disk : ℕ) (old mid new : Situation) → LeavesOthers disk old mid → LeavesOthers disk mid new → LeavesOthers disk old new
others_then disk old mid new first then = record {
  told = λ d other. then.told d other ∙ first.told d other;
  images = λ d other c. (λ p. (then.images d other c).0 ((first.images d other c).0 p), λ p. (first.images d other c).1 ((then.images d other c).1 p));
}

-- ---- the moments

-- before the first call
pub started : (disk : ℕ) (old : Situation) (P : List ℕ → Type 0) → ((c : List ℕ) → old.left_since disk old.moment c → P c) → LeavesOnly disk old old P
started disk old P here = record { later = omega arith; others = others_same disk old; each = here; before = λ t c le left. inl left; others_before = λ d t c other le left. inl left; together = λ t f le left. inl left }

-- one call more, after which a stop leaves what has P
pub goes_on : (disk : ℕ) (old mid new : Situation) (P : List ℕ → Type 0) → disk < 64 → LeavesOnly disk old mid P → Elapses mid new → LeavesOthers disk mid new → ((c : List ℕ) → new.may_leave disk c → P c) → LeavesOnly disk old new P
goes_on disk old mid new P known so_far time others here = record {
  later = omega (arith, so_far.later, time.later);
  others = others_then disk old mid new so_far.others others;
  each = λ c left. ⊎_elim (so_far.each c) (here c) (time.nothing_else disk old.moment c so_far.later left);
  before = λ t c le left. ⊎_elim (so_far.before t c le) (λ now. inr (here c now)) (time.nothing_else disk t c (omega (arith, le, so_far.later)) left);
  others_before = λ d t c other le left. ⊎_elim (so_far.others_before d t c other le) (λ now. inr ((so_far.others.images d other c).1 ((others.images d other c).1 now)))
      (time.nothing_else d t c (omega (arith, le, so_far.later)) left);
  together = λ t f le left. ⊎_elim (so_far.together t f le) (λ now. inr (here (f disk) (now disk known), λ d below other. (so_far.others.images d other (f d)).1 ((others.images d other (f d)).1 (now d below))))
      (time.no_others_together t f (omega (arith, le, so_far.later)) left);
}

-- a run, and another
pub chain : (disk : ℕ) (old mid new : Situation) (P Q : List ℕ → Type 0) → LeavesOnly disk old mid P → LeavesOnly disk mid new Q → ((c : List ℕ) → Q c → P c) → LeavesOnly disk old new P
chain disk old mid new P Q first then so = record {
  later = omega (arith, first.later, then.later);
  others = others_then disk old mid new first.others then.others;
  each = λ c left. ⊎_elim (first.each c) (so c) (then.before old.moment c first.later left);
  before = λ t c le left. ⊎_elim (first.before t c le) (λ now. inr (so c now)) (then.before t c (omega (arith, le, first.later)) left);
  others_before = λ d t c other le left. ⊎_elim (first.others_before d t c other le) (λ now. inr ((first.others.images d other c).1 now)) (then.others_before d t c other (omega (arith, le, first.later)) left);
  together = λ t f le left. ⊎_elim (first.together t f le) (λ now. inr (so (f disk) now.0, λ d below other. (first.others.images d other (f d)).1 (now.1 d below other)))
      (then.together t f (omega (arith, le, first.later)) left);
}

pub weaker : (disk : ℕ) (old new : Situation) (P Q : List ℕ → Type 0) → LeavesOnly disk old new Q → ((c : List ℕ) → Q c → P c) → LeavesOnly disk old new P
weaker disk old new P Q run so = record {
  later = run.later;
  others = run.others;
  each = λ c left. so c (run.each c left);
  before = λ t c le left. ⊎_elim (λ p. inl p) (λ now. inr (so c now)) (run.before t c le left);
  others_before = run.others_before;
  together = λ t f le left. ⊎_elim (λ p. inl p) (λ now. inr (so (f disk) now.0, now.1)) (run.together t f le left);
}

-- ---- a write and a sync

pub after_write : (disk at n : ℕ) (old mid : Situation) → disk < 64 → ((c : List ℕ) → old.left_since disk old.moment c → old.may_leave disk c) → Elapses old mid → LeavesOthers disk old mid
    → Follows (Torn at n) (old.may_leave disk) (mid.may_leave disk) → LeavesOnly disk old mid (IsTorn at n (old.may_leave disk))
after_write disk at n old mid known now time others follows =
    goes_on disk old old mid (IsTorn at n (old.may_leave disk)) known (started disk old (IsTorn at n (old.may_leave disk)) (λ c left. (c, now c left, torn_same at n c))) time others follows

pub after_sync : (disk : ℕ) (old mid new : Situation) (P : List ℕ → Type 0) → disk < 64 → LeavesOnly disk old mid P → Elapses mid new → LeavesOthers disk mid new → NoMore (mid.may_leave disk) (new.may_leave disk)
    → ((c : List ℕ) → mid.may_leave disk c → P c) → LeavesOnly disk old new P
after_sync disk old mid new P known run time others no_more here = goes_on disk old mid new P known run time others (λ c left. here c (no_more c left))

-- ---- counts

pub script_then : (old mid new : Told) → KeepsScript old mid → KeepsScript mid new → KeepsScript old new
script_then old mid new first then = record {
  model = then.model ∙ first.model;
  arms = then.arms ∙ first.arms;
  last_arm = then.last_arm ∙ first.last_arm;
  crashes = then.crashes ∙ first.crashes;
  last_crash = then.last_crash ∙ first.last_crash;
}

pub same_then : (old mid new : Told) → SameCounts old mid → SameCounts mid new → SameCounts old new
same_then old mid new first then = record { faults = then.faults ∙ first.faults; stops = then.stops ∙ first.stops }

pub fault_then : (fault : ShelfFault) (old mid new : Told) → SameCounts old mid → shelf.CountsFault fault mid new → CountsFault (fault_of fault) old new
fault_then device.Failed old mid new first then = (subst (λ (n : ℕ). Rose n new.faults) first.faults then.0, then.1 ∙ first.stops)
fault_then device.Stopped old mid new first then = (then.0 ∙ first.faults, subst (λ (n : ℕ). Rose n new.stops) first.stops then.1)
fault_then device.NoMemory old mid new first then = same_then old mid new first then

pub counts_then : (fault : JournalFault) (old mid new : Told) → SameCounts old mid → CountsFault fault mid new → CountsFault fault old new
counts_then fault.Failed old mid new first then = (subst (λ (n : ℕ). Rose n new.faults) first.faults then.0, then.1 ∙ first.stops)
counts_then fault.Stopped old mid new first then = (then.0 ∙ first.faults, subst (λ (n : ℕ). Rose n new.stops) first.stops then.1)
counts_then fault.NotAJournal old mid new first then = same_then old mid new first then
counts_then fault.NoMemory old mid new first then = same_then old mid new first then
counts_then fault.Spent old mid new first then = same_then old mid new first then
