-- What a list of changes does to a volume, whichever procedure made it.
use Rattle.std.proofs.Common.{◌≡◌, ℕ, List, [], ◌∷◌, Some, refl, sym, ap, subst, ◌∙◌, inl, inr}
use Rattle.std.specs.Prelude.{◌⊎◌}
use Rattle.std.specs.List.{AllByRecursion}
use Rattle.std.proofs.lemmas.Bool.{cases_eq}
use Rattle.std.proofs.lemmas.Cmp.{nat_cmp_total}
use Rattle.std.proofs.lemmas.Map.Lookups.{exact_unsigned}
use Rattle.std.specs.FinMap.{FinMap, get, insert, remove}
use Rattle.std.specs.Ordering.{nat_cmp}
use Rattle.sl_model.specs.declared.node.Node.{Node}
use Rattle.sl_model.specs.Volume.{Volume, Change, PutNode, TakeNode, PutName, TakeName, PutText, PutBytes, AddWrite, changed, after_changes, seen, put_seen}
use Rattle.sl_model.specs.Gathered.{VolumeCells, cells_of, cells_after}
use Rattle.sl_model.specs.Tree.{IsOfFile, Nodes, IsTree, Tree, nothing}
use Rattle.sl_model.proofs.MapSteps.{get_here, get_else, gone_else, take_cases, put_cases}
use Rattle.sl_model.proofs.Cells.{cells_follow}
use Rattle.sl_laws.proofs.Points.{over}
use Rattle.sl_laws.proofs.Flushing.{others_of}

-- no unstable write is added, and what goes had a fileid that was used
abbrev pub IsPlain : Volume → Change → Type 0
IsPlain v (AddWrite w) = ⊥
IsPlain v (TakeNode f) = get v.used f ≡ Some tt
IsPlain v _ = Unit {0}

number_stays : (c : Change) (v : Volume) → (changed c v).number ≡ v.number
number_stays (PutNode f n) v = refl
number_stays (TakeNode f) v = refl
number_stays (PutName d name e) v = refl
number_stays (TakeName d name) v = refl
number_stays (PutText f text) v = refl
number_stays (PutBytes f at bytes) v = refl
number_stays (AddWrite w) v = refl

number_kept : (cs : List Change) (v : Volume) → (after_changes cs v).number ≡ v.number
number_kept [] v = refl
number_kept (c ∷ cs) v = number_kept cs (changed c v) ∙ number_stays c v

-- ---- each node's fileid was used

abbrev IsUsed : Volume → Type 0
IsUsed v = (f : ℕ) (n : Node) → get v.nodes f ≡ Some n → get v.used f ≡ Some tt

used_put : (nodes : Nodes) (used : FinMap nat_cmp (Unit {0})) (f : ℕ) (x : Node) → ((g : ℕ) (n : Node) → get nodes g ≡ Some n → get used g ≡ Some tt)
    → (g : ℕ) (n : Node) → get (insert nodes f x) g ≡ Some n → get (insert used f tt) g ≡ Some tt
used_put nodes used f x h g n e = elim (put_cases nat_cmp_total exact_unsigned nodes f x g n e) [
  | inl p ↦ subst (λ z. get (insert used f tt) z ≡ Some tt) (sym p.0) (get_here nat_cmp_total exact_unsigned used f tt)
  | inr p ↦ get_else nat_cmp_total exact_unsigned used f tt g p.0 ∙ h g n p.1
]

used_changed : (c : Change) (v : Volume) → IsUsed v → IsUsed (changed c v)
used_changed (PutNode f n) v h = λ g m e. used_put v.nodes v.used f n h g m (ap (λ (z : Nodes). get z g) (sym (over v.nodes f (seen v f) n)) ∙ e)
used_changed (TakeNode f) v h = λ g m e. h g m (take_cases nat_cmp_total exact_unsigned v.nodes f g m e).1
used_changed (PutName d name e) v h = h
used_changed (TakeName d name) v h = h
used_changed (PutText f text) v h = h
used_changed (PutBytes f at bytes) v h = h
used_changed (AddWrite w) v h = h

used_kept : (cs : List Change) (v : Volume) → IsUsed v → IsUsed (after_changes cs v)
used_kept [] v h = h
used_kept (c ∷ cs) v h = used_kept cs (changed c v) (used_changed c v h)

-- ---- unstable writes are of regular files

abbrev AreOfFiles : Volume → Type 0
AreOfFiles v = AllByRecursion (IsOfFile v.nodes) v.unstable

files_changed : (u : Volume) (c : Change) (v : Volume) → IsPlain u c → AreOfFiles v → AreOfFiles (changed c v)
files_changed u (PutNode f n) v s h = others_of v.nodes (insert (put_seen v.nodes f (seen v f)) f n) f
    (λ g ne. ap (λ (z : Nodes). get z g) (over v.nodes f (seen v f) n) ∙ get_else nat_cmp_total exact_unsigned v.nodes f n g ne) v.unstable h
files_changed u (TakeNode f) v s h = others_of v.nodes (remove v.nodes f) f (λ g ne. gone_else nat_cmp_total exact_unsigned v.nodes f g ne) v.unstable h
files_changed u (PutName d name e) v s h = h
files_changed u (TakeName d name) v s h = h
files_changed u (PutText f text) v s h = h
files_changed u (PutBytes f at bytes) v s h = h
files_changed u (AddWrite w) v s h = absurd s

files_kept : (u : Volume) (cs : List Change) (v : Volume) → AllByRecursion (IsPlain u) cs → AreOfFiles v → AreOfFiles (after_changes cs v)
files_kept u [] v s h = h
files_kept u (c ∷ cs) v s h = files_kept u cs (changed c v) s.1 (files_changed u c v s.0 h)

-- ---- each fileid that is used was so before, or is that of an object

abbrev pub Ids : Volume → Volume → Type 0
Ids v w = (g : ℕ) → get w.used g ≡ Some tt → (get v.used g ≡ Some tt) ⊎ ((n : Node) × (get w.nodes g ≡ Some n))

ids_changed : (v : Volume) (c : Change) (w : Volume) → IsPlain v c → Ids v w → Ids v (changed c w)
ids_changed v (PutNode f n) w p h = λ g u. elim (cases_eq g f) [
  | inl e ↦ inr (n, subst (λ z. get (insert (put_seen w.nodes f (seen w f)) f n) z ≡ Some n) (sym e) (get_here nat_cmp_total exact_unsigned (put_seen w.nodes f (seen w f)) f n))
  | inr ne ↦ elim (h g (sym (get_else nat_cmp_total exact_unsigned w.used f tt g ne) ∙ u)) [
    | inl a ↦ inl a
    | inr b ↦ inr (b.0, ap (λ (z : Nodes). get z g) (over w.nodes f (seen w f) n) ∙ get_else nat_cmp_total exact_unsigned w.nodes f n g ne ∙ b.1)
  ]
]
ids_changed v (TakeNode f) w p h = λ g u. elim (cases_eq g f) [
  | inl e ↦ inl (ap (get v.used) e ∙ p)
  | inr ne ↦ elim (h g u) [ inl a ↦ inl a | inr b ↦ inr (b.0, gone_else nat_cmp_total exact_unsigned w.nodes f g ne ∙ b.1) ]
]
ids_changed v (PutName d name e) w p h = h
ids_changed v (TakeName d name) w p h = h
ids_changed v (PutText f text) w p h = h
ids_changed v (PutBytes f at bytes) w p h = h
ids_changed v (AddWrite x) w p h = absurd p

ids_kept : (v : Volume) (cs : List Change) (w : Volume) → AllByRecursion (IsPlain v) cs → Ids v w → Ids v (after_changes cs w)
ids_kept v [] w p h = h
ids_kept v (c ∷ cs) w p h = ids_kept v cs (changed c w) p.1 (ids_changed v c w p.0 h)

-- and none is forgotten
stays_used : (c : Change) (v : Volume) (g : ℕ) → get v.used g ≡ Some tt → get (changed c v).used g ≡ Some tt
stays_used (PutNode f n) v g u = elim (cases_eq g f) [
  | inl e ↦ ap (get (insert v.used f tt)) e ∙ get_here nat_cmp_total exact_unsigned v.used f tt
  | inr ne ↦ get_else nat_cmp_total exact_unsigned v.used f tt g ne ∙ u
]
stays_used (TakeNode f) v g u = u
stays_used (PutName d name e) v g u = u
stays_used (TakeName d name) v g u = u
stays_used (PutText f text) v g u = u
stays_used (PutBytes f at bytes) v g u = u
stays_used (AddWrite w) v g u = u

pub all_stay_used : (cs : List Change) (v : Volume) (g : ℕ) → get v.used g ≡ Some tt → get (after_changes cs v).used g ≡ Some tt
all_stay_used [] v g u = u
all_stay_used (c ∷ cs) v g u = all_stay_used cs (changed c v) g (stays_used c v g u)

-- ---- what a list of changes leaves

pub record Fits (v : Volume) (cs : List Change) : Type 0 where
  pub tree : Tree (after_changes cs v)
  pub ids : Ids v (after_changes cs v)

pub fits_same : (v : Volume) → Tree v → Fits v []
fits_same v t = record { tree = t; ids = λ g u. inl u }

abbrev pub IsTreeOf : (ℕ → ℕ) → ℕ → VolumeCells → Type 0
IsTreeOf owed number c = IsTree owed number c.nodes c.names

-- what is left to show of a list of plain changes: the tree of the cells
pub fits_after : (v : Volume) (cs : List Change) → AllByRecursion (IsPlain v) cs → Tree v → IsTreeOf nothing v.number (cells_after cs (cells_of v)) → Fits v cs
fits_after v cs s t h = record {
  tree = record {
    tree = subst (λ n. IsTree nothing n (after_changes cs v).nodes (after_changes cs v).names) (sym (number_kept cs v)) (subst (λ c. IsTreeOf nothing v.number c) (cells_follow v cs) h);
    used = used_kept cs v t.used;
    unstable = files_kept v cs v s t.unstable;
  };
  ids = ids_kept v cs v s (λ g u. inl u);
}
