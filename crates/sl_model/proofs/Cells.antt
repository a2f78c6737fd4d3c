-- The cells of a volume.
use Rattle.std.proofs.Common.{◌≡◌, ℕ, [], ◌∷◌, Option, Some, None, Result, Ok, Err, refl, sym, ap, subst, ◌∙◌, arith}
use Rattle.std.proofs.lemmas.Cmp.{nat_cmp_total}
use Rattle.std.proofs.lemmas.Map.Lookups.{exact_unsigned}
use Rattle.std.specs.FinMap.{insert}
use Rattle.std.specs.FinMap as map
use Rattle.sl_types.specs.declared.kind.Status.{Status}
use Rattle.sl_types.specs.declared.reply.Reply.{Reply}
use Rattle.sl_model.specs.declared.node.Node.{Node}
use Rattle.sl_model.specs.Plan.{run}
use Rattle.sl_model.specs.Volume.{Volume, Change, PutNode, TakeNode, PutName, TakeName, PutText, PutBytes, AddWrite, changed, seen, put_seen, sight}
use Rattle.sl_model.specs.Looking.{Outcome}
use Rattle.sl_model.specs.Procedures.{plan, fault}
use Rattle.sl_model.specs.Perform.{ends, perform}
use Rattle.sl_model.specs.Gathered.{wants_node, known, cells_of, changed_cells, cells_after, effect_from, VolumeCells}
use Rattle.sl_model.specs.Tree.{Nodes}
use Rattle.sl_model.specs.Laws.{IsRight, PlansSuffice, LookingTells, CellsSuffice, ViewsFit, ViewsSuffice, CleanIsSeen, CellsFollow, RestartKeepsTree}
use Rattle.sl_model.proofs.MapSteps.{insert_over}
use Rattle.sl_model.proofs.Paths.{path_bound}
use Rattle.sl_model.proofs.Alike.{answers_alike, seen_right}
use Rattle.sl_model.proofs.Alike as alike
use Rattle.sl_model.proofs.Blind.{calls_are_blind}

-- a node that is put over another
over : (nodes : Nodes) (f : ℕ) (o : Option Node) (n : Node) → insert (put_seen nodes f o) f n ≡ insert nodes f n
over nodes f None n = refl
over nodes f (Some m) n = insert_over nat_cmp_total exact_unsigned nodes f m n

cells_changed : (c : Change) (v : Volume) → changed_cells c (cells_of v) ≡ cells_of (changed c v)
cells_changed (PutNode f n) v = let P : Nodes → VolumeCells = λ m. record { nodes = m; names = v.names; texts = v.texts } in ap P (sym (over v.nodes f (seen v f) n))
cells_changed (TakeNode f) v = refl
cells_changed (PutName d name e) v = refl
cells_changed (TakeName d name) v = refl
cells_changed (PutText f text) v = refl
cells_changed (PutBytes f at bytes) v = refl
cells_changed (AddWrite w) v = refl

pub cells_follow : CellsFollow
cells_follow v [] = refl
cells_follow v (c ∷ cs) = ap (cells_after cs) (cells_changed c v) ∙ cells_follow (changed c v) cs

right_from : (v : Volume) (fault : Status → Reply) (r : Result Outcome Status) → IsRight v (effect_from fault r) (ends v fault r)
right_from v fault (Ok o) = record { reply = refl; volume = refl; cells = cells_follow v o.changes }
right_from v fault (Err s) = record { reply = refl; volume = refl; cells = refl }

pub plans_suffice : PlansSuffice
plans_suffice v g fault p t blind fits none =
    let e = answers_alike g v (λ f. let a = t.tree.paths f in (a.0, (let b = path_bound a.0 v.nodes f a.1 in omega arith), a.1)) p blind fits none in
    subst (λ r. IsRight v (effect_from fault r) (ends v fault (run (sight v) p))) (sym e) (right_from v fault (run (sight v) p))

same_ok : (x y : Option Node) → ◌≡◌ {A = Result (Option Node) Status} (Ok x) (Ok y) → x ≡ y
same_ok x y e = cc

pub looking_tells : LookingTells
unfolding run
looking_tells v g f e ne = (
  ap (λ x. wants_node f (λ o. []) x) e,
  λ same. ne (same_ok (seen v f) (map.get v.nodes f) (ap (λ (x : Option (Option Node)). Ok (known x)) (sym e) ∙ same)),
)

pub cells_suffice : CellsSuffice
unfolding perform
cells_suffice v g c cred now choice t fits none = plans_suffice v g (fault c) (plan c cred now choice) t (calls_are_blind c cred now choice) fits none

pub views_fit : ViewsFit
views_fit v g p t all = alike.views_fit v g t all p

pub views_suffice : ViewsSuffice
views_suffice v g c cred now choice t all none = cells_suffice v g c cred now choice t (alike.views_fit v g t all (plan c cred now choice)) none

pub clean_is_seen : CleanIsSeen
clean_is_seen v f t e = seen_right v.unstable f (map.get v.nodes f) (λ n h. (t.tree.own f n h).fileid) e

pub restart_keeps_tree : RestartKeepsTree
restart_keeps_tree v verifier t = record { tree = t.tree; used = t.used; unstable = tt }
