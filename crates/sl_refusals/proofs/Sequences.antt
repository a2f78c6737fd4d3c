-- What is left of a file that is made and removed, and made and removed again.
use Rattle.std.proofs.Common.{◌≡◌, ◌+◌, ◌-◌, ℕ, refl, ap, ◌∙◌, Some, None, false}
use Rattle.std.specs.Cmp.{nat_cmp_total}
use Rattle.std.specs.Ordering.{nat_cmp, eq_by_cmp}
use Rattle.std.specs.FinMap.{get}
use Rattle.sl_types.specs.declared.kind.Kind.TheVariants as kind
use Rattle.sl_types.specs.declared.reply.Reply.{Reply}
use Rattle.sl_types.specs.declared.call.Call.{Call}
use Rattle.sl_rpc.specs.Heads.{nobody}
use Rattle.sl_model.specs.declared.node.Node.{Node}
use Rattle.sl_model.specs.Volume.{Volume, PutNode, PutName, seen_as, restart, changed, after_changes}
use Rattle.sl_model.specs.Perform.{perform}
use Rattle.sl_examples.specs.Histories.{start, fence, epoch}
use Rattle.sl_refusals.specs.Packets.{create, remove, name}
use Rattle.sl_refusals.specs.Sequences.{new}
use Rattle.sl_refusals.proofs.Lookups.{put_here, taken_here, taken_past, names_total, node_put, node_past}
use Rattle.sl_refusals.proofs.Performs.{made, creates, removes, root_with, the_outcome}
use Rattle.sl_refusals.proofs.Performs as performs
use Rattle.sl_refusals.proofs.Effects.{root_is_there, no_name_is_there}

-- ---- what a making and a removal leave

abbrev after_making : Volume → ℕ → ℕ → ℕ → ℕ → Volume
after_making v size entries so_far f = after_changes (made epoch size entries so_far f).changes v

abbrev after_removal : Volume → ℕ → ℕ → ℕ → ℕ → Volume
after_removal v size entries so_far f = after_changes (performs.removed size entries so_far (new f)).changes v

module _ (v : Volume) (size entries so_far f : ℕ) (apart : eq_by_cmp nat_cmp 1 f ≡ false) where
  root_made : get (after_making v size entries so_far f).nodes 1 ≡ Some (root_with (size + 32) (entries + 1) (so_far + 1))
  root_made =
      node_past (changed (PutName 1 name (record { fileid = f; kind = kind.Reg; cookie = so_far + 3 })) (changed (PutNode 1 larger) v)) f (new f) 1 _ apart (node_put v 1 larger refl)
    where
      larger : Node
      larger = root_with (size + 32) (entries + 1) (so_far + 1)

  root_left : get (after_removal v size entries so_far f).nodes 1 ≡ Some (root_with (size - 32) (entries - 1) so_far)
  root_left = taken_past nat_cmp_total _ f 1 _ apart (put_here nat_cmp_total _ 1 _ refl)

module _ (v : Volume) (size entries so_far f : ℕ) where
  name_made : get (after_making v size entries so_far f).names (1, name) ≡ Some (record { fileid = f; kind = kind.Reg; cookie = so_far + 3 })
  name_made = put_here names_total _ (1, name) _ refl

  name_left : get (after_removal v size entries so_far f).names (1, name) ≡ None
  name_left = taken_here names_total _ (1, name) refl

-- ---- the volumes, one after another

abbrev pub v0 : Volume
v0 = restart fence start

abbrev pub v1 : Volume
v1 = after_making v0 0 0 0 2

abbrev pub v2 : Volume
v2 = after_removal v1 32 1 1 2

abbrev v3 : Volume
v3 = after_making v2 0 0 1 3

abbrev does : Volume → Call → ℕ → Volume × Reply
does v c f = perform v c nobody epoch (record { fileid = f; kept = false })

pub first_made : does v0 create 2 ≡ the_outcome v0 (made epoch 0 0 0 2)
first_made = creates v0 epoch 0 0 0 _ root_is_there no_name_is_there refl

pub first_removed : does (does v0 create 2).0 remove 0 ≡ the_outcome v1 (performs.removed 32 1 1 (new 2))
first_removed =
    ap (λ p. does p.0 remove 0) first_made
    ∙ removes v1 32 1 1 2 3 (new 2) _ (root_made v0 0 0 0 2 refl) (name_made v0 0 0 0 2) (ap (seen_as v1.unstable) (put_here nat_cmp_total _ 2 _ refl))

pub second_made : does (does (does v0 create 2).0 remove 0).0 create 3 ≡ the_outcome v2 (made epoch 0 0 1 3)
second_made =
    ap (λ p. does p.0 create 3) first_removed
    ∙ creates v2 epoch 0 0 1 _ (root_left v1 32 1 1 2 refl) (name_left v1 32 1 1 2) refl

pub second_removed : does (does (does (does v0 create 2).0 remove 0).0 create 3).0 remove 0 ≡ the_outcome v3 (performs.removed 32 1 2 (new 3))
second_removed =
    ap (λ p. does p.0 remove 0) second_made
    ∙ removes v3 32 1 2 3 4 (new 3) _ (root_made v2 0 0 1 3 refl) (name_made v2 0 0 1 3) (ap (seen_as v3.unstable) (put_here nat_cmp_total _ 3 _ refl))
