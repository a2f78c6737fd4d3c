-- What unstable writes leave of a node.
use Rattle.std.proofs.Common.{◌≡◌, ◌+◌, List, [], ◌∷◌, Some, Bool, true, false, cond, length, refl, sym, ap, ◌∙◌, arith}
use Rattle.std.specs.Prelude.{◌==◌}
use Rattle.std.specs.List.{AllByRecursion}
use Rattle.std.proofs.lemmas.Bool.{eqb-true}
use Rattle.std.specs.FinMap.{get}
use Rattle.sl_types.specs.declared.kind.Kind.{Kind}
use Rattle.sl_types.specs.declared.kind.Kind.TheVariants as kind
use Rattle.sl_model.specs.declared.node.Node.{Node}
use Rattle.sl_model.specs.Volume.{Unstable, is_dir, is_reg, written_to, after_write, after_writes}
use Rattle.sl_model.specs.Tree.{Nodes, IsOfFile}
use Rattle.sl_laws.proofs.Steps.{same_node, Alike, alike_self}

pub record Kept (x y : Node) : Type 0 where
  pub alike : Alike x y
  pub nlink : y.nlink ≡ x.nlink
  pub entries : y.entries ≡ x.entries

either : (b : Bool) (x y z : Node) → Kept x y → Kept x z → Kept x (cond b y z)
either true x y z p q = p
either false x y z p q = q

then_kept : (x y z : Node) → Kept x y → Kept y z → Kept x z
then_kept x y z p q =
    let a = p.alike.made in
    let b = q.alike.made in
    record {
      alike = record { fileid = q.alike.fileid ∙ p.alike.fileid; fsid = q.alike.fsid ∙ p.alike.fsid; kind = q.alike.kind ∙ p.alike.kind; parent = q.alike.parent ∙ p.alike.parent; made = omega arith };
      nlink = q.nlink ∙ p.nlink;
      entries = q.entries ∙ p.entries;
    }

pub kept_self : (x : Node) → Kept x x
kept_self x = record { alike = alike_self x; nlink = refl; entries = refl }

one_write : (w : Unstable) (x : Node) → Kept x (written_to (w.offset + length w.bytes) w.moment x)
one_write w x = record { alike = record { fileid = refl; fsid = refl; kind = refl; parent = refl; made = omega arith }; nlink = refl; entries = refl }

pub writes_keep : (ws : List Unstable) (x : Node) → Kept x (after_writes ws x)
writes_keep [] x = kept_self x
writes_keep (w ∷ ws) x = then_kept x (after_write w x) (after_writes ws (after_write w x))
    (either (w.fileid == x.fileid) x (written_to (w.offset + length w.bytes) w.moment x) x (one_write w x) (kept_self x)) (writes_keep ws (after_write w x))

pub reg_no_dir : (k : Kind) → is_reg k ≡ true → is_dir k ≡ false
reg_no_dir kind.Reg e = refl
reg_no_dir kind.Dir e = absurd cc
reg_no_dir kind.Blk e = refl
reg_no_dir kind.Chr e = refl
reg_no_dir kind.Lnk e = refl
reg_no_dir kind.Sock e = refl
reg_no_dir kind.Fifo e = refl

-- no unstable write is of a directory
pub directory_seen : (nodes : Nodes) (x : Node) → get nodes x.fileid ≡ Some x → is_dir x.kind ≡ true → (ws : List Unstable) → AllByRecursion (IsOfFile nodes) ws → after_writes ws x ≡ x
directory_seen nodes x at sort [] h = refl
directory_seen nodes x at sort (w ∷ ws) h = one (w.fileid == x.fileid) refl ∙ directory_seen nodes x at sort ws h.1
  where
    one : (b : Bool) → (w.fileid == x.fileid) ≡ b → after_writes ws (cond (w.fileid == x.fileid) (written_to (w.offset + length w.bytes) w.moment x) x) ≡ after_writes ws x
    one false e = ap (λ b. after_writes ws (cond b (written_to (w.offset + length w.bytes) w.moment x) x)) e
    one true e =
        let s : h.0.0 ≡ x = same_node h.0.0 x (sym h.0.1 ∙ ap (get nodes) (eqb-true w.fileid x.fileid e) ∙ at) in
        let r = reg_no_dir h.0.0.kind h.0.2 in
        let k = ap (λ (z : Node). is_dir z.kind) s in
        absurd cc

-- a node that stands where x did: it may have other bytes, times and owners, but not another place in the tree
pub record Like (x y : Node) : Type 0 where
  pub kept : Kept x y
  pub size : is_dir x.kind ≡ true → y.size ≡ x.size

pub then_like : (x y z : Node) → Like x y → Like y z → Like x z
then_like x y z p q = record {
  kept = then_kept x y z p.kept q.kept;
  size = λ s. q.size (ap is_dir p.kept.alike.kind ∙ s) ∙ p.size s;
}

pub view_like : (nodes : Nodes) (x : Node) (ws : List Unstable) → get nodes x.fileid ≡ Some x → AllByRecursion (IsOfFile nodes) ws → Like x (after_writes ws x)
view_like nodes x ws at h = record { kept = writes_keep ws x; size = λ s. ap (λ (z : Node). z.size) (directory_seen nodes x at s ws h) }
