-- What changes a map of nodes at one fileid alone.
use Rattle.std.proofs.Common.{◌≡◌, ℕ, Option, Some, None, Bool, true, false, cond, refl, sym, subst, ◌∙◌, inl, inr}
use Rattle.std.specs.Prelude.{◌≢◌}
use Rattle.std.proofs.lemmas.Bool.{cases_eq}
use Rattle.std.proofs.lemmas.Cmp.{nat_cmp_total}
use Rattle.std.proofs.lemmas.Map.Lookups.{exact_unsigned}
use Rattle.std.specs.FinMap.{get, insert, remove, same_map}
use Rattle.sl_model.specs.declared.node.Node.{Node}
use Rattle.sl_model.specs.Volume.{put_seen}
use Rattle.sl_model.specs.Tree.{Nodes}
use Rattle.sl_model.proofs.MapSteps.{get_here, get_else, gone_here, gone_else, insert_over}

-- a node that is put over another
pub over : (nodes : Nodes) (f : ℕ) (o : Option Node) (n : Node) → insert (put_seen nodes f o) f n ≡ insert nodes f n
over nodes f None n = refl
over nodes f (Some m) n = insert_over nat_cmp_total exact_unsigned nodes f m n

pub record IsAt (k : ℕ) (E : Nodes → Nodes) : Type 0 where
  pub beside : (m : Nodes) (q : ℕ) → q ≢ k → get (E m) q ≡ get m q
  pub within : (m n : Nodes) → get m k ≡ get n k → get (E m) k ≡ get (E n) k

same_at : (k : ℕ) → IsAt k (λ m. m)
same_at k = record { beside = λ m q ne. refl; within = λ m n h. h }

pub insert_at : (k : ℕ) (x : Node) → IsAt k (λ m. insert m k x)
insert_at k x = record {
  beside = λ m q ne. get_else nat_cmp_total exact_unsigned m k x q ne;
  within = λ m n h. get_here nat_cmp_total exact_unsigned m k x ∙ sym (get_here nat_cmp_total exact_unsigned n k x);
}

remove_at : (k : ℕ) → IsAt k (λ m. remove m k)
remove_at k = record {
  beside = λ m q ne. gone_else nat_cmp_total exact_unsigned m k q ne;
  within = λ m n h. gone_here nat_cmp_total exact_unsigned m k ∙ sym (gone_here nat_cmp_total exact_unsigned n k);
}

-- a node is put, unless it is to stay
abbrev pub put_unless : Bool → ℕ → Node → Nodes → Nodes
put_unless stays k x m = cond stays m (insert m k x)

pub unless_at : (b : Bool) (k : ℕ) (x : Node) → IsAt k (put_unless b k x)
unless_at true k x = same_at k
unless_at false k x = insert_at k x

-- a node goes, or is put
abbrev pub take_or_put : Bool → ℕ → Node → Nodes → Nodes
take_or_put goes k x m = cond goes (remove m k) (insert m k x)

pub take_or_at : (b : Bool) (k : ℕ) (x : Node) → IsAt k (take_or_put b k x)
take_or_at true k x = remove_at k
take_or_at false k x = insert_at k x

pub points_commute : (k j : ℕ) (E F : Nodes → Nodes) → k ≢ j → IsAt k E → IsAt j F → (m : Nodes) → E (F m) ≡ F (E m)
points_commute k j E F ne e f m = same_map nat_cmp_total exact_unsigned (E (F m)) (F (E m)) (λ q. elim (cases_eq q k) [
  | inl h ↦ subst (λ z. get (E (F m)) z ≡ get (F (E m)) z) (sym h) (e.within (F m) m (f.beside m k ne) ∙ sym (f.beside (E m) k ne))
  | inr h ↦ e.beside (F m) q h ∙ elim (cases_eq q j) [
    | inl g ↦ subst (λ z. get (F m) z ≡ get (F (E m)) z) (sym g) (f.within m (E m) (sym (e.beside m j (λ s. ne (sym s)))))
    | inr g ↦ f.beside m q g ∙ sym (f.beside (E m) q g ∙ e.beside m q h)
  ]
])
