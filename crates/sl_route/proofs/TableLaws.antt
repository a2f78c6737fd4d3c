-- The lists of a table, and its bytes in parts.
use Rattle.std.proofs.Common.{◌≡◌, ℕ, Bool, true, false, List, ◌++◌, length, take, drop, sym, ◌∙◌, ap, subst, arith}
use Rattle.std.specs.Prelude.{IsTrue}
use Rattle.std.proofs.lemmas.List.{length-append, take_at, drop_at}
use Rattle.sl_route.specs.declared.class.Class.{Class}
use Rattle.sl_route.specs.declared.class.Class.TheVariants as class
use Rattle.sl_route.specs.Places.{Places, of_class}
use Rattle.sl_route.specs.Tables.{AreServers, IsTable, table_text}

-- each list of a table has its servers
pub of_table : (p : Places) → IsTable p → (c : Class) → AreServers c (of_class p c)
of_table p is c site lt = is.servers c site (omega (arith, is.sites c))

-- and so a test of that doesn't fail
pub passes : (p : Places) → IsTable p → (c : Class) (passed : Bool) (actors : List ℕ) → (AreServers c actors → IsTrue passed) → passed ≡ false → actors ≡ of_class p c → ⊥
passes p is c passed actors test failed same = let told : passed ≡ true = test (subst (λ xs. AreServers c xs) (sym same) (of_table p is c)) in cc

-- the bytes of a table in its parts
module _ (bytes : List ℕ) (p : Places) (is : IsTable p) (e : bytes ≡ table_text p) where
  pub bytes_length : length bytes ≡ 144
  bytes_length = omega (arith, simp length-append at (ap length e), is.sites class.Dir, is.sites class.Small, is.sites class.Node)

  pub dirs_part : take 64 bytes ≡ p.dirs
  dirs_part = ap (take 64) e ∙ take_at p.dirs (p.small ++ p.nodes) 64 (is.sites class.Dir)

  pub behind_dirs : drop 64 bytes ≡ p.small ++ p.nodes
  behind_dirs = ap (drop 64) e ∙ drop_at p.dirs (p.small ++ p.nodes) 64 (is.sites class.Dir)

  pub small_part : take 16 (drop 64 bytes) ≡ p.small
  small_part = ap (take 16) behind_dirs ∙ take_at p.small p.nodes 16 (is.sites class.Small)

  pub nodes_part : drop 16 (drop 64 bytes) ≡ p.nodes
  nodes_part = ap (drop 16) behind_dirs ∙ drop_at p.small p.nodes 16 (is.sites class.Small)
