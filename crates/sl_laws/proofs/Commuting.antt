-- Changes at different places, in either order.
use Rattle.std.proofs.Common.{◌≡◌, ℕ, List, [], ◌∷◌, ◌++◌, Some, None, Bool, true, false, cond, refl, sym, ap, subst, ◌∙◌, inl, inr}
use Rattle.std.specs.Prelude.{◌≢◌, ◌==◌}
use Rattle.std.proofs.lemmas.Bool.{ne_eqb, eqb-true}
use Rattle.std.proofs.lemmas.Cmp.{nat_cmp_total}
use Rattle.std.proofs.lemmas.Map.Lookups.{exact_unsigned}
use Rattle.std.specs.Cmp.{IsTotalOrder}
use Rattle.std.specs.declared.cmp.Ordering.{Ordering}
use Rattle.std.specs.Ordering.{nat_cmp, eq_by_cmp}
use Rattle.std.specs.FinMap.{FinMap, IsAntisymmetric, get, insert, remove, get-insert, same_map}
use Rattle.sl_model.specs.declared.node.Node.{Node}
use Rattle.sl_model.specs.Volume.{Volume, Unstable, PutNode, TakeNode, PutName, TakeName, PutText, PutBytes, AddWrite, changed, seen, put_bytes, put_writes, without_file, cut_at}
use Rattle.sl_model.specs.Tree.{Nodes, Names}
use Rattle.sl_model.proofs.MapSteps.{name_total, exact_names, key_cases, get_else, gone_here, gone_else, insert_swap}
use Rattle.sl_laws.specs.Laws.{ChangesCommute}
use Rattle.sl_laws.proofs.Points.{over}
use Rattle.sl_laws.proofs.Bytes.{Bytes, IsOf, then_of, put_bytes_of, put_writes_of, cut_of, files_commute}

abbrev Texts : Type 0
Texts = FinMap nat_cmp (List ℕ)

module _ {K X : Type 0} {R : K → K → Ordering} (o : IsTotalOrder R) (exact : IsAntisymmetric R) where
  remove_put : (m : FinMap R X) (k j : K) (x : X) → k ≢ j → remove (insert m k x) j ≡ insert (remove m j) k x
  remove_put m k j x ne = same_map o exact (remove (insert m k x) j) (insert (remove m j) k x) (λ q. elim (key_cases o exact q j) [
    | inl h ↦ subst (λ z. get (remove (insert m k x) j) z ≡ get (insert (remove m j) k x) z) (sym h.1)
        (gone_here o exact (insert m k x) j ∙ sym (get_else o exact (remove m j) k x j (λ e. ne (sym e)) ∙ gone_here o exact m j))
    | inr h ↦ gone_else o exact (insert m k x) j q h.1 ∙ get-insert o m k x q ∙ ap (cond (eq_by_cmp R q k) (Some x)) (sym (gone_else o exact m j q h.1)) ∙ sym (get-insert o (remove m j) k x q)
  ])

  remove_swap : (m : FinMap R X) (k j : K) → remove (remove m k) j ≡ remove (remove m j) k
  remove_swap m k j = same_map o exact (remove (remove m k) j) (remove (remove m j) k) (λ q. elim (key_cases o exact q j) [
    | inl h ↦ subst (λ z. get (remove (remove m k) j) z ≡ get (remove (remove m j) k) z) (sym h.1) (gone_here o exact (remove m k) j ∙ sym (still (remove m j) k j (gone_here o exact m j)))
    | inr h ↦ gone_else o exact (remove m k) j q h.1 ∙ beside m k j q h.1
  ])
    where
      still : (m : FinMap R X) (k q : K) → get m q ≡ None → get (remove m k) q ≡ None
      still m k q e = elim (key_cases o exact q k) [
        | inl h ↦ subst (λ z. get (remove m k) z ≡ None) (sym h.1) (gone_here o exact m k)
        | inr h ↦ gone_else o exact m k q h.1 ∙ e
      ]

      beside : (m : FinMap R X) (k j q : K) → q ≢ j → get (remove m k) q ≡ get (remove (remove m j) k) q
      beside m k j q ne = elim (key_cases o exact q k) [
        | inl h ↦ subst (λ z. get (remove m k) z ≡ get (remove (remove m j) k) z) (sym h.1) (gone_here o exact m k ∙ sym (gone_here o exact (remove m j) k))
        | inr h ↦ gone_else o exact m k q h.1 ∙ sym (gone_else o exact (remove m j) k q h.1 ∙ gone_else o exact m j q ne)
      ]

-- ---- the list of unstable writes

without_keeps : (f : ℕ) (w : Unstable) (ws : List Unstable) (b : Bool) → (w.fileid == f) ≡ b → without_file f (w ∷ ws) ≡ cond b (without_file f ws) (w ∷ without_file f ws)
without_keeps f w ws b e = ap (λ t. cond t (without_file f ws) (w ∷ without_file f ws)) e

without_both : (f g : ℕ) (ws : List Unstable) → without_file f (without_file g ws) ≡ without_file g (without_file f ws)
without_both f g [] = refl
without_both f g (w ∷ ws) = at (w.fileid == f) (w.fileid == g) refl refl (without_both f g ws)
  where
    at : (a b : Bool) → (w.fileid == f) ≡ a → (w.fileid == g) ≡ b → without_file f (without_file g ws) ≡ without_file g (without_file f ws)
        → without_file f (cond b (without_file g ws) (w ∷ without_file g ws)) ≡ without_file g (cond a (without_file f ws) (w ∷ without_file f ws))
    at true true p q r = r
    at true false p q r = without_keeps f w (without_file g ws) true p ∙ r
    at false true p q r = r ∙ sym (without_keeps g w (without_file f ws) true q)
    at false false p q r = without_keeps f w (without_file g ws) false p ∙ ap (λ (l : List Unstable). w ∷ l) r ∙ sym (without_keeps g w (without_file f ws) false q)

-- the writes of one file put the same bytes where those of another are gone
writes_beside : (f g : ℕ) → f ≢ g → (ws : List Unstable) (m : Bytes) → put_writes f (without_file g ws) m ≡ put_writes f ws m
writes_beside f g ne [] m = refl
writes_beside f g ne (w ∷ ws) m = at (w.fileid == g) refl (writes_beside f g ne ws)
  where
    at : (b : Bool) → (w.fileid == g) ≡ b → ((m : Bytes) → put_writes f (without_file g ws) m ≡ put_writes f ws m)
        → put_writes f (cond b (without_file g ws) (w ∷ without_file g ws)) m ≡ put_writes f ws (cond (w.fileid == f) (put_bytes f w.offset w.bytes m) m)
    at true e r = r m ∙ ap (λ b. put_writes f ws (cond b (put_bytes f w.offset w.bytes m) m)) (sym (ne_eqb w.fileid f (λ s. ne (sym s ∙ eqb-true w.fileid g e))))
    at false e r = r (cond (w.fileid == f) (put_bytes f w.offset w.bytes m) m)

without_more : (f : ℕ) (ws : List Unstable) (w : Unstable) → f ≢ w.fileid → without_file f (ws ++ w ∷ []) ≡ without_file f ws ++ w ∷ []
without_more f [] w ne = without_keeps f w [] false (ne_eqb w.fileid f (λ s. ne (sym s)))
without_more f (x ∷ ws) w ne = at (x.fileid == f) (without_more f ws w ne)
  where
    at : (b : Bool) → without_file f (ws ++ w ∷ []) ≡ without_file f ws ++ w ∷ [] → cond b (without_file f (ws ++ w ∷ [])) (x ∷ without_file f (ws ++ w ∷ [])) ≡ cond b (without_file f ws) (x ∷ without_file f ws) ++ w ∷ []
    at true r = r
    at false r = ap (λ (l : List Unstable). x ∷ l) r

writes_more : (f : ℕ) (ws : List Unstable) (w : Unstable) (m : Bytes) → f ≢ w.fileid → put_writes f (ws ++ w ∷ []) m ≡ put_writes f ws m
writes_more f [] w m ne = ap (λ b. cond b (put_bytes f w.offset w.bytes m) m) (ne_eqb w.fileid f (λ s. ne (sym s)))
writes_more f (x ∷ ws) w m ne = writes_more f ws w (cond (x.fileid == f) (put_bytes f x.offset x.bytes m) m) ne

-- ---- two changes

same_volume : (v : Volume) (nodes nodes' : Nodes) (texts texts' : Texts) (written written' : Bytes) (unstable unstable' : List Unstable) (used used' : FinMap nat_cmp (Unit {0}))
    → nodes ≡ nodes' → texts ≡ texts' → written ≡ written' → unstable ≡ unstable' → used ≡ used'
    → ◌≡◌ {A = Volume} (record v { nodes = nodes; texts = texts; written = written; unstable = unstable; used = used }) (record v { nodes = nodes'; texts = texts'; written = written'; unstable = unstable'; used = used' })
same_volume v nodes nodes' texts texts' written written' unstable unstable' used used' a b c d e = λ i. record v { nodes = a i; texts = b i; written = c i; unstable = d i; used = e i }

-- the bytes where a node is put
put_size : (f size : ℕ) (ws : List Unstable) → Bytes → Bytes
put_size f size ws m = cut_at f size (put_writes f ws m)

put_size_of : (f size : ℕ) (ws : List Unstable) → IsOf f (put_size f size ws)
unfolding put_size
put_size_of f size ws = then_of f (λ m. put_writes f ws m) (λ m. cut_at f size m) (put_writes_of f ws) (cut_of f size)

nodes_put : (v : Volume) (f : ℕ) (n : Node) (g : ℕ) (m : Node) → f ≢ g → changed (PutNode f n) (changed (PutNode g m) v) ≡ changed (PutNode g m) (changed (PutNode f n) v)
unfolding put_size
nodes_put v f n g m ne =
    let a = changed (PutNode g m) v in
    let b = changed (PutNode f n) v in
    same_volume v _ _ _ _ _ _ _ _ _ _
    (over a.nodes f (seen a f) n ∙ ap (λ (z : Nodes). insert z f n) (over v.nodes g (seen v g) m) ∙ insert_swap nat_cmp_total exact_unsigned v.nodes g f m n (λ s. ne (sym s))
    ∙ sym (over b.nodes g (seen b g) m ∙ ap (λ (z : Nodes). insert z g m) (over v.nodes f (seen v f) n)))
    refl
    (ap (cut_at f n.size) (writes_beside f g ne v.unstable a.written)
    ∙ files_commute f g (put_size f n.size v.unstable) (put_size g m.size v.unstable) ne (put_size_of f n.size v.unstable) (put_size_of g m.size v.unstable) v.written
    ∙ sym (ap (cut_at g m.size) (writes_beside g f (λ s. ne (sym s)) v.unstable b.written)))
    (without_both f g v.unstable)
    (insert_swap nat_cmp_total exact_unsigned v.used g f tt tt (λ s. ne (sym s)))

nodes_taken : (v : Volume) (f g : ℕ) → f ≢ g → changed (TakeNode f) (changed (TakeNode g) v) ≡ changed (TakeNode g) (changed (TakeNode f) v)
nodes_taken v f g ne = same_volume v _ _ _ _ _ _ _ _ _ _
    (remove_swap nat_cmp_total exact_unsigned v.nodes g f)
    (remove_swap nat_cmp_total exact_unsigned v.texts g f)
    (files_commute f g (λ m. cut_at f 0 m) (λ m. cut_at g 0 m) ne (cut_of f 0) (cut_of g 0) v.written)
    (without_both f g v.unstable)
    refl

put_and_taken : (v : Volume) (f : ℕ) (n : Node) (g : ℕ) → f ≢ g → changed (PutNode f n) (changed (TakeNode g) v) ≡ changed (TakeNode g) (changed (PutNode f n) v)
unfolding put_size
put_and_taken v f n g ne =
    let a = changed (TakeNode g) v in
    same_volume v _ _ _ _ _ _ _ _ _ _
    (over a.nodes f (seen a f) n ∙ sym (ap (λ (z : Nodes). remove z g) (over v.nodes f (seen v f) n) ∙ remove_put nat_cmp_total exact_unsigned v.nodes f g n ne))
    refl
    (ap (cut_at f n.size) (writes_beside f g ne v.unstable a.written)
    ∙ files_commute f g (put_size f n.size v.unstable) (λ m. cut_at g 0 m) ne (put_size_of f n.size v.unstable) (cut_of g 0) v.written)
    (without_both f g v.unstable)
    refl

put_and_bytes : (v : Volume) (f : ℕ) (n : Node) (g at : ℕ) (bytes : List ℕ) → f ≢ g → changed (PutNode f n) (changed (PutBytes g at bytes) v) ≡ changed (PutBytes g at bytes) (changed (PutNode f n) v)
unfolding put_size
put_and_bytes v f n g at bytes ne =
    let b = changed (PutNode f n) v in
    ap (λ (z : Bytes). record b { written = z })
    (files_commute f g (put_size f n.size v.unstable) (λ m. put_bytes g at bytes m) ne (put_size_of f n.size v.unstable) (put_bytes_of g at bytes) v.written)

taken_and_bytes : (v : Volume) (f g at : ℕ) (bytes : List ℕ) → f ≢ g → changed (TakeNode f) (changed (PutBytes g at bytes) v) ≡ changed (PutBytes g at bytes) (changed (TakeNode f) v)
taken_and_bytes v f g at bytes ne =
    let b = changed (TakeNode f) v in
    ap (λ (z : Bytes). record b { written = z }) (files_commute f g (λ m. cut_at f 0 m) (λ m. put_bytes g at bytes m) ne (cut_of f 0) (put_bytes_of g at bytes) v.written)

put_and_write : (v : Volume) (f : ℕ) (n : Node) (w : Unstable) → f ≢ w.fileid → changed (PutNode f n) (changed (AddWrite w) v) ≡ changed (AddWrite w) (changed (PutNode f n) v)
put_and_write v f n w ne =
    let a = changed (AddWrite w) v in
    same_volume v _ _ _ _ _ _ _ _ _ _
    (over v.nodes f (seen a f) n ∙ sym (over v.nodes f (seen v f) n))
    refl
    (ap (cut_at f n.size) (writes_more f v.unstable w v.written ne))
    (without_more f v.unstable w ne)
    refl

pub changes_commute : ChangesCommute
changes_commute v (PutNode f1 n1) (PutNode f2 n2) h = nodes_put v f1 n1 f2 n2 h.0.0
changes_commute v (PutNode f1 n1) (TakeNode f2) h = put_and_taken v f1 n1 f2 h.0.0
changes_commute v (PutNode f1 n1) (PutName d2 name2 e2) h = refl
changes_commute v (PutNode f1 n1) (TakeName d2 name2) h = refl
changes_commute v (PutNode f1 n1) (PutText f2 text2) h = refl
changes_commute v (PutNode f1 n1) (PutBytes f2 at2 bytes2) h = put_and_bytes v f1 n1 f2 at2 bytes2 h.0.0
changes_commute v (PutNode f1 n1) (AddWrite w2) h = put_and_write v f1 n1 w2 h.0.0
changes_commute v (TakeNode f1) (PutNode f2 n2) h = sym (put_and_taken v f2 n2 f1 (λ s. h.0.0 (sym s)))
changes_commute v (TakeNode f1) (TakeNode f2) h = nodes_taken v f1 f2 h.0.0
changes_commute v (TakeNode f1) (PutName d2 name2 e2) h = refl
changes_commute v (TakeNode f1) (TakeName d2 name2) h = refl
changes_commute v (TakeNode f1) (PutText f2 text2) h = ap (λ (m : Texts). record v { nodes = remove v.nodes f1; texts = m; written = cut_at f1 0 v.written; unstable = without_file f1 v.unstable }) (remove_put nat_cmp_total exact_unsigned v.texts f2 f1 text2 (λ s. h.1.0.0 (sym s)))
changes_commute v (TakeNode f1) (PutBytes f2 at2 bytes2) h = taken_and_bytes v f1 f2 at2 bytes2 h.0.0
changes_commute v (TakeNode f1) (AddWrite w2) h = ap (λ (ws : List Unstable). record v { nodes = remove v.nodes f1; texts = remove v.texts f1; written = cut_at f1 0 v.written; unstable = ws }) (without_more f1 v.unstable w2 h.0.0)
changes_commute v (PutName d1 name1 e1) (PutNode f2 n2) h = refl
changes_commute v (PutName d1 name1 e1) (TakeNode f2) h = refl
changes_commute v (PutName d1 name1 e1) (PutName d2 name2 e2) h = ap (λ (m : Names). record v { names = m }) (insert_swap name_total exact_names v.names (d2, name2) (d1, name1) e2 e1 (λ s. h.0.0 (sym s)))
changes_commute v (PutName d1 name1 e1) (TakeName d2 name2) h = ap (λ (m : Names). record v { names = m }) (sym (remove_put name_total exact_names v.names (d1, name1) (d2, name2) e1 h.0.0))
changes_commute v (PutName d1 name1 e1) (PutText f2 text2) h = refl
changes_commute v (PutName d1 name1 e1) (PutBytes f2 at2 bytes2) h = refl
changes_commute v (PutName d1 name1 e1) (AddWrite w2) h = refl
changes_commute v (TakeName d1 name1) (PutNode f2 n2) h = refl
changes_commute v (TakeName d1 name1) (TakeNode f2) h = refl
changes_commute v (TakeName d1 name1) (PutName d2 name2 e2) h = ap (λ (m : Names). record v { names = m }) (remove_put name_total exact_names v.names (d2, name2) (d1, name1) e2 (λ s. h.0.0 (sym s)))
changes_commute v (TakeName d1 name1) (TakeName d2 name2) h = ap (λ (m : Names). record v { names = m }) (remove_swap name_total exact_names v.names (d2, name2) (d1, name1))
changes_commute v (TakeName d1 name1) (PutText f2 text2) h = refl
changes_commute v (TakeName d1 name1) (PutBytes f2 at2 bytes2) h = refl
changes_commute v (TakeName d1 name1) (AddWrite w2) h = refl
changes_commute v (PutText f1 text1) (PutNode f2 n2) h = refl
changes_commute v (PutText f1 text1) (TakeNode f2) h = sym (ap (λ (m : Texts). record v { nodes = remove v.nodes f2; texts = m; written = cut_at f2 0 v.written; unstable = without_file f2 v.unstable }) (remove_put nat_cmp_total exact_unsigned v.texts f1 f2 text1 h.0.1.0))
changes_commute v (PutText f1 text1) (PutName d2 name2 e2) h = refl
changes_commute v (PutText f1 text1) (TakeName d2 name2) h = refl
changes_commute v (PutText f1 text1) (PutText f2 text2) h = ap (λ (m : Texts). record v { texts = m }) (insert_swap nat_cmp_total exact_unsigned v.texts f2 f1 text2 text1 (λ s. h.0.0 (sym s)))
changes_commute v (PutText f1 text1) (PutBytes f2 at2 bytes2) h = refl
changes_commute v (PutText f1 text1) (AddWrite w2) h = refl
changes_commute v (PutBytes f1 at1 bytes1) (PutNode f2 n2) h = sym (put_and_bytes v f2 n2 f1 at1 bytes1 (λ s. h.0.0 (sym s)))
changes_commute v (PutBytes f1 at1 bytes1) (TakeNode f2) h = sym (taken_and_bytes v f2 f1 at1 bytes1 (λ s. h.0.0 (sym s)))
changes_commute v (PutBytes f1 at1 bytes1) (PutName d2 name2 e2) h = refl
changes_commute v (PutBytes f1 at1 bytes1) (TakeName d2 name2) h = refl
changes_commute v (PutBytes f1 at1 bytes1) (PutText f2 text2) h = refl
changes_commute v (PutBytes f1 at1 bytes1) (PutBytes f2 at2 bytes2) h = ap (λ (m : Bytes). record v { written = m }) (files_commute f1 f2 (λ m. put_bytes f1 at1 bytes1 m) (λ m. put_bytes f2 at2 bytes2 m) h.0.0 (put_bytes_of f1 at1 bytes1) (put_bytes_of f2 at2 bytes2) v.written)
changes_commute v (PutBytes f1 at1 bytes1) (AddWrite w2) h = refl
changes_commute v (AddWrite w1) (PutNode f2 n2) h = sym (put_and_write v f2 n2 w1 (λ s. h.0.0 (sym s)))
changes_commute v (AddWrite w1) (TakeNode f2) h = sym (ap (λ (ws : List Unstable). record v { nodes = remove v.nodes f2; texts = remove v.texts f2; written = cut_at f2 0 v.written; unstable = ws }) (without_more f2 v.unstable w1 (λ s. h.0.0 (sym s))))
changes_commute v (AddWrite w1) (PutName d2 name2 e2) h = refl
changes_commute v (AddWrite w1) (TakeName d2 name2) h = refl
changes_commute v (AddWrite w1) (PutText f2 text2) h = refl
changes_commute v (AddWrite w1) (PutBytes f2 at2 bytes2) h = refl
changes_commute v (AddWrite w1) (AddWrite w2) h = absurd h.1.0.1.0
