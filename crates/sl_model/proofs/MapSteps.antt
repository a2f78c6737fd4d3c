-- What a map has after a change, and how many of its entries pass a test.
use Rattle.std.proofs.Common.{◌≡◌, ℕ, ◌+◌, ◌≤◌, List, [], ◌∷◌, Option, Some, None, Bool, true, false, cond, refl, sym, ap, subst, ◌∙◌, arith, inl, inr}
use Rattle.std.specs.Prelude.{◌⊎◌, ◌≢◌, ◌&&◌, T}
use Rattle.std.specs.declared.cmp.Ordering.{Ordering}
use Rattle.std.specs.declared.cmp.Ordering.TheVariants.{Less, Equal, Greater}
use Rattle.std.specs.Ordering.{nat_cmp, is_eq, is_lt, eq_by_cmp}
use Rattle.std.specs.Cmp.{IsTotalOrder}
use Rattle.std.specs.Cmp.Lexicographic.{slice_cmp}
use Rattle.std.proofs.lemmas.Cmp.{eq_by_cmp_equiv, nat_cmp_total, nat_list_cmp_total, then_total, on_total}
use Rattle.std.proofs.lemmas.Map.Lookups.{exact_unsigned, exact_bytes, exact_pairs}
use Rattle.std.specs.FinMap.{FinMap, IsAntisymmetric, entries, entries_sorted, get, insert, remove, get-insert, get-remove, get-entries, entries-insert, same_map, find, put}
use Rattle.std.specs.FinMap.Entries.{by_order, below_all, is_sorted}
use Rattle.sl_model.specs.Volume.{name_cmp}
use Rattle.sl_model.specs.declared.node.Entry.{Entry}
use Rattle.sl_model.specs.Tree.{count_of, tally}

pub name_total : IsTotalOrder name_cmp
name_total = then_total (on_total (λ (k : ℕ × List ℕ). k.0) nat_cmp_total) (on_total (λ (k : ℕ × List ℕ). k.1) nat_list_cmp_total)

pub exact_names : IsAntisymmetric name_cmp
exact_names = exact_pairs nat_cmp (slice_cmp nat_cmp) exact_unsigned exact_bytes

is_equal : (r : Ordering) → is_eq r ≡ true → r ≡ Equal
is_equal Less e = absurd cc
is_equal Equal e = refl
is_equal Greater e = absurd cc

with_test : {A : Type 0} (b : Bool) (x y : A) → b ≡ true → cond b x y ≡ x
with_test true x y e = refl
with_test false x y e = absurd cc

without_test : {A : Type 0} (b : Bool) (x y : A) → b ≡ false → cond b x y ≡ y
without_test true x y e = absurd cc
without_test false x y e = refl

module _ {K : Type 0} {R : K → K → Ordering} (o : IsTotalOrder R) (exact : IsAntisymmetric R) where
  self : (k : K) → eq_by_cmp R k k ≡ true
  self k = (eq_by_cmp_equiv o).refl k

  cases_of : (q k : K) (b : Bool) → eq_by_cmp R q k ≡ b → ((eq_by_cmp R q k ≡ true) × (q ≡ k)) ⊎ ((eq_by_cmp R q k ≡ false) × (q ≢ k))
  cases_of q k true e = inl (e, exact q k (is_equal (R q k) e))
  cases_of q k false e = inr (e, λ s. let h : eq_by_cmp R q k ≡ true = subst (λ z. eq_by_cmp R q z ≡ true) s (self q) in absurd cc)

  pub key_cases : (q k : K) → ((eq_by_cmp R q k ≡ true) × (q ≡ k)) ⊎ ((eq_by_cmp R q k ≡ false) × (q ≢ k))
  key_cases q k = cases_of q k (eq_by_cmp R q k) refl

  differs : (q k : K) → q ≢ k → eq_by_cmp R q k ≡ false
  differs q k ne = elim (key_cases q k) [ inl h ↦ absurd (ne h.1) | inr h ↦ h.0 ]

one_more : (b : Bool) (a c : ℕ) → cond b 1 0 + (a + c) ≡ (cond b 1 0 + a) + c
one_more b a c = omega arith

one_first : (b : Bool) (a : ℕ) → cond b 1 0 + a ≡ a + cond b 1 0
one_first b a = omega arith

module _ {K X : Type 0} {R : K → K → Ordering} (o : IsTotalOrder R) (exact : IsAntisymmetric R) where
  pub get_here : (m : FinMap R X) (k : K) (x : X) → get (insert m k x) k ≡ Some x
  get_here m k x = get-insert o m k x k ∙ with_test _ _ _ (self o exact k)

  pub get_else : (m : FinMap R X) (k : K) (x : X) (q : K) → q ≢ k → get (insert m k x) q ≡ get m q
  get_else m k x q ne = get-insert o m k x q ∙ without_test _ _ _ (differs o exact q k ne)

  pub gone_here : (m : FinMap R X) (k : K) → get (remove m k) k ≡ None
  gone_here m k = get-remove o m k k ∙ with_test _ _ _ (self o exact k)

  pub gone_else : (m : FinMap R X) (k q : K) → q ≢ k → get (remove m k) q ≡ get m q
  gone_else m k q ne = get-remove o m k q ∙ without_test _ _ _ (differs o exact q k ne)

  -- what an entry after a change was before it
  pub put_cases : (m : FinMap R X) (k : K) (x : X) (q : K) (y : X) → get (insert m k x) q ≡ Some y → ((q ≡ k) × (x ≡ y)) ⊎ ((q ≢ k) × (get m q ≡ Some y))
  put_cases m k x q y e = elim (key_cases o exact q k) [
    | inl h ↦ inl (h.1, same x y (sym (get_here m k x) ∙ subst (λ z. get (insert m k x) z ≡ Some y) h.1 e))
    | inr h ↦ inr (h.1, sym (get_else m k x q h.1) ∙ e)
  ]
    where
      same : (x y : X) → ◌≡◌ {A = Option X} (Some x) (Some y) → x ≡ y
      same x y e = cc

  pub take_cases : (m : FinMap R X) (k q : K) (y : X) → get (remove m k) q ≡ Some y → (q ≢ k) × (get m q ≡ Some y)
  take_cases m k q y e = elim (key_cases o exact q k) [
    | inl h ↦ let n = gone_here m k in let e' = subst (λ z. get (remove m k) z ≡ Some y) h.1 e in absurd cc
    | inr h ↦ (h.1, sym (gone_else m k q h.1) ∙ e)
  ]

  pub insert_over : (m : FinMap R X) (k : K) (x y : X) → insert (insert m k x) k y ≡ insert m k y
  insert_over m k x y = same_map o exact _ _ (λ q. elim (key_cases o exact q k) [
    | inl h ↦ get-insert o (insert m k x) k y q ∙ with_test _ _ _ h.0 ∙ sym (get-insert o m k y q ∙ with_test _ _ _ h.0)
    | inr h ↦ get_else (insert m k x) k y q h.1 ∙ get_else m k x q h.1 ∙ sym (get_else m k y q h.1)
  ])

  pub insert_swap : (m : FinMap R X) (k j : K) (x y : X) → k ≢ j → insert (insert m k x) j y ≡ insert (insert m j y) k x
  insert_swap m k j x y ne = same_map o exact _ _ (λ q. elim (key_cases o exact q k) [
    | inl h ↦ get_else (insert m k x) j y q (λ e. ne (sym h.1 ∙ e)) ∙ get-insert o m k x q ∙ with_test _ _ _ h.0 ∙ sym (get-insert o (insert m j y) k x q ∙ with_test _ _ _ h.0)
    | inr h ↦ get-insert o (insert m k x) j y q ∙ ap (cond (eq_by_cmp R q j) (Some y)) (get_else m k x q h.1) ∙ sym (get-insert o m j y q) ∙ sym (get_else (insert m j y) k x q h.1)
  ])

  pub insert_back : (m : FinMap R X) (k : K) (x : X) → get m k ≡ Some x → insert (remove m k) k x ≡ m
  insert_back m k x e = same_map o exact _ _ (λ q. elim (key_cases o exact q k) [
    | inl h ↦ get-insert o (remove m k) k x q ∙ with_test _ _ _ h.0 ∙ sym e ∙ ap (get m) (sym h.1)
    | inr h ↦ get_else (remove m k) k x q h.1 ∙ gone_else m k q h.1
  ])

  -- ---- counting

  count_put : (P : K × X → Bool) (k : K) (x : X) (es : List (K × X)) → find R k es ≡ None → tally P (put R k x es) ≡ tally P es + cond (P (k, x)) 1 0
  count_put P k x [] e = omega arith
  count_put P k x (f ∷ es) e =
      elim (R k f.0) as (λ r. cond (is_eq r) (Some f.1) (find R k es) ≡ None → tally P (by_order r ((k, x) ∷ f ∷ es) ((f.0, x) ∷ es) (f ∷ put R k x es)) ≡ tally P (f ∷ es) + cond (P (k, x)) 1 0) [
        | Less ↦ λ _. one_first (P (k, x)) (tally P (f ∷ es))
        | Equal ↦ λ h. absurd cc
        | Greater ↦ λ h. ap (λ n. cond (P f) 1 0 + n) (count_put P k x es h) ∙ one_more (P f) (tally P es) (cond (P (k, x)) 1 0)
      ] e

less_apart : (r : Ordering) → T (is_lt r) → is_eq r ≡ false
less_apart Less h = refl
less_apart Equal h = absurd h
less_apart Greater h = absurd h

left_of : (a b : Bool) → T (a && b) → T a
left_of true b h = tt
left_of false b h = absurd h

right_of : (a b : Bool) → T (a && b) → T b
right_of true b h = h
right_of false b h = absurd h

module _ {K X : Type 0} {R : K → K → Ordering} (o : IsTotalOrder R) where
  missed : (x : K) (es : List (K × X)) → T (below_all R x es) → find R x es ≡ None
  missed x [] h = refl
  missed x (e ∷ es) h =
      without_test (eq_by_cmp R x e.0) (Some e.1) (find R x es) (less_apart (R x e.0) (left_of (is_lt (R x e.0)) (below_all R x es) h))
      ∙ missed x es (right_of (is_lt (R x e.0)) (below_all R x es) h)

  -- where no entry that is found passes the test, none does
  none_pass : (P : K × X → Bool) (es : List (K × X)) → T (is_sorted R es) → ((k : K) (x : X) → find R k es ≡ Some x → P (k, x) ≡ false) → tally P es ≡ 0
  none_pass P [] s h = refl
  none_pass P (e ∷ es) s h =
      let here : P e ≡ false = h e.0 e.1 (with_test (eq_by_cmp R e.0 e.0) (Some e.1) (find R e.0 es) ((eq_by_cmp_equiv o).refl e.0)) in
      let rest : tally P es ≡ 0 = none_pass P es (right_of (below_all R e.0 es) (is_sorted R es) s) (λ k x f.
      h k x (without_test (eq_by_cmp R k e.0) (Some e.1) (find R k es) (apart e es (left_of (below_all R e.0 es) (is_sorted R es) s) k x f (eq_by_cmp R k e.0) refl) ∙ f)) in
      let l : ◌≡◌ {A = ℕ} (cond (P e) 1 0) 0 = without_test {A = ℕ} (P e) 1 0 here in
      omega arith
    where
      apart : (e : K × X) (es : List (K × X)) → T (below_all R e.0 es) → (k : K) (x : X) → find R k es ≡ Some x → (b : Bool) → eq_by_cmp R k e.0 ≡ b → eq_by_cmp R k e.0 ≡ false
      apart e es l k x f false t = t
      apart e es l k x f true t = let g : find R e.0 es ≡ find R k es = tied o e es k t in let n = missed e.0 es l in absurd cc
        where
          tied : IsTotalOrder R → (e : K × X) (es : List (K × X)) (k : K) → eq_by_cmp R k e.0 ≡ true → find R e.0 es ≡ find R k es
          tied o e [] k t = refl
          tied o e (f ∷ fs) k t = λ i. cond (is_eq (sym (o.congr k e.0 f.0 (is_equal (R k e.0) t)) i)) (Some f.1) (tied o e fs k t i)

module _ (p : ℕ × List ℕ → Entry → Bool) where
  pub count_none : (m : FinMap name_cmp Entry) → ((k : ℕ × List ℕ) (x : Entry) → get m k ≡ Some x → p k x ≡ false) → count_of p m ≡ 0
  unfolding count_of
  count_none m h = none_pass name_total (λ (e : (ℕ × List ℕ) × Entry). p e.0 e.1) (entries m) (entries_sorted m) (λ k x f. h k x (get-entries m k ∙ f))

  pub count_new : (m : FinMap name_cmp Entry) (k : ℕ × List ℕ) (x : Entry) → get m k ≡ None → count_of p (insert m k x) ≡ count_of p m + cond (p k x) 1 0
  unfolding count_of
  count_new m k x none =
      ap (λ es. tally (λ (e : (ℕ × List ℕ) × Entry). p e.0 e.1) es) (entries-insert name_total m k x)
      ∙ count_put name_total exact_names (λ (e : (ℕ × List ℕ) × Entry). p e.0 e.1) k x (entries m) (sym (get-entries m k) ∙ none)

  pub count_gone : (m : FinMap name_cmp Entry) (k : ℕ × List ℕ) (x : Entry) → get m k ≡ Some x → count_of p m ≡ count_of p (remove m k) + cond (p k x) 1 0
  count_gone m k x e = ap (count_of p) (sym (insert_back name_total exact_names m k x e)) ∙ count_new (remove m k) k x (gone_here name_total exact_names m k)

  pub count_has : (m : FinMap name_cmp Entry) (k : ℕ × List ℕ) (x : Entry) → get m k ≡ Some x → p k x ≡ true → 1 ≤ count_of p m
  count_has m k x e t = let h = count_gone m k x e in let l : ◌≡◌ {A = ℕ} (cond (p k x) 1 0) 1 = with_test {A = ℕ} (p k x) 1 0 t in omega arith
