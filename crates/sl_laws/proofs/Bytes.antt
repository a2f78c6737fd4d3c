-- What the bytes of a file are after a change.
use Rattle.std.proofs.Common.{◌≡◌, ℕ, ◌+◌, List, [], ◌∷◌, Option, Some, None, Bool, true, false, cond, refl, sym, ap, subst, ◌∙◌, inl, inr}
use Rattle.std.specs.Prelude.{◌≢◌, ◌==◌, ◌||◌, not, nat_lt}
use Rattle.std.proofs.lemmas.Bool.{cases_eq, ne_eqb}
use Rattle.std.proofs.lemmas.Cmp.{nat_cmp_total, then_total, on_total}
use Rattle.std.proofs.lemmas.Map.Lookups.{exact_pairs, exact_unsigned}
use Rattle.std.specs.Cmp.{IsTotalOrder}
use Rattle.std.specs.Ordering.{nat_cmp, eq_by_cmp}
use Rattle.std.specs.FinMap.{FinMap, IsAntisymmetric, get, insert, get-insert, get-retain_keys, same_map}
use Rattle.sl_model.specs.Volume.{Unstable, place_cmp, put_bytes, put_writes, cut_at}
use Rattle.sl_model.proofs.MapSteps.{get_else}

abbrev pub Bytes : Type 0
Bytes = FinMap place_cmp ℕ

pub place_total : IsTotalOrder place_cmp
place_total = then_total (on_total (λ (k : ℕ × ℕ). k.0) nat_cmp_total) (on_total (λ (k : ℕ × ℕ). k.1) nat_cmp_total)

pub exact_places : IsAntisymmetric place_cmp
exact_places = exact_pairs nat_cmp nat_cmp exact_unsigned exact_unsigned

pub put_else : (m : Bytes) (k : ℕ × ℕ) (b : ℕ) (q : ℕ × ℕ) → q ≢ k → get (insert m k b) q ≡ get m q
put_else m k b q ne = get_else place_total exact_places m k b q ne

pub cut_get : (f size : ℕ) (m : Bytes) (k : ℕ × ℕ) → get (cut_at f size m) k ≡ cond (not (k.0 == f) || nat_lt k.1 size) (get m k) None
cut_get f size m k = get-retain_keys m (λ q. not (q.0 == f) || nat_lt q.1 size) k (λ x e. ap (λ q. not (q.0 == f) || nat_lt q.1 size) (sym (exact_places k x e)))

-- what isn't there stays away in a cut
pub none_cut : (f size : ℕ) (m : Bytes) (k : ℕ × ℕ) → get m k ≡ None → get (cut_at f size m) k ≡ None
none_cut f size m k e = cut_get f size m k ∙ ap (λ o. cond (not (k.0 == f) || nat_lt k.1 size) o None) e ∙ either (not (k.0 == f) || nat_lt k.1 size)
  where
    either : (b : Bool) → ◌≡◌ {A = Option ℕ} (cond b None None) None
    either true = refl
    either false = refl

-- ---- what changes one file's bytes, by these bytes alone

pub record IsOf (f : ℕ) (T : Bytes → Bytes) : Type 0 where
  pub beside : (m : Bytes) (k : ℕ × ℕ) → k.0 ≢ f → get (T m) k ≡ get m k
  pub within : (m n : Bytes) → ((x : ℕ) → get m (f, x) ≡ get n (f, x)) → (x : ℕ) → get (T m) (f, x) ≡ get (T n) (f, x)

pub same_of : (f : ℕ) → IsOf f (λ m. m)
same_of f = record { beside = λ m k ne. refl; within = λ m n h. h }

pub then_of : (f : ℕ) (T U : Bytes → Bytes) → IsOf f T → IsOf f U → IsOf f (λ m. U (T m))
then_of f T U t u = record {
  beside = λ m k ne. u.beside (T m) k ne ∙ t.beside m k ne;
  within = λ m n h. u.within (T m) (T n) (t.within m n h);
}

insert_of : (f at b : ℕ) → IsOf f (λ m. insert m (f, at) b)
insert_of f at b = record {
  beside = λ m k ne. put_else m (f, at) b k (λ e. ne (ap (λ (q : ℕ × ℕ). q.0) e));
  within = λ m n h x. get-insert place_total m (f, at) b (f, x) ∙ ap (cond (eq_by_cmp place_cmp (f, x) (f, at)) (Some b)) (h x) ∙ sym (get-insert place_total n (f, at) b (f, x));
}

pub put_bytes_of : (f at : ℕ) (bs : List ℕ) → IsOf f (λ m. put_bytes f at bs m)
put_bytes_of f at [] = same_of f
put_bytes_of f at (b ∷ bs) = then_of f (λ m. insert m (f, at) b) (λ m. put_bytes f (at + 1) bs m) (insert_of f at b) (put_bytes_of f (at + 1) bs)

one_write_of : (f : ℕ) (w : Unstable) (b : Bool) → (w.fileid == f) ≡ b → IsOf f (λ m. cond b (put_bytes f w.offset w.bytes m) m)
one_write_of f w true e = put_bytes_of f w.offset w.bytes
one_write_of f w false e = same_of f

pub put_writes_of : (f : ℕ) (ws : List Unstable) → IsOf f (λ m. put_writes f ws m)
put_writes_of f [] = same_of f
put_writes_of f (w ∷ ws) = then_of f (λ m. cond (w.fileid == f) (put_bytes f w.offset w.bytes m) m) (λ m. put_writes f ws m) (one_write_of f w (w.fileid == f) refl) (put_writes_of f ws)

pub cut_of : (f size : ℕ) → IsOf f (λ m. cut_at f size m)
cut_of f size = record {
  beside = λ m k ne. cut_get f size m k ∙ ap (λ b. cond (not b || nat_lt k.1 size) (get m k) None) (ne_eqb k.0 f ne);
  within = λ m n h x. cut_get f size m (f, x) ∙ ap (λ o. cond (not (f == f) || nat_lt x size) o None) (h x) ∙ sym (cut_get f size n (f, x));
}

-- changes of two files' bytes, in either order
pub files_commute : (f g : ℕ) (T U : Bytes → Bytes) → f ≢ g → IsOf f T → IsOf g U → (m : Bytes) → T (U m) ≡ U (T m)
files_commute f g T U ne t u m = same_map place_total exact_places (T (U m)) (U (T m)) (λ k. elim (cases_eq k.0 f) [
  | inl e ↦ at_f k.0 k.1 e
  | inr other ↦ t.beside (U m) k other ∙ elim (cases_eq k.0 g) [
    | inl e ↦ at_g k.0 k.1 e
    | inr neither ↦ u.beside m k neither ∙ sym (u.beside (T m) k neither ∙ t.beside m k other)
  ]
])
  where
    at_f : (a x : ℕ) → a ≡ f → get (T (U m)) (a, x) ≡ get (U (T m)) (a, x)
    at_f a x e = subst (λ z. get (T (U m)) (z, x) ≡ get (U (T m)) (z, x)) (sym e)
        (t.within (U m) m (λ y. u.beside m (f, y) ne) x ∙ sym (u.beside (T m) (f, x) ne))

    at_g : (a x : ℕ) → a ≡ g → get (U m) (a, x) ≡ get (U (T m)) (a, x)
    at_g a x e = subst (λ z. get (U m) (z, x) ≡ get (U (T m)) (z, x)) (sym e)
        (u.within m (T m) (λ y. sym (t.beside m (g, y) (λ s. ne (sym s)))) x)
