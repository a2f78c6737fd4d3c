-- Reading takes exactly the one text of a value that fits: once for each way to put readers together.
use Rattle.std.proofs.Common.{◌≡◌, ℕ, zero, suc, ◌^◌, ◌<◌, List, [], ◌∷◌, ◌++◌, length, Option, Some, None, Bool, true, false, cond, eqb, refl, sym, ap, subst, ◌∙◌, append_assoc, append-nil, arith}
use Rattle.std.proofs.lemmas.Bool.{eqb-true}
use Rattle.std.proofs.lemmas.Option.{cond_some}
use Rattle.std.proofs.lemmas.List.Elements.{All-nil, All-cons, All-head, All-tail}
use Rattle.std.specs.Prelude.{All, IfSome}
use Rattle.sl_defs.specs.Items.{u32_text, AreBytes, ◌>>=◌, u32_at}
use Rattle.sl_defs.specs.Parts.{presence, IsPart, IsOptional, optional_text, mapped, ◌⊗◌, union_at, optional_at, IsUnion, ◌⨾◌}
use Rattle.sl_defs.proofs.ItemLaws.{bind_some, Takes, Takes-then, u32_found}
use Rattle.sl_defs.proofs.Readers.{IsReader, Took, AreArms, step, made, takes_nothing, both, structure, mapped_takes, mapped_found, u32_reader, union, optional}
use Rattle.sl_cells.specs.Lists.{Reader, times_at, counted_at, texts, counted_text, FitsList}
use Rattle.sl_cells.specs.Reading.{guarded, whole}
use Rattle.sl_cells.specs.Texts.{Spelled}

-- The reader reads exactly the texts of the values that fit.
abbrev pub Reads : {A : Type 0} → Reader A → (A → List ℕ) → (A → Type 0) → Type 0
Reads read text_of Fits = IsReader read (Spelled text_of Fits)

-- another relation that says the same
pub respelled : {A : Type 0} {read : Reader A} {P Q : A → List ℕ → Type 0} → IsReader read P → ((x : A) (text : List ℕ) → P x text → Q x text) → ((x : A) (text : List ℕ) → Q x text → P x text) → IsReader read Q
respelled r to back = record {
  takes = λ bytes x fits e. let t = r.takes bytes x fits e in (t.0, to x.0 t.0 t.1, t.2);
  found = λ x text rest is. r.found x text rest (back x text is);
}

-- other words for which values fit
pub refitted : {A : Type 0} {read : Reader A} {text_of : A → List ℕ} {F G : A → Type 0} → Reads read text_of F → ((x : A) → F x → G x) → ((x : A) → G x → F x) → Reads read text_of G
refitted r to back = respelled r (λ x text is. (is.0, to x is.1)) (λ x text is. (is.0, back x is.1))

-- ---- one after the other, and structures

pub pair : {A B : Type 0} {read : Reader A} {other : Reader B} {t : A → List ℕ} {u : B → List ℕ} {F : A → Type 0} {G : B → Type 0} → Reads read t F → Reads other u G → Reads (read ⊗ other) (λ x. t x.0 ++ u x.1) (λ x. F x.0 × G x.1)
pair {t = t} {u = u} r s =
    respelled (both r s)
    (λ x text is. (is.4 ∙ ap (λ (a : List ℕ). a ++ is.1) is.2.0 ∙ ap (λ (b : List ℕ). t x.0 ++ b) is.3.0, (is.2.1, is.3.1)))
    (λ x text is. (t x.0, u x.1, (refl, is.1.0), (refl, is.1.1), is.0))

-- ---- tests

pub guard : {A : Type 0} {read : Reader A} {t : A → List ℕ} {F : A → Type 0} → Reads read t F → (passes : A → Bool) → Reads (guarded passes read) t (λ x. F x × (passes x ≡ true))
guard {A = A} {read = read} {t = t} {F = F} r passes = record {
  takes = λ bytes x fits e.
      let b = bind_some (read bytes) (λ (y : A × List ℕ). cond (passes y.0) (Some y) None) x e in
      let g = cond_some (passes b.0.0) b.0 x b.2 in
      let k = r.takes bytes b.0 fits b.1 in
      subst (λ (x : A × List ℕ). Took (Spelled t (λ x. F x × (passes x ≡ true))) bytes x) g.1 (k.0, (k.1.0, (k.1.1, g.0)), k.2);
  found = λ x text rest is. rw (r.found x text rest (is.0, is.1.0), is.1.1) refl;
}

-- ---- lists

module _ {A : Type 0} {read : Reader A} {t : A → List ℕ} {F : A → Type 0} (r : Reads read t F) where
  abbrev Are : ℕ → List A → Type 0
  Are n xs = (length xs ≡ n) × All F xs

  none_found : (xs : List A) (text rest : List ℕ) → Spelled (texts t) (Are 0) xs text → times_at read 0 (text ++ rest) ≡ Some (xs, rest)
  unfolding times_at texts
  none_found [] text rest is = rw is.0 refl
  none_found (x ∷ xs) text rest is = absurd (omega (arith, is.1.0))

  more_found : (n : ℕ) → Reads (times_at read n) (texts t) (Are n) → (xs : List A) (text rest : List ℕ) → Spelled (texts t) (Are (suc n)) xs text → times_at read (suc n) (text ++ rest) ≡ Some (xs, rest)
  unfolding times_at texts
  more_found n s [] text rest is = absurd (omega (arith, is.1.0))
  more_found n s (x ∷ xs) text rest is = mapped_found (pair r s) (λ x. x.0 ∷ x.1) (x, xs) text rest (is.0, (All-head F x xs is.1.1, (omega (arith, is.1.0), All-tail F x xs is.1.1)))

  none_takes : (bytes : List ℕ) (x : List A × List ℕ) → AreBytes bytes → times_at read 0 bytes ≡ Some x → Took (Spelled (texts t) (Are 0)) bytes x
  unfolding times_at texts
  none_takes bytes x fits e = made (Spelled (texts t) (Are 0)) bytes [] bytes [] x e (refl, (refl, All-nil F)) (takes_nothing bytes fits)

  more_takes : (n : ℕ) → Reads (times_at read n) (texts t) (Are n) → (bytes : List ℕ) (x : List A × List ℕ) → AreBytes bytes → times_at read (suc n) bytes ≡ Some x → Took (Spelled (texts t) (Are (suc n))) bytes x
  unfolding times_at texts
  more_takes n s bytes x fits e = mapped_takes (pair r s) (Spelled (texts t) (Are (suc n))) (λ x. x.0 ∷ x.1) (λ a text is. (is.0, (ap suc is.1.1.0, All-cons F a.0 a.1 is.1.0 is.1.1.1))) bytes x fits e

  times : (n : ℕ) → Reads (times_at read n) (texts t) (Are n)
  times zero = record { takes = none_takes; found = none_found }
  times (suc n) = record { takes = more_takes n (times n); found = more_found n (times n) }

  pub counted : Reads (counted_at read) (counted_text t) (FitsList F)
  unfolding counted_at counted_text
  counted = record {
    takes = λ bytes x fits e.
        step u32_reader bytes _ x (Took (Spelled (counted_text t) (FitsList F)) bytes x) fits e (λ n rest text is k e'.
        let a = (times n).takes rest x k.rest_fits e' in
        let len : length x.0 ≡ n = a.1.1.0 in
        (text ++ a.0, (ap (λ (text : List ℕ). text ++ a.0) (is.0 ∙ ap u32_text (sym len)) ∙ ap (λ (b : List ℕ). u32_text (length x.0) ++ b) a.1.0, (subst (λ (n : ℕ). n < 2 ^ 32) (sym len) is.1, a.1.1.1)), Takes-then bytes text rest a.0 x.1 k a.2));
    found = λ xs text rest is.
        ap (counted_at read) (ap (λ (t : List ℕ). t ++ rest) is.0 ∙ append_assoc (u32_text (length xs)) (texts t xs) rest)
        ∙ rw (u32_found (length xs) (texts t xs ++ rest) is.1.0) ((times (length xs)).found xs (texts t xs) rest (refl, (refl, is.1.1)));
  }

-- ---- unions: a number that tells what follows

pub tagged : {A : Type 0} {body_at : ℕ → Reader A} {number : A → ℕ} {body_text : A → List ℕ} {F : A → Type 0} → AreArms body_at number (Spelled body_text F) → Reads (union_at body_at) (λ x. u32_text (number x) ++ body_text x) F
tagged {number = number} {body_text = body_text} arms =
    respelled (union arms)
    (λ x text is. (is.4 ∙ ap (λ (a : List ℕ). a ++ is.1) is.2.0 ∙ ap (λ (b : List ℕ). u32_text (number x) ++ b) is.3.0, is.3.1))
    (λ x text is. (u32_text (number x), body_text x, (refl, arms.number_fits x), (refl, is.1), is.0))

-- ---- optional parts

module _ {A : Type 0} {read : Reader A} {t : A → List ℕ} {F : A → Type 0} (r : Reads read t F) where
  optional_to : (o : Option A) (text : List ℕ) → IsOptional (Spelled t F) o text → Spelled (optional_text t) (λ o. IfSome o F) o text
  unfolding optional_text
  optional_to None text is = (is.4 ∙ ap (λ (a : List ℕ). a ++ is.1) is.2.0 ∙ ap (λ (b : List ℕ). u32_text 0 ++ b) is.3 ∙ append-nil (u32_text 0), tt)
  optional_to (Some x) text is = (is.4 ∙ ap (λ (a : List ℕ). a ++ is.1) is.2.0 ∙ ap (λ (b : List ℕ). u32_text 1 ++ b) is.3.0, is.3.1)

  optional_back : (o : Option A) (text : List ℕ) → Spelled (optional_text t) (λ o. IfSome o F) o text → IsOptional (Spelled t F) o text
  unfolding optional_text
  optional_back None text is = (u32_text 0, [], (refl, omega arith), refl, is.0 ∙ sym (append-nil (u32_text 0)))
  optional_back (Some x) text is = (u32_text 1, t x, (refl, omega arith), (refl, is.1), is.0)

  pub maybe : Reads (optional_at read) (optional_text t) (λ o. IfSome o F)
  maybe = respelled (optional r) optional_to optional_back

-- ---- the whole bytes

empty_is : (rest : List ℕ) → length rest ≡ 0 → rest ≡ []
empty_is [] e = refl
empty_is (b ∷ bs) e = absurd (omega arith)

module _ {A : Type 0} {read : Reader A} {t : A → List ℕ} {F : A → Type 0} (r : Reads read t F) where
  pub whole_takes : (bytes : List ℕ) (x : A) → AreBytes bytes → whole read bytes ≡ Some x → Spelled t F x bytes
  whole_takes bytes x fits e =
      let b = bind_some (read bytes) (λ (y : A × List ℕ). cond (eqb (length y.1) 0) (Some y.0) None) x e in
      let g = cond_some (eqb (length b.0.1) 0) b.0.0 x b.2 in
      let k = r.takes bytes b.0 fits b.1 in
      let all : bytes ≡ k.0 = k.2.parts ∙ ap (λ (rest : List ℕ). k.0 ++ rest) (empty_is b.0.1 (eqb-true _ _ g.0)) ∙ append-nil k.0 in
      subst (λ (x : A). Spelled t F x bytes) g.1 (all ∙ k.1.0, k.1.1)

  pub whole_found : (bytes : List ℕ) (x : A) → Spelled t F x bytes → whole read bytes ≡ Some x
  whole_found bytes x is = rw (ap read (sym (append-nil bytes)) ∙ r.found x bytes [] is) refl
