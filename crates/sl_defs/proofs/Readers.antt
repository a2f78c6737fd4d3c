-- Reading from the front takes exactly what a relation spells: once for each way to put readers together.
use Rattle.std.proofs.Common.{◌≡◌, ℕ, zero, suc, ◌^◌, ◌<◌, List, [], ◌++◌, Option, Some, None, refl, sym, ap, subst, ◌∙◌, append_assoc, append-nil, arith}
use Rattle.std.specs.Prelude.{IfSome}
use Rattle.sl_defs.specs.Items.{u32_text, u64_text, AreBytes, ◌>>=◌, u32_at, u64_at, opaque_at}
use Rattle.sl_defs.specs.Parts.{◌⨾◌, IsU32, IsU64, IsOpaqueOf, IsEnum, IsUnion, presence, IsPart, IsOptional, optional_text, mapped, ◌⊗◌, enum_at, union_at, part_at, optional_at}
use Rattle.sl_defs.proofs.ItemLaws.{bind_some, Takes, Takes-then, u32_takes, u32_found, u64_takes, u64_found, opaque_takes, opaque_found}

-- what was read is spelled by the bytes in front of the rest
abbrev pub Took : {A : Type 0} → (A → List ℕ → Type 0) → List ℕ → A × List ℕ → Type 0
Took Is bytes x = (text : List ℕ) × Is x.0 text × Takes bytes text x.1

-- The reader reads exactly what the relation spells.
pub record IsReader {A : Type 0} (read : List ℕ → Option (A × List ℕ)) (Is : A → List ℕ → Type 0) : Type 0 where
  pub takes : (bytes : List ℕ) (x : A × List ℕ) → AreBytes bytes → read bytes ≡ Some x → Took Is bytes x
  pub found : (value : A) (text rest : List ℕ) → Is value text → read (text ++ rest) ≡ Some (value, rest)

-- one step of reading, with what is left as variables
pub step : {A B : Type 0} {read : List ℕ → Option (A × List ℕ)} {Is : A → List ℕ → Type 0} (r : IsReader read Is) (bytes : List ℕ) (f : A × List ℕ → Option B) (y : B) (P : Type 0) → AreBytes bytes → (read bytes >>= f) ≡ Some y
    → ((value : A) (rest text : List ℕ) → Is value text → Takes bytes text rest → f (value, rest) ≡ Some y → P) → P
step {read = read} r bytes f y P fits e k =
    let b = bind_some (read bytes) f y e in
    let t = r.takes bytes b.0 fits b.1 in
    k b.0.0 b.0.1 t.0 t.1 t.2 b.2

pub same_some : {A : Type 0} (x y : A) → ◌≡◌ {A = Option A} (Some x) (Some y) → x ≡ y
same_some x y e = cc

-- what was taken, from the value that was made
pub made : {A : Type 0} (Is : A → List ℕ → Type 0) (bytes : List ℕ) (a : A) (rest text : List ℕ) (x : A × List ℕ) → ◌≡◌ {A = Option (A × List ℕ)} (Some (a, rest)) (Some x) → Is a text → Takes bytes text rest → Took Is bytes x
made Is bytes a rest text x e is taken = subst (Took Is bytes) (same_some (a, rest) x e) (text, is, taken)

-- nothing is taken
pub takes_nothing : (bytes : List ℕ) → AreBytes bytes → Takes bytes [] bytes
takes_nothing bytes fits = record { parts = refl; rest_fits = fits }

-- ---- items

pub u32_reader : IsReader u32_at IsU32
u32_reader = record {
  takes = λ bytes x fits e. let t = u32_takes bytes x fits e in (u32_text x.0, (refl, t.1), t.0);
  found = λ n text rest is. ap (λ t. u32_at (t ++ rest)) is.0 ∙ u32_found n rest is.1;
}

pub u64_reader : IsReader u64_at IsU64
u64_reader = record {
  takes = λ bytes x fits e. let t = u64_takes bytes x fits e in (u64_text x.0, (refl, t.1), t.0);
  found = λ n text rest is. ap (λ t. u64_at (t ++ rest)) is.0 ∙ u64_found n rest is.1;
}

pub opaque_reader : (most : ℕ) → IsReader (opaque_at most) (IsOpaqueOf most)
opaque_reader most = record {
  takes = λ bytes x fits e. let t = opaque_takes most bytes x fits e in (t.0, (t.2, t.3), t.1);
  found = λ body text rest is. opaque_found most text body rest is.0 is.1;
}

-- ---- one after the other

module _ {A B : Type 0} {first : List ℕ → Option (A × List ℕ)} {second : List ℕ → Option (B × List ℕ)} {First : A → List ℕ → Type 0} {Second : B → List ℕ → Type 0} (r : IsReader first First) (s : IsReader second Second) where
  pub both : IsReader (first ⊗ second) (λ x. First x.0 ⨾ Second x.1)
  both = record {
    takes = λ bytes x fits e.
        let Both : A × B → List ℕ → Type 0 = λ p. First p.0 ⨾ Second p.1 in
        step r bytes _ x (Took Both bytes x) fits e (λ a rest text is t e'.
        step s rest _ x (Took Both bytes x) t.rest_fits e' (λ b rest' text' is' t' e''.
        made Both bytes (a, b) rest' (text ++ text') x e'' (text, text', is, is', refl) (Takes-then bytes text rest text' rest' t t')));
    found = λ value text rest is.
        ap (first ⊗ second) (ap (λ t. t ++ rest) is.4 ∙ append_assoc is.0 is.1 rest)
        ∙ rw (r.found value.0 is.0 (is.1 ++ rest) is.2, s.found value.1 is.1 rest is.3) refl;
  }

-- ---- a value made of what was read

-- what is taken
pub mapped_takes : {A B : Type 0} {read : List ℕ → Option (A × List ℕ)} {From : A → List ℕ → Type 0} (r : IsReader read From) (To : B → List ℕ → Type 0) (f : A → B) → ((a : A) (text : List ℕ) → From a text → To (f a) text)
    → (bytes : List ℕ) (x : B × List ℕ) → AreBytes bytes → mapped f read bytes ≡ Some x → Took To bytes x
mapped_takes r To f spells bytes x fits e =
    step r bytes _ x (Took To bytes x) fits e (λ a rest text is t e'. made To bytes (f a) rest text x e' (spells a text is) t)

-- what is found
pub mapped_found : {A B : Type 0} {read : List ℕ → Option (A × List ℕ)} {From : A → List ℕ → Type 0} (r : IsReader read From) (f : A → B) (a : A) (text rest : List ℕ) → From a text → mapped f read (text ++ rest) ≡ Some (f a, rest)
mapped_found r f a text rest is = rw (r.found a text rest is) refl

-- A structure: its value is made of its fields, and gives them back.
pub structure : {A B : Type 0} {read : List ℕ → Option (A × List ℕ)} {From : A → List ℕ → Type 0} (r : IsReader read From) (f : A → B) (g : B → A) → ((b : B) → f (g b) ≡ b) → ((a : A) → g (f a) ≡ a) → IsReader (mapped f read) (λ b. From (g b))
structure {A = A} {B = B} {read = read} {From = From} r f g there back = record {
  takes = mapped_takes r (λ b. From (g b)) f (λ a text is. subst (λ a. From a text) (sym (back a)) is);
  found = λ b text rest is. mapped_found r f (g b) text rest is ∙ ap (λ b. Some (b, rest)) (there b);
}

-- ---- enumerations

-- A value has one number, and each number at most one value.
pub record AreNumbers {A : Type 0} (value_of : ℕ → Option A) (number : A → ℕ) : Type 0 where
  pub there : (n : ℕ) (a : A) → value_of n ≡ Some a → number a ≡ n
  pub back : (a : A) → value_of (number a) ≡ Some a
  pub fits : (a : A) → number a < 2 ^ 32

pub enumeration : {A : Type 0} {value_of : ℕ → Option A} {number : A → ℕ} → AreNumbers value_of number → IsReader (enum_at value_of) (IsEnum number)
enumeration {A = A} {value_of = value_of} {number = number} numbers = record {
  takes = λ bytes x fits e.
      step u32_reader bytes _ x (Took (IsEnum number) bytes x) fits e (λ n rest text is t e'.
      let b = bind_some (value_of n) (λ (a : A). Some (a, rest)) x e' in
      made (IsEnum number) bytes b.0 rest text x b.2 (is.0 ∙ ap u32_text (sym (numbers.there n b.0 b.1))) t);
  found = λ a text rest is.
      rw (u32_reader.found (number a) text rest (is, numbers.fits a), numbers.back a) refl;
}

-- ---- unions

-- Each number's arm reads exactly the values of that number.
pub record AreArms {A : Type 0} (arm_at : ℕ → List ℕ → Option (A × List ℕ)) (number : A → ℕ) (Arm : A → List ℕ → Type 0) : Type 0 where
  pub takes : (n : ℕ) (bytes : List ℕ) (x : A × List ℕ) → AreBytes bytes → arm_at n bytes ≡ Some x → Took (λ a text. Arm a text × (number a ≡ n)) bytes x
  pub found : (a : A) (text rest : List ℕ) → Arm a text → arm_at (number a) (text ++ rest) ≡ Some (a, rest)
  pub number_fits : (a : A) → number a < 2 ^ 32

pub union : {A : Type 0} {arm_at : ℕ → List ℕ → Option (A × List ℕ)} {number : A → ℕ} {Arm : A → List ℕ → Type 0} → AreArms arm_at number Arm → IsReader (union_at arm_at) (IsUnion number Arm)
union {A = A} {arm_at = arm_at} {number = number} {Arm = Arm} arms = record {
  takes = λ bytes x fits e.
      step u32_reader bytes _ x (Took (IsUnion number Arm) bytes x) fits e (λ n rest text is t e'.
      let a = arms.takes n rest x t.rest_fits e' in
      (text ++ a.0, (text, a.0, (is.0 ∙ ap u32_text (sym a.1.1), arms.number_fits x.0), a.1.0, refl), Takes-then bytes text rest a.0 x.1 t a.2));
  found = λ a text rest is.
      ap (union_at arm_at) (ap (λ t. t ++ rest) is.4 ∙ append_assoc is.0 is.1 rest)
      ∙ rw (u32_reader.found (number a) is.0 (is.1 ++ rest) is.2) (arms.found a is.1 rest is.3);
}

-- ---- optional parts

module _ {A : Type 0} {read : List ℕ → Option (A × List ℕ)} {Is : A → List ℕ → Type 0} (r : IsReader read Is) where
  abbrev IsPartOf : ℕ → Option A → List ℕ → Type 0
  IsPartOf n o text = IsPart Is o text × (presence o ≡ n)

  part_takes : (n : ℕ) (bytes : List ℕ) (x : Option A × List ℕ) → AreBytes bytes → part_at read n bytes ≡ Some x → Took (IsPartOf n) bytes x
  unfolding part_at
  part_takes zero bytes x fits e = made (IsPartOf 0) bytes None bytes [] x e (refl, refl) (takes_nothing bytes fits)
  part_takes (suc zero) bytes x fits e = mapped_takes r (IsPartOf 1) Some (λ a text is. (is, refl)) bytes x fits e
  part_takes (suc (suc n)) bytes x fits e = absurd cc

  part_found : (o : Option A) (text rest : List ℕ) → IsPart Is o text → part_at read (presence o) (text ++ rest) ≡ Some (o, rest)
  unfolding part_at
  part_found None text rest is = rw is refl
  part_found (Some a) text rest is = mapped_found r Some a text rest is

  presence_fits : (o : Option A) → presence o < 2 ^ 32
  presence_fits None = omega arith
  presence_fits (Some a) = omega arith

  pub optional : IsReader (optional_at read) (IsOptional Is)
  unfolding optional_at
  optional = union (record { takes = part_takes; found = part_found; number_fits = presence_fits })

-- the canonical text spells the optional part, where it spells the part
pub optional_spells : {A : Type 0} (Is : A → List ℕ → Type 0) (text_of : A → List ℕ) (Fits : A → Type 0) → ((a : A) → Fits a → Is a (text_of a)) → (o : Option A) → IfSome o Fits → IsOptional Is o (optional_text text_of o)
unfolding optional_text
optional_spells Is text_of Fits spells None fits = (u32_text 0, [], (refl, omega arith), refl, sym (append-nil (u32_text 0)))
optional_spells Is text_of Fits spells (Some a) fits = (u32_text 1, text_of a, (refl, omega arith), spells a fits, refl)
