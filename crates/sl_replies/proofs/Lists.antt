-- A list that is read or written element by element.
use Rattle.std.proofs.Common.{◌≡◌, ℕ, suc, ◌+◌, ◌-◌, ◌<◌, true, false, List, [], ◌∷◌, ◌++◌, length, take, drop, Option, Some, None, refl, sym, ap, ◌∙◌, append_assoc, append-nil, arith}
use Rattle.std.proofs.lemmas.List.{take_at, take-append-drop}
use Rattle.sl_defs.specs.Items.{u32_text, ◌>>=◌}
use Rattle.sl_xdr.specs.Reading.{flag_at}
use Rattle.sl_types.specs.declared.fault.ArgsFault.{ArgsFault}
use Rattle.sl_types.specs.declared.fault.ArgsFault.TheVariants as fault
use Rattle.sl_items.specs.Reading.{Fails}
use Rattle.sl_replies.specs.Reading.{Reader, list_at}
use Rattle.sl_replies.specs.Texts.{list_text}

-- what was read, behind these elements
abbrev pub behind : {A : Type 0} → List A → Option (List A × List ℕ) → Option (List A × List ℕ)
behind front None = None
behind front (Some x) = Some (front ++ x.0, x.1)

-- So many elements were read, and the list is these and those that are left.
pub record SoFar {A : Type 0} (read : Reader A) (most done : ℕ) (bytes : List ℕ) (xs : List A) (rest : List ℕ) : Type 0 where
  pub left : (k : ℕ) → k + done ≡ most → list_at read most bytes ≡ behind xs (list_at read k rest)

behind_none : {A : Type 0} (r : Option (List A × List ℕ)) → r ≡ behind [] r
behind_none None = refl
behind_none (Some x) = refl

behind_one : {A : Type 0} (xs : List A) (x : A) (r : Option (List A × List ℕ)) → behind xs (r >>= λ y. Some (x ∷ y.0, y.1)) ≡ behind (xs ++ x ∷ []) r
behind_one xs x None = refl
behind_one {A = A} xs x (Some y) = ap (λ (front : List A). Some (front, y.1)) (sym (append_assoc xs (x ∷ []) y.0))

pub begins : {A : Type 0} (read : Reader A) (most : ℕ) (bytes : List ℕ) → SoFar read most 0 bytes [] bytes
begins read most bytes = record { left = λ k e. let same : most ≡ k = omega arith in ap (λ (n : ℕ). list_at read n bytes) same ∙ behind_none (list_at read k bytes) }

-- an element and what was read behind it
consed : {A : Type 0} (xs : List A) (x : A) (r : Option (List A × List ℕ))
    → behind xs (◌>>=◌ {A = (A × List A) × List ℕ} {B = List A × List ℕ} (◌>>=◌ {A = List A × List ℕ} {B = (A × List A) × List ℕ} r (λ y. Some ((x, y.0), y.1))) (λ z. Some (z.0.0 ∷ z.0.1, z.1))) ≡ behind (xs ++ x ∷ []) r
consed xs x None = refl
consed xs x (Some y) = behind_one xs x (Some y)

module _ {A : Type 0} (read : Reader A) where
  next_is : (k : ℕ) (xs : List A) (rest r1 r2 : List ℕ) (x : A) → flag_at rest ≡ Some (true, r1) → read r1 ≡ Some (x, r2) → behind xs (list_at read (suc k) rest) ≡ behind (xs ++ x ∷ []) (list_at read k r2)
  unfolding list_at
  next_is k xs rest r1 r2 x more e = rw (more, e) (consed xs x (list_at read k r2))

  end_is : (k : ℕ) (xs : List A) (rest r1 : List ℕ) → flag_at rest ≡ Some (false, r1) → behind xs (list_at read (suc k) rest) ≡ Some (xs, r1)
  unfolding list_at
  end_is k xs rest r1 e = rw e (ap (λ (front : List A). Some (front, r1)) (append-nil xs))

  no_flag_is : (k : ℕ) (xs : List A) (rest : List ℕ) → flag_at rest ≡ None → behind xs (list_at read (suc k) rest) ≡ None
  unfolding list_at
  no_flag_is k xs rest e = rw e refl

  no_element_is : (k : ℕ) (xs : List A) (rest r1 : List ℕ) → flag_at rest ≡ Some (true, r1) → read r1 ≡ None → behind xs (list_at read (suc k) rest) ≡ None
  unfolding list_at
  no_element_is k xs rest r1 more e = rw (more, e) refl

  module _ (most done : ℕ) (bytes rest : List ℕ) (xs : List A) (so : SoFar read most done bytes xs rest) where
    pub goes_on : (r1 r2 : List ℕ) (x : A) → flag_at rest ≡ Some (true, r1) → read r1 ≡ Some (x, r2) → SoFar read most (done + 1) bytes (xs ++ x ∷ []) r2
    goes_on r1 r2 x more e = record { left = λ k sum. so.left (suc k) (omega arith) ∙ next_is k xs rest r1 r2 x more e }

    some_left : done < most → (k : ℕ) × (suc k + done ≡ most)
    some_left lt = (most - suc done, omega arith)

    pub ends : (r1 : List ℕ) → done < most → flag_at rest ≡ Some (false, r1) → list_at read most bytes ≡ Some (xs, r1)
    ends r1 lt e = let k = some_left lt in so.left (suc k.0) k.1 ∙ end_is k.0 xs rest r1 e

    pub no_flag : done < most → flag_at rest ≡ None → list_at read most bytes ≡ None
    no_flag lt e = let k = some_left lt in so.left (suc k.0) k.1 ∙ no_flag_is k.0 xs rest e

    pub no_element : (r1 : List ℕ) (f : ArgsFault) → done < most → flag_at rest ≡ Some (true, r1) → Fails f (read r1) → Fails f (list_at read most bytes)
    no_element r1 fault.Garbage lt more e = let k = some_left lt in so.left (suc k.0) k.1 ∙ no_element_is k.0 xs rest r1 more e
    no_element r1 fault.NoMemory lt more e = tt

pub too_many : {A : Type 0} (read : Reader A) (most : ℕ) (bytes rest : List ℕ) (xs : List A) → SoFar read most most bytes xs rest → list_at read most bytes ≡ None
unfolding list_at
too_many read most bytes rest xs so = so.left 0 (omega arith)

-- ---- writing

-- the elements of a list, each behind its flag
unfoldable pub front_text : {A : Type 0} → (A → List ℕ) → List A → List ℕ
front_text text_of [] = []
front_text text_of (x ∷ xs) = u32_text 1 ++ (text_of x ++ front_text text_of xs)

front_text-append : {A : Type 0} (text_of : A → List ℕ) (xs : List A) (x : A) → front_text text_of (xs ++ x ∷ []) ≡ front_text text_of xs ++ (u32_text 1 ++ text_of x)
unfolding front_text
front_text-append text_of [] x = ap (λ (t : List ℕ). u32_text 1 ++ t) (append-nil (text_of x))
front_text-append text_of (y ∷ ys) x =
    ap (λ (t : List ℕ). u32_text 1 ++ (text_of y ++ t)) (front_text-append text_of ys x)
    ∙ ap (λ (t : List ℕ). u32_text 1 ++ t) (sym (append_assoc (text_of y) (front_text text_of ys) (u32_text 1 ++ text_of x)))
    ∙ sym (append_assoc (u32_text 1) (text_of y ++ front_text text_of ys) (u32_text 1 ++ text_of x))

pub list_text_is : {A : Type 0} (text_of : A → List ℕ) (xs : List A) → list_text text_of xs ≡ front_text text_of xs ++ u32_text 0
unfolding front_text list_text
list_text_is text_of [] = refl
list_text_is text_of (x ∷ xs) =
    ap (λ (t : List ℕ). u32_text 1 ++ (text_of x ++ t)) (list_text_is text_of xs)
    ∙ ap (λ (t : List ℕ). u32_text 1 ++ t) (sym (append_assoc (text_of x) (front_text text_of xs) (u32_text 0)))
    ∙ sym (append_assoc (u32_text 1) (text_of x ++ front_text text_of xs) (u32_text 0))

-- what stood there before stays, where more was appended
pub kept_through : (old more new whole : List ℕ) → new ≡ old ++ more → take (length new) whole ≡ new → take (length old) whole ≡ old
kept_through old more new whole is kept =
    ap (take (length old)) (sym (take-append-drop (length new) whole) ∙ ap (λ (t : List ℕ). t ++ drop (length new) whole) (kept ∙ is) ∙ append_assoc old more (drop (length new) whole))
    ∙ take_at old (more ++ drop (length new) whole) (length old) refl

pub front_grows : {A : Type 0} (text_of : A → List ℕ) (old before : List ℕ) (xs : List A) (x : A) → before ≡ old ++ front_text text_of xs → (before ++ u32_text 1) ++ text_of x ≡ old ++ front_text text_of (xs ++ x ∷ [])
front_grows text_of old before xs x is =
    append_assoc before (u32_text 1) (text_of x)
    ∙ ap (λ (t : List ℕ). t ++ (u32_text 1 ++ text_of x)) is
    ∙ append_assoc old (front_text text_of xs) (u32_text 1 ++ text_of x)
    ∙ ap (λ (t : List ℕ). old ++ t) (sym (front_text-append text_of xs x))

pub front_ends : {A : Type 0} (text_of : A → List ℕ) (old before : List ℕ) (xs : List A) → before ≡ old ++ front_text text_of xs → before ++ u32_text 0 ≡ old ++ list_text text_of xs
front_ends text_of old before xs is =
    ap (λ (t : List ℕ). t ++ u32_text 0) is
    ∙ append_assoc old (front_text text_of xs) (u32_text 0)
    ∙ ap (λ (t : List ℕ). old ++ t) (sym (list_text_is text_of xs))

pub front_begins : {A : Type 0} (text_of : A → List ℕ) (old : List ℕ) → old ≡ old ++ front_text text_of []
unfolding front_text
front_begins text_of old = sym (append-nil old)
