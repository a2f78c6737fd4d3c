-- A list that is read or written element by element.
use Rattle.std.proofs.Common.{◌≡◌, ℕ, zero, suc, ◌+◌, ◌-◌, ◌<◌, List, [], ◌∷◌, ◌++◌, length, take, drop, Option, Some, None, refl, sym, ap, ◌∙◌, append_assoc, append-nil, arith}
use Rattle.std.proofs.lemmas.List.{take_at, take-append-drop}
use Rattle.sl_defs.specs.Items.{◌>>=◌}
use Rattle.sl_types.specs.declared.fault.ArgsFault.{ArgsFault}
use Rattle.sl_types.specs.declared.fault.ArgsFault.TheVariants as fault
use Rattle.sl_items.specs.Reading.{Fails}
use Rattle.sl_cells.specs.Lists.{Reader, times_at, texts}

-- what was read, behind these elements
abbrev pub behind : {A : Type 0} → List A → Option (List A × List ℕ) → Option (List A × List ℕ)
behind front None = None
behind front (Some x) = Some (front ++ x.0, x.1)

-- So many elements were read, and the list is these and those that are left.
pub record SoFar {A : Type 0} (read : Reader A) (count done : ℕ) (bytes : List ℕ) (xs : List A) (rest : List ℕ) : Type 0 where
  pub left : (k : ℕ) → k + done ≡ count → times_at read count bytes ≡ behind xs (times_at read k rest)

behind_none : {A : Type 0} (r : Option (List A × List ℕ)) → r ≡ behind [] r
behind_none None = refl
behind_none (Some x) = refl

-- an element and what was read behind it
consed : {A : Type 0} (xs : List A) (x : A) (r : Option (List A × List ℕ))
    → behind xs (◌>>=◌ {A = (A × List A) × List ℕ} {B = List A × List ℕ} (◌>>=◌ {A = List A × List ℕ} {B = (A × List A) × List ℕ} r (λ y. Some ((x, y.0), y.1))) (λ z. Some (z.0.0 ∷ z.0.1, z.1))) ≡ behind (xs ++ x ∷ []) r
consed xs x None = refl
consed {A = A} xs x (Some y) = ap (λ (front : List A). Some (front, y.1)) (sym (append_assoc xs (x ∷ []) y.0))

pub begins : {A : Type 0} (read : Reader A) (count : ℕ) (bytes : List ℕ) → SoFar read count 0 bytes [] bytes
begins read count bytes = record { left = λ k e. let same : count ≡ k = omega arith in ap (λ (n : ℕ). times_at read n bytes) same ∙ behind_none (times_at read k bytes) }

module _ {A : Type 0} (read : Reader A) where
  next_is : (k : ℕ) (xs : List A) (rest r : List ℕ) (x : A) → read rest ≡ Some (x, r) → behind xs (times_at read (suc k) rest) ≡ behind (xs ++ x ∷ []) (times_at read k r)
  unfolding times_at
  next_is k xs rest r x e = rw e (consed xs x (times_at read k r))

  no_element_is : (k : ℕ) (xs : List A) (rest : List ℕ) → read rest ≡ None → behind xs (times_at read (suc k) rest) ≡ None
  unfolding times_at
  no_element_is k xs rest e = rw e refl

  module _ (count done : ℕ) (bytes rest : List ℕ) (xs : List A) (so : SoFar read count done bytes xs rest) where
    pub goes_on : (r : List ℕ) (x : A) → read rest ≡ Some (x, r) → SoFar read count (done + 1) bytes (xs ++ x ∷ []) r
    goes_on r x e = record { left = λ k sum. so.left (suc k) (omega arith) ∙ next_is k xs rest r x e }

    some_left : done < count → (k : ℕ) × (suc k + done ≡ count)
    some_left lt = (count - suc done, omega arith)

    pub no_element : (f : ArgsFault) → done < count → Fails f (read rest) → Fails f (times_at read count bytes)
    no_element fault.Garbage lt e = let k = some_left lt in so.left (suc k.0) k.1 ∙ no_element_is k.0 xs rest e
    no_element fault.NoMemory lt e = tt

pub all_read : {A : Type 0} (read : Reader A) (count : ℕ) (bytes rest : List ℕ) (xs : List A) → SoFar read count count bytes xs rest → times_at read count bytes ≡ Some (xs, rest)
unfolding times_at
all_read {A = A} read count bytes rest xs so = so.left 0 (omega arith) ∙ ap (λ (front : List A). Some (front, rest)) (append-nil xs)

-- ---- writing

texts-append : {A : Type 0} (text_of : A → List ℕ) (xs : List A) (x : A) → texts text_of (xs ++ x ∷ []) ≡ texts text_of xs ++ text_of x
unfolding texts
texts-append text_of [] x = append-nil (text_of x)
texts-append text_of (y ∷ ys) x = ap (λ (t : List ℕ). text_of y ++ t) (texts-append text_of ys x) ∙ sym (append_assoc (text_of y) (texts text_of ys) (text_of x))

pub texts_begin : {A : Type 0} (text_of : A → List ℕ) (old : List ℕ) → old ≡ old ++ texts text_of []
unfolding texts
texts_begin text_of old = sym (append-nil old)

pub texts_grow : {A : Type 0} (text_of : A → List ℕ) (old before : List ℕ) (xs : List A) (x : A) → before ≡ old ++ texts text_of xs → before ++ text_of x ≡ old ++ texts text_of (xs ++ x ∷ [])
texts_grow text_of old before xs x is =
    ap (λ (t : List ℕ). t ++ text_of x) is
    ∙ append_assoc old (texts text_of xs) (text_of x)
    ∙ ap (λ (t : List ℕ). old ++ t) (sym (texts-append text_of xs x))

-- what stood there before stays, where more was appended
pub kept_through : (old more new whole : List ℕ) → new ≡ old ++ more → take (length new) whole ≡ new → take (length old) whole ≡ old
kept_through old more new whole is kept =
    ap (take (length old)) (sym (take-append-drop (length new) whole) ∙ ap (λ (t : List ℕ). t ++ drop (length new) whole) (kept ∙ is) ∙ append_assoc old more (drop (length new) whole))
    ∙ take_at old (more ++ drop (length new) whole) (length old) refl
