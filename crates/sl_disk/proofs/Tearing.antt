-- That each image shows a step as a stop may leave it.
use Rattle.std.proofs.Common.{◌≡◌, ℕ, zero, suc, ◌+◌, ◌-◌, ◌/◌, ◌≤◌, min, max, Bool, true, false, List, [], ◌++◌, length, take, drop, replicate, refl, sym, ◌∙◌, ap, arith, inl, inr, append_assoc, length-append, length-drop}
use Rattle.std.proofs.lemmas.List.{take-append-le, take-take, drop_all, drop_at, drop-drop, append-nil, length-take, length-replicate, nil_from_length}
use Rattle.std.proofs.lemmas.Bool.{cases_lt}
use Rattle.sl_disk.specs.Shelf.{padded, put, Torn, Shortened}
use Rattle.sl_disk.specs.Images.{junk, shown}
use Rattle.sl_disk.specs.declared.steps.Edit.TheVariants.{Write, Cut}
use Rattle.sl_disk.proofs.Spoils.{length-junk}

pub torn_same : (at n : ℕ) (file : List ℕ) → Torn at n file file
torn_same at n file = record { before = refl; after = refl; no_shorter = omega arith; no_longer = omega arith }

pub shortened_same : (size : ℕ) (file : List ℕ) → Shortened size file file
shortened_same size file = record { before = refl; no_shorter = omega arith; no_longer = omega arith }

module _ (base bytes : List ℕ) (from : ℕ) (within : from + length bytes ≤ length base) where
  front : length (take from base ++ bytes) ≡ from + length bytes
  front = omega (arith, length-append (take from base) bytes, length-take from base)

  pub length-put : length (put base from bytes) ≡ length base
  length-put = omega (arith, front, length-append (take from base ++ bytes) (drop (from + length bytes) base), length-drop (from + length bytes) base)

  pub take-put : (k : ℕ) → k ≤ from → take k (put base from bytes) ≡ take k base
  take-put k le =
      let short : k ≤ length (take from base) = omega (arith, length-take from base) in
      ap (λ (l : List ℕ). take k l) (append_assoc (take from base) bytes (drop (from + length bytes) base))
      ∙ take-append-le k (take from base) (bytes ++ drop (from + length bytes) base) short
      ∙ take-take k from base le

  pub drop-put : (k : ℕ) → from + length bytes ≤ k → drop k (put base from bytes) ≡ drop k base
  drop-put k le =
      let e : ℕ = from + length bytes in
      let whole : e + (k - e) ≡ k = omega arith in
      let rest : drop e (put base from bytes) ≡ drop e base = drop_at (take from base ++ bytes) (drop e base) e front in
      ap (λ (n : ℕ). drop n (put base from bytes)) (sym whole)
      ∙ sym (drop-drop (k - e) e (put base from bytes))
      ∙ ap (λ (l : List ℕ). drop (k - e) l) rest
      ∙ drop-drop (k - e) e base
      ∙ ap (λ (n : ℕ). drop n base) whole

-- behind the old end, and past the range, there is nothing
drop-longer : (file more : List ℕ) (k : ℕ) → length (file ++ more) ≤ max (length file) k → drop k (file ++ more) ≡ drop k file
drop-longer file more k le = elim (cases_lt k (length (file ++ more))) [
  | inl below ↦
      let none : more ≡ [] = nil_from_length more (omega (arith, length-append file more)) in
      ap (λ (l : List ℕ). drop k (file ++ l)) none ∙ ap (λ (l : List ℕ). drop k l) (append-nil file)
  | inr past ↦ drop_all k (file ++ more) past ∙ sym (drop_all k file (omega (arith, length-append file more)))
]

-- bytes put into a range of a file that was made longer by no more than the range
pub torn_put : (file more bytes : List ℕ) (at n from : ℕ) → min at (length file) ≤ from → from + length bytes ≤ length (file ++ more) → from + length bytes ≤ at + n → length (file ++ more) ≤ max (length file) (at + n)
    → Torn at n file (put (file ++ more) from bytes)
torn_put file more bytes at n from low within high long = record {
  before = take-put (file ++ more) bytes from within (min at (length file)) low ∙ take-append-le (min at (length file)) file more (omega arith);
  after = drop-put (file ++ more) bytes from within (at + n) high ∙ drop-longer file more (at + n) long;
  no_shorter = omega (arith, length-put (file ++ more) bytes from within, length-append file more);
  no_longer = omega (arith, length-put (file ++ more) bytes from within);
}

-- the same in the file as it is
torn_in : (file bytes : List ℕ) (at n from : ℕ) → min at (length file) ≤ from → from + length bytes ≤ length file → from + length bytes ≤ at + n → Torn at n file (put file from bytes)
torn_in file bytes at n from low within high = record {
  before = take-put file bytes from within (min at (length file)) low;
  after = drop-put file bytes from within (at + n) high;
  no_shorter = omega (arith, length-put file bytes from within);
  no_longer = omega (arith, length-put file bytes from within);
}

length-padded : (file : List ℕ) (size : ℕ) → length (padded file size) ≡ max (length file) size
length-padded file size = omega (arith, length-append file (replicate (size - length file) 0), length-replicate {A = ℕ} (size - length file) 0)

pub torn_shown : (i at : ℕ) (bytes : List ℕ) (failed : Bool) (file : List ℕ) → Torn at (length bytes) file (shown i (Write at bytes) failed file)
torn_shown zero at bytes failed file = torn_same at (length bytes) file
torn_shown (suc zero) at bytes true file = torn_same at (length bytes) file
torn_shown (suc zero) at bytes false file =
    let long = length-padded file (at + length bytes) in
    torn_put file (replicate (at + length bytes - length file) 0) bytes at (length bytes) at (omega arith) (omega (arith, long)) (omega arith) (omega (arith, long))
torn_shown (suc (suc zero)) at bytes false file =
    let long = length-padded file (at + length bytes) in
    let some = length-take (length bytes / 2) bytes in
    torn_put file (replicate (at + length bytes - length file) 0) (take (length bytes / 2) bytes) at (length bytes) at (omega arith) (omega (arith, long, some)) (omega (arith, some)) (omega (arith, long))
torn_shown (suc (suc zero)) at bytes true file =
    let some = length-take (min (length bytes / 2) (length file - at)) bytes in
    torn_in file (take (min (length bytes / 2) (length file - at)) bytes) at (length bytes) (min at (length file)) (omega arith) (omega (arith, some)) (omega (arith, some))
torn_shown (suc (suc (suc i))) at bytes false file =
    let long = length-padded file (at + length bytes) in
    let from : ℕ = min at (length file) in
    let all = length-junk (i + 3) from (at + length bytes - from) in
    torn_put file (replicate (at + length bytes - length file) 0) (junk (i + 3) from (at + length bytes - from)) at (length bytes) from (omega arith) (omega (arith, long, all)) (omega (arith, all)) (omega (arith, long))
torn_shown (suc (suc (suc i))) at bytes true file =
    let from : ℕ = min at (length file) in
    let all = length-junk (i + 3) from (min (at + length bytes) (length file) - from) in
    torn_in file (junk (i + 3) from (min (at + length bytes) (length file) - from)) at (length bytes) from (omega arith) (omega (arith, all)) (omega (arith, all))

shortened_cut : (size : ℕ) (file : List ℕ) → Shortened size file (take size file)
shortened_cut size file = record {
  before = take-take (min size (length file)) size file (omega arith);
  no_shorter = omega (arith, length-take size file);
  no_longer = omega (arith, length-take size file);
}

pub shortened_shown : (i size : ℕ) (failed : Bool) (file : List ℕ) → Shortened size file (shown i (Cut size) failed file)
shortened_shown zero size failed file = shortened_same size file
shortened_shown (suc zero) size true file = shortened_same size file
shortened_shown (suc zero) size false file = shortened_cut size file
shortened_shown (suc (suc zero)) size true file = shortened_same size file
shortened_shown (suc (suc zero)) size false file = shortened_cut size file
shortened_shown (suc (suc (suc i))) size false file = shortened_cut size file
shortened_shown (suc (suc (suc i))) size true file =
    let from : ℕ = min size (length file) in
    let all = length-junk (i + 3) from (length file - from) in
    let within : from + length (junk (i + 3) from (length file - from)) ≤ length file = omega (arith, all) in
    record {
      before = take-put file (junk (i + 3) from (length file - from)) from within from (omega arith);
      no_shorter = omega (arith, length-put file (junk (i + 3) from (length file - from)) from within);
      no_longer = omega (arith, length-put file (junk (i + 3) from (length file - from)) from within);
    }
