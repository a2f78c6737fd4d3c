-- Words between spaces, and what they spell.
use Rattle.std.proofs.Common.{◌≡◌, ℕ, zero, suc, ◌+◌, ◌-◌, ◌^◌, ◌<◌, Bool, true, false, ◌&&◌, not, eqb, List, [], ◌∷◌, ◌++◌, length, get_or, take, drop, Ok, append_assoc, ◌*◌, refl, sym, ap, ◌∙◌, arith, inl, inr, rules}
use Rattle.std.specs.Prelude.{decimal, codes}
use Rattle.std.specs.Char.{is_ascii_digit}
use Rattle.std.specs.Str.{all_ascii_digits, IsUtf8}
use Rattle.std.proofs.lemmas.Bool.{cases_lt}
use Rattle.std.proofs.lemmas.Fmt.{IsAscii-decimal, digits_decimal}
use Rattle.std.proofs.lemmas.Str.{IsUtf8-from_ascii}
use Rattle.std.proofs.lemmas.Str.Parse.{IsNumeralModel, numerals_by_fold}
use Rattle.std.proofs.lemmas.List.{get_or_at, get_or_append_left, length_push, take_at, drop_at}
use Rattle.hex.specs.Hex.{lower_digits, decode_of}
use Rattle.hex.proofs.HexLemmas.{decode_of-encode_lower, length-encode_with}
use Rattle.sl_defs.specs.Items.{AreBytes}
use Rattle.sl_text.specs.Words.{HasNoSpace}
use Rattle.sl_defs.specs.Schedules.{hex_text, policy_word, policy_number, FitsPolicy}
use Rattle.sl_defs.specs.declared.setup.Policy.{Policy}
use Rattle.sl_defs.specs.declared.setup.Policy.TheVariants.{Switch, Hash}
use Rattle.std.specs.List.{list_all}
use Rattle.std.specs.Prelude.{Option, Some, None, MatchOption}
use Rattle.std.specs.Borrow.{Bor}
use Rattle.std.specs.Cmp.Lexicographic.{pointwise}
use Rattle.std.proofs.lemmas.Bool.Decides.{Decides-eqb}
use Rattle.std.proofs.lemmas.Slice.Eq.{slice_eq-Decides}
use Rattle.std.proofs.lemmas.List.{take-append-drop}

pub decimal_is_text : (n : ℕ) → n < 2 ^ 64 → IsUtf8 (decimal n)
decimal_is_text n lt = IsUtf8-from_ascii (decimal n) (IsAscii-decimal n lt)

-- ---- the first space

-- the place of the first space is the length of the part before it
pub first_space : (text a b : List ℕ) (i : ℕ) → HasNoSpace a → text ≡ a ++ 32 ∷ b → get_or text i 0 ≡ 32 → ((k : ℕ) → k < i → get_or text k 0 ≡ 32 → ⊥) → i ≡ length a
first_space text a b i none e here before =
    let at : get_or text (length a) 0 ≡ 32 = ap (λ (t : List ℕ). get_or t (length a) 0) e ∙ get_or_at a 32 b 0 (length a) refl in
    elim (cases_lt i (length a)) [
      | inl lt ↦ absurd (none i lt (sym (get_or_append_left a (32 ∷ b) 0 i lt) ∙ sym (ap (λ (t : List ℕ). get_or t i 0) e) ∙ here))
      | inr le ↦ elim (cases_lt (length a) i) [
        | inl more ↦ absurd (before (length a) more at)
        | inr less ↦ omega arith
      ]
    ]

pub cut_before : (text a b : List ℕ) (i : ℕ) → text ≡ a ++ 32 ∷ b → i ≡ length a → take i text ≡ a
cut_before text a b i e at = rw (e, at) (take_at a (32 ∷ b) (length a) refl)

pub cut_behind : (text a b : List ℕ) (i : ℕ) → text ≡ a ++ 32 ∷ b → i ≡ length a → drop (i + 1) text ≡ b
cut_behind text a b i e at = ap (λ (t : List ℕ). drop (i + 1) t) (e ∙ sym (append_assoc a (32 ∷ []) b)) ∙ drop_at (a ++ 32 ∷ []) b (i + 1) (omega (arith, length_push a 32, at))

-- ---- digits

both_true : (a b : Bool) → (a && b) ≡ true → (a ≡ true) × (b ≡ true)
both_true true b e = (refl, e)
both_true false b e = absurd cc

read_on : ℕ → List ℕ → ℕ
read_on n [] = n
read_on n (c ∷ cs) = read_on (10 * n + (c - 48)) cs

own : IsNumeralModel (λ ds. all_ascii_digits ds ≡ true) (read_on 0)
unfolding read_on
own = numerals_by_fold _ (search rules) read_on (search rules)

digits_no_space : (ds : List ℕ) → all_ascii_digits ds ≡ true → HasNoSpace ds
digits_no_space [] h k lt e = absurd (omega arith)
digits_no_space (d ∷ ds) h zero lt e =
    let p : is_ascii_digit d ≡ true = (both_true (is_ascii_digit d) (all_ascii_digits ds) h).0 in
    let q : is_ascii_digit 32 ≡ true = ap is_ascii_digit (sym e) ∙ p in
    cc
digits_no_space (d ∷ ds) h (suc k) lt e = digits_no_space ds (both_true (is_ascii_digit d) (all_ascii_digits ds) h).1 k (omega arith) e

pub decimal_no_space : (n : ℕ) → n < 2 ^ 64 → HasNoSpace (decimal n)
decimal_no_space n lt = digits_no_space (decimal n) (digits_decimal own n lt)

-- ---- hex

-- only no bytes are spelled by one character
pub dash_is : (text bytes : List ℕ) → length text ≡ 1 → text ≡ hex_text bytes → [] ≡ bytes
unfolding hex_text
dash_is text [] len e = refl
dash_is text (b ∷ bs) len e = absurd (omega (arith, length-encode_with lower_digits (b ∷ bs), ap length e))

pub hex_decoded : (text bytes : List ℕ) → AreBytes bytes → (text ≡ codes "-" → ⊥) → text ≡ hex_text bytes → decode_of text ≡ Ok bytes
unfolding hex_text
hex_decoded text [] fits other e = absurd (other e)
hex_decoded text (b ∷ bs) fits other e = ap decode_of e ∙ decode_of-encode_lower (b ∷ bs) fits

-- ---- literal words

none_is_space : (text : List ℕ) → list_all (λ x. not (eqb x 32)) text ≡ true → HasNoSpace text
none_is_space [] h k lt e = absurd (omega arith)
none_is_space (x ∷ xs) h zero lt e =
    let p : not (eqb x 32) ≡ true = (both_true (not (eqb x 32)) (list_all (λ x. not (eqb x 32)) xs) h).0 in
    let q : not (eqb 32 32) ≡ true = ap (λ (y : ℕ). not (eqb y 32)) (sym e) ∙ p in
    cc
none_is_space (x ∷ xs) h (suc k) lt e = none_is_space xs (both_true (not (eqb x 32)) (list_all (λ x. not (eqb x 32)) xs) h).1 k (omega arith) e

pub policy_word_no_space : (p : Policy) → HasNoSpace (policy_word p)
policy_word_no_space (Switch p) = none_is_space (codes "switch") refl
policy_word_no_space Hash = none_is_space (codes "hash") refl

pub policy_number_fits : (p : Policy) → FitsPolicy p → policy_number p < 2 ^ 64
policy_number_fits (Switch p) h = omega (arith, h)
policy_number_fits Hash h = omega arith

-- ---- a word at the front

pub behind_is : (text word : List ℕ) (o : Option (Bor (List ℕ)))
    → MatchOption o (pointwise eqb (take (length word) text) word ≡ false) (λ x. (pointwise eqb (take (length word) text) word ≡ true) × (x.now ≡ drop (length word) text) × (length x.now + length word ≡ length text))
    → MatchOption o ((rest : List ℕ) → text ≡ word ++ rest → ⊥) (λ rest. text ≡ word ++ rest.now)
behind_is text word None h = λ rest e.
    let front : take (length word) text ≡ word = ap (λ (t : List ℕ). take (length word) t) e ∙ take_at word rest (length word) refl in
    let same = (slice_eq-Decides Decides-eqb (take (length word) text) word _ refl).1 front in
    let clash : false ≡ true = sym h ∙ same in
    cc
behind_is text word (Some x) h =
    let front = (slice_eq-Decides Decides-eqb (take (length word) text) word _ refl).0 h.0 in
    sym (take-append-drop (length word) text) ∙ ap (λ (t : List ℕ). t ++ drop (length word) text) front ∙ ap (λ (t : List ℕ). word ++ t) (sym h.1)
