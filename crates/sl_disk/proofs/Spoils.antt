-- How junk grows, byte by byte.
use Rattle.std.proofs.Common.{◌≡◌, ℕ, zero, suc, ◌+◌, ◌-◌, ◌*◌, ◌%◌, ◌<◌, ◌≤◌, List, [], ◌∷◌, ◌++◌, length, get_or, set, take, drop, refl, sym, ◌∙◌, ap, arith, append_assoc, length-append}
use Rattle.std.proofs.lemmas.List.{set_at, drop_more, length-take, append-nil, take-append-drop}
use Rattle.sl_disk.specs.Shelf.{put}
use Rattle.sl_disk.specs.Images.{junk}

pub length-junk : (i q n : ℕ) → length (junk i q n) ≡ n
length-junk i q zero = refl
length-junk i q (suc n) = ap suc (length-junk i (q + 1) n)

junk_push : (i q n : ℕ) → junk i q (suc n) ≡ junk i q n ++ ((167 * i + (q + n)) % 256) ∷ []
junk_push i q zero = ap (λ (k : ℕ). ((167 * i + k) % 256) ∷ []) (omega arith)
junk_push i q (suc n) =
    ap (λ (l : List ℕ). ((167 * i + q) % 256) ∷ l) (junk_push i (q + 1) n)
    ∙ ap (λ (k : ℕ). junk i q (suc n) ++ ((167 * i + k) % 256) ∷ []) (omega arith)

-- one byte more in the place of one
put_push : (file js : List ℕ) (from place byte : ℕ) → place ≡ from + length js → place < length file → set (put file from js) place byte ≡ put file from (js ++ byte ∷ [])
put_push file js from place byte is within =
    let front : List ℕ = take from file ++ js in
    let size : length front ≡ place = omega (arith, length-append (take from file) js, length-take from file) in
    let rest : drop (from + length js) file ≡ get_or file place 0 ∷ drop (place + 1) file = ap (λ (k : ℕ). drop k file) (sym is) ∙ drop_more file place 0 within in
    let here : put file from js ≡ front ++ get_or file place 0 ∷ drop (place + 1) file = ap (λ (l : List ℕ). front ++ l) rest in
    let same_end : drop (place + 1) file ≡ drop (from + length (js ++ byte ∷ [])) file = ap (λ (k : ℕ). drop k file) (omega (arith, length-append js (byte ∷ []))) in
    ap (λ (l : List ℕ). set l place byte) here
    ∙ set_at front (get_or file place 0) (drop (place + 1) file) byte place size
    ∙ ap (λ (l : List ℕ). front ++ byte ∷ l) same_end
    ∙ sym (append_assoc front (byte ∷ []) (drop (from + length (js ++ byte ∷ [])) file))
    ∙ ap (λ (l : List ℕ). l ++ drop (from + length (js ++ byte ∷ [])) file) (append_assoc (take from file) js (byte ∷ []))

pub spoils_more : (file now : List ℕ) (i from place byte : ℕ) → now ≡ put file from (junk i from (place - from)) → from ≤ place → place < length file → byte ≡ (167 * i + place) % 256 → set now place byte ≡ put file from (junk i from (place + 1 - from))
spoils_more file now i from place byte so_far order within is =
    let n : ℕ = place - from in
    let longer : place + 1 - from ≡ suc n = omega arith in
    let here : from + n ≡ place = omega arith in
    ap (λ (l : List ℕ). set l place byte) so_far
    ∙ put_push file (junk i from n) from place byte (omega (arith, length-junk i from n)) within
    ∙ ap (λ (b : ℕ). put file from (junk i from n ++ b ∷ [])) (is ∙ ap (λ (k : ℕ). (167 * i + k) % 256) (sym here))
    ∙ ap (λ (l : List ℕ). put file from l) (sym (junk_push i from n) ∙ ap (λ (k : ℕ). junk i from k) (sym longer))

-- before the first byte
pub spoils_none : (file : List ℕ) (i from : ℕ) → put file from (junk i from (from - from)) ≡ file
spoils_none file i from =
    let none : from - from ≡ 0 = omega arith in
    let here : from + 0 ≡ from = omega arith in
    ap (λ (k : ℕ). put file from (junk i from k)) none
    ∙ ap (λ (k : ℕ). take from file ++ [] ++ drop k file) here
    ∙ ap (λ (l : List ℕ). l ++ drop from file) (append-nil (take from file))
    ∙ take-append-drop from file
