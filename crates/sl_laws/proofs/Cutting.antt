-- The bytes past a cut stay zero.
use Rattle.std.proofs.Common.{◌≡◌, ℕ, suc, ◌+◌, ◌-◌, List, [], ◌∷◌, ◌++◌, None, Bool, true, false, cond, length, refl, ap, subst, ◌∙◌, arith}
use Rattle.std.specs.Prelude.{◌≢◌, ◌==◌, ◌&&◌, ◌||◌, not, nat_lt, nat_le, slice_index}
use Rattle.std.specs.List.{AllByRecursion}
use Rattle.std.proofs.lemmas.Bool.{eqb-true}
use Rattle.std.specs.Option.{unwrap_or}
use Rattle.std.specs.FinMap.{get, insert}
use Rattle.sl_model.specs.Volume.{Volume, Unstable, Change, PutNode, TakeNode, PutName, TakeName, PutText, PutBytes, AddWrite, changed, after_changes, byte_after, put_bytes, put_writes, without_file}
use Rattle.sl_laws.specs.Laws.{takes_in, writes_byte, CutsStayZero}
use Rattle.sl_laws.proofs.Bytes.{Bytes, put_else, cut_get, none_cut}

-- no write of the list takes in that byte
abbrev Passed : ℕ → ℕ → List Unstable → Type 0
Passed f at ws = AllByRecursion (λ (w : Unstable). takes_in f at w.fileid w.offset (length w.bytes) ≡ false) ws

record Untouched (f at : ℕ) (v : Volume) : Type 0 where
  stable : get v.written (f, at) ≡ None
  unstable : Passed f at v.unstable

zero_then : (f at : ℕ) (ws : List Unstable) (b : ℕ) → Passed f at ws → byte_after f at ws b ≡ b
zero_then f at [] b h = refl
zero_then f at (w ∷ ws) b h =
    ap (λ t. byte_after f at ws (cond t (slice_index w.bytes (at - w.offset)) b)) h.0 ∙ zero_then f at ws b h.1

first_apart : (f at g from n : ℕ) → takes_in f at g from (suc n) ≡ false → ◌≢◌ {A = ℕ × ℕ} (f, at) (g, from)
first_apart f at g from n h e =
    let a : f ≡ g = ap (λ (q : ℕ × ℕ). q.0) e in
    let b : at ≡ from = ap (λ (q : ℕ × ℕ). q.1) e in
    grind (arith, h, a, b)

rest_apart : (f at g from n : ℕ) → takes_in f at g from (suc n) ≡ false → takes_in f at g (from + 1) n ≡ false
rest_apart f at g from n h = grind (arith, h)

put_past : (f at g from : ℕ) (bs : List ℕ) (m : Bytes) → takes_in f at g from (length bs) ≡ false → get (put_bytes g from bs m) (f, at) ≡ get m (f, at)
put_past f at g from [] m h = refl
put_past f at g from (b ∷ bs) m h =
    put_past f at g (from + 1) bs (insert m (g, from) b) (rest_apart f at g from (length bs) h) ∙ put_else m (g, from) b (f, at) (first_apart f at g from (length bs) h)

writes_past : (f at g : ℕ) (ws : List Unstable) (m : Bytes) → Passed f at ws → get (put_writes g ws m) (f, at) ≡ get m (f, at)
writes_past f at g [] m h = refl
writes_past f at g (w ∷ ws) m h = writes_past f at g ws (cond (w.fileid == g) (put_bytes g w.offset w.bytes m) m) h.1 ∙ one (w.fileid == g) refl
  where
    one : (b : Bool) → (w.fileid == g) ≡ b → get (cond b (put_bytes g w.offset w.bytes m) m) (f, at) ≡ get m (f, at)
    one true e = put_past f at g w.offset w.bytes m (subst (λ z. takes_in f at z w.offset (length w.bytes) ≡ false) (eqb-true w.fileid g e) h.0)
    one false e = refl

still_passed : (f at g : ℕ) (ws : List Unstable) → Passed f at ws → Passed f at (without_file g ws)
still_passed f at g [] h = tt
still_passed f at g (w ∷ ws) h = one (w.fileid == g) (still_passed f at g ws h.1)
  where
    one : (b : Bool) → Passed f at (without_file g ws) → Passed f at (cond b (without_file g ws) (w ∷ without_file g ws))
    one true r = r
    one false r = (h.0, r)

passed_more : (f at : ℕ) (ws : List Unstable) (w : Unstable) → Passed f at ws → takes_in f at w.fileid w.offset (length w.bytes) ≡ false → Passed f at (ws ++ w ∷ [])
passed_more f at [] w h e = (e, tt)
passed_more f at (x ∷ ws) w h e = (h.0, passed_more f at ws w h.1 e)

one_change : (f at : ℕ) (c : Change) (v : Volume) → writes_byte f at c ≡ false → Untouched f at v → Untouched f at (changed c v)
one_change f at (PutNode g n) v e u = record {
  stable = none_cut g n.size (put_writes g v.unstable v.written) (f, at) (writes_past f at g v.unstable v.written u.unstable ∙ u.stable);
  unstable = still_passed f at g v.unstable u.unstable;
}
one_change f at (TakeNode g) v e u = record { stable = none_cut g 0 v.written (f, at) u.stable; unstable = still_passed f at g v.unstable u.unstable }
one_change f at (PutName d name x) v e u = record { stable = u.stable; unstable = u.unstable }
one_change f at (TakeName d name) v e u = record { stable = u.stable; unstable = u.unstable }
one_change f at (PutText g text) v e u = record { stable = u.stable; unstable = u.unstable }
one_change f at (PutBytes g from bytes) v e u = record { stable = put_past f at g from bytes v.written e ∙ u.stable; unstable = u.unstable }
one_change f at (AddWrite w) v e u = record { stable = u.stable; unstable = passed_more f at v.unstable w u.unstable e }

all_changes : (f at : ℕ) (cs : List Change) (v : Volume) → AllByRecursion (λ c. writes_byte f at c ≡ false) cs → Untouched f at v → Untouched f at (after_changes cs v)
all_changes f at [] v h u = u
all_changes f at (c ∷ cs) v h u = all_changes f at cs (changed c v) h.1 (one_change f at c v h.0 u)

-- no write of the file is left
none_of : (f at : ℕ) (ws : List Unstable) → Passed f at (without_file f ws)
none_of f at [] = tt
none_of f at (w ∷ ws) = one (w.fileid == f) refl (none_of f at ws)
  where
    one : (b : Bool) → (w.fileid == f) ≡ b → Passed f at (without_file f ws) → Passed f at (cond b (without_file f ws) (w ∷ without_file f ws))
    one true e r = r
    one false e r = (ap (λ t. t && (nat_le w.offset at && nat_lt at (w.offset + length w.bytes))) e, r)

pub cuts_stay_zero : CutsStayZero
cuts_stay_zero v f n at cs past h =
    let m = put_writes f v.unstable v.written in
    let gone : not (f == f) || nat_lt at n.size ≡ false = grind (arith, past) in
    let start : Untouched f at (changed (PutNode f n) v) = record {
      stable = cut_get f n.size m (f, at) ∙ ap (λ b. cond b (get m (f, at)) None) gone;
      unstable = none_of f at v.unstable;
    } in
    let u = all_changes f at cs (changed (PutNode f n) v) h start in
    let w = after_changes cs (changed (PutNode f n) v) in
    zero_then f at w.unstable (unwrap_or (get w.written (f, at)) 0) u.unstable ∙ ap (λ o. unwrap_or o 0) u.stable
