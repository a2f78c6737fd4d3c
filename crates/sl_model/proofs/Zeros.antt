-- Bytes past a cut.
use Rattle.std.proofs.Common.{◌≡◌, ℕ, ◌+◌, ◌-◌, ◌≤◌, List, [], ◌∷◌, Option, None, Bool, true, false, cond, refl, sym, ap, ◌∙◌, arith, length}
use Rattle.std.specs.Prelude.{◌==◌, ◌&&◌, ◌||◌, not, nat_lt, nat_le, slice_index}
use Rattle.std.specs.Option.{unwrap_or}
use Rattle.std.specs.Ordering.{nat_cmp}
use Rattle.std.proofs.lemmas.Map.Lookups.{CmpEqualImpliesEq, exact_pairs, exact_unsigned}
use Rattle.std.specs.FinMap.{FinMap, get, get-retain_keys}
use Rattle.sl_model.specs.Volume.{Unstable, place_cmp, byte_after, byte_after_write, put_bytes, put_writes, without_file, cut_at}
use Rattle.sl_model.specs.Laws.{CutsBytes, GrowsByZeros}

exact_places : CmpEqualImpliesEq place_cmp
exact_places = exact_pairs nat_cmp nat_cmp exact_unsigned exact_unsigned

pub missed : (f at : ℕ) (w : Unstable) (b : ℕ) → w.fileid == f ≡ false → byte_after_write f at w b ≡ b
missed f at w b e = ap (λ t. cond (t && (nat_le w.offset at && nat_lt at (w.offset + length w.bytes))) (slice_index w.bytes (at - w.offset)) b) e

-- a file without unstable writes has its stable bytes
pub cleared : (f at : ℕ) (ws : List Unstable) (b : ℕ) → byte_after f at (without_file f ws) b ≡ b
cleared f at [] b = refl
cleared f at (w ∷ ws) b =
    elim (w.fileid == f) as (λ t. w.fileid == f ≡ t → byte_after f at (cond t (without_file f ws) (w ∷ without_file f ws)) b ≡ b) [
      | true ↦ λ e. cleared f at ws b
      | false ↦ λ e. ap (byte_after f at (without_file f ws)) (missed f at w b e) ∙ cleared f at ws b
    ] refl

-- a cut leaves nothing from there on
none_left : (f size at : ℕ) (m : FinMap place_cmp ℕ) → size ≤ at → get (cut_at f size m) (f, at) ≡ None
none_left f size at m h =
    get-retain_keys m (λ k. not (k.0 == f) || nat_lt k.1 size) (f, at) (λ x e. ap (λ k. not (k.0 == f) || nat_lt k.1 size) (sym (exact_places (f, at) x e)))
    ∙ ap (λ b. cond b (get m (f, at)) None) past
  where
    past : not (f == f) || nat_lt at size ≡ false
    past = grind (arith, h)

-- what isn't there stays away in a cut
still_none : (f size at : ℕ) (m : FinMap place_cmp ℕ) → get m (f, at) ≡ None → get (cut_at f size m) (f, at) ≡ None
still_none f size at m h =
    get-retain_keys m (λ k. not (k.0 == f) || nat_lt k.1 size) (f, at) (λ x e. ap (λ k. not (k.0 == f) || nat_lt k.1 size) (sym (exact_places (f, at) x e)))
    ∙ ap (λ o. cond (not (f == f) || nat_lt at size) o None) h ∙ same (not (f == f) || nat_lt at size)
  where
    same : (b : Bool) → ◌≡◌ {A = Option ℕ} (cond b None None) None
    same true = refl
    same false = refl

pub cuts_bytes : CutsBytes
cuts_bytes v f n at h =
    cleared f at v.unstable (unwrap_or (get (cut_at f n.size (put_writes f v.unstable v.written)) (f, at)) 0)
    ∙ ap (λ o. unwrap_or o 0) (none_left f n.size at (put_writes f v.unstable v.written) h)

-- no writes of the file are left to be made stable
nothing_put : (f : ℕ) (ws : List Unstable) (m : FinMap place_cmp ℕ) → put_writes f (without_file f ws) m ≡ m
nothing_put f [] m = refl
nothing_put f (w ∷ ws) m =
    elim (w.fileid == f) as (λ t. w.fileid == f ≡ t → put_writes f (cond t (without_file f ws) (w ∷ without_file f ws)) m ≡ m) [
      | true ↦ λ e. nothing_put f ws m
      | false ↦ λ e. ap (λ t. put_writes f (without_file f ws) (cond t (put_bytes f w.offset w.bytes m) m)) e ∙ nothing_put f ws m
    ] refl

pub grows_by_zeros : GrowsByZeros
grows_by_zeros v f less more at h =
    let m = cut_at f less.size (put_writes f v.unstable v.written) in
    cleared f at (without_file f v.unstable) (unwrap_or (get (cut_at f more.size (put_writes f (without_file f v.unstable) m)) (f, at)) 0)
    ∙ ap (λ o. unwrap_or o 0) (ap (λ z. get (cut_at f more.size z) (f, at)) (nothing_put f v.unstable m) ∙ still_none f more.size at m (none_left f less.size at (put_writes f v.unstable v.written) h))
