-- Some bytes of a `&mut [u8]` lent on as a `&mut [u8; n]`: the slice ends as the bytes before them, what the array ends as,
-- and the bytes behind them.
use mathlib.Core.Path.{◌≡◌, refl, sym, ap, ◌∙◌}
use Prim.Native.Nat.{ℕ, ◌+◌}
use native.Mathlib.Omega.{arith}
use mathlib.Core.List.{List, [], ◌∷◌, ◌++◌}
use lib.ListN.{length, length-append}
use seplogic.Ra.Ura.{Ura}
use mir.Syntax.{Lifetime}
use mir.Val.{Val, vptr}
use base.Logic.{SProp, ent, sep, ex}
use base.Fraction.{full_share}
use base.Stored.{coded_list}
use base.Fml.{Lft, GName, Share, fsep, feq, flft, fobs, fbor}
use types.Logic.{Logic, sem}
use types.Kit.{Item, ‵, ◌⊛◌, ◌$◌, ◌∵◌, !, qed, move, drop, fsplit, fsplit3, fjoin, updating, await, later, some, use1, use2, group, pick, now, show, done, split, split3, join, fjoin3, rewrite, feq_l, feq_i}
use types.SemTy.{cells, Arr, Body}
use types.Follow.{takes_part}
use types.Mut.{open_ref}
use denote.Array.{Array}
use denote.ArrayMemory.{Array-apart, Array-whole}
use denote.Builtin.{u8}
use denote.Follow.{follows}
use denote.FollowSlice.{heres_id}
use denote.Index.{row, whole_in, whole_out}
use denote.Memory.{mem, part_at}
use denote.Ref.{MutRef}
use denote.Slice.{MutSlice}
use borrow.Table.Elements.{at, cut_app, join_app}

module _ {M : Type 1} {𝓤 : Ura M} (𝓛 : Logic 𝓤) (ℓ : Lifetime) (κ : Lft) (q : Share) (b o : ℕ) (γ : GName)
    (n : ℕ) (xs front mid back : List ℕ) (cut : xs ≡ front ++ (mid ++ back)) (long : length mid ≡ n) (p : ℕ) (on : at o 1 (length front) ≡ p) where
  open 𝓛 use {H, A}

  abbrev around : List ℕ → List ℕ
  around ws = front ++ (ws ++ back)

  -- the array under a new name, the token, and what the slice ends as
  abbrev pub within_lent : GName → Item 𝓤
  within_lent δ = ‵ ((MutRef ℓ κ (Array u8 n)).own_val (record { ref_ptr = (b, p); ghost_name = δ; now = mid }) (vptr b p ∷ [])) ⊛ ‵ (flft κ q) ⊛ ‵ (follows (Array u8 0) (Array u8 0) γ δ around)

  abbrev WithinLent : GName → SProp 𝓤
  WithinLent δ = sep 𝓤 (sem 𝓛 ((MutRef ℓ κ (Array u8 n)).own_val (record { ref_ptr = (b, p); ghost_name = δ; now = mid }) (vptr b p ∷ []))) (sep 𝓤 (A.lft κ q) (sem 𝓛 (follows (Array u8 0) (Array u8 0) γ δ around)))

  -- the bytes before and behind
  abbrev Others : SProp 𝓤
  Others = sep 𝓤 (sem 𝓛 (cells (mem u8) front b o)) (sem 𝓛 (cells (mem u8) back b (at p 1 n)))

  put_within : (ws : List ℕ) → ent 𝓤 (sep 𝓤 (sem 𝓛 ((mem (Array u8 n)).own_at ws b p)) Others) (sem 𝓛 ((Arr (mem u8) (length xs)).own_at (around ws) b o))
  put_within ws = qed 𝓛 (‵ (part_at (Array u8 n) full_share ws b p) ∷ ‵ (cells (mem u8) front b o) ∷ ‵ (cells (mem u8) back b (at p 1 n)) ∷ []) ∵
      use1 𝓛 (‵ (fsep (feq ℕ (length ws) n) (row u8 full_share ws b p))) (Array-apart 𝓛 u8 full_share tt n ws b p) $ fsplit ! $ feq_l ! (λ e.
      use1 𝓛 (‵ (cells (mem u8) ws b p)) (whole_in 𝓛 u8 ws b p) $
      let whole : length xs ≡ length front + length (mid ++ back) = ap length cut ∙ length-append front (mid ++ back) in
      let inner : length (mid ++ back) ≡ length mid + length back = length-append mid back in
      let now_whole : length (around ws) ≡ length front + length (ws ++ back) = length-append front (ws ++ back) in
      let now_inner : length (ws ++ back) ≡ length ws + length back = length-append ws back in
      rewrite ! 2 (λ (k : ℕ). ‵ (cells (mem u8) back b (at p 1 k))) (sym e) refl $ move ! (0 ∷ 2 ∷ []) $
      use2 𝓛 (‵ (cells (mem u8) (ws ++ back) b p)) (join_app 𝓛 (mem u8) ws back b p) $
      rewrite ! 0 (λ (k : ℕ). ‵ (cells (mem u8) (ws ++ back) b k)) (sym on) refl $ move ! (1 ∷ 0 ∷ []) $
      use2 𝓛 (‵ (cells (mem u8) (around ws) b o)) (join_app 𝓛 (mem u8) front (ws ++ back) b o) $
      feq_i ! ℕ (length (around ws)) (length xs) (omega arith) $ fjoin ! $ done !)

  pub lends_within : (vs : List Val)
      → ent 𝓤 (sep 𝓤 (sem 𝓛 ((MutSlice ℓ κ u8).own_val (record { ref_ptr = (b, o); ghost_name = γ; now = xs }) vs)) (A.lft κ q)) (H.⇛ (ex 𝓤 WithinLent))
  lends_within vs = qed 𝓛 (‵ ((MutSlice ℓ κ u8).own_val (record { ref_ptr = (b, o); ghost_name = γ; now = xs }) vs) ∷ ‵ (flft κ q) ∷ []) ∵ updating ! $ fsplit3 ! $ drop ! $
      rewrite ! 0 (λ (l : List ℕ). ‵ (fobs γ ((coded_list u8.coded).code l))) (heres_id u8 xs) refl $ open_ref ! tt (Arr (mem u8) (length xs)) {b = b} {o = o} $ fsplit ! $ drop ! $
      rewrite ! 0 (λ (l : List ℕ). ‵ (cells (mem u8) l b o)) cut refl $
      use1 𝓛 (‵ (cells (mem u8) front b o) ⊛ ‵ (cells (mem u8) (mid ++ back) b (at o 1 (length front)))) (cut_app 𝓛 (mem u8) front (mid ++ back) b o) $ split ! $ move ! (1 ∷ []) $
      rewrite ! 0 (λ (k : ℕ). ‵ (cells (mem u8) (mid ++ back) b k)) on refl $
      use1 𝓛 (‵ (cells (mem u8) mid b p) ⊛ ‵ (cells (mem u8) back b (at p 1 (length mid)))) (cut_app 𝓛 (mem u8) mid back b p) $ split ! $
      rewrite ! 1 (λ (k : ℕ). ‵ (cells (mem u8) back b (at p 1 k))) long refl $
      use1 𝓛 (‵ (row u8 full_share mid b p)) (whole_out 𝓛 u8 mid b p) $ feq_i ! ℕ (length mid) n long $ fjoin ! $
      use1 𝓛 (‵ (part_at (Array u8 n) full_share mid b p)) (Array-whole 𝓛 u8 full_share n mid b p) $
      move ! (2 ∷ 1 ∷ []) $ join ! $ move ! (2 ∷ 3 ∷ 4 ∷ 1 ∷ 0 ∷ []) $ group ! 5 $
      use1 𝓛 (later (some (λ (δ : GName). ‵ (fobs δ ((coded_list u8.coded).code mid)) ⊛ ‵ (fbor κ (Body (mem (Array u8 n)) b p δ)) ⊛ ‵ (flft κ q) ⊛ ‵ (follows (Array u8 0) (Array u8 0) γ δ around))))
      (takes_part 𝓛 (Arr (mem u8) (length xs)) (mem (Array u8 n)) around κ q b o b p γ Others put_within ((coded_list u8.coded).code xs) ((coded_list u8.coded).code xs) mid) $ await ! tt $ pick ! (λ δ. split3 ! $
      feq_i ! (List Val) (vptr b p ∷ []) (vptr b p ∷ []) refl $ fjoin3 ! $ now ! $ show ! WithinLent δ $ done !)
