-- `array_at` lends bytes of a slice as an array, and the slice follows it.
use mathlib.Core.Path.{◌≡◌, refl, sym, ap, ◌∙◌}
use Prim.Native.Nat.{ℕ, ◌+◌, ◌-◌, ◌^◌, ◌<◌, ◌≤◌}
use native.Mathlib.Omega.{arith}
use mathlib.Core.List.{List, [], ◌∷◌, ◌++◌}
use lib.ListN.{length, take, drop as drop_list, take-append-drop, length-drop}
use lib.Seq.{drop-drop}
use mir.Syntax.{Args, Fn, named, w64, a_number, seq, assign, place, rv_opd, copy, return}
use mir.MapTy.{inst_fn}
use mir.Val.{vptr, vint}
use base.Fml.{ftrue, flft}
use prog.Memory.{size}
use contract.BorrowLft.{◌⊑◌}
use contract.Running.{tables}
use types.Kit.{‵, ◌⊛◌, given, some, later, at_ret, ◌$◌, ◌∵◌, !, qed, move, keep, drop, split, split3, join, learn, fsplit, fjoin, use2, await, pick, suffices, frame, done}
use types.Part.{whole, sub}
use types.Run.{stop, fld, hop, from, addr, bin, of_opd, first, blocks, exec, returns, enter}
use types.ByLocal.{alloc_all, pass_all, free_all, look_at, look_in_at, get, through, sets, sets_last, env}
use denote.Builtin.{u8, usize}
use denote.Exit.{yes, no}
use denote.Param.{param, number, layout, layouts, ArrayAt}
use denote.Plain.{uint_vals, uint_Tells}
use denote.RattleType.{owns}
use denote.Ref.{MutBor}
use denote.Signature.{plain, mut_slice_of}
use denote.Slice.{MutSlice, mut_slice_vals, mut_slice_Tells}
use denote.Steps.{nothing}
use denote.Triple.Walked.{says, Stays, stay_dropped, walk_of, ends_at, Goes-dropped, Goes-spent_slice}
use borrow.Table.Elements.{at, at_mul, length-take-le}
use Rattle.std.proofs.raw_atomic.Walks.{proved}
use Rattle.sl_edit.proofs.Arrays.{within_lent, lends_within}
use Rattle.sl_edit.specs.contracts.lending.array_at as f
use Rattle.sl_edit.proofs.lending.array_at.Statement.{statement}
use Rattle.sl_edit.proofs.lending.array_at.Code as code

abbrev stayed : (n : ℕ) → Stays (f.ended (number n)).signature.params (f.ended (number n)).kept
stayed n = (stay_dropped (mut_slice_of (0 ∷ []) tt (plain (λ _. u8))) no, (stay_dropped (plain (λ _. usize)) yes, tt))

pub array_at_spec : {M : Type 1} → statement M
array_at_spec 𝓤 𝓛 𝓜 𝓡 wired n fits =
    let N = number n in
    let args : Args = layouts (a_number ∷ []) (N, tt) in
    let e : Fn = inst_fn args code.function in
    let c = f.clauses N 𝓛 𝓜.mem 𝓡.returns in
    let W = walk_of 𝓛 (f.ended N) (stayed n) c in
    let 𝓣 = tables 𝓤 𝓛.H 𝓜 𝓡 𝓡.env in
    proved 𝓛 (f.ended N) (stayed n) c 𝓜 𝓡
    (Goes-spent_slice 𝓛 2 (0 ∷ []) tt (plain (λ _. u8)), (Goes-dropped 𝓛 2 (plain (λ _. usize)) yes (λ κs x w. refl), tt))
    (f.Key.name args) e (code.unfolded 𝓤 𝓛.H 𝓜 𝓡 wired (N, tt))
    (λ κs. (mut_slice_vals, (uint_vals w64, tt))) (λ κs. (mut_slice_Tells (named 0) κs.0 u8, (uint_Tells w64, tt))) (λ κs qs bounds a g are.
    let κ = κs.0 in let q = qs.0 in
    let packet : MutBor (List ℕ) = a.0 in let m : ℕ = a.1.0 in
    let b = packet.ref_ptr.0 in let o = packet.ref_ptr.1 in
    let xs : List ℕ = packet.now in
    let y : W.Ghost = ((κs, qs, bounds, a, (mut_slice_vals packet, (vint w64 m ∷ [], tt))), tt) in
    qed 𝓛 (((‵ (flft κ q) ⊛ ‵ (flft κs.1.0 qs.1.0) ⊛ ‵ ftrue) ⊛ ‵ (owns (MutSlice (named 0) κ u8 ∷ usize ∷ []) a y.0.4))
    ∷ (given (κs.1.0 ⊑ []) (‵ ftrue) ⊛ given (size (layout (ArrayAt u8 (param 0 N))) < 2 ^ 63) (‵ ftrue) ⊛ given (m + n ≤ length xs) (‵ ftrue)) ∷ []) ∵
    move ! (1 ∷ []) $ split3 ! $ drop ! $ drop ! $ learn ! (λ inside. drop ! $
    let front : List ℕ = take m xs in
    let mid : List ℕ = take n (drop_list m xs) in
    let back : List ℕ = drop_list (m + n) xs in
    let front_long : length front ≡ m = length-take-le m xs (omega arith) in
    let rest_long : length (drop_list m xs) ≡ length xs - m = length-drop m xs in
    let long : length mid ≡ n = length-take-le n (drop_list m xs) (omega arith) in
    let on : at o 1 (length front) ≡ m + o = at_mul o 1 (length front) ∙ omega (arith, front_long) in
    let cut : xs ≡ front ++ (mid ++ back) = sym (take-append-drop m xs)
    ∙ ap (λ (l : List ℕ). front ++ l) (sym (take-append-drop n (drop_list m xs)) ∙ ap (λ (l : List ℕ). mid ++ l) (drop-drop n m xs)) in
    enter ! _ _ _ _ _ $ alloc_all ! (λ l. pass_all ! refl ((tt, (tt, (record { fits = are.0.0.1.0 }, tt))), ((tt, record { fits = are.1.0.1 }), tt)) $
    -- the pointer to the byte, as one to the array
    first ! $ blocks ! $
    sets ! (addr ! (from ! (fld ! refl (hop ! (look_in_at ! 1 (sub ! 0 refl (whole !))) (stop !))))) refl (tt, tt) $
    sets ! (bin ! (get ! refl) (get ! refl) tt) refl (tt, tt) $
    sets ! (of_opd ! (get ! refl)) refl (tt, tt) $
    sets_last ! (addr ! (through ! refl (stop !))) refl (tt, tt) $
    exec ! 𝓣.C 𝓣.Λ (env e.locals l) (seq (assign (place 0 []) (rv_opd (copy (place 3 [])))) return) (at_ret _ (W.post y)) $
    sets ! (of_opd ! (get ! refl)) refl (tt, tt) $
    -- [the slice; the token of κ; the index; the token of κ₁; the locals]
    split ! $ split ! $ move ! (2 ∷ []) $ fsplit ! $ move ! (0 ∷ 2 ∷ []) $
    use2 𝓛 (later (some (within_lent 𝓛 (named 0) κ q b o packet.ghost_name n xs front mid back cut long (m + o) on))) (lends_within 𝓛 (named 0) κ q b o packet.ghost_name n xs front mid back cut long (m + o) on (mut_slice_vals packet)) $ await ! tt $ pick ! (λ δ.
    returns ! (look_at ! 0 refl) $ free_all ! refl $ keep ! (0 ∷ 2 ∷ []) $ split3 ! $
    suffices ! _ (ends_at 𝓛 (f.ended N) (stayed n) c y (vptr b (m + o)) (record { ref_ptr = (b, m + o); ghost_name = δ; now = mid }) (tt, (tt, tt)) (tt, (tt, tt))) $
    nothing ! $ nothing ! $ fjoin ! $ nothing ! $ fjoin ! $ join ! $ move ! (1 ∷ 3 ∷ []) $ join ! $ join ! $ frame ! $ says ! refl $ done !))))
