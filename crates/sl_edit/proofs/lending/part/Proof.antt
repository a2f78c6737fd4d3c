-- `part` lends bytes of a slice, and the slice follows them.
use mathlib.Core.Path.{◌≡◌, refl, sym, ap, ◌∙◌}
use Prim.Native.Nat.{ℕ, ◌+◌, ◌-◌, ◌*◌, ◌^◌, ◌<◌, ◌≤◌}
use native.Mathlib.Omega.{arith}
use mathlib.Core.List.{List, [], ◌∷◌, ◌++◌}
use lib.ListN.{length, take, drop as drop_list, take-append-drop, length-drop}
use lib.Seq.{drop-drop}
use mir.Syntax.{named, w64}
use mir.Val.{vint}
use base.Fml.{ftrue, flft}
use contract.Running.{tables}
use types.Kit.{‵, ◌⊛◌, given, some, later, at_ret, ◌$◌, ◌∵◌, !, qed, move, keep, drop, split, split3, join, learn, fsplit, fjoin, use2, await, pick, rewrite, suffices, frame, done}
use types.Part.{whole, sub, agg}
use types.Run.{stop, fld, hop, from, addr, bin, of_opd, and_then, no_more, first, blocks, exec, returns, enter}
use types.ByLocal.{alloc_all, pass_all, free_all, look_at, look_in_at, get, sets, sets_last, env}
use denote.Builtin.{u8, usize}
use denote.Exit.{yes, no}
use denote.Plain.{uint_vals, uint_Tells}
use denote.RattleType.{owns}
use denote.Ref.{MutBor}
use denote.Signature.{plain, mut_slice_of}
use denote.Slice.{MutSlice, Room, slice_val, mut_slice_vals, mut_slice_Tells}
use denote.Steps.{nothing}
use denote.Triple.Walked.{says, Stays, stay_dropped, walk_of, ends_at, Goes-dropped, Goes-spent_slice}
use borrow.Table.Elements.{at, at_mul, length-take-le}
use Rattle.std.proofs.raw_atomic.Walks.{proved}
use Rattle.sl_edit.proofs.Parts.{part_lent, lends_part}
use Rattle.sl_edit.specs.contracts.lending.part as f
use Rattle.sl_edit.proofs.lending.part.Statement.{statement}
use Rattle.sl_edit.proofs.lending.part.Code as code

abbrev stayed : Stays f.ended.signature.params f.ended.kept
stayed = (stay_dropped (mut_slice_of (0 ∷ []) tt (plain (λ _. u8))) no, (stay_dropped (plain (λ _. usize)) yes, (stay_dropped (plain (λ _. usize)) yes, tt)))

pub part_spec : {M : Type 1} → statement M
part_spec 𝓤 𝓛 𝓜 𝓡 wired =
    let c = f.clauses 𝓛 𝓜.mem 𝓡.returns in
    let W = walk_of 𝓛 f.ended stayed c in
    let 𝓣 = tables 𝓤 𝓛.H 𝓜 𝓡 𝓡.env in
    let goes = Goes-dropped 𝓛 1 (plain (λ _. usize)) yes (λ κs x w. refl) in
    proved 𝓛 f.ended stayed c 𝓜 𝓡
    (Goes-spent_slice 𝓛 1 (0 ∷ []) tt (plain (λ _. u8)), (goes, (goes, tt)))
    f.Key.name code.function (code.unfolded 𝓤 𝓛.H 𝓜 𝓡 wired)
    (λ κs. (mut_slice_vals, (uint_vals w64, (uint_vals w64, tt)))) (λ κs. (mut_slice_Tells (named 0) κs.0 u8, (uint_Tells w64, (uint_Tells w64, tt)))) (λ κs qs bounds a g are.
    let κ = κs.0 in let q = qs.0 in
    let packet : MutBor (List ℕ) = a.0 in let m : ℕ = a.1.0 in let e : ℕ = a.1.1.0 in
    let b = packet.ref_ptr.0 in let o = packet.ref_ptr.1 in
    let xs : List ℕ = packet.now in
    let y : W.Ghost = ((κs, qs, bounds, a, (mut_slice_vals packet, (vint w64 m ∷ [], (vint w64 e ∷ [], tt)))), tt) in
    qed 𝓛 (((‵ (flft κ q) ⊛ ‵ ftrue) ⊛ ‵ (owns (MutSlice (named 0) κ u8 ∷ usize ∷ usize ∷ []) a y.0.4))
    ∷ (given (m ≤ e) (‵ ftrue) ⊛ given (e ≤ length xs) (‵ ftrue)) ∷ []) ∵
    move ! (1 ∷ []) $ split ! $ learn ! (λ ordered. drop ! $ learn ! (λ inside. drop ! $
    let k : ℕ = e - m in
    let front : List ℕ = take m xs in
    let mid : List ℕ = take k (drop_list m xs) in
    let back : List ℕ = drop_list e xs in
    let room : Room u8 (length xs) = are.0.0.1 in
    let short : length xs < 2 ^ 64 = room.0 in
    let few : length xs * 1 < 2 ^ 63 = room.1 in
    let fits : k < 2 ^ 64 = omega arith in
    let front_long : length front ≡ m = length-take-le m xs (omega arith) in
    let rest_long : length (drop_list m xs) ≡ length xs - m = length-drop m xs in
    let long : length mid ≡ k = length-take-le k (drop_list m xs) (omega arith) in
    let mid_room : Room u8 (length mid) = (omega arith, omega arith) in
    let on : at o 1 (length front) ≡ m + o = at_mul o 1 (length front) ∙ omega (arith, front_long) in
    let behind : drop_list k (drop_list m xs) ≡ back = drop-drop k m xs ∙ ap (λ (i : ℕ). drop_list i xs) (omega arith) in
    let cut : xs ≡ front ++ (mid ++ back) = sym (take-append-drop m xs)
    ∙ ap (λ (l : List ℕ). front ++ l) (sym (take-append-drop k (drop_list m xs)) ∙ ap (λ (l : List ℕ). mid ++ l) behind) in
    enter ! _ _ _ _ _ $ alloc_all ! (λ l. pass_all ! refl ((tt, (tt, (record { fits = short }, tt))), ((tt, record { fits = are.1.0.1 }), ((tt, record { fits = are.1.1.0.1 }), tt))) $
    sets ! (bin ! (get ! refl) (get ! refl) ordered) refl (tt, record { fits = fits }) $
    -- the pointer to the first byte, and how many there are
    first ! $ blocks ! $
    sets ! (addr ! (from ! (fld ! refl (hop ! (look_in_at ! 1 (sub ! 0 refl (whole !))) (stop !))))) refl (tt, tt) $
    sets ! (bin ! (get ! refl) (get ! refl) tt) refl (tt, tt) $
    sets_last ! (agg ! (and_then ! (get ! refl) (and_then ! (get ! refl) (no_more !)))) refl (tt, (tt, (record { fits = fits }, tt))) $
    exec ! 𝓣.C 𝓣.Λ (env code.function.locals l) code.Mir.t-3 (at_ret _ (W.post y)) $
    sets ! (of_opd ! (get ! refl)) refl (tt, (tt, (record { fits = fits }, tt))) $
    -- [the slice; the token; the places; the locals]
    split ! $ move ! (1 ∷ []) $ fsplit ! $ move ! (2 ∷ []) $ split ! $ move ! (2 ∷ 0 ∷ []) $
    use2 𝓛 (later (some (part_lent 𝓛 (named 0) κ q b o packet.ghost_name xs front mid back cut (m + o) on))) (lends_part 𝓛 (named 0) κ q b o packet.ghost_name xs front mid back cut (m + o) on mid_room (mut_slice_vals packet)) $ await ! tt $ pick ! (λ δ.
    returns ! (look_at ! 0 refl) $ free_all ! refl $ keep ! (0 ∷ 1 ∷ []) $ split3 ! $
    rewrite ! 0 (λ (i : ℕ). ‵ ((MutSlice (named 0) κ u8).own_val (record { ref_ptr = (b, m + o); ghost_name = δ; now = mid }) (slice_val (b, m + o) i ∷ []))) long refl $
    suffices ! _ (ends_at 𝓛 f.ended stayed c y (slice_val (b, m + o) k) (record { ref_ptr = (b, m + o); ghost_name = δ; now = mid }) (tt, (tt, (tt, tt))) (tt, (tt, (tt, tt)))) $
    nothing ! $ nothing ! $ fjoin ! $ nothing ! $ fjoin ! $ nothing ! $ fjoin ! $ join ! $ move ! (1 ∷ 3 ∷ []) $ join ! $ join ! $ frame ! $ says ! refl $ done !)))))
