-- `new` lends the packet on in a view, and else leaves it as it is.
use mathlib.Core.Path.{◌≡◌, refl, ap, subst, ◌∙◌}
use Prim.Native.Nat.{ℕ, ◌^◌, ◌<◌}
use mathlib.Core.Bool.{Bool, true, false}
use mathlib.Core.List.{List, [], ◌∷◌}
use lib.Dec.{lit<}
use lib.ListN.{length}
use mir.Syntax.{named}
use mir.Val.{Val, vbool, vstruct, vcons, vnil, of_list}
use base.Logic.{ent, emp, id⊢}
use base.Fml.{GName, fsep, ftrue, flft, fobs, fres}
use contract.Monad.{fact, fact_i}
use contract.Running.{tables}
use types.Kit.{‵, ◌⊛◌, raw, some, later, at_ret, ◌$◌, ◌∵◌, !, qed, move, drop, split, split3, join, fsplit, fsplit3, fjoin, fpick, fpack, feq_l, feq_i, use0, use1, use2, await, pick, rewrite, suffices, done}
use types.Match.{live}
use types.Part.{whole, sub, agg}
use types.Run.{stop, fld, hop, from, addr, of_opd, lit, no_more, and_then, first, branches, exec, returns, enter}
use types.ByLocal.{alloc_all, pass_all, free_all, look_at, look_in_at, get, get_in, sets, sets_last, lands_as, env}
use types.Logic.{Logic, sem}
use seplogic.Ra.Ura.{Ura}
use borrow.Follows.Kept.{follows_itself}
use denote.Array.{Array}
use denote.FollowSlice.{heres_id}
use denote.Builtin.{u8, bool}
use denote.Exit.{no}
use denote.Follow.{follows, follows_by}
use denote.RattleType.{RattleType, Valss, flat, owns}
use denote.Ref.{NamedLft, MutBor, as_bor}
use denote.Shadow.{pure_l, pure_i}
use denote.Signature.{plain, mut_slice_of, named_lft}
use denote.Slice.{MutSlice, Room, shr_slice_at, slice_val, mut_slice_vals, mut_slice_Tells}
use denote.Steps.{nothing, heard, only}
use denote.Struct.Struct.{within}
use denote.Struct.Declared.{shape}
use denote.Struct.Tuple.{Tuple}
use denote.Triple.Call.{calls_at}
use denote.Triple.Clauses.{lasts}
use denote.Triple.Spec.{triple_of}
use denote.Triple.Table.{framed}
use denote.Triple.Walked.{Stays, stay_dropped, walk_of, ends_at, Goes-spent_slice}
use Rattle.std.proofs.raw_atomic.Walks.{proved}
use Rattle.std.specs.Prelude.{Some, None, ◌↔◌}
use Rattle.std.specs.contracts.option.Option as option
use Rattle.sl_edit.proofs.Options.{is_true, is_false, some_of, none_of}
use Rattle.sl_edit.specs.Packets.{IsCall}
use Rattle.sl_edit.specs.contracts.call_view.CallView.{the_row}
use Rattle.sl_edit.specs.contracts.call_view.CallView.TheInside as inside
use Rattle.sl_edit.specs.declared.call_view.CallView.TheInside.{Inside}
use Rattle.sl_edit.specs.contracts.call_view.CallView.seek as seek
use Rattle.sl_edit.specs.contracts.call_view.CallView.new as f
use Rattle.sl_edit.proofs.call_view.CallView.seek.Met as seek_met
use Rattle.sl_edit.proofs.call_view.CallView.new.Statement.{statement}
use Rattle.sl_edit.proofs.call_view.CallView.new.Code as code

module _ {M : Type 1} {𝓤 : Ura M} (𝓛 : Logic 𝓤) (ℓ : NamedLft) where
  abbrev Bytes : RattleType
  Bytes = MutSlice ℓ.mir ℓ.lft u8

  -- what a view owns, made of what its packet owns
  view_of : (x : MutBor (List ℕ)) (v : Val) → ent 𝓤 (sem 𝓛 (Bytes.own_val x (v ∷ []))) (sem 𝓛 ((the_row ℓ).own_val x (vstruct (vcons v vnil) ∷ [])))
  view_of x v =
      let vs : List Val = vstruct (vcons v vnil) ∷ [] in
      qed 𝓛 (‵ (Bytes.own_val x (v ∷ [])) ∷ []) ∵ nothing ! $ move ! (1 ∷ 0 ∷ []) $ fjoin ! $ feq_i ! (List Val) vs vs refl $ fjoin ! $
      fpack ! (Valss (Bytes ∷ [])) (within (shape (inside.the_type ℓ)) (x, tt) vs) (v ∷ [], tt) $
      nothing ! $ move ! (1 ∷ 0 ∷ []) $ fjoin ! $
      fpack ! ((i : Inside) × ((i.packet ≡ x) × Unit {0})) (λ h. fsep ((inside.the_row ℓ).own_val h.0 vs) ftrue) (record { packet = x }, (refl, tt)) $ done !

abbrev stayed : Stays f.ended.signature.params f.ended.kept
stayed = (stay_dropped (mut_slice_of (0 ∷ []) tt (plain (λ _. u8))) no, tt)

pub new_spec : {M : Type 1} → statement M
unfolding follows_by
new_spec 𝓤 𝓛 𝓜 𝓡 wired =
    let c = f.clauses 𝓛 𝓜.mem 𝓡.returns in
    let W = walk_of 𝓛 f.ended stayed c in
    let 𝓣 = tables 𝓤 𝓛.H 𝓜 𝓡 𝓡.env in
    proved 𝓛 f.ended stayed c 𝓜 𝓡
    (Goes-spent_slice 𝓛 1 (0 ∷ []) tt (plain (λ _. u8)), tt)
    f.Key.name code.function (code.unfolded 𝓤 𝓛.H 𝓜 𝓡 wired)
    (λ κs. (mut_slice_vals, tt)) (λ κs. (mut_slice_Tells (named 0) κs.0 u8, tt)) (λ κs qs bounds a g are.
    let ℓ : NamedLft = named_lft 1 0 tt κs in
    let V : RattleType = the_row ℓ in
    let B : RattleType = MutSlice (named 0) κs.0 u8 in
    let packet : MutBor (List ℕ) = a.0 in
    let xs : List ℕ = packet.now in
    let room : Room u8 (length xs) = are.0.0.1 in
    let short : length xs < 2 ^ 64 = room.0 in
    let A : RattleType = Array u8 0 in
    let y : W.Ghost = ((κs, qs, bounds, a, (mut_slice_vals packet, tt)), tt) in
    qed 𝓛 (((‵ (flft κs.0 qs.0) ⊛ ‵ ftrue) ⊛ ‵ (owns (B ∷ []) a y.0.4)) ∷ raw (emp 𝓤) ∷ []) ∵
    move ! (1 ∷ []) $ drop ! $
    enter ! _ _ _ _ _ $ alloc_all ! (λ l. pass_all ! refl ((tt, (tt, (record { fits = short }, tt))), tt) $
    sets ! (addr ! (from ! (fld ! refl (hop ! (look_in_at ! 1 (sub ! 0 refl (whole !))) (stop !))))) refl (tt, tt) $
    sets ! (agg ! (and_then ! (get ! refl) (and_then ! (get_in ! (fld ! refl (stop !)) (sub ! 1 refl (whole !))) (no_more !)))) refl (tt, (tt, (record { fits = short }, tt))) $
    -- [the tokens and the packet; the locals]
    let G₁ = triple_of 𝓛 seek.signature (seek.spec 𝓛 𝓜.mem 𝓡.returns) in
    let z₁ : G₁.Ghost = ((κs, qs, bounds, a, (mut_slice_vals packet, tt)), tt) in
    nothing ! $ move ! (1 ∷ 0 ∷ []) $ use2 𝓛 (raw (G₁.pre z₁)) (id⊢ 𝓤 _) $
    calls_at ! (framed 𝓤 𝓛.H 𝓜 𝓣) G₁ (seek_met.met 𝓤 𝓛 𝓜 𝓡 (code.calls-sl_edit::call_view::CallView::seek 𝓡.env wired)) z₁ (and_then ! (get ! refl) (no_more !)) (λ v.
    use1 𝓛 (later (some (λ (r : Bool × MutBor (List ℕ)). ((‵ (flft κs.0 qs.0) ⊛ ‵ ftrue) ⊛ ‵ ((Tuple (bool ∷ B ∷ [])).own_val r (v ∷ [])))
    ⊛ some (λ (ws : Unit {0} × Unit {0}). ‵ (lasts seek.ended z₁.0.0 z₁.0.3 ws) ⊛ (raw (fact 𝓤 (r.1.ghost_name ≡ packet.ghost_name)) ⊛ raw (fact 𝓤 (r.1.now ≡ xs)) ⊛ raw (fact 𝓤 ((r.0 ≡ true) ↔ IsCall xs))))))) (id⊢ 𝓤 _) $
    await ! tt $ pick ! (λ r. split ! $ move ! (1 ∷ []) $ pick ! (λ ws. split ! $ drop ! $ split3 ! $ heard ! _ (λ same. heard ! _ (λ kept. heard ! _ (λ found.
    -- [the packet; the token; nothing; the locals]
    split ! $ split ! $ move ! (2 ∷ []) $ fpick ! (λ vss. fsplit ! $ feq_l ! (λ e. fsplit ! $ feq_l ! (λ eb. fsplit ! $ fsplit ! $ pure_l ! (shr_slice_at u8 (as_bor r.1) vss.1.0) (λ p.
    pure_i ! (shr_slice_at u8 (as_bor r.1) (mut_slice_vals r.1)) (tt, (tt, tt)) (refl, p.1) $ fjoin ! $ move ! (1 ∷ []) $ drop ! $
    let bytes : Val = slice_val r.1.ref_ptr (length r.1.now) in
    let is : v ≡ vstruct (vcons (vbool r.0) (vcons bytes vnil)) = ap only e ∙ (λ k. vstruct (of_list (flat (bool ∷ B ∷ []) (eb k, (p.0 k, tt))))) in
    lands_as ! is refl (tt, (tt, ((tt, (record { fits = p.1.0 }, tt)), tt))) $
    sets ! (of_opd ! (get_in ! (fld ! refl (stop !)) (sub ! 0 refl (whole !)))) refl (tt, tt) $
    sets ! (of_opd ! (get_in ! (fld ! refl (stop !)) (sub ! 1 refl (whole !)))) refl (tt, (tt, (record { fits = p.1.0 }, tt))) $
    sets ! (of_opd ! (get ! refl)) refl (tt, tt) $
    first ! $ branches ! (get ! refl)
    (λ held. sets ! (addr ! (from ! (fld ! refl (hop ! (look_in_at ! 3 (sub ! 0 refl (whole !))) (stop !))))) refl (tt, tt) $
    sets ! (agg ! (and_then ! (get ! refl) (and_then ! (get_in ! (fld ! refl (stop !)) (sub ! 1 refl (whole !))) (no_more !)))) refl (tt, (tt, (record { fits = p.1.0 }, tt))) $
    sets ! (agg ! (and_then ! (get ! refl) (no_more !))) refl (tt, ((tt, (record { fits = p.1.0 }, tt)), tt)) $
    sets_last ! (agg ! (and_then ! (lit ! tt) (and_then ! (get ! refl) (no_more !)))) refl (tt, (record { fits = lit< tt }, (((tt, (record { fits = p.1.0 }, tt)), tt), tt))) $
    exec ! 𝓣.C 𝓣.Λ (env code.function.locals l) code.Mir.t-8 (at_ret _ (W.post y)) $
    sets ! (of_opd ! (get ! refl)) refl (tt, (record { fits = lit< tt }, (((tt, (record { fits = p.1.0 }, tt)), tt), tt))) $
    returns ! (look_at ! 0 refl) $ free_all ! refl $
    let view : Val = vstruct (vcons bytes vnil) in
    use1 𝓛 (‵ (V.own_val r.1 (view ∷ []))) (view_of 𝓛 ℓ r.1 bytes) $
    use1 𝓛 (‵ ((option.the_row V).own_val (Some r.1) (live 1 (of_list (view ∷ [])) ∷ []))) (some_of 𝓛 V r.1 view) $
    move ! (1 ∷ 2 ∷ []) $ join ! $ move ! (1 ∷ []) $
    use0 𝓛 (‵ (follows A A r.1.ghost_name r.1.ghost_name (λ w. w))) (follows_itself 𝓛 A r.1.ghost_name) $
    rewrite ! 0 (λ (n : GName). ‵ (follows A A n r.1.ghost_name (λ w. w))) same refl $ move ! (1 ∷ 2 ∷ []) $
    suffices ! _ (ends_at 𝓛 f.ended stayed c y (live 1 (of_list (view ∷ []))) (Some r.1) (tt, tt) (tt, tt)) $
    nothing ! $ nothing ! $ fjoin ! $ join ! $ move ! (1 ∷ 0 ∷ []) $ join ! $
    use0 𝓛 (raw (fact 𝓤 ((true ≡ true) ↔ IsCall xs))) (fact_i 𝓤 _ (emp 𝓤) (subst (λ (b : Bool). (b ≡ true) ↔ IsCall xs) (is_true r.0 held) found)) $
    use0 𝓛 (raw (fact 𝓤 (r.1.now ≡ xs))) (fact_i 𝓤 _ (emp 𝓤) kept) $
    use0 𝓛 (raw (fact 𝓤 (r.1.ghost_name ≡ packet.ghost_name))) (fact_i 𝓤 _ (emp 𝓤) same) $ move ! (3 ∷ 4 ∷ []) $ done !)
    (λ failed. sets_last ! (agg ! (and_then ! (lit ! tt) (no_more !))) refl (tt, (record { fits = lit< tt }, tt)) $
    exec ! 𝓣.C 𝓣.Λ (env code.function.locals l) code.Mir.t-8 (at_ret _ (W.post y)) $
    sets ! (of_opd ! (get ! refl)) refl (tt, (record { fits = lit< tt }, tt)) $
    returns ! (look_at ! 0 refl) $ free_all ! refl $
    fsplit3 ! $ drop ! $ move ! (1 ∷ []) $ drop ! $
    rewrite ! 0 (λ (xs' : List ℕ). ‵ (fobs r.1.ghost_name (A.coded.code xs'))) (heres_id u8 r.1.now) refl $
    rewrite ! 0 (λ (n : GName). ‵ (fobs n (A.coded.code r.1.now))) same refl $ rewrite ! 0 (λ (xs' : List ℕ). ‵ (fobs packet.ghost_name (A.coded.code xs'))) kept refl $
    use1 𝓛 (‵ (fres packet.ghost_name (A.coded.code xs))) (𝓛.names.obs-res packet.ghost_name (A.coded.code xs)) $
    move ! (1 ∷ 2 ∷ []) $ join ! $ use0 𝓛 (‵ ((option.the_row V).own_val None (live 0 (of_list []) ∷ []))) (none_of 𝓛 V) $
    suffices ! _ (ends_at 𝓛 f.ended stayed c y (live 0 (of_list [])) None (tt, tt) (tt, tt)) $
    nothing ! $ nothing ! $ fjoin ! $ join ! $ move ! (1 ∷ 0 ∷ []) $ join ! $
    use0 𝓛 (raw (fact 𝓤 ((false ≡ true) ↔ IsCall xs))) (fact_i 𝓤 _ (emp 𝓤) (subst (λ (b : Bool). (b ≡ true) ↔ IsCall xs) (is_false r.0 failed) found)) $
    use0 𝓛 (raw (fact 𝓤 (Unit {0}))) (fact_i 𝓤 _ (emp 𝓤) tt) $
    use0 𝓛 (raw (fact 𝓤 (Unit {0}))) (fact_i 𝓤 _ (emp 𝓤) tt) $ move ! (3 ∷ 4 ∷ []) $ done !)))))))))))))
