-- `handle_mut` lends the bytes of a handle where there is one, and the view follows them; else it stays as it is.
use mathlib.Core.Path.{◌≡◌, refl, sym, ap, subst, ◌∙◌}
use Prim.Native.Nat.{ℕ}
use mathlib.Core.Bool.{Bool, true, false}
use mathlib.Core.List.{List, [], ◌∷◌}
use lib.Dec.{lit<}
use lib.ListN.{length}
use mir.Syntax.{named, w8}
use mir.Val.{Val, vint, vbool, vptr, vstruct, vcons, vnil, of_list}
use base.Logic.{emp, id⊢}
use base.Fml.{GName, ftrue, flft, fobs, fres}
use contract.Monad.{fact, fact_i}
use contract.Running.{tables}
use types.Kit.{‵, ◌⊛◌, raw, some, later, at_ret, ◌$◌, ◌∵◌, !, qed, move, drop, split, split3, join, fsplit, fsplit3, fjoin, fpick, feq_l, feq_i, use0, use1, use2, await, pick, rewrite, suffices, done}
use types.Match.{live}
use types.Part.{whole, sub, agg}
use types.Run.{stop, fld, addr, of_opd, lit, no_more, and_then, first, branches, exec, returns, enter}
use types.ByLocal.{alloc_all, pass_all, free_all, look_at, get, get_in, through, sets, sets_last, lands_as, env}
use denote.Array.{Array}
use denote.Builtin.{u8, bool}
use denote.Exit.{yes, no}
use denote.Follow.{follows, follows_by}
use denote.Plain.{uint_vals, uint_Tells, uint_Makes}
use denote.RattleType.{RattleType, flat, owns}
use denote.Ref.{MutBor, MutRef, mut_vals, mut_Tells, as_bor}
use denote.Shadow.{pure_l, pure_i}
use denote.Signature.{plain, mut_ref_to, named_lft}
use denote.Slice.{MutSlice, shr_slice_at, slice_val, mut_slice_vals}
use denote.Steps.{nothing, heard, only, owned}
use denote.Struct.Tuple.{Tuple}
use denote.Triple.Call.{calls_at}
use denote.Triple.Clauses.{lasts}
use denote.Triple.Spec.{triple_of}
use denote.Triple.Table.{framed}
use denote.Triple.Walked.{Stays, stay_dropped, walk_of, ends_at, Goes-dropped, Goes-spent_ref}
use Rattle.std.proofs.raw_atomic.Walks.{proved}
use Rattle.std.specs.Prelude.{Some, None, is_some}
use Rattle.std.specs.contracts.option.Option as option
use Rattle.sl_edit.proofs.Options.{is_true, is_false, some_of, none_of}
use Rattle.sl_edit.specs.Edits.{bytes_if, refilled}
use Rattle.sl_edit.specs.Lending.{with_packet}
use Rattle.sl_edit.specs.Spans.{handle_span}
use Rattle.sl_edit.specs.contracts.call_view.CallView.{the_row}
use Rattle.sl_edit.specs.contracts.call_view.CallView.seek_handle as seek
use Rattle.sl_edit.specs.contracts.call_view.CallView.handle_slot as slot
use Rattle.sl_edit.specs.contracts.call_view.CallView.handle_mut as f
use Rattle.sl_edit.proofs.call_view.CallView.seek_handle.Met as seek_met
use Rattle.sl_edit.proofs.call_view.CallView.handle_slot.Met as slot_met
use Rattle.sl_edit.proofs.call_view.CallView.handle_mut.Statement.{statement}
use Rattle.sl_edit.proofs.call_view.CallView.handle_mut.Code as code

abbrev stayed : Stays f.ended.signature.params f.ended.kept
stayed = (stay_dropped (mut_ref_to (0 ∷ []) tt (plain (λ κs. the_row (named_lft 2 1 tt κs)))) no, (stay_dropped (plain (λ _. u8)) yes, tt))

pub handle_mut_spec : {M : Type 1} → statement M
unfolding follows_by
handle_mut_spec 𝓤 𝓛 𝓜 𝓡 wired =
    let c = f.clauses 𝓛 𝓜.mem 𝓡.returns in
    let W = walk_of 𝓛 f.ended stayed c in
    let 𝓣 = tables 𝓤 𝓛.H 𝓜 𝓡 𝓡.env in
    proved 𝓛 f.ended stayed c 𝓜 𝓡
    (Goes-spent_ref 𝓛 2 (0 ∷ []) tt (plain (λ κs. the_row (named_lft 2 1 tt κs))), (Goes-dropped 𝓛 2 (plain (λ _. u8)) yes (λ κs x w. refl), tt))
    f.Key.name code.function (code.unfolded 𝓤 𝓛.H 𝓜 𝓡 wired)
    (λ κs. (mut_vals, (uint_vals w8, tt))) (λ κs. (mut_Tells (named 0) κs.0 (the_row (named_lft 2 1 tt κs)), (uint_Tells w8, tt))) (λ κs qs bounds a g are.
    let V : RattleType = the_row (named_lft 2 1 tt κs) in
    let Part : RattleType = MutSlice (named 0) κs.0 u8 in
    let self : MutBor (MutBor (List ℕ)) = a.0 in let i : ℕ = a.1.0 in
    let xs : List ℕ = self.now.now in
    let y : W.Ghost = ((κs, qs, bounds, a, (mut_vals self, (vint w8 i ∷ [], tt))), tt) in
    qed 𝓛 (((‵ (flft κs.0 qs.0) ⊛ ‵ (flft κs.1.0 qs.1.0) ⊛ ‵ ftrue) ⊛ ‵ (owns (MutRef (named 0) κs.0 V ∷ u8 ∷ []) a y.0.4)) ∷ raw (emp 𝓤) ∷ []) ∵
    move ! (1 ∷ []) $ drop ! $
    enter ! _ _ _ _ _ $ alloc_all ! (λ l. pass_all ! refl ((tt, tt), ((tt, record { fits = are.1.0.1 }), tt)) $
    sets ! (addr ! (through ! refl (stop !))) refl (tt, tt) $
    -- [self and the index; the tokens; the locals]
    let G₁ = triple_of 𝓛 seek.signature (seek.spec 𝓛 𝓜.mem 𝓡.returns) in
    let z₁ : G₁.Ghost = ((κs, qs, bounds, a, (mut_vals self, (vint w8 i ∷ [], tt))), tt) in
    nothing ! $ move ! (1 ∷ 0 ∷ []) $ use2 𝓛 (raw (G₁.pre z₁)) (id⊢ 𝓤 _) $
    calls_at ! (framed 𝓤 𝓛.H 𝓜 𝓣) G₁ (seek_met.met 𝓤 𝓛 𝓜 𝓡 (code.calls-sl_edit::call_view::CallView::seek_handle 𝓡.env wired)) z₁ (and_then ! (get ! refl) (and_then ! (get ! refl) (no_more !))) (λ v.
    use1 𝓛 (later (some (λ (r : Bool × MutBor (MutBor (List ℕ))). ((‵ (flft κs.0 qs.0) ⊛ ‵ (flft κs.1.0 qs.1.0) ⊛ ‵ ftrue) ⊛ ‵ ((Tuple (bool ∷ MutRef (named 0) κs.0 V ∷ [])).own_val r (v ∷ [])))
    ⊛ some (λ (ws : Unit {0} × (Unit {0} × Unit {0})). ‵ (lasts seek.ended z₁.0.0 z₁.0.3 ws) ⊛ (raw (fact 𝓤 (r.1.ghost_name ≡ self.ghost_name)) ⊛ raw (fact 𝓤 (r.1.now ≡ self.now)) ⊛ raw (fact 𝓤 (r.0 ≡ is_some (handle_span i xs)))))))) (id⊢ 𝓤 _) $
    await ! tt $ pick ! (λ r. split ! $ move ! (1 ∷ []) $ pick ! (λ ws. split ! $ drop ! $ split3 ! $ heard ! _ (λ same. heard ! _ (λ kept. heard ! _ (λ found.
    -- [the view; the tokens; the locals]
    split ! $ split ! $ move ! (2 ∷ []) $ fpick ! (λ vss. fsplit ! $ feq_l ! (λ e. fsplit ! $ feq_l ! (λ eb. fsplit ! $ fsplit ! $ feq_l ! (λ em.
    feq_i ! (List Val) (mut_vals r.1) (mut_vals r.1) refl $ fjoin ! $ move ! (1 ∷ []) $ drop ! $
    let is : v ≡ vstruct (vcons (vbool r.0) (vcons (vptr r.1.ref_ptr.0 r.1.ref_ptr.1) vnil)) = ap only e ∙ (λ k. vstruct (of_list (flat (bool ∷ MutRef (named 0) κs.0 V ∷ []) (eb k, (em k, tt))))) in
    lands_as ! is refl (tt, (tt, (tt, tt))) $
    sets ! (of_opd ! (get_in ! (fld ! refl (stop !)) (sub ! 0 refl (whole !)))) refl (tt, tt) $
    sets ! (of_opd ! (get_in ! (fld ! refl (stop !)) (sub ! 1 refl (whole !)))) refl (tt, tt) $
    sets ! (of_opd ! (get ! refl)) refl (tt, tt) $
    first ! $ branches ! (get ! refl)
    (λ held. sets ! (addr ! (through ! refl (stop !))) refl (tt, tt) $
    let there : is_some (handle_span i xs) ≡ true = sym found ∙ is_true r.0 held in
    let in_view : is_some (handle_span i r.1.now.now) ≡ true = subst (λ (t : MutBor (List ℕ)). is_some (handle_span i t.now) ≡ true) (sym kept) there in
    let G₂ = triple_of 𝓛 slot.signature (slot.spec 𝓛 𝓜.mem 𝓡.returns) in
    let z₂ : G₂.Ghost = ((κs, qs, bounds, (r.1, (i, tt)), (mut_vals r.1, (vint w8 i ∷ [], tt))), tt) in
    nothing ! $ owned ! u8 _ (uint_Makes 𝓛 w8) i (vint w8 i ∷ []) (refl, are.1.0.1) $ fjoin ! $ move ! (1 ∷ 0 ∷ []) $ fjoin ! $ move ! (1 ∷ 2 ∷ 0 ∷ []) $ join ! $ join ! $
    use0 𝓛 (raw (fact 𝓤 (is_some (handle_span i r.1.now.now) ≡ true))) (fact_i 𝓤 _ (emp 𝓤) in_view) $ move ! (1 ∷ 0 ∷ []) $ use2 𝓛 (raw (G₂.pre z₂)) (id⊢ 𝓤 _) $
    calls_at ! (framed 𝓤 𝓛.H 𝓜 𝓣) G₂ (slot_met.met 𝓤 𝓛 𝓜 𝓡 (code.calls-sl_edit::call_view::CallView::handle_slot 𝓡.env wired)) z₂ (and_then ! (get ! refl) (and_then ! (get ! refl) (no_more !))) (λ w.
    use1 𝓛 (later (some (λ (x : MutBor (List ℕ)). ((‵ (flft κs.0 qs.0) ⊛ ‵ (flft κs.1.0 qs.1.0) ⊛ ‵ ftrue) ⊛ ‵ (Part.own_val x (w ∷ [])))
    ⊛ some (λ (ws' : Unit {0} × (Unit {0} × Unit {0})). ‵ (lasts slot.ended z₂.0.0 z₂.0.3 ws') ⊛ ‵ (follows V (Array u8 0) r.1.ghost_name x.ghost_name (λ t. with_packet r.1.now (refilled r.1.now.now (handle_span i r.1.now.now) t)))
    ⊛ raw (fact 𝓤 (x.now ≡ bytes_if r.1.now.now (handle_span i r.1.now.now))))))) (id⊢ 𝓤 _) $
    await ! tt $ pick ! (λ x. split ! $ move ! (1 ∷ []) $ pick ! (λ ws'. split3 ! $ drop ! $ move ! (1 ∷ []) $ heard ! _ (λ value.
    -- [what the view follows; the tokens and the bytes; the locals]
    rewrite ! 0 (λ (n : GName). ‵ (follows V (Array u8 0) n x.ghost_name (λ t. with_packet r.1.now (refilled r.1.now.now (handle_span i r.1.now.now) t)))) same refl $
    rewrite ! 0 (λ (at : MutBor (List ℕ)). ‵ (follows V (Array u8 0) self.ghost_name x.ghost_name (λ t. with_packet at (refilled at.now (handle_span i at.now) t)))) kept refl $
    move ! (1 ∷ []) $ split ! $ move ! (1 ∷ []) $ fsplit ! $ pure_l ! (shr_slice_at u8 (as_bor x) (w ∷ [])) (λ p.
    pure_i ! (shr_slice_at u8 (as_bor x) (mut_slice_vals x)) (tt, (tt, tt)) (refl, p.1) $ fjoin ! $
    lands_as ! (ap only p.0) refl (tt, (tt, (record { fits = p.1.0 }, tt))) $
    let bytes : Val = slice_val x.ref_ptr (length x.now) in
    sets_last ! (agg ! (and_then ! (lit ! tt) (and_then ! (get ! refl) (no_more !)))) refl (tt, (record { fits = lit< tt }, ((tt, (record { fits = p.1.0 }, tt)), tt))) $
    exec ! 𝓣.C 𝓣.Λ (env code.function.locals l) code.Mir.t-7 (at_ret _ (W.post y)) $
    sets ! (of_opd ! (get ! refl)) refl (tt, (record { fits = lit< tt }, ((tt, (record { fits = p.1.0 }, tt)), tt))) $
    returns ! (look_at ! 0 refl) $ free_all ! refl $
    use1 𝓛 (‵ ((option.the_row Part).own_val (Some x) (live 1 (of_list (bytes ∷ [])) ∷ []))) (some_of 𝓛 Part x bytes) $
    suffices ! _ (ends_at 𝓛 f.ended stayed c y (live 1 (of_list (bytes ∷ []))) (Some x) (tt, (tt, tt)) (tt, (tt, tt))) $
    nothing ! $ nothing ! $ fjoin ! $ nothing ! $ fjoin ! $ join ! $ move ! (1 ∷ 0 ∷ []) $ join ! $
    use0 𝓛 (raw (fact 𝓤 (x.now ≡ bytes_if xs (handle_span i xs)))) (fact_i 𝓤 _ (emp 𝓤) (value ∙ ap (λ (t : MutBor (List ℕ)). bytes_if t.now (handle_span i t.now)) kept)) $
    use0 𝓛 (raw (fact 𝓤 (true ≡ is_some (handle_span i xs)))) (fact_i 𝓤 _ (emp 𝓤) (sym there)) $ join ! $ move ! (1 ∷ 2 ∷ []) $ done !))))))
    (λ failed. sets_last ! (agg ! (and_then ! (lit ! tt) (no_more !))) refl (tt, (record { fits = lit< tt }, tt)) $
    exec ! 𝓣.C 𝓣.Λ (env code.function.locals l) code.Mir.t-7 (at_ret _ (W.post y)) $
    sets ! (of_opd ! (get ! refl)) refl (tt, (record { fits = lit< tt }, tt)) $
    returns ! (look_at ! 0 refl) $ free_all ! refl $
    fsplit3 ! $ drop ! $ move ! (1 ∷ []) $ drop ! $
    rewrite ! 0 (λ (n : GName). ‵ (fobs n (V.coded.code r.1.now))) same refl $ rewrite ! 0 (λ (t : MutBor (List ℕ)). ‵ (fobs self.ghost_name (V.coded.code t))) kept refl $
    use1 𝓛 (‵ (fres self.ghost_name (V.coded.code self.now))) (𝓛.names.obs-res self.ghost_name (V.coded.code self.now)) $
    move ! (1 ∷ 2 ∷ []) $ join ! $ use0 𝓛 (‵ ((option.the_row Part).own_val None (live 0 (of_list []) ∷ []))) (none_of 𝓛 Part) $
    suffices ! _ (ends_at 𝓛 f.ended stayed c y (live 0 (of_list [])) None (tt, (tt, tt)) (tt, (tt, tt))) $
    nothing ! $ nothing ! $ fjoin ! $ nothing ! $ fjoin ! $ join ! $ move ! (1 ∷ 0 ∷ []) $ join ! $
    use0 𝓛 (raw (fact 𝓤 (Unit {0}))) (fact_i 𝓤 _ (emp 𝓤) tt) $
    use0 𝓛 (raw (fact 𝓤 (false ≡ is_some (handle_span i xs)))) (fact_i 𝓤 _ (emp 𝓤) (sym (sym found ∙ is_false r.0 failed))) $ join ! $ move ! (1 ∷ 2 ∷ []) $ done !)))))))))))))
