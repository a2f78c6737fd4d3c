-- `part` lends the packet on, and bytes of it: the view follows the packet, and the packet the bytes.
use mathlib.Core.Path.{◌≡◌, refl, sym, ap, subst, ◌∙◌}
use Prim.Native.Nat.{ℕ, ◌-◌, ◌≤◌}
use mathlib.Core.List.{List, [], ◌∷◌}
use lib.ListN.{length, take, drop as drop_list}
use mir.Syntax.{named, w64}
use mir.Val.{vint}
use base.Logic.{emp, id⊢}
use base.Fml.{ftrue, flft}
use contract.Monad.{fact, fact_i}
use contract.Running.{tables}
use types.Kit.{‵, ◌⊛◌, raw, given, some, later, ◌$◌, ◌∵◌, !, qed, move, drop, split, split3, join, learn, fsplit, fjoin, use0, use1, use2, await, pick, rewrite, suffices, frame, done}
use types.Run.{stop, addr, no_more, and_then, returns, enter}
use types.ByLocal.{alloc_all, pass_all, free_all, look_at, get, through, sets, lands_as}
use denote.Array.{Array}
use denote.Builtin.{u8, usize}
use denote.Exit.{yes, no}
use denote.Follow.{follows, follows_then}
use denote.Plain.{uint_vals, uint_Tells}
use denote.RattleType.{RattleType, owns}
use denote.Ref.{MutBor, MutRef, mut_vals, mut_Tells, as_bor}
use denote.Shadow.{pure_l, pure_i}
use denote.Signature.{plain, mut_ref_to, named_lft}
use denote.Slice.{MutSlice, shr_slice_at, slice_val, mut_slice_vals}
use denote.Steps.{nothing, heard, only}
use denote.Triple.Call.{calls_at}
use denote.Triple.Clauses.{lasts}
use denote.Triple.Spec.{triple_of}
use denote.Triple.Table.{framed}
use denote.Triple.Walked.{says, Stays, stay_dropped, walk_of, ends_at, Goes-dropped, Goes-spent_ref}
use Rattle.std.proofs.raw_atomic.Walks.{proved}
use Rattle.sl_edit.specs.declared.span.Span.{Span}
use Rattle.sl_edit.specs.Edits.{spliced}
use Rattle.sl_edit.specs.Lending.{with_packet}
use Rattle.sl_edit.specs.contracts.call_view.CallView.{the_row}
use Rattle.sl_edit.specs.contracts.call_view.CallView.packet_mut as lend
use Rattle.sl_edit.specs.contracts.lending.part as bytes
use Rattle.sl_edit.specs.contracts.call_view.CallView.part as f
use Rattle.sl_edit.proofs.call_view.CallView.packet_mut.Met as lend_met
use Rattle.sl_edit.proofs.lending.part.Met as bytes_met
use Rattle.sl_edit.proofs.call_view.CallView.part.Statement.{statement}
use Rattle.sl_edit.proofs.call_view.CallView.part.Code as code

abbrev stayed : Stays f.ended.signature.params f.ended.kept
stayed = (stay_dropped (mut_ref_to (0 ∷ []) tt (plain (λ κs. the_row (named_lft 2 1 tt κs)))) no, (stay_dropped (plain (λ _. usize)) yes, (stay_dropped (plain (λ _. usize)) yes, tt)))

pub part_spec : {M : Type 1} → statement M
part_spec 𝓤 𝓛 𝓜 𝓡 wired =
    let c = f.clauses 𝓛 𝓜.mem 𝓡.returns in
    let W = walk_of 𝓛 f.ended stayed c in
    let 𝓣 = tables 𝓤 𝓛.H 𝓜 𝓡 𝓡.env in
    let goes = Goes-dropped 𝓛 2 (plain (λ _. usize)) yes (λ κs x w. refl) in
    proved 𝓛 f.ended stayed c 𝓜 𝓡
    (Goes-spent_ref 𝓛 2 (0 ∷ []) tt (plain (λ κs. the_row (named_lft 2 1 tt κs))), (goes, (goes, tt)))
    f.Key.name code.function (code.unfolded 𝓤 𝓛.H 𝓜 𝓡 wired)
    (λ κs. (mut_vals, (uint_vals w64, (uint_vals w64, tt)))) (λ κs. (mut_Tells (named 0) κs.0 (the_row (named_lft 2 1 tt κs)), (uint_Tells w64, (uint_Tells w64, tt)))) (λ κs qs bounds a g are.
    let V : RattleType = the_row (named_lft 2 1 tt κs) in
    let self : MutBor (MutBor (List ℕ)) = a.0 in let m : ℕ = a.1.0 in let e : ℕ = a.1.1.0 in
    let xs : List ℕ = self.now.now in
    let y : W.Ghost = ((κs, qs, bounds, a, (mut_vals self, (vint w64 m ∷ [], (vint w64 e ∷ [], tt)))), tt) in
    qed 𝓛 (((‵ (flft κs.0 qs.0) ⊛ ‵ (flft κs.1.0 qs.1.0) ⊛ ‵ ftrue) ⊛ ‵ (owns (MutRef (named 0) κs.0 V ∷ usize ∷ usize ∷ []) a y.0.4))
    ∷ (given (m ≤ e) (‵ ftrue) ⊛ given (e ≤ length xs) (‵ ftrue)) ∷ []) ∵
    move ! (1 ∷ []) $ split ! $ learn ! (λ ordered. drop ! $ learn ! (λ inside. drop ! $
    enter ! _ _ _ _ _ $ alloc_all ! (λ l. pass_all ! refl ((tt, tt), ((tt, record { fits = are.1.0.1 }), ((tt, record { fits = are.1.1.0.1 }), tt))) $
    sets ! (addr ! (through ! refl (stop !))) refl (tt, tt) $
    -- [self; the places; the tokens of κ₁ and κ₀; the locals]
    split ! $ split ! $ move ! (1 ∷ []) $ split ! $ move ! (1 ∷ []) $ drop ! $ move ! (2 ∷ []) $ fsplit ! $
    let G₁ = triple_of 𝓛 lend.signature (lend.spec 𝓛 𝓜.mem 𝓡.returns) in
    let z₁ : G₁.Ghost = (((κs.0, (κs.1.0, tt)), (qs.0, (qs.1.0, tt)), bounds, (self, tt), (mut_vals self, tt)), tt) in
    nothing ! $ move ! (1 ∷ 0 ∷ []) $ join ! $ nothing ! $ move ! (3 ∷ 0 ∷ []) $ join ! $ move ! (3 ∷ 0 ∷ []) $ join ! $ join ! $
    nothing ! $ move ! (1 ∷ 0 ∷ []) $ use2 𝓛 (raw (G₁.pre z₁)) (id⊢ 𝓤 _) $
    calls_at ! (framed 𝓤 𝓛.H 𝓜 𝓣) G₁ (lend_met.met 𝓤 𝓛 𝓜 𝓡 (code.calls-sl_edit::call_view::CallView::packet_mut 𝓡.env wired)) z₁ (and_then ! (get ! refl) (no_more !)) (λ v.
    use1 𝓛 (later (some (λ (r : MutBor (List ℕ)). ((‵ (flft κs.0 qs.0) ⊛ ‵ (flft κs.1.0 qs.1.0) ⊛ ‵ ftrue) ⊛ ‵ ((MutSlice (named 0) κs.0 u8).own_val r (v ∷ [])))
    ⊛ some (λ (ws : Unit {0} × Unit {0}). ‵ (lasts lend.ended z₁.0.0 z₁.0.3 ws) ⊛ ‵ (follows V (Array u8 0) self.ghost_name r.ghost_name (with_packet self.now)) ⊛ raw (fact 𝓤 (r.now ≡ xs)))))) (id⊢ 𝓤 _) $
    await ! tt $ pick ! (λ r. split ! $ move ! (1 ∷ []) $ pick ! (λ ws. split3 ! $ drop ! $ move ! (1 ∷ []) $ heard ! _ (λ same.
    -- [the packet; the tokens of κ₀ and κ₁; what self follows; the places; the locals]
    move ! (1 ∷ []) $ split ! $ split ! $ move ! (2 ∷ []) $ fsplit ! $ pure_l ! (shr_slice_at u8 (as_bor r) (v ∷ [])) (λ p.
    pure_i ! (shr_slice_at u8 (as_bor r) (mut_slice_vals r)) (tt, (tt, tt)) (refl, p.1) $ fjoin ! $
    lands_as ! (ap only p.0) refl (tt, (tt, (record { fits = p.1.0 }, tt))) $
    let span : Span = record { from = m; to = e } in
    let within : e ≤ length r.now = subst (λ (zs : List ℕ). e ≤ length zs) (sym same) inside in
    let G₂ = triple_of 𝓛 bytes.signature (bytes.spec 𝓛 𝓜.mem 𝓡.returns) in
    let z₂ : G₂.Ghost = (((κs.0, tt), (qs.0, tt), tt, (r, (m, (e, tt))), (mut_slice_vals r, (vint w64 m ∷ [], (vint w64 e ∷ [], tt)))), tt) in
    move ! (0 ∷ 4 ∷ []) $ fjoin ! $ nothing ! $ move ! (2 ∷ 0 ∷ []) $ join ! $ join ! $
    use0 𝓛 (raw (fact 𝓤 (e ≤ length r.now))) (fact_i 𝓤 _ (emp 𝓤) within) $ use0 𝓛 (raw (fact 𝓤 (m ≤ e))) (fact_i 𝓤 _ (emp 𝓤) ordered) $ join ! $
    move ! (1 ∷ 0 ∷ []) $ use2 𝓛 (raw (G₂.pre z₂)) (id⊢ 𝓤 _) $
    calls_at ! (framed 𝓤 𝓛.H 𝓜 𝓣) G₂ (bytes_met.met 𝓤 𝓛 𝓜 𝓡 (code.calls-sl_edit::lending::part 𝓡.env wired)) z₂ (and_then ! (get ! refl) (and_then ! (get ! refl) (and_then ! (get ! refl) (no_more !)))) (λ w.
    use1 𝓛 (later (some (λ (x : MutBor (List ℕ)). ((‵ (flft κs.0 qs.0) ⊛ ‵ ftrue) ⊛ ‵ ((MutSlice (named 0) κs.0 u8).own_val x (w ∷ [])))
    ⊛ some (λ (ws : Unit {0} × (Unit {0} × (Unit {0} × Unit {0}))). ‵ (lasts bytes.ended z₂.0.0 z₂.0.3 ws) ⊛ ‵ (follows (Array u8 0) (Array u8 0) r.ghost_name x.ghost_name (spliced r.now span)) ⊛ raw (fact 𝓤 (x.now ≡ take (e - m) (drop_list m r.now))))))) (id⊢ 𝓤 _) $
    await ! tt $ pick ! (λ x. split ! $ move ! (1 ∷ []) $ pick ! (λ ws'. split3 ! $ drop ! $ move ! (1 ∷ []) $ heard ! _ (λ value.
    -- [the bytes; the token of κ₀; nothing; what the packet follows; the token of κ₁; what self follows; the locals]
    move ! (1 ∷ []) $ split ! $ split ! $ move ! (2 ∷ []) $ fsplit ! $ pure_l ! (shr_slice_at u8 (as_bor x) (w ∷ [])) (λ p'.
    pure_i ! (shr_slice_at u8 (as_bor x) (mut_slice_vals x)) (tt, (tt, tt)) (refl, p'.1) $ fjoin ! $
    lands_as ! (ap only p'.0) refl (tt, (tt, (record { fits = p'.1.0 }, tt))) $
    move ! (5 ∷ 3 ∷ []) $ use2 𝓛 (‵ (follows V (Array u8 0) self.ghost_name x.ghost_name (λ t. with_packet self.now (spliced r.now span t))))
    (follows_then 𝓛 V (Array u8 0) (Array u8 0) (with_packet self.now) (spliced r.now span) self.ghost_name r.ghost_name x.ghost_name) $
    rewrite ! 0 (λ (zs : List ℕ). ‵ (follows V (Array u8 0) self.ghost_name x.ghost_name (λ t. with_packet self.now (spliced zs span t)))) same refl $
    move ! (3 ∷ []) $ drop ! $ move ! (2 ∷ 3 ∷ []) $ join ! $
    returns ! (look_at ! 0 refl) $ free_all ! refl $
    suffices ! _ (ends_at 𝓛 f.ended stayed c y (slice_val x.ref_ptr (length x.now)) x (tt, (tt, (tt, tt))) (tt, (tt, (tt, tt)))) $
    nothing ! $ nothing ! $ fjoin ! $ nothing ! $ fjoin ! $ nothing ! $ fjoin ! $ move ! (0 ∷ 3 ∷ []) $ join ! $ move ! (1 ∷ 0 ∷ []) $ join ! $ frame ! $
    says ! (value ∙ ap (λ (zs : List ℕ). take (e - m) (drop_list m zs)) same) $ done !))))))))))))))
