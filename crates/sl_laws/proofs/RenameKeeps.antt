-- RENAME keeps the tree.
use Rattle.std.proofs.Common.{◌≡◌, ℕ, suc, List, ◌++◌, Option, Some, None, Bool, true, false, cond, Result, Ok, refl, sym, ap, subst, ◌∙◌}
use Rattle.std.specs.Prelude.{◌≢◌, ◌==◌, ◌&&◌, ◌||◌, not}
use Rattle.std.specs.Bool.{beq}
use Rattle.std.proofs.lemmas.Bool.{eqb-true, eqb-false, ne_eqb}
use Rattle.std.specs.FinMap.{get, len}
use Rattle.sl_defs.specs.declared.setup.Time.{Time}
use Rattle.sl_types.specs.declared.kind.Status.{Status}
use Rattle.sl_types.specs.declared.kind.Status.TheVariants as ended
use Rattle.sl_types.specs.declared.kind.Status.TheVariants.{Exist, Inval, MLink, NotDir}
use Rattle.sl_types.specs.declared.reply.Reply.TheVariants as reply
use Rattle.sl_types.specs.declared.cred.Cred.{Cred}
use Rattle.sl_types.specs.declared.handle.Handle.{Handle}
use Rattle.sl_model.specs.declared.node.Node.{Node}
use Rattle.sl_model.specs.declared.node.Entry.{Entry}
use Rattle.sl_model.specs.Plan.{Done, run, ◌>>=◌}
use Rattle.sl_model.specs.Volume.{Volume, sight, is_dir, below_within}
use Rattle.sl_model.specs.Checks.{refuse, checked_both, live, in_directory, granted, see, entry, find, want, place, is_dots}
use Rattle.sl_model.specs.Looking.{unchanged, no_wcc}
use Rattle.sl_model.specs.Changing.{see_if, is_one, is_bad_target, is_full, climbs, renaming, rename_to, rename_in, rename}
use Rattle.sl_model.specs.Tree.{Tree}
use Rattle.sl_model.proofs.Alike.{or_false}
use Rattle.sl_laws.proofs.Steps.{same_node}
use Rattle.sl_laws.proofs.Changes.{Fits, fits_same}
use Rattle.sl_laws.proofs.Plans.{step, answered, looked_up, not_false, refused, lived, entered, IsSeen, saw, IsDirectory}
use Rattle.sl_laws.proofs.Outcomes.{seen_like}
use Rattle.sl_laws.proofs.Renames.{renamed_free, renamed_over}
use Rattle.sl_laws.proofs.Keeps.{KeepsTree, same_outcome}

same_answer : (x y : Bool) → ◌≡◌ {A = Result Bool Status} (Ok x) (Ok y) → x ≡ y
same_answer x y e = cc

climbed_off : (v : Volume) (b : Bool) (a d : ℕ) (r : Bool) → run (sight v) (climbs b a d) ≡ Ok r → b ≡ true → r ≡ false → below_within (suc (len v.nodes)) v.nodes a d ≡ false
unfolding climbs run
climbed_off v true a d r e h u = same_answer _ r e ∙ u
climbed_off v false a d r e h u = absurd cc

moves_away : (a : Bool) (f d : ℕ) → a ≡ true → f ≢ d → (a && not (f == d)) ≡ true
moves_away a f d e ne = ap (λ b. b && not (f == d)) e ∙ ap not (ne_eqb f d ne)

good_target : (n m : Node) → is_bad_target n (Some m) ≡ false → is_dir m.kind ≡ true → m.entries ≡ 0
good_target n m e k =
    let p = (or_false (not (beq (is_dir n.kind) (is_dir m.kind))) (is_dir m.kind && not (m.entries == 0)) e).1 in
    eqb-true m.entries 0 (not_false (m.entries == 0) (sym (ap (λ b. b && not (m.entries == 0)) k) ∙ p))

module _ (v : Volume) (t : Tree v) (a b : Handle) (f d : Node) (from_dir : IsDirectory v a f) (to_dir : IsDirectory v b d) (name to_name : List ℕ) (e : Entry) (now : Time) (named : get v.names (a.fileid, name) ≡ Some e) where
  place_f : f.fileid ≡ a.fileid
  place_f = (t.tree.own a.fileid f from_dir.live.at).fileid

  place_d : d.fileid ≡ b.fileid
  place_d = (t.tree.own b.fileid d to_dir.live.at).fileid

  at_f : get v.nodes f.fileid ≡ Some f
  at_f = ap (get v.nodes) place_f ∙ from_dir.live.at

  at_d : get v.nodes d.fileid ≡ Some d
  at_d = ap (get v.nodes) place_d ∙ to_dir.live.at

  named_f : get v.names (f.fileid, name) ≡ Some e
  named_f = ap (λ k. get v.names (k, name)) place_f ∙ named

  kinds : (n : Node) → IsSeen v e.fileid n → n.kind ≡ e.kind
  kinds n s =
      let l = t.tree.leads f.fileid name e named_f in
      (seen_like v t e.fileid n s).kept.alike.kind ∙ ap (λ (z : Node). z.kind) (same_node s.node l.node (sym s.at ∙ l.at)) ∙ l.same_kind

  off : (n : Node) → IsSeen v e.fileid n → (r : Bool) → run (sight v) (climbs (is_dir e.kind && not (f.fileid == d.fileid)) e.fileid d.fileid) ≡ Ok r → r ≡ false
      → is_dir n.kind ≡ true → f.fileid ≢ d.fileid → below_within (suc (len v.nodes)) v.nodes e.fileid d.fileid ≡ false
  off n s r is none sort ne = climbed_off v (is_dir e.kind && not (f.fileid == d.fileid)) e.fileid d.fileid r is (moves_away (is_dir e.kind) f.fileid d.fileid (sym (ap is_dir (kinds n s)) ∙ sort) ne) none

  rename_to_keeps : (x : Option Entry) → get v.names (d.fileid, to_name) ≡ x → is_one e x ≡ false → KeepsTree v (rename_to f name d to_name e x now)
  unfolding see_if
  rename_to_keeps None at apart o e0 =
      let s = sight v in
      let P : Type 0 = Fits v o.changes in
      step s (climbs (is_dir e.kind && not (f.fileid == d.fileid)) e.fileid d.fileid) _ o P e0 (λ r is1 e1.
      step s (refuse r Inval) _ o P e1 (λ u2 is2 e2.
      step s (see e.fileid) _ o P e2 (λ n is3 e3.
      step s (Done None) _ o P e3 (λ z is4 e4.
      let none : None ≡ z = answered s None z is4 in
      step s (refuse (is_bad_target n z) Exist) _ o P e4 (λ u5 is5 e5.
      step s (refuse (not (f.fileid == d.fileid) && is_full n d z) MLink) _ o P e5 (λ u6 is6 e6.
      let sn = saw v e.fileid n is3 in
      same_outcome v (renaming f name d to_name n z now) o e6
      (subst (λ (y : Option Node). Fits v (renaming f name d to_name n y now).changes) none
      (renamed_free v t f d name to_name e n now at_f from_dir.is_directory at_d to_dir.is_directory named_f sn (off n sn r is1 (refused s r Inval u2 is2)) at))))))))
  rename_to_keeps (Some g) at apart o e0 =
      let s = sight v in
      let P : Type 0 = Fits v o.changes in
      step s (climbs (is_dir e.kind && not (f.fileid == d.fileid)) e.fileid d.fileid) _ o P e0 (λ r is1 e1.
      step s (refuse r Inval) _ o P e1 (λ u2 is2 e2.
      step s (see e.fileid) _ o P e2 (λ n is3 e3.
      step s (see g.fileid >>= (λ m. Done (Some m))) _ o P e3 (λ z is4 e4.
      step s (refuse (is_bad_target n z) Exist) _ o P e4 (λ u5 is5 e5.
      step s (refuse (not (f.fileid == d.fileid) && is_full n d z) MLink) _ o P e5 (λ u6 is6 e6.
      step s (see g.fileid) (λ m. Done (Some m)) z P is4 (λ m is7 e7.
      let some : Some m ≡ z = answered s (Some m) z e7 in
      let sn = saw v e.fileid n is3 in
      let good = subst (λ (y : Option Node). is_bad_target n y ≡ false) (sym some) (refused s (is_bad_target n z) Exist u5 is5) in
      same_outcome v (renaming f name d to_name n z now) o e6
      (subst (λ (y : Option Node). Fits v (renaming f name d to_name n y now).changes) some
      (renamed_over v t f d name to_name e n now at_f from_dir.is_directory at_d to_dir.is_directory named_f sn (off n sn r is1 (refused s r Inval u2 is2))
      g m at (λ q. eqb-false e.fileid g.fileid apart (sym q)) (saw v g.fileid m is7) (good_target n m good))))))))))

  rename_in_keeps : (x : Option Entry) → get v.names (d.fileid, to_name) ≡ x → KeepsTree v (rename_in f name d to_name e x now)
  unfolding rename_in
  rename_in_keeps x at = either (is_one e x) refl
    where
      either : (q : Bool) → is_one e x ≡ q → KeepsTree v (cond q (unchanged (reply.Rename ended.Ok no_wcc no_wcc)) (rename_to f name d to_name e x now))
      either true h o e0 = same_outcome v _ o e0 (fits_same v t)
      either false h o e0 = rename_to_keeps x at h o e0

pub rename_keeps : (v : Volume) → Tree v → (cred : Cred) (a : Handle) (name : List ℕ) (b : Handle) (to_name : List ℕ) (now : Time) → KeepsTree v (rename cred a name b to_name now)
rename_keeps v t cred a name b to_name now o e =
    let s = sight v in
    let P : Type 0 = Fits v o.changes in
    step s (checked_both name to_name) _ o P e (λ u0 is0 e0.
    step s (want (place a name ++ place b to_name)) _ o P e0 (λ u1 is1 e1.
    step s (live a) _ o P e1 (λ f is2 e2.
    step s (live b) _ o P e2 (λ d is3 e3.
    step s (in_directory a) _ o P e3 (λ u4 is4 e4.
    step s (in_directory b) _ o P e4 (λ u5 is5 e5.
    step s (granted cred f) _ o P e5 (λ u6 is6 e6.
    step s (granted cred d) _ o P e6 (λ u7 is7 e7.
    step s (refuse (is_dots name || is_dots to_name) Inval) _ o P e7 (λ u8 is8 e8.
    step s (entry a.fileid name) _ o P e8 (λ x is9 e9.
    step s (find b.fileid to_name) _ o P e9 (λ y is10 e10.
    let lf = lived v a f is2 in
    let ld = lived v b d is3 in
    let from_dir : IsDirectory v a f = record { live = lf; is_directory = ap is_dir lf.kind ∙ not_false (is_dir a.kind) (refused s _ NotDir u4 is4) } in
    let to_dir : IsDirectory v b d = record { live = ld; is_directory = ap is_dir ld.kind ∙ not_false (is_dir b.kind) (refused s _ NotDir u5 is5) } in
    rename_in_keeps v t a b f d from_dir to_dir name to_name x now (entered v a.fileid name x is9) y
    (ap (λ k. get v.names (k, to_name)) (t.tree.own b.fileid d ld.at).fileid ∙ looked_up v b.fileid to_name y is10) o e10)))))))))))
