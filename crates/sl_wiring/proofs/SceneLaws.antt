-- Effects and flushes, as a docket decides them.
use Rattle.std.proofs.Common.{◌≡◌, ℕ, Bool, true, false, List, ◌∷◌, Some, None, refl, sym, subst, ◌∙◌, ◌↔◌, inl, inr}
use Rattle.std.specs.Prelude.{Ok}
use Rattle.std.specs.List.{All}
use Rattle.std.proofs.lemmas.Bool.{iff_false}
use Rattle.sl_defs.specs.declared.setup.Setup.{Setup}
use Rattle.sl_model.specs.Volume.{Volume}
use Rattle.sl_history.specs.Turns.{Remark, Turn, History, so_far}
use Rattle.sl_history.specs.Deciding.{Says}
use Rattle.sl_history.specs.Wired.{IsWiredFlush, StandsRightly}
use Rattle.sl_wiring.specs.declared.docket.Docket.{Docket}
use Rattle.sl_wiring.specs.Dockets.{IsDocketOf}
use Rattle.sl_wiring.specs.Given.{AreGrantsIn, GrantOne}
use Rattle.sl_wiring.specs.Standing.{AreServersOf, directory_in}
use Rattle.sl_wiring.proofs.EffectLaws.{acting_is, all_granted, is_acting, one_granted, stands_alone, stands_granted, stood}
use Rattle.sl_wiring.proofs.Givens.{grants_under}
use Rattle.sl_wiring.proofs.Saying.{says_bool}
use Rattle.sl_wiring.proofs.Serving.{some_is}

-- the docket's actor is the coordinator, and the servers granted one operation, which is the one granted now, if one is
abbrev pub IsGrantedBy : Docket → List ℕ → Type 0
IsGrantedBy d xs = (d.actor ≡ Some 1) × GrantOne d.given.grants d.granted xs

servers_of : (setup : Setup) (start : Volume) (h : History) (d : Docket) (v w : Volume) (servers : List ℕ) → IsDocketOf setup start h d → AreServersOf d.setup v w servers → AreServersOf setup v w servers
servers_of setup start h d v w servers is are = subst (λ (s : Setup). AreServersOf s v w servers) is.setup_is are

grants_in : (setup : Setup) (start : Volume) (t : Turn) (past : History) (before : List Remark) (d : Docket) → IsDocketOf setup start (so_far t before ∷ past) d → AreGrantsIn (t ∷ past) d.given.grants
grants_in setup start t past before d is = grants_under t past before d.given.grants is.given.grants

pub scene_granted : (setup : Setup) (start : Volume) (t : Turn) (past : History) (before : List Remark) (d : Docket) (v w : Volume) (servers xs : List ℕ) → IsDocketOf setup start (so_far t before ∷ past) d
    → AreServersOf d.setup v w servers → xs ≡ servers → IsGrantedBy d xs → StandsRightly setup past t (t ∷ past) v w
scene_granted setup start t past before d v w servers xs is are same granted =
    stands_granted setup past t (t ∷ past) v w servers d.given.grants d.actor d.granted is.newest.actor is.newest.granted (servers_of setup start (so_far t before ∷ past) d v w servers is are)
    (grants_in setup start t past before d is) (subst (λ (ys : List ℕ). IsGrantedBy d ys) same granted)

pub scene_alone : (setup : Setup) (start : Volume) (t : Turn) (past : History) (before : List Remark) (d : Docket) (v w : Volume) (servers xs : List ℕ) (server : ℕ)
    → IsDocketOf setup start (so_far t before ∷ past) d → AreServersOf d.setup v w servers → xs ≡ servers → directory_in d.actor ≡ Some server → All (λ other. other ≡ server) xs
    → StandsRightly setup past t (t ∷ past) v w
scene_alone setup start t past before d v w servers xs server is are same directory all =
    stands_alone setup past t (t ∷ past) v w servers d.actor server is.newest.actor (servers_of setup start (so_far t before ∷ past) d v w servers is are) directory
    (subst (λ (ys : List ℕ). All (λ other. other ≡ server) ys) same all)

-- neither granted nor of one directory server
pub scene_wrong : (setup : Setup) (start : Volume) (t : Turn) (past : History) (before : List Remark) (d : Docket) (v w : Volume) (servers xs : List ℕ)
    → IsDocketOf setup start (so_far t before ∷ past) d → AreServersOf d.setup v w servers → xs ≡ servers → (IsGrantedBy d xs → ⊥)
    → ((server : ℕ) → directory_in d.actor ≡ Some server → All (λ other. other ≡ server) xs → ⊥) → StandsRightly setup past t (t ∷ past) v w → ⊥
scene_wrong setup start t past before d v w servers xs is are same granted alone stands =
    elim (stood setup past t (t ∷ past) v w servers d.given.grants d.actor d.granted is.newest.actor is.newest.granted (servers_of setup start (so_far t before ∷ past) d v w servers is are)
    (grants_in setup start t past before d is) stands) [
      | inl both ↦ granted (subst (λ (ys : List ℕ). IsGrantedBy d ys) (sym same) both)
      | inr (server, parts) ↦ alone server parts.0 (subst (λ (ys : List ℕ). All (λ other. other ≡ server) ys) (sym same) parts.1)
    ]

pub scene_says : (E : Type 0) (setup : Setup) (start : Volume) (t : Turn) (past : History) (before : List Remark) (d : Docket) (v w : Volume) (servers xs ys : List ℕ) (server : ℕ) (b : Bool)
    → IsDocketOf setup start (so_far t before ∷ past) d → AreServersOf d.setup v w servers → xs ≡ servers → ys ≡ servers → (IsGrantedBy d xs → ⊥) → directory_in d.actor ≡ Some server
    → ((b ≡ true) ↔ All (λ other. other ≡ server) ys) → Says {E = E} (Ok b) (StandsRightly setup past t (t ∷ past) v w)
scene_says E setup start t past before d v w servers xs ys server true is are same equal granted directory both =
    scene_alone setup start t past before d v w servers ys server is are equal directory (both.0 refl)
scene_says E setup start t past before d v w servers xs ys server false is are same equal granted directory both =
    scene_wrong setup start t past before d v w servers xs is are same granted
    (λ other found all. iff_false both refl
    (subst (λ (n : ℕ). All (λ o. o ≡ n) ys) (some_is other server (sym found ∙ directory)) (subst (λ (zs : List ℕ). All (λ o. o ≡ other) zs) (same ∙ sym equal) all)))

pub scene_nobody : (setup : Setup) (start : Volume) (t : Turn) (past : History) (before : List Remark) (d : Docket) (v w : Volume) (servers xs : List ℕ)
    → IsDocketOf setup start (so_far t before ∷ past) d → AreServersOf d.setup v w servers → xs ≡ servers → (IsGrantedBy d xs → ⊥) → directory_in d.actor ≡ None
    → StandsRightly setup past t (t ∷ past) v w → ⊥
scene_nobody setup start t past before d v w servers xs is are same granted none =
    scene_wrong setup start t past before d v w servers xs is are same granted (λ server found all. let e = sym none ∙ found in cc)

-- a flush
pub scene_flush : (E : Type 0) (setup : Setup) (start : Volume) (t : Turn) (past : History) (before : List Remark) (d : Docket) (v w : Volume) (servers xs : List ℕ) (b : Bool)
    → IsDocketOf setup start (so_far t before ∷ past) d → AreServersOf d.setup v w servers → xs ≡ servers → ((b ≡ true) ↔ IsGrantedBy d xs)
    → Says {E = E} (Ok b) (IsWiredFlush setup past t (t ∷ past) v w)
scene_flush E setup start t past before d v w servers xs b is are same both =
    says_bool E b (λ said. yes_ (subst (λ (ys : List ℕ). IsGrantedBy d ys) same (both.0 said)), λ flush. both.1 (subst (λ (ys : List ℕ). IsGrantedBy d ys) (sym same) (no_ flush)))
  where
    there : AreServersOf setup v w servers
    there = servers_of setup start (so_far t before ∷ past) d v w servers is are

    yes_ : IsGrantedBy d servers → IsWiredFlush setup past t (t ∷ past) v w
    yes_ granted = record {
      coordinator = is_acting past t d.actor 1 is.newest.actor granted.0;
      granted = all_granted setup past t (t ∷ past) v w servers d.given.grants d.granted there (grants_in setup start t past before d is) is.newest.granted granted.1;
    }

    no_ : IsWiredFlush setup past t (t ∷ past) v w → IsGrantedBy d servers
    no_ flush = (
      acting_is past t d.actor 1 is.newest.actor flush.coordinator,
      one_granted setup past t (t ∷ past) v w servers d.given.grants d.granted there (grants_in setup start t past before d is) is.newest.granted flush.granted,
    )
