-- Cells that are told, one after another.
use Rattle.std.proofs.Common.{◌≡◌, ℕ, Bool, true, false, List, [], ◌∷◌, refl, sym, subst, ◌↔◌}
use Rattle.std.proofs.lemmas.Bool.{iff_false}
use Rattle.std.specs.Prelude.{Ok}
use Rattle.sl_defs.specs.declared.setup.Setup.{Setup}
use Rattle.sl_cells.specs.declared.keys.CellKey.{CellKey}
use Rattle.sl_frames.specs.declared.found.FoundCell.{FoundCell}
use Rattle.sl_model.specs.Volume.{Volume}
use Rattle.sl_history.specs.Deciding.{Says}
use Rattle.sl_history.specs.Wired.{AreCells, cell_of, place_of}

-- what is true of a cell
abbrev pub IsCell : Setup → Volume → ℕ → CellKey → FoundCell → Type 0
IsCell setup v server k c = place_of setup k ≡ server → c ≡ cell_of v k

-- Whether all are cells rests on those that are left.
pub record CellsLeft (setup : Setup) (v : Volume) (server : ℕ) (keys : List CellKey) (cells : List FoundCell) (ks : List CellKey) (cs : List FoundCell) : Type 0 where
  pub forth : AreCells setup v server ks cs → AreCells setup v server keys cells
  pub back : AreCells setup v server keys cells → AreCells setup v server ks cs

pub cells_first : (setup : Setup) (v : Volume) (server : ℕ) (keys : List CellKey) (cells : List FoundCell) → CellsLeft setup v server keys cells keys cells
cells_first setup v server keys cells = record { forth = λ are. are; back = λ are. are }

pub cells_next : (setup : Setup) (v : Volume) (server : ℕ) (keys : List CellKey) (cells : List FoundCell) (left : List CellKey) (k : CellKey) (ks : List CellKey) (rest : List FoundCell) (c : FoundCell) (cs : List FoundCell)
    → left ≡ k ∷ ks → rest ≡ c ∷ cs → IsCell setup v server k c → CellsLeft setup v server keys cells left rest → CellsLeft setup v server keys cells ks cs
cells_next setup v server keys cells left k ks rest c cs p q is here =
    let there = subst (λ (ys : List FoundCell). CellsLeft setup v server keys cells (k ∷ ks) ys) q (subst (λ (xs : List CellKey). CellsLeft setup v server keys cells xs rest) p here) in
    record { forth = λ are. there.forth (is, are); back = λ are. (there.back are).1 }

pub cells_wrong : (setup : Setup) (v : Volume) (server : ℕ) (keys : List CellKey) (cells : List FoundCell) (left : List CellKey) (k : CellKey) (ks : List CellKey) (rest : List FoundCell) (c : FoundCell) (cs : List FoundCell)
    → left ≡ k ∷ ks → rest ≡ c ∷ cs → (IsCell setup v server k c → ⊥) → CellsLeft setup v server keys cells left rest → AreCells setup v server keys cells → ⊥
cells_wrong setup v server keys cells left k ks rest c cs p q wrong here are =
    let there = subst (λ (ys : List FoundCell). CellsLeft setup v server keys cells (k ∷ ks) ys) q (subst (λ (xs : List CellKey). CellsLeft setup v server keys cells xs rest) p here) in
    wrong (there.back are).0

pub cells_few : (setup : Setup) (v : Volume) (server : ℕ) (keys : List CellKey) (cells : List FoundCell) (left : List CellKey) (k : CellKey) (ks : List CellKey) (rest : List FoundCell)
    → left ≡ k ∷ ks → rest ≡ [] → CellsLeft setup v server keys cells left rest → AreCells setup v server keys cells → ⊥
cells_few setup v server keys cells left k ks rest p q here are =
    let there = subst (λ (ys : List FoundCell). CellsLeft setup v server keys cells (k ∷ ks) ys) q (subst (λ (xs : List CellKey). CellsLeft setup v server keys cells xs rest) p here) in
    there.back are

none_of : (setup : Setup) (v : Volume) (server : ℕ) (rest : List FoundCell) → AreCells setup v server [] rest → rest ≡ []
none_of setup v server [] are = refl
none_of setup v server (c ∷ cs) are = absurd are

pub cells_end : (E : Type 0) (setup : Setup) (v : Volume) (server : ℕ) (keys : List CellKey) (cells : List FoundCell) (left : List CellKey) (rest : List FoundCell) (b : Bool)
    → left ≡ [] → ((b ≡ true) ↔ (rest ≡ [])) → CellsLeft setup v server keys cells left rest → Says {E = E} (Ok b) (AreCells setup v server keys cells)
cells_end E setup v server keys cells left rest true p both here =
    here.forth (subst (λ (xs : List CellKey). AreCells setup v server xs rest) (sym p) (subst (λ (ys : List FoundCell). AreCells setup v server [] ys) (sym (both.0 refl)) tt))
cells_end E setup v server keys cells left rest false p both here = λ are.
    iff_false both refl (none_of setup v server rest (subst (λ (xs : List CellKey). AreCells setup v server xs rest) p (here.back are)))
