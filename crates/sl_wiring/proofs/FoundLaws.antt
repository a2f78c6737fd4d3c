-- What a volume has for a key, by what it has.
use Rattle.std.proofs.Common.{◌≡◌, ℕ, Bool, true, List, [], Some, None, ap, sym, ◌∙◌, ◌↔◌}
use Rattle.std.specs.Prelude.{Ok, option_map}
use Rattle.std.specs.Option.{unwrap_or}
use Rattle.std.specs.FinMap as map
use Rattle.sl_cells.specs.declared.cells.AttrCell.{AttrCell}
use Rattle.sl_cells.specs.declared.cells.NameCell.{NameCell}
use Rattle.sl_cells.specs.declared.keys.CellKey.TheVariants as key
use Rattle.sl_frames.specs.declared.found.FoundCell.{FoundCell}
use Rattle.sl_frames.specs.declared.found.FoundCell.TheVariants as found
use Rattle.sl_model.specs.Volume.{Volume}
use Rattle.sl_model.specs.Looking.{attributes}
use Rattle.sl_model.specs.declared.node.Entry.{Entry}
use Rattle.sl_model.specs.declared.node.Node.{Node}
use Rattle.sl_history.specs.Deciding.{Says}
use Rattle.sl_history.specs.Wired.{attr_cell, cell_of, found_attr, found_name, name_cell}
use Rattle.sl_wiring.proofs.Saying.{says_bool}

-- a cell is this one exactly if it is that of an option
attr_of : (c d : AttrCell) → found.Attr c ≡ found.Attr d → c ≡ d
attr_of c d e = ap (λ (x : FoundCell). elim x [ found.Absent ↦ c | found.Attr y ↦ y | found.Name y ↦ c ]) e

name_of : (c d : NameCell) → found.Name c ≡ found.Name d → c ≡ d
name_of c d e = ap (λ (x : FoundCell). elim x [ found.Absent ↦ c | found.Attr y ↦ c | found.Name y ↦ y ]) e

attr_none : (v : Volume) (f : ℕ) → map.get v.nodes f ≡ None → cell_of v (key.Attr f) ≡ found.Absent
attr_none v f e = ap (λ o. found_attr (option_map (attr_cell v f) o)) e

attr_some : (v : Volume) (f : ℕ) (n : Node) → map.get v.nodes f ≡ Some n → cell_of v (key.Attr f) ≡ found.Attr (attr_cell v f n)
attr_some v f n e = ap (λ o. found_attr (option_map (attr_cell v f) o)) e

name_none : (v : Volume) (d : ℕ) (name : List ℕ) → map.get v.names (d, name) ≡ None → cell_of v (key.Name d name) ≡ found.Absent
name_none v d name e = ap (λ o. found_name (option_map (name_cell d name) o)) e

name_some : (v : Volume) (d : ℕ) (name : List ℕ) (n : Entry) → map.get v.names (d, name) ≡ Some n → cell_of v (key.Name d name) ≡ found.Name (name_cell d name n)
name_some v d name n e = ap (λ o. found_name (option_map (name_cell d name) o)) e

says_is : (E : Type 0) (b : Bool) (x y z : FoundCell) → y ≡ z → ((b ≡ true) ↔ (x ≡ z)) → Says {E = E} (Ok b) (x ≡ y)
says_is E b x y z same both = says_bool E b (λ said. both.0 said ∙ sym same, λ e. both.1 (e ∙ same))

pub object_none : (E : Type 0) (v : Volume) (f : ℕ) (x : FoundCell) (b : Bool) → map.get v.nodes f ≡ None → ((b ≡ true) ↔ (x ≡ found.Absent)) → Says {E = E} (Ok b) (x ≡ cell_of v (key.Attr f))
object_none E v f x b none both = says_is E b x (cell_of v (key.Attr f)) found.Absent (attr_none v f none) both

pub object_other : (v : Volume) (f : ℕ) (n : Node) (x : FoundCell) → map.get v.nodes f ≡ Some n → ((c : AttrCell) → x ≡ found.Attr c → ⊥) → x ≡ cell_of v (key.Attr f) → ⊥
object_other v f n x some other e = other (attr_cell v f n) (e ∙ attr_some v f n some)

abbrev pub attr_with : Node → List ℕ → AttrCell
attr_with n link = record { attributes = attributes n; parent = n.parent; entries = n.entries; made = n.made; verifier = n.verifier; link = link }

pub object_says : (E : Type 0) (v : Volume) (f : ℕ) (n : Node) (x : FoundCell) (c : AttrCell) (link : List ℕ) (b : Bool) → map.get v.nodes f ≡ Some n → x ≡ found.Attr c
    → link ≡ unwrap_or (map.get v.texts f) [] → ((b ≡ true) ↔ (c ≡ attr_with n link)) → Says {E = E} (Ok b) (x ≡ cell_of v (key.Attr f))
object_says E v f n x c link b some is text both =
    says_is E b x (cell_of v (key.Attr f)) (found.Attr (attr_cell v f n)) (attr_some v f n some) (
      λ said. is ∙ ap (λ (d : AttrCell). found.Attr d) (both.0 said ∙ ap (attr_with n) text),
      λ e. both.1 (attr_of c (attr_cell v f n) (sym is ∙ e) ∙ sym (ap (attr_with n) text)),
    )

pub name_none_says : (E : Type 0) (v : Volume) (d : ℕ) (name : List ℕ) (x : FoundCell) (b : Bool) → map.get v.names (d, name) ≡ None → ((b ≡ true) ↔ (x ≡ found.Absent))
    → Says {E = E} (Ok b) (x ≡ cell_of v (key.Name d name))
name_none_says E v d name x b none both = says_is E b x (cell_of v (key.Name d name)) found.Absent (name_none v d name none) both

pub name_other : (v : Volume) (d : ℕ) (name : List ℕ) (n : Entry) (x : FoundCell) → map.get v.names (d, name) ≡ Some n → ((c : NameCell) → x ≡ found.Name c → ⊥) → x ≡ cell_of v (key.Name d name) → ⊥
name_other v d name n x some other e = other (name_cell d name n) (e ∙ name_some v d name n some)

pub name_says : (E : Type 0) (v : Volume) (d : ℕ) (name : List ℕ) (n : Entry) (x : FoundCell) (c : NameCell) (b : Bool) → map.get v.names (d, name) ≡ Some n → x ≡ found.Name c
    → ((b ≡ true) ↔ (c ≡ name_cell d name n)) → Says {E = E} (Ok b) (x ≡ cell_of v (key.Name d name))
name_says E v d name n x c b some is both =
    says_is E b x (cell_of v (key.Name d name)) (found.Name (name_cell d name n)) (name_some v d name n some) (
      λ said. is ∙ ap (λ (y : NameCell). found.Name y) (both.0 said),
      λ e. both.1 (name_of c (name_cell d name n) (sym is ∙ e)),
    )
