-- Lines of a listing that are told, one after another.
use Rattle.std.proofs.Common.{◌≡◌, ℕ, ◌+◌, ◌<◌, ◌≤◌, Bool, true, false, List, [], ◌∷◌, cond, ap, sym, subst, ◌∙◌, ◌↔◌}
use Rattle.std.proofs.lemmas.Bool.{le-ltb, lt-ltb}
use Rattle.std.specs.Prelude.{filter, map, nat_lt, if◌then◌else◌}
use Rattle.sl_cells.specs.declared.cells.NameCell.{NameCell}
use Rattle.sl_model.specs.declared.node.Listed.{Listed}
use Rattle.sl_model.specs.Looking.{line_size}
use Rattle.sl_history.specs.Wired.{line_cell, up_to}

-- the cells that are to be told of these lines, after so many bytes
abbrev pub told : ℕ → ℕ → ℕ → List Listed → List NameCell
told dir limit size lines = map (line_cell dir) (up_to limit size lines)

-- Whether the cells are those of all lines rests on those that are left.
abbrev pub FrontLeft : ℕ → ℕ → (Listed → Bool) → List Listed → List NameCell → ℕ → List Listed → List NameCell → Type 0
FrontLeft dir limit test lines cells size left rest = (rest ≡ told dir limit size (filter test left)) ↔ (cells ≡ told dir limit 0 (filter test lines))

pub front_first : (dir limit : ℕ) (test : Listed → Bool) (lines : List Listed) (cells : List NameCell) → FrontLeft dir limit test lines cells 0 lines cells
front_first dir limit test lines cells = (λ e. e, λ e. e)

-- a line that lies elsewhere
pub front_passes : (dir limit : ℕ) (test : Listed → Bool) (lines : List Listed) (cells : List NameCell) (size : ℕ) (left : List Listed) (x : Listed) (xs : List Listed) (rest : List NameCell)
    → left ≡ x ∷ xs → test x ≡ false → FrontLeft dir limit test lines cells size left rest → FrontLeft dir limit test lines cells size xs rest
front_passes dir limit test lines cells size left x xs rest p no_ here = subst (λ (ys : List Listed). (rest ≡ told dir limit size ys) ↔ (cells ≡ told dir limit 0 (filter test lines))) same here
  where
    same : filter test left ≡ filter test xs
    same = ap (filter test) p ∙ ap (λ b. cond b (x ∷ filter test xs) (filter test xs)) no_

-- the cells of a line and of those behind it
abbrev pub behind_line : ℕ → ℕ → ℕ → Listed → List Listed → List NameCell
behind_line dir limit size x ys = map (line_cell dir) (if nat_lt limit (size + line_size 24 x) then [] else up_to limit (size + line_size 24 x) ys)

pub front_here : (dir limit : ℕ) (test : Listed → Bool) (lines : List Listed) (cells : List NameCell) (size : ℕ) (left : List Listed) (x : Listed) (xs : List Listed) (rest : List NameCell)
    → left ≡ x ∷ xs → test x ≡ true → FrontLeft dir limit test lines cells size left rest
    → (rest ≡ line_cell dir x ∷ behind_line dir limit size x (filter test xs)) ↔ (cells ≡ told dir limit 0 (filter test lines))
front_here dir limit test lines cells size left x xs rest p lies here = subst (λ (ys : List Listed). (rest ≡ told dir limit size ys) ↔ (cells ≡ told dir limit 0 (filter test lines))) same here
  where
    same : filter test left ≡ x ∷ filter test xs
    same = ap (filter test) p ∙ ap (λ b. cond b (x ∷ filter test xs) (filter test xs)) lies

-- too few cells, or a wrong one
pub front_few : (P : Type 0) (rest : List NameCell) (y : NameCell) (ys : List NameCell) → rest ≡ [] → ((rest ≡ y ∷ ys) ↔ P) → P → ⊥
front_few P rest y ys none here p = let e = sym none ∙ here.1 p in cc

first_of : (c y : NameCell) (cs ys : List NameCell) → c ∷ cs ≡ y ∷ ys → c ≡ y
first_of c y cs ys e = ap (λ (l : List NameCell). elim l [ [] ↦ c | z ∷ zs ↦ z ]) e

behind_of : (c y : NameCell) (cs ys : List NameCell) → c ∷ cs ≡ y ∷ ys → cs ≡ ys
behind_of c y cs ys e = ap (λ (l : List NameCell). elim l [ [] ↦ cs | z ∷ zs ↦ zs ]) e

pub front_wrong : (P : Type 0) (rest : List NameCell) (c y : NameCell) (cs ys : List NameCell) → rest ≡ c ∷ cs → (c ≡ y → ⊥) → ((rest ≡ y ∷ ys) ↔ P) → P → ⊥
front_wrong P rest c y cs ys is wrong here p = wrong (first_of c y cs ys (sym is ∙ here.1 p))

front_behind : (P : Type 0) (rest : List NameCell) (c y : NameCell) (cs ys : List NameCell) → rest ≡ c ∷ cs → c ≡ y → ((rest ≡ y ∷ ys) ↔ P) → (cs ≡ ys) ↔ P
front_behind P rest c y cs ys is same here = (
  λ e. here.0 (is ∙ ap (λ z. z ∷ cs) same ∙ ap (λ zs. y ∷ zs) e),
  λ p. behind_of c y cs ys (sym is ∙ here.1 p),
)

-- the limit is passed, and the listing ends here
pub front_ends : (P : Type 0) (dir limit size next : ℕ) (x : Listed) (ys : List Listed) (rest : List NameCell) (c : NameCell) (cs : List NameCell) (b : Bool)
    → next ≡ size + line_size 24 x → limit < next → rest ≡ c ∷ cs → c ≡ line_cell dir x → ((rest ≡ line_cell dir x ∷ behind_line dir limit size x ys) ↔ P) → ((b ≡ true) ↔ (cs ≡ [])) → (b ≡ true) ↔ P
front_ends P dir limit size next x ys rest c cs b sum past is same here both =
    let tail : behind_line dir limit size x ys ≡ [] = ap (λ t. map (line_cell dir) (if t then [] else up_to limit (size + line_size 24 x) ys)) (over past sum) in
    let behind = front_behind P rest c (line_cell dir x) cs (behind_line dir limit size x ys) is same here in (
      λ e. behind.0 (both.0 e ∙ sym tail),
      λ p. both.1 (behind.1 p ∙ tail),
    )
  where
    over : limit < next → next ≡ size + line_size 24 x → nat_lt limit (size + line_size 24 x) ≡ true
    over past sum = lt-ltb limit (size + line_size 24 x) (subst (λ (n : ℕ). limit < n) sum past)

-- and otherwise it goes on
pub front_next : (P : Type 0) (dir limit size next : ℕ) (x : Listed) (ys : List Listed) (rest : List NameCell) (c : NameCell) (cs : List NameCell)
    → next ≡ size + line_size 24 x → next ≤ limit → rest ≡ c ∷ cs → c ≡ line_cell dir x → ((rest ≡ line_cell dir x ∷ behind_line dir limit size x ys) ↔ P) → (cs ≡ told dir limit next ys) ↔ P
front_next P dir limit size next x ys rest c cs sum within is same here =
    subst (λ (zs : List NameCell). (cs ≡ zs) ↔ P) (tail within sum) (front_behind P rest c (line_cell dir x) cs (behind_line dir limit size x ys) is same here)
  where
    under : next ≤ limit → next ≡ size + line_size 24 x → nat_lt limit (size + line_size 24 x) ≡ false
    under within sum = le-ltb limit (size + line_size 24 x) (subst (λ (n : ℕ). n ≤ limit) sum within)

    tail : next ≤ limit → next ≡ size + line_size 24 x → behind_line dir limit size x ys ≡ told dir limit next ys
    tail within sum = ap (λ t. map (line_cell dir) (if t then [] else up_to limit (size + line_size 24 x) ys)) (under within sum) ∙ ap (λ n. told dir limit n ys) (sym sum)

pub front_all : (dir limit : ℕ) (test : Listed → Bool) (lines : List Listed) (cells : List NameCell) (size : ℕ) (left : List Listed) (rest : List NameCell) (b : Bool)
    → left ≡ [] → FrontLeft dir limit test lines cells size left rest → ((b ≡ true) ↔ (rest ≡ [])) → (b ≡ true) ↔ (cells ≡ told dir limit 0 (filter test lines))
front_all dir limit test lines cells size left rest b none here both =
    let tail : told dir limit size (filter test left) ≡ [] = ap (λ ls. told dir limit size (filter test ls)) none in (
      λ e. here.0 (both.0 e ∙ sym tail),
      λ p. both.1 (here.1 p ∙ tail),
    )
