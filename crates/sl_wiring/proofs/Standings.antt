-- On which servers it stands what differs, by lists of them.
use Rattle.std.proofs.Common.{◌≡◌, ℕ, suc, ◌+◌, ◌<◌, ◌≤◌, List, [], ◌∷◌, length, drop, drop-cons, get_or, add-one, ap, sym, subst, ◌∙◌, ◌↔◌, inl, inr, ◌⊎◌}
use Rattle.std.specs.Prelude.{map}
use Rattle.std.specs.List.{All, Contains}
use Rattle.std.proofs.lemmas.List.Elements.{All-contains_itself, All-weaker}
use Rattle.std.proofs.lemmas.List.{drop_all}
use Rattle.sl_wiring.specs.Given.{HasOneMore}
use Rattle.sl_wiring.specs.Standing.{AddsServers}
use Rattle.sl_wiring.proofs.Sets.{first_key, key_cases, later_key, no_key}

-- ---- servers, one after another

-- The servers so far and those of what is left are all.
abbrev pub Adding : {A : Type 0} → List ℕ → List ℕ → (A → ℕ) → List A → List A → Type 0
Adding old now server_of left xs = (s : ℕ) → (Contains now s ⊎ Contains (map server_of left) s) ↔ (Contains old s ⊎ Contains (map server_of xs) s)

pub adding_none : {A : Type 0} (old : List ℕ) (server_of : A → ℕ) (xs : List A) → Adding old old server_of xs xs
adding_none old server_of xs s = (λ c. c, λ c. c)

pub adding_one : {A : Type 0} (old now new : List ℕ) (server_of : A → ℕ) (x : A) (left xs : List A) → Adding old now server_of (x ∷ left) xs → HasOneMore now new (server_of x) → Adding old new server_of left xs
adding_one {A = A} old now new server_of x left xs before more s = (λ c. (before s).0 (forth c), λ c. back ((before s).1 c))
  where
    forth : Contains new s ⊎ Contains (map server_of left) s → Contains now s ⊎ Contains (map server_of (x ∷ left)) s
    forth (inl has) = elim ((more s).0 has) [
      | inl was ↦ inl was
      | inr same ↦ inr (subst (λ (z : ℕ). Contains (map server_of (x ∷ left)) z) (sym same) (first_key (server_of x) (map server_of left)))
    ]
    forth (inr has) = inr (later_key (server_of x) s (map server_of left) has)

    back : Contains now s ⊎ Contains (map server_of (x ∷ left)) s → Contains new s ⊎ Contains (map server_of left) s
    back (inl has) = inl ((more s).1 (inl has))
    back (inr has) = elim (key_cases (server_of x) s (map server_of left) has) [
      | inl same ↦ inl ((more s).1 (inr (sym same)))
      | inr later ↦ inr later
    ]

pub adding_all : {A : Type 0} (old new : List ℕ) (server_of : A → ℕ) (left xs : List A) → left ≡ [] → Adding old new server_of left xs → AddsServers old new server_of xs
adding_all old new server_of left xs none all s = (
  λ has. (all s).0 (inl has),
  λ cases. elim ((all s).1 cases) [
    | inl has ↦ has
    | inr more ↦ absurd (no_key s (subst (λ ys. Contains (map server_of ys) s) none more))
  ],
)

-- one step over a slice
pub adding_at : {A : Type 0} (old now new : List ℕ) (server_of : A → ℕ) (items : List A) (k : ℕ) (x : A) (server : ℕ) → drop k items ≡ x ∷ drop (k + 1) items → server ≡ server_of x
    → Adding old now server_of (drop k items) items → HasOneMore now new server → Adding old new server_of (drop (k + 1) items) items
adding_at {A = A} old now new server_of items k x server next is before more =
    adding_one old now new server_of x (drop (k + 1) items) items (subst (λ (xs : List A). Adding old now server_of xs items) next before)
    (subst (λ (s : ℕ). HasOneMore now new s) is more)

pub added : {A : Type 0} (old new : List ℕ) (server_of : A → ℕ) (items : List A) (k : ℕ) → length items ≤ k → Adding old new server_of (drop k items) items → AddsServers old new server_of items
added old new server_of items k past all = adding_all old new server_of (drop k items) items (drop_all k items past) all

-- ---- all servers

pub all_of : (P : ℕ → Type 0) (servers : List ℕ) → ((s : ℕ) → Contains servers s → P s) → All P servers
all_of P servers each = All-weaker (Contains servers) P each servers (All-contains_itself servers)

-- ---- items of a slice

pub item_at : {A : Type 0} (items : List A) (k : ℕ) (item : A) → k < length items → item ≡ get_or items k item → drop k items ≡ item ∷ drop (k + 1) items
item_at {A = A} items k item within is =
    drop-cons items k item within ∙ ap (λ (x : A). x ∷ drop (suc k) items) (sym is) ∙ ap (λ (j : ℕ). item ∷ drop j items) (sym (add-one k))

pub any_at : {A : Type 0} (items : List A) (k : ℕ) (d : A) → k < length items → drop k items ≡ get_or items k d ∷ drop (k + 1) items
any_at items k d within = drop-cons items k d within ∙ ap (λ (j : ℕ). get_or items k d ∷ drop j items) (sym (add-one k))

pub none_left : {A : Type 0} (items : List A) (k : ℕ) → length items ≤ k → drop k items ≡ []
none_left items k past = drop_all k items past

-- ---- a list mapped

pub contains_map : {A B : Type 0} (f : A → B) (xs : List A) (x : A) → Contains xs x → Contains (map f xs) (f x)
contains_map f [] x has = absurd (no_key x has)
contains_map {B = B} f (y ∷ xs) x has = elim (key_cases y x xs has) [
  | inl same ↦ subst (λ (z : B). Contains (map f (y ∷ xs)) z) (ap f same) (first_key (f y) (map f xs))
  | inr more ↦ later_key (f y) (f x) (map f xs) (contains_map f xs x more)
]

pub record IsOf {A B : Type 0} (f : A → B) (xs : List A) (y : B) : Type 0 where
  pub item : A
  pub has : Contains xs item
  pub is : f item ≡ y

pub from_map : {A B : Type 0} (f : A → B) (xs : List A) (y : B) → Contains (map f xs) y → IsOf f xs y
from_map f [] y has = absurd (no_key y has)
from_map f (x ∷ xs) y has = elim (key_cases (f x) y (map f xs) has) [
  | inl same ↦ record { item = x; has = first_key x xs; is = same }
  | inr more ↦ let of = from_map f xs y more in record { item = of.item; has = later_key x of.item xs of.has; is = of.is }
]
