-- Plans that ask for neither bytes nor the write verifier, and plans that only show them.
use Rattle.std.proofs.Common.{◌≡◌, ℕ, List, Option, Bool}
use Rattle.sl_model.specs.declared.node.Node.{Node}
use Rattle.sl_model.specs.declared.node.Entry.{Entry}
use Rattle.sl_model.specs.declared.node.Listed.{Listed}
use Rattle.sl_model.specs.Plan.{Plan, Done, Stop, Look, See, Find, Climb, Names, Text, Bytes, Verifier, Want}

abbrev pub AsksNeither : {A : Type 0} → Plan A → Type 0
AsksNeither (Done a) = Unit {0}
AsksNeither (Stop s) = Unit {0}
AsksNeither (Look f k) = (o : Option Node) → AsksNeither (k o)
AsksNeither (See f k) = (o : Option Node) → AsksNeither (k o)
AsksNeither (Find d name k) = (o : Option Entry) → AsksNeither (k o)
AsksNeither (Climb a d k) = (b : Bool) → AsksNeither (k b)
AsksNeither (Names d c k) = (xs : List Listed) → AsksNeither (k xs)
AsksNeither (Text f k) = (text : List ℕ) → AsksNeither (k text)
AsksNeither (Bytes f at count k) = ⊥
AsksNeither (Verifier k) = ⊥
AsksNeither (Want ks p) = AsksNeither p

-- both end at once, alike but for what only shows
pub record EndAlike {A : Type 0} (R : A → A → Type 0) (p q : Plan A) : Type 0 where
  pub first : A
  pub second : A
  pub one : p ≡ Done first
  pub other : q ≡ Done second
  pub alone : R first second

-- where bytes or the verifier are told, the plan ends, and with what they change in R alone
abbrev pub OnlyShows : {A : Type 0} → (A → A → Type 0) → Plan A → Type 0
OnlyShows R (Done a) = Unit {0}
OnlyShows R (Stop s) = Unit {0}
OnlyShows R (Look f k) = (o : Option Node) → OnlyShows R (k o)
OnlyShows R (See f k) = (o : Option Node) → OnlyShows R (k o)
OnlyShows R (Find d name k) = (o : Option Entry) → OnlyShows R (k o)
OnlyShows R (Climb a d k) = (b : Bool) → OnlyShows R (k b)
OnlyShows R (Names d c k) = (xs : List Listed) → OnlyShows R (k xs)
OnlyShows R (Text f k) = (text : List ℕ) → OnlyShows R (k text)
OnlyShows R (Bytes f at count k) = (x y : List ℕ) → EndAlike R (k x) (k y)
OnlyShows R (Verifier k) = (x y : ℕ) → EndAlike R (k x) (k y)
OnlyShows R (Want ks p) = OnlyShows R p
