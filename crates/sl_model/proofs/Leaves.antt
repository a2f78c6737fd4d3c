-- What holds of each end of a plan holds of its answer.
use Rattle.std.proofs.Common.{◌≡◌, ℕ, List, Option, Bool, true, false, Result, Ok, subst}
use Rattle.std.specs.Prelude.{if◌then◌else◌}
use Rattle.sl_types.specs.declared.kind.Status.{Status}
use Rattle.sl_model.specs.declared.node.Node.{Node}
use Rattle.sl_model.specs.declared.node.Entry.{Entry}
use Rattle.sl_model.specs.declared.node.Listed.{Listed}
use Rattle.sl_model.specs.Plan.{Plan, Done, Stop, Look, See, Find, Climb, Names, Text, Bytes, Verifier, Want, Sight, run, ◌>>=◌}

-- each answer that the plan can end with has P
abbrev pub AllEnd : {A : Type 0} → (A → Type 0) → Plan A → Type 0
AllEnd P (Done a) = P a
AllEnd P (Stop s) = Unit {0}
AllEnd P (Look n k) = (o : Option Node) → AllEnd P (k o)
AllEnd P (See n k) = (o : Option Node) → AllEnd P (k o)
AllEnd P (Find d n k) = (o : Option Entry) → AllEnd P (k o)
AllEnd P (Climb a b k) = (o : Bool) → AllEnd P (k o)
AllEnd P (Names d c k) = (o : List Listed) → AllEnd P (k o)
AllEnd P (Text n k) = (o : List ℕ) → AllEnd P (k o)
AllEnd P (Bytes n a c k) = (o : List ℕ) → AllEnd P (k o)
AllEnd P (Verifier k) = (o : ℕ) → AllEnd P (k o)
AllEnd P (Want ks p) = AllEnd P p

same_ok : {A : Type 0} (x y : A) → ◌≡◌ {A = Result A Status} (Ok x) (Ok y) → x ≡ y
same_ok x y e = cc

pub answer_has : {A : Type 0} (P : A → Type 0) (s : Sight) (p : Plan A) (a : A) → AllEnd P p → run s p ≡ Ok a → P a
unfolding run
answer_has P s (Done b) a h e = subst P (same_ok b a e) h
answer_has P s (Stop t) a h e = absurd cc
answer_has P s (Look n k) a h e = answer_has P s (k (s.look n)) a (h (s.look n)) e
answer_has P s (See n k) a h e = answer_has P s (k (s.see n)) a (h (s.see n)) e
answer_has P s (Find d n k) a h e = answer_has P s (k (s.find d n)) a (h (s.find d n)) e
answer_has P s (Climb x y k) a h e = answer_has P s (k (s.below x y)) a (h (s.below x y)) e
answer_has P s (Names d c k) a h e = answer_has P s (k (s.names d c)) a (h (s.names d c)) e
answer_has P s (Text n k) a h e = answer_has P s (k (s.text n)) a (h (s.text n)) e
answer_has P s (Bytes n x c k) a h e = answer_has P s (k (s.bytes n x c)) a (h (s.bytes n x c)) e
answer_has P s (Verifier k) a h e = answer_has P s (k s.verifier) a (h s.verifier) e
answer_has P s (Want ks p) a h e = answer_has P s p a h e

-- where each rest has it, the whole has it
pub then_all : {A B : Type 0} (P : B → Type 0) (p : Plan A) (f : A → Plan B) → ((a : A) → AllEnd P (f a)) → AllEnd P (p >>= f)
unfolding ◌>>=◌
then_all P (Done a) f h = h a
then_all P (Stop s) f h = tt
then_all P (Look n k) f h = λ o. then_all P (k o) f h
then_all P (See n k) f h = λ o. then_all P (k o) f h
then_all P (Find d n k) f h = λ o. then_all P (k o) f h
then_all P (Climb a b k) f h = λ o. then_all P (k o) f h
then_all P (Names d c k) f h = λ o. then_all P (k o) f h
then_all P (Text n k) f h = λ o. then_all P (k o) f h
then_all P (Bytes n a c k) f h = λ o. then_all P (k o) f h
then_all P (Verifier k) f h = λ o. then_all P (k o) f h
then_all P (Want ks p) f h = then_all P p f h

-- where both cases have it, the choice has it
pub either_all : {B : Type 0} (P : B → Type 0) (b : Bool) (x y : Plan B) → AllEnd P x → AllEnd P y → AllEnd P (if b then x else y)
either_all P true x y h k = h
either_all P false x y h k = k
