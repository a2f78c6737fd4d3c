-- How a plan ends, one look-up after another.
use Rattle.std.proofs.Common.{◌≡◌, ℕ, List, Option, Ok, Err, refl, ap}
use Rattle.sl_types.specs.declared.kind.Status.{Status}
use Rattle.sl_model.specs.declared.node.Node.{Node}
use Rattle.sl_model.specs.declared.node.Entry.{Entry}
use Rattle.sl_model.specs.Plan.{Plan, Done, Stop, Look, See, Find, Verifier, Bytes, Want, Key, Sight, run}

pub run_look : {A : Type 0} (s : Sight) (f : ℕ) (k : Option Node → Plan A) (o : Option Node) → s.look f ≡ o → run s (Look f k) ≡ run s (k o)
unfolding run
run_look s f k o e = ap (λ o. run s (k o)) e

pub run_see : {A : Type 0} (s : Sight) (f : ℕ) (k : Option Node → Plan A) (o : Option Node) → s.see f ≡ o → run s (See f k) ≡ run s (k o)
unfolding run
run_see s f k o e = ap (λ o. run s (k o)) e

pub run_find : {A : Type 0} (s : Sight) (d : ℕ) (named : List ℕ) (k : Option Entry → Plan A) (o : Option Entry) → s.find d named ≡ o → run s (Find d named k) ≡ run s (k o)
unfolding run
run_find s d named k o e = ap (λ o. run s (k o)) e

pub run_want : {A : Type 0} (s : Sight) (ks : List Key) (p : Plan A) → run s (Want ks p) ≡ run s p
unfolding run
run_want s ks p = refl

pub run_verifier : {A : Type 0} (s : Sight) (k : ℕ → Plan A) → run s (Verifier k) ≡ run s (k s.verifier)
unfolding run
run_verifier s k = refl

pub run_bytes : {A : Type 0} (s : Sight) (f at count : ℕ) (k : List ℕ → Plan A) → run s (Bytes f at count k) ≡ run s (k (s.bytes f at count))
unfolding run
run_bytes s f at count k = refl

pub run_done : {A : Type 0} (s : Sight) (x : A) → run s (Done x) ≡ Ok x
unfolding run
run_done s x = refl

pub run_stop : {A : Type 0} (s : Sight) (e : Status) → run {A = A} s (Stop e) ≡ Err e
unfolding run
run_stop s e = refl
