-- What a plan that ends with an answer has found on its way.
use Rattle.std.proofs.Common.{◌≡◌, ℕ, List, Option, Some, None, Bool, true, false, cond, Result, Ok, refl, sym, ap, subst, ◌∙◌}
use Rattle.std.specs.Prelude.{◌==◌, not}
use Rattle.std.proofs.lemmas.Bool.{eqb-true, and_parts}
use Rattle.std.specs.FinMap.{get}
use Rattle.sl_types.specs.declared.kind.Kind.{Kind}
use Rattle.sl_types.specs.declared.kind.Kind.TheVariants as kind
use Rattle.sl_types.specs.declared.kind.Status.{Status}
use Rattle.sl_types.specs.declared.kind.Status.TheVariants.{Stale}
use Rattle.sl_types.specs.declared.cred.Cred.{Cred}
use Rattle.sl_types.specs.declared.handle.Handle.{Handle}
use Rattle.sl_types.specs.Handles.{kind_of}
use Rattle.sl_types.specs.Numbers.{kind_number}
use Rattle.sl_model.specs.declared.node.Node.{Node}
use Rattle.sl_model.specs.declared.node.Entry.{Entry}
use Rattle.sl_model.specs.Plan.{Plan, Done, Stop, Look, See, Find, Climb, Names, Text, Bytes, Verifier, Want, Sight, run, ◌>>=◌}
use Rattle.sl_model.specs.Volume.{Volume, sight, seen_as, after_writes, is_dir}
use Rattle.sl_model.specs.Checks.{refuse, is_of, same_kind, object_or, live, in_directory, granted, object, directory, node_or, see, entry_or, entry, find}

same_ok : {A : Type 0} (x y : A) → ◌≡◌ {A = Result A Status} (Ok x) (Ok y) → x ≡ y
same_ok x y e = cc

pub bind_run : {A B : Type 0} (s : Sight) (p : Plan A) (f : A → Plan B) (y : B) → run s (p >>= f) ≡ Ok y → (x : A) × (run s p ≡ Ok x) × (run s (f x) ≡ Ok y)
unfolding run ◌>>=◌
bind_run s (Done a) f y e = (a, refl, e)
bind_run s (Stop t) f y e = absurd cc
bind_run s (Look n k) f y e = bind_run s (k (s.look n)) f y e
bind_run s (See n k) f y e = bind_run s (k (s.see n)) f y e
bind_run s (Find d n k) f y e = bind_run s (k (s.find d n)) f y e
bind_run s (Climb a b k) f y e = bind_run s (k (s.below a b)) f y e
bind_run s (Names d c k) f y e = bind_run s (k (s.names d c)) f y e
bind_run s (Text n k) f y e = bind_run s (k (s.text n)) f y e
bind_run s (Bytes n a c k) f y e = bind_run s (k (s.bytes n a c)) f y e
bind_run s (Verifier k) f y e = bind_run s (k s.verifier) f y e
bind_run s (Want ks p) f y e = bind_run s p f y e

-- one step, with what it gave as a variable
pub step : {A B : Type 0} (s : Sight) (p : Plan A) (f : A → Plan B) (y : B) (P : Type 0) → run s (p >>= f) ≡ Ok y → ((x : A) → run s p ≡ Ok x → run s (f x) ≡ Ok y → P) → P
step s p f y P e k = let b = bind_run s p f y e in k b.0 b.1 b.2

pub answered : {A : Type 0} (s : Sight) (x y : A) → run s (Done x) ≡ Ok y → x ≡ y
unfolding run
answered s x y e = same_ok x y e

pub refused : (s : Sight) (b : Bool) (t : Status) (u : Unit {0}) → run s (refuse b t) ≡ Ok u → b ≡ false
unfolding run
refused s true t u e = absurd cc
refused s false t u e = refl

from_number : (k : Kind) → kind_of (kind_number k) ≡ Some k
from_number kind.Reg = refl
from_number kind.Dir = refl
from_number kind.Blk = refl
from_number kind.Chr = refl
from_number kind.Lnk = refl
from_number kind.Sock = refl
from_number kind.Fifo = refl

same_some : (a b : Kind) → ◌≡◌ {A = Option Kind} (Some a) (Some b) → a ≡ b
same_some a b e = cc

pub kinds_same : (a b : Kind) → same_kind a b ≡ true → a ≡ b
kinds_same a b e = same_some a b (sym (from_number a) ∙ ap kind_of (eqb-true (kind_number a) (kind_number b) e) ∙ from_number b)

-- a live object
pub record IsLive (v : Volume) (h : Handle) (n : Node) : Type 0 where
  pub at : get v.nodes h.fileid ≡ Some n
  pub fsid : n.fsid ≡ h.volume
  pub kind : n.kind ≡ h.kind

one_found : (v : Volume) (h : Handle) (o : Option Node) (n : Node) → get v.nodes h.fileid ≡ o → run (sight v) (object_or h o) ≡ Ok n → IsLive v h n
unfolding run
one_found v h None n at e = absurd cc
one_found v h (Some m) n at e =
    elim (is_of h m) as (λ b. is_of h m ≡ b → run (sight v) (cond b (Done m) (Stop Stale)) ≡ Ok n → IsLive v h n) [
      | true ↦ λ t u. let p = and_parts (m.fsid == h.volume) (same_kind m.kind h.kind) t in
          subst (λ z. IsLive v h z) (same_ok m n u) (record { at = at; fsid = eqb-true m.fsid h.volume p.0; kind = kinds_same m.kind h.kind p.1 })
      | false ↦ λ t u. absurd cc
    ] refl e

pub lived : (v : Volume) (h : Handle) (n : Node) → run (sight v) (live h) ≡ Ok n → IsLive v h n
unfolding run
lived v h n e = one_found v h (get v.nodes h.fileid) n refl e

pub entered : (v : Volume) (d : ℕ) (name : List ℕ) (x : Entry) → run (sight v) (entry d name) ≡ Ok x → get v.names (d, name) ≡ Some x
unfolding run
entered v d name x e = at (get v.names (d, name)) e
  where
    at : (o : Option Entry) → run (sight v) (entry_or o) ≡ Ok x → o ≡ Some x
    at None e = absurd cc
    at (Some y) e = ap (λ (z : Entry). Some z) (same_ok y x e)

-- a node as it is seen
pub record IsSeen (v : Volume) (f : ℕ) (n : Node) : Type 0 where
  pub node : Node
  pub at : get v.nodes f ≡ Some node
  pub is : n ≡ after_writes v.unstable node

pub saw : (v : Volume) (f : ℕ) (n : Node) → run (sight v) (see f) ≡ Ok n → IsSeen v f n
unfolding run
saw v f n e = at (get v.nodes f) refl e
  where
    at : (o : Option Node) → get v.nodes f ≡ o → run (sight v) (node_or (seen_as v.unstable o)) ≡ Ok n → IsSeen v f n
    at None h e = absurd cc
    at (Some m) h e = record { node = m; at = h; is = sym (same_ok (after_writes v.unstable m) n e) }

-- a directory that a handle stands for
pub record IsDirectory (v : Volume) (h : Handle) (d : Node) : Type 0 where
  pub live : IsLive v h d
  pub is_directory : is_dir d.kind ≡ true

pub not_false : (b : Bool) → not b ≡ false → b ≡ true
not_false true e = refl
not_false false e = absurd cc

pub directed : (v : Volume) (cred : Cred) (h : Handle) (d : Node) → run (sight v) (directory cred h) ≡ Ok d → IsDirectory v h d
directed v cred h d e =
    let s = sight v in
    let P = IsDirectory v h d in
    step s (live h) _ d P e (λ n is e1.
    step s (in_directory h) _ d P e1 (λ u is1 e2.
    step s (granted cred n) _ d P e2 (λ w is2 e3.
    let l = lived v h n is in
    subst (λ z. IsDirectory v h z) (answered s n d e3) (record { live = l; is_directory = ap is_dir l.kind ∙ not_false (is_dir h.kind) (refused s _ _ u is1) }))))

pub objected : (v : Volume) (cred : Cred) (h : Handle) (n : Node) → run (sight v) (object cred h) ≡ Ok n → IsLive v h n
objected v cred h n e =
    let s = sight v in
    let P = IsLive v h n in
    step s (live h) _ n P e (λ m is e1.
    step s (granted cred m) _ n P e1 (λ w is2 e2.
    subst (λ z. IsLive v h z) (answered s m n e2) (lived v h m is)))

pub looked_up : (v : Volume) (d : ℕ) (name : List ℕ) (o : Option Entry) → run (sight v) (find d name) ≡ Ok o → get v.names (d, name) ≡ o
unfolding run
looked_up v d name o e = same_ok (get v.names (d, name)) o e
