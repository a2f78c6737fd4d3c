-- No call tells whether a file was flushed.
use Rattle.std.proofs.Common.{◌≡◌, ℕ, zero, suc, ◌+◌, ◌-◌, ◌⊎◌, List, [], ◌∷◌, Option, Some, None, Bool, true, false, cond, length, refl, sym, ap, subst, ◌∙◌, arith, inl, inr}
use Rattle.std.specs.Prelude.{◌≢◌, ◌==◌, ◌&&◌, nat_le, nat_lt, slice_index, is_some}
use Rattle.std.specs.Option.{unwrap_or}
use Rattle.std.proofs.lemmas.Bool.{cases_eq, eqb-true, ne_eqb}
use Rattle.std.proofs.lemmas.Cmp.{nat_cmp_total}
use Rattle.std.proofs.lemmas.Map.Lookups.{exact_unsigned}
use Rattle.std.specs.FinMap as map
use Rattle.std.specs.FinMap.{get, insert, len, len-insert}
use Rattle.sl_model.specs.declared.node.Node.{Node}
use Rattle.sl_model.specs.declared.node.Entry.{Entry}
use Rattle.sl_model.specs.declared.node.Listed.{Listed}
use Rattle.sl_model.specs.Plan.{Plan, Done, Stop, Look, See, Find, Climb, Names, Text, Bytes, Verifier, Want, Sight, run}
use Rattle.sl_model.specs.Volume.{Volume, Unstable, after_writes, seen, seen_as, put_seen, put_bytes, put_writes, without_file, flush, byte_after, byte_after_write, byte_at, bytes_from, below_within, below_on, sight}
use Rattle.sl_model.specs.Procedures.{plan}
use Rattle.sl_model.specs.Gathered.{IsLike, AreLike, IsBlind, parent_in}
use Rattle.sl_model.specs.Tree.{Nodes, Tree}
use Rattle.sl_model.proofs.MapSteps.{get_here, get_else}
use Rattle.sl_model.proofs.Alike.{seen_like, like_parent, alike_end}
use Rattle.sl_model.proofs.Blind.{calls_are_blind}
use Rattle.sl_model.proofs.Zeros.{missed, cleared}
use Rattle.sl_laws.specs.Following.{FlushKeepsBytes, FlushesAreUnseen}
use Rattle.sl_laws.proofs.Bytes as bytes
use Rattle.sl_laws.proofs.Bytes.{place_total, exact_places, put_else, put_writes_of}
use Rattle.sl_laws.proofs.Following.{flush_keeps_views}

-- ---- the bytes of a flushed file

abbrev Within : ℕ → ℕ → ℕ → Bool
Within from n at = nat_le from at && nat_lt at (from + n)

none_within : (from at : ℕ) → Within from 0 at ≡ false
none_within from at = grind (arith)

first_within : (from n : ℕ) → Within from (suc n) from ≡ true
first_within from n = grind (arith)

first_behind : (from n : ℕ) → Within (from + 1) n from ≡ false
first_behind from n = grind (arith)

else_within : (from n at : ℕ) → at ≢ from → Within from (suc n) at ≡ Within (from + 1) n at
else_within from n at ne = at_all (Within from (suc n) at) (Within (from + 1) n at) refl refl
  where
    at_all : (x y : Bool) → Within from (suc n) at ≡ x → Within (from + 1) n at ≡ y → x ≡ y
    at_all true true p q = refl
    at_all false false p q = refl
    at_all true false p q = absurd (grind (arith, p, q, ne))
    at_all false true p q = absurd (grind (arith, p, q, ne))

next_index : (from n at : ℕ) → Within (from + 1) n at ≡ true → at - from ≡ suc (at - (from + 1))
next_index from n at e = grind (arith, e)

put_here : (f at from : ℕ) (bs : List ℕ) (m : bytes.Bytes) → unwrap_or (get (put_bytes f from bs m) (f, at)) 0 ≡ cond (Within from (length bs) at) (slice_index bs (at - from)) (unwrap_or (get m (f, at)) 0)
put_here f at from [] m = sym (ap (λ t. cond t (slice_index [] (at - from)) (unwrap_or (get m (f, at)) 0)) (none_within from at))
put_here f at from (b ∷ bs) m = put_here f at (from + 1) bs (insert m (f, from) b) ∙ elim (cases_eq at from) [
  | inl h ↦ subst (λ x. cond (Within (from + 1) (length bs) x) (slice_index bs (x - (from + 1))) (unwrap_or (get (insert m (f, from) b) (f, x)) 0)
      ≡ cond (Within from (suc (length bs)) x) (slice_index (b ∷ bs) (x - from)) (unwrap_or (get m (f, x)) 0)) (sym h) here
  | inr h ↦ ap (λ o. cond (Within (from + 1) (length bs) at) (slice_index bs (at - (from + 1))) (unwrap_or o 0)) (put_else m (f, from) b (f, at) (λ e. h (ap (λ (k : ℕ × ℕ). k.1) e)))
      ∙ beside (Within (from + 1) (length bs) at) refl
      ∙ ap (λ t. cond t (slice_index (b ∷ bs) (at - from)) (unwrap_or (get m (f, at)) 0)) (sym (else_within from (length bs) at h))
]
  where
    same_place : (x : ℕ) → x - x ≡ 0
    same_place x = omega arith

    here : cond (Within (from + 1) (length bs) from) (slice_index bs (from - (from + 1))) (unwrap_or (get (insert m (f, from) b) (f, from)) 0)
        ≡ cond (Within from (suc (length bs)) from) (slice_index (b ∷ bs) (from - from)) (unwrap_or (get m (f, from)) 0)
    here = ap (λ t. cond t (slice_index bs (from - (from + 1))) (unwrap_or (get (insert m (f, from) b) (f, from)) 0)) (first_behind from (length bs))
        ∙ ap (λ o. unwrap_or o 0) (get_here place_total exact_places m (f, from) b)
        ∙ sym (ap (slice_index (b ∷ bs)) (same_place from))
        ∙ sym (ap (λ t. cond t (slice_index (b ∷ bs) (from - from)) (unwrap_or (get m (f, from)) 0)) (first_within from (length bs)))

    beside : (t : Bool) → Within (from + 1) (length bs) at ≡ t → cond t (slice_index bs (at - (from + 1))) (unwrap_or (get m (f, at)) 0) ≡ cond t (slice_index (b ∷ bs) (at - from)) (unwrap_or (get m (f, at)) 0)
    beside true e = sym (ap (slice_index (b ∷ bs)) (next_index from (length bs) at e))
    beside false e = refl

writes_here : (f at : ℕ) (ws : List Unstable) (m : bytes.Bytes) → unwrap_or (get (put_writes f ws m) (f, at)) 0 ≡ byte_after f at ws (unwrap_or (get m (f, at)) 0)
writes_here f at [] m = refl
writes_here f at (w ∷ ws) m = writes_here f at ws (cond (w.fileid == f) (put_bytes f w.offset w.bytes m) m) ∙ ap (byte_after f at ws) (one (w.fileid == f))
  where
    one : (b : Bool) → unwrap_or (get (cond b (put_bytes f w.offset w.bytes m) m) (f, at)) 0 ≡ cond (b && Within w.offset (length w.bytes) at) (slice_index w.bytes (at - w.offset)) (unwrap_or (get m (f, at)) 0)
    one true = put_here f at w.offset w.bytes m
    one false = refl

-- the writes of one file are nothing to another's bytes
others_bytes : (f g at : ℕ) → g ≢ f → (ws : List Unstable) (b : ℕ) → byte_after g at (without_file f ws) b ≡ byte_after g at ws b
others_bytes f g at ne [] b = refl
others_bytes f g at ne (w ∷ ws) b =
    elim (w.fileid == f) as (λ t. (w.fileid == f) ≡ t → byte_after g at (cond t (without_file f ws) (w ∷ without_file f ws)) b ≡ byte_after g at ws (byte_after_write g at w b)) [
      | true ↦ λ e. others_bytes f g at ne ws b ∙ sym (ap (byte_after g at ws) (missed g at w b (ne_eqb w.fileid g (λ s. ne (sym s ∙ eqb-true w.fileid f e)))))
      | false ↦ λ e. others_bytes f g at ne ws (byte_after_write g at w b)
    ] refl

pub flush_keeps_bytes : FlushKeepsBytes
flush_keeps_bytes v f g at = elim (cases_eq g f) [
  | inl h ↦ ap (λ x. byte_at (flush f v) x at) h ∙ cleared f at v.unstable (unwrap_or (get (put_writes f v.unstable v.written) (f, at)) 0)
      ∙ writes_here f at v.unstable v.written ∙ ap (λ x. byte_at v x at) (sym h)
  | inr h ↦ others_bytes f g at h v.unstable (unwrap_or (get (put_writes f v.unstable v.written) (g, at)) 0)
      ∙ ap (λ o. byte_after g at v.unstable (unwrap_or o 0)) ((put_writes_of f v.unstable).beside v.written (g, at) h)
]

flushed_bytes : (v : Volume) (f g at count : ℕ) → bytes_from (flush f v) g at count ≡ bytes_from v g at count
flushed_bytes v f g at zero = refl
flushed_bytes v f g at (suc count) = ap (λ b. b ∷ bytes_from (flush f v) g (at + 1) count) (flush_keeps_bytes v f g at) ∙ ap (λ bs. byte_at v g at ∷ bs) (flushed_bytes v f g (at + 1) count)

-- ---- what is told in both

record ShowsAs (s t : Sight) : Type 0 where
  look : (f : ℕ) → AreLike (s.look f) (t.look f)
  see : (f : ℕ) → s.see f ≡ t.see f
  find : (d : ℕ) (name : List ℕ) → s.find d name ≡ t.find d name
  below : (a d : ℕ) → s.below a d ≡ t.below a d
  names : (d cookie : ℕ) → s.names d cookie ≡ t.names d cookie
  text : (f : ℕ) → s.text f ≡ t.text f
  bytes : (f at count : ℕ) → s.bytes f at count ≡ t.bytes f at count
  verifier : s.verifier ≡ t.verifier

ends_as : {A : Type 0} (s t : Sight) → ShowsAs s t → (p : Plan A) → IsBlind p → run s p ≡ run t p
unfolding run
ends_as s t h (Done a) b = refl
ends_as s t h (Stop e) b = refl
ends_as s t h (Look f k) b = ends_as s t h (k (s.look f)) (b.1 (s.look f)) ∙ alike_end k t b.0 (s.look f) (t.look f) (h.look f)
ends_as s t h (See f k) b = ends_as s t h (k (s.see f)) (b (s.see f)) ∙ ap (λ o. run t (k o)) (h.see f)
ends_as s t h (Find d name k) b = ends_as s t h (k (s.find d name)) (b (s.find d name)) ∙ ap (λ o. run t (k o)) (h.find d name)
ends_as s t h (Climb a d k) b = ends_as s t h (k (s.below a d)) (b (s.below a d)) ∙ ap (λ o. run t (k o)) (h.below a d)
ends_as s t h (Names d c k) b = ends_as s t h (k (s.names d c)) (b (s.names d c)) ∙ ap (λ o. run t (k o)) (h.names d c)
ends_as s t h (Text f k) b = ends_as s t h (k (s.text f)) (b (s.text f)) ∙ ap (λ o. run t (k o)) (h.text f)
ends_as s t h (Bytes f at count k) b = ends_as s t h (k (s.bytes f at count)) (b (s.bytes f at count)) ∙ ap (λ o. run t (k o)) (h.bytes f at count)
ends_as s t h (Verifier k) b = ends_as s t h (k s.verifier) (b s.verifier) ∙ ap (λ o. run t (k o)) h.verifier
ends_as s t h (Want ks p) b = ends_as s t h p b

self_like : (o : Option Node) → AreLike o o
self_like None = tt
self_like (Some n) = record { same = refl; other = λ r. refl }

up_same : (up next : ℕ → Bool) → ((d : ℕ) → up d ≡ next d) → (o p : Option Node) → parent_in o ≡ parent_in p → below_on up o ≡ below_on next p
up_same up next h None None e = refl
up_same up next h (Some n) (Some m) e = h n.parent ∙ ap next (same_number n.parent m.parent e)
  where
    same_number : (a b : ℕ) → ◌≡◌ {A = Option ℕ} (Some a) (Some b) → a ≡ b
    same_number a b e = cc
up_same up next h None (Some m) e = absurd cc
up_same up next h (Some n) None e = absurd cc

below_same : (steps : ℕ) (new old : Nodes) → ((f : ℕ) → parent_in (get new f) ≡ parent_in (get old f)) → (a d : ℕ) → below_within steps new a d ≡ below_within steps old a d
below_same zero new old h a d = refl
below_same (suc steps) new old h a d = ap (λ b. cond (d == a) true (cond (d == 1) false b)) (up_same (below_within steps new a) (below_within steps old a) (below_same steps new old h a) (get new d) (get old d) (h d))

module _ (v : Volume) (f : ℕ) (t : Tree v) where
  node_as : (o : Option Node) → get v.nodes f ≡ o → (g : ℕ) → AreLike (get (put_seen v.nodes f (seen_as v.unstable o)) g) (get v.nodes g)
  node_as None e g = self_like (get v.nodes g)
  node_as (Some n) e g = elim (cases_eq g f) [
    | inl h ↦ subst (λ x. AreLike (get (insert v.nodes f (after_writes v.unstable n)) x) (get v.nodes x)) (sym h)
        (subst (λ z. AreLike z (get v.nodes f)) (ap (seen_as v.unstable) e ∙ sym (get_here nat_cmp_total exact_unsigned v.nodes f (after_writes v.unstable n))) (seen_like v t f))
    | inr h ↦ subst (λ z. AreLike z (get v.nodes g)) (sym (get_else nat_cmp_total exact_unsigned v.nodes f (after_writes v.unstable n) g h)) (self_like (get v.nodes g))
  ]

  as_many : (o : Option Node) → get v.nodes f ≡ o → len (put_seen v.nodes f (seen_as v.unstable o)) ≡ len v.nodes
  as_many None e = refl
  as_many (Some n) e = len-insert nat_cmp_total v.nodes f (after_writes v.unstable n) ∙ ap (λ (o : Option Node). cond (is_some o) (len v.nodes) (len v.nodes + 1)) e

  flush_shows : ShowsAs (sight (flush f v)) (sight v)
  flush_shows = record {
    look = node_as (get v.nodes f) refl;
    see = λ g. flush_keeps_views v f g t;
    find = λ d name. refl;
    below = λ a d. ap (λ n. below_within (suc n) (flush f v).nodes a d) (as_many (get v.nodes f) refl)
        ∙ below_same (suc (len v.nodes)) (flush f v).nodes v.nodes (λ g. like_parent (get (flush f v).nodes g) (get v.nodes g) (node_as (get v.nodes f) refl g)) a d;
    names = λ d c. refl;
    text = λ g. refl;
    bytes = λ g at count. flushed_bytes v f g at count;
    verifier = refl;
  }

pub flushes_are_unseen : FlushesAreUnseen
flushes_are_unseen v f c cred now choice t = ends_as (sight (flush f v)) (sight v) (flush_shows v f t) (plan c cred now choice) (calls_are_blind c cred now choice)
