-- A plan over what was gathered answers as it does over the volume.
use Rattle.std.proofs.Common.{◌≡◌, ℕ, zero, suc, ◌+◌, ◌<◌, List, [], ◌∷◌, length, Option, Some, None, Bool, true, false, cond, refl, sym, ap, subst, ◌∙◌, arith, inl, inr}
use Rattle.std.specs.Prelude.{◌==◌, ◌||◌}
use Rattle.std.specs.List.{AllByRecursion}
use Rattle.std.proofs.lemmas.Bool.{eqb-true, eqb-false}
use Rattle.std.specs.FinMap as map
use Rattle.sl_model.specs.declared.node.Node.{Node}
use Rattle.sl_model.specs.declared.node.Entry.{Entry}
use Rattle.sl_model.specs.Plan.{Plan, Done, Stop, Look, See, Find, Climb, Names, Text, Bytes, Verifier, Want, Key, Sight, run}
use Rattle.sl_model.specs.Volume.{Volume, Unstable, sight, seen, seen_as, after_writes, written_to, below_within, below_on, is_reg}
use Rattle.sl_model.specs.Gathered.{Gathered, missing, or_next, node_in, name_in, Climbed, Ends, Wants, climb_on, climbed, ended, known, sight_in, wants_node, wants_name, wants_climb, wanted, parent_in, IsLike, AreLike, Fits, Gathers, IsBlind, is_unstable}
use Rattle.sl_model.specs.Tree.{Path, Nodes, IsOfFile, Tree}

pub or_false : (a b : Bool) → (a || b) ≡ false → (a ≡ false) × (b ≡ false)
or_false true b e = absurd cc
or_false false b e = (refl, e)

not_written : (ws : List Unstable) (n : Node) → is_unstable n.fileid ws ≡ false → after_writes ws n ≡ n
not_written [] n e = refl
not_written (w ∷ ws) n e =
    let b = or_false (w.fileid == n.fileid) (is_unstable n.fileid ws) e in
    ap (λ (t : Bool). after_writes ws (cond t (written_to (w.offset + length w.bytes) w.moment n) n)) b.0 ∙ not_written ws n b.1

pub seen_right : (ws : List Unstable) (f : ℕ) (o : Option Node) → ((n : Node) → o ≡ Some n → n.fileid ≡ f) → is_unstable f ws ≡ false → seen_as ws o ≡ o
seen_right ws f None own e = refl
seen_right ws f (Some n) own e = ap (λ (m : Node). Some m) (not_written ws n (subst (λ g. is_unstable g ws ≡ false) (sym (own n refl)) e))

-- ---- a view is like its node

-- a node but for what unstable writes change, which is another's
abbrev Same : Node → Node → Type 0
Same n m = n ≡ record m { size = n.size; mtime = n.mtime; ctime = n.ctime }

one_write : (w : Unstable) (n : Node) (after : Node → Node) → ((m : Node) → Same (after m) m) → (b : Bool) → Same (after (cond b (written_to (w.offset + length w.bytes) w.moment n) n)) n
one_write w n after h true = h (written_to (w.offset + length w.bytes) w.moment n)
one_write w n after h false = h n

pub writes_same : (ws : List Unstable) (n : Node) → Same (after_writes ws n) n
writes_same [] n = refl
writes_same (w ∷ ws) n = one_write w n (after_writes ws) (writes_same ws) (w.fileid == n.fileid)

pub same_node : (m n : Node) → ◌≡◌ {A = Option Node} (Some m) (Some n) → m ≡ n
same_node m n e = cc

-- no unstable write is of what is no file
pub other_seen : (nodes : Nodes) (n : Node) → map.get nodes n.fileid ≡ Some n → is_reg n.kind ≡ false → (ws : List Unstable) → AllByRecursion (IsOfFile nodes) ws → after_writes ws n ≡ n
other_seen nodes n at kind [] h = refl
other_seen nodes n at kind (w ∷ ws) h = one (w.fileid == n.fileid) refl ∙ other_seen nodes n at kind ws h.1
  where
    one : (b : Bool) → (w.fileid == n.fileid) ≡ b → after_writes ws (cond (w.fileid == n.fileid) (written_to (w.offset + length w.bytes) w.moment n) n) ≡ after_writes ws n
    one false e = ap (λ b. after_writes ws (cond b (written_to (w.offset + length w.bytes) w.moment n) n)) e
    one true e =
        let s : h.0.0 ≡ n = same_node h.0.0 n (sym h.0.1 ∙ ap (map.get nodes) (eqb-true w.fileid n.fileid e) ∙ at) in
        let r : is_reg n.kind ≡ true = subst (λ (z : Node). is_reg z.kind ≡ true) s h.0.2 in
        absurd cc

pub seen_like : (v : Volume) → Tree v → (f : ℕ) → AreLike (seen v f) (map.get v.nodes f)
seen_like v t f = at (map.get v.nodes f) refl
  where
    at : (o : Option Node) → map.get v.nodes f ≡ o → AreLike (seen_as v.unstable o) o
    at None e = tt
    at (Some n) e = record {
      same = writes_same v.unstable n;
      other = λ r. other_seen v.nodes n (ap (map.get v.nodes) (t.tree.own f n e).fileid ∙ e) r v.unstable t.unstable;
    }

pub like_parent : (o p : Option Node) → AreLike o p → parent_in o ≡ parent_in p
like_parent None None l = refl
like_parent (Some n) (Some m) l = ap (λ (z : Node). Some z.parent) l.same
like_parent None (Some m) l = absurd l
like_parent (Some n) None l = absurd l

module _ (v : Volume) (g : Gathered) (t : Tree v) (all : Gathers g v) where
  node_like : (f : ℕ) (o : Option Node) → node_in g.cells f ≡ Some o → AreLike o (map.get v.nodes f)
  node_like f o e = subst (λ z. AreLike z (map.get v.nodes f)) (sym (all.nodes f o e)) (seen_like v t f)

  pub views_fit : {A : Type 0} (p : Plan A) → Fits g v p
  views_fit (Done a) = tt
  views_fit (Stop s) = tt
  views_fit (Look f k) = (node_like f, views_fit (k (known (node_in g.cells f))))
  views_fit (See f k) = (all.nodes f, views_fit (k (known (node_in g.cells f))))
  views_fit (Find d name k) = (all.found d name, views_fit (k (known (name_in g.cells d name))))
  views_fit (Climb a d k) = (λ f o e. like_parent o (map.get v.nodes f) (node_like f o e), views_fit (k (ended (climbed (suc (length g.cells)) g.cells a d))))
  views_fit (Names d c k) = (all.names d c, views_fit (k (g.names d c)))
  views_fit (Text f k) = (all.text f, views_fit (k (g.text f)))
  views_fit (Bytes f at count k) = (all.bytes f at count, views_fit (k (g.bytes f at count)))
  views_fit (Verifier k) = (all.verifier, views_fit (k g.verifier))
  views_fit (Want ks p) = views_fit p

-- ---- nothing is missing, so each answer was gathered

pub looked : (f : ℕ) (W : Option Node → List Key) (x : Option (Option Node)) → wants_node f W x ≡ [] → (x ≡ Some (known x)) × (W (known x) ≡ [])
looked f W None e = absurd cc
looked f W (Some y) e = (refl, e)

pub found : (d : ℕ) (name : List ℕ) (W : Option Entry → List Key) (x : Option (Option Entry)) → wants_name d name W x ≡ [] → (x ≡ Some (known x)) × (W (known x) ≡ [])
found d name W None e = absurd cc
found d name W (Some y) e = (refl, e)

pub climbed_on : (W : Bool → List Key) (c : Climbed) → wants_climb W c ≡ [] → (c ≡ Ends (ended c)) × (W (ended c) ≡ [])
climbed_on W (Wants f) e = absurd cc
climbed_on W (Ends b) e = (refl, e)

pub only_next : (ks next : List Key) → or_next ks next ≡ [] → next ≡ []
only_next [] next e = e
only_next (k ∷ ks) next e = absurd cc

-- ---- climbing by the parents

level : (x y : Bool) (c : Climbed) (r b : Bool) → (y ≡ false → c ≡ Ends b → b ≡ r) → cond x (Ends true) (cond y (Ends false) c) ≡ Ends b → b ≡ cond x true (cond y false r)
level true y c r b h e = cc
level false true c r b h e = cc
level false false c r b h e = h refl e

same_parent : (a b : ℕ) → ◌≡◌ {A = Option ℕ} (Some a) (Some b) → a ≡ b
same_parent a b e = cc

climb_step : (next : ℕ → Climbed) (up : ℕ → Bool) (d : ℕ) (b : Bool) (x : Option (Option Node)) (o : Option Node) → ((y : Option Node) → x ≡ Some y → parent_in y ≡ parent_in o)
    → ((n : Node) → o ≡ Some n → next n.parent ≡ Ends b → b ≡ up n.parent) → climb_on next d x ≡ Ends b → b ≡ below_on up o
climb_step next up d b None o h k e = absurd cc
climb_step next up d b (Some None) None h k e = cc
climb_step next up d b (Some None) (Some n) h k e = let f = h None refl in absurd cc
climb_step next up d b (Some (Some m)) None h k e = let f = h (Some m) refl in absurd cc
climb_step next up d b (Some (Some m)) (Some n) h k e = k n refl (subst (λ z. next z ≡ Ends b) (same_parent m.parent n.parent (h (Some m) refl)) e)

-- a plan that goes on blindly ends the same with what is like
pub alike_end : {A : Type 0} (k : Option Node → Plan A) (s : Sight) → ((n m : Node) (s : Sight) → IsLike n m → run s (k (Some n)) ≡ run s (k (Some m))) → (o p : Option Node) → AreLike o p → run s (k o) ≡ run s (k p)
alike_end k s h None None l = refl
alike_end k s h (Some n) (Some m) l = h n m s l
alike_end k s h None (Some m) l = absurd l
alike_end k s h (Some n) None l = absurd l

module _ (all : Gathered) (v : Volume) where
  module _ (parents : (f : ℕ) (o : Option Node) → node_in all.cells f ≡ Some o → parent_in o ≡ parent_in (map.get v.nodes f)) where
    climb_right : (a k d fuel F : ℕ) (b : Bool) → Path v.nodes d k → k < F → climbed fuel all.cells a d ≡ Ends b → b ≡ below_within F v.nodes a d
    climb_right a k d zero F b p l e = absurd cc
    climb_right a k d (suc fuel) zero b p l e = absurd (omega arith)
    climb_right a zero d (suc fuel) (suc F) b (inl p) l e =
        level (d == a) (d == 1) _ _ b (λ t _. absurd (eqb-false d 1 t p)) e
    climb_right a zero d (suc fuel) (suc F) b (inr p) l e =
        level (d == a) (d == 1) _ _ b (λ _ t. climb_step (climbed fuel all.cells a) (below_within F v.nodes a) d b (node_in all.cells d) (map.get v.nodes d) (parents d) (λ n q _. let r = p in absurd cc) t) e
    climb_right a (suc k) d (suc fuel) (suc F) b p l e =
        level (d == a) (d == 1) _ _ b (λ _ t. climb_step (climbed fuel all.cells a) (below_within F v.nodes a) d b (node_in all.cells d) (map.get v.nodes d) (parents d)
        (λ n q s. climb_right a k n.parent fuel F b (subst (λ (m : Node). Path v.nodes m.parent k) (same_node p.1 n (sym p.2 ∙ q)) p.3) (omega arith) s) t) e

  module _ (paths : (f : ℕ) → (k : ℕ) × (k < suc (map.len v.nodes)) × Path v.nodes f k) where
    -- where a blind plan is told what is right, and nothing is missing, it ends as over the volume
    pub answers_alike : {A : Type 0} (p : Plan A) → IsBlind p → Fits all v p → wanted all p ≡ [] → run (sight_in all) p ≡ run (sight v) p
    unfolding run
    answers_alike (Done a) blind fits none = refl
    answers_alike (Stop s) blind fits none = refl
    answers_alike (Look f k) blind fits none =
        let h = looked f (λ o. wanted all (k o)) (node_in all.cells f) none in
        answers_alike (k (known (node_in all.cells f))) (blind.1 (known (node_in all.cells f))) fits.1 h.1
        ∙ alike_end k (sight v) blind.0 (known (node_in all.cells f)) (map.get v.nodes f) (fits.0 (known (node_in all.cells f)) h.0)
    answers_alike (See f k) blind fits none =
        let h = looked f (λ o. wanted all (k o)) (node_in all.cells f) none in
        answers_alike (k (known (node_in all.cells f))) (blind (known (node_in all.cells f))) fits.1 h.1
        ∙ ap (λ o. run (sight v) (k o)) (fits.0 (known (node_in all.cells f)) h.0)
    answers_alike (Find d name k) blind fits none =
        let h = found d name (λ o. wanted all (k o)) (name_in all.cells d name) none in
        answers_alike (k (known (name_in all.cells d name))) (blind (known (name_in all.cells d name))) fits.1 h.1
        ∙ ap (λ o. run (sight v) (k o)) (fits.0 (known (name_in all.cells d name)) h.0)
    answers_alike (Want ks p) blind fits none = answers_alike p blind fits (only_next (missing all.cells ks) (wanted all p) none)
    answers_alike (Climb a d k) blind fits none =
        let p = paths d in
        let c = climbed (suc (length all.cells)) all.cells a d in
        let h = climbed_on (λ b. wanted all (k b)) c none in
        answers_alike (k (ended c)) (blind (ended c)) fits.1 h.1
        ∙ ap (λ b. run (sight v) (k b)) (climb_right fits.0 a p.0 d (suc (length all.cells)) (suc (map.len v.nodes)) (ended c) p.2 p.1 h.0)
    answers_alike (Names d c k) blind fits none =
        answers_alike (k (all.names d c)) (blind (all.names d c)) fits.1 none ∙ ap (λ o. run (sight v) (k o)) fits.0
    answers_alike (Text f k) blind fits none =
        answers_alike (k (all.text f)) (blind (all.text f)) fits.1 none ∙ ap (λ o. run (sight v) (k o)) fits.0
    answers_alike (Bytes f at count k) blind fits none =
        answers_alike (k (all.bytes f at count)) (blind (all.bytes f at count)) fits.1 none ∙ ap (λ o. run (sight v) (k o)) fits.0
    answers_alike (Verifier k) blind fits none =
        answers_alike (k all.verifier) (blind all.verifier) fits.1 none ∙ ap (λ o. run (sight v) (k o)) fits.0
