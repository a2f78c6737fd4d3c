-- What changes and flushes leave of the views.
use Rattle.std.proofs.Common.{◌≡◌, ℕ, ◌+◌, List, [], ◌∷◌, ◌++◌, Option, Some, None, Bool, true, false, cond, length, refl, sym, ap, subst, ◌∙◌, inl, inr}
use Rattle.std.specs.Prelude.{◌≢◌, ◌==◌}
use Rattle.std.specs.List.{AllByRecursion}
use Rattle.std.proofs.lemmas.Bool.{cases_eq, eqb-true, eqb-false, ne_eqb, eq-eqb}
use Rattle.std.proofs.lemmas.Cmp.{nat_cmp_total}
use Rattle.std.proofs.lemmas.Map.Lookups.{exact_unsigned}
use Rattle.std.specs.FinMap.{get, insert, remove}
use Rattle.sl_model.specs.declared.node.Node.{Node}
use Rattle.sl_model.specs.Volume.{Volume, Unstable, Change, PutNode, TakeNode, PutName, TakeName, PutText, PutBytes, AddWrite, changed, after_changes, flush, written_to, after_write, after_writes, seen, seen_as, put_seen, without_file}
use Rattle.sl_model.specs.Tree.{Nodes, Tree}
use Rattle.sl_model.proofs.MapSteps.{get_here, get_else, gone_here, gone_else, put_cases, take_cases}
use Rattle.sl_laws.specs.Following.{written_view, view_after, views_after, PutsOwn, ViewsFollow, FlushKeepsViews}
use Rattle.sl_laws.proofs.Points.{over}
use Rattle.sl_laws.proofs.Views.{writes_keep}

-- ---- writes of one file, and of others

abbrev written_if : Unstable → Bool → Node → Node
written_if w b n = cond b (written_to (w.offset + length w.bytes) w.moment n) n

-- a write of another file
missed : (w : Unstable) (n : Node) → w.fileid == n.fileid ≡ false → after_write w n ≡ n
missed w n e = ap (λ b. written_if w b n) e

own_gone : (f : ℕ) (ws : List Unstable) (n : Node) → n.fileid ≡ f → after_writes (without_file f ws) n ≡ n
own_gone f [] n e = refl
own_gone f (w ∷ ws) n e =
    elim (w.fileid == f) as (λ b. (w.fileid == f) ≡ b → after_writes (cond b (without_file f ws) (w ∷ without_file f ws)) n ≡ n) [
      | true ↦ λ t. own_gone f ws n e
      | false ↦ λ t. ap (after_writes (without_file f ws)) (missed w n (ap (λ g. w.fileid == g) e ∙ t)) ∙ own_gone f ws n e
    ] refl

other_fileid : (f : ℕ) (w : Unstable) (n : Node) → n.fileid ≢ f → w.fileid == f ≡ true → w.fileid == n.fileid ≡ false
other_fileid f w n ne t = ne_eqb w.fileid n.fileid (λ e. ne (sym e ∙ eqb-true w.fileid f t))

own_after : (w : Unstable) (n : Node) → (after_write w n).fileid ≡ n.fileid
own_after w n = at (w.fileid == n.fileid)
  where
    at : (b : Bool) → (written_if w b n).fileid ≡ n.fileid
    at true = refl
    at false = refl

others_stay : (f : ℕ) (ws : List Unstable) (n : Node) → n.fileid ≢ f → after_writes (without_file f ws) n ≡ after_writes ws n
others_stay f [] n ne = refl
others_stay f (w ∷ ws) n ne =
    elim (w.fileid == f) as (λ b. (w.fileid == f) ≡ b → after_writes (cond b (without_file f ws) (w ∷ without_file f ws)) n ≡ after_writes ws (after_write w n)) [
      | true ↦ λ t. others_stay f ws n ne ∙ sym (ap (after_writes ws) (missed w n (other_fileid f w n ne t)))
      | false ↦ λ t. others_stay f ws (after_write w n) (λ e. ne (sym (own_after w n) ∙ e))
    ] refl

one_more : (ws : List Unstable) (w : Unstable) (n : Node) → after_writes (ws ++ w ∷ []) n ≡ after_write w (after_writes ws n)
one_more [] w n = refl
one_more (x ∷ ws) w n = one_more ws w (after_write x n)

-- ---- nodes under their own fileids

abbrev Own : Nodes → Type 0
Own nodes = (f : ℕ) (n : Node) → get nodes f ≡ Some n → n.fileid ≡ f

seen_beside : (f g : ℕ) (ws : List Unstable) (o : Option Node) → ((n : Node) → o ≡ Some n → n.fileid ≡ g) → g ≢ f → seen_as (without_file f ws) o ≡ seen_as ws o
seen_beside f g ws None own ne = refl
seen_beside f g ws (Some n) own ne = ap (λ (z : Node). Some z) (others_stay f ws n (λ e. ne (sym (own n refl) ∙ e)))

seen_more : (g : ℕ) (w : Unstable) (ws : List Unstable) (o : Option Node) → ((n : Node) → o ≡ Some n → n.fileid ≡ g)
    → seen_as (ws ++ w ∷ []) o ≡ cond (w.fileid == g) (written_view w (seen_as ws o)) (seen_as ws o)
seen_more g w ws None own = at (w.fileid == g)
  where
    at : (b : Bool) → ◌≡◌ {A = Option Node} None (cond b None None)
    at true = refl
    at false = refl
seen_more g w ws (Some n) own =
    ap (λ (z : Node). Some z) (one_more ws w n)
    ∙ ap (λ x. Some (written_if w (w.fileid == x) (after_writes ws n))) ((writes_keep ws n).alike.fileid ∙ own n refl)
    ∙ at (w.fileid == g)
  where
    at : (b : Bool) → ◌≡◌ {A = Option Node} (Some (written_if w b (after_writes ws n))) (cond b (written_view w (Some (after_writes ws n))) (Some (after_writes ws n)))
    at true = refl
    at false = refl

same_node : (m n : Node) → ◌≡◌ {A = Option Node} (Some m) (Some n) → m ≡ n
same_node m n e = cc

put_own : (nodes : Nodes) (f : ℕ) (n : Node) → Own nodes → n.fileid ≡ f → Own (insert nodes f n)
put_own nodes f n own e g m h = elim (put_cases nat_cmp_total exact_unsigned nodes f n g m h) [
  | inl p ↦ ap (λ (z : Node). z.fileid) (sym p.1) ∙ e ∙ sym p.0
  | inr p ↦ own g m p.1
]

seen_own : (nodes : Nodes) (f : ℕ) (ws : List Unstable) → Own nodes → (o : Option Node) → get nodes f ≡ o → Own (put_seen nodes f (seen_as ws o))
seen_own nodes f ws own None e = own
seen_own nodes f ws own (Some n) e = put_own nodes f (after_writes ws n) own ((writes_keep ws n).alike.fileid ∙ own f n e)

own_changed : (c : Change) (v : Volume) → Own v.nodes → PutsOwn c → Own (changed c v).nodes
own_changed (PutNode f n) v own e = put_own (put_seen v.nodes f (seen v f)) f n (seen_own v.nodes f v.unstable own (get v.nodes f) refl) e
own_changed (TakeNode f) v own e = λ g m h. own g m (take_cases nat_cmp_total exact_unsigned v.nodes f g m h).1
own_changed (PutName d name x) v own e = own
own_changed (TakeName d name) v own e = own
own_changed (PutText f text) v own e = own
own_changed (PutBytes f at bytes) v own e = own
own_changed (AddWrite w) v own e = own

-- ---- one change

same_if : (f g : ℕ) (x y : Option Node) → f ≡ g → cond (f == g) x y ≡ x
same_if f g x y e = ap (λ b. cond b x y) (eq-eqb f g e)

else_if : (f g : ℕ) (x y : Option Node) → g ≢ f → cond (f == g) x y ≡ y
else_if f g x y ne = ap (λ b. cond b x y) (ne_eqb f g (λ e. ne (sym e)))

seen_changed : (c : Change) (v : Volume) → Own v.nodes → PutsOwn c → (g : ℕ) → seen (changed c v) g ≡ view_after c g (seen v g)
seen_changed (PutNode f n) v own e g =
    ap (λ (m : Nodes). seen_as (without_file f v.unstable) (get m g)) (over v.nodes f (seen v f) n)
    ∙ elim (cases_eq g f) [
      | inl h ↦ ap (λ x. seen_as (without_file f v.unstable) (get (insert v.nodes f n) x)) h
          ∙ ap (seen_as (without_file f v.unstable)) (get_here nat_cmp_total exact_unsigned v.nodes f n)
          ∙ ap (λ (z : Node). Some z) (own_gone f v.unstable n e) ∙ sym (same_if f g (Some n) (seen v g) (sym h))
      | inr h ↦ ap (seen_as (without_file f v.unstable)) (get_else nat_cmp_total exact_unsigned v.nodes f n g h)
          ∙ seen_beside f g v.unstable (get v.nodes g) (own g) h ∙ sym (else_if f g (Some n) (seen v g) h)
    ]
seen_changed (TakeNode f) v own e g = elim (cases_eq g f) [
  | inl h ↦ ap (λ x. seen_as (without_file f v.unstable) (get (remove v.nodes f) x)) h
      ∙ ap (seen_as (without_file f v.unstable)) (gone_here nat_cmp_total exact_unsigned v.nodes f) ∙ sym (same_if f g None (seen v g) (sym h))
  | inr h ↦ ap (seen_as (without_file f v.unstable)) (gone_else nat_cmp_total exact_unsigned v.nodes f g h)
      ∙ seen_beside f g v.unstable (get v.nodes g) (own g) h ∙ sym (else_if f g None (seen v g) h)
]
seen_changed (AddWrite w) v own e g = seen_more g w v.unstable (get v.nodes g) (own g)
seen_changed (PutName d name x) v own e g = refl
seen_changed (TakeName d name) v own e g = refl
seen_changed (PutText f text) v own e g = refl
seen_changed (PutBytes f at bytes) v own e g = refl

all_follow : (v : Volume) (cs : List Change) (g : ℕ) → Own v.nodes → AllByRecursion PutsOwn cs → seen (after_changes cs v) g ≡ views_after cs g (seen v g)
all_follow v [] g own h = refl
all_follow v (c ∷ cs) g own h = all_follow (changed c v) cs g (own_changed c v own h.0) h.1 ∙ ap (views_after cs g) (seen_changed c v own h.0 g)

pub views_follow : ViewsFollow
views_follow v cs g t h = all_follow v cs g (λ f n e. (t.tree.own f n e).fileid) h

-- ---- a flush

module _ (v : Volume) (f g : ℕ) (own : Own v.nodes) where
  flushed_here : (o : Option Node) → get v.nodes f ≡ o → seen_as (without_file f v.unstable) (get (put_seen v.nodes f (seen_as v.unstable o)) f) ≡ seen_as v.unstable o
  flushed_here None e = ap (seen_as (without_file f v.unstable)) e
  flushed_here (Some n) e = ap (seen_as (without_file f v.unstable)) (get_here nat_cmp_total exact_unsigned v.nodes f (after_writes v.unstable n))
      ∙ ap (λ (z : Node). Some z) (own_gone f v.unstable (after_writes v.unstable n) ((writes_keep v.unstable n).alike.fileid ∙ own f n e))

  flushed_else : (o : Option Node) → g ≢ f → get (put_seen v.nodes f (seen_as v.unstable o)) g ≡ get v.nodes g
  flushed_else None ne = refl
  flushed_else (Some n) ne = get_else nat_cmp_total exact_unsigned v.nodes f (after_writes v.unstable n) g ne

  flushed : seen (flush f v) g ≡ seen v g
  flushed = elim (cases_eq g f) [
    | inl h ↦ ap (seen (flush f v)) h ∙ flushed_here (get v.nodes f) refl ∙ ap (seen v) (sym h)
    | inr h ↦ ap (seen_as (without_file f v.unstable)) (flushed_else (get v.nodes f) h) ∙ seen_beside f g v.unstable (get v.nodes g) (own g) h
  ]

pub flush_keeps_views : FlushKeepsViews
flush_keeps_views v f g t = flushed v f g (λ x n e. (t.tree.own x n e).fileid)
