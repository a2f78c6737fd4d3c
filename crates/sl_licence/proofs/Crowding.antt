-- How the crowds follow a turn's end.
use Rattle.std.proofs.Common.{◌≡◌, ℕ, Bool, true, false, ◌||◌, ◌&&◌, List, [], ◌∷◌, ◌++◌, refl, ap, sym, ◌∙◌, Option, Some, None}
use Rattle.std.proofs.Math.Bool.{or-false}
use Rattle.std.proofs.lemmas.Bool.{and_right}
use Rattle.std.proofs.lemmas.List.Folds.{list_any-append}
use Rattle.std.specs.Prelude.{nat_le}
use Rattle.std.specs.List.{list_any}
use Rattle.sl_model.specs.Volume.{Volume, Unstable}
use Rattle.sl_history.specs.Turns.{Turn, History, events}
use Rattle.sl_history.specs.Volumes.{volume_after}
use Rattle.sl_history.specs.Licensed.{flushing, had_many, has_many}
use Rattle.sl_licence.specs.declared.crowds.Crowd.{Crowd}
use Rattle.sl_licence.specs.declared.crowds.Crowds.{Crowds}
use Rattle.sl_licence.specs.Crowds.{AreCrowdsOf, are_many, had, had_if}

or_comm : (a b : Bool) → (a || b) ≡ (b || a)
or_comm true true = refl
or_comm true false = refl
or_comm false true = refl
or_comm false false = refl

-- what the crowd of now says of a history
pub many_now : (start : Volume) (h : History) (fs : List ℕ) (ws : List Unstable) (f : ℕ) → fs ≡ flushing h → ws ≡ (volume_after start h).unstable → are_many fs ws f ≡ has_many start h f
many_now start h fs ws f files writes = ap (λ (x : List ℕ). are_many x ws f) files ∙ ap (λ (x : List Unstable). are_many (flushing h) x f) writes

pub many_then : (start : Volume) (t : Turn) (past : History) (event n f : ℕ) (fs : List ℕ) (ws : List Unstable) → event ≡ events (t ∷ past) → fs ≡ flushing (t ∷ past)
    → ws ≡ (volume_after start (t ∷ past)).unstable → (nat_le n event && are_many fs ws f) ≡ (nat_le n (events (t ∷ past)) && has_many start (t ∷ past) f)
many_then start t past event n f fs ws newest files writes =
    ap (λ (e : ℕ). nat_le n e && are_many fs ws f) newest ∙ ap (λ (b : Bool). nat_le n (events (t ∷ past)) && b) (many_now start (t ∷ past) fs ws f files writes)

-- the crowd at the end of a turn, after those before
pub ends_with : (start : Volume) (t : Turn) (past : History) (cs cs' : Crowds) (o : Option Crowd)
    → ((n f : ℕ) → list_any (had n f) cs'.crowds.items ≡ (list_any (had n f) cs.crowds.items || had_if n f o))
    → ((n f : ℕ) → had_if n f o ≡ (nat_le n (events (t ∷ past)) && has_many start (t ∷ past) f)) → AreCrowdsOf start past cs → AreCrowdsOf start (t ∷ past) cs'
unfolding had_many
ends_with start t past cs cs' o more now are = record {
  had = λ n f.
      more n f ∙ or_comm (list_any (had n f) cs.crowds.items) (had_if n f o)
      ∙ ap (λ (b : Bool). b || list_any (had n f) cs.crowds.items) (now n f)
      ∙ ap (λ (b : Bool). (nat_le n (events (t ∷ past)) && has_many start (t ∷ past) f) || b) (are.had n f);
}

pub pushed : (cs : List Crowd) (c : Crowd) (n f : ℕ) → list_any (had n f) (cs ++ c ∷ []) ≡ (list_any (had n f) cs || had_if n f (Some c))
pushed cs c n f = list_any-append (had n f) cs (c ∷ []) ∙ ap (λ (b : Bool). list_any (had n f) cs || b) (or-false (had n f c))

pub as_before : (start : Volume) (t : Turn) (past : History) (cs : Crowds)
    → ((n f : ℕ) → false ≡ (nat_le n (events (t ∷ past)) && has_many start (t ∷ past) f)) → AreCrowdsOf start past cs → AreCrowdsOf start (t ∷ past) cs
as_before start t past cs now are = ends_with start t past cs cs None (λ n f. sym (or-false (list_any (had n f) cs.crowds.items))) now are

-- whether many were, of all turns and now
pub had_before : (start : Volume) (t : Turn) (past : History) (n f : ℕ) → had_many start past n f ≡ true → true ≡ had_many start (t ∷ past) n f
unfolding had_many
had_before start t past n f before = sym (ap (λ (b : Bool). (nat_le n (events (t ∷ past)) && has_many start (t ∷ past) f) || b) before ∙ or_true (nat_le n (events (t ∷ past)) && has_many start (t ∷ past) f))
  where
    or_true : (b : Bool) → (b || true) ≡ true
    or_true true = refl
    or_true false = refl

pub had_now : (start : Volume) (t : Turn) (past : History) (n f : ℕ) (b : Bool) → had_many start past n f ≡ false
    → b ≡ (nat_le n (events (t ∷ past)) && has_many start (t ∷ past) f) → b ≡ had_many start (t ∷ past) n f
unfolding had_many
had_now start t past n f b before now =
    now ∙ sym (ap (λ (x : Bool). (nat_le n (events (t ∷ past)) && has_many start (t ∷ past) f) || x) before ∙ or-false (nat_le n (events (t ∷ past)) && has_many start (t ∷ past) f))

pub no_crowds : (start : Volume) (cs : Crowds) → cs.crowds.items ≡ [] → AreCrowdsOf start [] cs
unfolding had_many
no_crowds start cs none = record { had = λ n f. ap (list_any (had n f)) none }

pub not_many : (n e : ℕ) (b : Bool) → b ≡ false → false ≡ (nat_le n e && b)
not_many n e b none = sym (and_right (nat_le n e) b none)
