-- What was given, as a history goes on.
use Rattle.std.proofs.Common.{◌≡◌, Bool, true, false, List, ◌∷◌, Option, Some, None, refl, ap, sym, subst, ◌∙◌, ◌↔◌, inl, inr, ◌⊎◌}
use Rattle.std.specs.Prelude.{if◌then◌else◌}
use Rattle.std.specs.List.{Contains}
use Rattle.sl_frames.specs.declared.frame.Frame.{Frame}
use Rattle.sl_history.specs.Turns.{Remark, Turn, History, so_far}
use Rattle.sl_history.specs.Frames.{IsGivenIn, WasGiven, given_by, is_up}
use Rattle.sl_history.specs.Licensed.{given_up, reaches}
use Rattle.sl_wiring.specs.declared.question.Question.{Question}
use Rattle.sl_wiring.specs.declared.grants.Grant.{Grant}
use Rattle.sl_wiring.specs.declared.grants.Grants.{Grants}
use Rattle.sl_wiring.specs.declared.given.Given.{Given}
use Rattle.sl_wiring.specs.Given.{AreGivenIn, AreGrantsIn, HasMore, HasOneMore, WasAsked, WasGranted, grant_by, put_by}

-- ---- what a turn gives

same_some : (f g : Frame) → Some f ≡ Some g → f ≡ g
same_some f g e = ap (λ (o : Option Frame). elim o [ None ↦ f | Some x ↦ x ]) e

given_up_is : (past : History) (t : Turn) (f g : Frame) (b : Bool) → is_up past g.to ≡ b → given_by past t ≡ Some g → (if b then Some g else None) ≡ Some f → IsGivenIn past t f
given_up_is past t f g true up gives e = record { gives = gives ∙ e; up = ap (λ (x : Frame). is_up past x.to) (sym (same_some g f e)) ∙ up }
given_up_is past t f g false up gives e = cc

reached_by : (past : History) (t : Turn) (f : Frame) (o : Option Frame) → given_by past t ≡ o → given_up past t o ≡ Some f → IsGivenIn past t f
reached_by past t f None gives e = cc
reached_by past t f (Some g) gives e = given_up_is past t f g (is_up past g.to) refl gives e

pub reached_given : (past : History) (t : Turn) (f : Frame) → reaches past t ≡ Some f → IsGivenIn past t f
reached_given past t f e = reached_by past t f (given_by past t) refl e

pub given_reached : (past : History) (t : Turn) (f : Frame) → IsGivenIn past t f → reaches past t ≡ Some f
given_reached past t f is = ap (given_up past t) is.gives ∙ ap (λ b. if b then Some f else None) is.up

-- ---- the same over other remarks

over : (t : Turn) (past : History) (rs : List Remark) (f : Frame) → WasGiven (t ∷ past) f → WasGiven (so_far t rs ∷ past) f
over t past rs f (inl is) = inl (record { gives = is.gives; up = is.up })
over t past rs f (inr was) = inr was

under : (t : Turn) (past : History) (rs : List Remark) (f : Frame) → WasGiven (so_far t rs ∷ past) f → WasGiven (t ∷ past) f
under t past rs f (inl is) = inl (record { gives = is.gives; up = is.up })
under t past rs f (inr was) = inr was

pub given_over : (t : Turn) (past : History) (rs : List Remark) (given : Given) → AreGivenIn (t ∷ past) given → AreGivenIn (so_far t rs ∷ past) given
given_over t past rs given are = record {
  questions = λ q. (
    λ has. let was = (are.questions q).0 has in record { asking = was.asking; given = over t past rs was.asking was.given; is = was.is },
    λ was. (are.questions q).1 (record { asking = was.asking; given = under t past rs was.asking was.given; is = was.is }),
  );
  grants = λ g. (
    λ has. let was = (are.grants g).0 has in record { grant = was.grant; given = over t past rs was.grant was.given; is = was.is },
    λ was. (are.grants g).1 (record { grant = was.grant; given = under t past rs was.grant was.given; is = was.is }),
  );
}

pub grants_under : (t : Turn) (past : History) (rs : List Remark) (grants : Grants) → AreGrantsIn (so_far t rs ∷ past) grants → AreGrantsIn (t ∷ past) grants
grants_under t past rs grants are = λ g. (
  λ has. let was = (are g).0 has in record { grant = was.grant; given = under t past rs was.grant was.given; is = was.is },
  λ was. (are g).1 (record { grant = was.grant; given = over t past rs was.grant was.given; is = was.is }),
)

-- ---- a turn that begins

asked_before : (t : Turn) (past : History) (q : Question) → WasAsked past q → WasAsked (t ∷ past) q
asked_before t past q was = record { asking = was.asking; given = inr was.given; is = was.is }

granted_before : (t : Turn) (past : History) (g : Grant) → WasGranted past g → WasGranted (t ∷ past) g
granted_before t past g was = record { grant = was.grant; given = inr was.given; is = was.is }

-- of a turn that gives nothing
not_given : (past : History) (t : Turn) (f : Frame) → reaches past t ≡ None → IsGivenIn past t f → ⊥
not_given past t f none is = let e = given_reached past t f is in cc

asked_none : (t : Turn) (past : History) (q : Question) → reaches past t ≡ None → (asking : Frame) → WasGiven (t ∷ past) asking → put_by asking ≡ q → WasAsked past q
asked_none t past q none asking (inl is) same = absurd (not_given past t asking none is)
asked_none t past q none asking (inr was) same = record { asking = asking; given = was; is = same }

granted_none : (t : Turn) (past : History) (g : Grant) → reaches past t ≡ None → (grant : Frame) → WasGiven (t ∷ past) grant → grant_by grant ≡ Some g → WasGranted past g
granted_none t past g none grant (inl is) same = absurd (not_given past t grant none is)
granted_none t past g none grant (inr was) same = record { grant = grant; given = was; is = same }

pub nothing_given : (t : Turn) (past : History) (given : Given) → reaches past t ≡ None → AreGivenIn past given → AreGivenIn (t ∷ past) given
nothing_given t past given none are = record {
  questions = λ q. (
    λ has. asked_before t past q ((are.questions q).0 has),
    λ was. (are.questions q).1 (asked_none t past q none was.asking was.given was.is),
  );
  grants = λ g. (
    λ has. granted_before t past g ((are.grants g).0 has),
    λ was. (are.grants g).1 (granted_none t past g none was.grant was.given was.is),
  );
}

-- of a turn that gives a frame
is_frame : (past : History) (t : Turn) (f g : Frame) → reaches past t ≡ Some f → IsGivenIn past t g → f ≡ g
is_frame past t f g reach is = same_some f g (sym reach ∙ given_reached past t g is)

asked_cases : (t : Turn) (past : History) (f : Frame) (q : Question) → reaches past t ≡ Some f → (asking : Frame) → WasGiven (t ∷ past) asking → put_by asking ≡ q → WasAsked past q ⊎ (q ≡ put_by f)
asked_cases t past f q reach asking (inl is) same = inr (sym (ap put_by (is_frame past t f asking reach is) ∙ same))
asked_cases t past f q reach asking (inr was) same = inl (record { asking = asking; given = was; is = same })

granted_cases : (t : Turn) (past : History) (f : Frame) (g : Grant) → reaches past t ≡ Some f → (grant : Frame) → WasGiven (t ∷ past) grant → grant_by grant ≡ Some g
    → WasGranted past g ⊎ (grant_by f ≡ Some g)
granted_cases t past f g reach grant (inl is) same = inr (ap grant_by (is_frame past t f grant reach is) ∙ same)
granted_cases t past f g reach grant (inr was) same = inl (record { grant = grant; given = was; is = same })

asked_then : (t : Turn) (past : History) (f : Frame) (q : Question) → reaches past t ≡ Some f → WasAsked past q ⊎ (q ≡ put_by f) → WasAsked (t ∷ past) q
asked_then t past f q reach (inl was) = asked_before t past q was
asked_then t past f q reach (inr same) = record { asking = f; given = inl (reached_given past t f reach); is = sym same }

granted_then : (t : Turn) (past : History) (f : Frame) (g : Grant) → reaches past t ≡ Some f → WasGranted past g ⊎ (grant_by f ≡ Some g) → WasGranted (t ∷ past) g
granted_then t past f g reach (inl was) = granted_before t past g was
granted_then t past f g reach (inr same) = record { grant = f; given = inl (reached_given past t f reach); is = same }

same_grant : (x y : Grant) → Some x ≡ Some y → x ≡ y
same_grant x y e = ap (λ (o : Option Grant). elim o [ None ↦ x | Some z ↦ z ]) e

grants_more : (old new : List Grant) (o : Option Grant) (P : Grant → Type 0) → HasMore old new o → ((g : Grant) → Contains old g ↔ P g) → (g : Grant) → Contains new g ↔ (P g ⊎ (o ≡ Some g))
grants_more old new None P more are g = (
  λ has. inl ((are g).0 (subst (λ (xs : List Grant). Contains xs g) more has)),
  λ cases. elim cases [
    | inl p ↦ subst (λ (xs : List Grant). Contains xs g) (sym more) ((are g).1 p)
    | inr e ↦ cc
  ],
)
grants_more old new (Some x) P more are g = (
  λ has. elim ((more g).0 has) [
    | inl was ↦ inl ((are g).0 was)
    | inr same ↦ inr (ap (λ (z : Grant). Some z) (sym same))
  ],
  λ cases. elim cases [
    | inl p ↦ (more g).1 (inl ((are g).1 p))
    | inr e ↦ (more g).1 (inr (sym (same_grant x g e)))
  ],
)

pub frame_given : (t : Turn) (past : History) (f : Frame) (old new : Given) → reaches past t ≡ Some f → HasOneMore old.questions.keys new.questions.keys (put_by f)
    → HasMore old.grants.items.keys new.grants.items.keys (grant_by f) → AreGivenIn past old → AreGivenIn (t ∷ past) new
frame_given t past f old new reach questions grants are = record {
  questions = λ q. (
    λ has. asked_then t past f q reach (elim ((questions q).0 has) [
      | inl was ↦ inl ((are.questions q).0 was)
      | inr same ↦ inr same
    ]),
    λ was. (questions q).1 (elim (asked_cases t past f q reach was.asking was.given was.is) [
      | inl before ↦ inl ((are.questions q).1 before)
      | inr same ↦ inr same
    ]),
  );
  grants = λ g.
      let both = grants_more old.grants.items.keys new.grants.items.keys (grant_by f) (WasGranted past) grants are.grants g in (
        λ has. granted_then t past f g reach (both.0 has),
        λ was. both.1 (granted_cases t past f g reach was.grant was.given was.is),
      );
}
