-- Which answers follow a question that was given.
use Rattle.std.proofs.Common.{◌≡◌, ℕ, Bool, true, false, refl, ap, sym, ◌∙◌, ◌↔◌, inl, inr, ◌⊎◌}
use Rattle.std.specs.Prelude.{◌==◌, ◌||◌}
use Rattle.std.proofs.lemmas.Bool.{eq-eqb, eqb-true, iff_false}
use Rattle.std.specs.List.{Contains}
use Rattle.sl_frames.specs.Frames.{kind_of}
use Rattle.sl_frames.specs.declared.frame.Frame.{Frame}
use Rattle.sl_frames.specs.declared.body.Body.{Body}
use Rattle.sl_history.specs.Turns.{History}
use Rattle.sl_history.specs.Wired.{IsAnswer, fits, is_answer}
use Rattle.sl_wiring.specs.declared.question.Question.{Question}
use Rattle.sl_wiring.specs.declared.given.Given.{Given}
use Rattle.sl_wiring.specs.Given.{AreGivenIn, WasAsked, behind}

-- the frame that asks is of that kind
pub answered : (h : History) (f : Frame) (kind : ℕ) → ((asking : Body) → kind_of asking ≡ kind → fits asking f.body ≡ true) → WasAsked h (behind f kind) → IsAnswer h f
answered h f kind kinds asked = record {
  asking = asked.asking;
  given = asked.given;
  answers = record {
    kind = kinds asked.asking.body (ap (λ (q : Question). q.kind) asked.is);
    sender = sym (ap (λ (q : Question). q.asked) asked.is);
    receiver = sym (ap (λ (q : Question). q.asker) asked.is);
    fence = sym (ap (λ (q : Question). q.fence) asked.is);
    tag = sym (ap (λ (q : Question). q.tag) asked.is);
    op = sym (ap (λ (q : Question). q.op) asked.is);
  };
}

abbrev question : ℕ → ℕ → ℕ → ℕ → ℕ → ℕ → Question
question a b c d e k = record { asker = a; asked = b; fence = c; tag = d; op = e; kind = k }

same_question : (a b c d e k a' b' c' d' e' k' : ℕ) → a' ≡ a → b' ≡ b → c' ≡ c → d' ≡ d → e' ≡ e → k ≡ k' → question a b c d e k ≡ question a' b' c' d' e' k'
same_question a b c d e k a' b' c' d' e' k' p q r s t u = rw (p, q, r, s, t, u) refl

asks_it : (h : History) (f : Frame) (kind : ℕ) (is : IsAnswer h f) → kind_of is.asking.body ≡ kind → WasAsked h (behind f kind)
asks_it h f kind is kind_is = record {
  asking = is.asking;
  given = is.given;
  is = same_question is.asking.from is.asking.to is.asking.fence is.asking.tag is.asking.op (kind_of is.asking.body) f.to f.from f.fence f.tag f.op kind
      is.answers.receiver is.answers.sender is.answers.fence is.answers.tag is.answers.op kind_is;
}

-- an answer to one kind
pub follows : (given : Given) (f : Frame) (kind : ℕ) (b : Bool) → ((asking : Body) → fits asking f.body ≡ (kind_of asking == kind)) → is_answer f.body ≡ true
    → ((b ≡ true) ↔ Contains given.questions.keys (behind f kind)) → (h : History) → AreGivenIn h given → (b ≡ true) ↔ (is_answer f.body ≡ true → IsAnswer h f)
follows given f kind b kinds answer both h are = (
  λ said _. answered h f kind (λ asking is. kinds asking ∙ eq-eqb (kind_of asking) kind is) ((are.questions (behind f kind)).0 (both.0 said)),
  λ right. both.1 ((are.questions (behind f kind)).1 (asked (right answer))),
)
  where
    asked : IsAnswer h f → WasAsked h (behind f kind)
    asked is = asks_it h f kind is (eqb-true (kind_of is.asking.body) kind (sym (kinds is.asking.body) ∙ is.answers.kind))

either : (a b : Bool) → (a || b) ≡ true → (a ≡ true) ⊎ (b ≡ true)
either true b e = inl refl
either false b e = inr e

first_is : (a b : Bool) → a ≡ true → (a || b) ≡ true
first_is a b e = ap (λ x. x || b) e

second_is : (a b : Bool) → b ≡ true → (a || b) ≡ true
second_is true b e = refl
second_is false b e = e

-- an answer to one of two kinds
asked_one : (h : History) (f : Frame) (one other : ℕ) → ((asking : Body) → fits asking f.body ≡ (kind_of asking == one || kind_of asking == other)) → IsAnswer h f
    → WasAsked h (behind f one) ⊎ WasAsked h (behind f other)
asked_one h f one other kinds is = elim (either (kind_of is.asking.body == one) (kind_of is.asking.body == other) (sym (kinds is.asking.body) ∙ is.answers.kind)) [
  | inl e ↦ inl (asks_it h f one is (eqb-true (kind_of is.asking.body) one e))
  | inr e ↦ inr (asks_it h f other is (eqb-true (kind_of is.asking.body) other e))
]

pub follows_first : (given : Given) (f : Frame) (one other : ℕ) (b : Bool) → ((asking : Body) → fits asking f.body ≡ (kind_of asking == one || kind_of asking == other)) → b ≡ true
    → ((b ≡ true) ↔ Contains given.questions.keys (behind f one)) → (h : History) → AreGivenIn h given → (b ≡ true) ↔ (is_answer f.body ≡ true → IsAnswer h f)
follows_first given f one other b kinds right both h are = (
  λ _ _. answered h f one (λ asking is. kinds asking ∙ first_is (kind_of asking == one) (kind_of asking == other) (eq-eqb (kind_of asking) one is)) ((are.questions (behind f one)).0 (both.0 right)),
  λ so. right,
)

pub follows_second : (given : Given) (f : Frame) (one other : ℕ) (a b : Bool) → ((asking : Body) → fits asking f.body ≡ (kind_of asking == one || kind_of asking == other)) → is_answer f.body ≡ true
    → a ≡ false → ((a ≡ true) ↔ Contains given.questions.keys (behind f one)) → ((b ≡ true) ↔ Contains given.questions.keys (behind f other)) → (h : History) → AreGivenIn h given
    → (b ≡ true) ↔ (is_answer f.body ≡ true → IsAnswer h f)
follows_second given f one other a b kinds answer none first both h are = (
  λ said _. answered h f other (λ asking is. kinds asking ∙ second_is (kind_of asking == one) (kind_of asking == other) (eq-eqb (kind_of asking) other is)) ((are.questions (behind f other)).0 (both.0 said)),
  λ right. elim (asked_one h f one other kinds (right answer)) [
    | inl asked ↦ absurd (iff_false first none ((are.questions (behind f one)).1 asked))
    | inr asked ↦ both.1 ((are.questions (behind f other)).1 asked)
  ],
)
