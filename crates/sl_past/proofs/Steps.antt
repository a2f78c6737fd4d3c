-- One turn after the other.
use Rattle.std.proofs.Common.{◌≡◌, ℕ, true, false, eqb, eqb-true, eq-eqb, List, [], ◌∷◌, ◌++◌, length, refl, ap, sym, subst, ◌∙◌, append_assoc, arith}
use Rattle.std.proofs.lemmas.List.{append-nil, reverse-append}
use Rattle.std.specs.Prelude.{Option, None, reverse}
use Rattle.sl_defs.specs.Histories.{history_text, turn_text}
use Rattle.sl_defs.specs.declared.setup.Setup.{Setup}
use Rattle.sl_defs.specs.declared.setup.Time.{Time}
use Rattle.sl_history.specs.Turns.{Turn, History, printed_turn, transcript_of}
use Rattle.sl_past.specs.Transcripts.{AreInPlace, HasRightMoments, IsTranscriptOf, IsTurnAt, moment_of, moment_then, volume_of, volume_then}

-- The front of the text is the transcript of a history, behind which the volume and the moment are these.
pub record Sofar (text : List ℕ) (past : History) (rest : List ℕ) (volume : Option Setup) (moment : Time) : Type 0 where
  pub spelled : text ≡ history_text (transcript_of past) ++ rest
  pub in_place : AreInPlace past
  pub moments : HasRightMoments past
  pub volume_is : volume ≡ volume_of past
  pub moment_is : moment ≡ moment_of past

pub begins : (text : List ℕ) (read : List Turn) → read ≡ [] → Sofar text (reverse read) text None (record { sec = 0; nsec = 0 })
unfolding history_text
begins text read e =
    subst (λ (turns : List Turn). Sofar text (reverse turns) text None (record { sec = 0; nsec = 0 })) (sym e)
    (record { spelled = refl; in_place = tt; moments = tt; volume_is = refl; moment_is = refl })

pub goes_on : (text : List ℕ) (past : History) (rest behind : List ℕ) (volume : Option Setup) (moment : Time) (t : Turn)
    → Sofar text past rest volume moment → IsTurnAt volume t → rest ≡ turn_text (printed_turn t) ++ behind → t.moment ≡ moment_then t.happening moment
    → Sofar text (t ∷ past) behind (volume_then t.happening volume) t.moment
unfolding history_text
goes_on text past rest behind volume moment t so is e right =
    let moment_here = right ∙ ap (moment_then t.happening) so.moment_is in
    record {
      spelled = so.spelled ∙ ap (λ (r : List ℕ). history_text (transcript_of past) ++ r) e
          ∙ sym (append_assoc (history_text (transcript_of past)) (turn_text (printed_turn t)) behind);
      in_place = (so.in_place, subst (λ (v : Option Setup). IsTurnAt v t) so.volume_is is);
      moments = (so.moments, moment_here);
      volume_is = ap (volume_then t.happening) so.volume_is;
      moment_is = moment_here;
    }

-- the newest turn, which was read last, comes first
reverse-push : (read : List Turn) (t : Turn) → reverse (read ++ t ∷ []) ≡ t ∷ reverse read
reverse-push read t = reverse-append read (t ∷ [])

-- the same, by what was read one after the other
pub one_turn_more : (text : List ℕ) (read now : List Turn) (rest behind : List ℕ) (volume given after : Option Setup) (moment here : Time) (t : Turn)
    → now ≡ read ++ t ∷ [] → given ≡ volume → after ≡ volume_then t.happening volume → here ≡ t.moment
    → Sofar text (reverse read) rest volume moment → IsTurnAt given t → rest ≡ turn_text (printed_turn t) ++ behind → t.moment ≡ moment_then t.happening moment
    → Sofar text (reverse now) behind after here
one_turn_more text read now rest behind volume given after moment here t pushed known after_is here_is so is e right =
    let place = subst (λ (v : Option Setup). IsTurnAt v t) known is in
    let more = goes_on text (reverse read) rest behind volume moment t so place e right in
    subst (λ (past : History). Sofar text past behind after here) (sym (ap reverse pushed ∙ reverse-push read t))
    (subst (λ (v : Option Setup). Sofar text (t ∷ reverse read) behind v here) (sym after_is)
    (subst (λ (m : Time). Sofar text (t ∷ reverse read) behind (volume_then t.happening volume) m) (sym here_is) more))

pub ends_here : (text : List ℕ) (past h : History) (rest : List ℕ) (volume : Option Setup) (moment : Time)
    → h ≡ past → rest ≡ [] → Sofar text past rest volume moment → IsTranscriptOf text h × HasRightMoments h
ends_here text past h rest volume moment same none so =
    let spelled = so.spelled ∙ ap (λ (r : List ℕ). history_text (transcript_of past) ++ r) none ∙ append-nil (history_text (transcript_of past)) in
    subst (λ (other : History). IsTranscriptOf text other × HasRightMoments other) (sym same) (record { spelled = spelled; in_place = so.in_place }, so.moments)

-- ---- what is left

pub is_none : (rest : List ℕ) → eqb (length rest) 0 ≡ true → rest ≡ []
is_none [] e = refl
is_none (b ∷ bs) e = absurd (omega (arith, eqb-true (length (b ∷ bs)) 0 e))

pub is_some : (rest : List ℕ) → eqb (length rest) 0 ≡ false → rest ≡ [] → ⊥
is_some [] has e =
    let clash : true ≡ false = sym (eq-eqb 0 0 refl) ∙ has in
    cc
is_some (b ∷ bs) has e = omega (arith, ap length e)
