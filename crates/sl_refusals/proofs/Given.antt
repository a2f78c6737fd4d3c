-- Which frames were given, by computing.
use Rattle.std.proofs.Common.{◌≡◌, ◌==◌, ◌&&◌, ◌||◌, ℕ, List, is_some, if◌then◌else◌, refl, sym, ap, ◌∙◌, [], ◌∷◌, Option, Some, None, inl, inr, Bool, true, false, true≢false, arith}
use Rattle.sl_frames.specs.declared.frame.Frame.{Frame}
use Rattle.sl_history.specs.Turns.{Remark, Sent, History}
use Rattle.sl_history.specs.Frames.{WasGiven, WasSent, given_by, frame, sent_among, or_else}
use Rattle.sl_history.specs.Wired.{Answers, fits}

abbrev pub is_such : (Frame → Bool) → Option Frame → Bool
is_such such None = false
is_such such (Some f) = such f

-- a frame of this kind was given
abbrev pub some_given : (Frame → Bool) → History → Bool
some_given such [] = false
some_given such (t ∷ past) = is_such such (given_by past t) || some_given such past

either_true : (a b : Bool) → b ≡ true → (a || b) ≡ true
either_true true b is = refl
either_true false b is = is

pub given_is_among : (such : Frame → Bool) (h : History) (f : Frame) → such f ≡ true → WasGiven h f → some_given such h ≡ true
given_is_among such [] f is none = absurd none
given_is_among such (t ∷ past) f is (inl x) = ap (λ o. is_such such o || some_given such past) x.gives ∙ ap (λ b. b || some_given such past) is
given_is_among such (t ∷ past) f is (inr was) = either_true (is_such such (given_by past t)) (some_given such past) (given_is_among such past f is was)

-- no frame of this kind was given
pub not_given : (such : Frame → Bool) (h : History) (f : Frame) → some_given such h ≡ false → such f ≡ true → WasGiven h f → ⊥
not_given such h f none is given = true≢false (sym (given_is_among such h f is given) ∙ none)

-- ---- frames that were sent

abbrev pub some_among : (Frame → Bool) → List Remark → Bool
some_among such [] = false
some_among such (Sent k f ∷ rs) = such f || some_among such rs
some_among such (r ∷ rs) = some_among such rs

-- a frame of this kind was sent
abbrev pub some_sent : (Frame → Bool) → History → Bool
some_sent such [] = false
some_sent such (t ∷ past) = some_among such t.remarks || some_sent such past

no_frame : {A : Type 0} (f : Frame) → None ≡ Some f → A
no_frame f is = absurd (true≢false (sym (ap is_some is)))

-- it is this one, or one of the others
by_number : (such : Frame → Bool) (g f : Frame) (others : Option Frame) (among same : Bool) → such f ≡ true → (others ≡ Some f → among ≡ true)
    → (if same then Some g else others) ≡ Some f → (such g || among) ≡ true
by_number such g f others among true is rest found = ap (λ o. is_such such o || among) found ∙ ap (λ b. b || among) is
by_number such g f others among false is rest found = either_true (such g) among (rest found)

sent_here : (such : Frame → Bool) (rs : List Remark) (k : ℕ) (f : Frame) → such f ≡ true → sent_among rs k ≡ Some f → some_among such rs ≡ true
sent_here such [] k f is found = no_frame f found
sent_here such (Sent n g ∷ rs) k f is found = by_number such g f (sent_among rs k) (some_among such rs) (n == k) is (sent_here such rs k f is) found
sent_here such (r ∷ rs) k f is found = sent_here such rs k f is found

by_turn : (f : Frame) (here before : Option Frame) (among past : Bool) → (here ≡ Some f → among ≡ true) → (before ≡ Some f → past ≡ true)
    → or_else here before ≡ Some f → (among || past) ≡ true
by_turn f None before among past now earlier found = either_true among past (earlier found)
by_turn f (Some x) before among past now earlier found = ap (λ b. b || past) (now found)

sent_is_among : (such : Frame → Bool) (h : History) (k : ℕ) (f : Frame) → such f ≡ true → frame h k ≡ Some f → some_sent such h ≡ true
unfolding frame
sent_is_among such [] k f is found = no_frame f found
sent_is_among such (t ∷ past) k f is found =
    by_turn f (sent_among t.remarks k) (frame past k) _ _ (sent_here such t.remarks k f is) (sent_is_among such past k f is) found

-- no frame of this kind was sent
pub not_sent : (such : Frame → Bool) (h : History) (f : Frame) → some_sent such h ≡ false → such f ≡ true → WasSent h f → ⊥
not_sent such h f none is sent = true≢false (sym (sent_is_among such h sent.number f is sent.is) ∙ none)

-- ---- answers

abbrev pub is_answered_by : Frame → Frame → Bool
is_answered_by f asking =
    fits asking.body f.body && (f.from == asking.to && (f.to == asking.from && (f.fence == asking.fence && (f.tag == asking.tag && f.op == asking.op))))

pub same_numbers : (m n : ℕ) → m ≡ n → (m == n) ≡ true
same_numbers m n is = grind (arith, is)

pub both_true : (a b : Bool) → a ≡ true → b ≡ true → (a && b) ≡ true
both_true a b is also = ap (λ x. x && b) is ∙ also

pub answers_it : (f asking : Frame) → Answers asking f → is_answered_by f asking ≡ true
answers_it f asking x =
    both_true _ _ x.kind
    (both_true _ _ (same_numbers _ _ x.sender)
    (both_true _ _ (same_numbers _ _ x.receiver) (both_true _ _ (same_numbers _ _ x.fence) (both_true _ _ (same_numbers _ _ x.tag) (same_numbers _ _ x.op)))))
