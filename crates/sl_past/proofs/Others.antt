-- Other histories that a text may be the transcript of: what of them is still to be read.
use Rattle.std.proofs.Common.{◌≡◌, ℕ, ◌<◌, true, false, List, [], ◌∷◌, ◌++◌, length, length-append, refl, ap, sym, subst, ◌∙◌, append_assoc, arith}
use Rattle.std.specs.Prelude.{◌≢◌, Option, Some, None, All, codes}
use Rattle.std.proofs.lemmas.List.{append-nil, append_cancel_left}
use Rattle.std.proofs.lemmas.List.Elements.{All-nil, All-cons, All-head, All-tail}
use Rattle.sl_defs.specs.Histories.{Happening, Opens, Reaches, Happens, ended, history_text, line_of, notes_text, turn_text}
use Rattle.sl_defs.specs.Schedules.{FitsLine, IsLine, line_text, setup_text}
use Rattle.sl_defs.specs.Transcripts.{FitsNote, note_text}
use Rattle.sl_defs.specs.declared.setup.Setup.{Setup}
use Rattle.sl_defs.specs.declared.note.Printed.{Printed}
use Rattle.sl_defs.specs.declared.note.Printed.TheVariants as printed
use Rattle.sl_frames.specs.Frames.{frame_text}
use Rattle.sl_history.specs.Turns as turns
use Rattle.sl_history.specs.Turns.{Turn, History, note_of, printed_turn, transcript_of}
use Rattle.sl_past.specs.Fronts.{BeginsWithRemarks, BeginsWithTurn, FitsOpening, HasNoFrame}
use Rattle.sl_past.specs.Transcripts.{AreInPlace, FitsTurn, HasNoEnd, IsRemark, IsTranscriptOf, IsTurnAt, begins_note, remarks_text, volume_of, volume_then}
use Rattle.sl_past.proofs.Spelling.{apart_at, line_first, line_no_end, note_first, note_no_end, same_cut, same_sent, same_setup}

-- ---- lines

pub has_end : (a b : List ℕ) → HasNoEnd (ended a ++ b) → ⊥
has_end [] b none = All-head (λ c. c ≢ 10) 10 b none refl
has_end (x ∷ xs) b none = has_end xs b (All-tail (λ c. c ≢ 10) x (ended xs ++ b) none)

same_line : (line behind other rest : List ℕ) → HasNoEnd line → HasNoEnd other → ended line ++ behind ≡ ended other ++ rest → (line ≡ other) × (behind ≡ rest)
same_line line behind other rest n m e = same_cut 10 line other behind rest n m (sym (append_assoc line (10 ∷ []) behind) ∙ e ∙ append_assoc other (10 ∷ []) rest)

-- ---- remarks

-- no remark has the text of a note whose bytes spell no frame
pub no_frame : (note : Printed) (remark : turns.Remark) → FitsNote (note_of remark) → IsRemark remark → HasNoFrame note → note_text note ≡ note_text (note_of remark) → ⊥
no_frame (printed.Sent k bytes) (turns.Sent n f) fits is h e = h.2 f (same_sent k n bytes (frame_text f) h.0 fits.0 h.1 fits.1 e, is.frame)
no_frame (printed.Sent k bytes) (turns.Did n at choice) fits is h e = apart_at 2 _ _ e refl
no_frame (printed.Sent k bytes) (turns.Flush f) fits is h e = apart_at 2 _ _ e refl
no_frame (printed.Sent k bytes) (turns.Verf v) fits is h e = apart_at 2 _ _ e refl
no_frame (printed.Sent k bytes) (turns.Replied n m reply) fits is h e = apart_at 2 _ _ e refl
no_frame (printed.Sent k bytes) (turns.Junk n) fits is h e = apart_at 2 _ _ e refl
no_frame (printed.Sent k bytes) (turns.Early n) fits is h e = apart_at 2 _ _ e refl
no_frame (printed.Sent k bytes) (turns.Full n) fits is h e = apart_at 2 _ _ e refl
no_frame (printed.Sent k bytes) (turns.Lost n) fits is h e = apart_at 2 _ _ e refl
no_frame (printed.Sent k bytes) (turns.Down a) fits is h e = apart_at 2 _ _ e refl
no_frame (printed.Did n at choice) remark fits is h e = h
no_frame (printed.Flush f) remark fits is h e = h
no_frame (printed.Verf v) remark fits is h e = h
no_frame (printed.Reply n m reply) remark fits is h e = h
no_frame (printed.Junk n) remark fits is h e = h
no_frame (printed.Early n) remark fits is h e = h
no_frame (printed.Full n) remark fits is h e = h
no_frame (printed.Lost n) remark fits is h e = h
no_frame (printed.Down a) remark fits is h e = h

-- the text of the first remark, and of the others
split_remarks : (r : turns.Remark) (rs : List turns.Remark) (rest : List ℕ) → remarks_text (r ∷ rs) ++ rest ≡ ended (note_text (note_of r)) ++ (remarks_text rs ++ rest)
unfolding notes_text
split_remarks r rs rest = append_assoc (ended (note_text (note_of r))) (remarks_text rs) rest

none_to_read : (rest : List ℕ) → remarks_text [] ++ rest ≡ rest
unfolding notes_text
none_to_read rest = refl

-- a remark that this line is the note of, and those behind it
pub record NextRemark (line behind rest : List ℕ) : Type 0 where
  pub remark : turns.Remark
  pub fits : FitsNote (note_of remark)
  pub is : IsRemark remark
  pub spelled : line ≡ note_text (note_of remark)
  pub left : List turns.Remark
  pub more : BeginsWithRemarks behind left rest

pub next_remark : (text line behind : List ℕ) (left : List turns.Remark) (rest : List ℕ)
    → begins_note text ≡ true → HasNoEnd line → text ≡ ended line ++ behind → BeginsWithRemarks text left rest → NextRemark line behind rest
next_remark text line behind [] rest note none cut b =
    let clash : true ≡ false = sym note ∙ ap begins_note (b.spelled ∙ none_to_read rest) ∙ b.last in
    absurd cc
next_remark text line behind (r ∷ rs) rest note none cut b =
    let fits = All-head (λ remark. FitsNote (note_of remark)) r rs b.fit in
    let same = same_line line behind (note_text (note_of r)) (remarks_text rs ++ rest) none (note_no_end (note_of r) fits) (sym cut ∙ b.spelled ∙ split_remarks r rs rest) in
    record {
      remark = r;
      fits = fits;
      is = All-head IsRemark r rs b.are;
      spelled = same.0;
      left = rs;
      more = record { fit = All-tail (λ remark. FitsNote (note_of remark)) r rs b.fit; are = All-tail IsRemark r rs b.are; spelled = same.1; last = b.last };
    }

-- a text without an end of line begins with no notes
pub no_remarks : (text : List ℕ) (left : List turns.Remark) (rest : List ℕ) → begins_note text ≡ true → HasNoEnd text → BeginsWithRemarks text left rest → ⊥
no_remarks text [] rest note none b =
    let clash : true ≡ false = sym note ∙ ap begins_note (b.spelled ∙ none_to_read rest) ∙ b.last in
    cc
no_remarks text (r ∷ rs) rest note none b = has_end (note_text (note_of r)) (remarks_text rs ++ rest) (subst HasNoEnd (b.spelled ∙ split_remarks r rs rest) none)

-- where no note follows, all remarks were read
pub all_remarks : (text : List ℕ) (left : List turns.Remark) (rest : List ℕ) → begins_note text ≡ false → BeginsWithRemarks text left rest → text ≡ rest
all_remarks text [] rest note b = b.spelled ∙ none_to_read rest
all_remarks text (r ∷ rs) rest note b =
    let clash : false ≡ true = sym note ∙ ap begins_note (b.spelled ∙ split_remarks r rs rest) ∙ note_first (note_of r) (remarks_text rs ++ rest) in
    absurd cc

-- ---- turns

split_turn : (t : Turn) (rest : List ℕ) → turn_text (printed_turn t) ++ rest ≡ ended (line_text (line_of t.happening)) ++ (remarks_text t.remarks ++ rest)
unfolding turn_text
split_turn t rest = append_assoc (ended (line_text (line_of t.happening))) (remarks_text t.remarks) rest

-- what is left behind a turn is less
pub is_less : (t : Turn) (text rest : List ℕ) → text ≡ turn_text (printed_turn t) ++ rest → length rest < length text
is_less t text rest e =
    let l = line_text (line_of t.happening) in
    let remarks = remarks_text t.remarks in
    omega (arith, ap length (e ∙ split_turn t rest), length-append (ended l) (remarks ++ rest), length-append l (10 ∷ []), length-append remarks rest)

pub record NextLine (line behind : List ℕ) (t : Turn) (rest : List ℕ) : Type 0 where
  pub spelled : line ≡ line_text (line_of t.happening)
  pub more : BeginsWithRemarks behind t.remarks rest

pub next_line : (volume : Option Setup) (text line behind : List ℕ) (t : Turn) (rest : List ℕ)
    → HasNoEnd line → text ≡ ended line ++ behind → BeginsWithTurn volume text t rest → NextLine line behind t rest
next_line volume text line behind t rest none cut b =
    let same = same_line line behind (line_text (line_of t.happening)) (remarks_text t.remarks ++ rest) none (line_no_end t.happening b.fits.line) (sym cut ∙ b.spelled ∙ split_turn t rest) in
    record { spelled = same.0; more = record { fit = b.fits.remarks; are = b.is.remarks; spelled = same.1; last = b.last } }

pub no_turn : (volume : Option Setup) (text : List ℕ) (t : Turn) (rest : List ℕ) → HasNoEnd text → BeginsWithTurn volume text t rest → ⊥
no_turn volume text t rest none b = has_end (line_text (line_of t.happening)) (remarks_text t.remarks ++ rest) (subst HasNoEnd (b.spelled ∙ split_turn t rest) none)

-- Where two lines are of one text, the volume behind them is one.
pub same_volume : (volume : Option Setup) (x y : Happening)
    → IsLine volume (line_of x) → IsLine volume (line_of y) → FitsOpening x → FitsLine (line_of y) → line_text (line_of x) ≡ line_text (line_of y)
    → volume_then x volume ≡ volume_then y volume
same_volume None (Opens s) (Opens z) ix iy fx fy e = ap Some (same_setup s z fx fy (append_cancel_left (codes "volume ") (setup_text s) (setup_text z) e))
same_volume None (Opens s) (Reaches t) ix iy fx fy e = absurd iy
same_volume None (Opens s) (Happens f) ix iy fx fy e = absurd iy
same_volume None (Reaches t) y ix iy fx fy e = absurd ix
same_volume None (Happens f) y ix iy fx fy e = absurd ix
same_volume (Some v) (Opens s) y ix iy fx fy e = absurd ix
same_volume (Some v) (Reaches t) (Opens z) ix iy fx fy e = absurd iy
same_volume (Some v) (Reaches t) (Reaches u) ix iy fx fy e = refl
same_volume (Some v) (Reaches t) (Happens f) ix iy fx fy e = refl
same_volume (Some v) (Happens f) (Opens z) ix iy fx fy e = absurd iy
same_volume (Some v) (Happens f) (Reaches u) ix iy fx fy e = refl
same_volume (Some v) (Happens f) (Happens g) ix iy fx fy e = refl

-- ---- histories

-- turns, the oldest first
abbrev pub turns_text : List Turn → List ℕ
turns_text [] = []
turns_text (t ∷ ts) = turn_text (printed_turn t) ++ turns_text ts

abbrev pub Follow : Option Setup → List Turn → Type 0
Follow volume [] = Unit {0}
Follow volume (t ∷ ts) = IsTurnAt volume t × Follow (volume_then t.happening volume) ts

-- These turns are still to be read.
pub record Left (volume : Option Setup) (text : List ℕ) : Type 0 where
  pub turns : List Turn
  pub fit : All FitsTurn turns
  pub in_place : Follow volume turns
  pub spelled : text ≡ turns_text turns

oldest_first : (h : History) (ts : List Turn) (text : List ℕ) → All FitsTurn h → All FitsTurn ts → AreInPlace h → Follow (volume_of h) ts
    → text ≡ history_text (transcript_of h) ++ turns_text ts → Left None text
unfolding history_text
oldest_first [] ts text fh ft ih it e = record { turns = ts; fit = ft; in_place = it; spelled = e }
oldest_first (t ∷ past) ts text fh ft ih it e =
    oldest_first past (t ∷ ts) text (All-tail FitsTurn t past fh) (All-cons FitsTurn t ts (All-head FitsTurn t past fh) ft) ih.0 (ih.1, it)
    (e ∙ append_assoc (history_text (transcript_of past)) (turn_text (printed_turn t)) (turns_text ts))

pub all_left : (text : List ℕ) (h : History) → All FitsTurn h → IsTranscriptOf text h → Left None text
all_left text h fit is = oldest_first h [] text fit (All-nil FitsTurn) is.in_place tt (is.spelled ∙ sym (append-nil (history_text (transcript_of h))))

-- no turn begins with a note
turns_first : (ts : List Turn) → begins_note (turns_text ts) ≡ false
turns_first [] = refl
turns_first (t ∷ ts) =
    let l = line_text (line_of t.happening) in
    let behind = remarks_text t.remarks ++ turns_text ts in
    ap begins_note (split_turn t (turns_text ts) ∙ append_assoc l (10 ∷ []) behind) ∙ line_first t.happening (10 ∷ behind)

pub record NextTurn (volume : Option Setup) (text : List ℕ) : Type 0 where
  pub turn : Turn
  pub rest : List ℕ
  pub begins : BeginsWithTurn volume text turn rest
  pub left : Left (volume_then turn.happening volume) rest

next_of : (volume : Option Setup) (text : List ℕ) (ts : List Turn) → (text ≡ [] → ⊥) → All FitsTurn ts → Follow volume ts → text ≡ turns_text ts → NextTurn volume text
next_of volume text [] some fit place e = absurd (some e)
next_of volume text (t ∷ ts) some fit place e = record {
  turn = t;
  rest = turns_text ts;
  begins = record { fits = All-head FitsTurn t ts fit; is = place.0; spelled = e; last = turns_first ts };
  left = record { turns = ts; fit = All-tail FitsTurn t ts fit; in_place = place.1; spelled = refl };
}

pub next_turn : (volume : Option Setup) (text : List ℕ) → (text ≡ [] → ⊥) → Left volume text → NextTurn volume text
next_turn volume text some left = next_of volume text left.turns some left.fit left.in_place left.spelled

pub left_there : (volume other : Option Setup) (text rest : List ℕ) → volume ≡ other → text ≡ rest → Left other rest → Left volume text
left_there volume other text rest v e left = record {
  turns = left.turns;
  fit = left.fit;
  in_place = subst (λ (w : Option Setup). Follow w left.turns) (sym v) left.in_place;
  spelled = e ∙ left.spelled;
}
