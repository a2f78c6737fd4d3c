-- The texts of remarks, turns and histories, put together.
use Rattle.std.proofs.Common.{◌≡◌, ℕ, List, [], ◌∷◌, ◌++◌, map, refl, ap, sym, subst, ◌∙◌, append_assoc}
use Rattle.std.proofs.lemmas.List.{append-nil, map-append}
use Rattle.std.proofs.lemmas.List.Elements.{All-nil, All-push, All-same}
use Rattle.std.specs.Prelude.{All, Option}
use Rattle.sl_defs.specs.Histories.{ended, line_of, notes_text, turn_text}
use Rattle.sl_defs.specs.Schedules.{IsLine, line_text}
use Rattle.sl_defs.specs.Transcripts.{note_text}
use Rattle.sl_defs.specs.declared.note.Printed.{Printed}
use Rattle.sl_defs.specs.declared.setup.Setup.{Setup}
use Rattle.sl_history.specs.Turns as turns
use Rattle.sl_history.specs.Turns.{Turn, note_of, printed_turn}
use Rattle.sl_past.specs.Transcripts.{IsRemark, IsTurnAt, remarks_text}
use Rattle.sl_past.specs.Words.{remark_of}
use Rattle.sl_past.specs.declared.remark.Remark.{Remark}

notes_text-push : (ns : List Printed) (n : Printed) → notes_text (ns ++ n ∷ []) ≡ notes_text ns ++ ended (note_text n)
unfolding notes_text
notes_text-push [] n = append-nil (ended (note_text n))
notes_text-push (m ∷ ms) n = ap (λ (t : List ℕ). ended (note_text m) ++ t) (notes_text-push ms n) ∙ sym (append_assoc (ended (note_text m)) (notes_text ms) (ended (note_text n)))

remarks_text-push : (rs : List turns.Remark) (r : turns.Remark) → remarks_text (rs ++ r ∷ []) ≡ remarks_text rs ++ ended (note_text (note_of r))
remarks_text-push rs r = ap notes_text (map-append note_of rs (r ∷ [])) ∙ notes_text-push (map note_of rs) (note_of r)

-- what is left behind one more line is what was left
pub behind_line : (front rest line behind : List ℕ) → rest ≡ ended line ++ behind → front ++ rest ≡ (front ++ ended line) ++ behind
behind_line front rest line behind e = ap (λ (t : List ℕ). front ++ t) e ∙ sym (append_assoc front (ended line) behind)

pub none_read : (text : List ℕ) (read : List Remark) → read ≡ [] → (text ≡ remarks_text (map remark_of read) ++ text) × All IsRemark (map remark_of read)
unfolding notes_text
none_read text read e =
    subst (λ (items : List Remark). (text ≡ remarks_text (map remark_of items) ++ text) × All IsRemark (map remark_of items)) (sym e) (refl, All-nil IsRemark)

one_remark_more : (text : List ℕ) (items : List Remark) (item : Remark) (rest line behind : List ℕ)
    → text ≡ remarks_text (map remark_of items) ++ rest → rest ≡ ended line ++ behind → line ≡ note_text (note_of (remark_of item))
    → text ≡ remarks_text (map remark_of (items ++ item ∷ [])) ++ behind
one_remark_more text items item rest line behind e cut is =
    let so = map remark_of items in
    let more : remarks_text (map remark_of (items ++ item ∷ [])) ≡ remarks_text so ++ ended line =
    ap remarks_text (map-append remark_of items (item ∷ [])) ∙ remarks_text-push so (remark_of item) ∙ ap (λ (t : List ℕ). remarks_text so ++ ended t) (sym is) in
    e ∙ behind_line (remarks_text so) rest line behind cut ∙ ap (λ (t : List ℕ). t ++ behind) (sym more)

all_remarks_more : (items : List Remark) (item : Remark) → All IsRemark (map remark_of items) → IsRemark (remark_of item) → All IsRemark (map remark_of (items ++ item ∷ []))
all_remarks_more items item all is =
    All-same IsRemark (map remark_of (items ++ item ∷ [])) (map remark_of items ++ remark_of item ∷ []) (map-append remark_of items (item ∷ []))
    (All-push IsRemark (map remark_of items) (remark_of item) all is)

pub one_more_read : (text : List ℕ) (items now : List Remark) (item : Remark) (rest line behind : List ℕ) → now ≡ items ++ item ∷ []
    → text ≡ remarks_text (map remark_of items) ++ rest → All IsRemark (map remark_of items) → rest ≡ ended line ++ behind → IsRemark (remark_of item)
    → line ≡ note_text (note_of (remark_of item)) → (text ≡ remarks_text (map remark_of now) ++ behind) × All IsRemark (map remark_of now)
one_more_read text items now item rest line behind pushed e all cut is spelled =
    subst (λ (read : List Remark). (text ≡ remarks_text (map remark_of read) ++ behind) × All IsRemark (map remark_of read)) (sym pushed)
    (one_remark_more text items item rest line behind e cut spelled, all_remarks_more items item all is)

-- The turn of a line and of the remarks behind it, which is one with that in hand.
pub turn_is : (volume : Option Setup) (text line behind rest : List ℕ) (made t : Turn) → made ≡ t
    → IsLine volume (line_of t.happening) → All IsRemark t.remarks
    → text ≡ ended line ++ behind → line ≡ line_text (line_of t.happening) → behind ≡ remarks_text t.remarks ++ rest
    → IsTurnAt volume made × (text ≡ turn_text (printed_turn made) ++ rest)
unfolding turn_text
turn_is volume text line behind rest made t e place are cut is more =
    let spelled =
    cut ∙ ap (λ (l : List ℕ). ended l ++ behind) is ∙ ap (λ (b : List ℕ). ended (line_text (line_of t.happening)) ++ b) more
    ∙ sym (append_assoc (ended (line_text (line_of t.happening))) (remarks_text t.remarks) rest) in
    subst (λ (u : Turn). IsTurnAt volume u × (text ≡ turn_text (printed_turn u) ++ rest)) (sym e) (record { line = place; remarks = are }, spelled)
