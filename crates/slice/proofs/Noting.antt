-- The notes of remarks, one after the other.
use Rattle.std.proofs.Common.{◌≡◌, ℕ, List, [], ◌∷◌, ◌++◌, map, sym, ap, ◌∙◌, append_assoc}
use Rattle.std.proofs.lemmas.List.{append-nil}
use Rattle.sl_defs.specs.Histories.{ended, notes_text}
use Rattle.sl_defs.specs.Transcripts.{note_text}
use Rattle.sl_history.specs.Turns.{note_of}
use Rattle.sl_past.specs.Transcripts.{remarks_text}
use Rattle.sl_past.specs.Words.{remark_of}
use Rattle.sl_past.specs.declared.remark.Remark.{Remark}

-- a note's line
abbrev pub line_of : Remark → List ℕ
line_of r = ended (note_text (note_of (remark_of r)))

pub nothing_noted : (old : List ℕ) → old ≡ old ++ remarks_text []
unfolding notes_text
nothing_noted old = sym (append-nil old)

one_more : (before : List Remark) (r : Remark) → remarks_text (map remark_of (before ++ r ∷ [])) ≡ remarks_text (map remark_of before) ++ line_of r
unfolding notes_text
one_more [] r = append-nil (line_of r)
one_more (x ∷ xs) r = ap (λ (t : List ℕ). line_of x ++ t) (one_more xs r) ∙ sym (append_assoc (line_of x) (remarks_text (map remark_of xs)) (line_of r))

pub one_more_noted : (old out : List ℕ) (before : List Remark) (r : Remark) → out ≡ old ++ remarks_text (map remark_of before) → out ++ line_of r ≡ old ++ remarks_text (map remark_of (before ++ r ∷ []))
one_more_noted old out before r e =
    ap (λ (t : List ℕ). t ++ line_of r) e ∙ append_assoc old (remarks_text (map remark_of before)) (line_of r) ∙ ap (λ (t : List ℕ). old ++ t) (sym (one_more before r))
