use Rattle.std.proofs.Common.{◌≡◌, ◌∙◌, sym, ap, length, inl, inr, false, true}
use Rattle.std.specs.Prelude.{codes}
use Rattle.std.proofs.lemmas.Bool.Decides.{Decides-eqb}
use Rattle.std.proofs.lemmas.Slice.Eq.{slice_eq-Decides}
use Rattle.sl_text.proofs.WordLaws.{dash_is, hex_decoded}
use Rattle.sl_text.proofs.numbers.hex_bytes.Goals as goal

pub returns-then-eq : goal.returns-then-eq
returns-then-eq c = λ bytes fits e.
    let d = slice_eq-Decides Decides-eqb _ _ _ c.eq.ensures in
    let is-dash = d.0 c.if-eq.true ∙ c.as_slice.ensures in
    c.new-then-eq.ensures ∙ c.new.ensures.items ∙ dash_is c.args.text.now bytes (ap length is-dash) e

pub returns-in-Ok : goal.returns-in-Ok
returns-in-Ok c = λ bytes fits e.
    let d = slice_eq-Decides Decides-eqb _ _ _ c.eq.ensures in
    let other : c.args.text.now ≡ codes "-" → ⊥ = λ t. let f : false ≡ true = sym c.if-eq.false ∙ d.1 (t ∙ sym c.as_slice.ensures) in cc in
    let p = hex_decoded c.args.text.now bytes fits other e in
    let q = sym c.in-Ok.ensures.ok ∙ p in
    let same : c.in-Ok.bytes.items ≡ bytes = cc in
    c.new-in-Ok.ensures ∙ same

pub returns-in_default : goal.returns-in_default
returns-in_default c = λ bytes fits e.
    let d = slice_eq-Decides Decides-eqb _ _ _ c.eq.ensures in
    let other : c.args.text.now ≡ codes "-" → ⊥ = λ t. let f : false ≡ true = sym c.if-eq.false ∙ d.1 (t ∙ sym c.as_slice.ensures) in cc in
    let p = hex_decoded c.args.text.now bytes fits other e in
    absurd (elim c.in-Err.ensures.err [
      | inl oom ↦ c.in_default.not-OutOfMemory oom
      | inr bad ↦ let q = sym bad ∙ p in cc
    ])
