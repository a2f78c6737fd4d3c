use Rattle.std.proofs.Common.{◌≡◌, ◌&&◌, sym, ap, ◌∙◌}
use Rattle.sl_recall.specs.Changing.{is_no_other}
use Rattle.sl_recall.proofs.ChangeLaws.{calm, not_third, third}
use Rattle.sl_recall.proofs.changes.Changes.is_calm.Goals.{then-is_no_other, else-is_no_other}
use Rattle.sl_recall.proofs.changes.Changes.is_calm.Goals as goal

pub returns-then-is_no_other-2 : goal.returns-then-is_no_other-2
returns-then-is_no_other-2 c = λ h is.
    let e = c.args.event in
    let n = c.args.call in
    let x = c.args.self.now in
    let two : c.if-is_no_other.value ≡ (is_no_other x.newest e n && is_no_other x.last e n) = elim c.if-is_no_other.branch [
      | then-is_no_other w ↦ w.value-is ∙ w.is_no_other-then-is_no_other.ensures ∙ sym (ap (λ b. b && is_no_other x.last e n) (sym c.is_no_other.ensures ∙ w.if-is_no_other.true))
      | else-is_no_other w ↦ w.value-is ∙ w.if-is_no_other.false ∙ sym (ap (λ b. b && is_no_other x.last e n) (sym c.is_no_other.ensures ∙ w.if-is_no_other.false))
    ] in
    c.is_no_other-then-is_no_other-2.ensures ∙ third (is_no_other x.newest e n) (is_no_other x.last e n) (is_no_other x.before e n) (sym two ∙ c.if-is_no_other-2.true) ∙ calm h x e n is

pub returns-else-is_no_other-2 : goal.returns-else-is_no_other-2
returns-else-is_no_other-2 c = λ h is.
    let e = c.args.event in
    let n = c.args.call in
    let x = c.args.self.now in
    let two : c.if-is_no_other.value ≡ (is_no_other x.newest e n && is_no_other x.last e n) = elim c.if-is_no_other.branch [
      | then-is_no_other w ↦ w.value-is ∙ w.is_no_other-then-is_no_other.ensures ∙ sym (ap (λ b. b && is_no_other x.last e n) (sym c.is_no_other.ensures ∙ w.if-is_no_other.true))
      | else-is_no_other w ↦ w.value-is ∙ w.if-is_no_other.false ∙ sym (ap (λ b. b && is_no_other x.last e n) (sym c.is_no_other.ensures ∙ w.if-is_no_other.false))
    ] in
    two ∙ not_third (is_no_other x.newest e n) (is_no_other x.last e n) (is_no_other x.before e n) (sym two ∙ c.if-is_no_other-2.false) ∙ calm h x e n is
