-- The laws of texts, from the readers of them.
use Rattle.std.proofs.Common.{ℕ, List, ◌++◌, refl, ap, ◌∙◌}
use Rattle.sl_cells.specs.Lists.{Reader}
use Rattle.sl_cells.specs.Laws.{HasOneText}
use Rattle.sl_cells.proofs.OneSpelling.{Reads}

pub one_text : {A : Type 0} {read : Reader A} {t : A → List ℕ} {F : A → Type 0} → Reads read t F → HasOneText read t F
one_text {t = t} r = record {
  is_read = λ x rest fits. r.found x (t x) rest (refl, fits);
  is_only = λ bytes rest x are e. let k = r.takes bytes (x, rest) are e in (k.2.parts ∙ ap (λ (text : List ℕ). text ++ rest) k.1.0, k.1.1);
}
