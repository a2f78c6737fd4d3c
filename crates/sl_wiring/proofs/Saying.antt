-- What results say.
use Rattle.std.proofs.Common.{◌≡◌, Bool, true, false, refl, sym, ◌∙◌, ◌↔◌}
use Rattle.std.proofs.lemmas.Bool.{iff_false, true≢false}
use Rattle.std.specs.Prelude.{Result, Ok, Err, IfOk, OnOk}
use Rattle.std.specs.Result.{is_err}
use Rattle.sl_defs.specs.declared.bytes.NoMemory.{NoMemory}
use Rattle.sl_history.specs.Deciding.{Says}
use Rattle.sl_wiring.specs.Notes.{audit}

pub on_ok : {T E : Type 0} → (r : Result T E) (P : Type 0) → P → OnOk r P
on_ok (Ok t) P p = p
on_ok (Err e) P p = tt

pub says_same : {E P Q : Type 0} → (r : Result Bool E) → (P → Q) → (Q → P) → Says r P → Says r Q
says_same (Ok true) f g says = f says
says_same (Ok false) f g says = λ q. says (g q)
says_same (Err e) f g says = tt

pub says_bool : (E : Type 0) {P : Type 0} → (b : Bool) → ((b ≡ true) ↔ P) → Says {E = E} (Ok b) P
says_bool E true both = both.0 refl
says_bool E false both = λ p. iff_false both refl p

pub says_true : (E : Type 0) (b : Bool) (P : Type 0) → b ≡ true → Says {E = E} (Ok b) P → P
says_true E true P e says = says
says_true E false P e says = absurd (true≢false (sym e))

pub says_false : (E : Type 0) (b : Bool) (P : Type 0) → b ≡ false → Says {E = E} (Ok b) P → P → ⊥
says_false E true P e says = absurd (true≢false e)
says_false E false P e says = says

-- a test, by what is so if it says yes and if it says no
pub decides : {P : Type 0} → (b : Bool) → (b ≡ true → P) → (b ≡ false → P → ⊥) → (b ≡ true) ↔ P
decides true f g = (λ e. f refl, λ p. refl)
decides false f g = (λ e. absurd (true≢false (sym e)), λ p. absurd (g refl p))

pub on_ok_then : {T E : Type 0} → (r : Result T E) (P Q : Type 0) → OnOk r P → (P → Q) → OnOk r Q
on_ok_then (Ok t) P Q p f = f p
on_ok_then (Err e) P Q p f = tt

pub on_ok_both : {T E : Type 0} → (r : Result T E) (P Q R : Type 0) → OnOk r P → OnOk r Q → (P → Q → R) → OnOk r R
on_ok_both (Ok t) P Q R p q f = f p q
on_ok_both (Err e) P Q R p q f = tt

-- a value that says what is so
pub says_value : {E : Type 0} → (r : Result Bool E) (b : Bool) → IfOk r (λ x. x ≡ b) → Says r (b ≡ true)
says_value (Ok true) b e = sym e
says_value (Ok false) b e = λ said. true≢false (sym said ∙ sym e)
says_value (Err e) b is = tt

pub says_audit : (P : Type 0) (r : Result Bool NoMemory) → Says r P → Says (audit r) P
says_audit P (Ok true) says = says
says_audit P (Ok false) says = says
says_audit P (Err e) says = tt

pub went_well : {T : Type 0} → (r : Result T NoMemory) (P : Type 0) → is_err r ≡ false → OnOk r P → P
went_well (Ok t) P e p = p
went_well (Err x) P e p = absurd (true≢false e)
