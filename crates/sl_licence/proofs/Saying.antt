-- What an answer says.
use Rattle.std.proofs.Common.{◌≡◌, Bool, true, false, refl, sym}
use Rattle.std.proofs.lemmas.Bool.{true≢false}
use Rattle.std.specs.Prelude.{Result, Ok, Err, OnOk, ◌↔◌}
use Rattle.sl_history.specs.Deciding.{Says}
use Rattle.sl_ledger.specs.declared.fault.AuditFault.{AuditFault}

pub says_true : (b : Bool) (P : Type 0) → b ≡ true → Says {E = AuditFault} (Ok b) P → P
says_true true P e says = says
says_true false P e says = absurd (true≢false (sym e))

pub says_false : (b : Bool) (P : Type 0) → b ≡ false → Says {E = AuditFault} (Ok b) P → P → ⊥
says_false true P e says = absurd (true≢false e)
says_false false P e says = says

-- an answer that decides
pub says_by : (b : Bool) (P : Type 0) → ((b ≡ true) ↔ P) → Says {E = AuditFault} (Ok b) P
says_by true P both = both.0 refl
says_by false P both = λ p. true≢false (sym (both.1 p))

-- a callee's answer, handed on

pub on_ok_one : {A E P Q : Type 0} → (r : Result A E) → (P → Q) → OnOk r P → OnOk r Q
on_ok_one (Ok a) f p = f p
on_ok_one (Err e) f p = tt

pub on_ok_both : {A E P Q R : Type 0} → (r : Result A E) → (P → Q → R) → OnOk r P → OnOk r Q → OnOk r R
on_ok_both (Ok a) f p q = f p q
on_ok_both (Err e) f p q = tt
