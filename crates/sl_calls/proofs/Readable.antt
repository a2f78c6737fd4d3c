-- Arguments can be read exactly where some stand.
use Rattle.std.proofs.Common.{◌≡◌, ℕ, List, true, false, Option, Some, None, Ok, is_some, refl, ap}
use Rattle.sl_defs.specs.Items.{AreBytes}
use Rattle.sl_types.specs.declared.call.Call.{Call}
use Rattle.sl_calls.specs.Args.{BeginsWithArgs}
use Rattle.sl_calls.specs.Reading.{args_at}
use Rattle.sl_calls.proofs.Calls.{args_at_front, is_found}

module _ (n : ℕ) (bytes : List ℕ) where
  pub some_call : AreBytes bytes → is_some (args_at n bytes) ≡ true → (call : Call) × BeginsWithArgs n call bytes
  some_call fits e =
      elim (args_at n bytes) as (λ (read : Option (Call × List ℕ)). args_at n bytes ≡ read → is_some read ≡ true → (call : Call) × BeginsWithArgs n call bytes) [
        | None ↦ λ _ none. absurd cc
        | Some x ↦ λ is _. (x.0, is_found n bytes (Ok x.0) x.1 fits is)
      ] refl e

  pub no_call : is_some (args_at n bytes) ≡ false → (call : Call) → BeginsWithArgs n call bytes → ⊥
  no_call e call begins =
      let there = args_at_front n call bytes begins in
      let is : is_some (args_at n bytes) ≡ true = ap is_some there.1 in
      absurd cc
