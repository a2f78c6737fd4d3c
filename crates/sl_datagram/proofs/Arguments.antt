-- What a call is by its arguments, where its header doesn't answer it.
use Rattle.std.proofs.Common.{◌≡◌, ℕ, List, Option, Some, None, Ok, refl, ap}
use Rattle.sl_defs.specs.Items.{AreBytes}
use Rattle.sl_defs.specs.Rpc.{accepted_text}
use Rattle.sl_types.specs.declared.call.Call.{Call}
use Rattle.sl_types.specs.declared.cred.Cred.{Cred}
use Rattle.sl_calls.specs.Args.{BeginsWithArgs}
use Rattle.sl_calls.specs.Reading.{args_at}
use Rattle.sl_calls.proofs.Calls.{args_at_front, is_found}
use Rattle.sl_history.specs.Arrivals.{IsAnswered, IsAsked}
use Rattle.sl_datagram.specs.Datagrams.{with_read}

module _ (xid procedure : ℕ) (cred : Cred) (bytes : List ℕ) where
  pub with_call : (call : Call) → BeginsWithArgs procedure call bytes
      → with_read xid procedure cred (args_at procedure bytes) ≡ IsAsked (record { xid = xid; procedure = procedure; call = call; cred = cred })
  with_call call begins = ap (with_read xid procedure cred) (args_at_front procedure call bytes begins).1

  no_call : (read : Option (Call × List ℕ)) → AreBytes bytes → ((call : Call) → BeginsWithArgs procedure call bytes → ⊥) → args_at procedure bytes ≡ read
      → with_read xid procedure cred read ≡ IsAnswered (accepted_text xid 4)
  no_call None fits none is = refl
  no_call (Some x) fits none is = absurd (none x.0 (is_found procedure bytes (Ok x.0) x.1 fits is))

  pub without_call : AreBytes bytes → ((call : Call) → BeginsWithArgs procedure call bytes → ⊥)
      → with_read xid procedure cred (args_at procedure bytes) ≡ IsAnswered (accepted_text xid 4)
  without_call fits none = no_call (args_at procedure bytes) fits none refl
