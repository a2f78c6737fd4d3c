-- What is known of a history beside the volume.
use Rattle.std.specs.Prelude.{◌≡◌, ℕ, ◌+◌, ◌≤◌, Option, Some, None, true, length, option_map}
use Rattle.sl_types.specs.declared.reply.Reply.{Reply}
use Rattle.sl_model.specs.Laws.{status_of}
use Rattle.sl_model.specs.Perform.{perform}
use Rattle.sl_model.specs.Volume.{Volume}
use Rattle.sl_history.specs.Turns.{Remark, Did, Flush, History}
use Rattle.sl_history.specs.Arrivals.{Asked, asked}
use Rattle.sl_history.specs.Licensed.{IsTold, flushes, is_no_space, may_be_lost, requests_given}
use Rattle.sl_ledger.specs.Ledgers.{IsLedgerOf}
use Rattle.sl_licence.specs.declared.evidence.Evidence.{Evidence}
use Rattle.sl_licence.specs.Asking.{AreRequestsOf}
use Rattle.sl_licence.specs.Dirty.{AreFlushing}
use Rattle.sl_licence.specs.Flushes.{AreFlushesOf}
use Rattle.sl_licence.specs.Mints.{AreMintsOf}

-- The evidence is that of the history.
pub record IsEvidenceOf (h : History) (e : Evidence) : Type 0 where
  pub ledger : IsLedgerOf h e.ledger
  pub lost : e.may_be_lost ≡ may_be_lost h
  pub flushes : AreFlushesOf h e.flushes
  pub requests : AreRequestsOf h e.requests
  pub flushing : AreFlushing h e.flushing
  pub mints : AreMintsOf h e.mints

-- where the note is a flush, a request for it is left
abbrev pub MayUse : History → Remark → Type 0
MayUse h (Flush f) = flushes h f + 1 ≤ length (requests_given h f)
MayUse h other = Unit {0}

-- where the reply is that no space is left, the proxy was told so for the call of event n
abbrev pub HasSpaceIf : History → ℕ → Option Reply → Type 0
HasSpaceIf h n None = Unit {0}
HasSpaceIf h n (Some reply) = is_no_space (status_of reply) ≡ true → IsTold h n

-- so of the reply that an effect on this volume has
abbrev pub HasSpace : Volume → History → Remark → Type 0
HasSpace v h (Did n at choice) = HasSpaceIf h n (option_map (λ (a : Asked). (perform v a.call a.cred at choice).1) (asked h n))
HasSpace v h other = Unit {0}
