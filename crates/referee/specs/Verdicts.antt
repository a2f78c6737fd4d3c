-- What is said of a text.
use Rattle.std.specs.Prelude.{◌≡◌, ℕ, List, Option, Some, None, Bool, true, false, Result, Ok, Err, All}
use Rattle.sl_defs.specs.declared.setup.Setup.{Setup}
use Rattle.sl_defs.specs.declared.setup.Policy.TheVariants as policy
use Rattle.sl_model.specs.Volume.{Volume}
use Rattle.sl_model.specs.Perform.{fresh}
use Rattle.sl_history.specs.Turns.{History}
use Rattle.sl_history.specs.Completing.{Completed}
use Rattle.sl_history.specs.Fenced.{Fenced}
use Rattle.sl_history.specs.Legal.{Legal}
use Rattle.sl_history.specs.Licensed.{Licensed}
use Rattle.sl_history.specs.Remembering.{Remembers}
use Rattle.sl_history.specs.Wired.{Wired}
use Rattle.sl_past.specs.Transcripts.{IsTranscriptOf, HasRightMoments, FitsTurn, volume_of}
use Rattle.sl_referee.specs.declared.fault.RefereeFault.{RefereeFault}
use Rattle.sl_referee.specs.declared.fault.RefereeFault.TheVariants as fault
use Rattle.sl_referee.specs.Stops as referee
use Rattle.sl_ledger.specs.declared.fault.AuditFault.{AuditFault}
use Rattle.sl_ledger.specs.declared.fault.AuditFault.TheVariants as audit
use Rattle.sl_ledger.specs.Stops as ledger
use Rattle.referee.specs.declared.verdict.Answer.{Answer}
use Rattle.referee.specs.declared.verdict.Answer.TheVariants.{Yes, No, Spent, TooLong}
use Rattle.referee.specs.declared.verdict.Findings.{Findings}
use Rattle.referee.specs.declared.verdict.Verdict.{Verdict}
use Rattle.referee.specs.declared.verdict.Verdict.TheVariants.{NoTranscript, Found}

-- a volume of number 0 with one server of each class
abbrev pub no_setup : Setup
no_setup = record { volume = 0; policy = policy.Switch 0; dirs = 1; small = 1; nodes = 1 }

abbrev pub setup_or : Option Setup → Setup
setup_or None = no_setup
setup_or (Some setup) = setup

-- the volume that the history opens
abbrev pub setup_of : History → Setup
setup_of h = setup_or (volume_of h)

-- the server began with this volume
abbrev pub start_of : History → Volume
start_of h = fresh (setup_of h).volume

-- the answer to a claim that was decided
abbrev pub plain_answer : Bool → Answer
plain_answer true = Yes
plain_answer false = No

-- and where deciding may have ended without one; where memory ran out there is none
abbrev pub IsJudged : Result Bool RefereeFault → Answer → Type 0
IsJudged (Ok holds) answer = answer ≡ plain_answer holds
IsJudged (Err fault.Spent) answer = answer ≡ Spent
IsJudged (Err fault.TooLong) answer = answer ≡ TooLong
IsJudged (Err fault.NoMemory) answer = ⊥

abbrev pub IsAudited : Result Bool AuditFault → Answer → Type 0
IsAudited (Ok holds) answer = answer ≡ plain_answer holds
IsAudited (Err audit.Spent) answer = answer ≡ Spent
IsAudited (Err audit.NoMemory) answer = ⊥

-- The answer to a claim: it holds, it doesn't, or why that can't be said.
abbrev pub IsFound : Type 0 → Type 0 → Type 0 → Answer → Type 0
IsFound claim spent long Yes = claim
IsFound claim spent long No = claim → ⊥
IsFound claim spent long Spent = spent
IsFound claim spent long TooLong = long

-- it can always be said
abbrev pub IsAlwaysFound : Type 0 → Answer → Type 0
IsAlwaysFound claim answer = IsFound claim ⊥ ⊥ answer

-- performing an effect that the history notes would need a number past the end of its type
abbrev pub IsSpent : History → Type 0
IsSpent h = ledger.StopsIn audit.Spent (start_of h) h

pub record AreFindings (h : History) (f : Findings) : Type 0 where
  pub legal : IsFound (Legal (start_of h) h) (referee.StopsIn fault.Spent (start_of h) h) (referee.StopsIn fault.TooLong (start_of h) h) f.legal
  pub licensed : IsFound (Licensed (start_of h) h) (IsSpent h) ⊥ f.licensed
  pub wired : IsFound (Wired (setup_of h) (start_of h) h) (IsSpent h) ⊥ f.wired
  pub fenced : IsAlwaysFound (Fenced h) f.fenced
  pub remembering : IsAlwaysFound (Remembers h) f.remembering
  pub completed : IsAlwaysFound (Completed h) f.completed

-- the text is the transcript of a history of which this is found
pub record IsOf (text : List ℕ) (f : Findings) : Type 0 where
  pub history : History
  pub is : IsTranscriptOf text history
  pub moments : HasRightMoments history
  pub findings : AreFindings history f

abbrev pub IsVerdict : List ℕ → Verdict → Type 0
IsVerdict text NoTranscript = (h : History) → All FitsTurn h → IsTranscriptOf text h → ⊥
IsVerdict text (Found f) = IsOf text f
