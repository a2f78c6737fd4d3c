-- What a docket knows of a history.
use Rattle.std.specs.Prelude.{◌≡◌, ℕ, ◌==◌, [], ◌∷◌, Option, Some, None, Bool, false, option_map}
use Rattle.sl_defs.specs.declared.setup.Setup.{Setup}
use Rattle.sl_frames.specs.declared.frame.Frame.{Frame}
use Rattle.sl_model.specs.Volume.{Volume}
use Rattle.sl_history.specs.Turns.{Turn, History}
use Rattle.sl_history.specs.Volumes.{volume_after}
use Rattle.sl_history.specs.Licensed.{reaches, request}
use Rattle.sl_history.specs.Wired.{acts, granted_by}
use Rattle.sl_ledger.specs.Ledgers.{IsLedgerOf}
use Rattle.sl_wiring.specs.Given.{AreGivenIn}
use Rattle.sl_wiring.specs.declared.docket.Docket.{Docket}

abbrev pub is_this : ℕ → Option ℕ → Bool
is_this a None = false
is_this a (Some b) = b == a

-- the actor whose event this is, if it is one's
abbrev pub IsActorOf : History → Turn → Option ℕ → Type 0
IsActorOf past t actor = (a : ℕ) → acts past t.happening a ≡ is_this a actor

abbrev pub arrival_of : Frame → ℕ
arrival_of f = f.arrival

-- the event in which the call arrived whose request a frame answers
abbrev pub answered_by : History → Option Frame → Option ℕ
answered_by past None = None
answered_by past (Some f) = option_map arrival_of (request past f.fence f.tag)

-- what is known of the newest turn
pub record IsNewest (past : History) (t : Turn) (d : Docket) : Type 0 where
  pub actor : IsActorOf past t d.actor
  pub answered : d.answered ≡ answered_by past (reaches past t)
  pub granted : d.granted ≡ granted_by (reaches past t)

abbrev pub IsNewestOf : History → Docket → Type 0
IsNewestOf [] d = Unit {0}
IsNewestOf (t ∷ past) d = IsNewest past t d

-- The docket is that of the history, for a server that began with this volume in an ensemble of this setup.
pub record IsDocketOf (setup : Setup) (start : Volume) (h : History) (d : Docket) : Type 0 where
  pub setup_is : d.setup ≡ setup
  pub ledger : IsLedgerOf h d.ledger
  pub volume : d.volume ≡ volume_after start h
  pub given : AreGivenIn h d.given
  pub newest : IsNewestOf h d
