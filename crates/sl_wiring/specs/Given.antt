-- What the frames that were given ask and grant.
use Rattle.std.specs.Prelude.{◌≡◌, ◌↔◌, ◌⊎◌, ℕ, List, Option, Some, None, if◌then◌else◌}
use Rattle.std.specs.List.{All, Contains}
use Rattle.sl_frames.specs.Actors.{is_coordinator}
use Rattle.sl_frames.specs.Frames.{kind_of}
use Rattle.sl_frames.specs.declared.frame.Frame.{Frame}
use Rattle.sl_frames.specs.declared.body.Body.{Body}
use Rattle.sl_frames.specs.declared.body.Body.TheVariants as body
use Rattle.sl_history.specs.Turns.{History}
use Rattle.sl_history.specs.Frames.{WasGiven}
use Rattle.sl_wiring.specs.declared.question.Question.{Question}
use Rattle.sl_wiring.specs.declared.grants.Grant.{Grant}
use Rattle.sl_wiring.specs.declared.grants.Grants.{Grants}
use Rattle.sl_wiring.specs.declared.given.Given.{Given}

-- the question that a frame puts
abbrev pub put_by : Frame → Question
put_by f = record { asker = f.from; asked = f.to; fence = f.fence; tag = f.tag; op = f.op; kind = kind_of f.body }

-- the question of a kind that an answer answers
abbrev pub behind : Frame → ℕ → Question
behind f kind = record { asker = f.to; asked = f.from; fence = f.fence; tag = f.tag; op = f.op; kind = kind }

-- what a frame grants the coordinator
abbrev pub granted_in : Frame → Body → Option Grant
granted_in f body.Grant = Some (record { op = f.op; server = f.from })
granted_in f other = None

abbrev pub grant_by : Frame → Option Grant
grant_by f = if is_coordinator f.to then granted_in f f.body else None

-- a frame that was given puts this question
pub record WasAsked (h : History) (q : Question) : Type 0 where
  pub asking : Frame
  pub given : WasGiven h asking
  pub is : put_by asking ≡ q

-- a frame that was given grants this
pub record WasGranted (h : History) (g : Grant) : Type 0 where
  pub grant : Frame
  pub given : WasGiven h grant
  pub is : grant_by grant ≡ Some g

abbrev pub AreGrantsIn : History → Grants → Type 0
AreGrantsIn h grants = (g : Grant) → Contains grants.items.keys g ↔ WasGranted h g

-- These are the questions and the grants of the frames that were given.
pub record AreGivenIn (h : History) (given : Given) : Type 0 where
  pub questions : (q : Question) → Contains given.questions.keys q ↔ WasAsked h q
  pub grants : AreGrantsIn h given.grants

-- a list of keys has one more
abbrev pub HasOneMore : {A : Type 0} → List A → List A → A → Type 0
HasOneMore {A} old new x = (y : A) → Contains new y ↔ (Contains old y ⊎ (y ≡ x))

-- and so, if there is one
abbrev pub HasMore : {A : Type 0} → List A → List A → Option A → Type 0
HasMore old new None = new ≡ old
HasMore old new (Some x) = HasOneMore old new x

-- each of these servers granted one and the same operation, which is the given one, if one is given
pub record GrantOne (grants : Grants) (given : Option ℕ) (servers : List ℕ) : Type 0 where
  pub op : ℕ
  pub now : (granted : ℕ) → given ≡ Some granted → op ≡ granted
  pub each : All (λ server. Contains grants.items.keys (record { op = op; server = server })) servers
