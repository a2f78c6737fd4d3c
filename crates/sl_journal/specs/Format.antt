-- Which records bytes stand for.
use Rattle.std.specs.Prelude.{◌≡◌, ◌≢◌, ◌⊎◌, ℕ, ◌^◌, ◌<◌, ◌≤◌, List, [], ◌∷◌, ◌++◌, length, slice_index, codes}
use Rattle.sl_defs.specs.Items.{u32_text, u64_text}
use Rattle.sl_defs.specs.declared.setup.Setup.{Setup}
use Rattle.sl_defs.specs.declared.setup.Policy.{Policy}
use Rattle.sl_defs.specs.declared.setup.Policy.TheVariants.{Switch, Hash}

-- the policy's number, and the number that comes with `Switch`
abbrev pub policy_text : Policy → List ℕ
policy_text (Switch p) = 0 ∷ p ∷ []
policy_text Hash = 1 ∷ 0 ∷ []

-- the head of an actor's journal in a volume: `SLJ1`, the actor, the volume's policy, its servers, two zeros, its number
abbrev pub head_text : ℕ → Setup → List ℕ
head_text actor setup = codes "SLJ1" ++ (actor ∷ []) ++ policy_text setup.policy ++ (setup.dirs ∷ setup.small ∷ setup.nodes ∷ 0 ∷ 0 ∷ []) ++ u64_text setup.volume

-- a record: an open gate, the payload's length, the payload
unfoldable pub record_text : List ℕ → List ℕ
record_text payload = 1 ∷ (u32_text (length payload) ++ payload)

abbrev pub records_text : List (List ℕ) → List ℕ
records_text [] = []
records_text (payload ∷ payloads) = record_text payload ++ records_text payloads

-- each payload's length fits its four bytes
abbrev pub AreShort : List (List ℕ) → Type 0
AreShort [] = Unit {0}
AreShort (payload ∷ payloads) = (length payload < 2 ^ 32) × AreShort payloads

-- These bytes are whole records, a closed gate, and whatever follows.
pub record FromGate (bytes : List ℕ) (records : List (List ℕ)) : Type 0 where
  pub next : ℕ
  pub is_closed : next ≢ 1
  pub rest : List ℕ
  pub short : AreShort records
  pub spelled : bytes ≡ records_text records ++ next ∷ rest

-- Nothing was ever made of these bytes: there is at most one, or the first is closed.
abbrev pub IsFresh : List ℕ → Type 0
IsFresh bytes = (length bytes ≤ 1) ⊎ (slice_index bytes 0 ≡ 0)

-- An open byte, the head, and the records from their first gate on.
pub record IsJournal (bytes head : List ℕ) (records : List (List ℕ)) : Type 0 where
  pub opened : ℕ
  pub is_open : opened ≢ 0
  pub body : List ℕ
  pub spelled : bytes ≡ opened ∷ (head ++ body)
  pub records_there : FromGate body records

-- What bytes stand for: fresh ones for no record, a journal for its records.
abbrev pub Stands : List ℕ → List ℕ → List (List ℕ) → Type 0
Stands bytes head records = (IsFresh bytes × (records ≡ [])) ⊎ IsJournal bytes head records

-- a record stands at the front, and the rest follows
pub record IsRecord (bytes payload rest : List ℕ) : Type 0 where
  pub short : length payload < 2 ^ 32
  pub spelled : bytes ≡ record_text payload ++ rest

-- a closed gate stands at the front
pub record IsClosed (bytes : List ℕ) : Type 0 where
  pub next : ℕ
  pub is_closed : next ≢ 1
  pub rest : List ℕ
  pub spelled : bytes ≡ next ∷ rest

-- a length of four bytes stands at the front, then so many bytes, and the rest follows
pub record IsPayload (bytes payload rest : List ℕ) : Type 0 where
  pub short : length payload < 2 ^ 32
  pub spelled : bytes ≡ u32_text (length payload) ++ (payload ++ rest)

-- the first byte is closed
abbrev pub BeginsClosed : List ℕ → Type 0
BeginsClosed bytes = (rest : List ℕ) × (bytes ≡ 0 ∷ rest)

-- behind a closed first byte stand the head and a closed gate
abbrev pub HasHead : List ℕ → List ℕ → Type 0
HasHead bytes head = (more : List ℕ) × (bytes ≡ 0 ∷ (head ++ 0 ∷ more))

-- what the first bytes stand for the others stand for too
abbrev pub IsAlike : List ℕ → List ℕ → List ℕ → Type 0
IsAlike bytes head c = (records : List (List ℕ)) → Stands bytes head records → Stands c head records
