-- How items make up larger things: one after the other, enumerations, unions and optional parts (RFC 4506, sections 4.3, 4.14, 4.15 and 4.19).
use Rattle.std.specs.Prelude.{◌≡◌, ℕ, zero, suc, ◌^◌, ◌<◌, ◌≤◌, List, [], ◌++◌, length, Option, Some, None}
use Rattle.sl_defs.specs.Items.{u32_text, u64_text, IsOpaque, ◌>>=◌, u32_at}

-- ---- spellings: which texts spell a value

-- A structure: a text of the first kind, and then one of the second.
infixr 6 ◌⨾◌
abbrev pub ◌⨾◌ : (List ℕ → Type 0) → (List ℕ → Type 0) → List ℕ → Type 0
(First ⨾ Second) text = (first : List ℕ) × (second : List ℕ) × First first × Second second × (text ≡ first ++ second)

-- no text
abbrev pub IsVoid : List ℕ → Type 0
IsVoid text = text ≡ []

abbrev pub IsU32 : ℕ → List ℕ → Type 0
IsU32 n text = (text ≡ u32_text n) × (n < 2 ^ 32)

abbrev pub IsU64 : ℕ → List ℕ → Type 0
IsU64 n text = (text ≡ u64_text n) × (n < 2 ^ 64)

-- an opaque of at most so many bytes
abbrev pub IsOpaqueOf : ℕ → List ℕ → List ℕ → Type 0
IsOpaqueOf most body text = IsOpaque text body × (length body ≤ most)

-- A union: the number that tells which arm follows, and that arm.
abbrev pub IsUnion : {A : Type 0} → (A → ℕ) → (A → List ℕ → Type 0) → A → List ℕ → Type 0
IsUnion number Arm value = IsU32 (number value) ⨾ Arm value

-- An enumeration: the number of its value.
abbrev pub IsEnum : {A : Type 0} → (A → ℕ) → A → List ℕ → Type 0
IsEnum number value text = text ≡ u32_text (number value)

-- whether a part is there, as a number, and the part where it is
abbrev pub presence : {A : Type 0} → Option A → ℕ
presence None = 0
presence (Some x) = 1

abbrev pub IsPart : {A : Type 0} → (A → List ℕ → Type 0) → Option A → List ℕ → Type 0
IsPart Is None = IsVoid
IsPart Is (Some x) = Is x

-- An optional part: its presence, and the part where it is there.
abbrev pub IsOptional : {A : Type 0} → (A → List ℕ → Type 0) → Option A → List ℕ → Type 0
IsOptional Is = IsUnion presence (IsPart Is)

-- ---- the canonical text of an optional part

unfoldable pub optional_text : {A : Type 0} → (A → List ℕ) → Option A → List ℕ
optional_text text_of None = u32_text 0
optional_text text_of (Some x) = u32_text 1 ++ text_of x

-- ---- reading from the front: what stands there, and the bytes after it

-- nothing is read
abbrev pub void_at : {A : Type 0} → A → List ℕ → Option (A × List ℕ)
void_at value bytes = Some (value, bytes)

-- what is read is turned into another value
abbrev pub mapped : {A B : Type 0} → (A → B) → (List ℕ → Option (A × List ℕ)) → List ℕ → Option (B × List ℕ)
mapped f read bytes = do
  x ← read bytes
  Some (f x.0, x.1)

-- the first, and then the second
infixr 6 ◌⊗◌
abbrev pub ◌⊗◌ : {A B : Type 0} → (List ℕ → Option (A × List ℕ)) → (List ℕ → Option (B × List ℕ)) → List ℕ → Option ((A × B) × List ℕ)
(first ⊗ second) bytes = do
  x ← first bytes
  y ← second x.1
  Some ((x.0, y.0), y.1)

-- the number of a value, where there is a value of that number
abbrev pub enum_at : {A : Type 0} → (ℕ → Option A) → List ℕ → Option (A × List ℕ)
enum_at value_of bytes = do
  number ← u32_at bytes
  value ← value_of number.0
  Some (value, number.1)

-- the number, and then the arm that it tells
abbrev pub union_at : {A : Type 0} → (ℕ → List ℕ → Option (A × List ℕ)) → List ℕ → Option (A × List ℕ)
union_at arm_at bytes = do
  number ← u32_at bytes
  arm_at number.0 number.1

unfoldable pub part_at : {A : Type 0} → (List ℕ → Option (A × List ℕ)) → ℕ → List ℕ → Option (Option A × List ℕ)
part_at read zero = void_at None
part_at read (suc zero) = mapped Some read
part_at read (suc (suc n)) = λ _. None

unfoldable pub optional_at : {A : Type 0} → (List ℕ → Option (A × List ℕ)) → List ℕ → Option (Option A × List ℕ)
optional_at read = union_at (part_at read)
