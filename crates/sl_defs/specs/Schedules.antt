-- The lines of a schedule, each with its one spelling. Parts are separated by one space; numbers are decimal,
-- without leading zeros.
use Rattle.std.specs.Prelude.{◌≢◌, ℕ, ◌+◌, ◌^◌, ◌<◌, ◌≤◌, ◌⊎◌, List, [], ◌∷◌, ◌++◌, length, codes, decimal, Option, Some, None, All}
use Rattle.hex.specs.Hex.{encode_lower}
use Rattle.sl_defs.specs.Items.{AreBytes}
use Rattle.sl_defs.specs.declared.setup.Policy.{Policy}
use Rattle.sl_defs.specs.declared.setup.Policy.TheVariants.{Switch, Hash}
use Rattle.sl_defs.specs.declared.setup.Setup.{Setup}
use Rattle.sl_defs.specs.declared.setup.Time.{Time}
use Rattle.sl_defs.specs.declared.event.Event.{Event}
use Rattle.sl_defs.specs.declared.event.Event.TheVariants as event
use Rattle.sl_defs.specs.declared.event.Line.{Line}
use Rattle.sl_defs.specs.declared.event.Line.TheVariants.{Volume, At, Happens, Flow, Remark}

-- ---- parts

-- lower-case hexadecimal digits, two for each byte, or a dash for no bytes
unfoldable pub hex_text : List ℕ → List ℕ
hex_text [] = codes "-"
hex_text (b ∷ bs) = encode_lower (b ∷ bs)

-- one part, a space, and the others
infixr 20 ◌and◌
abbrev pub ◌and◌ : List ℕ → List ℕ → List ℕ
part and others = part ++ 32 ∷ others

-- seconds and nanoseconds
unfoldable pub moment_text : Time → List ℕ
moment_text t = decimal t.sec and decimal t.nsec

-- the word of a policy, and its number, which is 0 where it has none
abbrev pub policy_word : Policy → List ℕ
policy_word (Switch p) = codes "switch"
policy_word Hash = codes "hash"

abbrev pub policy_number : Policy → ℕ
policy_number (Switch p) = p
policy_number Hash = 0

unfoldable pub policy_text : Policy → List ℕ
policy_text p = policy_word p and decimal (policy_number p)

unfoldable pub counts_text : Setup → List ℕ
counts_text s = decimal s.dirs and (decimal s.small and decimal s.nodes)

-- a volume's number, its policy, and the counts of its servers
unfoldable pub setup_text : Setup → List ℕ
setup_text s = decimal s.volume and (policy_text s.policy and counts_text s)

-- a client's number and the datagram
unfoldable pub call_text : ℕ → List ℕ → List ℕ
call_text client datagram = decimal client and hex_text datagram

unfoldable pub two_text : ℕ → ℕ → List ℕ
two_text a b = decimal a and decimal b

unfoldable pub three_text : ℕ → ℕ → ℕ → List ℕ
three_text a b c = decimal a and two_text b c

-- ---- lines

abbrev pub event_text : Event → List ℕ
event_text (event.Call client datagram) = codes "call " ++ call_text client datagram
event_text (event.Give k) = codes "give " ++ decimal k
event_text (event.Copy k) = codes "copy " ++ decimal k
event_text (event.Drop k) = codes "drop " ++ decimal k
event_text event.Tick = codes "tick"
event_text (event.Stop a image) = codes "stop " ++ two_text a image
event_text (event.Start a) = codes "start " ++ decimal a
event_text (event.Fuse a k image) = codes "fuse " ++ three_text a k image
event_text (event.Fail a k) = codes "fail " ++ two_text a k

-- the one spelling of a line
abbrev pub line_text : Line → List ℕ
line_text (Volume s) = codes "volume " ++ setup_text s
line_text (At t) = codes "at " ++ moment_text t
line_text (Happens e) = event_text e
line_text (Flow most) = codes "flow " ++ decimal most
line_text (Remark bytes) = codes "=" ++ bytes

-- ---- each number fits the type in which it is kept

abbrev pub FitsPolicy : Policy → Type 0
FitsPolicy (Switch p) = p < 2 ^ 8
FitsPolicy Hash = Unit {0}

pub record FitsSetup (s : Setup) : Type 0 where
  pub volume : s.volume < 2 ^ 64
  pub policy : FitsPolicy s.policy
  pub dirs : s.dirs < 2 ^ 8
  pub small : s.small < 2 ^ 8
  pub nodes : s.nodes < 2 ^ 8

pub record FitsMoment (t : Time) : Type 0 where
  pub sec : t.sec < 2 ^ 32
  pub nsec : t.nsec < 2 ^ 32

pub record FitsCall (sender : ℕ) (datagram : List ℕ) : Type 0 where
  pub client : sender < 2 ^ 32
  pub bytes : AreBytes datagram

-- an actor's number, and one or two others
pub record FitsTwo (a b : ℕ) : Type 0 where
  pub first : a < 2 ^ 8
  pub second : b < 2 ^ 64

pub record FitsThree (a b c : ℕ) : Type 0 where
  pub first : a < 2 ^ 8
  pub second : b < 2 ^ 64
  pub third : c < 2 ^ 64

abbrev pub FitsEvent : Event → Type 0
FitsEvent (event.Call client datagram) = FitsCall client datagram
FitsEvent (event.Give k) = k < 2 ^ 64
FitsEvent (event.Copy k) = k < 2 ^ 64
FitsEvent (event.Drop k) = k < 2 ^ 64
FitsEvent event.Tick = Unit {0}
FitsEvent (event.Stop a image) = FitsTwo a image
FitsEvent (event.Start a) = a < 2 ^ 8
FitsEvent (event.Fuse a k image) = FitsThree a k image
FitsEvent (event.Fail a k) = FitsTwo a k

abbrev pub FitsLine : Line → Type 0
FitsLine (Volume s) = FitsSetup s
FitsLine (At t) = FitsMoment t
FitsLine (Happens e) = FitsEvent e
FitsLine (Flow most) = most < 2 ^ 32
FitsLine (Remark bytes) = AreBytes bytes

-- ---- each number is in its range

pub record IsSetup (s : Setup) : Type 0 where
  pub some_dirs : 1 ≤ s.dirs
  pub dirs : s.dirs ≤ 8
  pub some_small : 1 ≤ s.small
  pub small : s.small ≤ 4
  pub some_nodes : 1 ≤ s.nodes
  pub nodes : s.nodes ≤ 8

-- a number from there on, among so many
pub record IsAmong (number start count : ℕ) : Type 0 where
  pub low : start ≤ number
  pub high : number < start + count

-- The volume has this actor: 0 is the proxy, 1 the coordinator, and directory servers are numbered from 16,
-- small-file servers from 32, storage nodes from 48 on.
abbrev pub HasActor : Setup → ℕ → Type 0
HasActor s a = IsAmong a 0 2 ⊎ IsAmong a 16 s.dirs ⊎ IsAmong a 32 s.small ⊎ IsAmong a 48 s.nodes

-- the event may stand in a schedule of that volume
abbrev pub IsEvent : Setup → Event → Type 0
IsEvent s (event.Call client datagram) = length datagram ≤ 65536
IsEvent s (event.Give k) = Unit {0}
IsEvent s (event.Copy k) = Unit {0}
IsEvent s (event.Drop k) = Unit {0}
IsEvent s event.Tick = Unit {0}
IsEvent s (event.Stop a image) = HasActor s a
IsEvent s (event.Start a) = HasActor s a
IsEvent s (event.Fuse a k image) = HasActor s a × (1 ≤ k)
IsEvent s (event.Fail a k) = HasActor s a × (1 ≤ k)

-- The line may stand in its place: the first line, before which no volume is known, is the volume, and no other is.
abbrev pub IsLine : Option Setup → Line → Type 0
IsLine None (Volume s) = IsSetup s
IsLine None _ = ⊥
IsLine (Some s) (Volume other) = ⊥
IsLine (Some s) (At t) = t.nsec < 10 ^ 9
IsLine (Some s) (Happens e) = IsEvent s e
IsLine (Some s) (Flow most) = (1 ≤ most) × (most ≤ 1000000)
IsLine (Some s) (Remark bytes) = All (λ b. b ≢ 10) bytes
