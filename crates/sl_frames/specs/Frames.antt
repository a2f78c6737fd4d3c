-- Frames: the one text of each, which of them have one, and how they are read.
use Rattle.std.specs.Prelude.{◌≡◌, ℕ, zero, suc, ◌^◌, ◌<◌, List, [], ◌∷◌, ◌++◌, length, Option, Some, None, Bool, true, false, ◌==◌, ◌&&◌, ◌||◌, nat_lt, if◌then◌else◌}
use Rattle.sl_defs.specs.Items.{u32_text, u64_text, ◌>>=◌, u32_at, u64_at}
use Rattle.sl_defs.specs.Parts.{void_at, mapped, ◌⊗◌, union_at}
use Rattle.sl_xdr.specs.Reading.{number_of_flag, flag_at}
use Rattle.sl_items.specs.Spelling.{FitsU32, FitsU64}
use Rattle.sl_cells.specs.declared.cells.NameCell.{NameCell}
use Rattle.sl_cells.specs.Lists.{Reader, counted_at, counted_text, FitsList}
use Rattle.sl_cells.specs.Reading.{guarded, whole, id_at, id_or_none_at, attr_cell_at, name_cell_at, key_at}
use Rattle.sl_cells.specs.Texts.{Spelled, IsId, IsIdOrNone, attr_cell_text, FitsAttrCell, ShortAttrCell, name_cell_text, FitsNameCell, ShortNameCell, key_text, FitsKey, ShortKey}
use Rattle.sl_frames.specs.declared.found.FoundCell.{FoundCell}
use Rattle.sl_frames.specs.declared.found.FoundCell.TheVariants as found
use Rattle.sl_frames.specs.declared.body.Body.{Body}
use Rattle.sl_frames.specs.declared.body.Body.TheVariants as body
use Rattle.sl_frames.specs.declared.frame.Frame.{Frame}
use Rattle.sl_frames.specs.declared.frame.Uses.{Uses}
use Rattle.sl_frames.specs.Actors.{is_proxy, is_coordinator, is_directory, is_data, is_server}
use Rattle.sl_frames.specs.Works.{work_text, FitsWork, ShortWork, work_at, may_be_asked, intent_text, FitsIntent, ShortIntent, intent_at}

-- ---- the cells of an answer: for each key that was asked for, a number that tells what follows, and that

abbrev pub found_number : FoundCell → ℕ
found_number found.Absent = 0
found_number (found.Attr cell) = 1
found_number (found.Name cell) = 2

abbrev pub found_body_text : FoundCell → List ℕ
found_body_text found.Absent = []
found_body_text (found.Attr cell) = attr_cell_text cell
found_body_text (found.Name cell) = name_cell_text cell

unfoldable pub found_text : FoundCell → List ℕ
found_text f = u32_text (found_number f) ++ found_body_text f

abbrev pub FitsFound : FoundCell → Type 0
FitsFound found.Absent = Unit {0}
FitsFound (found.Attr cell) = FitsAttrCell cell
FitsFound (found.Name cell) = FitsNameCell cell

abbrev pub ShortFound : FoundCell → Type 0
ShortFound found.Absent = Unit {0}
ShortFound (found.Attr cell) = ShortAttrCell cell
ShortFound (found.Name cell) = ShortNameCell cell

unfoldable pub found_body_at : ℕ → Reader FoundCell
found_body_at zero = void_at found.Absent
found_body_at (suc zero) = mapped found.Attr attr_cell_at
found_body_at (suc (suc zero)) = mapped found.Name name_cell_at
found_body_at (suc (suc (suc n))) = λ _. None

unfoldable pub found_at : Reader FoundCell
found_at = union_at found_body_at

-- ---- bodies

-- the number of a frame's kind
abbrev pub kind_of : Body → ℕ
kind_of body.Hello = 1
kind_of body.Welcome = 2
kind_of (body.Forward chosen packet) = 3
kind_of (body.Packet packet) = 4
kind_of (body.Ask keys) = 5
kind_of (body.Found cells) = 6
kind_of (body.List dir cookie limit) = 7
kind_of (body.Listed cells more) = 8
kind_of (body.Mint site) = 9
kind_of (body.Minted fileid) = 10
kind_of (body.Intent intent) = 11
kind_of (body.Decided done) = 12
kind_of (body.Lock work) = 13
kind_of body.Grant = 14
kind_of body.Refuse = 15
kind_of body.Apply = 16
kind_of body.Release = 17
kind_of body.Ack = 18

unfoldable pub body_text : Body → List ℕ
body_text body.Hello = []
body_text body.Welcome = []
-- a packet is all that is left of the frame
body_text (body.Forward chosen packet) = u64_text chosen ++ packet
body_text (body.Packet packet) = packet
body_text (body.Ask keys) = counted_text key_text keys
body_text (body.Found cells) = counted_text found_text cells
body_text (body.List dir cookie limit) = u64_text dir ++ (u64_text cookie ++ u32_text limit)
body_text (body.Listed cells more) = counted_text name_cell_text cells ++ u32_text (number_of_flag more)
body_text (body.Mint site) = u32_text site
body_text (body.Minted fileid) = u64_text fileid
body_text (body.Intent intent) = intent_text intent
body_text (body.Decided done) = u32_text (number_of_flag done)
body_text (body.Lock work) = work_text work
body_text body.Grant = []
body_text body.Refuse = []
body_text body.Apply = []
body_text body.Release = []
body_text body.Ack = []

-- a site of directory servers
abbrev pub IsSite : ℕ → Type 0
IsSite n = n < 64

abbrev pub FitsBody : Body → Type 0
FitsBody body.Hello = Unit {0}
FitsBody body.Welcome = Unit {0}
FitsBody (body.Forward chosen packet) = IsIdOrNone chosen
FitsBody (body.Packet packet) = Unit {0}
FitsBody (body.Ask keys) = FitsList FitsKey keys
FitsBody (body.Found cells) = FitsList FitsFound cells
FitsBody (body.List dir cookie limit) = IsId dir × (FitsU64 cookie × FitsU32 limit)
FitsBody (body.Listed cells more) = FitsList FitsNameCell cells × Unit {0}
FitsBody (body.Mint site) = IsSite site
FitsBody (body.Minted fileid) = IsIdOrNone fileid
FitsBody (body.Intent intent) = FitsIntent intent
FitsBody (body.Decided done) = Unit {0}
FitsBody (body.Lock work) = FitsWork work
FitsBody body.Grant = Unit {0}
FitsBody body.Refuse = Unit {0}
FitsBody body.Apply = Unit {0}
FitsBody body.Release = Unit {0}
FitsBody body.Ack = Unit {0}

-- its lists and opaques are short enough to be written
abbrev pub ShortBody : Body → Type 0
ShortBody body.Hello = Unit {0}
ShortBody body.Welcome = Unit {0}
ShortBody (body.Forward chosen packet) = Unit {0}
ShortBody (body.Packet packet) = Unit {0}
ShortBody (body.Ask keys) = FitsList ShortKey keys
ShortBody (body.Found cells) = FitsList ShortFound cells
ShortBody (body.List dir cookie limit) = Unit {0}
ShortBody (body.Listed cells more) = FitsList ShortNameCell cells
ShortBody (body.Mint site) = Unit {0}
ShortBody (body.Minted fileid) = Unit {0}
ShortBody (body.Intent intent) = ShortIntent intent
ShortBody (body.Decided done) = Unit {0}
ShortBody (body.Lock work) = ShortWork work
ShortBody body.Grant = Unit {0}
ShortBody body.Refuse = Unit {0}
ShortBody body.Apply = Unit {0}
ShortBody body.Release = Unit {0}
ShortBody body.Ack = Unit {0}

-- ---- between whom a frame goes, and what its header says

-- a frame of this body may go from the first actor to the second
abbrev pub goes : ℕ → ℕ → Body → Bool
goes from to body.Hello = is_proxy from && is_coordinator to
goes from to body.Welcome = is_coordinator from && is_proxy to
goes from to (body.Forward chosen packet) = is_proxy from && is_server to
goes from to (body.Packet packet) = is_server from && is_proxy to
goes from to (body.Ask keys) = is_proxy from && is_directory to
goes from to (body.Found cells) = is_directory from && is_proxy to
goes from to (body.List dir cookie limit) = is_proxy from && is_directory to
goes from to (body.Listed cells more) = is_directory from && is_proxy to
goes from to (body.Mint site) = is_proxy from && is_directory to
goes from to (body.Minted fileid) = is_directory from && is_proxy to
goes from to (body.Intent intent) = is_proxy from && is_coordinator to
goes from to (body.Decided done) = is_coordinator from && is_proxy to
goes from to (body.Lock work) = is_coordinator from && is_server to
goes from to body.Grant = is_server from && is_coordinator to
goes from to body.Refuse = is_data from && (is_proxy to || is_coordinator to)
goes from to body.Apply = is_coordinator from && is_server to
goes from to body.Release = is_coordinator from && is_server to
goes from to body.Ack = is_server from && is_coordinator to

-- no field but the fence
abbrev pub fence_alone : Uses
fence_alone = record { tag = false; low = false; op = false; boot = false; arrival = false }

-- the fields of a request of the proxy, of an answer to it, and of what is sent for an operation
abbrev pub of_request : Bool → Uses
of_request boot = record { tag = true; low = true; op = false; boot = boot; arrival = true }

abbrev pub of_answer : Bool → Uses
of_answer boot = record { tag = true; low = false; op = false; boot = boot; arrival = false }

abbrev pub of_operation : Bool → Uses
of_operation boot = record { tag = false; low = false; op = true; boot = boot; arrival = false }

-- Which fields of its header a frame of this body uses, from the first actor to the second. Its boot is the one that
-- is relied on, and in what a data server sends its own.
abbrev pub uses : ℕ → ℕ → Body → Uses
uses from to body.Hello = fence_alone
uses from to body.Welcome = fence_alone
uses from to (body.Forward chosen packet) = of_request true
uses from to (body.Packet packet) = of_answer (is_data from)
uses from to (body.Ask keys) = of_request false
uses from to (body.Found cells) = of_answer false
uses from to (body.List dir cookie limit) = of_request false
uses from to (body.Listed cells more) = of_answer false
uses from to (body.Mint site) = of_request false
uses from to (body.Minted fileid) = of_answer false
uses from to (body.Intent intent) = of_request false
uses from to (body.Decided done) = of_answer false
uses from to (body.Lock work) = of_operation true
uses from to body.Grant = of_operation (is_data from)
uses from to body.Refuse = if is_proxy to then of_answer true else of_operation true
uses from to body.Apply = of_operation false
uses from to body.Release = of_operation false
uses from to body.Ack = of_operation (is_data from)

-- a field that isn't used is zero
abbrev pub used_or_zero : Bool → ℕ → Bool
used_or_zero used field = used || field == 0

abbrev pub has_used_alone : Uses → Frame → Bool
has_used_alone used f = used_or_zero used.tag f.tag && used_or_zero used.low f.low && used_or_zero used.op f.op && used_or_zero used.boot f.boot && used_or_zero used.arrival f.arrival

-- a Lock asks its server for what that server may be asked for
abbrev pub asks_rightly : ℕ → Body → Bool
asks_rightly to (body.Lock work) = may_be_asked to work
asks_rightly to other = true

abbrev pub is_sound : Frame → Bool
is_sound f = goes f.from f.to f.body && has_used_alone (uses f.from f.to f.body) f && asks_rightly f.to f.body

-- ---- frames

-- The header is from, to, the kind and a zero of one byte each, and six numbers of eight bytes.
unfoldable pub head_text : Frame → List ℕ
head_text f = (f.from ∷ f.to ∷ kind_of f.body ∷ 0 ∷ []) ++ (u64_text f.fence ++ (u64_text f.tag ++ (u64_text f.low ++ (u64_text f.op ++ (u64_text f.boot ++ u64_text f.arrival)))))

abbrev pub frame_text : Frame → List ℕ
frame_text f = head_text f ++ body_text f.body

-- the numbers of the header lie in the ranges of their types
pub record HeadInRange (f : Frame) : Type 0 where
  pub from : f.from < 256
  pub to : f.to < 256
  pub fence : FitsU64 f.fence
  pub tag : FitsU64 f.tag
  pub low : FitsU64 f.low
  pub op : FitsU64 f.op
  pub boot : FitsU64 f.boot
  pub arrival : FitsU64 f.arrival

-- the frame has a text
pub record FitsFrame (f : Frame) : Type 0 where
  pub head : HeadInRange f
  pub «body» : FitsBody f.body
  pub sound : is_sound f ≡ true

-- these bytes are the frame's text
abbrev pub IsFrame : Frame → List ℕ → Type 0
IsFrame = Spelled frame_text FitsFrame

-- ---- reading

abbrev pub list_body : ℕ × (ℕ × ℕ) → Body
list_body x = body.List x.0 x.1.0 x.1.1

abbrev pub listed_body : List NameCell × Bool → Body
listed_body x = body.Listed x.0 x.1

unfoldable pub site_at : Reader ℕ
site_at = guarded (λ n. nat_lt n 64) u32_at

-- a body of this kind, but for those that hold a packet
unfoldable pub body_at : ℕ → Reader Body
body_at n =
    if n == 1 then void_at body.Hello
    else if n == 2 then void_at body.Welcome
    else if n == 5 then mapped body.Ask (counted_at key_at)
    else if n == 6 then mapped body.Found (counted_at found_at)
    else if n == 7 then mapped list_body (id_at ⊗ u64_at ⊗ u32_at)
    else if n == 8 then mapped listed_body (counted_at name_cell_at ⊗ flag_at)
    else if n == 9 then mapped body.Mint site_at
    else if n == 10 then mapped body.Minted id_or_none_at
    else if n == 11 then mapped body.Intent intent_at
    else if n == 12 then mapped body.Decided flag_at
    else if n == 13 then mapped body.Lock work_at
    else if n == 14 then void_at body.Grant
    else if n == 15 then void_at body.Refuse
    else if n == 16 then void_at body.Apply
    else if n == 17 then void_at body.Release
    else if n == 18 then void_at body.Ack
    else λ _. None

unfoldable pub forward_of : List ℕ → Option Body
forward_of bytes = do
  chosen ← id_or_none_at bytes
  Some (body.Forward chosen.0 chosen.1)

abbrev pub packet_of : List ℕ → Option Body
packet_of bytes = Some (body.Packet bytes)

-- the body that the whole bytes spell
unfoldable pub body_of : ℕ → List ℕ → Option Body
body_of n = if n == 3 then forward_of else if n == 4 then packet_of else whole (body_at n)

unfoldable pub numbers_at : Reader (ℕ × (ℕ × (ℕ × (ℕ × (ℕ × ℕ)))))
numbers_at = u64_at ⊗ u64_at ⊗ u64_at ⊗ u64_at ⊗ u64_at ⊗ u64_at

abbrev pub frame_made : ℕ → ℕ → ℕ × (ℕ × (ℕ × (ℕ × (ℕ × ℕ)))) → Body → Frame
frame_made from to x b = record {
  from = from;
  to = to;
  fence = x.0;
  tag = x.1.0;
  low = x.1.1.0;
  op = x.1.1.1.0;
  boot = x.1.1.1.1.0;
  arrival = x.1.1.1.1.1;
  «body» = b;
}

abbrev pub if_sound : Frame → Option Frame
if_sound f = if is_sound f then Some f else None

-- what stands behind the first four bytes
abbrev pub frame_behind : ℕ → ℕ → ℕ → List ℕ → Option Frame
frame_behind from to kind bytes = do
  numbers ← numbers_at bytes
  b ← body_of kind numbers.1
  if_sound (frame_made from to numbers.0 b)

-- the frame that the whole bytes spell
unfoldable pub frame_of : List ℕ → Option Frame
frame_of [] = None
frame_of (a ∷ []) = None
frame_of (a ∷ b ∷ []) = None
frame_of (a ∷ b ∷ c ∷ []) = None
frame_of (from ∷ to ∷ kind ∷ padding ∷ bytes) = if padding == 0 then frame_behind from to kind bytes else None
