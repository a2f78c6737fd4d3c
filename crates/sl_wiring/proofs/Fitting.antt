-- Which kinds of frames are answered by which.
use Rattle.std.proofs.Common.{◌≡◌, ℕ, Bool, List, refl}
use Rattle.std.specs.Prelude.{◌==◌, ◌||◌}
use Rattle.sl_cells.specs.declared.cells.NameCell.{NameCell}
use Rattle.sl_frames.specs.Frames.{kind_of}
use Rattle.sl_frames.specs.declared.found.FoundCell.{FoundCell}
use Rattle.sl_frames.specs.declared.body.Body.{Body}
use Rattle.sl_frames.specs.declared.body.Body.TheVariants as body
use Rattle.sl_history.specs.Wired.{fits}

pub welcome_answers : (asking : Body) → fits asking body.Welcome ≡ (kind_of asking == 1)
welcome_answers body.Hello = refl
welcome_answers body.Welcome = refl
welcome_answers (body.Forward x0 x1) = refl
welcome_answers (body.Packet x0) = refl
welcome_answers (body.Ask x0) = refl
welcome_answers (body.Found x0) = refl
welcome_answers (body.List x0 x1 x2) = refl
welcome_answers (body.Listed x0 x1) = refl
welcome_answers (body.Mint x0) = refl
welcome_answers (body.Minted x0) = refl
welcome_answers (body.Intent x0) = refl
welcome_answers (body.Decided x0) = refl
welcome_answers (body.Lock x0) = refl
welcome_answers body.Grant = refl
welcome_answers body.Refuse = refl
welcome_answers body.Apply = refl
welcome_answers body.Release = refl
welcome_answers body.Ack = refl

pub packet_answers : (asking : Body) (reply : List ℕ) → fits asking (body.Packet reply) ≡ (kind_of asking == 3)
packet_answers body.Hello reply = refl
packet_answers body.Welcome reply = refl
packet_answers (body.Forward x0 x1) reply = refl
packet_answers (body.Packet x0) reply = refl
packet_answers (body.Ask x0) reply = refl
packet_answers (body.Found x0) reply = refl
packet_answers (body.List x0 x1 x2) reply = refl
packet_answers (body.Listed x0 x1) reply = refl
packet_answers (body.Mint x0) reply = refl
packet_answers (body.Minted x0) reply = refl
packet_answers (body.Intent x0) reply = refl
packet_answers (body.Decided x0) reply = refl
packet_answers (body.Lock x0) reply = refl
packet_answers body.Grant reply = refl
packet_answers body.Refuse reply = refl
packet_answers body.Apply reply = refl
packet_answers body.Release reply = refl
packet_answers body.Ack reply = refl

pub found_answers : (asking : Body) (cells : List FoundCell) → fits asking (body.Found cells) ≡ (kind_of asking == 5)
found_answers body.Hello cells = refl
found_answers body.Welcome cells = refl
found_answers (body.Forward x0 x1) cells = refl
found_answers (body.Packet x0) cells = refl
found_answers (body.Ask x0) cells = refl
found_answers (body.Found x0) cells = refl
found_answers (body.List x0 x1 x2) cells = refl
found_answers (body.Listed x0 x1) cells = refl
found_answers (body.Mint x0) cells = refl
found_answers (body.Minted x0) cells = refl
found_answers (body.Intent x0) cells = refl
found_answers (body.Decided x0) cells = refl
found_answers (body.Lock x0) cells = refl
found_answers body.Grant cells = refl
found_answers body.Refuse cells = refl
found_answers body.Apply cells = refl
found_answers body.Release cells = refl
found_answers body.Ack cells = refl

pub listed_answers : (asking : Body) (cells : List NameCell) (more : Bool) → fits asking (body.Listed cells more) ≡ (kind_of asking == 7)
listed_answers body.Hello cells more = refl
listed_answers body.Welcome cells more = refl
listed_answers (body.Forward x0 x1) cells more = refl
listed_answers (body.Packet x0) cells more = refl
listed_answers (body.Ask x0) cells more = refl
listed_answers (body.Found x0) cells more = refl
listed_answers (body.List x0 x1 x2) cells more = refl
listed_answers (body.Listed x0 x1) cells more = refl
listed_answers (body.Mint x0) cells more = refl
listed_answers (body.Minted x0) cells more = refl
listed_answers (body.Intent x0) cells more = refl
listed_answers (body.Decided x0) cells more = refl
listed_answers (body.Lock x0) cells more = refl
listed_answers body.Grant cells more = refl
listed_answers body.Refuse cells more = refl
listed_answers body.Apply cells more = refl
listed_answers body.Release cells more = refl
listed_answers body.Ack cells more = refl

pub minted_answers : (asking : Body) (fileid : ℕ) → fits asking (body.Minted fileid) ≡ (kind_of asking == 9)
minted_answers body.Hello fileid = refl
minted_answers body.Welcome fileid = refl
minted_answers (body.Forward x0 x1) fileid = refl
minted_answers (body.Packet x0) fileid = refl
minted_answers (body.Ask x0) fileid = refl
minted_answers (body.Found x0) fileid = refl
minted_answers (body.List x0 x1 x2) fileid = refl
minted_answers (body.Listed x0 x1) fileid = refl
minted_answers (body.Mint x0) fileid = refl
minted_answers (body.Minted x0) fileid = refl
minted_answers (body.Intent x0) fileid = refl
minted_answers (body.Decided x0) fileid = refl
minted_answers (body.Lock x0) fileid = refl
minted_answers body.Grant fileid = refl
minted_answers body.Refuse fileid = refl
minted_answers body.Apply fileid = refl
minted_answers body.Release fileid = refl
minted_answers body.Ack fileid = refl

pub decided_answers : (asking : Body) (done : Bool) → fits asking (body.Decided done) ≡ (kind_of asking == 11)
decided_answers body.Hello done = refl
decided_answers body.Welcome done = refl
decided_answers (body.Forward x0 x1) done = refl
decided_answers (body.Packet x0) done = refl
decided_answers (body.Ask x0) done = refl
decided_answers (body.Found x0) done = refl
decided_answers (body.List x0 x1 x2) done = refl
decided_answers (body.Listed x0 x1) done = refl
decided_answers (body.Mint x0) done = refl
decided_answers (body.Minted x0) done = refl
decided_answers (body.Intent x0) done = refl
decided_answers (body.Decided x0) done = refl
decided_answers (body.Lock x0) done = refl
decided_answers body.Grant done = refl
decided_answers body.Refuse done = refl
decided_answers body.Apply done = refl
decided_answers body.Release done = refl
decided_answers body.Ack done = refl

pub grant_answers : (asking : Body) → fits asking body.Grant ≡ (kind_of asking == 13)
grant_answers body.Hello = refl
grant_answers body.Welcome = refl
grant_answers (body.Forward x0 x1) = refl
grant_answers (body.Packet x0) = refl
grant_answers (body.Ask x0) = refl
grant_answers (body.Found x0) = refl
grant_answers (body.List x0 x1 x2) = refl
grant_answers (body.Listed x0 x1) = refl
grant_answers (body.Mint x0) = refl
grant_answers (body.Minted x0) = refl
grant_answers (body.Intent x0) = refl
grant_answers (body.Decided x0) = refl
grant_answers (body.Lock x0) = refl
grant_answers body.Grant = refl
grant_answers body.Refuse = refl
grant_answers body.Apply = refl
grant_answers body.Release = refl
grant_answers body.Ack = refl

pub refuse_answers : (asking : Body) → fits asking body.Refuse ≡ ((kind_of asking == 3) || (kind_of asking == 13))
refuse_answers body.Hello = refl
refuse_answers body.Welcome = refl
refuse_answers (body.Forward x0 x1) = refl
refuse_answers (body.Packet x0) = refl
refuse_answers (body.Ask x0) = refl
refuse_answers (body.Found x0) = refl
refuse_answers (body.List x0 x1 x2) = refl
refuse_answers (body.Listed x0 x1) = refl
refuse_answers (body.Mint x0) = refl
refuse_answers (body.Minted x0) = refl
refuse_answers (body.Intent x0) = refl
refuse_answers (body.Decided x0) = refl
refuse_answers (body.Lock x0) = refl
refuse_answers body.Grant = refl
refuse_answers body.Refuse = refl
refuse_answers body.Apply = refl
refuse_answers body.Release = refl
refuse_answers body.Ack = refl

pub ack_answers : (asking : Body) → fits asking body.Ack ≡ ((kind_of asking == 16) || (kind_of asking == 17))
ack_answers body.Hello = refl
ack_answers body.Welcome = refl
ack_answers (body.Forward x0 x1) = refl
ack_answers (body.Packet x0) = refl
ack_answers (body.Ask x0) = refl
ack_answers (body.Found x0) = refl
ack_answers (body.List x0 x1 x2) = refl
ack_answers (body.Listed x0 x1) = refl
ack_answers (body.Mint x0) = refl
ack_answers (body.Minted x0) = refl
ack_answers (body.Intent x0) = refl
ack_answers (body.Decided x0) = refl
ack_answers (body.Lock x0) = refl
ack_answers body.Grant = refl
ack_answers body.Refuse = refl
ack_answers body.Apply = refl
ack_answers body.Release = refl
ack_answers body.Ack = refl
