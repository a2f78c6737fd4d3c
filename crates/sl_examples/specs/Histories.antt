-- Small histories of a volume with one server of each class.
use Rattle.std.specs.Prelude.{ℕ, ◌+◌, List, [], ◌∷◌, ◌++◌, false}
use Rattle.sl_defs.specs.Items.{u32_text}
use Rattle.sl_defs.specs.Histories.{Opens, Reaches, Happens}
use Rattle.sl_defs.specs.Rpc.{accepted_text}
use Rattle.sl_defs.specs.declared.setup.Setup.{Setup}
use Rattle.sl_defs.specs.declared.setup.Policy.TheVariants as policy
use Rattle.sl_defs.specs.declared.setup.Time.{Time}
use Rattle.sl_defs.specs.declared.event.Event.{Event}
use Rattle.sl_defs.specs.declared.event.Event.TheVariants as event
use Rattle.sl_frames.specs.declared.frame.Frame.{Frame}
use Rattle.sl_frames.specs.declared.body.Body.{Body}
use Rattle.sl_frames.specs.declared.body.Body.TheVariants as body
use Rattle.sl_defs.specs.declared.note.Choice.{Choice}
use Rattle.sl_cells.specs.declared.keys.CellKey.TheVariants as key
use Rattle.sl_frames.specs.declared.found.FoundCell.{FoundCell}
use Rattle.sl_model.specs.Volume.{Volume}
use Rattle.sl_model.specs.Perform.{fresh}
use Rattle.sl_history.specs.Turns.{Remark, Sent, Did, Flush, Verf, Replied, Junk, Early, Full, Lost, Down, Turn, History}

abbrev pub setup : Setup
setup = record { volume = 1; policy = policy.Switch 0; dirs = 1; small = 1; nodes = 1 }

abbrev pub start : Volume
start = fresh 1

abbrev pub epoch : Time
epoch = record { sec = 0; nsec = 0 }

abbrev pub turn : Event → List Remark → Turn
turn e remarks = record { happening = Happens e; moment = epoch; remarks = remarks }

-- ---- the opening, Hello and Welcome

-- the first fence of the first start
abbrev pub fence : ℕ
fence = 4294967296

abbrev pub greeting : ℕ → ℕ → Body → Frame
greeting from to b = record { from = from; to = to; fence = fence; tag = 0; low = 0; op = 0; boot = 0; arrival = 0; «body» = b }

abbrev pub opening : Turn
opening = record { happening = Opens setup; moment = epoch; remarks = Sent 1 (greeting 0 1 body.Hello) ∷ [] }

abbrev pub opened : History
opened = opening ∷ []

-- the Hello is given to the coordinator, and the Welcome to the proxy
abbrev pub greeted : History
greeted = turn (event.Give 1) (Sent 2 (greeting 1 0 body.Welcome) ∷ []) ∷ opened

abbrev pub welcomed : History
welcomed = turn (event.Give 2) (Verf fence ∷ []) ∷ greeted

-- ---- calls

-- a call of version 3 of NFS by nobody, with these arguments
abbrev pub call_of : ℕ → List ℕ → List ℕ
call_of procedure args =
    u32_text 7 ++ (u32_text 0 ++ (u32_text 2 ++ (u32_text 100003 ++ (u32_text 3 ++ (u32_text procedure ++ (u32_text 0 ++ (u32_text 0 ++ (u32_text 0 ++ (u32_text 0 ++ args)))))))))

abbrev pub null_call : List ℕ
null_call = call_of 0 []

abbrev pub null_reply : List ℕ
null_reply = accepted_text 7 0

-- the root's attributes are asked for
abbrev pub root_handle : List ℕ
root_handle = u32_text 0x534c4831 ++ (u32_text 0 ++ (u32_text 0 ++ (u32_text 1 ++ (u32_text 0 ++ (u32_text 1 ++ (u32_text 2 ++ u32_text 0))))))

abbrev pub root_call : List ℕ
root_call = call_of 1 (u32_text 32 ++ root_handle)

-- ---- histories that are legal, licensed and wired, and others

abbrev pub answered : History
answered = turn (event.Call 0 null_call) (Replied 1 1 null_reply ∷ []) ∷ opened

abbrev pub twice_answered : History
twice_answered = turn (event.Call 0 null_call) (Replied 1 1 null_reply ∷ Replied 1 1 null_reply ∷ []) ∷ opened

abbrev pub wrongly_answered : History
wrongly_answered = turn (event.Call 0 null_call) (Replied 1 1 (accepted_text 8 0) ∷ []) ∷ opened

abbrev pub unanswered : History
unanswered = turn (event.Call 0 null_call) [] ∷ opened

-- a call before the Welcome
abbrev pub too_early : History
too_early = turn (event.Call 0 root_call) (Early 1 ∷ []) ∷ opened

abbrev pub dropped_silently : History
dropped_silently = turn (event.Call 0 root_call) [] ∷ opened

abbrev pub dropped_though_welcome : History
dropped_though_welcome = turn (event.Call 0 root_call) (Early 3 ∷ []) ∷ welcomed

-- a second write verifier though nothing was lost
abbrev pub verified_twice : History
verified_twice = turn (event.Copy 2) (Verf (fence + 1) ∷ []) ∷ welcomed

-- a Welcome that nobody asked for
abbrev pub unasked : History
unasked = turn event.Tick (Sent 2 (greeting 1 0 body.Welcome) ∷ []) ∷ opened

-- a call that makes a file `a` in the root, and nothing given for it
abbrev pub create_call : List ℕ
create_call = call_of 8 (u32_text 32 ++ (root_handle ++ (u32_text 1 ++ (97 ∷ 0 ∷ 0 ∷ 0 ∷ []) ++ (u32_text 0 ++ (u32_text 0 ++ (u32_text 0 ++ (u32_text 0 ++ (u32_text 0 ++ (u32_text 0 ++ u32_text 0)))))))))

abbrev pub file_two : Choice
file_two = record { fileid = 2; kept = false }

abbrev pub created : Remark
created = Did 3 epoch file_two

abbrev pub done_twice : History
done_twice = turn event.Tick (created ∷ created ∷ []) ∷ turn (event.Call 0 create_call) [] ∷ welcomed

-- a reply to a call that hasn't taken effect
abbrev pub replied_for_nothing : History
replied_for_nothing = turn (event.Call 0 create_call) (Replied 3 3 null_reply ∷ []) ∷ welcomed

-- an effect of a call that was dropped
abbrev pub done_though_dropped : History
done_though_dropped = turn event.Tick (Did 1 epoch file_two ∷ []) ∷ turn (event.Call 0 create_call) (Early 1 ∷ []) ∷ opened

-- a write verifier that doesn't rise, after a loss
abbrev pub verified_the_same : History
verified_the_same = turn (event.Copy 2) (Verf fence ∷ []) ∷ turn (event.Stop 48 0) [] ∷ welcomed

-- a flush of a file without unstable writes
abbrev pub flushed_for_nothing : History
flushed_for_nothing = turn event.Tick (Flush 2 ∷ []) ∷ welcomed

-- a Welcome by a server that has no part in it
abbrev pub answered_by_another : History
answered_by_another = turn (event.Give 1) (Sent 2 (greeting 16 0 body.Welcome) ∷ []) ∷ opened

-- a request for the root's cell, and answers to it
abbrev pub asking : Frame
asking = record { from = 0; to = 16; fence = fence; tag = 1; low = 1; op = 0; boot = 0; arrival = 3; «body» = body.Ask (key.Attr 1 ∷ []) }

abbrev pub telling : FoundCell → Frame
telling c = record { from = 16; to = 0; fence = fence; tag = 1; low = 0; op = 0; boot = 0; arrival = 0; «body» = body.Found (c ∷ []) }

abbrev pub asked_for_root : History
asked_for_root = turn (event.Call 0 root_call) (Sent 3 asking ∷ []) ∷ welcomed

abbrev pub told_of_root : FoundCell → History
told_of_root c = turn (event.Give 3) (Sent 4 (telling c) ∷ []) ∷ asked_for_root

-- a frame is given that wasn't sent, and one that was given for good
abbrev pub never_sent : History
never_sent = turn (event.Give 5) [] ∷ opened

abbrev pub given_again : History
given_again = turn (event.Give 1) [] ∷ greeted
