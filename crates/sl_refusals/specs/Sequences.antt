-- Calls one after another, each replied in the event in which it takes effect.
use Rattle.std.specs.Prelude.{ℕ, ◌+◌, List, [], ◌∷◌, Some, true, false, Ok}
use Rattle.sl_defs.specs.declared.event.Event.TheVariants as event
use Rattle.sl_types.specs.declared.kind.Status.TheVariants as status
use Rattle.sl_types.specs.declared.call.Call.{Call}
use Rattle.sl_types.specs.declared.call.CreateHow.TheVariants as how
use Rattle.sl_types.specs.declared.call.Stable.TheVariants as stable
use Rattle.sl_types.specs.declared.reply.Reply.{Reply}
use Rattle.sl_types.specs.declared.reply.Reply.TheVariants as reply
use Rattle.sl_rpc.specs.Heads.{nobody}
use Rattle.sl_model.specs.declared.node.Node.{Node}
use Rattle.sl_model.specs.Looking.{attributes, no_wcc, wcc_of}
use Rattle.sl_model.specs.Changing.{nothing_given, new_file, made}
use Rattle.sl_model.specs.Perform.{new_root}
use Rattle.sl_history.specs.Turns.{Did, Replied, History, events}
use Rattle.sl_history.specs.Legal.{Legal}
use Rattle.sl_examples.specs.Histories.{start, epoch, fence, turn, welcomed}
use Rattle.sl_refusals.specs.Packets.{asks, answers, create, remove, write, read}
use Rattle.sl_refusals.specs.Volumes.{filed}
use Rattle.sl_refusals.specs.Answers.{sized}

-- the next event brings the call, and the one after it its effect and its reply
abbrev pub performed : History → Call → ℕ → Reply → History
performed past c f r =
    turn event.Tick (Did (events past + 1) epoch (record { fileid = f; kept = false }) ∷ Replied (events past + 1) (events past + 2) (answers r) ∷ [])
    ∷ turn (event.Call 0 (asks c)) [] ∷ past

-- ---- a file is made and removed, and made and removed again

abbrev pub new : ℕ → Node
new f = new_file (how.Unchecked nothing_given) nobody (new_root 1) epoch f

abbrev pub made_as : History → ℕ → History
made_as past f = performed past create f (reply.Create (Ok (made (new f))))

abbrev pub removed : History → History
removed past = performed past remove 0 (reply.Remove status.Ok no_wcc)

-- The name can be made again, with another fileid, but not with that of the removed file.
abbrev pub NamesComeAndGo : Type 0
NamesComeAndGo = Legal start (removed (made_as (removed (made_as welcomed 2)) 3)) × (Legal start (made_as (removed (made_as welcomed 2)) 2) → ⊥)

-- ---- a byte is written and read

abbrev pub written_then_read : List ℕ → History
written_then_read bytes =
    turn event.Tick (Replied 5 6 (answers (reply.Read (Ok (record { attributes = Some (attributes sized); count = 1; eof = true; bytes = bytes })))) ∷ [])
    ∷ turn (event.Call 0 (asks (read 0))) []
    ∷ performed welcomed (write 0 stable.Unstable) 0 (reply.Write (Ok (record { wcc = wcc_of sized; count = 1; committed = stable.Unstable; verifier = fence })))

-- READ gives the byte that was written, though it isn't stable yet, and no other.
abbrev pub BytesAreToldApart : Type 0
BytesAreToldApart = Legal filed (written_then_read (120 ∷ [])) × (Legal filed (written_then_read (121 ∷ [])) → ⊥)
