-- Two fences of the proxy.
use Rattle.std.specs.Prelude.{ℕ, [], ◌∷◌}
use Rattle.sl_defs.specs.declared.event.Event.TheVariants as event
use Rattle.sl_frames.specs.declared.body.Body.TheVariants as body
use Rattle.sl_history.specs.Turns.{Remark, Sent, Did, Flush, Verf, Replied, History}
use Rattle.sl_history.specs.Legal.{no_choice}
use Rattle.sl_history.specs.Fenced.{Fenced}
use Rattle.sl_examples.specs.Histories.{epoch, turn, greeting, welcomed}
use Rattle.sl_refusals.specs.Packets.{asks, look_at_root, commit}
use Rattle.sl_refusals.specs.Frames.{request, flush}

-- the proxy stops, starts, and is welcomed under its next fence
abbrev pub next_fence : ℕ
next_fence = 8589934592

abbrev pub restarted : ℕ → History → History
restarted k past =
    turn (event.Give k) (Verf next_fence ∷ [])
    ∷ turn (event.Give 4) (Sent k (record (greeting 1 0 body.Welcome) { fence = next_fence }) ∷ [])
    ∷ turn (event.Start 0) (Sent 4 (record (greeting 0 1 body.Hello) { fence = next_fence }) ∷ []) ∷ turn (event.Stop 0 0) [] ∷ past

-- ---- a flush that was asked for before

abbrev pub asked_to_flush : History
asked_to_flush = turn (event.Call 0 (asks commit)) (Sent 3 (request 1 1 3 flush) ∷ []) ∷ welcomed

abbrev pub notes : Remark → History → History
notes r past = turn (event.Give 3) (r ∷ []) ∷ past

abbrev pub effect : Remark
effect = Did 3 epoch no_choice

-- The coordinator does what was asked for under a fence, until the write verifier of the next one stands.
abbrev pub FencesAreToldApart : Type 0
FencesAreToldApart =
    Fenced (notes (Flush 2) asked_to_flush) × Fenced (notes effect asked_to_flush) × (Fenced (notes (Flush 2) (restarted 5 asked_to_flush)) → ⊥)
    × (Fenced (notes effect (restarted 5 asked_to_flush)) → ⊥)

-- ---- a call that came before

abbrev pub asked_before : History
asked_before = turn (event.Call 0 (asks look_at_root)) (Sent 3 (request 16 1 3 (body.Forward 0 (asks look_at_root))) ∷ []) ∷ welcomed

abbrev pub replies : History → History
replies past = turn event.Tick (Replied 3 3 [] ∷ []) ∷ past

-- A call is replied until the next write verifier stands, and not after it.
abbrev pub OldCallsAreToldApart : Type 0
OldCallsAreToldApart = Fenced (replies asked_before) × (Fenced (replies (restarted 5 asked_before)) → ⊥)
