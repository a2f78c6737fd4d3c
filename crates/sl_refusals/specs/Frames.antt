-- Frames under the first fence.
use Rattle.std.specs.Prelude.{ℕ, [], ◌∷◌, None, false}
use Rattle.sl_frames.specs.declared.frame.Frame.{Frame}
use Rattle.sl_frames.specs.declared.body.Body.{Body}
use Rattle.sl_frames.specs.declared.body.Body.TheVariants as body
use Rattle.sl_frames.specs.declared.intent.What.TheVariants as what
use Rattle.sl_frames.specs.declared.work.Work.{Work}
use Rattle.sl_frames.specs.declared.work.Work.TheVariants as work
use Rattle.sl_cells.specs.declared.cells.AttrCell.{AttrCell}
use Rattle.sl_cells.specs.declared.changes.Change.TheVariants as change
use Rattle.sl_model.specs.Looking.{attributes}
use Rattle.sl_examples.specs.Histories.{epoch, fence}
use Rattle.sl_refusals.specs.Answers.{sized}

-- a request of the proxy for the call of an event, and the answer of a server
abbrev pub request : ℕ → ℕ → ℕ → Body → Frame
request to tag arrival b = record { from = 0; to = to; fence = fence; tag = tag; low = tag; op = 0; boot = 0; arrival = arrival; «body» = b }

abbrev pub answer : ℕ → ℕ → Body → Frame
answer from tag b = record { from = from; to = 0; fence = fence; tag = tag; low = 0; op = 0; boot = 0; arrival = 0; «body» = b }

-- what the coordinator asks of a server for an operation, and the server's answer
abbrev pub order : ℕ → ℕ → Body → Frame
order op to b = record { from = 1; to = to; fence = fence; tag = 0; low = 0; op = op; boot = 0; arrival = 0; «body» = b }

abbrev pub reports : ℕ → ℕ → Body → Frame
reports op from b = record { from = from; to = 1; fence = fence; tag = 0; low = 0; op = op; boot = 0; arrival = 0; «body» = b }

-- ---- the flush of the file: its attributes lie with server 16, and its byte with server 32

abbrev pub sized_cell : AttrCell
sized_cell = record { attributes = attributes sized; parent = 0; entries = 0; made = 0; verifier = None; link = [] }

abbrev pub put_attributes : Work
put_attributes = work.Change (change.PutAttr sized_cell ∷ [])

abbrev pub keep_bytes : Work
keep_bytes = work.Keep 2 []

abbrev pub flush : Body
flush = body.Intent (record {
  moment = epoch;
  what = what.Flush 2;
  parts = record { actor = 16; boot = 0; work = put_attributes } ∷ record { actor = 32; boot = 0; work = keep_bytes } ∷ [];
})

-- ---- another operation on the file's attributes

abbrev pub intent : Body
intent = body.Intent (record { moment = epoch; what = what.Call 0 false; parts = record { actor = 16; boot = 0; work = put_attributes } ∷ [] })
