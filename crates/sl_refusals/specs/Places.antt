-- Where an effect stands.
use Rattle.std.specs.Prelude.{ℕ, [], ◌∷◌, None, false}
use Rattle.sl_defs.specs.Histories.{Opens}
use Rattle.sl_defs.specs.declared.setup.Setup.{Setup}
use Rattle.sl_defs.specs.declared.event.Event.TheVariants as event
use Rattle.sl_cells.specs.declared.cells.AttrCell.{AttrCell}
use Rattle.sl_cells.specs.declared.changes.Change.TheVariants as change
use Rattle.sl_frames.specs.declared.body.Body.{Body}
use Rattle.sl_frames.specs.declared.body.Body.TheVariants as body
use Rattle.sl_frames.specs.declared.intent.What.TheVariants as what
use Rattle.sl_frames.specs.declared.work.Work.TheVariants as work
use Rattle.sl_model.specs.Looking.{attributes}
use Rattle.sl_history.specs.Turns.{Sent, Did, Verf, Turn, History}
use Rattle.sl_history.specs.Legal.{no_choice}
use Rattle.sl_history.specs.Wired.{Wired}
use Rattle.sl_examples.specs.Histories.{setup, start, epoch, fence, turn, opening, greeting, welcomed}
use Rattle.sl_refusals.specs.Packets.{call_packet, asks, create, change_root}
use Rattle.sl_refusals.specs.Answers.{changed_root}
use Rattle.sl_refusals.specs.Frames.{request}

-- ---- a volume with two directory servers, of which the first has the root

abbrev pub wide : Setup
wide = record setup { dirs = 2 }

abbrev pub welcomed_wide : History
welcomed_wide = turn (event.Give 2) (Verf fence ∷ []) ∷ turn (event.Give 1) (Sent 2 (greeting 1 0 body.Welcome) ∷ []) ∷ record opening { happening = Opens wide } ∷ []

-- a request for a change of the root's mode is sent
abbrev pub asked_of : ℕ → Body → History
asked_of to b = turn (event.Call 0 (asks change_root)) (Sent 3 (request to 1 3 b) ∷ []) ∷ welcomed_wide

-- and who is given it notes the effect
abbrev pub noted : Turn
noted = turn (event.Give 3) (Did 3 epoch no_choice ∷ [])

abbrev pub changed_by : ℕ → Body → History
changed_by to b = noted ∷ asked_of to b

-- the server is down as the request is given to it
abbrev pub changed_down : Body → History
changed_down b = noted ∷ turn (event.Stop 16 0) [] ∷ asked_of 16 b

abbrev pub forwarded : Body
forwarded = body.Forward 0 (call_packet 1 change_root)

abbrev pub changed_cell : AttrCell
changed_cell = record { attributes = attributes changed_root; parent = 1; entries = 0; made = 0; verifier = None; link = [] }

abbrev pub intended : Body
intended = body.Intent (record {
  moment = epoch;
  what = what.Call 0 false;
  parts = record { actor = 16; boot = 0; work = work.Change (change.PutAttr changed_cell ∷ []) } ∷ [];
})

-- An effect is noted by the directory server that has all of it, while it is up; not by another, nor by a data server; and
-- not by the coordinator where nothing was granted.
abbrev pub PlacesAreToldApart : Type 0
PlacesAreToldApart =
    Wired wide start (changed_by 16 forwarded) × (Wired wide start (changed_by 17 forwarded) → ⊥) × (Wired wide start (changed_by 32 forwarded) → ⊥)
    × (Wired wide start (changed_by 1 intended) → ⊥) × (Wired wide start (changed_down forwarded) → ⊥)

-- ---- a file is made in the root, whose site is 0

abbrev pub made_as : ℕ → History
made_as f =
    turn (event.Give 3) (Did 3 epoch (record no_choice { fileid = f }) ∷ [])
    ∷ turn (event.Call 0 (asks create)) (Sent 3 (request 16 1 3 (body.Forward f (call_packet 1 create))) ∷ []) ∷ welcomed

-- the second fileid of site 1
abbrev pub of_another_site : ℕ
of_another_site = 1099511627778

-- Its fileid is of the site of its directory.
abbrev pub SitesAreToldApart : Type 0
SitesAreToldApart = Wired setup start (made_as 2) × (Wired setup start (made_as of_another_site) → ⊥)
