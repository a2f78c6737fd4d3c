-- On which servers it stands what differs between two volumes.
use Rattle.std.specs.Prelude.{◌≡◌, ◌↔◌, ◌⊎◌, ℕ, List, Option, Some, None, Bool, false, map, if◌then◌else◌, option_and_then}
use Rattle.std.specs.List.{Contains}
use Rattle.sl_defs.specs.declared.setup.Setup.{Setup}
use Rattle.sl_types.specs.declared.call.Call.{Call}
use Rattle.sl_types.specs.declared.call.Call.TheVariants as call
use Rattle.sl_types.specs.Handles.{handle_of}
use Rattle.sl_frames.specs.Actors.{is_directory}
use Rattle.sl_model.specs.Plan.{Key}
use Rattle.sl_model.specs.Volume.{Volume}
use Rattle.sl_history.specs.Arrivals.{fileid_of}
use Rattle.sl_history.specs.Placing.{byte_server, key_server}
use Rattle.sl_history.specs.Wired.{Differs, DiffersAt}

-- a cell that differs lies with this server
pub record HasCell (setup : Setup) (v w : Volume) (server : ℕ) : Type 0 where
  pub key : Key
  pub differs : Differs v w key
  pub lies : key_server setup key ≡ server

-- a stable byte that differs lies with it
pub record HasByte (setup : Setup) (v w : Volume) (server : ℕ) : Type 0 where
  pub file : ℕ
  pub offset : ℕ
  pub differs : DiffersAt v w file offset
  pub lies : byte_server setup file offset ≡ server

-- the servers are those of all cells and stable bytes that differ
abbrev pub AreServersOf : Setup → Volume → Volume → List ℕ → Type 0
AreServersOf setup v w servers = (server : ℕ) → Contains servers server ↔ (HasCell setup v w server ⊎ HasByte setup v w server)

-- the servers of these things come to the old ones
abbrev pub AddsServers : {A : Type 0} → List ℕ → List ℕ → (A → ℕ) → List A → Type 0
AddsServers old new server_of xs = (server : ℕ) → Contains new server ↔ (Contains old server ⊎ Contains (map server_of xs) server)

-- the file and the offset of a WRITE that isn't kept
abbrev pub unkept_write : Bool → Call → Option (ℕ × ℕ)
unkept_write false (call.Write file offset count stability bytes) = Some (fileid_of (handle_of file), offset)
unkept_write kept other = None

-- the directory server among the actors whose event it may be
abbrev pub directory_if : ℕ → Option ℕ
directory_if a = if is_directory a then Some a else None

abbrev pub directory_in : Option ℕ → Option ℕ
directory_in actor = option_and_then directory_if actor
