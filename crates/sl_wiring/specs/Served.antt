-- The packet that the proxy is given of a server.
use Rattle.std.specs.Prelude.{ℕ, ◌==◌, ◌&&◌, List, Option, Some, None, if◌then◌else◌, option_and_then}
use Rattle.sl_frames.specs.Actors.{is_proxy}
use Rattle.sl_frames.specs.declared.frame.Frame.{Frame}
use Rattle.sl_frames.specs.declared.body.Body.{Body}
use Rattle.sl_frames.specs.declared.body.Body.TheVariants as body
use Rattle.sl_history.specs.Turns.{Turn, History}
use Rattle.sl_history.specs.Licensed.{reaches}

abbrev pub packet_in : Body → Option (List ℕ)
packet_in (body.Packet packet) = Some packet
packet_in other = None

-- the packet that a frame brings the proxy from this server
abbrev pub packet_from : Frame → ℕ → Option (List ℕ)
packet_from f server = if is_proxy f.to && f.from == server then packet_in f.body else None

-- and the frame that the turn gives
abbrev pub served_by : History → Turn → ℕ → Option (List ℕ)
served_by past t server = option_and_then (λ f. packet_from f server) (reaches past t)
