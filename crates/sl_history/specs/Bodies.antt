-- Which kind the body of a frame is.
use Rattle.std.specs.Prelude.{Bool, true, false}
use Rattle.sl_frames.specs.declared.body.Body.{Body}
use Rattle.sl_frames.specs.declared.body.Body.TheVariants as body

abbrev pub is_hello : Body → Bool
is_hello body.Hello = true
is_hello other = false

abbrev pub is_welcome : Body → Bool
is_welcome body.Welcome = true
is_welcome other = false

abbrev pub is_forward : Body → Bool
is_forward (body.Forward chosen packet) = true
is_forward other = false

abbrev pub is_packet : Body → Bool
is_packet (body.Packet packet) = true
is_packet other = false

abbrev pub is_found : Body → Bool
is_found (body.Found cells) = true
is_found other = false

abbrev pub is_listed : Body → Bool
is_listed (body.Listed cells more) = true
is_listed other = false

abbrev pub is_minted : Body → Bool
is_minted (body.Minted fileid) = true
is_minted other = false

abbrev pub is_decided : Body → Bool
is_decided (body.Decided done) = true
is_decided other = false

abbrev pub is_grant : Body → Bool
is_grant body.Grant = true
is_grant other = false

abbrev pub is_refuse : Body → Bool
is_refuse body.Refuse = true
is_refuse other = false

abbrev pub is_ack : Body → Bool
is_ack body.Ack = true
is_ack other = false
