-- The packets that the proxy is given, and the bytes of a READ.
use Rattle.std.proofs.Common.{◌≡◌, ℕ, Bool, true, false, List, Option, Some, None, refl, ap, sym, ◌∙◌}
use Rattle.std.specs.Prelude.{◌==◌, ◌&&◌, if◌then◌else◌, option_and_then, option_map}
use Rattle.std.proofs.lemmas.Bool.{eq-eqb, eqb-true}
use Rattle.sl_defs.specs.declared.setup.Setup.{Setup}
use Rattle.sl_frames.specs.Actors.{is_proxy}
use Rattle.sl_frames.specs.declared.frame.Frame.{Frame}
use Rattle.sl_frames.specs.declared.body.Body.{Body}
use Rattle.sl_frames.specs.declared.body.Body.TheVariants as body
use Rattle.sl_history.specs.Turns.{Turn, History}
use Rattle.sl_history.specs.Licensed.{reaches, request}
use Rattle.sl_history.specs.Placing.{byte_server}
use Rattle.sl_history.specs.Wired.{IsPacketFor, IsRead, IsServedBy, given_event, read_bytes, results_of}
use Rattle.sl_wiring.specs.Dockets.{answered_by, arrival_of}
use Rattle.sl_wiring.specs.Served.{packet_from, packet_in, served_by}

pub some_is : {A : Type 0} → (x y : A) → Some x ≡ Some y → x ≡ y
some_is x y e = ap (λ o. elim o [ None ↦ x | Some z ↦ z ]) e

packet_is : (b : Body) (packet : List ℕ) → packet_in b ≡ Some packet → b ≡ body.Packet packet
packet_is (body.Packet p) packet e = ap body.Packet (some_is p packet e)
packet_is body.Hello packet e = cc
packet_is body.Welcome packet e = cc
packet_is (body.Forward c p) packet e = cc
packet_is (body.Ask k) packet e = cc
packet_is (body.Found cs) packet e = cc
packet_is (body.List d k l) packet e = cc
packet_is (body.Listed cs m) packet e = cc
packet_is (body.Mint s) packet e = cc
packet_is (body.Minted f) packet e = cc
packet_is (body.Intent i) packet e = cc
packet_is (body.Decided d) packet e = cc
packet_is (body.Lock w) packet e = cc
packet_is body.Grant packet e = cc
packet_is body.Refuse packet e = cc
packet_is body.Apply packet e = cc
packet_is body.Release packet e = cc
packet_is body.Ack packet e = cc

-- what a frame says that it is from a server to the proxy
pub record IsFrom (f : Frame) (server : ℕ) (packet : List ℕ) : Type 0 where
  pub receiver : is_proxy f.to ≡ true
  pub sender : f.from ≡ server
  pub gives : f.body ≡ body.Packet packet

from_by : (f : Frame) (server : ℕ) (packet : List ℕ) (a b : Bool) → is_proxy f.to ≡ a → (f.from == server) ≡ b → (if a && b then packet_in f.body else None) ≡ Some packet → IsFrom f server packet
from_by f server packet true true to sender e = record { receiver = to; sender = eqb-true f.from server sender; gives = packet_is f.body packet e }
from_by f server packet true false to sender e = cc
from_by f server packet false b to sender e = cc

is_from : (f : Frame) (server : ℕ) (packet : List ℕ) → packet_from f server ≡ Some packet → IsFrom f server packet
is_from f server packet e = from_by f server packet (is_proxy f.to) (f.from == server) refl refl e

served_of : (past : History) (t : Turn) (server : ℕ) (packet : List ℕ) (o : Option Frame) → reaches past t ≡ o → option_and_then (λ f. packet_from f server) o ≡ Some packet → IsServedBy past t server packet
served_of past t server packet None reach e = cc
served_of past t server packet (Some f) reach e =
    let from = is_from f server packet e in
    record { answer = f; given = reach; receiver = from.receiver; sender = from.sender; gives = from.gives }

pub is_served : (past : History) (t : Turn) (server : ℕ) (packet : List ℕ) → served_by past t server ≡ Some packet → IsServedBy past t server packet
is_served past t server packet e = served_of past t server packet (reaches past t) refl e

pub was_served : (past : History) (t : Turn) (server : ℕ) (packet : List ℕ) → IsServedBy past t server packet → served_by past t server ≡ Some packet
was_served past t server packet is =
    ap (option_and_then (λ f. packet_from f server)) is.given ∙ ap (λ b. if b && is.answer.from == server then packet_in is.answer.body else None) is.receiver
    ∙ ap (λ b. if b then packet_in is.answer.body else None) (eq-eqb is.answer.from server is.sender) ∙ ap packet_in is.gives

-- ---- the answer to a call's request

answered_asking : (past : History) (f : Frame) (n : ℕ) (o : Option Frame) → request past f.fence f.tag ≡ o → option_map arrival_of o ≡ Some n → (asking : Frame) × ((request past f.fence f.tag ≡ Some asking) × (asking.arrival ≡ n))
answered_asking past f n None is e = cc
answered_asking past f n (Some asking) is e = (asking, (is, some_is asking.arrival n e))

pub packet_for : (setup : Setup) (past : History) (t : Turn) (n f offset : ℕ) (packet : List ℕ) (answered : Option ℕ) → served_by past t (byte_server setup f offset) ≡ Some packet
    → answered ≡ answered_by past (reaches past t) → answered ≡ Some n → IsPacketFor setup past t n f offset
packet_for setup past t n f offset packet answered served is same =
    let by = is_served past t (byte_server setup f offset) packet served in
    let asking = answered_asking past by.answer n (request past by.answer.fence by.answer.tag) refl (sym (ap (answered_by past) by.given) ∙ sym is ∙ same) in
    record { packet = packet; served = by; asking = asking.0; is = asking.1.0; arrival = asking.1.1 }

pub served_for : (setup : Setup) (past : History) (t : Turn) (n f offset : ℕ) (is : IsPacketFor setup past t n f offset) → served_by past t (byte_server setup f offset) ≡ Some is.packet
served_for setup past t n f offset is = was_served past t (byte_server setup f offset) is.packet is.served

pub answered_for : (setup : Setup) (past : History) (t : Turn) (n f offset : ℕ) (answered : Option ℕ) → answered ≡ answered_by past (reaches past t) → IsPacketFor setup past t n f offset → answered ≡ Some n
answered_for setup past t n f offset answered is for =
    is ∙ ap (answered_by past) for.served.given ∙ ap (option_map arrival_of) for.is ∙ ap (λ (k : ℕ). Some k) for.arrival

-- ---- the bytes of a READ

pub is_read : (setup : Setup) (past : History) (t : Turn) (n e file offset server : ℕ) (bytes packet : List ℕ) (answered : Option ℕ) → server ≡ byte_server setup file offset
    → served_by past t server ≡ Some packet → answered ≡ answered_by past (reaches past t) → answered ≡ Some n → given_event past t.happening ≡ Some e → read_bytes (results_of 6 packet) ≡ Some bytes
    → IsRead setup past t n e file offset bytes
is_read setup past t n e file offset server bytes packet answered at served is this sent same = record {
  answer = for;
  sent = sent;
  same = ap (λ p. read_bytes (results_of 6 p)) (some_is for.packet packet (sym (served_for setup past t n file offset for) ∙ here)) ∙ same;
}
  where
    here : served_by past t (byte_server setup file offset) ≡ Some packet
    here = ap (served_by past t) (sym at) ∙ served

    for : IsPacketFor setup past t n file offset
    for = packet_for setup past t n file offset packet answered here is this

pub read_from : (setup : Setup) (past : History) (t : Turn) (n e file offset server : ℕ) (bytes : List ℕ) → server ≡ byte_server setup file offset → (is : IsRead setup past t n e file offset bytes)
    → served_by past t server ≡ Some is.answer.packet
read_from setup past t n e file offset server bytes at is = ap (served_by past t) at ∙ served_for setup past t n file offset is.answer
