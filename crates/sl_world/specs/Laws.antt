-- The laws on steps, events and histories.
use Rattle.std.specs.Prelude.{◌≡◌, ℕ, ◌+◌, List, [], ◌∷◌, Some, Result, Ok, Err, true, false, nat_le}
use Rattle.std.specs.FinMap as map
use Rattle.sl_defs.specs.declared.setup.Setup.{Setup}
use Rattle.sl_defs.specs.declared.event.Event.{Event}
use Rattle.sl_defs.specs.declared.event.Event.TheVariants as event
use Rattle.sl_types.specs.declared.attributes.Fattr.{Fattr}
use Rattle.sl_types.specs.declared.cred.Cred.{Cred}
use Rattle.sl_types.specs.declared.call.Call.TheVariants as call
use Rattle.sl_types.specs.declared.kind.Status.{Status}
use Rattle.sl_types.specs.declared.reply.Reply.TheVariants as reply
use Rattle.sl_frames.specs.Actors.{is_data}
use Rattle.sl_frames.specs.declared.frame.Frame.{Frame}
use Rattle.sl_frames.specs.declared.body.Body.TheVariants as body
use Rattle.sl_history.specs.Turns.{Remark, History, Sent}
use Rattle.sl_history.specs.Turns as note
use Rattle.sl_history.specs.Arrivals.{IsAsked, datagram, most_waiting}
use Rattle.sl_history.specs.Placing.{object_server}
use Rattle.sl_machine.specs.Packets.{reply_in}
use Rattle.sl_machine.specs.Proxies.{hello}
use Rattle.sl_world.specs.declared.coordinator.Coordinator.{Coordinator}
use Rattle.sl_world.specs.declared.directory.Directory.{Directory}
use Rattle.sl_world.specs.declared.flight.Flying.{Flying}
use Rattle.sl_world.specs.declared.look.Look.{Look}
use Rattle.sl_world.specs.declared.proxy.Proxy.{Proxy}
use Rattle.sl_world.specs.declared.step.Step.{Step}
use Rattle.sl_world.specs.declared.world.World.{World}
use Rattle.sl_world.specs.Coordinating.{GivesStep}
use Rattle.sl_world.specs.Serving.{Serves, GivesAnswer, forwarded}
use Rattle.sl_world.specs.Proxying.{IsAdmitted, IsOutFor, GivesArrival, GivesUse, frame_of, is_passing, reply_note, target, with_look, without}
use Rattle.sl_world.specs.Worlds.{Follows, GoesOn, IsSmall, begun, first_fence, landed, opened, opening, remarks, sending, turn}

-- ---- the proxy

abbrev pub CallsArePassedOn : Type 0
CallsArePassedOn =
    (p now : Proxy) (n : ℕ) (l : Look) (step : Step) → IsAdmitted p l.packet l.xid l.cred l.handle → l.tag ≡ p.next_tag → l.to ≡ object_server p.setup l.handle.fileid
    → step.frames ≡ frame_of (with_look p n l) n l ∷ [] → step.notes ≡ [] → now ≡ with_look p n l → GivesArrival p now n l.client l.packet (Ok step)

abbrev pub CallsAreRefused : Type 0
CallsAreRefused =
    (p now : Proxy) (n client xid : ℕ) (cred : Cred) (bytes object : List ℕ) (t : Status) (step : Step) → p.welcomed ≡ true → nat_le most_waiting (map.len p.pending) ≡ false
    → datagram bytes ≡ IsAsked (record { xid = xid; procedure = 1; call = call.Getattr object; cred = cred }) → target p.setup object ≡ Err t
    → step.frames ≡ [] → step.notes ≡ reply_note n n xid (Err t) ∷ [] → now ≡ without p n → GivesArrival p now n client bytes (Ok step)

abbrev pub WelcomesAreUsed : Type 0
WelcomesAreUsed =
    (p now : Proxy) (f : Frame) (e : ℕ) (step : Step) → f.«body» ≡ body.Welcome → f.fence ≡ p.fence → f.from ≡ 1 → p.welcomed ≡ false
    → step.frames ≡ [] → step.notes ≡ note.Verf p.fence ∷ [] → now ≡ record p { welcomed = true } → GivesUse p now f e (Ok step)

abbrev pub AnswersAreUsed : Type 0
AnswersAreUsed =
    (p now : Proxy) (f : Frame) (e k : ℕ) (r : Result Fattr Status) (packet : List ℕ) (step : Step) (out : IsOutFor p.pending f.from f.tag k) → f.«body» ≡ body.Packet packet
    → f.fence ≡ p.fence → is_data f.from ≡ false → reply_in 1 packet ≡ Some (reply.Getattr r) → is_passing r ≡ true
    → step.frames ≡ [] → step.notes ≡ reply_note k e out.look.xid r ∷ [] → now ≡ without p k → GivesUse p now f e (Ok step)

-- ---- the directory server

abbrev pub PacketsAreAnswered : Type 0
PacketsAreAnswered = (d new : Directory) (f : Frame) (step : Step) → Serves d new f (forwarded f.«body») (Ok step) → GivesAnswer d new f (Ok step)

-- ---- events

abbrev pub ArrivalsGoOn : Type 0
ArrivalsGoOn =
    (v v' : World) (p : Proxy) (client : ℕ) (bytes : List ℕ) (step : Step) → GivesArrival v.proxy p (v.event + 1) client bytes (Ok step)
    → v' ≡ sending step.frames (record (begun v) { proxy = p }) → GoesOn v v' (event.Call client bytes) (remarks v step.frames step.notes)

abbrev pub ProxiesGoOn : Type 0
ProxiesGoOn =
    (v v' : World) (p : Proxy) (k : ℕ) (f : Flying) (step : Step) → map.get v.flight k ≡ Some f → f.frame.to ≡ 0 → GivesUse v.proxy p f.frame f.event (Ok step)
    → v' ≡ sending step.frames (record (landed (begun v) k) { proxy = p }) → GoesOn v v' (event.Give k) (remarks v step.frames step.notes)

abbrev pub CoordinatorsGoOn : Type 0
CoordinatorsGoOn =
    (v v' : World) (c : Coordinator) (k : ℕ) (f : Flying) (step : Step) → map.get v.flight k ≡ Some f → f.frame.to ≡ 1 → GivesStep v.coordinator c f.frame (Ok step)
    → v' ≡ sending step.frames (record (landed (begun v) k) { coordinator = c }) → GoesOn v v' (event.Give k) (remarks v step.frames step.notes)

abbrev pub DirectoriesGoOn : Type 0
DirectoriesGoOn =
    (v v' : World) (d : Directory) (k : ℕ) (f : Flying) (step : Step) → map.get v.flight k ≡ Some f → f.frame.to ≡ v.directory.actor → GivesAnswer v.directory d f.frame (Ok step)
    → v' ≡ sending step.frames (record (landed (begun v) k) { directory = d }) → GoesOn v v' (event.Give k) (remarks v step.frames step.notes)

-- ---- histories

abbrev pub HistoriesGoOn : Type 0
HistoriesGoOn = (v v' : World) (e : Event) (rs : List Remark) → GoesOn v v' e rs → (h : History) → Follows v h → Follows v' (turn v e rs ∷ h)

abbrev pub OpeningsAreFollowed : Type 0
OpeningsAreFollowed = (s : Setup) → IsSmall s → Follows (opened s) (opening s (Sent 1 (hello first_fence) ∷ []) ∷ [])
