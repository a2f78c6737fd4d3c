-- Each segment of the proxy is proper.
use Rattle.std.proofs.Common.{◌≡◌, ℕ, ◌&&◌, List, [], ◌∷◌, ◌++◌, Option, Some, None, refl, sym, subst, not}
use Rattle.std.specs.Prelude.{nat_le}
use Rattle.std.specs.FinMap as map
use Rattle.sl_defs.specs.declared.note.Choice.{Choice}
use Rattle.sl_defs.specs.declared.setup.Time.{Time}
use Rattle.sl_types.specs.declared.reply.Reply.{Reply}
use Rattle.sl_frames.specs.declared.frame.Frame.{Frame}
use Rattle.sl_frames.specs.declared.body.Body.{Body}
use Rattle.sl_frames.specs.declared.body.Body.TheVariants as body
use Rattle.sl_frames.specs.declared.intent.What.{What}
use Rattle.sl_frames.specs.declared.intent.What.TheVariants as what
use Rattle.sl_frames.specs.Actors.{is_data}
use Rattle.sl_history.specs.Turns.{Remark}
use Rattle.sl_history.specs.Turns as note
use Rattle.sl_history.specs.Arrivals.{Asked, Datagram, IsJunk, IsAnswered, IsAsked, datagram, answer_to, is_changing, most_waiting}
use Rattle.sl_history.specs.Legal.{no_choice}
use Rattle.sl_machine.specs.Memory.{Hold, Request, Waiting, Proxy, Actor, are_free}
use Rattle.sl_machine.specs.World.{Scene, Task, Goes, Wakes, Segment}
use Rattle.sl_machine.specs.Packets.{reply_in}
use Rattle.sl_machine.specs.Wants.{Want, Lock, Recall, FlushFirst, AskFor, ListFrom, MintAt, ForwardLook, ForwardRead, ForwardWrite, ForwardEffect, Operate, Answer, Mark, wants, knowing, effect_with}
use Rattle.sl_machine.specs.Proxies.{still, notes, with_call, without_call, waiting_for, answered, is_full_now, has_no_place, written_attributes, writes_to, is_read, ends_read, ends_write, ends_effect, ends_look, arrives, takes, asks, answers_as, locks, does_want, first_ready, wakes, ends_operation, by_packet, by_packet_if, by_answer, boots_by, frame_again, frames_again, Opens, ProxyRow, IsTaken, IsGoing, IsWaking, IsUsed, IsRenewed, IsGreeted, IsIgnored, IsSentAgain}
use Rattle.sl_transport.proofs.Proper.{Plain, Each, Proper, either, each_either, each_both}

module _ (S : Frame → Type 0) (own : (f : Frame) → f.from ≡ 0 → S f) where
  stays : (p : Proxy) (todo : List Task) → Proper S (still p todo)
  stays p todo = record { notes = tt; frames = tt; memory = tt }

  noted : (p : Proxy) (rs : List Remark) (todo : List Task) → Plain rs → Proper S (notes p rs todo)
  noted p rs todo plain = record { notes = plain; frames = tt; memory = tt }

  takes_proper : (p : Proxy) (n client : ℕ) (bytes : List ℕ) (a : Asked) → Proper S (takes p n client bytes a)
  takes_proper p n client bytes a =
      either (not p.welcomed) (noted p (note.Early n ∷ []) [] tt)
      (either (nat_le most_waiting (map.len p.pending)) (noted p (note.Full n ∷ []) [] tt) (stays (with_call n (waiting_for client bytes a) p) (Goes n ∷ [])))

  arrives_proper : (p : Proxy) (n client : ℕ) (bytes : List ℕ) (d : Datagram) → Proper S (arrives p n client bytes d)
  arrives_proper p n client bytes IsJunk = record { notes = tt; frames = tt; memory = tt }
  arrives_proper p n client bytes (IsAnswered answer) = record { notes = tt; frames = tt; memory = tt }
  arrives_proper p n client bytes (IsAsked a) = takes_proper p n client bytes a

  asks_proper : (p : Proxy) (n : ℕ) (w : Waiting) (r : Request) → Proper S (asks p n w r)
  asks_proper p n w r = record { notes = tt; frames = (own _ refl, tt); memory = tt }

  answers_proper : (x : Scene) (p : Proxy) (n : ℕ) (w : Waiting) (r : Reply) (mark : Mark) (did : Option Choice) → Proper S (answers_as x p n w r mark did)
  answers_proper x p n w r mark None = record { notes = tt; frames = tt; memory = tt }
  answers_proper x p n w r mark (Some choice) = record { notes = tt; frames = tt; memory = tt }

  locks_proper : (p : Proxy) (n : ℕ) (w : Waiting) (holds : List Hold) → Proper S (locks p n w holds)
  locks_proper p n w holds =
      either (are_free p.pending n holds) (stays (with_call n (record w { held = w.held ++ holds; awaits = [] }) p) (Goes n ∷ []))
      (stays (with_call n (record w { awaits = holds }) p) [])

  wants_proper : (x : Scene) (p : Proxy) (n : ℕ) (w : Waiting) (want : Want) → Proper S (does_want x p n w want)
  wants_proper x p n w (Lock holds) = locks_proper p n w holds
  wants_proper x p n w (Recall f) = record { notes = tt; frames = tt; memory = tt }
  wants_proper x p n w (FlushFirst f) = asks_proper p n w _
  wants_proper x p n w (AskFor server ks) = asks_proper p n w _
  wants_proper x p n w (ListFrom server d cookie limit) = asks_proper p n w _
  wants_proper x p n w (MintAt site) = asks_proper p n w _
  wants_proper x p n w (ForwardLook server) = asks_proper p n w _
  wants_proper x p n w (ForwardRead server count) = asks_proper p n w _
  wants_proper x p n w (ForwardWrite server count) = asks_proper p n w _
  wants_proper x p n w (ForwardEffect server chosen) = asks_proper p n w _
  wants_proper x p n w (Operate choice parts) = asks_proper p n w _
  wants_proper x p n w (Answer e) = answers_proper x p n w e.answer e.mark e.did

  wakes_proper : (p : Proxy) (o : Option (ℕ × Waiting)) → Proper S (wakes p o)
  wakes_proper p None = record { notes = tt; frames = tt; memory = tt }
  wakes_proper p (Some c) = record { notes = tt; frames = tt; memory = tt }

  operations_proper : (x : Scene) (p : Proxy) (n : ℕ) (w : Waiting) (at : Time) (o : What) (e : ℕ) → Proper S (ends_operation x p n w at o e)
  operations_proper x p n w at (what.Flush f) e = record { notes = tt; frames = tt; memory = tt }
  operations_proper x p n w at (what.Call chosen kept) e = record { notes = tt; frames = tt; memory = tt }

  reads_proper : (x : Scene) (p : Proxy) (n : ℕ) (w : Waiting) (e : ℕ) (r : Reply) → Proper S (ends_read x p n w e r)
  reads_proper x p n w e r = record { notes = tt; frames = tt; memory = tt }

  writes_proper : (x : Scene) (p : Proxy) (n : ℕ) (w : Waiting) (e server : ℕ) (r : Reply) → Proper S (ends_write x p n w e server r)
  writes_proper x p n w e server r =
      either (has_no_place p.soft (written_attributes r)) (stays (with_call n (answered w e (is_full_now w.told)) p) (Goes n ∷ []))
      (noted (record (without_call n p) { soft = writes_to (written_attributes r) server p.soft }) (note.Did n x.moment no_choice ∷ note.Replied n x.event (answer_to w.asked r) ∷ []) (Wakes ∷ []) tt)

  effects_proper : (x : Scene) (p : Proxy) (n : ℕ) (w : Waiting) (r : Reply) → Proper S (ends_effect x p n w r)
  effects_proper x p n w r = record { notes = tt; frames = tt; memory = tt }

  looks_proper : (x : Scene) (p : Proxy) (n : ℕ) (w : Waiting) (e : ℕ) (r : Reply) → Proper S (ends_look x p n w e r)
  looks_proper x p n w e r = record { notes = tt; frames = tt; memory = tt }

  packets_proper : (x : Scene) (p : Proxy) (n : ℕ) (w : Waiting) (e server : ℕ) (r : Reply) → Proper S (by_packet x p n w e server r)
  packets_proper x p n w e server r =
      either (is_data server && is_read w.asked.call) (reads_proper x p n w e r)
      (either (is_data server) (writes_proper x p n w e server (effect_with (knowing x.setup p x.moment w) no_choice).answer)
      (either (is_changing w.asked.call) (effects_proper x p n w r) (looks_proper x p n w e r)))

  packets_if_proper : (x : Scene) (p : Proxy) (n : ℕ) (w : Waiting) (e server : ℕ) (o : Option Reply) → Proper S (by_packet_if x p n w e server o)
  packets_if_proper x p n w e server None = record { notes = tt; frames = tt; memory = tt }
  packets_if_proper x p n w e server (Some r) = packets_proper x p n w e server r

  uses_proper : (x : Scene) (p : Proxy) (n : ℕ) (w : Waiting) (e server : ℕ) (asked answer : Body) → Proper S (by_answer x p n w e server asked answer)
  uses_proper x p n w e server (body.Ask keys) (body.Found cells) = record { notes = tt; frames = tt; memory = tt }
  uses_proper x p n w e server (body.List d cookie limit) (body.Listed cells more) = record { notes = tt; frames = tt; memory = tt }
  uses_proper x p n w e server (body.Mint site) (body.Minted f) = record { notes = tt; frames = tt; memory = tt }
  uses_proper x p n w e server (body.Intent i) (body.Decided agreed) = operations_proper x p n w i.moment i.what e
  uses_proper x p n w e server (body.Forward chosen packet) (body.Packet answer) = packets_if_proper x p n w e server (reply_in w.asked.procedure answer)
  uses_proper x p n w e server asked answer = record { notes = tt; frames = tt; memory = tt }

  again_each : (p : Proxy) (n : ℕ) (o : Option Request) → Each S (frame_again p n o)
  again_each p n None = tt
  again_each p n (Some r) = (own _ refl, tt)

  all_again : (p : Proxy) (cs : List (ℕ × Waiting)) → Each S (frames_again p cs)
  all_again p [] = tt
  all_again p (c ∷ cs) = each_both S (frame_again p c.0 c.1.request) (frames_again p cs) (again_each p c.0 c.1.request) (all_again p cs)

  pub opens_proper : (a : Actor) (s : Segment) → Opens a s → Proper S s
  opens_proper a s opens = subst (Proper S) (sym opens.does) (record { notes = tt; frames = (own _ refl, tt); memory = tt })

  pub proxy_proper : (x : Scene) (p : Proxy) (t : Task) (s : Segment) → ProxyRow x p t s → Proper S s
  proxy_proper x p t s (IsTaken n client bytes is row) = subst (Proper S) (sym row.does) (arrives_proper p n client bytes (datagram bytes))
  proxy_proper x p t s (IsGoing n is row) = subst (Proper S) (sym row.does) (wants_proper x p n row.waiting (wants x.setup p x.moment row.waiting))
  proxy_proper x p t s (IsWaking is row) = subst (Proper S) (sym row.does) (wakes_proper p (first_ready p))
  proxy_proper x p t s (IsUsed f e is row) = subst (Proper S) (sym row.does)
      (uses_proper x (record p { boots = boots_by f p.boots }) row.uses.arrival row.uses.waiting e f.from row.uses.request.«body» f.«body»)
  proxy_proper x p t s (IsRenewed f e is row) = subst (Proper S) (sym row.does) (record { notes = tt; frames = (own _ refl, tt); memory = tt })
  proxy_proper x p t s (IsGreeted f e is row) = subst (Proper S) (sym row.does) (record { notes = tt; frames = tt; memory = tt })
  proxy_proper x p t s (IsIgnored f e is row) = subst (Proper S) (sym row.does) (record { notes = tt; frames = tt; memory = tt })
  proxy_proper x p t s (IsSentAgain is row) = subst (Proper S) (sym row.does)
      (record { notes = tt; frames = each_either S p.welcomed (frames_again p (map.entries p.pending)) _ (all_again p (map.entries p.pending)) (own _ refl, tt); memory = tt })
