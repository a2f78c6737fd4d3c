-- What the proxy does for a frame.
use Rattle.std.proofs.Common.{◌≡◌, ℕ, ◌&&◌, ◌||◌, ◌≤◌, Bool, true, false, List, [], ◌∷◌, ◌++◌, Option, Some, None, Ok, Err, refl, sym, ap, subst, ◌∙◌, is_some, if◌then◌else◌}
use Rattle.std.specs.FinMap.{get, insert, remove}
use Rattle.sl_defs.specs.declared.setup.Setup.{Setup}
use Rattle.sl_types.specs.declared.handle.Handle.{Handle}
use Rattle.sl_types.specs.declared.kind.Status.TheVariants as status
use Rattle.sl_types.specs.declared.reply.Reply.{Reply}
use Rattle.sl_types.specs.declared.reply.Reply.TheVariants as reply
use Rattle.sl_model.specs.Looking.{attributes}
use Rattle.sl_model.specs.Perform.{new_root}
use Rattle.sl_frames.specs.Actors.{is_data}
use Rattle.sl_frames.specs.declared.frame.Frame.{Frame}
use Rattle.sl_frames.specs.declared.body.Body.TheVariants as body
use Rattle.sl_history.specs.Bodies.{is_welcome}
use Rattle.sl_history.specs.Turns.{Remark, History}
use Rattle.sl_history.specs.Turns as note
use Rattle.sl_history.specs.Arrivals.{answer_to, is_changing}
use Rattle.sl_machine.specs.Records.{Record}
use Rattle.sl_machine.specs.Memory.{Waiting, Request, Proxy, Actor, OfProxy}
use Rattle.sl_machine.specs.Packets.{reply_in}
use Rattle.sl_machine.specs.World.{World, Scene, Given, Wakes, Segment, Told, nothing, scene, played, told, after_segment}
use Rattle.sl_machine.specs.Proxies.{still, notes, ends, has_answer, breaks, refuses, other_boot, ends_look, by_packet, by_packet_if, by_answer}
use Rattle.sl_machine.specs.Proxies as proxies
use Rattle.sl_machine.specs.Runs.{May, Steps}
use Rattle.sl_getattr.proofs.Stepping.{Begun, Does, Falls, Spends, begun, same_some, same_proxy, not_none, proxy_row}
use Rattle.sl_getattr.proofs.Maps.{has_put}
use Rattle.sl_getattr.proofs.Looking.{look_by, is_root}
use Rattle.sl_getattr.proofs.Sound.{Owner, IsOut, IsProxy, Answers}
use Rattle.sl_getattr.proofs.Doing.{Did, did_last, did_then}
use Rattle.sl_getattr.proofs.Rows.{OnFrame, Uses, Renews, Greets, PassesOver, given_row, frame_or}
use Rattle.sl_getattr.proofs.Arriving.{AreShared, shared_by, wakes_none}
use Rattle.sl_getattr.proofs.Taking.{fewer, true_false}

-- ---- the segment

abbrev replies : Setup → Proxy → ℕ → ℕ → Waiting → Handle → Segment
replies s p n e c h =
    notes (record p { pending = remove p.pending n }) (note.Replied n e (answer_to c.asked (reply.Getattr (look_by s.volume (Some h)))) ∷ []) (Wakes ∷ [])

-- what the proxy does first for a frame
data OneOf (s : Setup) (hist : History) (owner : ℕ → Owner) (next now : ℕ) (p : Proxy) (f : Frame) (e : ℕ) (z : Segment) : Type 0 where
  IsStill : z ≡ still p [] → OneOf s hist owner next now p f e z
  Verfs : p.welcomed ≡ false → f.fence ≡ p.fence → z ≡ notes (record p { welcomed = true }) (note.Verf p.fence ∷ []) [] → OneOf s hist owner next now p f e z
  Replies : (n : ℕ) (c : Waiting) → get p.pending n ≡ Some c → (out : IsOut s hist owner next n c) → n ≤ e → e ≤ now → z ≡ replies s p n e c out.handle → OneOf s hist owner next now p f e z

-- ---- an answer

keeps_none : (s : Setup) (h : Handle) (x : Scene) (p : Proxy) (n e : ℕ) (c : Waiting) (b : Bool)
    → ends_look x p n c e (reply.Getattr (if b then Ok (attributes (new_root s.volume)) else Err status.Stale))
    ≡ ends p n p.soft (note.Replied n e (answer_to c.asked (reply.Getattr (if b then Ok (attributes (new_root s.volume)) else Err status.Stale))) ∷ [])
keeps_none s h x p n e c true = refl
keeps_none s h x p n e c false = refl

look_alone : (x : Scene) (p : Proxy) (n e : ℕ) (c : Waiting) (r : Reply) (b : Bool) → is_changing c.asked.call ≡ false → by_packet x p n c e 16 r ≡ ends_look x p n c e r
look_alone x p n e c r b asks_only = ap (λ b. if b then proxies.ends_effect x p n c r else ends_look x p n c e r) asks_only

answered_so : (s : Setup) (x : Scene) (p : Proxy) (f : Frame) (n e chosen : ℕ) (c : Waiting) (r : Request) (h : Handle) (packet answer : List ℕ) → f.from ≡ 16
    → r.«body» ≡ body.Forward chosen packet → f.«body» ≡ body.Packet answer → is_changing c.asked.call ≡ false → reply_in c.asked.procedure answer ≡ Some (reply.Getattr (look_by s.volume (Some h)))
    → by_answer x (record p { boots = proxies.boots_by f p.boots }) n c e f.from r.«body» f.«body» ≡ replies s p n e c h
answered_so s x p f n e chosen c r h packet answer from asked is asks_only says =
    ap (λ i. by_answer x (record p { boots = if is_data i then insert p.boots i f.boot else p.boots }) n c e i r.«body» f.«body») from
    ∙ ap (λ b. by_answer x p n c e 16 b f.«body») asked ∙ ap (by_answer x p n c e 16 (body.Forward chosen packet)) is
    ∙ ap (by_packet_if x p n c e 16) says ∙ look_alone x p n e c (reply.Getattr (look_by s.volume (Some h))) true asks_only
    ∙ keeps_none s h x p n e c (is_root s.volume h)

module _ (s : Setup) (hist : History) (owner : ℕ → Owner) (next now : ℕ) (p : Proxy) (f : Frame) (e : ℕ) (proxy : IsProxy s hist owner next p) (x : Scene) where
  asks_only : (n : ℕ) (c : Waiting) → IsOut s hist owner next n c → is_changing c.asked.call ≡ false
  asks_only n c out = ap is_changing out.asks

  -- ---- for a packet

  unbroken_packet : f.from ≡ 16 → (packet : List ℕ) → f.«body» ≡ body.Packet packet → breaks p f ≡ false
  unbroken_packet from packet is = ap (λ b. refuses b || (is_data f.from && other_boot (get p.boots f.from) f.boot)) is ∙ ap (λ i. is_data i && other_boot (get p.boots i) f.boot) from

  found_reply : (h : Handle) (packet : List ℕ) (o : Option Reply) → reply_in 1 packet ≡ o → is_some o ≡ true → ((r : Reply) → reply_in 1 packet ≡ Some r → r ≡ reply.Getattr (look_by s.volume (Some h)))
      → o ≡ Some (reply.Getattr (look_by s.volume (Some h)))
  found_reply h packet None is has says = absurd (true_false (sym has))
  found_reply h packet (Some r) is has says = ap Some (says r is)

  uses_packet : (z : Segment) → f.from ≡ 16 → Answers s owner next now f e → proxies.UsesAnswer x p f e z → OneOf s hist owner next now p f e z
  uses_packet z from answers row =
      Replies row.uses.arrival row.uses.waiting row.uses.is out (subst (λ (o : Owner). o.call ≤ e) owned answers.not_before) answers.not_later
      (row.does ∙ answered_so s x p f row.uses.arrival e out.chosen row.uses.waiting row.uses.request out.handle out.packet answers.packet from
      asked answers.is (asks_only row.uses.arrival row.uses.waiting out) says)
    where
      out : IsOut s hist owner next row.uses.arrival row.uses.waiting
      out = proxy.calls row.uses.arrival row.uses.waiting row.uses.is

      same : out.request ≡ row.uses.request
      same = same_some (sym out.out ∙ row.uses.out)

      asked : row.uses.request.«body» ≡ body.Forward out.chosen out.packet
      asked = ap (λ (r : Request). r.«body») (sym same) ∙ out.«body»

      owned : owner f.tag ≡ record { call = row.uses.arrival; handle = out.handle }
      owned = ap owner (row.uses.tag ∙ ap (λ (r : Request). r.tag) (sym same)) ∙ out.owned

      has : is_some (reply_in row.uses.waiting.asked.procedure answers.packet) ≡ true
      has = sym (ap (λ b. has_answer row.uses.waiting b f.«body») asked ∙ ap (has_answer row.uses.waiting (body.Forward out.chosen out.packet)) answers.is) ∙ row.uses.answer

      says : reply_in row.uses.waiting.asked.procedure answers.packet ≡ Some (reply.Getattr (look_by s.volume (Some out.handle)))
      says = ap (λ q. reply_in q answers.packet) out.procedure
          ∙ found_reply out.handle answers.packet (reply_in 1 answers.packet) refl (ap (λ q. is_some (reply_in q answers.packet)) (sym out.procedure) ∙ has)
          (λ r read. answers.says r read ∙ ap (λ (o : Owner). reply.Getattr (look_by s.volume (Some o.handle))) owned)

  on_packet : (z : Segment) → f.from ≡ 16 → Answers s owner next now f e → OnFrame x p f e z → OneOf s hist owner next now p f e z
  on_packet z from answers (Uses row) = uses_packet z from answers row
  on_packet z from answers (Renews row) = absurd (true_false (sym row.broken ∙ unbroken_packet from answers.packet answers.is))
  on_packet z from answers (Greets row) = absurd (true_false (sym (ap is_welcome (sym answers.is ∙ row.kind))))
  on_packet z from answers (PassesOver row) = IsStill row.does

  -- ---- for a Welcome

  unbroken_welcome : f.from ≡ 1 → f.«body» ≡ body.Welcome → breaks p f ≡ false
  unbroken_welcome from is = ap (λ b. refuses b || (is_data f.from && other_boot (get p.boots f.from) f.boot)) is ∙ ap (λ i. is_data i && other_boot (get p.boots i) f.boot) from

  no_use : f.«body» ≡ body.Welcome → proxies.Uses p f → ⊥
  no_use is uses =
      let out = proxy.calls uses.arrival uses.waiting uses.is in
      true_false (sym uses.answer ∙ ap (λ b. has_answer uses.waiting b f.«body») (ap (λ (r : Request). r.«body») (same_some (sym uses.out ∙ out.out)) ∙ out.«body»)
      ∙ ap (has_answer uses.waiting (body.Forward out.chosen out.packet)) is)

  on_welcome : (z : Segment) → f.from ≡ 1 → f.«body» ≡ body.Welcome → OnFrame x p f e z → OneOf s hist owner next now p f e z
  on_welcome z from is (Uses row) = absurd (no_use is row.uses)
  on_welcome z from is (Renews row) = absurd (true_false (sym row.broken ∙ unbroken_welcome from is))
  on_welcome z from is (Greets row) = Verfs row.first row.fence row.does
  on_welcome z from is (PassesOver row) = IsStill row.does

-- ---- how its step ends

pub data Usage (s : Setup) (hist : History) (owner : ℕ → Owner) (next now : ℕ) (w : World) (rs : List Record) (p : Proxy) (f : Frame) (e : ℕ) (w' : World) (n' : Told) : Type 0 where
  -- the frame is passed over
  Passed : Did 0 w nothing w' n' (Some (OfProxy p)) rs [] [] → Usage s hist owner next now w rs p f e w' n'
  -- the proxy is welcomed
  Welcomed : p.welcomed ≡ false → f.fence ≡ p.fence → Did 0 w nothing w' n' (Some (OfProxy (record p { welcomed = true }))) rs [] (note.Verf p.fence ∷ []) → Usage s hist owner next now w rs p f e w' n'
  -- a call has its reply
  Replied : (n : ℕ) (c : Waiting) → get p.pending n ≡ Some c → (out : IsOut s hist owner next n c) → n ≤ e → e ≤ now
      → Did 0 w nothing w' n' (Some (OfProxy (record p { pending = remove p.pending n }))) rs [] (note.Replied n e (answer_to c.asked (reply.Getattr (look_by s.volume (Some out.handle)))) ∷ [])
      → Usage s hist owner next now w rs p f e w' n'

-- a frame that the proxy may have
pub data ForProxy (s : Setup) (owner : ℕ → Owner) (next now : ℕ) (f : Frame) (e : ℕ) : Type 0 where
  OfWelcome : f.from ≡ 1 → f.«body» ≡ body.Welcome → ForProxy s owner next now f e
  OfPacket : f.from ≡ 16 → Answers s owner next now f e → ForProxy s owner next now f e

module _ (s : Setup) (hist : History) (owner : ℕ → Owner) (next now : ℕ) (w : World) (a : Actor) (p : Proxy) (f : Frame) (e : ℕ) (w' : World) (n' : Told)
    (is : get w.actors 0 ≡ Some a) (up : a.memory ≡ Some (OfProxy p)) (proxy : IsProxy s hist owner next p) (fine : ForProxy s owner next now f e) where
  on_frame : (z : Segment) → OnFrame (scene w 0) p f e z → OneOf s hist owner next now p f e z
  on_frame z row = by fine
    where
      by : ForProxy s owner next now f e → OneOf s hist owner next now p f e z
      by (OfWelcome from kind) = on_welcome s hist owner next now p f e proxy (scene w 0) z from kind row
      by (OfPacket from answers) = on_packet s hist owner next now p f e proxy (scene w 0) z from answers row

  unbroken : breaks p f ≡ false
  unbroken = by fine
    where
      by : ForProxy s owner next now f e → breaks p f ≡ false
      by (OfWelcome from kind) = unbroken_welcome s hist owner next now p f e proxy (scene w 0) from kind
      by (OfPacket from answers) = unbroken_packet s hist owner next now p f e proxy (scene w 0) from answers.packet answers.is

  all_shared : AreShared p.pending
  all_shared n c there = let out = proxy.calls n c there in shared_by c out.handle out.held out.awaits

  none_appended : (z : Segment) → OneOf s hist owner next now p f e z → z.append ≡ None
  none_appended z (IsStill does) = ap (λ (z : Segment). z.append) does
  none_appended z (Verfs first fence does) = ap (λ (z : Segment). z.append) does
  none_appended z (Replies n c there out before after does) = ap (λ (z : Segment). z.append) does

  ends_so : (z : Segment) → OneOf s hist owner next now p f e z → Steps 0 (z.todo ++ []) (played w 0 a z) (told w z nothing) w' n' → Usage s hist owner next now w a.records p f e w' n'
  ends_so z (IsStill does) steps = Passed (did_last 0 w nothing a (still p []) w' n' refl (subst (λ (z : Segment). Steps 0 (z.todo ++ []) (played w 0 a z) (told w z nothing) w' n') does steps))
  ends_so z (Verfs first fence does) steps =
      Welcomed first fence (did_last 0 w nothing a (notes (record p { welcomed = true }) (note.Verf p.fence ∷ []) []) w' n' refl
      (subst (λ (z : Segment). Steps 0 (z.todo ++ []) (played w 0 a z) (told w z nothing) w' n') does steps))
  ends_so z (Replies n c there out before after does) steps =
      let seg = replies s p n e c out.handle in
      Replied n c there out before after (did_then 0 w nothing a seg w' n' _ _ _ _ refl
      (wakes_none (played w 0 a seg) (told w seg nothing) (after_segment a seg) (record p { pending = remove p.pending n }) w' n' (has_put w.actors 0 (after_segment a seg)) refl
      (fewer p.pending n all_shared) (subst (λ (z : Segment). Steps 0 (z.todo ++ []) (played w 0 a z) (told w z nothing) w' n') does steps)))

  pub uses_so : Steps 0 (Given f e ∷ []) w nothing w' n' → Usage s hist owner next now w a.records p f e w' n'
  uses_so steps = by (begun 0 (Given f e) [] w nothing a w' n' is steps)
    where
      one_of : (z : Segment) → May (scene w 0) a (Given f e) z → OneOf s hist owner next now p f e z
      one_of z may = on_frame z (given_row (scene w 0) p f e z (proxy_row (scene w 0) a p (Given f e) z refl up may))

      by : Begun 0 (Given f e) [] w nothing a w' n' → Usage s hist owner next now w a.records p f e w' n'
      by (Does first) = ends_so first.segment (one_of first.segment first.may) first.behind
      by (Falls cut) = absurd (not_none (sym cut.append ∙ none_appended cut.segment (one_of cut.segment cut.may)))
      by (Spends spent) =
          true_by (ap (frame_or f) spent.is) (same_proxy spent.proxy p (sym spent.up ∙ up)) spent.broken
        where
          true_by : {g : Frame} {q : Proxy} → f ≡ g → q ≡ p → breaks q g ≡ true → Usage s hist owner next now w a.records p f e w' n'
          true_by {g} {q} same same_p broken = absurd (true_false (sym (subst (λ u. breaks p u ≡ true) (sym same) (subst (λ u. breaks u g ≡ true) same_p broken)) ∙ unbroken))
