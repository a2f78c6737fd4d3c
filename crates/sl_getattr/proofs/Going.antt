-- What holds goes on from turn to turn.
use Rattle.std.proofs.Common.{◌≡◌, ℕ, ◌<◌, ◌≤◌, Bool, true, false, List, [], ◌∷◌, Option, Some, refl, sym, ap, subst, ◌∙◌, arith}
use Rattle.std.specs.Ordering.{nat_cmp, eq_by_cmp}
use Rattle.std.specs.FinMap.{FinMap, get}
use Rattle.sl_types.specs.declared.reply.Reply.{Reply}
use Rattle.sl_types.specs.declared.reply.Reply.TheVariants as reply
use Rattle.sl_defs.specs.declared.setup.Setup.{Setup}
use Rattle.sl_frames.specs.declared.frame.Frame.{Frame}
use Rattle.sl_history.specs.Turns.{Remark, Turn, History, events}
use Rattle.sl_history.specs.Legal.{any_among, is_reply}
use Rattle.sl_history.specs.Arrivals.{Asked, asked_in, datagram, asked_by, arrives}
use Rattle.sl_machine.specs.Packets.{reply_in}
use Rattle.sl_machine.specs.Records.{Record}
use Rattle.sl_machine.specs.Memory.{Site, Coord, Proxy, Memory, Actor, OfProxy, OfCoord, OfSite}
use Rattle.sl_machine.specs.World.{World, Flying, Told, nothing, launched}
use Rattle.sl_transport.proofs.Proper.{Each}
use Rattle.sl_transport.proofs.Stepping.{same_key}
use Rattle.sl_getattr.proofs.Stepping.{same_some}
use Rattle.sl_getattr.proofs.Looking.{look_by}
use Rattle.sl_getattr.proofs.Sound.{AsksFor, Owner, IsProxy, IsCoordinator, IsDirectory, IsFine, IsHello, IsWelcome, IsForward, IsPacket, IsSound}
use Rattle.sl_getattr.proofs.Tales.{HasNoEffect, tale_goes, still_out, later}
use Rattle.sl_getattr.proofs.Counting.{IsCalm, counted_calm}
use Rattle.sl_getattr.proofs.Flights.{AllFly, fly_launched}
use Rattle.sl_getattr.proofs.Doing.{Did}

less_then : (a b c : ℕ) → a < b → b ≤ c → a < c
less_then a b c p q = omega arith

at_most_then : (a b c : ℕ) → a ≤ b → b ≤ c → a ≤ c
at_most_then a b c p q = omega arith

-- more owners
pub record Extends (owner owner' : ℕ → Owner) (next next' : ℕ) : Type 0 where
  pub less : next ≤ next'
  pub same : (tag : ℕ) → tag < next → owner' tag ≡ owner tag

pub no_more : (owner : ℕ → Owner) (next : ℕ) → Extends owner owner next next
no_more owner next = record { less = itself next; same = λ tag less. refl }
  where
    itself : (n : ℕ) → n ≤ n
    itself n = omega arith

fine_more : (s : Setup) (owner owner' : ℕ → Owner) (next next' now now' : ℕ) (f : Flying) → Extends owner owner' next next' → now ≤ now' → IsFine s owner next now f → IsFine s owner' next' now' f
fine_more s owner owner' next next' now now' f more moment (IsHello to kind bare) = IsHello to kind bare
fine_more s owner owner' next next' now now' f more moment (IsWelcome to from kind) = IsWelcome to from kind
fine_more s owner owner' next next' now now' f more moment (IsForward to from sent) = IsForward to from (record {
  chosen = sent.chosen;
  packet = sent.packet;
  is = sent.is;
  tag = less_then f.frame.tag next next' sent.tag more.less;
  before = subst (λ (o : Owner). o.call ≤ now') (sym (more.same f.frame.tag sent.tag)) (at_most_then (owner f.frame.tag).call now now' sent.before moment);
  says = subst (λ (o : Owner). (q : Asked) → asked_in (datagram sent.packet) ≡ Some q → AsksFor q o.handle) (sym (more.same f.frame.tag sent.tag)) sent.says;
})
fine_more s owner owner' next next' now now' f more moment (IsPacket to from sent) = IsPacket to from (record {
  packet = sent.packet;
  is = sent.is;
  tag = less_then f.frame.tag next next' sent.tag more.less;
  not_before = subst (λ (o : Owner). o.call ≤ f.event) (sym (more.same f.frame.tag sent.tag)) sent.not_before;
  not_later = at_most_then f.event now now' sent.not_later moment;
  says = subst (λ (o : Owner). (r : Reply) → reply_in 1 sent.packet ≡ Some r → r ≡ reply.Getattr (look_by s.volume (Some o.handle))) (sym (more.same f.frame.tag sent.tag)) sent.says;
})

pub all_fine_more : (s : Setup) (owner owner' : ℕ → Owner) (next next' now now' : ℕ) (flight : FinMap nat_cmp Flying) → Extends owner owner' next next' → now ≤ now'
    → AllFly (IsFine s owner next now) flight → AllFly (IsFine s owner' next' now') flight
all_fine_more s owner owner' next next' now now' flight more moment all k f there = fine_more s owner owner' next next' now now' f more moment (all k f there)

-- ---- the proxy where others act

pub still_proxy : (s : Setup) (past : History) (t : Turn) (owner : ℕ → Owner) (next : ℕ) (p : Proxy) → IsProxy s past owner next p → ((n : ℕ) → any_among (is_reply n) t.remarks ≡ false)
    → IsCalm t.remarks → arrives (events (t ∷ past)) t (asked_by t) ≡ [] → IsProxy s (t ∷ past) owner next p
still_proxy s past t owner next p proxy none calm nothing = record {
  soft = proxy.soft;
  calls = λ n c there. still_out s past t owner owner next next n c (proxy.calls n c there) (none n) (no_more owner next).less (λ tag less. refl);
  tag = proxy.tag;
  counted = counted_calm past t p calm nothing proxy.counted;
}

-- ---- nobody acts

pub nobody_goes : (s : Setup) (past : History) (t : Turn) (w w' : World) (owner : ℕ → Owner) (next : ℕ) → IsSound s past w owner next → ((j : ℕ) → get w'.actors j ≡ get w.actors j)
    → w'.setup ≡ w.setup → w'.event ≡ events (t ∷ past) → AllFly (IsFine s owner next (events past)) w'.flight → HasNoEffect t.remarks → ((n : ℕ) → any_among (is_reply n) t.remarks ≡ false)
    → IsCalm t.remarks → arrives (events (t ∷ past)) t (asked_by t) ≡ [] → IsSound s (t ∷ past) w' owner next
nobody_goes s past t w w' owner next sound actors setup event flight none replies calm nothing = record {
  setup = setup ∙ sound.setup;
  event = event;
  tale = tale_goes s past t sound.tale none (λ n less. replies n);
  proxy = λ a p there up. still_proxy s past t owner next p (sound.proxy a p (sym (actors 0) ∙ there) up) replies calm nothing;
  coordinator = λ a m there up. sound.coordinator a m (sym (actors 1) ∙ there) up;
  directory = λ a m there up. sound.directory a m (sym (actors 16) ∙ there) up;
  flight = all_fine_more s owner owner next next (events past) (events (t ∷ past)) w'.flight (no_more owner next) (later past t) flight;
}

-- ---- one actor acts

either_key : (j i : ℕ) (P : Type 0) → (j ≡ i → P) → (eq_by_cmp nat_cmp j i ≡ false → P) → P
either_key j i P same other = by (eq_by_cmp nat_cmp j i) refl
  where
    by : (b : Bool) → eq_by_cmp nat_cmp j i ≡ b → P
    by true e = same (same_key j i e)
    by false e = other e

-- what it has then, by who it is
pub record IsLeft (s : Setup) (h : History) (owner : ℕ → Owner) (next : ℕ) (i : ℕ) (m : Option Memory) (rs : List Record) : Type 0 where
  pub proxy : (p : Proxy) → i ≡ 0 → m ≡ Some (OfProxy p) → IsProxy s h owner next p
  pub coordinator : (c : Coord) → i ≡ 1 → m ≡ Some (OfCoord c) → IsCoordinator c rs
  pub directory : (d : Site) → i ≡ 16 → m ≡ Some (OfSite d) → IsDirectory s d rs

pub one_goes : (s : Setup) (past : History) (t : Turn) (w v w' : World) (n' : Told) (owner owner' : ℕ → Owner) (next next' i : ℕ) (m : Option Memory) (rs : List Record) (fs : List Frame) (notes : List Remark)
    → IsSound s past w owner next → v.actors ≡ w.actors → v.setup ≡ w.setup → v.event ≡ events (t ∷ past) → AllFly (IsFine s owner next (events past)) v.flight
    → Did i v nothing w' n' m rs fs notes → Extends owner owner' next next' → HasNoEffect t.remarks → ((n : ℕ) → events (t ∷ past) < n → any_among (is_reply n) t.remarks ≡ false)
    → IsLeft s (t ∷ past) owner' next' i m rs → ((a : Actor) (p : Proxy) → eq_by_cmp nat_cmp 0 i ≡ false → IsProxy s past owner next p → IsProxy s (t ∷ past) owner' next' p)
    → Each (λ g. IsFine s owner' next' (events (t ∷ past)) (record { frame = g; event = events (t ∷ past) })) fs → IsSound s (t ∷ past) w' owner' next'
one_goes s past t w v w' n' owner owner' next next' i m rs fs notes sound actors setup event flight did more none replies left others each = record {
  setup = did.setup ∙ setup ∙ sound.setup;
  event = did.event ∙ event;
  tale = tale_goes s past t sound.tale none replies;
  proxy = λ a p there up. either_key 0 i (IsProxy s (t ∷ past) owner' next' p)
      (λ same. left.proxy p (sym same) (sym did.memory ∙ ap (λ (z : Actor). z.memory) (own 0 a same there) ∙ up))
      (λ other. others a p other (sound.proxy a p (was 0 a other there) up));
  coordinator = λ a c there up. either_key 1 i (IsCoordinator c a.records)
      (λ same. subst (IsCoordinator c) (sym did.records ∙ ap (λ (z : Actor). z.records) (own 1 a same there)) (left.coordinator c (sym same) (sym did.memory ∙ ap (λ (z : Actor). z.memory) (own 1 a same there) ∙ up)))
      (λ other. sound.coordinator a c (was 1 a other there) up);
  directory = λ a d there up. either_key 16 i (IsDirectory s d a.records)
      (λ same. subst (IsDirectory s d) (sym did.records ∙ ap (λ (z : Actor). z.records) (own 16 a same there)) (left.directory d (sym same) (sym did.memory ∙ ap (λ (z : Actor). z.memory) (own 16 a same there) ∙ up)))
      (λ other. sound.directory a d (was 16 a other there) up);
  flight = subst (AllFly (IsFine s owner' next' (events (t ∷ past)))) (sym (did.flight ∙ ap (λ e. launched v.flight v.next_frame e fs) event))
      (fly_launched (IsFine s owner' next' (events (t ∷ past))) v.flight v.next_frame (events (t ∷ past)) fs
      (all_fine_more s owner owner' next next' (events past) (events (t ∷ past)) v.flight more (later past t) flight) each);
}
  where
    own : (j : ℕ) (a : Actor) → j ≡ i → get w'.actors j ≡ Some a → did.actor ≡ a
    own j a same there = same_some (sym did.own ∙ ap (get w'.actors) (sym same) ∙ there)

    was : (j : ℕ) (a : Actor) → eq_by_cmp nat_cmp j i ≡ false → get w'.actors j ≡ Some a → get w.actors j ≡ Some a
    was j a other there = ap (λ z. get z j) (sym actors) ∙ sym (did.others j other) ∙ there
