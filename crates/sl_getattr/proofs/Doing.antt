-- What becomes of a world where one actor does its step.
use Rattle.std.proofs.Common.{◌≡◌, ℕ, ◌+◌, true, List, [], ◌∷◌, ◌++◌, Option, Some, None, length, refl, sym, ap, subst, ◌∙◌, append_assoc, arith}
use Rattle.std.proofs.lemmas.List.{append-nil}
use Rattle.std.specs.FinMap.{get}
use Rattle.sl_frames.specs.declared.frame.Frame.{Frame}
use Rattle.sl_history.specs.Turns.{Remark}
use Rattle.sl_machine.specs.Records.{Record}
use Rattle.sl_machine.specs.Memory.{Proxy, Memory, Actor, OfProxy}
use Rattle.sl_machine.specs.World.{World, Task, Given, Segment, Told, scene, played, told, launched, numbered, after_segment, appended, with_actor, cut_actor}
use Rattle.sl_machine.specs.Proxies.{ProxyRow, Uses, breaks}
use Rattle.sl_machine.specs.Runs.{Steps, down_told}
use Rattle.sl_history.specs.Turns as note
use Rattle.sl_transport.proofs.Stepping.{OthersStay, put_else}
use Rattle.sl_getattr.proofs.Maps.{has_put}
use Rattle.sl_getattr.proofs.Stepping.{Begun, Does, Falls, Spends, begun, over, not_none, same_proxy, proxy_row}

-- The actor has this memory and these records then, and has sent these frames and noted these things.
pub record Did (i : ℕ) (w : World) (n : Told) (w' : World) (n' : Told) (m : Option Memory) (rs : List Record) (fs : List Frame) (notes : List Remark) : Type 0 where
  pub actor : Actor
  pub own : get w'.actors i ≡ Some actor
  pub memory : actor.memory ≡ m
  pub records : actor.records ≡ rs
  pub others : OthersStay i w.actors w'.actors
  pub setup : w'.setup ≡ w.setup
  pub event : w'.event ≡ w.event
  pub moment : w'.moment ≡ w.moment
  pub flight : w'.flight ≡ launched w.flight w.next_frame w.event fs
  pub frames : n'.frames ≡ n.frames ++ numbered w.next_frame fs
  pub noted : n'.notes ≡ n.notes ++ notes

-- by one segment, behind which nothing is left to do
pub did_last : (i : ℕ) (w : World) (n : Told) (a : Actor) (s : Segment) (w' : World) (n' : Told) → s.todo ≡ [] → Steps i (s.todo ++ []) (played w i a s) (told w s n) w' n'
    → Did i w n w' n' (Some s.memory) (appended s.append a.records) s.frames s.notes
did_last i w n a s w' n' none steps =
    let end = over i (played w i a s) (told w s n) w' n' (subst (λ todo. Steps i (todo ++ []) (played w i a s) (told w s n) w' n') none steps) in
    record {
      actor = after_segment a s;
      own = ap (λ (v : World). get v.actors i) end.0 ∙ has_put w.actors i (after_segment a s);
      memory = refl;
      records = refl;
      others = λ j apart. ap (λ (v : World). get v.actors j) end.0 ∙ put_else w.actors i (after_segment a s) j apart;
      setup = ap (λ (v : World). v.setup) end.0;
      event = ap (λ (v : World). v.event) end.0;
      moment = ap (λ (v : World). v.moment) end.0;
      flight = ap (λ (v : World). v.flight) end.0;
      frames = ap (λ (v : Told). v.frames) end.1;
      noted = ap (λ (v : Told). v.notes) end.1;
    }

none_more : (n : ℕ) → n + 0 ≡ n
none_more n = omega arith

-- by a segment that sends nothing, and then by more
pub did_then : (i : ℕ) (w : World) (n : Told) (a : Actor) (s : Segment) (w' : World) (n' : Told) (m : Option Memory) (rs : List Record) (fs : List Frame) (notes : List Remark)
    → s.frames ≡ [] → Did i (played w i a s) (told w s n) w' n' m rs fs notes → Did i w n w' n' m rs fs (s.notes ++ notes)
did_then i w n a s w' n' m rs fs notes none did = record {
  actor = did.actor;
  own = did.own;
  memory = did.memory;
  records = did.records;
  others = λ j apart. did.others j apart ∙ put_else w.actors i (after_segment a s) j apart;
  setup = did.setup;
  event = did.event;
  moment = did.moment;
  flight = did.flight ∙ ap (λ gs. launched (launched w.flight w.next_frame w.event gs) (w.next_frame + length gs) w.event fs) none
      ∙ ap (λ k. launched w.flight k w.event fs) (none_more w.next_frame);
  frames = did.frames ∙ ap (λ gs. (n.frames ++ numbered w.next_frame gs) ++ numbered (w.next_frame + length gs) fs) none
      ∙ ap (λ ms. ms ++ numbered (w.next_frame + 0) fs) (append-nil n.frames) ∙ ap (λ k. n.frames ++ numbered k fs) (none_more w.next_frame);
  noted = did.noted ∙ append_assoc n.notes s.notes notes;
}

-- a cut takes it down
pub did_fall : (i : ℕ) (w : World) (n : Told) (a : Actor) (r : Record) (w' : World) (n' : Told) → w' ≡ with_actor w i (cut_actor a r) → n' ≡ down_told i n
    → Did i w n w' n' None a.records [] (note.Down i ∷ [])
did_fall i w n a r w' n' world noted = record {
  actor = cut_actor a r;
  own = ap (λ (v : World). get v.actors i) world ∙ has_put w.actors i (cut_actor a r);
  memory = refl;
  records = refl;
  others = λ j apart. ap (λ (v : World). get v.actors j) world ∙ put_else w.actors i (cut_actor a r) j apart;
  setup = ap (λ (v : World). v.setup) world;
  event = ap (λ (v : World). v.event) world;
  moment = ap (λ (v : World). v.moment) world;
  flight = ap (λ (v : World). v.flight) world;
  frames = ap (λ (v : Told). v.frames) noted ∙ sym (append-nil n.frames);
  noted = ap (λ (v : Told). v.notes) noted;
}

-- ---- the proxy's one next segment

-- Where each row for the task says this segment, it is played.
pub plays_on : (w : World) (n : Told) (a : Actor) (p : Proxy) (t : Task) (rest : List Task) (w' : World) (n' : Told) (s : Segment) → get w.actors 0 ≡ Some a
    → a.memory ≡ Some (OfProxy p) → ((z : Segment) → ProxyRow (scene w 0) p t z → z ≡ s) → s.append ≡ None → ((f : Frame) (e : ℕ) → t ≡ Given f e → Uses p f → breaks p f ≡ true → ⊥)
    → Steps 0 (t ∷ rest) w n w' n' → Steps 0 (s.todo ++ rest) (played w 0 a s) (told w s n) w' n'
plays_on w n a p t rest w' n' s is up forced unappended unspent steps = by (begun 0 t rest w n a w' n' is steps)
  where
    by : Begun 0 t rest w n a w' n' → Steps 0 (s.todo ++ rest) (played w 0 a s) (told w s n) w' n'
    by (Does first) = subst (λ z. Steps 0 (z.todo ++ rest) (played w 0 a z) (told w z n) w' n') (forced first.segment (proxy_row (scene w 0) a p t first.segment refl up first.may)) first.behind
    by (Falls cut) = absurd (not_none (sym cut.append ∙ ap (λ (z : Segment). z.append) (forced cut.segment (proxy_row (scene w 0) a p t cut.segment refl up cut.may)) ∙ unappended))
    by (Spends spent) =
        let same = same_proxy spent.proxy p (sym spent.up ∙ up) in
        absurd (unspent spent.frame spent.event spent.is (subst (λ q. Uses q spent.frame) same spent.uses) (subst (λ q. breaks q spent.frame ≡ true) same spent.broken))
