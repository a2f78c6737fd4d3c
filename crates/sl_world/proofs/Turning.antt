-- What an actor's step by itself does to the world.
use Rattle.std.proofs.Common.{◌≡◌, ℕ, suc, ◌+◌, false, List, [], ◌∷◌, ◌++◌, length, Some, refl, sym, ap, ◌∙◌, cond, append_assoc, arith}
use Rattle.std.proofs.lemmas.List.{append-nil, length-append}
use Rattle.std.specs.Ordering.{nat_cmp, eq_by_cmp}
use Rattle.std.specs.Cmp.{nat_cmp_total}
use Rattle.std.specs.FinMap.{FinMap, get, insert, get-insert}
use Rattle.sl_frames.specs.declared.frame.Frame.{Frame}
use Rattle.sl_history.specs.Turns.{Remark, Sent}
use Rattle.sl_machine.specs.Memory.{Actor}
use Rattle.sl_machine.specs.World.{World, Flying, Task, scene, Segment, Told, after_segment, played, told, launched, numbered}
use Rattle.sl_world.specs.Acting.{Acts, world_after, told_after, frames_of, notes_of}
use Rattle.sl_world.specs.Worlds.{IsPlayed}
use Rattle.sl_world.proofs.Maps.{got_here}

-- ---- frames one after the other

launched_both : (flight : FinMap nat_cmp Flying) (n e : ℕ) (fs gs : List Frame) → launched (launched flight n e fs) (n + length fs) e gs ≡ launched flight n e (fs ++ gs)
launched_both flight n e [] gs = ap (λ k. launched flight k e gs) (none_more n)
  where
    none_more : (n : ℕ) → n + 0 ≡ n
    none_more n = omega arith
launched_both flight n e (f ∷ fs) gs =
    ap (λ k. launched (launched (insert flight n (record { frame = f; event = e })) (n + 1) e fs) k e gs) (one_more n (length fs))
    ∙ launched_both (insert flight n (record { frame = f; event = e })) (n + 1) e fs gs
  where
    one_more : (n k : ℕ) → n + suc k ≡ n + 1 + k
    one_more n k = omega arith

numbered_both : (n : ℕ) (fs gs : List Frame) → numbered n fs ++ numbered (n + length fs) gs ≡ numbered n (fs ++ gs)
numbered_both n [] gs = ap (λ k. numbered k gs) (none_more n)
  where
    none_more : (n : ℕ) → n + 0 ≡ n
    none_more n = omega arith
numbered_both n (f ∷ fs) gs = ap (λ rest. Sent n f ∷ rest) (ap (λ k. numbered (n + 1) fs ++ numbered k gs) (one_more n (length fs)) ∙ numbered_both (n + 1) fs gs)
  where
    one_more : (n k : ℕ) → n + suc k ≡ n + 1 + k
    one_more n k = omega arith

-- ---- segments one after the other

played_here : (w : World) (i : ℕ) (a : Actor) (s : Segment) → get (played w i a s).actors i ≡ Some (after_segment a s)
played_here w i a s = got_here w.actors i (after_segment a s)

played_else : (w : World) (i : ℕ) (a : Actor) (s : Segment) (j : ℕ) → eq_by_cmp nat_cmp j i ≡ false → get (played w i a s).actors j ≡ get w.actors j
played_else w i a s j apart =
    get-insert nat_cmp_total w.actors i (after_segment a s) j ∙ ap (λ b. cond b (Some (after_segment a s)) (get w.actors j)) apart

-- what the segments leave
pub is_played : (w : World) (i : ℕ) (a after : Actor) (todo : List Task) (segments : List Segment) → get w.actors i ≡ Some a → Acts (scene w i) a todo segments after
    → IsPlayed w i after (frames_of segments) (world_after w i a segments)
is_played w i a after [] [] is acts = record {
  here = is ∙ ap (λ x. Some x) (sym acts);
  others = λ j apart. refl;
  flight = refl;
  next_frame = sym (none_more w.next_frame);
  setup = refl;
  event = refl;
  moment = refl;
}
  where
    none_more : (n : ℕ) → n + 0 ≡ n
    none_more n = omega arith
is_played w i a after (t ∷ todo) (s ∷ ss) is acts =
    let rest = is_played (played w i a s) i (after_segment a s) after (s.todo ++ todo) ss (played_here w i a s) acts.1 in
    record {
      here = rest.here;
      others = λ j apart. rest.others j apart ∙ played_else w i a s j apart;
      flight = rest.flight ∙ launched_both w.flight w.next_frame w.event s.frames (frames_of ss);
      next_frame = rest.next_frame ∙ counts w.next_frame s.frames (frames_of ss);
      setup = rest.setup;
      event = rest.event;
      moment = rest.moment;
    }
  where
    counts : (n : ℕ) (fs gs : List Frame) → n + length fs + length gs ≡ n + length (fs ++ gs)
    counts n fs gs = rw (length-append fs gs) (omega arith)
is_played w i a after [] (s ∷ ss) is acts = absurd acts
is_played w i a after (t ∷ todo) [] is acts = absurd acts

record_of : {a b c d : List Remark} → a ≡ b → c ≡ d → ◌≡◌ {A = Told} (record { frames = a; notes = c }) (record { frames = b; notes = d })
record_of p q = λ k. record { frames = p k; notes = q k }

-- what is told of them
pub is_told : (w : World) (i : ℕ) (a : Actor) (segments : List Segment) (n : Told)
    → told_after w i a segments n ≡ record { frames = n.frames ++ numbered w.next_frame (frames_of segments); notes = n.notes ++ notes_of segments }
is_told w i a [] n = record_of (sym (append-nil n.frames)) (sym (append-nil n.notes))
is_told w i a (s ∷ ss) n =
    is_told (played w i a s) i (after_segment a s) ss (told w s n)
    ∙ record_of
    (append_assoc n.frames (numbered w.next_frame s.frames) (numbered (w.next_frame + length s.frames) (frames_of ss))
    ∙ ap (λ rs. n.frames ++ rs) (numbered_both w.next_frame s.frames (frames_of ss)))
    (append_assoc n.notes s.notes (notes_of ss))
