-- What the proxy's functions give, from the laws on its steps.
use Rattle.std.proofs.Common.{◌≡◌, ℕ, ◌^◌, ◌<◌, ◌==◌, Bool, true, false, List, [], ◌∷◌, Option, Some, None, Result, Ok, Err, refl, sym, ap, subst, ◌∙◌, not, ◌&&◌, ◌||◌, nat_lt, nat_le, if◌then◌else◌, true≢false, arith}
use Rattle.std.specs.FinMap.{len}
use Rattle.sl_defs.specs.declared.setup.Setup.{Setup}
use Rattle.sl_types.specs.declared.cred.Cred.{Cred}
use Rattle.sl_types.specs.declared.call.Call.TheVariants as call
use Rattle.sl_types.specs.declared.handle.Handle.{Handle}
use Rattle.sl_types.specs.Handles.{handle_of}
use Rattle.sl_types.specs.declared.kind.Status.{Status}
use Rattle.sl_types.specs.declared.kind.Status.TheVariants as status
use Rattle.sl_frames.specs.declared.frame.Frame.{Frame}
use Rattle.sl_history.specs.Turns.{Remark}
use Rattle.sl_history.specs.Arrivals.{IsAsked, datagram, most_waiting}
use Rattle.sl_history.specs.Placing.{object_server}
use Rattle.sl_machine.specs.Calls.{is_foreign}
use Rattle.sl_machine.specs.World.{Task, Arrives}
use Rattle.sl_world.specs.declared.look.Look.{Look}
use Rattle.sl_world.specs.declared.proxy.Proxy.{Proxy}
use Rattle.sl_world.specs.declared.step.Step.{Step}
use Rattle.sl_world.specs.Proxying.{MayStep, IsAdmitted, GivesArrival, reply_note, target, target_by, frame_of, with_look, without}
use Rattle.sl_world.proofs.Passing.{passes, IsNext}
use Rattle.sl_world.proofs.Answering.{refuses_call}

-- ---- steps

-- what the step sends and notes, and the proxy then, are these
pub with_step : (p new : Proxy) (n : ℕ) (t : Task) (step : Step) (now : Proxy) (frames : List Frame) (notes : List Remark) → step.frames ≡ frames → step.notes ≡ notes → now ≡ new
    → MayStep p n t frames notes new → MayStep p n t step.frames step.notes now
with_step p new n t step now frames notes sent noted is_now may x a here setup event memory = rw (sent, noted, is_now) (may x a here setup event memory)

-- ---- handles

-- the handle that a target is
pub record IsTarget (s : Setup) (object : List ℕ) (h : Handle) : Type 0 where
  pub is : handle_of object ≡ Some h
  pub own : is_foreign s h ≡ false

ok_of : (r : Result Handle Status) → Handle → Handle
ok_of (Ok h) other = h
ok_of (Err s) other = other

is_ok : Result Handle Status → Bool
is_ok (Ok h) = true
is_ok (Err s) = false

target_own : (s : Setup) (object : List ℕ) (g h : Handle) (b : Bool) → handle_of object ≡ Some g → is_foreign s g ≡ b → (if b then Err status.Stale else Ok g) ≡ Ok h → IsTarget s object h
unfolding ok_of is_ok
target_own s object g h true is own same = absurd (true≢false (sym (ap is_ok same)))
target_own s object g h false is own same = record {
  is = is ∙ ap (λ x. Some x) (ap (λ r. ok_of r g) same);
  own = subst (λ x. is_foreign s x ≡ false) (ap (λ r. ok_of r g) same) own;
}

target_from : (s : Setup) (object : List ℕ) (h : Handle) (o : Option Handle) → handle_of object ≡ o → target_by s o ≡ Ok h → IsTarget s object h
unfolding is_ok
target_from s object h None is same = absurd (true≢false (sym (ap is_ok same)))
target_from s object h (Some g) is same = target_own s object g h (is_foreign s g) is refl same

pub target_is : (s : Setup) (object : List ℕ) (h : Handle) → target s object ≡ Ok h → IsTarget s object h
target_is s object h same = target_from s object h (handle_of object) refl same

first_no : (a b : Bool) → (not a || not b) ≡ false → b ≡ true
first_no true true e = refl
first_no true false e = sym e
first_no false b e = absurd (true≢false e)

within : (f : ℕ) → (nat_lt 0 f && nat_lt f (2 ^ 46)) ≡ true → f < 2 ^ 46
within f e = grind arith

pub own_is_id : (s : Setup) (h : Handle) → is_foreign s h ≡ false → h.fileid < 2 ^ 46
own_is_id s h own = within h.fileid (first_no (h.volume == s.volume) (nat_lt 0 h.fileid && nat_lt h.fileid (2 ^ 46)) own)

-- ---- a call that is passed on, or refused

-- the next call that waits
pub new_look : (p : Proxy) (bytes : List ℕ) (xid : ℕ) (cred : Cred) (l : Look) → IsAdmitted p bytes xid cred l.handle → l.tag ≡ p.next_tag → l.to ≡ object_server p.setup l.handle.fileid → IsNext p l
new_look p bytes xid cred l admitted tag to = record { spelled = admitted.spelled; own = admitted.own; tag = tag; to = to }

pub given_pass : (p now : Proxy) (n : ℕ) (l : Look) (step : Step) → IsAdmitted p l.packet l.xid l.cred l.handle → l.tag ≡ p.next_tag → l.to ≡ object_server p.setup l.handle.fileid
    → step.frames ≡ frame_of (with_look p n l) n l ∷ [] → step.notes ≡ [] → now ≡ with_look p n l → GivesArrival p now n l.client l.packet (Ok step)
given_pass p now n l step admitted tag to sent noted is_now = (
  with_step p (with_look p n l) n (Arrives n l.client l.packet) step now (frame_of (with_look p n l) n l ∷ []) [] sent noted is_now
      (passes p n l admitted.welcomed admitted.room admitted.asked (new_look p l.packet l.xid l.cred l admitted tag to)),
  ap (λ q. q.setup) is_now,
)

pub given_refusal : (p now : Proxy) (n client xid : ℕ) (cred : Cred) (bytes object : List ℕ) (t : Status) (step : Step) → p.welcomed ≡ true → nat_le most_waiting (len p.pending) ≡ false
    → datagram bytes ≡ IsAsked (record { xid = xid; procedure = 1; call = call.Getattr object; cred = cred }) → target p.setup object ≡ Err t
    → step.frames ≡ [] → step.notes ≡ reply_note n n xid (Err t) ∷ [] → now ≡ without p n → GivesArrival p now n client bytes (Ok step)
given_refusal p now n client xid cred bytes object t step welcomed room asked refusal sent noted is_now = (
  with_step p (without p n) n (Arrives n client bytes) step now [] (reply_note n n xid (Err t) ∷ []) sent noted is_now
      (refuses_call p n client bytes (record { xid = xid; procedure = 1; call = call.Getattr object; cred = cred }) object t asked refl welcomed room refusal),
  ap (λ q. q.setup) is_now,
)

pub given_note : (p : Proxy) (n client : ℕ) (bytes : List ℕ) (r : Remark) (step : Step) → step.frames ≡ [] → step.notes ≡ r ∷ [] → MayStep p n (Arrives n client bytes) [] (r ∷ []) p
    → GivesArrival p p n client bytes (Ok step)
given_note p n client bytes r step sent noted may = (with_step p p n (Arrives n client bytes) step p [] (r ∷ []) sent noted refl may, refl)
