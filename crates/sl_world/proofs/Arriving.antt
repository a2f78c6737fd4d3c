-- What the proxy's functions give, whatever became of their steps.
use Rattle.std.proofs.Common.{◌≡◌, ℕ, ◌==◌, Bool, true, false, List, [], ◌∷◌, ◌++◌, Option, Some, None, Result, Ok, Err, refl, sym, ap, subst, ◌∙◌, not, ◌&&◌, nat_le, if◌then◌else◌, unwrap_or, true≢false, arith}
use Rattle.std.specs.Prelude.{IfOk}
use Rattle.std.specs.FinMap.{len}
use Rattle.sl_defs.specs.Rpc.{accepted_text}
use Rattle.sl_types.specs.declared.attributes.Fattr.{Fattr}
use Rattle.sl_types.specs.declared.cred.Cred.{Cred}
use Rattle.sl_types.specs.declared.call.Call.TheVariants as call
use Rattle.sl_types.specs.declared.handle.Handle.{Handle}
use Rattle.sl_types.specs.Handles.{handle_of, handle_text}
use Rattle.sl_types.specs.declared.kind.Status.{Status}
use Rattle.sl_types.specs.declared.reply.Reply.{Reply}
use Rattle.sl_types.specs.declared.reply.Reply.TheVariants as reply
use Rattle.sl_replies.specs.Texts.{reply_text}
use Rattle.sl_frames.specs.Actors.{is_data}
use Rattle.sl_frames.specs.declared.frame.Frame.{Frame}
use Rattle.sl_frames.specs.declared.body.Body.{Body}
use Rattle.sl_frames.specs.declared.body.Body.TheVariants as body
use Rattle.sl_history.specs.Turns.{Remark}
use Rattle.sl_history.specs.Turns as note
use Rattle.sl_history.specs.Arrivals.{Asked, IsAsked, IsAnswered, IsJunk, datagram, most_waiting}
use Rattle.sl_history.specs.Placing.{object_server}
use Rattle.sl_machine.specs.World.{Arrives}
use Rattle.sl_machine.specs.Packets.{reply_in}
use Rattle.sl_world.specs.declared.look.Look.{Look}
use Rattle.sl_world.specs.declared.proxy.Proxy.{Proxy}
use Rattle.sl_world.specs.declared.step.Step.{Step}
use Rattle.sl_world.specs.declared.step.StepFault.{StepFault}
use Rattle.sl_world.specs.declared.step.StepFault.TheVariants.{NotBuilt, Spent, NoMemory}
use Rattle.sl_world.specs.Admitting.{Noting, Sending, turned_away}
use Rattle.sl_world.specs.Proxying.{GivesArrival, GivesUse, IsAdmitted, IsOutFor, IsPassing, IsTaken, IsUsable, MayStep, frame_of, is_passing, reply_note, target, with_look, without}
use Rattle.sl_world.proofs.Answering.{drops_junk, answers_now, drops_early, drops_full}
use Rattle.sl_world.proofs.Giving.{given_note, given_pass, given_refusal, target_is}
use Rattle.sl_world.proofs.Using.{used_welcome, used_packet}

-- ---- a datagram

noted : (p : Proxy) (n client : ℕ) (bytes : List ℕ) (r : Remark) (result : Result Step StepFault) → Noting r result → MayStep p n (Arrives n client bytes) [] (r ∷ []) p
    → GivesArrival p p n client bytes result
noted p n client bytes r (Ok step) says may = given_note p n client bytes r step says.0 says.1 may
noted p n client bytes r (Err NoMemory) says may = tt
noted p n client bytes r (Err NotBuilt) says may = absurd says
noted p n client bytes r (Err Spent) says may = absurd says

pub junk_noted : (p : Proxy) (n client : ℕ) (bytes : List ℕ) (result : Result Step StepFault) → datagram bytes ≡ IsJunk → Noting (note.Junk n) result → GivesArrival p p n client bytes result
junk_noted p n client bytes result is says = noted p n client bytes (note.Junk n) result says (drops_junk p n client bytes is)

pub answer_noted : (p : Proxy) (n client : ℕ) (bytes answer : List ℕ) (result : Result Step StepFault) → datagram bytes ≡ IsAnswered answer → Noting (note.Replied n n answer) result
    → GivesArrival p p n client bytes result
answer_noted p n client bytes answer result is says = noted p n client bytes (note.Replied n n answer) result says (answers_now p n client bytes answer is)

-- ---- a call that is turned away, and one that isn't

by_case : Bool → Bool → ℕ → Option Remark
by_case welcomed full n = if not welcomed then Some (note.Early n) else if full then Some (note.Full n) else None

away : (p : Proxy) (n client : ℕ) (bytes : List ℕ) (q : Asked) (r : Remark) (w b : Bool) → p.welcomed ≡ w → nat_le most_waiting (len p.pending) ≡ b → datagram bytes ≡ IsAsked q
    → by_case w b n ≡ Some r → MayStep p n (Arrives n client bytes) [] (r ∷ []) p
unfolding by_case
away p n client bytes q r false b welcomed full is same =
    subst (λ r. MayStep p n (Arrives n client bytes) [] (r ∷ []) p) (ap (λ o. unwrap_or o r) same) (drops_early p n client bytes q is welcomed)
away p n client bytes q r true true welcomed full is same =
    subst (λ r. MayStep p n (Arrives n client bytes) [] (r ∷ []) p) (ap (λ o. unwrap_or o r) same) (drops_full p n client bytes q is welcomed full)
away p n client bytes q r true false welcomed full is same = absurd cc

pub away_noted : (p : Proxy) (n client : ℕ) (bytes : List ℕ) (q : Asked) (r : Remark) (result : Result Step StepFault) → datagram bytes ≡ IsAsked q → turned_away p n ≡ Some r
    → Noting r result → GivesArrival p p n client bytes result
unfolding by_case
away_noted p n client bytes q r result is same says =
    noted p n client bytes r result says (away p n client bytes q r p.welcomed (nat_le most_waiting (len p.pending)) refl refl is same)

-- what is known of a proxy that takes a call
record Takes (p : Proxy) : Type 0 where
  welcomed : p.welcomed ≡ true
  room : nat_le most_waiting (len p.pending) ≡ false

takes_by : (p : Proxy) (n : ℕ) (w b : Bool) → p.welcomed ≡ w → nat_le most_waiting (len p.pending) ≡ b → by_case w b n ≡ None → Takes p
unfolding by_case
takes_by p n false b welcomed full none = absurd cc
takes_by p n true true welcomed full none = absurd cc
takes_by p n true false welcomed full none = record { welcomed = welcomed; room = full }

takes : (p : Proxy) (n : ℕ) → turned_away p n ≡ None → Takes p
unfolding by_case
takes p n none = takes_by p n p.welcomed (nat_le most_waiting (len p.pending)) refl refl none

-- a GETATTR is procedure 1, of the object that was read
pub asked_so : (bytes object seen : List ℕ) (q : Asked) → datagram bytes ≡ IsAsked q → q.procedure ≡ 1 → q.call ≡ call.Getattr object → seen ≡ object
    → datagram bytes ≡ IsAsked (record { xid = q.xid; procedure = 1; call = call.Getattr seen; cred = q.cred })
asked_so bytes object seen q is first asks same = is ∙ ap (λ p. IsAsked (record { xid = q.xid; procedure = p; call = q.call; cred = q.cred })) first
    ∙ ap (λ c. IsAsked (record { xid = q.xid; procedure = 1; call = c; cred = q.cred })) (asks ∙ ap (λ o. call.Getattr o) (sym same))

pub not_taken : (bytes : List ℕ) (q : Asked) → datagram bytes ≡ IsAsked q → ((object : List ℕ) → q.call ≡ call.Getattr object → ⊥) → IsTaken (datagram bytes) → ⊥
not_taken bytes q is other taken = let getattr = subst IsTaken is taken in other getattr.object getattr.is

pub admitted : (p : Proxy) (n xid : ℕ) (cred : Cred) (bytes object : List ℕ) (h : Handle) → turned_away p n ≡ None
    → datagram bytes ≡ IsAsked (record { xid = xid; procedure = 1; call = call.Getattr object; cred = cred }) → target p.setup object ≡ Ok h → object ≡ handle_text h
    → IsAdmitted p bytes xid cred h
unfolding takes takes_by
admitted p n xid cred bytes object h none asked is spelled =
    let t = takes p n none in
    let found = target_is p.setup object h is in
    record {
      welcomed = t.welcomed;
      room = t.room;
      asked = asked ∙ ap (λ o. IsAsked (record { xid = xid; procedure = 1; call = call.Getattr o; cred = cred })) spelled;
      spelled = ap handle_of (sym spelled) ∙ found.is;
      own = found.own;
    }

pub refusal_noted : (p now : Proxy) (n client xid : ℕ) (cred : Cred) (bytes object : List ℕ) (t : Status) (result : Result Step StepFault) → turned_away p n ≡ None
    → datagram bytes ≡ IsAsked (record { xid = xid; procedure = 1; call = call.Getattr object; cred = cred }) → target p.setup object ≡ Err t
    → Noting (reply_note n n xid (Err t)) result → now ≡ without p n → GivesArrival p now n client bytes result
refusal_noted p now n client xid cred bytes object t (Ok step) none asked refusal says is_now =
    let t' = takes p n none in
    given_refusal p now n client xid cred bytes object t step t'.welcomed t'.room asked refusal says.0 says.1 is_now
refusal_noted p now n client xid cred bytes object t (Err NoMemory) none asked refusal says is_now = tt
refusal_noted p now n client xid cred bytes object t (Err NotBuilt) none asked refusal says is_now = absurd says
refusal_noted p now n client xid cred bytes object t (Err Spent) none asked refusal says is_now = absurd says

pub request_sent : (p now : Proxy) (n : ℕ) (l : Look) (result : Result Step StepFault) → IsAdmitted p l.packet l.xid l.cred l.handle → l.tag ≡ p.next_tag
    → l.to ≡ object_server p.setup l.handle.fileid → Sending (frame_of (with_look p n l) n l) result → IfOk result (λ step. now ≡ with_look p n l)
    → GivesArrival p now n l.client l.packet result
request_sent p now n l (Ok step) admitted tag to says is_now = given_pass p now n l step admitted tag to says.0 says.1 is_now
request_sent p now n l (Err NoMemory) admitted tag to says is_now = tt
request_sent p now n l (Err NotBuilt) admitted tag to says is_now = absurd says
request_sent p now n l (Err Spent) admitted tag to says is_now = absurd says

-- ---- a Welcome

pub welcome_noted : (p : Proxy) (f : Frame) (e : ℕ) (result : Result Step StepFault) → f.«body» ≡ body.Welcome → f.fence ≡ p.fence → f.from ≡ 1 → p.welcomed ≡ false
    → Noting (note.Verf p.fence) result → GivesUse p (record p { welcomed = true }) f e result
welcome_noted p f e (Ok step) kind fence sender first says = used_welcome p (record p { welcomed = true }) f e step kind fence sender first says.0 says.1 refl
welcome_noted p f e (Err NoMemory) kind fence sender first says = tt
welcome_noted p f e (Err NotBuilt) kind fence sender first says = absurd says
welcome_noted p f e (Err Spent) kind fence sender first says = absurd says

pub other_fence : (a b : ℕ) (rest : Bool) → (a ≡ b → ⊥) → (a == b && rest) ≡ false
other_fence a b rest other = grind arith

pub other_sender : (a b c : ℕ) (rest : Bool) → (c ≡ 1 → ⊥) → (a == b && (c == 1 && rest)) ≡ false
other_sender a b c rest other = grind arith

pub welcomed_before : (a b c : ℕ) (w : Bool) → w ≡ true → (a == b && (c == 1 && not w)) ≡ false
welcomed_before a b c w again = grind arith

-- ---- an answer

-- a reply that passes is one to GETATTR
record IsOutcome (answer : Reply) : Type 0 where
  outcome : Result Fattr Status
  is : answer ≡ reply.Getattr outcome
  passing : is_passing outcome ≡ true

of_passing : (answer : Reply) → IsPassing (Some answer) → IsOutcome answer
of_passing (reply.Getattr r) pass = record { outcome = r; is = refl; passing = pass }
of_passing reply.Null pass = absurd pass
of_passing (reply.Setattr status wcc) pass = absurd pass
of_passing (reply.Lookup r) pass = absurd pass
of_passing (reply.Access r) pass = absurd pass
of_passing (reply.Readlink r) pass = absurd pass
of_passing (reply.Read r) pass = absurd pass
of_passing (reply.Write r) pass = absurd pass
of_passing (reply.Create r) pass = absurd pass
of_passing (reply.Mkdir r) pass = absurd pass
of_passing (reply.Symlink r) pass = absurd pass
of_passing (reply.Mknod r) pass = absurd pass
of_passing (reply.Remove status wcc) pass = absurd pass
of_passing (reply.Rmdir status wcc) pass = absurd pass
of_passing (reply.Rename status from to) pass = absurd pass
of_passing (reply.Link status attributes wcc) pass = absurd pass
of_passing (reply.Readdir r) pass = absurd pass
of_passing (reply.Readdirplus r) pass = absurd pass
of_passing (reply.Fsstat r) pass = absurd pass
of_passing (reply.Fsinfo r) pass = absurd pass
of_passing (reply.Pathconf r) pass = absurd pass
of_passing (reply.Commit r) pass = absurd pass

used : (p now : Proxy) (f : Frame) (e k : ℕ) (r : Result Fattr Status) (packet : List ℕ) (result : Result Step StepFault) (out : IsOutFor p.pending f.from f.tag k) → f.«body» ≡ body.Packet packet
    → f.fence ≡ p.fence → is_data f.from ≡ false → reply_in 1 packet ≡ Some (reply.Getattr r) → is_passing r ≡ true
    → Noting (reply_note k e out.look.xid r) result → now ≡ without p k → GivesUse p now f e result
used p now f e k r packet (Ok step) out kind fence directory says passing notes is_now =
    used_packet p now f e k r packet step out kind fence directory says passing notes.0 notes.1 is_now
used p now f e k r packet (Err NoMemory) out kind fence directory says passing notes is_now = tt
used p now f e k r packet (Err NotBuilt) out kind fence directory says passing notes is_now = absurd notes
used p now f e k r packet (Err Spent) out kind fence directory says passing notes is_now = absurd notes

pub reply_noted : (p now : Proxy) (f : Frame) (e k : ℕ) (answer : Reply) (packet : List ℕ) (result : Result Step StepFault) (out : IsOutFor p.pending f.from f.tag k) → f.«body» ≡ body.Packet packet
    → f.fence ≡ p.fence → is_data f.from ≡ false → reply_in 1 packet ≡ Some answer → IsPassing (Some answer)
    → Noting (note.Replied k e (accepted_text out.look.xid 0 ++ reply_text answer)) result → now ≡ without p k → GivesUse p now f e result
reply_noted p now f e k answer packet result out kind fence directory says pass notes is_now =
    let o = of_passing answer pass in
    used p now f e k o.outcome packet result out kind fence directory (says ∙ ap (λ a. Some a) o.is) o.passing
    (subst (λ a. Noting (note.Replied k e (accepted_text out.look.xid 0 ++ reply_text a)) result) o.is notes) is_now

-- ---- what isn't built

pub no_packet : (f : Frame) (b : Body) → (b ≡ body.Welcome → ⊥) → ((packet : List ℕ) → b ≡ body.Packet packet → ⊥) → IsUsable f b → ⊥
no_packet f body.Welcome not_welcome not_packet usable = not_welcome refl
no_packet f (body.Packet bytes) not_welcome not_packet usable = not_packet bytes refl
no_packet f body.Hello not_welcome not_packet usable = usable
no_packet f (body.Forward chosen packet) not_welcome not_packet usable = usable
no_packet f (body.Ask keys) not_welcome not_packet usable = usable
no_packet f (body.Found cells) not_welcome not_packet usable = usable
no_packet f (body.List dir cookie limit) not_welcome not_packet usable = usable
no_packet f (body.Listed cells more) not_welcome not_packet usable = usable
no_packet f (body.Mint site) not_welcome not_packet usable = usable
no_packet f (body.Minted fileid) not_welcome not_packet usable = usable
no_packet f (body.Intent intent) not_welcome not_packet usable = usable
no_packet f (body.Decided agreed) not_welcome not_packet usable = usable
no_packet f (body.Lock work) not_welcome not_packet usable = usable
no_packet f body.Grant not_welcome not_packet usable = usable
no_packet f body.Refuse not_welcome not_packet usable = usable
no_packet f body.Apply not_welcome not_packet usable = usable
no_packet f body.Release not_welcome not_packet usable = usable
no_packet f body.Ack not_welcome not_packet usable = usable

pub no_directory : (f : Frame) (packet : List ℕ) → f.«body» ≡ body.Packet packet → is_data f.from ≡ true → IsUsable f f.«body» → ⊥
no_directory f packet kind server usable = true≢false (sym server ∙ (subst (IsUsable f) kind usable).0)

pub no_pass : (f : Frame) (packet : List ℕ) (answer : Reply) → f.«body» ≡ body.Packet packet → reply_in 1 packet ≡ Some answer → (IsPassing (Some answer) → ⊥) → IsUsable f f.«body» → ⊥
no_pass f packet answer kind says other usable = other (subst IsPassing says (subst (IsUsable f) kind usable).1)
