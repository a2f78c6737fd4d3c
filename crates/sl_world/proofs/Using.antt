-- What the proxy's functions give for a frame, from the laws on its steps.
use Rattle.std.proofs.Common.{◌≡◌, ℕ, ◌==◌, true, false, List, [], ◌∷◌, Some, None, Result, Ok, refl, sym, ap, ◌∙◌, not, ◌&&◌, is_some, true≢false}
use Rattle.sl_types.specs.declared.attributes.Fattr.{Fattr}
use Rattle.sl_types.specs.declared.kind.Status.{Status}
use Rattle.sl_types.specs.declared.reply.Reply.TheVariants as reply
use Rattle.sl_frames.specs.Actors.{is_data}
use Rattle.sl_frames.specs.declared.frame.Frame.{Frame}
use Rattle.sl_frames.specs.declared.body.Body.TheVariants as body
use Rattle.sl_history.specs.Bodies.{is_welcome}
use Rattle.sl_history.specs.Turns.{Remark}
use Rattle.sl_history.specs.Turns as note
use Rattle.sl_machine.specs.World.{Given}
use Rattle.sl_machine.specs.Packets.{reply_in}
use Rattle.sl_machine.specs.Proxies.{has_answer}
use Rattle.sl_world.specs.declared.look.Look.{Look}
use Rattle.sl_world.specs.declared.proxy.Proxy.{Proxy}
use Rattle.sl_world.specs.declared.step.Step.{Step}
use Rattle.sl_world.specs.Proxying.{GivesUse, IsOut, IsOutFor, reply_note, without, is_passing, waiting_of, request_of}
use Rattle.sl_world.proofs.Passing.{and_false}
use Rattle.sl_world.proofs.Answering.{IsUnused, is_welcomed, passes_over, answers_call}
use Rattle.sl_world.proofs.Giving.{with_step}

-- ---- what is passed over

pub used_nothing : (p : Proxy) (f : Frame) (e : ℕ) (step : Step) → IsUnused p f → step.frames ≡ [] → step.notes ≡ [] → GivesUse p p f e (Ok step)
used_nothing p f e step unused sent noted = (λ n. with_step p p n (Given f e) step p [] [] sent noted refl (passes_over p n e f unused), refl)

no_answer_welcome : (l : Look) (f : Frame) → f.«body» ≡ body.Welcome → has_answer (waiting_of l) (request_of l).«body» f.«body» ≡ true → ⊥
no_answer_welcome l f kind answers = true≢false (sym answers ∙ ap (has_answer (waiting_of l) (request_of l).«body») kind)

pub unused_welcome : (p : Proxy) (f : Frame) → f.«body» ≡ body.Welcome → (f.fence == p.fence && (f.from == 1 && not p.welcomed)) ≡ false → IsUnused p f
unused_welcome p f kind none = record {
  no_answer = λ k l waits fence tag sender answers. no_answer_welcome l f kind answers;
  no_welcome = ap (λ b. f.fence == p.fence && (is_welcome b && (f.from == 1 && not p.welcomed))) kind ∙ none;
}

no_welcome : (p : Proxy) (f : Frame) (packet : List ℕ) → f.«body» ≡ body.Packet packet → (f.fence == p.fence && (is_welcome f.«body» && (f.from == 1 && not p.welcomed))) ≡ false
no_welcome p f packet kind = ap (λ b. f.fence == p.fence && (is_welcome b && (f.from == 1 && not p.welcomed))) kind ∙ and_false (f.fence == p.fence)

-- of another fence
pub unused_fence : (p : Proxy) (f : Frame) (packet : List ℕ) → f.«body» ≡ body.Packet packet → (f.fence ≡ p.fence → ⊥) → IsUnused p f
unused_fence p f packet kind other = record { no_answer = λ k l waits fence tag sender answers. other fence; no_welcome = no_welcome p f packet kind }

-- to no request that is out
pub unused_tag : (p : Proxy) (f : Frame) (packet : List ℕ) → f.«body» ≡ body.Packet packet → IsOut p.pending f.from f.tag None → IsUnused p f
unused_tag p f packet kind none = record {
  no_answer = λ k l waits fence tag sender answers. none k (record { look = l; waits = waits; to = sym sender; is = sym tag });
  no_welcome = no_welcome p f packet kind;
}

-- with no reply to the call's procedure
pub unused_reply : (p : Proxy) (f : Frame) (packet : List ℕ) → f.«body» ≡ body.Packet packet → reply_in 1 packet ≡ None → IsUnused p f
unused_reply p f packet kind none = record {
  no_answer = λ k l waits fence tag sender answers.
      true≢false (sym answers ∙ ap (has_answer (waiting_of l) (request_of l).«body») kind ∙ ap is_some none);
  no_welcome = no_welcome p f packet kind;
}

-- ---- what is used

pub used_welcome : (p now : Proxy) (f : Frame) (e : ℕ) (step : Step) → f.«body» ≡ body.Welcome → f.fence ≡ p.fence → f.from ≡ 1 → p.welcomed ≡ false
    → step.frames ≡ [] → step.notes ≡ note.Verf p.fence ∷ [] → now ≡ record p { welcomed = true } → GivesUse p now f e (Ok step)
used_welcome p now f e step kind fence sender first sent noted is_now = (
  λ n. with_step p (record p { welcomed = true }) n (Given f e) step now [] (note.Verf p.fence ∷ []) sent noted is_now (is_welcomed p n e f fence kind sender first),
  ap (λ q. q.setup) is_now,
)

pub used_packet : (p now : Proxy) (f : Frame) (e k : ℕ) (r : Result Fattr Status) (packet : List ℕ) (step : Step) (out : IsOutFor p.pending f.from f.tag k) → f.«body» ≡ body.Packet packet
    → f.fence ≡ p.fence → is_data f.from ≡ false → reply_in 1 packet ≡ Some (reply.Getattr r) → is_passing r ≡ true
    → step.frames ≡ [] → step.notes ≡ reply_note k e out.look.xid r ∷ [] → now ≡ without p k → GivesUse p now f e (Ok step)
used_packet p now f e k r packet step out kind fence directory says passing sent noted is_now = (
  λ n. with_step p (without p k) n (Given f e) step now [] (reply_note k e out.look.xid r ∷ []) sent noted is_now
      (answers_call p n e f k out.look r passing
      (record { packet = packet; waits = out.waits; fence = fence; tag = sym out.is; sender = sym out.to; by_directory = directory; kind = kind; says = says })),
  ap (λ q. q.setup) is_now,
)
