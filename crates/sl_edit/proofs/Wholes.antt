-- A packet is a call, or a reply, exactly where reading it from its front finds its parts.
use Rattle.std.proofs.Common.{◌≡◌, ℕ, ◌^◌, ◌<◌, Bool, true, false, cond, eqb, List, ◌++◌, length, drop, Option, Some, None, refl, sym, ap, subst, ◌∙◌}
use Rattle.std.specs.Prelude.{◌↔◌, is_some}
use Rattle.std.proofs.lemmas.Bool.{eqb-true}
use Rattle.std.proofs.lemmas.List.{drop_at}
use Rattle.std.proofs.lemmas.Option.{cond_some}
use Rattle.sl_defs.specs.Items.{u32_text, AreBytes, u32_at, ◌>>=◌}
use Rattle.sl_defs.specs.Rpc.{CallHeader, Refusal, RpcMismatch, CredentialTooWeak, CredentialBroken, ProgramUnavailable, ProgramMismatch, ProcedureUnavailable, call_header_at, refusal_of, accepted_text}
use Rattle.sl_defs.proofs.ItemLaws.{bind_some, guard_some, Takes, u32_takes, u32_step, join}
use Rattle.sl_defs.proofs.Readers.{same_some}
use Rattle.sl_defs.proofs.HeaderLaws.{header_found, header_takes}
use Rattle.sl_types.specs.declared.call.Call.{Call}
use Rattle.sl_types.specs.declared.reply.Reply.{Reply}
use Rattle.sl_types.specs.declared.cred.Cred.{Cred}
use Rattle.sl_rpc.specs.declared.head.Head.{Head}
use Rattle.sl_rpc.specs.declared.head.Head.TheVariants as head
use Rattle.sl_rpc.specs.Heads.{BeginsAs, IsHeadOf, head_by, caller_of}
use Rattle.sl_calls.specs.Args.{BeginsWithArgs, procedure_of}
use Rattle.sl_replies.specs.Results.{IsReplyTo}
use Rattle.sl_edit.specs.Packets.{IsCall, IsReply}
use Rattle.sl_edit.specs.Spans.{word_at, args_in, results_in}
use Rattle.sl_edit.proofs.CallSlots.{args_found}
use Rattle.sl_edit.proofs.ReplySlots.{results_found}

-- ---- calls

abbrev number_in : Head → ℕ
number_in (head.Call xid procedure cred args) = procedure
number_in other = 0

abbrev place_in : Head → ℕ
place_in (head.Call xid procedure cred args) = args
place_in other = 0

served_by : (header : CallHeader) (place : ℕ) (reason : Option Refusal) (xid procedure args : ℕ) (cred : Cred) → head.Call xid procedure cred args ≡ head_by header place reason
    → (reason ≡ None) × (header.procedure ≡ procedure) × (place ≡ args)
served_by header place None xid procedure args cred e = (refl, sym (ap number_in e), sym (ap place_in e))
served_by header place (Some RpcMismatch) xid procedure args cred e = absurd cc
served_by header place (Some CredentialTooWeak) xid procedure args cred e = absurd cc
served_by header place (Some CredentialBroken) xid procedure args cred e = absurd cc
served_by header place (Some ProgramUnavailable) xid procedure args cred e = absurd cc
served_by header place (Some ProgramMismatch) xid procedure args cred e = absurd cc
served_by header place (Some ProcedureUnavailable) xid procedure args cred e = absurd cc

pub args_of_call : (packet : List ℕ) (xid procedure args : ℕ) (cred : Cred) → IsHeadOf packet (head.Call xid procedure cred args) → args_in packet ≡ Some (procedure, drop args packet)
unfolding args_in
args_of_call packet xid procedure args cred b =
    let begins = b.begins in
    let s = served_by b.header b.args (refusal_of b.header) xid procedure args cred b.says in
    let behind : drop args packet ≡ begins.rest = ap (drop args) begins.whole ∙ drop_at begins.text begins.rest args (sym begins.place ∙ s.2) in
    ap args_in begins.whole ∙ rw (header_found begins.text b.header begins.rest begins.header, s.0, s.1, behind) refl

-- a head that is no call
unserved_by : (header : CallHeader) (place : ℕ) (reason : Option Refusal) (answer : Head) → answer ≡ head_by header place reason → ((xid procedure args : ℕ) (cred : Cred) → answer ≡ head.Call xid procedure cred args → ⊥) → is_some reason ≡ true
unserved_by header place None answer e other = absurd (other header.xid header.procedure place (caller_of header) e)
unserved_by header place (Some r) answer e other = refl

no_args_of : (packet : List ℕ) (answer : Head) → BeginsAs packet answer → ((xid procedure args : ℕ) (cred : Cred) → answer ≡ head.Call xid procedure cred args → ⊥) → args_in packet ≡ None
unfolding args_in
no_args_of packet answer b other =
    let begins = b.begins in
    ap args_in begins.whole ∙ rw (header_found begins.text b.header begins.rest begins.header, unserved_by b.header b.args (refusal_of b.header) answer b.says other) refl

unrefused : (reason : Option Refusal) → is_some reason ≡ false → reason ≡ None
unrefused None e = refl
unrefused (Some r) e = absurd cc

-- what stands behind a header, if that refuses no call
abbrev served : CallHeader × List ℕ → Option (ℕ × List ℕ)
served header = cond (is_some (refusal_of header.0)) None (Some (header.0.procedure, header.1))

pub no_args : (packet : List ℕ) (answer : Head) → AreBytes packet → IsHeadOf packet answer → ((xid procedure args : ℕ) (cred : Cred) → answer ≡ head.Call xid procedure cred args → ⊥) → args_in packet ≡ None
unfolding args_in
no_args packet head.NotCall fits none other =
    elim (call_header_at packet) as (λ o. call_header_at packet ≡ o → (o >>= served) ≡ None) [
      | None ↦ λ e. refl
      | Some x ↦ λ e. let t = header_takes packet x fits e in absurd (none x.0 (length t.0) (record { text = t.0; rest = x.1; header = t.1; place = refl; whole = t.2 }))
    ] refl
no_args packet (head.Deny xid reason) fits b other = no_args_of packet (head.Deny xid reason) b other
no_args packet (head.Accept xid stat) fits b other = no_args_of packet (head.Accept xid stat) b other
no_args packet (head.Call xid procedure cred args) fits b other = absurd (other xid procedure args cred refl)

pub is_call : (packet : List ℕ) (procedure : ℕ) (args : List ℕ) (readable : Bool) → AreBytes packet → args_in packet ≡ Some (procedure, args) → (readable ≡ true → (c : Call) × BeginsWithArgs procedure c args) → (readable ≡ false → (c : Call) → BeginsWithArgs procedure c args → ⊥) → (readable ≡ true) ↔ IsCall packet
unfolding args_in
is_call packet procedure args readable fits e found garbage =
    let b = bind_some (call_header_at packet) _ (procedure, args) e in
    let g = guard_some (is_some (refusal_of b.0.0)) (b.0.0.procedure, b.0.1) (procedure, args) b.2 in
    let t = header_takes packet b.0 fits b.1 in
    let same : b.0.0.procedure ≡ procedure = ap (λ (x : ℕ × List ℕ). x.0) g.1 in
    let rest : b.0.1 ≡ args = ap (λ (x : ℕ × List ℕ). x.1) g.1 in (
      λ yes.
          let f = found yes in
          (b.0.0, f.0, record { head = t.0; args = args; is_header = t.1; accepted = unrefused (refusal_of b.0.0) g.0; begins = subst (λ (n : ℕ). BeginsWithArgs n f.0 args) (sym same) f.1; whole = t.2 ∙ ap (λ (r : List ℕ). t.0 ++ r) rest }),
      λ is.
          let there = args_found packet is.0 is.1 is.2 in
          let both = same_some (procedure, args) (procedure_of is.1, is.2.begins.text ++ is.2.begins.rest) (sym e ∙ there) in
          elim readable as (λ r. readable ≡ r → r ≡ true) [
            | true ↦ λ yes. refl
            | false ↦ λ unread. absurd (garbage unread is.1 (record { number = sym (ap (λ (x : ℕ × List ℕ). x.0) both); text = is.2.begins.text; rest = is.2.begins.rest; args = is.2.begins.args; whole = ap (λ (x : ℕ × List ℕ). x.1) both }))
          ] refl,
    )

-- no packet is a call in which no arguments are found
pub no_call : (packet : List ℕ) (readable : Bool) → args_in packet ≡ None → readable ≡ false → (readable ≡ true) ↔ IsCall packet
no_call packet readable none unread = (
  λ yes. absurd cc,
  λ is.
      let clash : ◌≡◌ {A = Option (ℕ × List ℕ)} None (Some (procedure_of is.1, is.2.begins.text ++ is.2.begins.rest)) = sym none ∙ args_found packet is.0 is.1 is.2 in
      absurd cc,
)

-- ---- replies

word_takes : (k : ℕ) (bytes rest : List ℕ) → AreBytes bytes → word_at k bytes ≡ Some rest → Takes bytes (u32_text k) rest
unfolding word_at
word_takes k bytes rest fits e =
    let b = bind_some (u32_at bytes) _ rest e in
    let g = cond_some (eqb b.0.0 k) b.0.1 rest b.2 in
    let t = u32_takes bytes b.0 fits b.1 in
    subst (λ (r : List ℕ). Takes bytes (u32_text k) r) g.1 (subst (λ (n : ℕ). Takes bytes (u32_text n) b.0.1) (eqb-true _ _ g.0) t.0)

word_step : {B : Type 0} (k : ℕ) (bytes : List ℕ) (f : List ℕ → Option B) (y : B) (P : Type 0) → AreBytes bytes → (word_at k bytes >>= f) ≡ Some y
    → ((rest : List ℕ) → AreBytes rest → bytes ≡ u32_text k ++ rest → f rest ≡ Some y → P) → P
word_step k bytes f y P fits e go =
    let b = bind_some (word_at k bytes) f y e in
    let t = word_takes k bytes b.0 fits b.1 in
    go b.0 t.rest_fits t.parts b.2

-- The packet is the head of an accepted reply, and then these results.
abbrev Accepted : List ℕ → List ℕ → Type 0
Accepted packet results = (xid : ℕ) × (xid < 2 ^ 32) × (packet ≡ accepted_text xid 0 ++ results)

results_take : (packet results : List ℕ) → AreBytes packet → results_in packet ≡ Some results → Accepted packet results
unfolding results_in accepted_text
results_take packet results fits e =
    let P = Accepted packet results in
    u32_step packet _ results P fits e (λ xid r0 l0 f0 p0 e0.
    word_step 1 r0 _ results P f0 e0 (λ r1 f1 p1 e1.
    word_step 0 r1 _ results P f1 e1 (λ r2 f2 p2 e2.
    word_step 0 r2 _ results P f2 e2 (λ r3 f3 p3 e3.
    word_step 0 r3 _ results P f3 e3 (λ r4 f4 p4 e4.
    let t = word_takes 0 r4 results f4 e4 in (
      xid,
      l0,
      join packet (u32_text xid) r0 _ results p0 (
          join r0 (u32_text 1) r1 _ results p1 (
          join r1 (u32_text 0) r2 _ results p2 (
          join r2 (u32_text 0) r3 _ results p3 (
          join r3 (u32_text 0) r4 (u32_text 0) results p4 t.parts)))),
    ))))))

pub is_reply : (procedure : ℕ) (packet results : List ℕ) (readable : Bool) → AreBytes packet → results_in packet ≡ Some results → (readable ≡ true → (r : Reply) × IsReplyTo procedure r results) → (readable ≡ false → (r : Reply) → IsReplyTo procedure r results → ⊥) → (readable ≡ true) ↔ IsReply procedure packet
is_reply procedure packet results readable fits e found garbage =
    let t = results_take packet results fits e in (
      λ yes. let f = found yes in (t.0, f.0, record { results = results; fits = t.1; is_reply = f.1; whole = t.2 }),
      λ is.
          let there : results_in packet ≡ Some is.2.results = ap results_in is.2.whole ∙ results_found is.0 is.2.results is.2.fits in
          let same = same_some results is.2.results (sym e ∙ there) in
          elim readable as (λ b. readable ≡ b → b ≡ true) [
            | true ↦ λ yes. refl
            | false ↦ λ unread. absurd (garbage unread is.1 (subst (λ (t : List ℕ). IsReplyTo procedure is.1 t) (sym same) is.2.is_reply))
          ] refl,
    )

pub no_reply : (procedure : ℕ) (packet : List ℕ) (readable : Bool) → results_in packet ≡ None → readable ≡ false → (readable ≡ true) ↔ IsReply procedure packet
no_reply procedure packet readable none unread = (
  λ yes. absurd cc,
  λ is.
      let clash : ◌≡◌ {A = Option (List ℕ)} None (Some is.2.results) = sym none ∙ ap results_in is.2.whole ∙ results_found is.0 is.2.results is.2.fits in
      absurd cc,
)
