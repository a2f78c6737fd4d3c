-- A datagram by its header: answered by it, or a call with these arguments, or junk.
use Rattle.std.proofs.Common.{◌≡◌, ◌-◌, ℕ, List, ◌++◌, length, take, drop, Option, Some, None, refl, sym, ap, ◌∙◌, arith}
use Rattle.std.proofs.Math.Seq.{drop-append_seam}
use Rattle.std.proofs.lemmas.List.{take_all, length-drop}
use Rattle.sl_defs.specs.Items.{AreBytes}
use Rattle.sl_defs.specs.Rpc.{CallHeader, BeginsWithHeader, HasNoHeader, Refusal, RpcMismatch, CredentialTooWeak, CredentialBroken, ProgramUnavailable, ProgramMismatch, ProcedureUnavailable, refusal_of, immediate_of, refused_with, immediate_reply, call_header_at}
use Rattle.sl_defs.proofs.HeaderLaws.{header_takes, header_found}
use Rattle.sl_types.specs.declared.call.Call.{Call}
use Rattle.sl_types.specs.declared.cred.Cred.{Cred}
use Rattle.sl_rpc.specs.declared.head.Head.{Head}
use Rattle.sl_rpc.specs.declared.head.Head.TheVariants as head
use Rattle.sl_rpc.specs.Heads.{caller_of, head_by, head_of, BeginsAs, IsHeadOf}
use Rattle.sl_calls.specs.Reading.{args_at}
use Rattle.sl_history.specs.Arrivals.{IsJunk, IsAnswered, with_args, with_header, read_header, datagram}
use Rattle.sl_datagram.specs.Datagrams.{with_read}

-- What a head is answered by its header alone.
abbrev pub AnswersAtOnce : Head → Option (List ℕ) → Type 0
AnswersAtOnce answer reply = (h : CallHeader) (args : ℕ) → answer ≡ head_of h args → reply ≡ immediate_reply h

-- ---- the header at the front

module _ (bytes : List ℕ) (h : CallHeader) (args : ℕ) (begins : BeginsWithHeader bytes h args) where
  behind : begins.rest ≡ drop args bytes
  behind = sym (drop-append_seam begins.text begins.rest) ∙ ap (λ (n : ℕ). drop n (begins.text ++ begins.rest)) (sym begins.place) ∙ ap (drop args) (sym begins.whole)

  is_read : call_header_at bytes ≡ Some (h, drop args bytes)
  is_read = ap call_header_at begins.whole ∙ header_found begins.text h begins.rest begins.header ∙ ap (λ (rest : List ℕ). Some (h, rest)) behind

  by_header : datagram bytes ≡ with_header h (drop args bytes) (immediate_reply h)
  unfolding datagram
  by_header = ap read_header is_read

-- a header that can be read stands at the front
some_header : (bytes : List ℕ) (read : Option (CallHeader × List ℕ)) → AreBytes bytes → HasNoHeader bytes → call_header_at bytes ≡ read → read_header read ≡ IsJunk
some_header bytes None fits none e = refl
some_header bytes (Some x) fits none e =
    let taken = header_takes bytes x fits e in
    absurd (none x.0 (length taken.0) (record { text = taken.0; rest = x.1; header = taken.1; place = refl; whole = taken.2 }))

without_header : (bytes : List ℕ) → AreBytes bytes → HasNoHeader bytes → datagram bytes ≡ IsJunk
unfolding datagram
without_header bytes fits none = some_header bytes (call_header_at bytes) fits none refl

-- ---- a datagram with an answer

answered_by : (bytes reply : List ℕ) (answer : Head) → BeginsAs bytes answer → AnswersAtOnce answer (Some reply) → datagram bytes ≡ IsAnswered reply
answered_by bytes reply answer begins at_once =
    by_header bytes begins.header begins.args begins.begins ∙ ap (with_header begins.header (drop begins.args bytes)) (sym (at_once begins.header begins.args begins.says))

pub is_answered : (bytes reply : List ℕ) (answer : Head) → IsHeadOf bytes answer → AnswersAtOnce answer (Some reply) → (answer ≡ head.NotCall → Some reply ≡ None)
    → datagram bytes ≡ IsAnswered reply
is_answered bytes reply head.NotCall is at_once none = let clash : ◌≡◌ {A = Option (List ℕ)} (Some reply) None = none refl in absurd cc
is_answered bytes reply (head.Deny xid reason) is at_once none = answered_by bytes reply (head.Deny xid reason) is at_once
is_answered bytes reply (head.Accept xid status) is at_once none = answered_by bytes reply (head.Accept xid status) is at_once
is_answered bytes reply (head.Call xid procedure cred place) is at_once none = answered_by bytes reply (head.Call xid procedure cred place) is at_once

-- ---- a call that its header doesn't answer

-- The head is the call of this header, which isn't refused.
record IsCallOf (h : CallHeader) (args : ℕ) (reason : Option Refusal) (xid procedure : ℕ) (cred : Cred) (place : ℕ) : Type 0 where
  same_xid : xid ≡ h.xid
  same_procedure : procedure ≡ h.procedure
  same_cred : cred ≡ caller_of h
  same_place : place ≡ args
  taken : reason ≡ None

is_call : (h : CallHeader) (args : ℕ) (reason : Option Refusal) (xid procedure : ℕ) (cred : Cred) (place : ℕ) → head.Call xid procedure cred place ≡ head_by h args reason
    → IsCallOf h args reason xid procedure cred place
is_call h args None xid procedure cred place says = record { same_xid = cc; same_procedure = cc; same_cred = cc; same_place = cc; taken = refl }
is_call h args (Some RpcMismatch) xid procedure cred place says = absurd cc
is_call h args (Some CredentialTooWeak) xid procedure cred place says = absurd cc
is_call h args (Some CredentialBroken) xid procedure cred place says = absurd cc
is_call h args (Some ProgramUnavailable) xid procedure cred place says = absurd cc
is_call h args (Some ProgramMismatch) xid procedure cred place says = absurd cc
is_call h args (Some ProcedureUnavailable) xid procedure cred place says = absurd cc

with_args_read : (h : CallHeader) (read : Option (Call × List ℕ)) → with_args h read ≡ with_read h.xid h.procedure (caller_of h) read
with_args_read h None = refl
with_args_read h (Some x) = refl

-- the bytes from a place to the end
sliced : (bytes : List ℕ) (place : ℕ) → take (length bytes - place) (drop place bytes) ≡ drop place bytes
sliced bytes place = take_all (length bytes - place) (drop place bytes) (omega (arith, length-drop place bytes))

module _ (bytes : List ℕ) (xid procedure : ℕ) (cred : Cred) (place : ℕ) (is : IsHeadOf bytes (head.Call xid procedure cred place)) where
  the_call : IsCallOf is.header is.args (refusal_of is.header) xid procedure cred place
  the_call = is_call is.header is.args (refusal_of is.header) xid procedure cred place is.says

  pub is_asked : AnswersAtOnce (head.Call xid procedure cred place) None
      → datagram bytes ≡ with_read xid procedure cred (args_at procedure (take (length bytes - place) (drop place bytes)))
  is_asked at_once =
      by_header bytes is.header is.args is.begins
      ∙ ap (with_header is.header (drop is.args bytes)) (sym (at_once is.header is.args is.says))
      ∙ with_args_read is.header (args_at is.header.procedure (drop is.args bytes))
      ∙ rw (the_call.same_xid, the_call.same_procedure, the_call.same_cred, sym the_call.same_place, sliced bytes place) refl

-- ---- a datagram without an answer that is no call

pub no_answer : (answer : Option (List ℕ)) → ((reply : List ℕ) → answer ≡ Some reply → ⊥) → answer ≡ None
no_answer None none = refl
no_answer (Some reply) none = absurd (none reply refl)

refused_at_once : (h : CallHeader) (reason : Option Refusal) → None ≡ immediate_of h (refused_with h reason) → reason ≡ None
refused_at_once h None none = refl
refused_at_once h (Some reason) none = absurd cc

-- a head that says why a call is refused has an answer
not_refused : (h : CallHeader) (args : ℕ) (reason : Option Refusal) (answer : Head) → answer ≡ head_by h args reason → None ≡ immediate_of h (refused_with h reason)
    → answer ≡ head.Call h.xid h.procedure (caller_of h) args
not_refused h args reason answer says none = says ∙ ap (head_by h args) (refused_at_once h reason none)

pub is_junk : (bytes : List ℕ) (answer : Head) → AreBytes bytes → IsHeadOf bytes answer → AnswersAtOnce answer None
    → ((xid procedure : ℕ) (cred : Cred) (place : ℕ) → answer ≡ head.Call xid procedure cred place → ⊥) → datagram bytes ≡ IsJunk
is_junk bytes head.NotCall fits is at_once no_call = without_header bytes fits is
is_junk bytes (head.Deny xid reason) fits is at_once no_call =
    absurd (no_call _ _ _ _ (not_refused is.header is.args (refusal_of is.header) (head.Deny xid reason) is.says (at_once is.header is.args is.says)))
is_junk bytes (head.Accept xid status) fits is at_once no_call =
    absurd (no_call _ _ _ _ (not_refused is.header is.args (refusal_of is.header) (head.Accept xid status) is.says (at_once is.header is.args is.says)))
is_junk bytes (head.Call xid procedure cred place) fits is at_once no_call = absurd (no_call xid procedure cred place refl)
