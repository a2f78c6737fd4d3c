-- What a header says is a head of the datagram, and is answered as the header calls for.
use Rattle.std.proofs.Common.{◌≡◌, ℕ, List, Option, Some, None, Result, Ok, Err, refl, ap, ◌∙◌}
use Rattle.std.specs.Prelude.{IfOk}
use Rattle.std.proofs.lemmas.List.{append-nil}
use Rattle.sl_defs.specs.Rpc.{CallHeader, BeginsWithHeader, Refusal, RpcMismatch, CredentialTooWeak, CredentialBroken, ProgramUnavailable, ProgramMismatch, ProcedureUnavailable, refusal_of, accepted_text, immediate_of, refused_with, immediate_reply}
use Rattle.sl_rpc.specs.declared.head.Head.{Head}
use Rattle.sl_rpc.specs.declared.head.Head.TheVariants as head
use Rattle.sl_rpc.specs.Heads.{head_by, head_of, IsHeadOf, answer_to}

-- a header that stands is a call
never_none : (h : CallHeader) (args : ℕ) (reason : Option Refusal) → head.NotCall ≡ head_by h args reason → ⊥
never_none h args None e = cc
never_none h args (Some RpcMismatch) e = cc
never_none h args (Some CredentialTooWeak) e = cc
never_none h args (Some CredentialBroken) e = cc
never_none h args (Some ProgramUnavailable) e = cc
never_none h args (Some ProgramMismatch) e = cc
never_none h args (Some ProcedureUnavailable) e = cc

pub is_head : (datagram : List ℕ) (h : CallHeader) (args : ℕ) (answer : Head) → BeginsWithHeader datagram h args → answer ≡ head_of h args → IsHeadOf datagram answer
is_head datagram h args head.NotCall begins says = absurd (never_none h args (refusal_of h) says)
is_head datagram h args (head.Deny xid reason) begins says = record { header = h; args = args; begins = begins; says = says }
is_head datagram h args (head.Accept xid status) begins says = record { header = h; args = args; begins = begins; says = says }
is_head datagram h args (head.Call xid procedure cred place) begins says = record { header = h; args = args; begins = begins; says = says }

answer_by : (h : CallHeader) (args : ℕ) (reason : Option Refusal) → answer_to (head_by h args reason) ≡ immediate_of h (refused_with h reason)
answer_by h args None = refl
answer_by h args (Some RpcMismatch) = refl
answer_by h args (Some CredentialTooWeak) = refl
answer_by h args (Some CredentialBroken) = refl
answer_by h args (Some ProgramUnavailable) = ap Some (append-nil (accepted_text h.xid 1))
answer_by h args (Some ProgramMismatch) = refl
answer_by h args (Some ProcedureUnavailable) = ap Some (append-nil (accepted_text h.xid 3))

pub answer_is : {E : Type 0} (r : Result (Option (List ℕ)) E) (head : Head) → IfOk r (λ answer. answer ≡ answer_to head)
    → (h : CallHeader) (args : ℕ) → head ≡ head_of h args → IfOk r (λ answer. answer ≡ immediate_reply h)
answer_is (Ok answer) head is h args says = is ∙ ap answer_to says ∙ answer_by h args (refusal_of h)
answer_is (Err e) head is h args says = tt

pub no_answer : {E : Type 0} (r : Result (Option (List ℕ)) E) (head other : Head) → IfOk r (λ answer. answer ≡ answer_to head) → head ≡ other → IfOk r (λ answer. answer ≡ answer_to other)
no_answer (Ok answer) head other is says = is ∙ ap answer_to says
no_answer (Err e) head other is says = tt
