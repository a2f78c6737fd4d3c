-- What the header of a call says, and the replies that need no server (RFC 5531, section 9).
use Rattle.std.specs.Prelude.{◌≡◌, ℕ, List, [], ◌++◌, length, take, Option, Some, None, ◌==◌, if◌then◌else◌, ◌↔◌}
use Rattle.sl_defs.specs.Items.{u32_text, AreBytes}
use Rattle.sl_defs.specs.Rpc.{CallHeader, BeginsWithHeader, HasNoHeader, AuthSys, IsAuthSys, auth_sys_at, Refusal, RpcMismatch, CredentialTooWeak, CredentialBroken, ProgramUnavailable, ProgramMismatch, ProcedureUnavailable, refusal_of, accepted_text, mismatch_text, auth_error_text}
use Rattle.sl_types.specs.declared.cred.Cred.{Cred}
use Rattle.sl_rpc.specs.declared.header.RawHeader.{RawHeader}
use Rattle.sl_rpc.specs.declared.head.Head.{Head}
use Rattle.sl_rpc.specs.declared.head.Head.TheVariants as head
use Rattle.sl_rpc.specs.declared.head.Deny.{Deny}
use Rattle.sl_rpc.specs.declared.head.Deny.TheVariants as deny
use Rattle.sl_rpc.specs.declared.head.AcceptStat.{AcceptStat}
use Rattle.sl_rpc.specs.declared.head.AcceptStat.TheVariants as stat

-- a header without where it lies in memory
abbrev pub view : RawHeader → CallHeader
view h = record { xid = h.xid; rpc_version = h.rpc_version; program = h.program; version = h.version; procedure = h.procedure; flavor = h.flavor; credential = h.credential.now }

-- AUTH_NONE names no user
abbrev pub nobody : Cred
nobody = record { uid = 65534; gid = 65534; gids = [] }

-- whom the body of an AUTH_SYS credential names, if it is one
abbrev pub named_by : Option (AuthSys × List ℕ) → Option Cred
named_by None = None
named_by (Some read) = Some (record { uid = read.0.uid; gid = read.0.gid; gids = read.0.gids })

abbrev pub or_nobody : Option Cred → Cred
or_nobody None = nobody
or_nobody (Some cred) = cred

-- whom a call is made for that isn't refused
abbrev pub caller_of : CallHeader → Cred
caller_of h = if h.flavor == 1 then or_nobody (named_by (auth_sys_at h.credential)) else nobody

-- the head that says why a call is refused
abbrev pub refused_head : ℕ → Refusal → Head
refused_head xid RpcMismatch = head.Deny xid deny.RpcMismatch
refused_head xid CredentialTooWeak = head.Deny xid (deny.AuthError 5)
refused_head xid CredentialBroken = head.Deny xid (deny.AuthError 1)
refused_head xid ProgramUnavailable = head.Accept xid stat.ProgUnavail
refused_head xid ProgramMismatch = head.Accept xid stat.ProgMismatch
refused_head xid ProcedureUnavailable = head.Accept xid stat.ProcUnavail

-- the call, or the reason to refuse it
abbrev pub head_by : CallHeader → ℕ → Option Refusal → Head
head_by h args (Some reason) = refused_head h.xid reason
head_by h args None = head.Call h.xid h.procedure (caller_of h) args

-- what a header says: the first reason to refuse the call that applies, or the call
abbrev pub head_of : CallHeader → ℕ → Head
head_of h args = head_by h args (refusal_of h)

-- The datagram begins with a header that says this.
pub record BeginsAs (datagram : List ℕ) (answer : Head) : Type 0 where
  pub header : CallHeader
  pub args : ℕ
  pub begins : BeginsWithHeader datagram header args
  pub says : answer ≡ head_of header args

-- The answer is the one for the header at the datagram's front, or that none stands there.
abbrev pub IsHeadOf : List ℕ → Head → Type 0
IsHeadOf datagram head.NotCall = HasNoHeader datagram
IsHeadOf datagram answer = BeginsAs datagram answer

-- what a body is read as is what stands at its front, and the other way round
abbrev pub CredentialsAreReadExactly : Type 0
CredentialsAreReadExactly = (body : List ℕ) (a : AuthSys) (rest : List ℕ) → AreBytes body → (auth_sys_at body ≡ Some (a, rest)) ↔ ((text : List ℕ) × IsAuthSys text a × (body ≡ text ++ rest))

-- ---- replies

-- the number of an accept status
abbrev pub stat_number : AcceptStat → ℕ
stat_number stat.Success = 0
stat_number stat.ProgUnavail = 1
stat_number stat.ProgMismatch = 2
stat_number stat.ProcUnavail = 3
stat_number stat.GarbageArgs = 4

-- behind a mismatch stand the lowest and the highest version that the server has
abbrev pub versions_text : AcceptStat → List ℕ
versions_text stat.ProgMismatch = u32_text 3 ++ u32_text 3
versions_text other = []

-- the bytes of an accepted reply, up to its results
abbrev pub accept_text : ℕ → AcceptStat → List ℕ
accept_text xid status = accepted_text xid (stat_number status) ++ versions_text status

-- the bytes of a denied reply
abbrev pub deny_text : ℕ → Deny → List ℕ
deny_text xid deny.RpcMismatch = mismatch_text xid
deny_text xid (deny.AuthError error) = auth_error_text xid error

-- what a head is answered at once
abbrev pub answer_to : Head → Option (List ℕ)
answer_to head.NotCall = None
answer_to (head.Deny xid reason) = Some (deny_text xid reason)
answer_to (head.Accept xid status) = Some (accept_text xid status)
answer_to (head.Call xid procedure cred args) = if procedure == 0 then Some (accepted_text xid 0) else None

-- new is old with more behind it
abbrev pub Grew : List ℕ → List ℕ → Type 0
Grew old new = take (length old) new ≡ old
