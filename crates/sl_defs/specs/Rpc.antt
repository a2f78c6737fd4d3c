-- The header of a call, and the reply that refuses it (RFC 5531, sections 8.1 and 9; for AUTH_SYS appendix A).
use Rattle.std.specs.Prelude.{◌≡◌, ℕ, zero, suc, ◌^◌, ◌<◌, ◌≤◌, List, [], ◌∷◌, ◌++◌, length, Option, Some, None, Bool, is_some, not, ◌==◌, ◌&&◌, nat_lt, if◌then◌else◌, All}
use Rattle.sl_defs.specs.Items.{u32_text, u32_at, opaque_at, IsOpaque, ◌>>=◌}

-- what stands in front of a call's arguments, but for the verifier, which is not looked at
pub record CallHeader : Type 0 where
  pub xid : ℕ
  pub rpc_version : ℕ
  pub program : ℕ
  pub version : ℕ
  pub procedure : ℕ
  pub flavor : ℕ
  pub credential : List ℕ

pub record FitsHeader (h : CallHeader) : Type 0 where
  pub xid : h.xid < 2 ^ 32
  pub rpc_version : h.rpc_version < 2 ^ 32
  pub program : h.program < 2 ^ 32
  pub version : h.version < 2 ^ 32
  pub procedure : h.procedure < 2 ^ 32
  pub flavor : h.flavor < 2 ^ 32

-- These bytes are authentication: a flavor, and an opaque body of at most 400 bytes.
pub record IsAuth (text : List ℕ) (kind : ℕ) (body : List ℕ) : Type 0 where
  pub fits : kind < 2 ^ 32
  pub body_text : List ℕ
  pub spelled_body : IsOpaque body_text body
  pub short : length body ≤ 400
  pub spelled : text ≡ u32_text kind ++ body_text

-- the numbers of a header: xid, 0 for a call, RPC version, program, version, procedure
unfoldable pub numbers_text : CallHeader → List ℕ
numbers_text h = u32_text h.xid ++ (u32_text 0 ++ (u32_text h.rpc_version ++ (u32_text h.program ++ (u32_text h.version ++ u32_text h.procedure))))

-- These bytes spell the header: its numbers, its credential and any verifier.
pub record IsCallHeader (text : List ℕ) (h : CallHeader) : Type 0 where
  pub fits : FitsHeader h
  pub credential_text : List ℕ
  pub credential : IsAuth credential_text h.flavor h.credential
  pub verifier_text : List ℕ
  pub verifier_flavor : ℕ
  pub verifier_body : List ℕ
  pub verifier : IsAuth verifier_text verifier_flavor verifier_body
  pub spelled : text ≡ numbers_text h ++ (credential_text ++ verifier_text)

-- The datagram is this header, and then the arguments from that place on.
pub record BeginsWithHeader (datagram : List ℕ) (h : CallHeader) (args : ℕ) : Type 0 where
  pub text : List ℕ
  pub rest : List ℕ
  pub header : IsCallHeader text h
  pub place : args ≡ length text
  pub whole : datagram ≡ text ++ rest

-- no front of the datagram is a call header
abbrev pub HasNoHeader : List ℕ → Type 0
HasNoHeader datagram = (h : CallHeader) (args : ℕ) → BeginsWithHeader datagram h args → ⊥

-- ---- the body of an AUTH_SYS credential

pub record AuthSys : Type 0 where
  pub stamp : ℕ
  pub machine : List ℕ
  pub uid : ℕ
  pub gid : ℕ
  pub gids : List ℕ

-- numbers, one after the other
unfoldable pub u32s_text : List ℕ → List ℕ
u32s_text [] = []
u32s_text (n ∷ ns) = u32_text n ++ u32s_text ns

-- These bytes spell the body: stamp, machine name of at most 255 bytes, uid, gid, and at most 16 gids.
pub record IsAuthSys (text : List ℕ) (a : AuthSys) : Type 0 where
  pub stamp : a.stamp < 2 ^ 32
  pub machine_text : List ℕ
  pub machine : IsOpaque machine_text a.machine
  pub machine_short : length a.machine ≤ 255
  pub uid : a.uid < 2 ^ 32
  pub gid : a.gid < 2 ^ 32
  pub gids : All (λ n. n < 2 ^ 32) a.gids
  pub few : length a.gids ≤ 16
  pub spelled : text ≡ u32_text a.stamp ++ (machine_text ++ (u32_text a.uid ++ (u32_text a.gid ++ (u32_text (length a.gids) ++ u32s_text a.gids))))

-- so many numbers from the front
unfoldable pub u32s_at : ℕ → List ℕ → Option (List ℕ × List ℕ)
u32s_at zero bytes = Some ([], bytes)
u32s_at (suc n) bytes = do
  first ← u32_at bytes
  others ← u32s_at n first.1
  Some (first.0 ∷ others.0, others.1)

-- a count of at most so many, and the numbers
unfoldable pub counted_at : ℕ → List ℕ → Option (List ℕ × List ℕ)
counted_at most bytes = do
  count ← u32_at bytes
  if nat_lt most count.0 then None else u32s_at count.0 count.1

unfoldable pub auth_sys_at : List ℕ → Option (AuthSys × List ℕ)
auth_sys_at bytes = do
  stamp ← u32_at bytes
  machine ← opaque_at 255 stamp.1
  uid ← u32_at machine.1
  gid ← u32_at uid.1
  gids ← counted_at 16 gid.1
  Some (record { stamp = stamp.0; machine = machine.0; uid = uid.0; gid = gid.0; gids = gids.0 }, gids.1)

-- ---- why a call is refused whose header stands

pub data Refusal : Type 0 where
  RpcMismatch : Refusal
  CredentialTooWeak : Refusal
  CredentialBroken : Refusal
  ProgramUnavailable : Refusal
  ProgramMismatch : Refusal
  ProcedureUnavailable : Refusal

-- AUTH_SYS with a body that is none
abbrev pub is_broken : CallHeader → Bool
is_broken h = (h.flavor == 1) && not (is_some (auth_sys_at h.credential))

-- the first reason that applies
unfoldable pub refusal_of : CallHeader → Option Refusal
refusal_of h =
    if not (h.rpc_version == 2) then Some RpcMismatch
    else if nat_lt 1 h.flavor then Some CredentialTooWeak
    else if is_broken h then Some CredentialBroken
    else if not (h.program == 100003) then Some ProgramUnavailable
    else if not (h.version == 3) then Some ProgramMismatch
    else if nat_lt 21 h.procedure then Some ProcedureUnavailable
    else None

-- ---- replies that need no server

-- an accepted reply's first 24 bytes with this accept status: xid, 1, 0, then a verifier of flavor 0 and no bytes
unfoldable pub accepted_text : ℕ → ℕ → List ℕ
accepted_text xid status = u32_text xid ++ (u32_text 1 ++ (u32_text 0 ++ (u32_text 0 ++ (u32_text 0 ++ u32_text status))))

-- a denied reply, for the RPC version: 2 is the lowest and the highest
unfoldable pub mismatch_text : ℕ → List ℕ
mismatch_text xid = u32_text xid ++ (u32_text 1 ++ (u32_text 1 ++ (u32_text 0 ++ (u32_text 2 ++ u32_text 2))))

-- a denied reply, for the credential
unfoldable pub auth_error_text : ℕ → ℕ → List ℕ
auth_error_text xid error = u32_text xid ++ (u32_text 1 ++ (u32_text 1 ++ (u32_text 1 ++ u32_text error)))

-- the reply that says why
abbrev pub refusal_text : ℕ → Refusal → List ℕ
refusal_text xid RpcMismatch = mismatch_text xid
refusal_text xid CredentialTooWeak = auth_error_text xid 5
refusal_text xid CredentialBroken = auth_error_text xid 1
refusal_text xid ProgramUnavailable = accepted_text xid 1
refusal_text xid ProgramMismatch = accepted_text xid 2 ++ (u32_text 3 ++ u32_text 3)
refusal_text xid ProcedureUnavailable = accepted_text xid 3

-- What a call is answered at its arrival, whatever the server holds: a refusal, or the empty result of NULL.
abbrev pub immediate_of : CallHeader → Option (List ℕ) → Option (List ℕ)
immediate_of h (Some refused) = Some refused
immediate_of h None = if h.procedure == 0 then Some (accepted_text h.xid 0) else None

abbrev pub refused_with : CallHeader → Option Refusal → Option (List ℕ)
refused_with h None = None
refused_with h (Some r) = Some (refusal_text h.xid r)

-- the reply that the header alone calls for, if there is one
abbrev pub immediate_reply : CallHeader → Option (List ℕ)
immediate_reply h = immediate_of h (refused_with h (refusal_of h))

-- ---- reading a header

-- a number that has to be 0
unfoldable pub zero_at : List ℕ → Option (List ℕ)
zero_at bytes = do
  n ← u32_at bytes
  if n.0 == 0 then Some n.1 else None

unfoldable pub auth_at : List ℕ → Option ((ℕ × List ℕ) × List ℕ)
auth_at bytes = do
  flavor ← u32_at bytes
  body ← opaque_at 400 flavor.1
  Some ((flavor.0, body.0), body.1)

-- the header at the front, with the bytes after it
unfoldable pub call_header_at : List ℕ → Option (CallHeader × List ℕ)
call_header_at bytes = do
  xid ← u32_at bytes
  call ← zero_at xid.1
  rpc_version ← u32_at call
  program ← u32_at rpc_version.1
  version ← u32_at program.1
  procedure ← u32_at version.1
  credential ← auth_at procedure.1
  verifier ← auth_at credential.1
  Some (
    record {
      xid = xid.0;
      rpc_version = rpc_version.0;
      program = program.0;
      version = version.0;
      procedure = procedure.0;
      flavor = credential.0.0;
      credential = credential.0.1;
    },
    verifier.1,
  )
