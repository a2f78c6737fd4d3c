-- A file handle of this server: 32 bytes, which only this server reads (RFC 1813, section 2.5, `nfs_fh3`).
use Rattle.std.specs.Prelude.{◌≡◌, ℕ, zero, suc, ◌+◌, ◌*◌, ◌/◌, ◌%◌, ◌^◌, ◌<◌, List, ◌++◌, length, Option, Some, None, ◌==◌, codes, if◌then◌else◌}
use Rattle.sl_defs.specs.Items.{u32_text, u64_text, u32_at, u64_at, ◌>>=◌}
use Rattle.sl_defs.specs.Rpc.{zero_at}
use Rattle.sl_types.specs.declared.kind.Kind.{Kind}
use Rattle.sl_types.specs.declared.kind.Kind.TheVariants.{Reg, Dir, Blk, Chr, Lnk, Sock, Fifo}
use Rattle.sl_types.specs.declared.handle.Handle.{Handle}
use Rattle.sl_types.specs.declared.handle.InternalHandle.{InternalHandle}
use Rattle.sl_types.specs.Numbers.{kind_number}

-- what all handles are: `SLH1`, four zero bytes, volume, fileid, kind, and one more number of four bytes
unfoldable pub form_text : Handle → ℕ → List ℕ
form_text h last = codes "SLH1" ++ (u32_text 0 ++ (u64_text h.volume ++ (u64_text h.fileid ++ (u32_text (kind_number h.kind) ++ u32_text last))))

-- a client's handle ends in four zero bytes
abbrev pub handle_text : Handle → List ℕ
handle_text h = form_text h 0

-- a handle among the servers ends in the site and the actor, two bytes each
abbrev pub internal_text : InternalHandle → List ℕ
internal_text i = form_text i.handle (i.site * 2 ^ 16 + i.actor)

pub record FitsHandle (h : Handle) : Type 0 where
  pub volume : h.volume < 2 ^ 64
  pub fileid : h.fileid < 2 ^ 64

pub record FitsInternal (i : InternalHandle) : Type 0 where
  pub handle : FitsHandle i.handle
  pub site : i.site < 2 ^ 16
  pub actor : i.actor < 2 ^ 16

-- ---- reading

-- What a reader answered, seen by view, is what reading from the front gives.
abbrev pub Finds : {X Y : Type 0} → (X → Y) → Option X → Option Y → Type 0
Finds view (Some x) read = read ≡ Some (view x)
Finds view None read = read ≡ None

-- the kind of a number
abbrev pub kind_of : ℕ → Option Kind
kind_of zero = None
kind_of (suc zero) = Some Reg
kind_of (suc (suc zero)) = Some Dir
kind_of (suc (suc (suc zero))) = Some Blk
kind_of (suc (suc (suc (suc zero)))) = Some Chr
kind_of (suc (suc (suc (suc (suc zero))))) = Some Lnk
kind_of (suc (suc (suc (suc (suc (suc zero)))))) = Some Sock
kind_of (suc (suc (suc (suc (suc (suc (suc zero))))))) = Some Fifo
kind_of (suc (suc (suc (suc (suc (suc (suc (suc n)))))))) = None

-- the four bytes `SLH1` as a number
abbrev pub magic_number : ℕ
magic_number = 0x534c4831

unfoldable pub magic_at : List ℕ → Option (List ℕ)
magic_at bytes = do
  n ← u32_at bytes
  if n.0 == magic_number then Some n.1 else None

-- the value, where nothing is left of the bytes
abbrev pub whole : {A : Type 0} → A → List ℕ → Option A
whole x rest = if length rest == 0 then Some x else None

-- a handle of any of the two forms, with its last number
unfoldable pub form_at : List ℕ → Option (Handle × ℕ)
form_at bytes = do
  magic ← magic_at bytes
  front ← zero_at magic
  volume ← u64_at front
  fileid ← u64_at volume.1
  number ← u32_at fileid.1
  kind ← kind_of number.0
  last ← u32_at number.1
  whole (record { volume = volume.0; fileid = fileid.0; kind = kind }, last.0) last.1

-- the client's handle that the bytes spell, if they spell one
unfoldable pub handle_of : List ℕ → Option Handle
handle_of bytes = do
  form ← form_at bytes
  if form.1 == 0 then Some form.0 else None

-- the handle among the servers that the bytes spell, if they spell one
unfoldable pub internal_of : List ℕ → Option InternalHandle
internal_of bytes = do
  form ← form_at bytes
  Some (record { handle = form.0; site = form.1 / 2 ^ 16; actor = form.1 % 2 ^ 16 })

-- what is printed is read again
abbrev pub HandlesAreReadAgain : Type 0
HandlesAreReadAgain = (h : Handle) → FitsHandle h → handle_of (handle_text h) ≡ Some h

abbrev pub InternalHandlesAreReadAgain : Type 0
InternalHandlesAreReadAgain = (i : InternalHandle) → FitsInternal i → internal_of (internal_text i) ≡ Some i
