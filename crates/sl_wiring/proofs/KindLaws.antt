-- Effects by the kind of call, and answers by their kinds.
use Rattle.std.proofs.Common.{◌≡◌, ℕ, Bool, true, false, List, ◌∷◌, Option, Some, None, refl, sym, subst, ◌↔◌}
use Rattle.sl_defs.specs.declared.setup.Setup.{Setup}
use Rattle.sl_types.specs.declared.call.Call.{Call}
use Rattle.sl_types.specs.declared.call.Call.TheVariants as call
use Rattle.sl_cells.specs.declared.cells.NameCell.{NameCell}
use Rattle.sl_cells.specs.declared.keys.CellKey.{CellKey}
use Rattle.sl_frames.specs.declared.found.FoundCell.{FoundCell}
use Rattle.sl_frames.specs.declared.body.Body.{Body}
use Rattle.sl_frames.specs.declared.body.Body.TheVariants as body
use Rattle.sl_model.specs.Volume.{Volume}
use Rattle.sl_history.specs.Turns.{Turn, History}
use Rattle.sl_history.specs.Wired.{IsPacketFor, IsTrueAnswer, IsWiredEffect, StandsRightly}
use Rattle.sl_wiring.specs.Standing.{unkept_write}

-- ---- effects

abbrev pub Wires : Setup → History → Turn → Volume → Volume → ℕ → Option (ℕ × ℕ) → Type 0
Wires setup past t v w n None = StandsRightly setup past t (t ∷ past) v w
Wires setup past t v w n (Some x) = IsPacketFor setup past t n x.0 x.1

-- the effect, by whether it is of a WRITE that isn't kept
wires : (setup : Setup) (past : History) (t : Turn) (v w : Volume) (n : ℕ) (kept : Bool) (c : Call)
    → IsWiredEffect setup past t (t ∷ past) v w n kept c ↔ Wires setup past t v w n (unkept_write kept c)
wires setup past t v w n true call.Null = (λ e. e, λ e. e)
wires setup past t v w n true (call.Getattr x0) = (λ e. e, λ e. e)
wires setup past t v w n true (call.Setattr x0 x1 x2) = (λ e. e, λ e. e)
wires setup past t v w n true (call.Lookup x0 x1) = (λ e. e, λ e. e)
wires setup past t v w n true (call.Access x0 x1) = (λ e. e, λ e. e)
wires setup past t v w n true (call.Readlink x0) = (λ e. e, λ e. e)
wires setup past t v w n true (call.Read x0 x1 x2) = (λ e. e, λ e. e)
wires setup past t v w n true (call.Write x0 x1 x2 x3 x4) = (λ e. e, λ e. e)
wires setup past t v w n true (call.Create x0 x1 x2) = (λ e. e, λ e. e)
wires setup past t v w n true (call.Mkdir x0 x1 x2) = (λ e. e, λ e. e)
wires setup past t v w n true (call.Symlink x0 x1 x2 x3) = (λ e. e, λ e. e)
wires setup past t v w n true (call.Mknod x0 x1 x2) = (λ e. e, λ e. e)
wires setup past t v w n true (call.Remove x0 x1) = (λ e. e, λ e. e)
wires setup past t v w n true (call.Rmdir x0 x1) = (λ e. e, λ e. e)
wires setup past t v w n true (call.Rename x0 x1 x2 x3) = (λ e. e, λ e. e)
wires setup past t v w n true (call.Link x0 x1 x2) = (λ e. e, λ e. e)
wires setup past t v w n true (call.Readdir x0 x1 x2 x3) = (λ e. e, λ e. e)
wires setup past t v w n true (call.Readdirplus x0 x1 x2 x3 x4) = (λ e. e, λ e. e)
wires setup past t v w n true (call.Fsstat x0) = (λ e. e, λ e. e)
wires setup past t v w n true (call.Fsinfo x0) = (λ e. e, λ e. e)
wires setup past t v w n true (call.Pathconf x0) = (λ e. e, λ e. e)
wires setup past t v w n true (call.Commit x0 x1 x2) = (λ e. e, λ e. e)
wires setup past t v w n false call.Null = (λ e. e, λ e. e)
wires setup past t v w n false (call.Getattr x0) = (λ e. e, λ e. e)
wires setup past t v w n false (call.Setattr x0 x1 x2) = (λ e. e, λ e. e)
wires setup past t v w n false (call.Lookup x0 x1) = (λ e. e, λ e. e)
wires setup past t v w n false (call.Access x0 x1) = (λ e. e, λ e. e)
wires setup past t v w n false (call.Readlink x0) = (λ e. e, λ e. e)
wires setup past t v w n false (call.Read x0 x1 x2) = (λ e. e, λ e. e)
wires setup past t v w n false (call.Write x0 x1 x2 x3 x4) = (λ e. e, λ e. e)
wires setup past t v w n false (call.Create x0 x1 x2) = (λ e. e, λ e. e)
wires setup past t v w n false (call.Mkdir x0 x1 x2) = (λ e. e, λ e. e)
wires setup past t v w n false (call.Symlink x0 x1 x2 x3) = (λ e. e, λ e. e)
wires setup past t v w n false (call.Mknod x0 x1 x2) = (λ e. e, λ e. e)
wires setup past t v w n false (call.Remove x0 x1) = (λ e. e, λ e. e)
wires setup past t v w n false (call.Rmdir x0 x1) = (λ e. e, λ e. e)
wires setup past t v w n false (call.Rename x0 x1 x2 x3) = (λ e. e, λ e. e)
wires setup past t v w n false (call.Link x0 x1 x2) = (λ e. e, λ e. e)
wires setup past t v w n false (call.Readdir x0 x1 x2 x3) = (λ e. e, λ e. e)
wires setup past t v w n false (call.Readdirplus x0 x1 x2 x3 x4) = (λ e. e, λ e. e)
wires setup past t v w n false (call.Fsstat x0) = (λ e. e, λ e. e)
wires setup past t v w n false (call.Fsinfo x0) = (λ e. e, λ e. e)
wires setup past t v w n false (call.Pathconf x0) = (λ e. e, λ e. e)
wires setup past t v w n false (call.Commit x0 x1 x2) = (λ e. e, λ e. e)

pub wires_as : (setup : Setup) (past : History) (t : Turn) (v w : Volume) (n : ℕ) (kept : Bool) (c : Call) (o : Option (ℕ × ℕ)) → o ≡ unkept_write kept c
    → IsWiredEffect setup past t (t ∷ past) v w n kept c ↔ Wires setup past t v w n o
wires_as setup past t v w n kept c o is = (
  λ e. subst (λ (x : Option (ℕ × ℕ)). Wires setup past t v w n x) (sym is) ((wires setup past t v w n kept c).0 e),
  λ e. (wires setup past t v w n kept c).1 (subst (λ (x : Option (ℕ × ℕ)). Wires setup past t v w n x) is e),
)

-- ---- answers of another kind

pub no_cells : (setup : Setup) (v : Volume) (server : ℕ) (keys : List CellKey) (answer : Body) → ((cells : List FoundCell) → answer ≡ body.Found cells → ⊥) → IsTrueAnswer setup v server (body.Ask keys) answer
no_cells setup v server keys body.Hello other = tt
no_cells setup v server keys body.Welcome other = tt
no_cells setup v server keys (body.Forward x0 x1) other = tt
no_cells setup v server keys (body.Packet x0) other = tt
no_cells setup v server keys (body.Ask x0) other = tt
no_cells setup v server keys (body.Found x0) other = absurd (other x0 refl)
no_cells setup v server keys (body.List x0 x1 x2) other = tt
no_cells setup v server keys (body.Listed x0 x1) other = tt
no_cells setup v server keys (body.Mint x0) other = tt
no_cells setup v server keys (body.Minted x0) other = tt
no_cells setup v server keys (body.Intent x0) other = tt
no_cells setup v server keys (body.Decided x0) other = tt
no_cells setup v server keys (body.Lock x0) other = tt
no_cells setup v server keys body.Grant other = tt
no_cells setup v server keys body.Refuse other = tt
no_cells setup v server keys body.Apply other = tt
no_cells setup v server keys body.Release other = tt
no_cells setup v server keys body.Ack other = tt

pub no_names : (setup : Setup) (v : Volume) (server : ℕ) (dir cookie limit : ℕ) (answer : Body) → ((cells : List NameCell) (more : Bool) → answer ≡ body.Listed cells more → ⊥) → IsTrueAnswer setup v server (body.List dir cookie limit) answer
no_names setup v server dir cookie limit body.Hello other = tt
no_names setup v server dir cookie limit body.Welcome other = tt
no_names setup v server dir cookie limit (body.Forward x0 x1) other = tt
no_names setup v server dir cookie limit (body.Packet x0) other = tt
no_names setup v server dir cookie limit (body.Ask x0) other = tt
no_names setup v server dir cookie limit (body.Found x0) other = tt
no_names setup v server dir cookie limit (body.List x0 x1 x2) other = tt
no_names setup v server dir cookie limit (body.Listed x0 x1) other = absurd (other x0 x1 refl)
no_names setup v server dir cookie limit (body.Mint x0) other = tt
no_names setup v server dir cookie limit (body.Minted x0) other = tt
no_names setup v server dir cookie limit (body.Intent x0) other = tt
no_names setup v server dir cookie limit (body.Decided x0) other = tt
no_names setup v server dir cookie limit (body.Lock x0) other = tt
no_names setup v server dir cookie limit body.Grant other = tt
no_names setup v server dir cookie limit body.Refuse other = tt
no_names setup v server dir cookie limit body.Apply other = tt
no_names setup v server dir cookie limit body.Release other = tt
no_names setup v server dir cookie limit body.Ack other = tt

-- and requests of another kind
pub asks_else : (setup : Setup) (v : Volume) (server : ℕ) (asking answer : Body) → ((keys : List CellKey) → asking ≡ body.Ask keys → ⊥) → ((dir cookie limit : ℕ) → asking ≡ body.List dir cookie limit → ⊥)
    → IsTrueAnswer setup v server asking answer
asks_else setup v server body.Hello answer asks lists = tt
asks_else setup v server body.Welcome answer asks lists = tt
asks_else setup v server (body.Forward x0 x1) answer asks lists = tt
asks_else setup v server (body.Packet x0) answer asks lists = tt
asks_else setup v server (body.Ask x0) answer asks lists = absurd (asks x0 refl)
asks_else setup v server (body.Found x0) answer asks lists = tt
asks_else setup v server (body.List x0 x1 x2) answer asks lists = absurd (lists x0 x1 x2 refl)
asks_else setup v server (body.Listed x0 x1) answer asks lists = tt
asks_else setup v server (body.Mint x0) answer asks lists = tt
asks_else setup v server (body.Minted x0) answer asks lists = tt
asks_else setup v server (body.Intent x0) answer asks lists = tt
asks_else setup v server (body.Decided x0) answer asks lists = tt
asks_else setup v server (body.Lock x0) answer asks lists = tt
asks_else setup v server body.Grant answer asks lists = tt
asks_else setup v server body.Refuse answer asks lists = tt
asks_else setup v server body.Apply answer asks lists = tt
asks_else setup v server body.Release answer asks lists = tt
asks_else setup v server body.Ack answer asks lists = tt
