-- What is claimed of a world and its history together: its disks are sound for the volume that the notes leave, and what the
-- proxy and the data servers hold is the volume's.
use Rattle.std.specs.Prelude.{◌≡◌, ℕ, ◌==◌, List, [], ◌∷◌, ◌++◌, Option, Some, None, Bool, true, false, not, ◌&&◌, IsPermutation, if◌then◌else◌, option_map}
use Rattle.std.specs.List.{list_any}
use Rattle.std.specs.FinMap as map
use Rattle.sl_defs.specs.declared.setup.Setup.{Setup}
use Rattle.sl_types.specs.declared.attributes.Fattr.{Fattr}
use Rattle.sl_types.specs.declared.writes.Write.{Write}
use Rattle.sl_model.specs.Volume.{Volume, Unstable, seen}
use Rattle.sl_model.specs.Looking.{attributes}
use Rattle.sl_model.specs.Gathered.{is_unstable}
use Rattle.sl_frames.specs.declared.work.Work.{Work}
use Rattle.sl_frames.specs.declared.work.Work.TheVariants as work
use Rattle.sl_history.specs.Turns.{Remark, History}
use Rattle.sl_history.specs.Volumes.{volume_after, after_notes}
use Rattle.sl_history.specs.Placing.{byte_server}
use Rattle.sl_machine.specs.Records.{Held, boot_of, locked_in}
use Rattle.sl_machine.specs.Memory.{Hold, Waiting, Proxy, Store, Actor, OfProxy, OfStore, soft_of, is_dirty}
use Rattle.sl_machine.specs.World.{World}
use Rattle.sl_machine.specs.Stores.{writes_of}
use Rattle.sl_machine.specs.Openings.{Found, settled}
use Rattle.sl_machine.specs.Runs.{noted_of, actors_of}
use Rattle.sl_machine.specs.Disks.{Disks, Sound, Scattered}
use Rattle.sl_machine.specs.Records.{unfinished}

-- ---- disks

-- the records of each disk, with or without the one in limbo
abbrev pub AreDisks : World → Disks → Type 0
AreDisks w disks = (i : ℕ) (a : Actor) → map.get w.actors i ≡ Some a → Found a (disks i)

-- effects that the disks have and that weren't noted: of each actor at most its last record's
abbrev pub unnoted_of : World → Disks → List ℕ → List Remark
unnoted_of w disks [] = []
unnoted_of w disks (i ∷ is) = settled (noted_of w i) (disks i) ++ unnoted_of w disks is

unfoldable pub unnoted : World → Disks → List Remark
unnoted w disks = unnoted_of w disks (actors_of w.setup)

-- Whatever a stop leaves is sound for the volume that the notes leave, followed by what isn't noted yet, in any order.
pub record IsSoundAfter (start : Volume) (h : History) (w : World) : Type 0 where
  pub sound : (disks : Disks) (order : List Remark) → AreDisks w disks → IsPermutation (unnoted w disks) order → Sound w.setup (after_notes h order (volume_after start h)) disks

-- And where no operation is unfinished and nothing is in limbo or unnoted, each part of the volume lies with its server.
pub record IsScatteredAfter (start : Volume) (h : History) (w : World) : Type 0 where
  pub scattered : (disks : Disks) → AreDisks w disks → unnoted w disks ≡ [] → unfinished (disks 1) ≡ [] → Scattered w.setup (volume_after start h) disks

-- ---- soft attributes

abbrev pub holds_file : ℕ → Hold → Bool
holds_file f h = h.alone && (not h.key.dir && h.key.fileid == f)

-- no call holds the file alone
abbrev pub is_free : Proxy → ℕ → Bool
is_free p f = not (list_any (λ (c : ℕ × Waiting). list_any (holds_file f) c.1.held) (map.entries p.pending))

-- the writes of a file that are unstable and lie with a server, the oldest first
abbrev pub write_of : Unstable → Write
write_of u = record { offset = u.offset; bytes = u.bytes }

abbrev pub unstable_at : Setup → ℕ → ℕ → List Unstable → List Write
unstable_at s f server [] = []
unstable_at s f server (u ∷ us) = if u.fileid == f && byte_server s f u.offset == server then write_of u ∷ unstable_at s f server us else unstable_at s f server us

abbrev pub is_of_file : ℕ → Work → Bool
is_of_file f (work.Keep g writes) = f == g
is_of_file f (work.Put g offset bytes) = f == g
is_of_file f (work.Cut g size) = f == g
is_of_file f (work.Drop g) = f == g
is_of_file f other = false

abbrev pub is_at_work : ℕ → Option Held → Bool
is_at_work f None = false
is_at_work f (Some h) = is_of_file f h.work

-- a data server that the proxy relies on, and that is at no work on the file
pub record IsReliable (w : World) (p : Proxy) (server f : ℕ) (a : Actor) (m : Store) : Type 0 where
  pub is : map.get w.actors server ≡ Some a
  pub up : a.memory ≡ Some (OfStore m)
  pub known : map.get p.boots server ≡ Some (boot_of a.records)
  pub idle : is_at_work f (locked_in a.records) ≡ false

-- Of each file that no call holds alone, what the proxy has is what its view is, it counts as dirty exactly where it has
-- unstable writes, and these are what the data servers have.
pub record IsSoftRight (w : World) (p : Proxy) (v : Volume) : Type 0 where
  pub own : (f : ℕ) (a : Fattr) → is_free p f ≡ true → soft_of p.soft f ≡ Some a → option_map attributes (seen v f) ≡ Some a
  pub dirty : (f : ℕ) → is_free p f ≡ true → is_dirty p.soft f ≡ is_unstable f v.unstable
  pub writes :
      (f server : ℕ) (a : Actor) (m : Store) → is_free p f ≡ true → is_unstable f v.unstable ≡ true → IsReliable w p server f a m
      → writes_of f m.buffered ≡ unstable_at w.setup f server v.unstable

abbrev pub IsSoftRightIf : World → Volume → Option Actor → Type 0
IsSoftRightIf w v a = (p : Proxy) → option_map (λ (b : Actor). b.memory) a ≡ Some (Some (OfProxy p)) → p.welcomed ≡ true → IsSoftRight w p v

abbrev pub HasRightSoft : Volume → History → World → Type 0
HasRightSoft start h w = IsSoftRightIf w (volume_after start h) (map.get w.actors 0)
