-- Which rows there are for a task.
use Rattle.std.proofs.Common.{◌≡◌, ℕ, ◌==◌, true, false, List, [], refl, sym, ap, subst, ◌∙◌, arith}
use Rattle.sl_frames.specs.declared.frame.Frame.{Frame}
use Rattle.sl_history.specs.Arrivals.{datagram}
use Rattle.sl_machine.specs.Memory.{Site, Coord, Proxy, Actor}
use Rattle.sl_machine.specs.World.{Scene, Task, Given, TakesUp, Arrives, Goes, Wakes, Ticks, Refuses, Proceeds, Opening, Founds, Segment}
use Rattle.sl_machine.specs.Proxies as proxies
use Rattle.sl_machine.specs.Proxies.{ProxyRow, arrives, GoesOn, WakesNext, UsesAnswer, IsWelcomed, Ignores}
use Rattle.sl_machine.specs.Coordinators as coordinators
use Rattle.sl_machine.specs.Coordinators.{CoordinatorRow}
use Rattle.sl_machine.specs.Directories as directories
use Rattle.sl_machine.specs.Directories.{DirectoryRow}
use Rattle.sl_getattr.proofs.Stepping.{not_both}

-- ---- tasks

abbrev pub task_number : Task → ℕ
task_number (Given f e) = 0
task_number (TakesUp f) = 1
task_number (Arrives n client bytes) = 2
task_number (Goes n) = 3
task_number Wakes = 4
task_number Ticks = 5
task_number (Refuses op) = 6
task_number Proceeds = 7
task_number Opening = 8
task_number Founds = 9

same_number : (a b : ℕ) → a ≡ b → (a == b) ≡ true
same_number a b is = grind arith

pub apart : {t u : Task} → t ≡ u → (task_number t == task_number u) ≡ false → ⊥
apart {t} {u} is other = not_both (same_number (task_number t) (task_number u) (ap task_number is)) other

number_in : Task → ℕ
number_in (Arrives n client bytes) = n
number_in (Goes n) = n
number_in (Given f e) = e
number_in other = 0

client_in : Task → ℕ
client_in (Arrives n client bytes) = client
client_in other = 0

bytes_in : Task → List ℕ
bytes_in (Arrives n client bytes) = bytes
bytes_in other = []

abbrev pub frame_or : Frame → Task → Frame
frame_or g (Given f e) = f
frame_or g other = g

-- ---- the proxy's

pub arrives_row : (x : Scene) (p : Proxy) (n client : ℕ) (bytes : List ℕ) (s : Segment) → ProxyRow x p (Arrives n client bytes) s → s ≡ arrives p n client bytes (datagram bytes)
unfolding number_in client_in bytes_in
arrives_row x p n client bytes s (proxies.IsTaken m c b is row) = row.does ∙ ap (λ t. arrives p (number_in t) (client_in t) (bytes_in t) (datagram (bytes_in t))) (sym is)
arrives_row x p n client bytes s (proxies.IsGoing m is row) = absurd (apart is refl)
arrives_row x p n client bytes s (proxies.IsWaking is row) = absurd (apart is refl)
arrives_row x p n client bytes s (proxies.IsUsed f e is row) = absurd (apart is refl)
arrives_row x p n client bytes s (proxies.IsRenewed f e is row) = absurd (apart is refl)
arrives_row x p n client bytes s (proxies.IsGreeted f e is row) = absurd (apart is refl)
arrives_row x p n client bytes s (proxies.IsIgnored f e is row) = absurd (apart is refl)
arrives_row x p n client bytes s (proxies.IsSentAgain is row) = absurd (apart is refl)

pub goes_row : (x : Scene) (p : Proxy) (n : ℕ) (s : Segment) → ProxyRow x p (Goes n) s → GoesOn x p n s
unfolding number_in
goes_row x p n s (proxies.IsTaken m c b is row) = absurd (apart is refl)
goes_row x p n s (proxies.IsGoing m is row) = subst (λ k. GoesOn x p k s) (ap number_in (sym is)) row
goes_row x p n s (proxies.IsWaking is row) = absurd (apart is refl)
goes_row x p n s (proxies.IsUsed f e is row) = absurd (apart is refl)
goes_row x p n s (proxies.IsRenewed f e is row) = absurd (apart is refl)
goes_row x p n s (proxies.IsGreeted f e is row) = absurd (apart is refl)
goes_row x p n s (proxies.IsIgnored f e is row) = absurd (apart is refl)
goes_row x p n s (proxies.IsSentAgain is row) = absurd (apart is refl)

pub wakes_row : (x : Scene) (p : Proxy) (s : Segment) → ProxyRow x p Wakes s → WakesNext p s
wakes_row x p s (proxies.IsTaken m c b is row) = absurd (apart is refl)
wakes_row x p s (proxies.IsGoing m is row) = absurd (apart is refl)
wakes_row x p s (proxies.IsWaking is row) = row
wakes_row x p s (proxies.IsUsed f e is row) = absurd (apart is refl)
wakes_row x p s (proxies.IsRenewed f e is row) = absurd (apart is refl)
wakes_row x p s (proxies.IsGreeted f e is row) = absurd (apart is refl)
wakes_row x p s (proxies.IsIgnored f e is row) = absurd (apart is refl)
wakes_row x p s (proxies.IsSentAgain is row) = absurd (apart is refl)

-- what it may do for a frame
pub data OnFrame (x : Scene) (p : Proxy) (f : Frame) (e : ℕ) (s : Segment) : Type 0 where
  Uses : UsesAnswer x p f e s → OnFrame x p f e s
  Renews : proxies.Renews p f s → OnFrame x p f e s
  Greets : IsWelcomed p f s → OnFrame x p f e s
  PassesOver : Ignores p f s → OnFrame x p f e s

pub given_row : (x : Scene) (p : Proxy) (f : Frame) (e : ℕ) (s : Segment) → ProxyRow x p (Given f e) s → OnFrame x p f e s
unfolding number_in
given_row x p f e s (proxies.IsTaken m c b is row) = absurd (apart is refl)
given_row x p f e s (proxies.IsGoing m is row) = absurd (apart is refl)
given_row x p f e s (proxies.IsWaking is row) = absurd (apart is refl)
given_row x p f e s (proxies.IsUsed g d is row) = Uses (subst (λ t. UsesAnswer x p (frame_or f t) (number_in t) s) (sym is) row)
given_row x p f e s (proxies.IsRenewed g d is row) = Renews (subst (λ t. proxies.Renews p (frame_or f t) s) (sym is) row)
given_row x p f e s (proxies.IsGreeted g d is row) = Greets (subst (λ t. IsWelcomed p (frame_or f t) s) (sym is) row)
given_row x p f e s (proxies.IsIgnored g d is row) = PassesOver (subst (λ t. Ignores p (frame_or f t) s) (sym is) row)
given_row x p f e s (proxies.IsSentAgain is row) = absurd (apart is refl)

-- ---- the coordinator's

pub data CoordinatorOnFrame (a : Actor) (m : Coord) (f : Frame) (e : ℕ) (s : Segment) : Type 0 where
  CoordinatorRenews : coordinators.Renews m f e s → CoordinatorOnFrame a m f e s
  CoordinatorAdmits : coordinators.Admits a m f s → CoordinatorOnFrame a m f e s

pub coordinator_given : (x : Scene) (a : Actor) (m : Coord) (f : Frame) (e : ℕ) (s : Segment) → CoordinatorRow x a m (Given f e) s → CoordinatorOnFrame a m f e s
unfolding number_in
coordinator_given x a m f e s (coordinators.IsRenewed g d is row) = CoordinatorRenews (subst (λ t. coordinators.Renews m (frame_or f t) (number_in t) s) (sym is) row)
coordinator_given x a m f e s (coordinators.IsAdmitted g d is row) = CoordinatorAdmits (subst (λ t. coordinators.Admits a m (frame_or f t) s) (sym is) row)
coordinator_given x a m f e s (coordinators.IsRefused op is row) = absurd (apart is refl)
coordinator_given x a m f e s (coordinators.IsStarted is row) = absurd (apart is refl)
coordinator_given x a m f e s (coordinators.IsWelcomed is row) = absurd (apart is refl)
coordinator_given x a m f e s (coordinators.IsResting is row) = absurd (apart is refl)
coordinator_given x a m f e s (coordinators.IsSentAgain is row) = absurd (apart is refl)

pub data Proceeding (a : Actor) (m : Coord) (s : Segment) : Type 0 where
  Starts : coordinators.Starts a m s → Proceeding a m s
  Welcomes : coordinators.Welcomes a m s → Proceeding a m s
  Rests : coordinators.Rests a m s → Proceeding a m s

pub proceeds_row : (x : Scene) (a : Actor) (m : Coord) (s : Segment) → CoordinatorRow x a m Proceeds s → Proceeding a m s
proceeds_row x a m s (coordinators.IsRenewed g d is row) = absurd (apart is refl)
proceeds_row x a m s (coordinators.IsAdmitted g d is row) = absurd (apart is refl)
proceeds_row x a m s (coordinators.IsRefused op is row) = absurd (apart is refl)
proceeds_row x a m s (coordinators.IsStarted is row) = Starts row
proceeds_row x a m s (coordinators.IsWelcomed is row) = Welcomes row
proceeds_row x a m s (coordinators.IsResting is row) = Rests row
proceeds_row x a m s (coordinators.IsSentAgain is row) = absurd (apart is refl)

-- ---- a directory server's

pub data DirectoryOnFrame (x : Scene) (a : Actor) (m : Site) (f : Frame) (e : ℕ) (s : Segment) : Type 0 where
  DirectoryRenews : directories.Renews m f e s → DirectoryOnFrame x a m f e s
  DirectoryAdmits : directories.Admits x a m f s → DirectoryOnFrame x a m f e s

pub directory_given : (x : Scene) (a : Actor) (m : Site) (f : Frame) (e : ℕ) (s : Segment) → DirectoryRow x a m (Given f e) s → DirectoryOnFrame x a m f e s
unfolding number_in
directory_given x a m f e s (directories.IsRenewed g d is row) = DirectoryRenews (subst (λ t. directories.Renews m (frame_or f t) (number_in t) s) (sym is) row)
directory_given x a m f e s (directories.IsAdmitted g d is row) = DirectoryAdmits (subst (λ t. directories.Admits x a m (frame_or f t) s) (sym is) row)
directory_given x a m f e s (directories.IsTakenUp g is row) = absurd (apart is refl)
directory_given x a m f e s (directories.IsFounded is row) = absurd (apart is refl)
directory_given x a m f e s (directories.IsOpen is row) = absurd (apart is refl)

pub data Founding (x : Scene) (a : Actor) (m : Site) (s : Segment) : Type 0 where
  Makes : directories.MakesRoot x a m s → Founding x a m s
  Opens : directories.OpensSo x a m s → Founding x a m s

pub founds_row : (x : Scene) (a : Actor) (m : Site) (s : Segment) → DirectoryRow x a m Founds s → Founding x a m s
founds_row x a m s (directories.IsRenewed g d is row) = absurd (apart is refl)
founds_row x a m s (directories.IsAdmitted g d is row) = absurd (apart is refl)
founds_row x a m s (directories.IsTakenUp g is row) = absurd (apart is refl)
founds_row x a m s (directories.IsFounded is row) = Makes row
founds_row x a m s (directories.IsOpen is row) = Opens row

-- ---- at a tick

pub proxy_ticks : (x : Scene) (p : Proxy) (s : Segment) → ProxyRow x p Ticks s → proxies.SendsAgain p s
proxy_ticks x p s (proxies.IsTaken m c b is row) = absurd (apart is refl)
proxy_ticks x p s (proxies.IsGoing m is row) = absurd (apart is refl)
proxy_ticks x p s (proxies.IsWaking is row) = absurd (apart is refl)
proxy_ticks x p s (proxies.IsUsed f e is row) = absurd (apart is refl)
proxy_ticks x p s (proxies.IsRenewed f e is row) = absurd (apart is refl)
proxy_ticks x p s (proxies.IsGreeted f e is row) = absurd (apart is refl)
proxy_ticks x p s (proxies.IsIgnored f e is row) = absurd (apart is refl)
proxy_ticks x p s (proxies.IsSentAgain is row) = row

pub coordinator_ticks : (x : Scene) (a : Actor) (m : Coord) (s : Segment) → CoordinatorRow x a m Ticks s → coordinators.SendsAgain a m s
coordinator_ticks x a m s (coordinators.IsRenewed g d is row) = absurd (apart is refl)
coordinator_ticks x a m s (coordinators.IsAdmitted g d is row) = absurd (apart is refl)
coordinator_ticks x a m s (coordinators.IsRefused op is row) = absurd (apart is refl)
coordinator_ticks x a m s (coordinators.IsStarted is row) = absurd (apart is refl)
coordinator_ticks x a m s (coordinators.IsWelcomed is row) = absurd (apart is refl)
coordinator_ticks x a m s (coordinators.IsResting is row) = absurd (apart is refl)
coordinator_ticks x a m s (coordinators.IsSentAgain is row) = row
