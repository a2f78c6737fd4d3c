-- Where the parts of a volume lie: which server carries each logical site, and the site of each byte of a file.
use Rattle.std.specs.Prelude.{◌≡◌, ℕ, ◌+◌, ◌/◌, ◌%◌, ◌<◌, ◌≤◌, List, nat_lt, slice_index, if◌then◌else◌}
use Rattle.sl_route.specs.declared.class.Class.{Class}
use Rattle.sl_route.specs.declared.class.Class.TheVariants as class

-- a volume has 64 sites of directory servers, 16 of small-file servers and 64 of storage nodes
abbrev pub sites : Class → ℕ
sites class.Dir = 64
sites class.Small = 16
sites class.Node = 64

-- the number of the first server of a class
abbrev pub first_server : Class → ℕ
first_server class.Dir = 16
first_server class.Small = 32
first_server class.Node = 48

-- at most so many servers
abbrev pub most_servers : Class → ℕ
most_servers class.Dir = 8
most_servers class.Small = 4
most_servers class.Node = 8

-- Which server carries each site: the actors of the sites of each class, in the order of the sites.
pub record Places : Type 0 where
  pub dirs : List ℕ
  pub small : List ℕ
  pub nodes : List ℕ

-- those of a class
abbrev pub of_class : Places → Class → List ℕ
of_class p class.Dir = p.dirs
of_class p class.Small = p.small
of_class p class.Node = p.nodes

-- the server of a site
abbrev pub server_of : Places → Class → ℕ → ℕ
server_of p c site = slice_index (of_class p c) site

-- ---- the bytes of files

-- bytes below it lie on small-file servers
abbrev pub threshold : ℕ
threshold = 65536

-- a storage node holds whole units of so many bytes
abbrev pub unit_size : ℕ
unit_size = 8192

abbrev pub class_of_byte : ℕ → Class
class_of_byte offset = if nat_lt offset threshold then class.Small else class.Node

-- A file's bytes below the threshold have one site. The units above go from one site to the next.
abbrev pub site_of_byte : ℕ → ℕ → ℕ
site_of_byte fileid offset = if nat_lt offset threshold then fileid % 16 else (fileid + offset / unit_size) % 64

-- the server of a file's byte
unfoldable pub server_of_byte : Places → ℕ → ℕ → ℕ
server_of_byte p fileid offset = server_of p (class_of_byte offset) (site_of_byte fileid offset)

-- the server holds one of the bytes from an offset up to another
pub record HoldsOne (p : Places) (fileid from to actor : ℕ) : Type 0 where
  pub offset : ℕ
  pub above : from ≤ offset
  pub below : offset < to
  pub server : actor ≡ server_of_byte p fileid offset
