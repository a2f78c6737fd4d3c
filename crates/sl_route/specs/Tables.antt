-- What is a table of places: which servers there may be, the even one, and the bytes of one.
use Rattle.std.specs.Prelude.{◌≡◌, ℕ, ◌+◌, ◌%◌, ◌<◌, ◌≤◌, List, ◌++◌, length, slice_index, EachIndex}
use Rattle.sl_route.specs.declared.class.Class.{Class}
use Rattle.sl_route.specs.declared.class.Class.TheVariants as class
use Rattle.sl_route.specs.Places.{sites, first_server, most_servers, Places, of_class, server_of}

-- a server of the class
pub record IsServer (c : Class) (server : ℕ) : Type 0 where
  pub first : first_server c ≤ server
  pub last : server < first_server c + most_servers c

-- each actor of the list is one
abbrev pub AreServers : Class → List ℕ → Type 0
AreServers c actors = EachIndex actors (λ site. IsServer c (slice_index actors site))

-- each class has all its sites
abbrev pub HasSites : Places → Type 0
HasSites p = (c : Class) → length (of_class p c) ≡ sites c

-- each site has a server of its class
abbrev pub HasServers : Places → Type 0
HasServers p = (c : Class) (site : ℕ) → site < sites c → IsServer c (server_of p c site)

-- Each class has all its sites, and each site a server of its class.
pub record IsTable (p : Places) : Type 0 where
  pub sites : HasSites p
  pub servers : HasServers p

-- how many servers there are of each class
abbrev pub count : ℕ → ℕ → ℕ → Class → ℕ
count dirs small nodes class.Dir = dirs
count dirs small nodes class.Small = small
count dirs small nodes class.Node = nodes

-- there is at least one of each class, and there are at most as many as there may be
pub record AreCounts (count : Class → ℕ) : Type 0 where
  pub one : (c : Class) → 1 ≤ count c
  pub most : (c : Class) → count c ≤ most_servers c

-- the servers of a class take its sites in turn
abbrev pub IsEven : (Class → ℕ) → Places → Type 0
IsEven count p = (c : Class) (site : ℕ) → site < sites c → server_of p c site ≡ first_server c + site % count c

-- the bytes of a table: an actor for each site, of directory servers, then of small-file servers, then of storage nodes
abbrev pub table_text : Places → List ℕ
table_text p = p.dirs ++ (p.small ++ p.nodes)
