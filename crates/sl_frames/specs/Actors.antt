-- Actors by their numbers: the proxy, the coordinator, directory servers, small-file servers and storage nodes. The last
-- two are the data servers.
use Rattle.std.specs.Prelude.{ℕ, Bool, ◌==◌, ◌&&◌, ◌||◌, nat_le}

abbrev pub is_proxy : ℕ → Bool
is_proxy a = a == 0

abbrev pub is_coordinator : ℕ → Bool
is_coordinator a = a == 1

abbrev pub is_directory : ℕ → Bool
is_directory a = nat_le 16 a && nat_le a 23

abbrev pub is_data : ℕ → Bool
is_data a = (nat_le 32 a && nat_le a 35) || (nat_le 48 a && nat_le a 55)

abbrev pub is_server : ℕ → Bool
is_server a = is_directory a || is_data a
