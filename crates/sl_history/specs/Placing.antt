-- Where the parts of a volume lie in an ensemble.
use Rattle.std.specs.Prelude.{ℕ, ◌+◌, ◌%◌, List}
use Rattle.sl_defs.specs.declared.setup.Setup.{Setup}
use Rattle.sl_route.specs.declared.class.Class.{Class}
use Rattle.sl_route.specs.declared.class.Class.TheVariants as class
use Rattle.sl_route.specs.Places.{first_server, class_of_byte, site_of_byte}
use Rattle.sl_policy.specs.Sites.{site_of, name_site}
use Rattle.sl_model.specs.Plan.{Key, NodeKey, NameKey}

-- how many servers of a class there are
abbrev pub servers : Setup → Class → ℕ
servers s class.Dir = s.dirs
servers s class.Small = s.small
servers s class.Node = s.nodes

-- The table of an ensemble: the sites of a class go round its servers. This is the one word that says who carries a site.
unfoldable pub carrier : Setup → Class → ℕ → ℕ
carrier s c site = first_server c + site % servers s c

-- the server of an object's attributes
abbrev pub object_server : Setup → ℕ → ℕ
object_server s f = carrier s class.Dir (site_of f)

-- of a name in a directory
abbrev pub name_server : Setup → ℕ → List ℕ → ℕ
name_server s d name = carrier s class.Dir (name_site s.policy d name)

-- of a byte of a file
abbrev pub byte_server : Setup → ℕ → ℕ → ℕ
byte_server s f offset = carrier s (class_of_byte offset) (site_of_byte f offset)

-- of a cell
abbrev pub key_server : Setup → Key → ℕ
key_server s (NodeKey f) = object_server s f
key_server s (NameKey d name) = name_server s d name
