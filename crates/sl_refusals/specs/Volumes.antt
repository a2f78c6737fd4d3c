-- A volume with one file, which is empty.
use Rattle.std.specs.Prelude.{[]}
use Rattle.std.specs.FinMap as map
use Rattle.sl_types.specs.declared.kind.Kind.TheVariants as kind
use Rattle.sl_types.specs.declared.call.CreateHow.TheVariants as how
use Rattle.sl_rpc.specs.Heads.{nobody}
use Rattle.sl_model.specs.declared.node.Node.{Node}
use Rattle.sl_model.specs.declared.node.Entry.{Entry}
use Rattle.sl_model.specs.Volume.{Volume}
use Rattle.sl_model.specs.Changing.{nothing_given, with_name, new_file, cookie_in, entry_to}
use Rattle.sl_model.specs.Perform.{epoch, new_root}
use Rattle.sl_refusals.specs.Packets.{name}

abbrev pub made_root : Node
made_root = with_name (new_root 1) kind.Reg epoch

abbrev pub made_file : Node
made_file = new_file (how.Unchecked nothing_given) nobody (new_root 1) epoch 2

abbrev pub made_entry : Entry
made_entry = entry_to made_file (cookie_in (new_root 1))

abbrev pub filed : Volume
filed = record {
  number = 1;
  nodes = map.insert (map.insert map.empty 1 made_root) 2 made_file;
  names = map.insert map.empty (1, name) made_entry;
  texts = map.empty;
  written = map.empty;
  unstable = [];
  verifier = 0;
  used = map.insert (map.insert map.empty 1 tt) 2 tt;
}
