-- Calls that ask of a file its attributes alone: it is enough to know these, and no cell.
use Rattle.std.specs.Prelude.{◌≡◌, ℕ, List, [], ◌∷◌, Option, Some, None, Bool, true, false}
use Rattle.std.specs.FinMap as map
use Rattle.sl_defs.specs.declared.setup.Time.{Time}
use Rattle.sl_defs.specs.declared.note.Choice.{Choice}
use Rattle.sl_types.specs.declared.cred.Cred.{Cred}
use Rattle.sl_types.specs.declared.call.Call.{Call}
use Rattle.sl_types.specs.declared.call.Call.TheVariants as call
use Rattle.sl_types.specs.declared.reply.Reply.{Reply}
use Rattle.sl_model.specs.declared.node.Node.{Node}
use Rattle.sl_model.specs.declared.node.Entry.{Entry}
use Rattle.sl_model.specs.Volume.{Volume, Change, PutNode, changed, seen, sight, is_reg}
use Rattle.sl_model.specs.Looking.{Outcome, attributes}
use Rattle.sl_model.specs.Perform.{perform}
use Rattle.sl_model.specs.Tree.{Tree}
use Rattle.sl_model.specs.Gathered.{Gathered, node_in, name_in, needs_of, effect_of}

-- the calls that ask nothing else of a file (RFC 1813, sections 3.3.1, 3.3.3, 3.3.4, 3.3.6, 3.3.7 and 3.3.21)
abbrev pub asks_attributes : Call → Bool
asks_attributes (call.Getattr object) = true
asks_attributes (call.Lookup dir name) = true
asks_attributes (call.Access object bits) = true
asks_attributes (call.Read file offset count) = true
asks_attributes (call.Write file offset count asked bytes) = true
asks_attributes (call.Commit file offset count) = true
asks_attributes _ = false

-- A node that has the attributes of another. What else a server keeps of a file may be missing or wrong.
pub record HasAttributes (n m : Node) : Type 0 where
  pub same : attributes n ≡ attributes m
  pub other : is_reg m.kind ≡ false → n ≡ m

abbrev pub HaveAttributes : Option Node → Option Node → Type 0
HaveAttributes None None = Unit {0}
HaveAttributes (Some n) (Some m) = HasAttributes n m
HaveAttributes _ _ = ⊥

-- What was gathered has the attributes of each view, and is the volume's in all that these calls ask else.
pub record GathersAttributes (g : Gathered) (v : Volume) : Type 0 where
  pub nodes : (f : ℕ) (o : Option Node) → node_in g.cells f ≡ Some o → HaveAttributes o (seen v f)
  pub found : (d : ℕ) (name : List ℕ) (o : Option Entry) → name_in g.cells d name ≡ Some o → o ≡ map.get v.names (d, name)
  pub bytes : (f at count : ℕ) → g.bytes f at count ≡ (sight v).bytes f at count
  pub verifier : g.verifier ≡ v.verifier

-- a node with the attributes of another, and what the server keeps beside them its own
abbrev pub with_attributes : Node → Node → Node
with_attributes m n = record n { parent = m.parent; entries = m.entries; made = m.made; verifier = m.verifier }

abbrev pub keeping : Option Node → Node → Node
keeping None n = n
keeping (Some m) n = with_attributes m n

-- a change that sets the attributes of a node, and leaves what the volume keeps beside them
abbrev pub setting_in : Volume → Change → Change
setting_in v (PutNode f n) = PutNode f (keeping (map.get v.nodes f) n)
setting_in v c = c

abbrev pub after_settings : List Change → Volume → Volume
after_settings [] v = v
after_settings (c ∷ cs) v = after_settings cs (changed (setting_in v c) v)

pub record IsRightSet (v : Volume) (effect : Outcome) (after : Volume × Reply) : Type 0 where
  pub reply : effect.answer ≡ after.1
  pub volume : after_settings effect.changes v ≡ after.0

-- What such a call answers from attributes alone, and sets of them, is what it answers and changes over the volume.
abbrev pub AttributesSuffice : Type 0
AttributesSuffice = (v : Volume) (g : Gathered) (c : Call) (cred : Cred) (now : Time) (choice : Choice) → Tree v → asks_attributes c ≡ true → GathersAttributes g v
    → needs_of g c cred now choice ≡ [] → IsRightSet v (effect_of g c cred now choice) (perform v c cred now choice)
