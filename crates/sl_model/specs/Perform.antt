-- One server: what a call answers and leaves; its beginning.
use Rattle.std.specs.Prelude.{ℕ, [], None, Result, Ok, Err}
use Rattle.std.specs.FinMap as map
use Rattle.sl_defs.specs.declared.setup.Time.{Time}
use Rattle.sl_defs.specs.declared.note.Choice.{Choice}
use Rattle.sl_types.specs.declared.kind.Kind.TheVariants as kind
use Rattle.sl_types.specs.declared.kind.Status.{Status}
use Rattle.sl_types.specs.declared.cred.Cred.{Cred}
use Rattle.sl_types.specs.declared.call.Call.{Call}
use Rattle.sl_types.specs.declared.reply.Reply.{Reply}
use Rattle.sl_model.specs.declared.node.Node.{Node}
use Rattle.sl_model.specs.Plan.{run}
use Rattle.sl_model.specs.Volume.{Volume, after_changes, sight}
use Rattle.sl_model.specs.Looking.{Outcome}
use Rattle.sl_model.specs.Procedures.{plan, fault}

-- The volume after an answer, and the reply. A failure changes nothing.
abbrev pub ends : Volume → (Status → Reply) → Result Outcome Status → Volume × Reply
ends v fault (Ok o) = (after_changes o.changes v, o.answer)
ends v fault (Err s) = (v, fault s)

-- Perform: the volume after a call, and the reply to it (RFC 1813, section 3.3).
unfoldable pub perform : Volume → Call → Cred → Time → Choice → Volume × Reply
perform v call cred now choice = ends v (fault call) (run (sight v) (plan call cred now choice))

-- the mode of a new volume's root: 0755
abbrev pub root_mode : ℕ
root_mode = 493

abbrev pub epoch : Time
epoch = record { sec = 0; nsec = 0 }

-- the root of a new volume: fileid 1, its own parent, with no name in it
abbrev pub new_root : ℕ → Node
new_root number = record {
  kind = kind.Dir;
  mode = root_mode;
  nlink = 2;
  uid = 0;
  gid = 0;
  size = 0;
  major = 0;
  minor = 0;
  fsid = number;
  fileid = 1;
  atime = epoch;
  mtime = epoch;
  ctime = epoch;
  parent = 1;
  entries = 0;
  made = 0;
  verifier = None;
}

-- Fresh: a new volume is its root alone.
unfoldable pub fresh : ℕ → Volume
fresh number = record {
  number = number;
  nodes = map.insert map.empty 1 (new_root number);
  names = map.empty;
  texts = map.empty;
  written = map.empty;
  unstable = [];
  verifier = 0;
  used = map.insert map.empty 1 tt;
}
