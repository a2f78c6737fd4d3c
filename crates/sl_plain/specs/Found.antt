-- What the walks find, as outcomes.
use Rattle.std.proofs.Common.{suc}
use Rattle.std.specs.Prelude.{ℕ, ◌-◌, nat_lt, [], ◌∷◌, List, ◌++◌, map, Result, Ok, Some, None, ◌==◌, if◌then◌else◌}
use Rattle.sl_defs.specs.declared.setup.Time.{Time}
use Rattle.sl_types.specs.declared.kind.Kind.{Kind}
use Rattle.sl_types.specs.declared.kind.Status.{Status}
use Rattle.sl_types.specs.declared.kind.Status.TheVariants.{TooSmall}
use Rattle.sl_types.specs.declared.kind.Status.TheVariants as ended
use Rattle.sl_types.specs.declared.call.CreateHow.{CreateHow}
use Rattle.sl_types.specs.declared.cred.Cred.{Cred}
use Rattle.sl_types.specs.declared.reply.Reply.TheVariants as reply
use Rattle.sl_model.specs.declared.node.Node.{Node}
use Rattle.sl_model.specs.declared.node.Listed.{Listed}
use Rattle.sl_model.specs.Plan.{Sight, and_then}
use Rattle.sl_model.specs.Volume.{is_dir}
use Rattle.sl_model.specs.Looking as looking
use Rattle.sl_model.specs.Looking.{Outcome, attributes, handle_to, directory_handle, answering, no_wcc}
use Rattle.sl_model.specs.Changing as changing
use Rattle.sl_plain.specs.declared.special.Special.{Special}
use Rattle.sl_plain.specs.declared.listing.Listing.{Listing}
use Rattle.sl_plain.specs.declared.walks.Looked.{Looked}
use Rattle.sl_plain.specs.declared.walks.Looked.TheVariants.{Object, Parent}
use Rattle.sl_plain.specs.declared.creating.Creation.{Creation}
use Rattle.sl_plain.specs.declared.creating.Creation.TheVariants.{Present, Absent}
use Rattle.sl_plain.specs.declared.renaming.Renamed.{Renamed}
use Rattle.sl_plain.specs.declared.renaming.Renamed.TheVariants.{Same, Moved}
use Rattle.sl_plain.specs.Steps.{refused}

abbrev pub looked : Looked → Outcome
looked (Object n) = answering (looking.found (handle_to n) (Some (attributes n)))
looked (Parent d) = answering (looking.found (directory_handle d.fsid d.parent) None)

-- a file that is there, or the directory that it is made in
abbrev pub created : List ℕ → CreateHow → Cred → Time → ℕ → Creation → Outcome
created name how cred now f (Present n) = changing.recreating n how now
created name how cred now f (Absent d) = changing.creating d name how cred now f

-- both names are of one object, or it is moved
abbrev pub renamed : List ℕ → List ℕ → Time → Renamed → Outcome
renamed name to_name now Same = answering (reply.Rename ended.Ok no_wcc no_wcc)
renamed name to_name now (Moved from to object target) = changing.renaming from name to to_name object target now

abbrev pub special : Special → changing.Special
special s = record { kind = s.kind; attributes = s.attributes; major = s.major; minor = s.minor }

-- ---- parts of nodes

abbrev pub parent_of_new : Kind → Node → ℕ
parent_of_new kind d = if is_dir kind then d.fileid else 0

abbrev pub parent_in : Node → ℕ → ℕ
parent_in n d = if is_dir n.kind then d else n.parent

abbrev pub destination : Node → Node → Node → Node
destination from less to = if from.fileid == to.fileid then less else to

-- ---- listings

abbrev pub readdir_reply : looking.Listing → Outcome
readdir_reply l = answering (reply.Readdir (Ok (record { attributes = None; cookie_verifier = 0; entries = map looking.name_line l.lines; eof = l.eof })))

abbrev pub readdirplus_reply : looking.Listing → Outcome
readdirplus_reply l = answering (reply.Readdirplus (Ok (record { attributes = None; cookie_verifier = 0; entries = map (looking.plus_line l.directory.fsid) l.lines; eof = l.eof })))

abbrev pub listing : Listing → looking.Listing
listing l = record { directory = l.directory; lines = l.lines; eof = l.eof }

-- all lines behind a cookie
abbrev pub lines_behind : Sight → Node → ℕ → ℕ → List Listed
lines_behind eye d dir cookie = looking.behind cookie (looking.dots d) ++ eye.names dir cookie

-- those that fit
unfoldable pub fitted : Node → ℕ → ℕ → List Listed → Result Listing Status
fitted d fixed limit all = and_then (refused (looking.is_too_small limit (looking.fitting fixed (limit - 20) all) all) TooSmall) (λ u. Ok (record {
  directory = d;
  lines = looking.fitting fixed (limit - 20) all;
  eof = looking.same_length (looking.fitting fixed (limit - 20) all) all;
}))

-- how many lines stand before the first whose cookie isn't below this one
abbrev pub place_in : ℕ → List Listed → ℕ
place_in cookie [] = 0
place_in cookie (y ∷ ys) = if nat_lt y.cookie cookie then suc (place_in cookie ys) else 0

-- how many lines fit in so many bytes
abbrev pub fit_count : ℕ → ℕ → List Listed → ℕ
fit_count fixed room [] = 0
fit_count fixed room (x ∷ xs) = if nat_lt room (looking.line_size fixed x) then 0 else suc (fit_count fixed (room - looking.line_size fixed x) xs)
