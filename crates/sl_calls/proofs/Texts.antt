-- The canonical text of a call in range is in the grammar.
use Rattle.std.proofs.Common.{◌≡◌, ℕ, List, [], Some, Result, Ok, Err, refl, sym, ap, ◌∙◌, append-nil, arith}
use Rattle.std.specs.Prelude.{OnOk}
use Rattle.sl_defs.specs.Items.{u32_text, u64_text}
use Rattle.sl_defs.proofs.Readers.{same_some}
use Rattle.sl_types.specs.declared.call.CreateHow.{CreateHow}
use Rattle.sl_types.specs.declared.call.CreateHow.TheVariants as how
use Rattle.sl_types.specs.declared.call.Device.{Device}
use Rattle.sl_types.specs.declared.call.NodeData.{NodeData}
use Rattle.sl_types.specs.declared.call.NodeData.TheVariants as node
use Rattle.sl_types.specs.declared.call.Call.{Call}
use Rattle.sl_types.specs.declared.call.Call.TheVariants.{Null, Getattr, Setattr, Lookup, Access, Readlink, Read, Write, Create, Mkdir, Symlink, Mknod, Remove, Rmdir, Rename, Link, Readdir, Readdirplus, Fsstat, Fsinfo, Pathconf, Commit}
use Rattle.sl_items.proofs.DataTexts.{fh_spells, bytes_spells, optional_time_spells, sattr_spells}
use Rattle.sl_calls.specs.Args.{IsDirOp, IsCreateHow, IsDevice, IsNodeData, procedure_of, IsArgs, dir_op_text, create_how_text, device_text, node_data_text, args_text, FitsDirOp, FitsLengths, FitsCreateHow, FitsDevice, FitsNodeData, FitsNumbers}
use Rattle.sl_calls.specs.Laws.{CanonicalTextsSpell, NoSpellingIsAFront}
use Rattle.sl_calls.specs.Reading.{args_at}
use Rattle.sl_calls.proofs.Calls.{args_found}

dir_op_spells : (dir name : List ℕ) → FitsDirOp dir name → IsDirOp dir name (dir_op_text dir name)
unfolding dir_op_text
dir_op_spells dir name fits = (_, _, fh_spells dir fits.0, bytes_spells name fits.1, refl)

create_how_spells : (h : CreateHow) → FitsCreateHow h → IsCreateHow h (create_how_text h)
unfolding create_how_text
create_how_spells (how.Unchecked s) fits = (u32_text 0, _, (refl, omega arith), sattr_spells s fits, refl)
create_how_spells (how.Guarded s) fits = (u32_text 1, _, (refl, omega arith), sattr_spells s fits, refl)
create_how_spells (how.Exclusive v) fits = (u32_text 2, u64_text v, (refl, omega arith), (refl, fits), refl)

device_spells : (d : Device) → FitsDevice d → IsDevice d (device_text d)
unfolding device_text
device_spells d fits = (_, _, sattr_spells d.attributes fits.attributes, (_, _, (refl, fits.major), (refl, fits.minor), refl), refl)

node_data_spells : (d : NodeData) → FitsNodeData d → IsNodeData d (node_data_text d)
unfolding node_data_text
node_data_spells node.Reg fits = (u32_text 1, [], (refl, omega arith), refl, sym (append-nil (u32_text 1)))
node_data_spells node.Dir fits = (u32_text 2, [], (refl, omega arith), refl, sym (append-nil (u32_text 2)))
node_data_spells (node.Blk d) fits = (u32_text 3, _, (refl, omega arith), device_spells d fits, refl)
node_data_spells (node.Chr d) fits = (u32_text 4, _, (refl, omega arith), device_spells d fits, refl)
node_data_spells node.Lnk fits = (u32_text 5, [], (refl, omega arith), refl, sym (append-nil (u32_text 5)))
node_data_spells (node.Sock s) fits = (u32_text 6, _, (refl, omega arith), sattr_spells s fits, refl)
node_data_spells (node.Fifo s) fits = (u32_text 7, _, (refl, omega arith), sattr_spells s fits, refl)

pub args_spell : CanonicalTextsSpell
unfolding args_text
args_spell Null short fits = refl
args_spell (Getattr object) short fits = fh_spells object short
args_spell (Setattr object attributes guard) short fits = (_, _, fh_spells object short, (_, _, sattr_spells attributes fits.0, optional_time_spells guard fits.1, refl), refl)
args_spell (Lookup dir name) short fits = dir_op_spells dir name short
args_spell (Access object bits) short fits = (_, u32_text bits, fh_spells object short, (refl, fits), refl)
args_spell (Readlink link) short fits = fh_spells link short
args_spell (Read file offset count) short fits = (_, _, fh_spells file short, (_, _, (refl, fits.0), (refl, fits.1), refl), refl)
args_spell (Write file offset count stable_how body) short fits = (_, _, fh_spells file short.0, (_, _, (refl, fits.0), (_, _, (refl, fits.1), (_, _, refl, bytes_spells body short.1, refl), refl), refl), refl)
args_spell (Create dir name how) short fits = (_, _, dir_op_spells dir name short, create_how_spells how fits, refl)
args_spell (Mkdir dir name attributes) short fits = (_, _, dir_op_spells dir name short, sattr_spells attributes fits, refl)
args_spell (Symlink dir name attributes path) short fits = (_, _, dir_op_spells dir name short.0, (_, _, sattr_spells attributes fits, bytes_spells path short.1, refl), refl)
args_spell (Mknod dir name what) short fits = (_, _, dir_op_spells dir name short, node_data_spells what fits, refl)
args_spell (Remove dir name) short fits = dir_op_spells dir name short
args_spell (Rmdir dir name) short fits = dir_op_spells dir name short
args_spell (Rename from from_name to to_name) short fits = (_, _, dir_op_spells from from_name short.0, dir_op_spells to to_name short.1, refl)
args_spell (Link file dir name) short fits = (_, _, fh_spells file short.0, dir_op_spells dir name short.1, refl)
args_spell (Readdir dir cookie verifier count) short fits = (_, _, fh_spells dir short, (_, _, (refl, fits.0), (_, _, (refl, fits.1), (refl, fits.2), refl), refl), refl)
args_spell (Readdirplus dir cookie verifier dircount maxcount) short fits = (_, _, fh_spells dir short, (_, _, (refl, fits.0), (_, _, (refl, fits.1), (_, _, (refl, fits.2), (refl, fits.3), refl), refl), refl), refl)
args_spell (Fsstat object) short fits = fh_spells object short
args_spell (Fsinfo object) short fits = fh_spells object short
args_spell (Pathconf object) short fits = fh_spells object short
args_spell (Commit file offset count) short fits = (_, _, fh_spells file short, (_, _, (refl, fits.0), (refl, fits.1), refl), refl)

-- both are read from the front of the longer text
pub no_front : NoSpellingIsAFront
no_front call other front text rest same is other_is e =
    let first : args_at (procedure_of other) text ≡ Some (call, rest) = ap (λ n. args_at n text) (sym same) ∙ ap (args_at (procedure_of call)) e ∙ args_found call front rest is in
    let second : args_at (procedure_of other) text ≡ Some (other, []) = ap (args_at (procedure_of other)) (sym (append-nil text)) ∙ args_found other text [] other_is in
    let both = same_some (call, rest) (other, []) (sym first ∙ second) in
    (ap (λ (x : Call × List ℕ). x.0) both, ap (λ (x : Call × List ℕ). x.1) both)

-- what was written is in the grammar, where its numbers are those of a program
pub on_ok_spelled : {A E : Type 0} (r : Result A E) (call : Call) → FitsLengths call → OnOk r (FitsNumbers call) → OnOk r (IsArgs call (args_text call))
on_ok_spelled r call short fits =
    elim r as (λ r. OnOk r (FitsNumbers call) → OnOk r (IsArgs call (args_text call))) [
      | Ok x ↦ λ numbers. args_spell call short numbers
      | Err e ↦ λ _. tt
    ] fits
