-- Each reader of arguments reads exactly what the grammar spells.
use Rattle.std.proofs.Common.{◌≡◌, ℕ, zero, suc, ◌^◌, ◌<◌, cond, eqb, List, [], ◌++◌, Option, Some, None, Result, Ok, Err, refl, sym, ap, subst, ◌∙◌, arith}
use Rattle.std.specs.Prelude.{IfOk}
use Rattle.sl_defs.specs.Items.{AreBytes}
use Rattle.sl_defs.specs.Parts.{mapped}
use Rattle.sl_defs.proofs.Readers.{IsReader, Took, same_some, made, takes_nothing, u32_reader, u64_reader, both, mapped_takes, mapped_found, structure, union, optional}
use Rattle.sl_types.specs.declared.call.CreateHow.{CreateHow}
use Rattle.sl_types.specs.declared.call.CreateHow.TheVariants as how
use Rattle.sl_types.specs.declared.call.Device.{Device}
use Rattle.sl_types.specs.declared.call.NodeData.{NodeData}
use Rattle.sl_types.specs.declared.call.NodeData.TheVariants as node
use Rattle.sl_types.specs.declared.call.Call.{Call}
use Rattle.sl_types.specs.declared.call.Call.TheVariants.{Null, Getattr, Setattr, Lookup, Access, Readlink, Read, Write, Create, Mkdir, Symlink, Mknod, Remove, Rmdir, Rename, Link, Readdir, Readdirplus, Fsstat, Fsinfo, Pathconf, Commit}
use Rattle.sl_types.specs.declared.fault.ArgsFault.{ArgsFault}
use Rattle.sl_types.specs.declared.fault.ArgsFault.TheVariants as fault
use Rattle.sl_items.specs.Reading.{GivesArgs}
use Rattle.sl_items.proofs.Choices.{chosen}
use Rattle.sl_items.proofs.DataReaders.{fh_reader, bytes_reader, time_reader, sattr_reader, stable_reader}
use Rattle.sl_calls.specs.Args.{IsDirOp, create_mode, IsCreateArm, IsCreateHow, IsDevice, node_kind, IsNodeArm, IsNodeData, procedure_of, IsArgs, BeginsWithArgs, FitsDirOp, FitsLengths}
use Rattle.sl_calls.specs.Reading.{dir_op_at, create_arm_at, create_how_at, device_at, node_arm_at, node_data_at, setattr_at, setattr_call, access_at, access_call, read_at, read_call, write_at, write_call, create_at, create_call, mkdir_at, mkdir_call, symlink_at, symlink_call, mknod_at, mknod_call, rename_at, rename_call, link_at, link_call, readdir_at, readdir_call, readdirplus_at, readdirplus_call, commit_at, commit_call, object_at, entry_at, entry_call, args_at}

-- ---- parts of arguments

dir_op_reader : IsReader dir_op_at (λ x. IsDirOp x.0 x.1)
unfolding dir_op_at
dir_op_reader = both fh_reader bytes_reader

abbrev IsCreateOf : ℕ → CreateHow → List ℕ → Type 0
IsCreateOf n h text = IsCreateArm h text × (create_mode h ≡ n)

create_takes : (n : ℕ) (bytes : List ℕ) (x : CreateHow × List ℕ) → AreBytes bytes → create_arm_at n bytes ≡ Some x → Took (IsCreateOf n) bytes x
unfolding create_arm_at
create_takes zero bytes x fits e = mapped_takes sattr_reader (IsCreateOf 0) how.Unchecked (λ s text is. (is, refl)) bytes x fits e
create_takes (suc zero) bytes x fits e = mapped_takes sattr_reader (IsCreateOf 1) how.Guarded (λ s text is. (is, refl)) bytes x fits e
create_takes (suc (suc zero)) bytes x fits e = mapped_takes u64_reader (IsCreateOf 2) how.Exclusive (λ v text is. (is, refl)) bytes x fits e
create_takes (suc (suc (suc n))) bytes x fits e = absurd cc

create_found : (h : CreateHow) (text rest : List ℕ) → IsCreateArm h text → create_arm_at (create_mode h) (text ++ rest) ≡ Some (h, rest)
unfolding create_arm_at
create_found (how.Unchecked s) text rest is = mapped_found sattr_reader how.Unchecked s text rest is
create_found (how.Guarded s) text rest is = mapped_found sattr_reader how.Guarded s text rest is
create_found (how.Exclusive v) text rest is = mapped_found u64_reader how.Exclusive v text rest is

create_mode_fits : (h : CreateHow) → create_mode h < 2 ^ 32
create_mode_fits (how.Unchecked s) = omega arith
create_mode_fits (how.Guarded s) = omega arith
create_mode_fits (how.Exclusive v) = omega arith

create_how_reader : IsReader create_how_at IsCreateHow
unfolding create_how_at
create_how_reader = union (record { takes = create_takes; found = create_found; number_fits = create_mode_fits })

device_reader : IsReader device_at IsDevice
unfolding device_at
device_reader = structure (both sattr_reader (both u32_reader u32_reader)) (λ x. record { attributes = x.0; major = x.1.0; minor = x.1.1 }) (λ (d : Device). (d.attributes, (d.major, d.minor))) (λ d. refl) (λ x. refl)

abbrev IsNodeOf : ℕ → NodeData → List ℕ → Type 0
IsNodeOf n d text = IsNodeArm d text × (node_kind d ≡ n)

node_takes : (n : ℕ) (bytes : List ℕ) (x : NodeData × List ℕ) → AreBytes bytes → node_arm_at n bytes ≡ Some x → Took (IsNodeOf n) bytes x
unfolding node_arm_at
node_takes zero bytes x fits e = absurd cc
node_takes (suc zero) bytes x fits e = made (IsNodeOf 1) bytes node.Reg bytes [] x e (refl, refl) (takes_nothing bytes fits)
node_takes (suc (suc zero)) bytes x fits e = made (IsNodeOf 2) bytes node.Dir bytes [] x e (refl, refl) (takes_nothing bytes fits)
node_takes (suc (suc (suc zero))) bytes x fits e = mapped_takes device_reader (IsNodeOf 3) node.Blk (λ d text is. (is, refl)) bytes x fits e
node_takes (suc (suc (suc (suc zero)))) bytes x fits e = mapped_takes device_reader (IsNodeOf 4) node.Chr (λ d text is. (is, refl)) bytes x fits e
node_takes (suc (suc (suc (suc (suc zero))))) bytes x fits e = made (IsNodeOf 5) bytes node.Lnk bytes [] x e (refl, refl) (takes_nothing bytes fits)
node_takes (suc (suc (suc (suc (suc (suc zero)))))) bytes x fits e = mapped_takes sattr_reader (IsNodeOf 6) node.Sock (λ s text is. (is, refl)) bytes x fits e
node_takes (suc (suc (suc (suc (suc (suc (suc zero))))))) bytes x fits e = mapped_takes sattr_reader (IsNodeOf 7) node.Fifo (λ s text is. (is, refl)) bytes x fits e
node_takes (suc (suc (suc (suc (suc (suc (suc (suc n)))))))) bytes x fits e = absurd cc

node_found : (d : NodeData) (text rest : List ℕ) → IsNodeArm d text → node_arm_at (node_kind d) (text ++ rest) ≡ Some (d, rest)
unfolding node_arm_at
node_found node.Reg text rest is = rw is refl
node_found node.Dir text rest is = rw is refl
node_found (node.Blk d) text rest is = mapped_found device_reader node.Blk d text rest is
node_found (node.Chr d) text rest is = mapped_found device_reader node.Chr d text rest is
node_found node.Lnk text rest is = rw is refl
node_found (node.Sock s) text rest is = mapped_found sattr_reader node.Sock s text rest is
node_found (node.Fifo s) text rest is = mapped_found sattr_reader node.Fifo s text rest is

node_kind_fits : (d : NodeData) → node_kind d < 2 ^ 32
node_kind_fits node.Reg = omega arith
node_kind_fits node.Dir = omega arith
node_kind_fits (node.Blk d) = omega arith
node_kind_fits (node.Chr d) = omega arith
node_kind_fits node.Lnk = omega arith
node_kind_fits (node.Sock s) = omega arith
node_kind_fits (node.Fifo s) = omega arith

node_data_reader : IsReader node_data_at IsNodeData
unfolding node_data_at
node_data_reader = union (record { takes = node_takes; found = node_found; number_fits = node_kind_fits })

-- ---- one law for each procedure: its reader reads exactly its arguments

-- the arguments of a call of this procedure
abbrev pub IsCallOf : ℕ → Call → List ℕ → Type 0
IsCallOf n c text = IsArgs c text × (procedure_of c ≡ n)

-- The reader reads exactly the calls of procedure n that are made of such fields.
record Reads {A : Type 0} (n : ℕ) (read : List ℕ → Option (Call × List ℕ)) (call : A → Call) : Type 0 where
  takes : (bytes : List ℕ) (x : Call × List ℕ) → AreBytes bytes → read bytes ≡ Some x → Took (IsCallOf n) bytes x
  found : (fields : A) (text rest : List ℕ) → IsArgs (call fields) text → read (text ++ rest) ≡ Some (call fields, rest)

reads : {A : Type 0} {n : ℕ} {fields_at : List ℕ → Option (A × List ℕ)} {call : A → Call} → IsReader fields_at (λ x. IsArgs (call x)) → ((x : A) → procedure_of (call x) ≡ n) → Reads n (mapped call fields_at) call
reads {n = n} {call = call} r number = record {
  takes = mapped_takes r (IsCallOf n) call (λ x text is. (is, number x));
  found = mapped_found r call;
}

getattr_reads : Reads 1 (object_at Getattr) Getattr
getattr_reads = reads fh_reader (λ x. refl)

setattr_reads : Reads 2 setattr_at setattr_call
unfolding setattr_at
setattr_reads = reads (both fh_reader (both sattr_reader (optional time_reader))) (λ x. refl)

lookup_reads : Reads 3 (entry_at Lookup) (entry_call Lookup)
lookup_reads = reads dir_op_reader (λ x. refl)

access_reads : Reads 4 access_at access_call
unfolding access_at
access_reads = reads (both fh_reader u32_reader) (λ x. refl)

readlink_reads : Reads 5 (object_at Readlink) Readlink
readlink_reads = reads fh_reader (λ x. refl)

read_reads : Reads 6 read_at read_call
unfolding read_at
read_reads = reads (both fh_reader (both u64_reader u32_reader)) (λ x. refl)

write_reads : Reads 7 write_at write_call
unfolding write_at
write_reads = reads (both fh_reader (both u64_reader (both u32_reader (both stable_reader bytes_reader)))) (λ x. refl)

create_reads : Reads 8 create_at create_call
unfolding create_at
create_reads = reads (both dir_op_reader create_how_reader) (λ x. refl)

mkdir_reads : Reads 9 mkdir_at mkdir_call
unfolding mkdir_at
mkdir_reads = reads (both dir_op_reader sattr_reader) (λ x. refl)

symlink_reads : Reads 10 symlink_at symlink_call
unfolding symlink_at
symlink_reads = reads (both dir_op_reader (both sattr_reader bytes_reader)) (λ x. refl)

mknod_reads : Reads 11 mknod_at mknod_call
unfolding mknod_at
mknod_reads = reads (both dir_op_reader node_data_reader) (λ x. refl)

remove_reads : Reads 12 (entry_at Remove) (entry_call Remove)
remove_reads = reads dir_op_reader (λ x. refl)

rmdir_reads : Reads 13 (entry_at Rmdir) (entry_call Rmdir)
rmdir_reads = reads dir_op_reader (λ x. refl)

rename_reads : Reads 14 rename_at rename_call
unfolding rename_at
rename_reads = reads (both dir_op_reader dir_op_reader) (λ x. refl)

link_reads : Reads 15 link_at link_call
unfolding link_at
link_reads = reads (both fh_reader dir_op_reader) (λ x. refl)

readdir_reads : Reads 16 readdir_at readdir_call
unfolding readdir_at
readdir_reads = reads (both fh_reader (both u64_reader (both u64_reader u32_reader))) (λ x. refl)

readdirplus_reads : Reads 17 readdirplus_at readdirplus_call
unfolding readdirplus_at
readdirplus_reads = reads (both fh_reader (both u64_reader (both u64_reader (both u32_reader u32_reader)))) (λ x. refl)

fsstat_reads : Reads 18 (object_at Fsstat) Fsstat
fsstat_reads = reads fh_reader (λ x. refl)

fsinfo_reads : Reads 19 (object_at Fsinfo) Fsinfo
fsinfo_reads = reads fh_reader (λ x. refl)

pathconf_reads : Reads 20 (object_at Pathconf) Pathconf
pathconf_reads = reads fh_reader (λ x. refl)

commit_reads : Reads 21 commit_at commit_call
unfolding commit_at
commit_reads = reads (both fh_reader (both u64_reader u32_reader)) (λ x. refl)

-- ---- what is spelled is read

pub args_found : (c : Call) (text rest : List ℕ) → IsArgs c text → args_at (procedure_of c) (text ++ rest) ≡ Some (c, rest)
unfolding args_at
args_found Null text rest is = rw is refl
args_found (Getattr object) text rest is = getattr_reads.found object text rest is
args_found (Setattr object attributes guard) text rest is = setattr_reads.found (object, (attributes, guard)) text rest is
args_found (Lookup dir name) text rest is = lookup_reads.found (dir, name) text rest is
args_found (Access object bits) text rest is = access_reads.found (object, bits) text rest is
args_found (Readlink link) text rest is = readlink_reads.found link text rest is
args_found (Read file offset count) text rest is = read_reads.found (file, (offset, count)) text rest is
args_found (Write file offset count stable_how body) text rest is = write_reads.found (file, (offset, (count, (stable_how, body)))) text rest is
args_found (Create dir name how) text rest is = create_reads.found ((dir, name), how) text rest is
args_found (Mkdir dir name attributes) text rest is = mkdir_reads.found ((dir, name), attributes) text rest is
args_found (Symlink dir name attributes path) text rest is = symlink_reads.found ((dir, name), (attributes, path)) text rest is
args_found (Mknod dir name what) text rest is = mknod_reads.found ((dir, name), what) text rest is
args_found (Remove dir name) text rest is = remove_reads.found (dir, name) text rest is
args_found (Rmdir dir name) text rest is = rmdir_reads.found (dir, name) text rest is
args_found (Rename from from_name to to_name) text rest is = rename_reads.found ((from, from_name), (to, to_name)) text rest is
args_found (Link file dir name) text rest is = link_reads.found (file, (dir, name)) text rest is
args_found (Readdir dir cookie verifier count) text rest is = readdir_reads.found (dir, (cookie, (verifier, count))) text rest is
args_found (Readdirplus dir cookie verifier dircount maxcount) text rest is = readdirplus_reads.found (dir, (cookie, (verifier, (dircount, maxcount)))) text rest is
args_found (Fsstat object) text rest is = fsstat_reads.found object text rest is
args_found (Fsinfo object) text rest is = fsinfo_reads.found object text rest is
args_found (Pathconf object) text rest is = pathconf_reads.found object text rest is
args_found (Commit file offset count) text rest is = commit_reads.found (file, (offset, count)) text rest is

-- ---- what is read is spelled

-- the reader of procedure m, or what comes after it
arm : {A : Type 0} {m : ℕ} {read : List ℕ → Option (Call × List ℕ)} {call : A → Call} (r : Reads m read call) (g : List ℕ → Option (Call × List ℕ)) (n : ℕ) (bytes : List ℕ) (x : Call × List ℕ) → AreBytes bytes → cond (eqb n m) read g bytes ≡ Some x
    → (g bytes ≡ Some x → Took (IsCallOf n) bytes x) → Took (IsCallOf n) bytes x
arm {m = m} {read = read} r g n bytes x fits e k =
    chosen n m read g bytes (Some x) (Took (IsCallOf n) bytes x) e (λ is h. subst (λ (n : ℕ). Took (IsCallOf n) bytes x) (sym is) (r.takes bytes x fits h)) k

pub args_takes : (n : ℕ) (bytes : List ℕ) (x : Call × List ℕ) → AreBytes bytes → args_at n bytes ≡ Some x → Took (IsCallOf n) bytes x
unfolding args_at
args_takes n bytes x fits e =
    chosen n 0 _ _ bytes (Some x) (Took (IsCallOf n) bytes x) e (λ is h. made (IsCallOf n) bytes Null bytes [] x h (refl, sym is) (takes_nothing bytes fits)) (λ e1.
    arm getattr_reads _ n bytes x fits e1 (λ e2.
    arm setattr_reads _ n bytes x fits e2 (λ e3.
    arm lookup_reads _ n bytes x fits e3 (λ e4.
    arm access_reads _ n bytes x fits e4 (λ e5.
    arm readlink_reads _ n bytes x fits e5 (λ e6.
    arm read_reads _ n bytes x fits e6 (λ e7.
    arm write_reads _ n bytes x fits e7 (λ e8.
    arm create_reads _ n bytes x fits e8 (λ e9.
    arm mkdir_reads _ n bytes x fits e9 (λ e10.
    arm symlink_reads _ n bytes x fits e10 (λ e11.
    arm mknod_reads _ n bytes x fits e11 (λ e12.
    arm remove_reads _ n bytes x fits e12 (λ e13.
    arm rmdir_reads _ n bytes x fits e13 (λ e14.
    arm rename_reads _ n bytes x fits e14 (λ e15.
    arm link_reads _ n bytes x fits e15 (λ e16.
    arm readdir_reads _ n bytes x fits e16 (λ e17.
    arm readdirplus_reads _ n bytes x fits e17 (λ e18.
    arm fsstat_reads _ n bytes x fits e18 (λ e19.
    arm fsinfo_reads _ n bytes x fits e19 (λ e20.
    arm pathconf_reads _ n bytes x fits e20 (λ e21.
    arm commit_reads _ n bytes x fits e21 (λ none. absurd cc))))))))))))))))))))))

-- ---- what is spelled has lengths in range

dir_op_fits : (dir name text : List ℕ) → IsDirOp dir name text → FitsDirOp dir name
dir_op_fits dir name text is = (is.2.1, is.3.short)

args_fit : (c : Call) (text : List ℕ) → IsArgs c text → FitsLengths c
args_fit Null text is = tt
args_fit (Getattr object) text is = is.1
args_fit (Setattr object attributes guard) text is = is.2.1
args_fit (Lookup dir name) text is = dir_op_fits dir name text is
args_fit (Access object bits) text is = is.2.1
args_fit (Readlink link) text is = is.1
args_fit (Read file offset count) text is = is.2.1
args_fit (Write file offset count stable_how body) text is = (is.2.1, is.3.3.3.3.short)
args_fit (Create dir name how) text is = dir_op_fits dir name is.0 is.2
args_fit (Mkdir dir name attributes) text is = dir_op_fits dir name is.0 is.2
args_fit (Symlink dir name attributes path) text is = (dir_op_fits dir name is.0 is.2, is.3.3.short)
args_fit (Mknod dir name what) text is = dir_op_fits dir name is.0 is.2
args_fit (Remove dir name) text is = dir_op_fits dir name text is
args_fit (Rmdir dir name) text is = dir_op_fits dir name text is
args_fit (Rename from from_name to to_name) text is = (dir_op_fits from from_name is.0 is.2, dir_op_fits to to_name is.1 is.3)
args_fit (Link file dir name) text is = (is.2.1, dir_op_fits dir name is.1 is.3)
args_fit (Readdir dir cookie verifier count) text is = is.2.1
args_fit (Readdirplus dir cookie verifier dircount maxcount) text is = is.2.1
args_fit (Fsstat object) text is = is.1
args_fit (Fsinfo object) text is = is.1
args_fit (Pathconf object) text is = is.1
args_fit (Commit file offset count) text is = is.2.1

-- ---- a reader's answer

pub args_at_front : (n : ℕ) (c : Call) (bytes : List ℕ) → BeginsWithArgs n c bytes → (rest : List ℕ) × (args_at n bytes ≡ Some (c, rest))
args_at_front n c bytes b = (b.rest, ap (λ k. args_at k bytes) (sym b.number) ∙ ap (args_at (procedure_of c)) b.whole ∙ args_found c b.text b.rest b.args)

module _ (n : ℕ) (bytes : List ℕ) (r : Result Call ArgsFault) (rest : List ℕ) where
  pub is_found : AreBytes bytes → GivesArgs (λ c. (c, rest)) r (args_at n bytes) → IfOk r (λ c. BeginsWithArgs n c bytes)
  is_found fits h =
      elim r as (λ (r : Result Call ArgsFault). GivesArgs (λ c. (c, rest)) r (args_at n bytes) → IfOk r (λ c. BeginsWithArgs n c bytes)) [
        | Ok c ↦ λ g. let t = args_takes n bytes (c, rest) fits g in record { number = t.1.1; text = t.0; rest = rest; args = t.1.0; whole = t.2.parts }
        | Err e ↦ λ _. tt
      ] h

  pub is_only : GivesArgs (λ c. (c, rest)) r (args_at n bytes) → IfOk r (λ c. (other : Call) → BeginsWithArgs n other bytes → other ≡ c)
  is_only h =
      elim r as (λ (r : Result Call ArgsFault). GivesArgs (λ c. (c, rest)) r (args_at n bytes) → IfOk r (λ c. (other : Call) → BeginsWithArgs n other bytes → other ≡ c)) [
        | Ok c ↦ λ g other b. let f = args_at_front n other bytes b in ap (λ (x : Call × List ℕ). x.0) (same_some (other, f.0) (c, rest) (sym f.1 ∙ g))
        | Err e ↦ λ _. tt
      ] h

  pub is_short : AreBytes bytes → GivesArgs (λ c. (c, rest)) r (args_at n bytes) → IfOk r FitsLengths
  is_short fits h =
      elim r as (λ (r : Result Call ArgsFault). GivesArgs (λ c. (c, rest)) r (args_at n bytes) → IfOk r FitsLengths) [
        | Ok c ↦ λ g. let t = args_takes n bytes (c, rest) fits g in args_fit c t.0 t.1.0
        | Err e ↦ λ _. tt
      ] h

  pub is_garbage : GivesArgs (λ c. (c, rest)) r (args_at n bytes) → r ≡ Err fault.Garbage → (c : Call) → BeginsWithArgs n c bytes → ⊥
  is_garbage h e c b =
      let g : args_at n bytes ≡ None = subst (λ (r : Result Call ArgsFault). GivesArgs (λ c. (c, rest)) r (args_at n bytes)) e h in
      let f = args_at_front n c bytes b in
      let clash : ◌≡◌ {A = Option (Call × List ℕ)} None (Some (c, f.0)) = sym g ∙ f.1 in
      cc
