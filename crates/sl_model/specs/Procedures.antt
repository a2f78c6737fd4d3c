-- Each call's plan, and each procedure's failure.
use Rattle.std.specs.Prelude.{ℕ, List, None, Bool, true, false, Err}
use Rattle.sl_defs.specs.declared.setup.Time.{Time}
use Rattle.sl_defs.specs.declared.note.Choice.{Choice}
use Rattle.sl_types.specs.declared.kind.Status.{Status}
use Rattle.sl_types.specs.declared.cred.Cred.{Cred}
use Rattle.sl_types.specs.declared.handle.Handle.{Handle}
use Rattle.sl_types.specs.declared.call.Call.{Call}
use Rattle.sl_types.specs.declared.call.Call.TheVariants as call
use Rattle.sl_types.specs.declared.reply.AttrFault.{AttrFault}
use Rattle.sl_types.specs.declared.reply.WccFault.{WccFault}
use Rattle.sl_types.specs.declared.reply.Reply.{Reply}
use Rattle.sl_types.specs.declared.reply.Reply.TheVariants as reply
use Rattle.sl_model.specs.Plan.{Plan, ◌>>=◌}
use Rattle.sl_model.specs.Checks.{handle}
use Rattle.sl_model.specs.Looking.{Outcome, unchanged, getattr, lookup, access, readlink, read, readdir, readdirplus, fsstat, fsinfo, pathconf, commit, no_wcc}
use Rattle.sl_model.specs.Changing.{setattr, write, create, mkdir, symlink, mknod, remove, rmdir, rename, link}

-- The handles are read first (NFS3ERR_BADHANDLE).
abbrev pub with_handle : List ℕ → (Handle → Plan Outcome) → Plan Outcome
with_handle bytes f = do
  h ← handle bytes
  f h

abbrev pub with_handles : List ℕ → List ℕ → (Handle → Handle → Plan Outcome) → Plan Outcome
with_handles first second f = do
  a ← handle first
  b ← handle second
  f a b

abbrev pub plan : Call → Cred → Time → Choice → Plan Outcome
plan call.Null cred now choice = unchanged reply.Null
plan (call.Getattr object) cred now choice = with_handle object (λ h. getattr cred h)
plan (call.Setattr object attributes guard) cred now choice = with_handle object (λ h. setattr cred h attributes guard now)
plan (call.Lookup dir name) cred now choice = with_handle dir (λ h. lookup cred h name)
plan (call.Access object bits) cred now choice = with_handle object (λ h. access cred h bits)
plan (call.Readlink link) cred now choice = with_handle link (λ h. readlink cred h)
plan (call.Read file offset count) cred now choice = with_handle file (λ h. read cred h offset count)
plan (call.Write file offset count asked bytes) cred now choice = with_handle file (λ h. write cred h offset count asked bytes now choice)
plan (call.Create dir name how) cred now choice = with_handle dir (λ h. create cred h name how now choice)
plan (call.Mkdir dir name attributes) cred now choice = with_handle dir (λ h. mkdir cred h name attributes now choice)
plan (call.Symlink dir name attributes path) cred now choice = with_handle dir (λ h. symlink cred h name attributes path now choice)
plan (call.Mknod dir name what) cred now choice = with_handle dir (λ h. mknod cred h name what now choice)
plan (call.Remove dir name) cred now choice = with_handle dir (λ h. remove cred h name now)
plan (call.Rmdir dir name) cred now choice = with_handle dir (λ h. rmdir cred h name now)
plan (call.Rename from name to to_name) cred now choice = with_handles from to (λ a b. rename cred a name b to_name now)
plan (call.Link file dir name) cred now choice = with_handles file dir (λ h to. link cred h to name now)
plan (call.Readdir dir cookie verifier count) cred now choice = with_handle dir (λ h. readdir cred h cookie verifier count)
plan (call.Readdirplus dir cookie verifier dircount maxcount) cred now choice = with_handle dir (λ h. readdirplus cred h cookie verifier maxcount)
plan (call.Fsstat object) cred now choice = with_handle object (λ h. fsstat cred h)
plan (call.Fsinfo object) cred now choice = with_handle object (λ h. fsinfo cred h)
plan (call.Pathconf object) cred now choice = with_handle object (λ h. pathconf cred h)
plan (call.Commit file offset count) cred now choice = with_handle file (λ h. commit cred h)

-- a failure has no attributes (RFC 1813, section 3.3: they are optional in each)
abbrev pub attr_fault : Status → AttrFault
attr_fault s = record { status = s; attributes = None }

abbrev pub wcc_fault : Status → WccFault
wcc_fault s = record { status = s; wcc = no_wcc }

abbrev pub fault : Call → Status → Reply
fault call.Null s = reply.Null
fault (call.Getattr object) s = reply.Getattr (Err s)
fault (call.Setattr object attributes guard) s = reply.Setattr s no_wcc
fault (call.Lookup dir name) s = reply.Lookup (Err (attr_fault s))
fault (call.Access object bits) s = reply.Access (Err (attr_fault s))
fault (call.Readlink link) s = reply.Readlink (Err (attr_fault s))
fault (call.Read file offset count) s = reply.Read (Err (attr_fault s))
fault (call.Write file offset count asked bytes) s = reply.Write (Err (wcc_fault s))
fault (call.Create dir name how) s = reply.Create (Err (wcc_fault s))
fault (call.Mkdir dir name attributes) s = reply.Mkdir (Err (wcc_fault s))
fault (call.Symlink dir name attributes path) s = reply.Symlink (Err (wcc_fault s))
fault (call.Mknod dir name what) s = reply.Mknod (Err (wcc_fault s))
fault (call.Remove dir name) s = reply.Remove s no_wcc
fault (call.Rmdir dir name) s = reply.Rmdir s no_wcc
fault (call.Rename from name to to_name) s = reply.Rename s no_wcc no_wcc
fault (call.Link file dir name) s = reply.Link s None no_wcc
fault (call.Readdir dir cookie verifier count) s = reply.Readdir (Err (attr_fault s))
fault (call.Readdirplus dir cookie verifier dircount maxcount) s = reply.Readdirplus (Err (attr_fault s))
fault (call.Fsstat object) s = reply.Fsstat (Err (attr_fault s))
fault (call.Fsinfo object) s = reply.Fsinfo (Err (attr_fault s))
fault (call.Pathconf object) s = reply.Pathconf (Err (attr_fault s))
fault (call.Commit file offset count) s = reply.Commit (Err (wcc_fault s))

-- whether a call asks only: COMMIT flushes
abbrev pub is_reading : Call → Bool
is_reading call.Null = true
is_reading (call.Getattr object) = true
is_reading (call.Lookup dir name) = true
is_reading (call.Access object bits) = true
is_reading (call.Readlink link) = true
is_reading (call.Read file offset count) = true
is_reading (call.Readdir dir cookie verifier count) = true
is_reading (call.Readdirplus dir cookie verifier dircount maxcount) = true
is_reading (call.Fsstat object) = true
is_reading (call.Fsinfo object) = true
is_reading (call.Pathconf object) = true
is_reading _ = false
