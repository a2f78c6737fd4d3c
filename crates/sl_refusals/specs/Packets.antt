-- Calls and replies as packets, and the objects that they are about: the root of volume 1, and a file `a` in it.
use Rattle.std.specs.Prelude.{ℕ, List, [], ◌∷◌, ◌++◌, Some, None}
use Rattle.sl_defs.specs.Items.{u32_text}
use Rattle.sl_defs.specs.Rpc.{accepted_text}
use Rattle.sl_types.specs.declared.kind.Kind.TheVariants as kind
use Rattle.sl_types.specs.declared.attributes.Sattr.{Sattr}
use Rattle.sl_types.specs.declared.call.Call.{Call}
use Rattle.sl_types.specs.declared.call.Call.TheVariants as call
use Rattle.sl_types.specs.declared.call.CreateHow.TheVariants as how
use Rattle.sl_types.specs.declared.call.Stable.{Stable}
use Rattle.sl_types.specs.declared.handle.Handle.{Handle}
use Rattle.sl_types.specs.declared.reply.Reply.{Reply}
use Rattle.sl_types.specs.Handles.{form_text}
use Rattle.sl_calls.specs.Args.{procedure_of, args_text}
use Rattle.sl_replies.specs.Texts.{reply_text}
use Rattle.sl_model.specs.Changing.{nothing_given}

-- a call of version 3 of NFS by nobody
abbrev pub call_packet : ℕ → Call → List ℕ
call_packet xid c =
    u32_text xid ++ (u32_text 0 ++ (u32_text 2 ++ (u32_text 100003 ++ (u32_text 3 ++ (u32_text (procedure_of c) ++ (u32_text 0 ++ (u32_text 0 ++ (u32_text 0 ++ (u32_text 0 ++ args_text c)))))))))

abbrev pub reply_packet : ℕ → Reply → List ℕ
reply_packet xid r = accepted_text xid 0 ++ reply_text r

-- ---- objects

abbrev pub root : Handle
root = record { volume = 1; fileid = 1; kind = kind.Dir }

abbrev pub file : Handle
file = record { volume = 1; fileid = 2; kind = kind.Reg }

-- a handle ends in four zero bytes, and among the servers in the site and the actor
abbrev pub root_handle : ℕ → List ℕ
root_handle last = form_text root last

abbrev pub file_handle : ℕ → List ℕ
file_handle last = form_text file last

-- `a`
abbrev pub name : List ℕ
name = 97 ∷ []

-- ---- calls

abbrev pub create : Call
create = call.Create (root_handle 0) name (how.Unchecked nothing_given)

abbrev pub remove : Call
remove = call.Remove (root_handle 0) name

abbrev pub new_mode : Sattr
new_mode = record nothing_given { mode = Some 448 }

abbrev pub change_root : Call
change_root = call.Setattr (root_handle 0) new_mode None

abbrev pub look_at_root : Call
look_at_root = call.Getattr (root_handle 0)

-- the handle's last four bytes come first in the calls that are forwarded
abbrev pub look_at_file : ℕ → Call
look_at_file last = call.Getattr (file_handle last)

-- the byte 120 at offset 0
abbrev pub write : ℕ → Stable → Call
write last stability = call.Write (file_handle last) 0 1 stability (120 ∷ [])

abbrev pub read : ℕ → Call
read last = call.Read (file_handle last) 0 1

abbrev pub commit : Call
commit = call.Commit (file_handle 0) 0 0

-- the xid of each client's call
abbrev pub asks : Call → List ℕ
asks c = call_packet 7 c

abbrev pub answers : Reply → List ℕ
answers r = reply_packet 7 r
