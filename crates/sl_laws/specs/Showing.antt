-- The bytes and the write verifier that a call is told only show in its reply.
use Rattle.std.specs.Prelude.{◌≡◌, ℕ, List, [], Result, Ok, Err}
use Rattle.sl_defs.specs.declared.setup.Time.{Time}
use Rattle.sl_defs.specs.declared.note.Choice.{Choice}
use Rattle.sl_types.specs.declared.cred.Cred.{Cred}
use Rattle.sl_types.specs.declared.call.Call.{Call}
use Rattle.sl_types.specs.declared.reply.AttrFault.{AttrFault}
use Rattle.sl_types.specs.declared.reply.WccFault.{WccFault}
use Rattle.sl_types.specs.declared.reply.ReadOk.{ReadOk}
use Rattle.sl_types.specs.declared.reply.WriteOk.{WriteOk}
use Rattle.sl_types.specs.declared.reply.CommitOk.{CommitOk}
use Rattle.sl_types.specs.declared.reply.Reply.{Reply}
use Rattle.sl_types.specs.declared.reply.Reply.TheVariants as reply
use Rattle.sl_model.specs.Looking.{Outcome}
use Rattle.sl_model.specs.Gathered.{Gathered, needs_of, effect_of}

abbrev pub read_blank : Result ReadOk AttrFault → Result ReadOk AttrFault
read_blank (Ok r) = Ok (record r { bytes = [] })
read_blank (Err e) = Err e

abbrev pub write_blank : Result WriteOk WccFault → Result WriteOk WccFault
write_blank (Ok r) = Ok (record r { verifier = 0 })
write_blank (Err e) = Err e

abbrev pub commit_blank : Result CommitOk WccFault → Result CommitOk WccFault
commit_blank (Ok r) = Ok (record r { verifier = 0 })
commit_blank (Err e) = Err e

-- a reply without the bytes that were read, and without the verifier (RFC 1813, sections 3.3.6, 3.3.7 and 3.3.21)
abbrev pub blank : Reply → Reply
blank (reply.Read r) = reply.Read (read_blank r)
blank (reply.Write r) = reply.Write (write_blank r)
blank (reply.Commit r) = reply.Commit (commit_blank r)
blank r = r

-- the same changes, and the same answer but for bytes and verifier
pub record ShowAlone (a b : Outcome) : Type 0 where
  pub changes : a.changes ≡ b.changes
  pub answer : blank a.answer ≡ blank b.answer

-- Whatever bytes and verifier a call is told, it needs the same, changes the same, and answers the same but for these.
pub record OnlyShow (g h : Gathered) (c : Call) (cred : Cred) (now : Time) (choice : Choice) : Type 0 where
  pub needs : needs_of g c cred now choice ≡ needs_of h c cred now choice
  pub effect : ShowAlone (effect_of g c cred now choice) (effect_of h c cred now choice)

abbrev pub BytesOnlyShow : Type 0
BytesOnlyShow = (g : Gathered) (bytes : ℕ → ℕ → ℕ → List ℕ) (verifier : ℕ) (c : Call) (cred : Cred) (now : Time) (choice : Choice)
    → OnlyShow g (record g { bytes = bytes; verifier = verifier }) c cred now choice
