-- The procedures that look, step by step.
use Rattle.std.proofs.Common.{◌≡◌, ℕ, List, Some, Result, Ok, Err, refl}
use Rattle.std.specs.Prelude.{◌==◌, not, bit_and}
use Rattle.sl_types.specs.declared.kind.Status.TheVariants.{NotDir, Inval, BadCookie}
use Rattle.sl_types.specs.declared.kind.Status.{Status}
use Rattle.sl_types.specs.declared.cred.Cred.{Cred}
use Rattle.sl_types.specs.declared.handle.Handle.{Handle}
use Rattle.sl_types.specs.declared.reply.Reply.{Reply}
use Rattle.sl_types.specs.declared.reply.Reply.TheVariants as reply
use Rattle.sl_model.specs.Plan.{Sight, run, and_then}
use Rattle.sl_model.specs.Volume.{is_dir, is_reg, is_lnk}
use Rattle.sl_model.specs.Checks.{live, see, entry, object, directory}
use Rattle.sl_model.specs.Looking.{answering, attributes, handle_to, found as found_reply, lookup_in, readable, limit_of, reading, committing, getattr, lookup, lookup_name, access, readlink, read, listing, readdir, readdirplus, told, commit}
use Rattle.sl_model.specs.Procedures.{with_handle}
use Rattle.sl_plain.specs.Steps.{refused, checked_name, read_handle}
use Rattle.sl_plain.specs.Found as found
use Rattle.sl_plain.proofs.Runs.{runs}

pub object_run : (eye : Sight) (cred : Cred) (h : Handle) → run eye (object cred h) ≡
    and_then (run eye (live h)) (λ n. Ok n)
object_run eye cred h = simp runs

pub directory_run : (eye : Sight) (cred : Cred) (h : Handle) → run eye (directory cred h) ≡
    and_then (run eye (live h)) (λ d. and_then (refused (not (is_dir h.kind)) NotDir) (λ u. Ok d))
directory_run eye cred h = simp runs

pub getattr_run : (eye : Sight) (cred : Cred) (h : Handle) → run eye (getattr cred h) ≡
    and_then (run eye (object cred h)) (λ u. and_then (run eye (see h.fileid)) (λ n. Ok (answering (reply.Getattr (Ok (attributes n))))))
getattr_run eye cred h = simp runs

pub lookup_name_run : (eye : Sight) (h : Handle) (name : List ℕ) → run eye (lookup_name h name) ≡
    and_then (run eye (entry h.fileid name)) (λ e. and_then (run eye (see e.fileid)) (λ n. Ok (answering (found_reply (handle_to n) (Some (attributes n))))))
lookup_name_run eye h name = simp runs

pub lookup_run : (eye : Sight) (cred : Cred) (h : Handle) (name : List ℕ) → run eye (lookup cred h name) ≡
    and_then (checked_name name) (λ u. and_then (run eye (directory cred h)) (λ d. run eye (lookup_in h d name)))
lookup_run eye cred h name = simp runs

pub access_run : (eye : Sight) (cred : Cred) (h : Handle) (bits : ℕ) → run eye (access cred h bits) ≡
    and_then (run eye (object cred h)) (λ u. and_then (run eye (see h.fileid)) (λ n. Ok (answering (reply.Access (Ok (record { attributes = Some (attributes n); bits = bit_and bits 63 }))))))
access_run eye cred h bits = simp runs

pub readlink_run : (eye : Sight) (cred : Cred) (h : Handle) → run eye (readlink cred h) ≡
    and_then (run eye (object cred h)) (λ n. and_then (refused (not (is_lnk h.kind)) Inval) (λ u. Ok (answering (reply.Readlink (Ok (record { attributes = Some (attributes n); path = (eye.text h.fileid) }))))))
readlink_run eye cred h = simp runs

pub read_run : (eye : Sight) (cred : Cred) (h : Handle) (offset : ℕ) (count : ℕ) → run eye (read cred h offset count) ≡
    and_then (run eye (object cred h)) (λ u. and_then (refused (not (is_reg h.kind)) Inval) (λ u. and_then (run eye (see h.fileid)) (λ n. Ok ((reading n offset count (eye.bytes h.fileid offset (readable n offset count)))))))
read_run eye cred h offset count = simp runs

pub told_run : (eye : Sight) (cred : Cred) (h : Handle) (r : Reply) → run eye (told cred h r) ≡
    and_then (run eye (object cred h)) (λ u. Ok (answering r))
told_run eye cred h r = simp runs

pub commit_run : (eye : Sight) (cred : Cred) (h : Handle) → run eye (commit cred h) ≡
    and_then (run eye (object cred h)) (λ u. and_then (refused (not (is_reg h.kind)) Inval) (λ u. and_then (run eye (see h.fileid)) (λ n. Ok ((committing n eye.verifier)))))
commit_run eye cred h = simp runs

pub told_handle_run : (eye : Sight) (bytes : List ℕ) (cred : Cred) (r : Reply) → run eye (with_handle bytes (λ h. told cred h r)) ≡
    and_then (read_handle bytes) (λ h. and_then (run eye (object cred h)) (λ u. Ok (answering r)))
told_handle_run eye bytes cred r = simp runs

-- a listing by the lines that fit
and_then_assoc : {A B C : Type 0} (r : Result A Status) (f : A → Result B Status) (g : B → Result C Status) → and_then (and_then r f) g ≡ and_then r (λ a. and_then (f a) g)
and_then_assoc (Ok a) f g = refl
and_then_assoc (Err s) f g = refl

pub listing_fit_run : (eye : Sight) (cred : Cred) (h : Handle) (cookie verifier fixed count : ℕ) → run eye (listing cred h cookie verifier fixed count) ≡
    and_then (run eye (directory cred h)) (λ d. and_then (refused (not (verifier == 0)) BadCookie) (λ u. and_then (found.fitted d fixed (limit_of count) (found.lines_behind eye d h.fileid cookie)) (λ l. Ok (found.listing l))))
unfolding found.fitted
listing_fit_run eye cred h cookie verifier fixed count = simp (runs, and_then_assoc)

pub readdir_handle_run : (eye : Sight) (bytes : List ℕ) (cred : Cred) (cookie verifier count : ℕ) → run eye (with_handle bytes (λ h. readdir cred h cookie verifier count)) ≡
    and_then (read_handle bytes) (λ h. and_then (run eye (listing cred h cookie verifier 24 count)) (λ l. Ok (found.readdir_reply l)))
readdir_handle_run eye bytes cred cookie verifier count = simp runs

pub readdirplus_handle_run : (eye : Sight) (bytes : List ℕ) (cred : Cred) (cookie verifier count : ℕ) → run eye (with_handle bytes (λ h. readdirplus cred h cookie verifier count)) ≡
    and_then (read_handle bytes) (λ h. and_then (run eye (listing cred h cookie verifier 68 count)) (λ l. Ok (found.readdirplus_reply l)))
readdirplus_handle_run eye bytes cred cookie verifier count = simp runs
