-- What was read can be written: its lengths are in range, and its failures aren't status OK.
use Rattle.std.proofs.Common.{ℕ, List, [], ◌∷◌, Option, Some, None, Result, Ok, Err}
use Rattle.std.specs.Prelude.{All, IfSome, IfOk}
use Rattle.std.proofs.lemmas.List.Elements.{All-nil, All-cons}
use Rattle.sl_types.specs.declared.kind.Status.{Status}
use Rattle.sl_types.specs.declared.entries.Entry.{Entry}
use Rattle.sl_types.specs.declared.entries.EntryPlus.{EntryPlus}
use Rattle.sl_types.specs.declared.fault.ArgsFault.{ArgsFault}
use Rattle.sl_types.specs.declared.reply.Reply.{Reply}
use Rattle.sl_types.specs.declared.reply.Reply.TheVariants.{Null, Getattr, Setattr, Lookup, Access, Readlink, Read, Write, Create, Mkdir, Symlink, Mknod, Remove, Rmdir, Rename, Link, Readdir, Readdirplus, Fsstat, Fsinfo, Pathconf, Commit}
use Rattle.sl_items.specs.Spelling.{FitsFh}
use Rattle.sl_replies.specs.Results.{IsPostOpFh, IsList, IsEntry, IsEntryPlus, IsResult, IsReply, IsReplyTo}
use Rattle.sl_replies.specs.Texts.{FitsEntry, FitsEntryPlus, FitsResult, FitsReply}

handle_fits : (o : Option (List ℕ)) (text : List ℕ) → IsPostOpFh o text → IfSome o FitsFh
handle_fits None text is = tt
handle_fits (Some handle) text is = is.3.1

entries_fit : (es : List Entry) (text : List ℕ) → IsList IsEntry es text → All FitsEntry es
entries_fit [] text is = All-nil FitsEntry
entries_fit (e ∷ es) text is = All-cons FitsEntry e es is.3.2.3.2.short (entries_fit es is.3.1 is.3.3)

entries_plus_fit : (es : List EntryPlus) (text : List ℕ) → IsList IsEntryPlus es text → All FitsEntryPlus es
entries_plus_fit [] text is = All-nil FitsEntryPlus
entries_plus_fit (e ∷ es) text is =
    let entry = is.3.2 in
    All-cons FitsEntryPlus e es (entry.3.2.short, handle_fits e.handle entry.3.3.3.1 entry.3.3.3.3) (entries_plus_fit es is.3.1 is.3.3)

result_fits : {A B : Type 0} (IsOk : A → List ℕ → Type 0) (Fits : A → Type 0) (status_in : B → Status) (IsFault : B → List ℕ → Type 0) (r : Result A B) (text : List ℕ)
    → ((ok : A) (t : List ℕ) → IsOk ok t → Fits ok) → IsResult IsOk status_in IsFault r text → FitsResult Fits status_in r
result_fits IsOk Fits status_in IsFault (Ok ok) text fits is = fits ok is.1 is.3
result_fits IsOk Fits status_in IsFault (Err fault) text fits is = is.0

reply_fits : (r : Reply) (text : List ℕ) → IsReply r text → FitsReply r
reply_fits Null text is = tt
reply_fits (Getattr result) text is = result_fits _ _ _ _ result text (λ ok t h. tt) is
reply_fits (Setattr outcome wcc) text is = tt
reply_fits (Lookup result) text is = result_fits _ _ _ _ result text (λ ok t h. h.2.1) is
reply_fits (Access result) text is = result_fits _ _ _ _ result text (λ ok t h. tt) is
reply_fits (Readlink result) text is = result_fits _ _ _ _ result text (λ ok t h. h.3.short) is
reply_fits (Read result) text is = result_fits _ _ _ _ result text (λ ok t h. h.3.3.3.short) is
reply_fits (Write result) text is = result_fits _ _ _ _ result text (λ ok t h. tt) is
reply_fits (Create result) text is = result_fits _ _ _ _ result text (λ ok t h. handle_fits ok.object h.0 h.2) is
reply_fits (Mkdir result) text is = result_fits _ _ _ _ result text (λ ok t h. handle_fits ok.object h.0 h.2) is
reply_fits (Symlink result) text is = result_fits _ _ _ _ result text (λ ok t h. handle_fits ok.object h.0 h.2) is
reply_fits (Mknod result) text is = result_fits _ _ _ _ result text (λ ok t h. handle_fits ok.object h.0 h.2) is
reply_fits (Remove outcome wcc) text is = tt
reply_fits (Rmdir outcome wcc) text is = tt
reply_fits (Rename outcome from to) text is = tt
reply_fits (Link outcome attributes wcc) text is = tt
reply_fits (Readdir result) text is = result_fits _ _ _ _ result text (λ ok t h. entries_fit ok.entries h.3.3.0 h.3.3.2) is
reply_fits (Readdirplus result) text is = result_fits _ _ _ _ result text (λ ok t h. entries_plus_fit ok.entries h.3.3.0 h.3.3.2) is
reply_fits (Fsstat result) text is = result_fits _ _ _ _ result text (λ ok t h. tt) is
reply_fits (Fsinfo result) text is = result_fits _ _ _ _ result text (λ ok t h. tt) is
reply_fits (Pathconf result) text is = result_fits _ _ _ _ result text (λ ok t h. tt) is
reply_fits (Commit result) text is = result_fits _ _ _ _ result text (λ ok t h. tt) is

pub on_ok_fits : (procedure : ℕ) (bytes : List ℕ) (r : Result Reply ArgsFault) → IfOk r (λ reply. IsReplyTo procedure reply bytes) → IfOk r FitsReply
on_ok_fits procedure bytes (Ok reply) is = reply_fits reply bytes is.0
on_ok_fits procedure bytes (Err e) is = tt
