-- The whole bytes can be read exactly where they spell a reply.
use Rattle.std.proofs.Common.{◌≡◌, ℕ, List, true, false, Option, Some, None, Ok, Err, is_some, refl}
use Rattle.sl_defs.specs.Items.{AreBytes}
use Rattle.sl_types.specs.declared.fault.ArgsFault.TheVariants as fault
use Rattle.sl_types.specs.declared.reply.Reply.{Reply}
use Rattle.sl_replies.specs.Results.{IsReplyTo}
use Rattle.sl_replies.specs.Reading.{reply_of}
use Rattle.sl_replies.proofs.Replies.{reply_is_found, no_reply}

module _ (n : ℕ) (bytes : List ℕ) where
  pub some_reply : AreBytes bytes → is_some (reply_of n bytes) ≡ true → (reply : Reply) × IsReplyTo n reply bytes
  some_reply fits e =
      elim (reply_of n bytes) as (λ (read : Option Reply). reply_of n bytes ≡ read → is_some read ≡ true → (reply : Reply) × IsReplyTo n reply bytes) [
        | None ↦ λ _ none. absurd cc
        | Some reply ↦ λ is _. (reply, reply_is_found n bytes (Ok reply) fits is)
      ] refl e

  pub never_reply : is_some (reply_of n bytes) ≡ false → (reply : Reply) → IsReplyTo n reply bytes → ⊥
  never_reply e =
      elim (reply_of n bytes) as (λ (read : Option Reply). reply_of n bytes ≡ read → is_some read ≡ false → (reply : Reply) → IsReplyTo n reply bytes → ⊥) [
        | None ↦ λ is _. no_reply n bytes (Err fault.Garbage) is refl
        | Some reply ↦ λ _ some. absurd cc
      ] refl e
