-- How long a record is.
use Rattle.std.proofs.Common.{◌≡◌, ℕ, ◌%◌, ◌^◌, ◌<◌, List, ◌++◌, length, replicate, ap, arith, length-append}
use Rattle.std.proofs.lemmas.List.{length-replicate}
use Rattle.sl_defs.specs.Items.{u64_text}
use Rattle.sl_defs.proofs.ItemLaws.{length-u64_text}
use Rattle.journal_keeper.specs.Numbered.{record_text}

pub record_short : (number : ℕ) (items : List ℕ) → items ≡ record_text number → length items < 2 ^ 32
record_short number items is =
    let filling = replicate (number % 4093) (number % 256) in
    omega (arith, ap length is, length-append (u64_text number) filling, length-u64_text number, length-replicate (number % 4093) (number % 256))
