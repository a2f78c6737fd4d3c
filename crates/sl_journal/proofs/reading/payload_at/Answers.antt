use Rattle.std.proofs.Common.{ℕ, List, ◌≡◌, ◌^◌, ◌<◌, ◌++◌, length, sym, ◌∙◌, ap, arith, length-append}
use Rattle.sl_defs.specs.Items.{u32_text}
use Rattle.sl_defs.proofs.ItemLaws.{length-u32_text}
use Rattle.sl_journal.proofs.Texts.{payload_found, no_number, too_short, behind_number}
use Rattle.sl_journal.proofs.reading.payload_at.Goals as goal

pub split_at-requires : goal.split_at-requires
split_at-requires c =
    let split : c.args.bytes.now ≡ u32_text c.in-Ok.size ++ c.take_u32.new.self.rest = sym c.new-cursor.ensures.rest ∙ c.in-Ok.ensures.found.spelled in
    omega (arith, ap length split, length-append (u32_text c.in-Ok.size) c.take_u32.new.self.rest, length-u32_text c.in-Ok.size)

pub returns-then-body-size-clause-none : goal.returns-then-body-size-clause-none
returns-then-body-size-clause-none c =
    let split : c.args.bytes.now ≡ u32_text c.in-Ok.size ++ c.take_u32.new.self.rest = sym c.new-cursor.ensures.rest ∙ c.in-Ok.ensures.found.spelled in
    let body : c.split_at.result.1.now ≡ c.take_u32.new.self.rest = c.split_at.ensures.back ∙ behind_number c.args.bytes.now c.take_u32.new.self.rest c.in-Ok.size split in
    let whole : c.args.bytes.now ≡ u32_text c.in-Ok.size ++ c.split_at.result.1.now = split ∙ ap (λ (l : List ℕ). u32_text c.in-Ok.size ++ l) (sym body) in
    let small : c.in-Ok.size < 2 ^ 32 = omega arith in
    λ payload rest is. too_short c.args.bytes.now c.split_at.result.1.now payload rest c.in-Ok.size small whole (omega arith) is

pub returns-else-body-size-clause-found : goal.returns-else-body-size-clause-found
returns-else-body-size-clause-found c =
    let split : c.args.bytes.now ≡ u32_text c.in-Ok.size ++ c.take_u32.new.self.rest = sym c.new-cursor.ensures.rest ∙ c.in-Ok.ensures.found.spelled in
    let body : c.split_at.result.1.now ≡ c.take_u32.new.self.rest = c.split_at.ensures.back ∙ behind_number c.args.bytes.now c.take_u32.new.self.rest c.in-Ok.size split in
    let whole : c.args.bytes.now ≡ u32_text c.in-Ok.size ++ c.split_at.result.1.now = split ∙ ap (λ (l : List ℕ). u32_text c.in-Ok.size ++ l) (sym body) in
    let small : c.in-Ok.size < 2 ^ 32 = omega arith in
    payload_found c.args.bytes.now c.split_at.result.1.now c.split_at-in-Ok.result.0.now c.split_at-in-Ok.result.1.now c.in-Ok.size small whole c.split_at-in-Ok.ensures.front c.split_at-in-Ok.ensures.back (omega arith)

pub returns-in-Err-clause-none : goal.returns-in-Err-clause-none
returns-in-Err-clause-none c =
    λ payload rest is. no_number c.args.bytes.now payload rest (λ n lt begins. c.in-Err.ensures.short n lt (begins.0, c.new-cursor.ensures.rest ∙ begins.1)) is
