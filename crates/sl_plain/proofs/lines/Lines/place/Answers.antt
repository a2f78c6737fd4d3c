use Rattle.std.proofs.Common.{◌∙◌, ap, length, arith}
use Rattle.std.specs.List.{insert}
use Rattle.sl_model.specs.Volume.{placed}
use Rattle.sl_plain.specs.Found.{place_in}
use Rattle.sl_plain.proofs.ListingLaws.{place_within, insert_placed}
use Rattle.sl_plain.proofs.lines.Lines.place.Goals as goal

pub insert-requires : goal.insert-requires
insert-requires c =
    let e = ap (place_in c.args.line.cookie) c.as_slice.ensures.value in
    let h = place_within c.args.line.cookie c.self.inside.items.items in
    omega (arith, c.place_of-at.ensures, e, h, c.as_slice.ensures.len, ap length c.as_slice.ensures.value)

pub returns : goal.returns
returns c =
    c.in-Ok.ensures.items ∙ ap (λ i. insert c.self.inside.items.items i c.args.line) (c.place_of-at.ensures ∙ ap (place_in c.args.line.cookie) c.as_slice.ensures.value)
    ∙ insert_placed c.args.line c.self.inside.items.items ∙ ap (placed c.args.line) c.self.view_is
