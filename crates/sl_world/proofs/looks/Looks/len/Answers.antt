use Rattle.std.proofs.Common.{◌∙◌, sym, ap}
use Rattle.std.specs.FinMap as map
use Rattle.sl_world.proofs.Trees.{len_of}
use Rattle.sl_world.proofs.looks.Looks.len.Goals as goal

pub returns : goal.returns
returns c = c.len.ensures.len ∙ sym (len_of c.self.inside.calls.entries c.len.ensures.ordered) ∙ ap map.len c.self.view_is
