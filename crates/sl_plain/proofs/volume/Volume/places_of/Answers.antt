use Rattle.std.proofs.Common.{[], refl, subst, IfOk}
use Rattle.std.specs.Prelude.{map as each}
use Rattle.std.proofs.lemmas.Result.{IfOk-weaker}
use Rattle.sl_model.specs.Volume.{Volume}
use Rattle.sl_plain.specs.Maps.{key_of}
use Rattle.sl_plain.specs.Differing.{HasEntry, LeadsTo, ArePlacesOf}
use Rattle.sl_plain.proofs.DifferingLaws.{besides_nothing}
use Rattle.sl_plain.proofs.volume.Volume.places_of.Goals as goal

pub returns : goal.returns
returns c =
    subst (λ (v : Volume). IfOk c.leading_to.result (λ places. ArePlacesOf v c.args.fileid places.items)) c.self.view_is
    (IfOk-weaker c.leading_to.result _ _ (λ places g. λ dir name. besides_nothing [] (each key_of places.items) (HasEntry (LeadsTo c.args.fileid) c.self.inside.names (dir, name)) (dir, name) refl (g (dir, name))) c.leading_to.ensures)
