use Rattle.std.proofs.Common.{◌≡◌, List, subst, true, ◌↔◌}
use Rattle.std.specs.Prelude.{All}
use Rattle.sl_defs.specs.declared.bytes.NoMemory.{NoMemory}
use Rattle.sl_policy.specs.Sites.{object_site}
use Rattle.sl_plain.specs.declared.names.Place.{Place}
use Rattle.sl_wiring.proofs.SiteLaws.{of_none, site_says}
use Rattle.sl_wiring.proofs.sites.is_of_site.Goals as goal

pub returns-in_default : goal.returns-in_default
returns-in_default c = λ setup same. of_none setup c.args.before.now c.args.after.now c.args.fileid c.in_default.ensures.none

pub returns : goal.returns
returns c = λ setup same.
    let some = c.in-Some.ensures.some in
    site_says NoMemory setup c.args.before.now c.args.after.now c.args.fileid c.in-Some.node c.in_ok-places.places.items c.args.policy c.site_of.result c.is_dir.result c.are_of_site.result same c.site_of.ensures.exact
    c.is_dir.ensures some.0 some.1 c.in_ok-places.ensures
    (subst (λ (xs : List Place). (c.are_of_site.result ≡ true) ↔ All (λ (p : Place). c.site_of.result ≡ object_site c.args.policy p.dir p.name.items c.is_dir.result) xs) c.as_slice.ensures.value c.are_of_site.ensures)
