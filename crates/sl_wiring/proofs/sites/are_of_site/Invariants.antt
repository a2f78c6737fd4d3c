use Rattle.std.proofs.Common.{◌≡◌}
use Rattle.std.specs.List.{AllWithin}
use Rattle.sl_policy.specs.Sites.{object_site}
use Rattle.sl_plain.specs.declared.names.Place.{Place}
use Rattle.sl_wiring.proofs.sites.are_of_site.Given as goal

abbrev pub invariant-loop-place : goal.invariant-loop-place
invariant-loop-place l = AllWithin (λ (p : Place). l.site ≡ object_site l.policy p.dir p.name.items l.is_dir) l.places 0 l.place-index
