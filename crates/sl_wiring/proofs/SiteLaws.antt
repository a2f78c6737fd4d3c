-- The sites of new objects, by the places that lead to them.
use Rattle.std.proofs.Common.{◌≡◌, ℕ, Bool, true, List, Some, None, ap, sym, ◌∙◌, ◌↔◌}
use Rattle.std.specs.Prelude.{Ok}
use Rattle.std.specs.List.{All, Contains}
use Rattle.std.proofs.lemmas.List.Elements.{All-contains, All-contains_itself, All-weaker}
use Rattle.std.specs.FinMap as map
use Rattle.sl_defs.specs.declared.setup.Policy.{Policy}
use Rattle.sl_defs.specs.declared.setup.Setup.{Setup}
use Rattle.sl_policy.specs.Sites.{object_site, site_of}
use Rattle.sl_model.specs.Volume.{Volume, is_dir}
use Rattle.sl_model.specs.declared.node.Node.{Node}
use Rattle.sl_plain.specs.Differing.{ArePlacesOf}
use Rattle.sl_plain.specs.Maps.{key_of}
use Rattle.sl_plain.specs.declared.names.Place.{Place}
use Rattle.sl_history.specs.Deciding.{Says}
use Rattle.sl_history.specs.Wired.{IsOfSite}
use Rattle.sl_wiring.proofs.Saying.{says_bool}
use Rattle.sl_wiring.proofs.Serving.{some_is}
use Rattle.sl_wiring.proofs.Standings.{contains_map, from_map}

pub of_none : (setup : Setup) (v w : Volume) (f : ℕ) → ((n : Node) → map.get v.nodes f ≡ None → map.get w.nodes f ≡ Some n → ⊥) → IsOfSite setup v w f
of_none setup v w f none = record { right = λ n d name e gone there entry leads. absurd (none n gone there) }

abbrev HasSite : Setup → ℕ → Node → Place → Type 0
HasSite setup f node p = site_of f ≡ object_site setup.policy p.dir p.name.items (is_dir node.kind)

abbrev GivenSite : Policy → ℕ → Bool → Place → Type 0
GivenSite policy site dir p = site ≡ object_site policy p.dir p.name.items dir

of_places : (setup : Setup) (v w : Volume) (f : ℕ) (node : Node) (places : List Place) → map.get w.nodes f ≡ Some node → ArePlacesOf w f places → All (HasSite setup f node) places → IsOfSite setup v w f
of_places setup v w f node places is are all = record {
  right = λ n d name e gone there entry leads.
      let of = from_map key_of places (d, name) ((are d name).1 (e, entry, leads)) in
      All-contains (HasSite setup f node) places of.item all of.has ∙ ap (λ (q : ℕ × List ℕ). object_site setup.policy q.0 q.1 (is_dir node.kind)) of.is
      ∙ ap (λ (m : Node). object_site setup.policy d name (is_dir m.kind)) (some_is node n (sym is ∙ there));
}

places_of : (setup : Setup) (v w : Volume) (f : ℕ) (node : Node) (places : List Place) → map.get v.nodes f ≡ None → map.get w.nodes f ≡ Some node → ArePlacesOf w f places → IsOfSite setup v w f
    → All (HasSite setup f node) places
places_of setup v w f node places gone is are of_site = All-weaker (Contains places) (HasSite setup f node) each places (All-contains_itself places)
  where
    each : (p : Place) → Contains places p → HasSite setup f node p
    each p has = let entry = (are p.dir p.name.items).0 (contains_map key_of places p has) in of_site.right node p.dir p.name.items entry.0 gone is entry.1 entry.2

pub site_says : (E : Type 0) (setup : Setup) (v w : Volume) (f : ℕ) (node : Node) (places : List Place) (policy : Policy) (site : ℕ) (dir b : Bool) → setup.policy ≡ policy → site ≡ site_of f
    → dir ≡ is_dir node.kind → map.get v.nodes f ≡ None → map.get w.nodes f ≡ Some node → ArePlacesOf w f places
    → ((b ≡ true) ↔ All (λ (p : Place). site ≡ object_site policy p.dir p.name.items dir) places) → Says {E = E} (Ok b) (IsOfSite setup v w f)
site_says E setup v w f node places policy site dir b same_policy same_site same_dir gone is are both =
    says_bool E b (
      λ said. of_places setup v w f node places is are (All-weaker (GivenSite policy site dir) (HasSite setup f node) (λ p e. sym same_site ∙ e ∙ moved p) places (both.0 said)),
      λ of_site. both.1 (All-weaker (HasSite setup f node) (GivenSite policy site dir) (λ p e. same_site ∙ e ∙ sym (moved p)) places (places_of setup v w f node places gone is are of_site)),
    )
  where
    moved : (p : Place) → object_site policy p.dir p.name.items dir ≡ object_site setup.policy p.dir p.name.items (is_dir node.kind)
    moved p = ap (λ (x : Policy). object_site x p.dir p.name.items dir) (sym same_policy) ∙ ap (object_site setup.policy p.dir p.name.items) same_dir
