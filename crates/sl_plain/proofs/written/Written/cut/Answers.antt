use Rattle.std.proofs.Common.{ℕ, ◌∙◌, ap, rules, Bool}
use Rattle.std.specs.Prelude.{◌==◌, nat_lt, not, ◌||◌}
use Rattle.std.specs.FinMap as map
use Rattle.std.proofs.lemmas.Map.Made.{filter_same_pairs}
use Rattle.sl_model.specs.Volume.{place_cmp, cut_at}
use Rattle.sl_plain.proofs.MapLaws.{kept, places_total, exact_places}
use Rattle.sl_plain.proofs.written.Written.cut.Goals as goal

pub returns : goal.returns
returns c =
    let p : ℕ × ℕ → Bool = λ k. not (k.0 == c.args.file) || nat_lt k.1 c.args.size in
    let left = filter_same_pairs _ (λ e. p e.0) _ (λ k v b w f' t. search rules) _ _ c.retain.ensures.filtered in
    ap map.from_entries left ∙ kept place_cmp places_total exact_places p c.self.inside.entries.entries ∙ ap (cut_at c.args.file c.args.size) c.self.view_is
