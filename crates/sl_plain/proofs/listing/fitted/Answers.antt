use Rattle.std.proofs.Common.{◌≡◌, ◌≤◌, ◌∙◌, ◌-◌, take, length, sym, ap, arith, rules}
use Rattle.sl_model.specs.Looking.{fitting}
use Rattle.sl_plain.proofs.ListingLaws.{fit_within, take_fitting, fitted_is}
use Rattle.sl_plain.proofs.listing.fitted.Goals as goal

pub slice_bounds-front-end : goal.slice_bounds-front-end
slice_bounds-front-end c = let within = fit_within c.args.fixed c.saturating_sub.result c.as_slice-there.result.now in let h : c.fitting-count.result ≤ length c.as_slice-there.result.now = omega (arith, c.fitting-count.ensures, within) in search rules

pub returns-in_err-refuse : goal.returns-in_err-refuse
returns-in_err-refuse c = let few : take c.fitting-count.result c.args.all ≡ fitting c.args.fixed (c.args.limit - 20) c.args.all = ap (λ xs. take c.fitting-count.result xs) (sym c.as_slice-there.ensures) ∙ ap (λ n. take n c.as_slice-there.result.now) c.fitting-count.ensures ∙ take_fitting c.args.fixed c.saturating_sub.result c.as_slice-there.result.now ∙ ap (fitting c.args.fixed c.saturating_sub.result) c.as_slice-there.ensures ∙ ap (λ r. fitting c.args.fixed r c.args.all) c.saturating_sub.ensures in fitted_is c.args.d c.args.fixed c.args.limit c.args.all (take c.fitting-count.result c.args.all) few ∙ search rules

pub returns : goal.returns
returns c = let few : take c.fitting-count.result c.args.all ≡ fitting c.args.fixed (c.args.limit - 20) c.args.all = ap (λ xs. take c.fitting-count.result xs) (sym c.as_slice-there.ensures) ∙ ap (λ n. take n c.as_slice-there.result.now) c.fitting-count.ensures ∙ take_fitting c.args.fixed c.saturating_sub.result c.as_slice-there.result.now ∙ ap (fitting c.args.fixed c.saturating_sub.result) c.as_slice-there.ensures ∙ ap (λ r. fitting c.args.fixed r c.args.all) c.saturating_sub.ensures in fitted_is c.args.d c.args.fixed c.args.limit c.args.all (take c.fitting-count.result c.args.all) few ∙ search rules
