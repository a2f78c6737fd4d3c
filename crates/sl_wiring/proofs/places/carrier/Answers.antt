use Rattle.std.proofs.Common.{◌≡◌, ℕ, ◌+◌, sym, ap, ◌∙◌, refl}
use Rattle.std.specs.Prelude.{◌%◌}
use Rattle.std.proofs.Math.Nat.{mod-zero}
use Rattle.sl_defs.specs.declared.setup.Setup.{Setup}
use Rattle.sl_route.specs.declared.class.Class.{Class}
use Rattle.sl_route.specs.Places.{first_server}
use Rattle.sl_history.specs.Placing.{carrier, servers}
use Rattle.sl_wiring.proofs.places.carrier.Goals.{then-count-eq0, else-count-eq0}
use Rattle.sl_wiring.proofs.places.carrier.Goals as goal

carrier_is : (setup : Setup) (class : Class) (site from count turn : ℕ) → from ≡ first_server class → count ≡ servers setup class → turn ≡ site % count → from + turn ≡ carrier setup class site
unfolding carrier
carrier_is setup class site from count turn a b c = rw (a, c, b) refl

none : (site count turn : ℕ) → count ≡ 0 → turn ≡ site → turn ≡ site % count
none site count turn zero is = is ∙ sym (mod-zero site) ∙ ap (λ (n : ℕ). site % n) (sym zero)

pub returns : goal.returns
returns c =
    carrier_is c.args.setup c.args.class c.args.site c.from.result c.from-count.result c.if-count-eq0.turn (c.from.ensures ∙ c.first_server.ensures) (c.from-count.ensures ∙ c.servers.ensures)
    (elim c.if-count-eq0.branch [
      | then-count-eq0 w ↦ none c.args.site c.from-count.result c.if-count-eq0.turn w.if-count-eq0.true w.turn-is
      | else-count-eq0 w ↦ w.turn-is
    ])
