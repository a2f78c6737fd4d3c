use Rattle.std.proofs.Common.{◌≡◌, ◌<◌, ◌+◌, ◌-◌, ◌∙◌, suc, true, false, sym, ap, arith, rules}
use Rattle.std.specs.Prelude.{◌==◌, if◌then◌else◌}
use Rattle.std.specs.FinMap as map
use Rattle.sl_model.specs.Volume.{Volume, below_on, below_within}
use Rattle.sl_plain.proofs.VolumeLaws.{below_step}
use Rattle.sl_plain.proofs.volume.Volume.is_below.Goals as goal

pub loop-i-preserved : goal.loop-i-preserved
loop-i-preserved c =
    let nodes = c.args.self.now.nodes in
    let n = suc (map.len nodes) in
    let less : c.loop-i._i < n = omega (arith, c.len-i-end.ensures.len, ap (λ (v : Volume). map.len v.nodes) c.self.view_is) in
    let up : (if c.loop-i.at == c.args.a then true else if c.loop-i.at == 1 then false else below_on (below_within (n - (c.loop-i._i + 1)) nodes c.args.a) (map.get nodes c.loop-i.at))
    ≡ below_within (n - (c.loop-i._i + 1)) nodes c.args.a c.in-Some.node.parent = search rules in
    sym up ∙ sym (below_step n c.loop-i._i nodes c.args.a c.loop-i.at less) ∙ c.loop-i.invariant
