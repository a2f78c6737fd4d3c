use Rattle.std.proofs.Common.{◌≡◌, ◌-◌, suc}
use Rattle.std.specs.FinMap as map
use Rattle.sl_model.specs.Volume.{below_within}
use Rattle.sl_plain.proofs.volume.Volume.is_below.Given as goal

-- what the steps that are left find
abbrev pub invariant-loop-i : goal.invariant-loop-i
invariant-loop-i l = below_within (suc (map.len l.self.nodes) - l._i) l.self.nodes l.a l.at ≡ below_within (suc (map.len l.self.nodes)) l.self.nodes l.a l.d
