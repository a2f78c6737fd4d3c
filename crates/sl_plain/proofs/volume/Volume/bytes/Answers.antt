use Rattle.std.proofs.Common.{◌≡◌, ◌∙◌, ◌+◌, ◌-◌, ◌∷◌, [], ◌++◌, ap, rules}
use Rattle.sl_model.specs.Volume.{byte_at, bytes_from}
use Rattle.sl_plain.proofs.VolumeLaws.{one_more}
use Rattle.sl_plain.proofs.volume.Volume.bytes.Goals as goal

pub loop-i-preserved : goal.loop-i-preserved
loop-i-preserved c =
    let v = c.args.self.now in
    let pushed : c.push.new.self.items ≡ c.loop-i.bytes.items ++ byte_at v c.args.file (c.args.offset + c.loop-i.i) ∷ [] = search rules in
    ap (λ z. z ++ bytes_from v c.args.file (c.args.offset + (c.loop-i.i + 1)) (c.args.count - (c.loop-i.i + 1))) pushed
    ∙ one_more v c.args.file c.args.offset c.loop-i.i c.args.count c.loop-i.bytes.items c.loop-i-test.true ∙ c.loop-i.invariant
