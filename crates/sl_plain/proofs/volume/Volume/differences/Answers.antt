use Rattle.std.proofs.Common.{subst, ap}
use Rattle.std.specs.Prelude.{map as each}
use Rattle.sl_model.specs.Volume.{Volume}
use Rattle.sl_plain.specs.declared.differing.Differences.{Differences}
use Rattle.sl_plain.specs.Maps.{key_of}
use Rattle.sl_plain.specs.Differing.{AreDifferences}
use Rattle.sl_plain.proofs.DifferingLaws.{both_ways, bytes_both_ways, besides_nothing, or_another}
use Rattle.sl_plain.proofs.volume.Volume.differences.Goals as goal

pub returns : goal.returns
returns c =
    let v = c.self.inside in
    let w = c.after.inside in
    let d : Differences = record { objects = c.put_unlike-4.new.unlike; names = c.put_unlike-6.new.unlike; bytes = c.put_unlike-8.new.unlike } in
    let nodes = both_ways v.nodes w.nodes c.new-objects.result.items c.put_unlike.new.unlike.items c.put_unlike-2.new.unlike.items c.in_ok-put_unlike.ensures c.in_ok-put_unlike-2.ensures in
    let texts = both_ways v.texts w.texts c.put_unlike-2.new.unlike.items c.put_unlike-3.new.unlike.items c.put_unlike-4.new.unlike.items c.in_ok-put_unlike-3.ensures c.in_ok-put_unlike-4.ensures in
    let names = both_ways v.names w.names (each key_of c.new-names.result.items) (each key_of c.put_unlike-5.new.unlike.items) (each key_of c.put_unlike-6.new.unlike.items) c.in_ok-put_unlike-5.ensures c.in_ok-put_unlike-6.ensures in
    let bytes = bytes_both_ways v.written w.written c.new-bytes.result.items c.put_unlike-7.new.unlike.items c.put_unlike-8.new.unlike.items c.in_ok-put_unlike-7.ensures c.in_ok-put_unlike-8.ensures in
    subst (λ (x : Volume). AreDifferences c.args.self.now x d) c.after.view_is
    (subst (λ (x : Volume). AreDifferences x (record { number = w.number; nodes = w.nodes; names = w.names; texts = w.texts; written = w.written; unstable = w.unstable; verifier = w.verifier; used = w.used }) d) c.self.view_is
    (record {
      objects = λ f. or_another (texts f) (besides_nothing c.new-objects.result.items c.put_unlike-2.new.unlike.items _ f c.new-objects.ensures.items (nodes f));
      names = λ dir name. besides_nothing (each key_of c.new-names.result.items) (each key_of c.put_unlike-6.new.unlike.items) _ (dir, name) (ap (each key_of) c.new-names.ensures.items) (names (dir, name));
      bytes = λ f at. besides_nothing c.new-bytes.result.items c.put_unlike-8.new.unlike.items _ (f, at) c.new-bytes.ensures.items (bytes (f, at));
    }))
