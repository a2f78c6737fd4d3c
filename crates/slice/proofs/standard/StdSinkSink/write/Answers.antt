use Rattle.std.proofs.Common.{◌++◌, take, drop, ap, sym, ◌∙◌, append_assoc}
use Rattle.std.proofs.lemmas.List.{take-append-drop, take_rest}
use Rattle.slice.proofs.Steps.{appends_then}
use Rattle.slice.proofs.standard.StdSinkSink.write.Goals as goal

pub loop-rest-preserved : goal.loop-rest-preserved
loop-rest-preserved g c =
    let so = c.loop-rest.invariant.sofar in
    let n = c.in-Ok.count in
    let rest = c.loop-rest.rest.now in
    record {
      sofar = (
        so.0 ++ take n rest,
        so.1 ∙ ap (λ t. so.0 ++ t) (sym (take-append-drop n rest)) ∙ sym (append_assoc so.0 (take n rest) (drop n rest)) ∙ ap (λ t. (so.0 ++ take n rest) ++ t) (sym (take_rest rest n)),
        appends_then _ _ _ so.0 (take n rest) so.2 c.in-Ok.ensures.bytes,
      );
      same = c.loop-rest.invariant.same;
    }
