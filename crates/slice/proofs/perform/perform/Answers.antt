use Rattle.std.proofs.Common.{List, ℕ, length, ap, subst, arith}
use Rattle.slice.specs.Replays.{Sofar}
use Rattle.slice.specs.Schedule.{lines_left}
use Rattle.slice.proofs.Steps.{first_lines, length-without_last_end, size_falls, size_left}
use Rattle.slice.proofs.Going.{begins, ends_here, goes_on, next_line, nothing_left, stops_first, stops_here}
use Rattle.slice.proofs.perform.perform.Goals as goal

pub returns-in-Err-clause-performs : goal.returns-in-Err-clause-performs
returns-in-Err-clause-performs g c =
    rw c.status_of.ensures (stops_first (record { legal = c.getattr_histories_are_legal.ensures; licensed = c.getattr_histories_are_licensed.ensures; wired = c.getattr_histories_are_wired.ensures; fenced = c.getattr_histories_are_fenced.ensures; remembers = c.getattr_histories_remember.ensures }) c.in-Err.stop c.args.source.now c.cut_line.result.0.now (lines_left c.cut_line.result.1) _ _
    (first_lines c.args.source.now c.without_end.result.now _ _ c.without_end.ensures c.cut_line.ensures.lines) c.in-Err.ensures.done)

pub loop-rest-init : goal.loop-rest-init
loop-rest-init g c =
    record {
      so = begins c.args.source.now c.cut_line.result.0.now (lines_left c.cut_line.result.1) c.in-Ok.world _ _
          (first_lines c.args.source.now c.without_end.result.now _ _ c.without_end.ensures c.cut_line.ensures.lines) c.in-Ok.ensures.done;
      small = omega (arith, size_falls c.cut_line.result.1 _ c.cut_line.ensures.shorter, length-without_last_end c.args.source.now, ap length c.without_end.ensures, c.requires);
      later = c.in-Ok.ensures.cause.later;
    }

pub returns-in-Err-perform_line-clause-performs : goal.returns-in-Err-perform_line-clause-performs
returns-in-Err-perform_line-clause-performs g c =
    let so = next_line c.args.source.now c.loop-rest.world c.loop-rest.rest c.cut_line-in-Some.result.1 c.in-Some.text c.cut_line-in-Some.result.0.now c.loop-rest.line _ _ c.in-Some.is c.cut_line-in-Some.ensures.lines c.loop-rest.invariant.so in
    rw c.status_of-in-Err-perform_line.ensures (stops_here c.args.source.now c.cut_line-in-Some.result.0.now (lines_left c.cut_line-in-Some.result.1) so.passed so.passages so.lines_are c.loop-rest.line so.number _ _ _ so.took
    (record { legal = c.getattr_histories_are_legal.ensures; licensed = c.getattr_histories_are_licensed.ensures; wired = c.getattr_histories_are_wired.ensures; fenced = c.getattr_histories_are_fenced.ensures; remembers = c.getattr_histories_remember.ensures }) c.in-Err-perform_line.stop (c.in-Err-perform_line.ensures.done _ so.stood))

pub loop-rest-preserved : goal.loop-rest-preserved
loop-rest-preserved g c =
    let so = next_line c.args.source.now c.loop-rest.world c.loop-rest.rest c.cut_line-in-Some.result.1 c.in-Some.text c.cut_line-in-Some.result.0.now c.loop-rest.line _ _ c.in-Some.is c.cut_line-in-Some.ensures.lines c.loop-rest.invariant.so in
    record {
      so = goes_on c.args.source.now c.cut_line-in-Some.result.0.now (lines_left c.cut_line-in-Some.result.1) so.passed so.passages so.lines_are c.loop-rest.line so.number _ _ _ so.took
          c.perform_line.new.world (c.in-Ok-perform_line.ensures.done _ so.stood);
      small = omega (arith, size_falls c.cut_line-in-Some.result.1 _ c.cut_line-in-Some.ensures.shorter, ap size_left c.in-Some.is, c.loop-rest.invariant.small);
      later = omega (arith, c.loop-rest.invariant.later, c.in-Ok-perform_line.ensures.cause.later);
    }

pub returns-clause-performs : goal.returns-clause-performs
returns-clause-performs g c =
    ends_here (record { legal = c.getattr_histories_are_legal.ensures; licensed = c.getattr_histories_are_licensed.ensures; wired = c.getattr_histories_are_wired.ensures; fenced = c.getattr_histories_are_fenced.ensures; remembers = c.getattr_histories_remember.ensures }) c.args.source.now c.loop-rest.world c.loop-rest.line (g.K.Sink.holds c.args.sink.now) (g.K.Sink.holds c.loop-rest.sink)
    (subst (λ (left : List (List ℕ)). Sofar c.args.source.now c.loop-rest.world left c.loop-rest.line (g.K.Sink.holds c.args.sink.now) (g.K.Sink.holds c.loop-rest.sink))
    (nothing_left c.loop-rest.rest c.in_default.not-Some) c.loop-rest.invariant.so)
