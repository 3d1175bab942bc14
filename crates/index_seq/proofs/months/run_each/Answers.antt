use Rattle.std.proofs.Common.{◌≡◌, ◌*◌, arith}
use Rattle.index_seq.specs.Traces.{years_of}
use Rattle.index_seq.proofs.Running.{one_part, within_parts}
use Rattle.index_seq.proofs.months.run_each.Goals as goal
use Rattle.month_fold.proofs.Works.{Solves-none}

pub returns-in_err-engine-clause-work : goal.returns-in_err-engine-clause-work
returns-in_err-engine-clause-work g c =
    within_parts c.args.basin.now.months c.loop-trace.trace (years_of c.args.basin.now) c.args.basin.now
    c.args.work.now c.loop-trace.work c.run_trace.new.work
    c.loop-trace.invariant.work c.in_err-engine.ensures.work c.loop-trace-test.true

pub returns-clause-sums : goal.returns-clause-sums
returns-clause-sums g c =
    let all : c.loop-trace.trace ≡ years_of c.args.basin.now = omega arith in rw all at c.loop-trace.invariant.sums

pub loop-trace-init : goal.loop-trace-init
loop-trace-init g c = record {
  engine = c.requires.engine;
  begun = c.requires.begun;
  sums = c.requires.sums;
  year = c.requires.year;
  work = (let none : 0 * c.args.basin.now.months ≡ 0 = omega arith in
      rw none (Solves-none c.args.basin.now c.args.work.now));
}

pub loop-trace-preserved : goal.loop-trace-preserved
loop-trace-preserved g c =
    let traced = c.in_ok-engine.ensures in
    record {
      engine = traced.engine;
      begun = traced.begun;
      sums = traced.sums;
      year = traced.year;
      work = one_part c.args.basin.now.months c.loop-trace.trace c.args.basin.now c.args.work.now c.loop-trace.work
          c.run_trace.new.work c.loop-trace.invariant.work traced.work;
    }

pub run_trace-requires-clause-basin : goal.run_trace-requires-clause-basin
run_trace-requires-clause-basin g c = c.requires.basin

pub run_trace-requires-clause-whole : goal.run_trace-requires-clause-whole
run_trace-requires-clause-whole g c = c.requires.whole

pub run_trace-requires-clause-series : goal.run_trace-requires-clause-series
run_trace-requires-clause-series g c = c.requires.series

pub run_trace-requires-clause-trace : goal.run_trace-requires-clause-trace
run_trace-requires-clause-trace g c = c.loop-trace-test.true

pub run_trace-requires-clause-engine : goal.run_trace-requires-clause-engine
run_trace-requires-clause-engine g c = c.loop-trace.invariant.engine

pub run_trace-requires-clause-begun : goal.run_trace-requires-clause-begun
run_trace-requires-clause-begun g c = c.loop-trace.invariant.begun

pub run_trace-requires-clause-sums : goal.run_trace-requires-clause-sums
run_trace-requires-clause-sums g c = c.loop-trace.invariant.sums

pub run_trace-requires-clause-year : goal.run_trace-requires-clause-year
run_trace-requires-clause-year g c = c.loop-trace.invariant.year
