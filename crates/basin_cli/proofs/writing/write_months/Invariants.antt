use Rattle.std.proofs.Common.{◌≡◌, ◌≤◌}
use Rattle.basin_cli.specs.Monthly.{IsBegunText}
use Rattle.basin_cli.proofs.writing.write_months.Given as goal
use Rattle.month_fold.specs.Works.{Solves}

abbrev pub invariant-loop-month : goal.invariant-loop-month
invariant-loop-month g l = record {
  series : l.run.series ≡ l.fn.run.series;
  done : l.run.done ≡ l._month;
  writer : g.W.MonthlyWriter.is_for l.fn.run.basin l.writer;
  begun : IsBegunText g.W.MonthlyWriter.text l.fn.run.basin l.run g.start (g.K.Sink.output l.out);
  later : g.K.Sink.faults l.fn.out ≤ g.K.Sink.faults l.out;
  work : Solves l._month l.fn.run.basin l.fn.work l.work;
}

abbrev pub ghost-write_month : goal.ghost-write_month
ghost-write_month g a = g.start
