use Rattle.std.proofs.Common.{◌≡◌}
use Rattle.month_fold.specs.Runs.{HasMonths}
use Rattle.month_fold.specs.Works.{Solves}
use Rattle.basin_cli.proofs.explaining.solve_up_to.Given as goal

abbrev pub invariant-loop-month : goal.invariant-loop-month
invariant-loop-month g l = record {
  basin : l.run.basin ≡ l.fn.run.basin;
  series : l.run.series ≡ l.fn.run.series;
  done : l.run.done ≡ l._month;
  months : HasMonths l.run;
  work : Solves l._month l.fn.run.basin l.fn.work l.work;
}
