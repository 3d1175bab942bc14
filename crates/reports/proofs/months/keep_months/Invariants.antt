use Rattle.std.proofs.Common.{◌≡◌}
use Rattle.month_fold.specs.Runs.{GoesOn}
use Rattle.month_fold.specs.Works.{Solves}
use Rattle.reports.specs.Tallies.{IsKeptOf}
use Rattle.reports.proofs.months.keep_months.Given as goal

abbrev pub invariant-loop-month : goal.invariant-loop-month
invariant-loop-month g l = record {
  goes_on : GoesOn l.fn.run l.run;
  done : l.run.done ≡ l._month;
  kept : IsKeptOf g.T.Kept.is_of l.run l.kept;
  work : Solves l._month l.fn.run.basin l.fn.work l.work;
}
