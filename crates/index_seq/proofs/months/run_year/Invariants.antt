use Rattle.std.proofs.Common.{◌≡◌, ◌+◌}
use Rattle.index_seq.specs.Sums.{IsWithinTrace}
use Rattle.index_seq.proofs.months.run_year.Given as goal
use Rattle.month_fold.specs.Works.{Solves}

abbrev pub invariant-loop-months : goal.invariant-loop-months
invariant-loop-months g l = record {
  done : l.run.done ≡ l.fn.run.done + l.months;
  under_way : IsWithinTrace l.basin l.series l.trace l.years l.months l.run l.sums l.year;
  work : Solves l.months l.basin l.fn.work l.work;
}
