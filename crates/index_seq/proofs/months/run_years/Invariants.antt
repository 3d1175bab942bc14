use Rattle.std.proofs.Common.{◌≡◌, ◌*◌}
use Rattle.index_seq.specs.Sums.{IsWithinTrace}
use Rattle.index_seq.proofs.months.run_years.Given as goal
use Rattle.month_fold.specs.Works.{Solves}

abbrev pub invariant-loop-years : goal.invariant-loop-years
invariant-loop-years g l = record {
  done : l.run.done ≡ 12 * l.years;
  under_way : IsWithinTrace l.basin l.series l.trace l.years 0 l.run l.sums l.year;
  work : Solves (l.years * 12) l.basin l.fn.work l.work;
}
