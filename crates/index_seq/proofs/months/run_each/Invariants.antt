use Rattle.std.proofs.Common.{◌≡◌, ◌*◌}
use Rattle.index_seq.specs.Sums.{HaveSums, IsEmptyYear}
use Rattle.index_seq.specs.Traces.{IsRotationOf}
use Rattle.index_seq.proofs.months.run_each.Given as goal
use Rattle.month_fold.specs.Works.{Solves}

abbrev pub invariant-loop-trace : goal.invariant-loop-trace
invariant-loop-trace g l = record {
  engine : l.engine.basin ≡ l.basin;
  begun : IsRotationOf l.series l.begun;
  sums : HaveSums l.basin l.series l.trace l.sums;
  year : IsEmptyYear l.basin l.year;
  work : Solves (l.trace * l.basin.months) l.basin l.fn.work l.work;
}
