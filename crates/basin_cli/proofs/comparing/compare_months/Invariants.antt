use Rattle.std.proofs.Common.{◌≡◌}
use Rattle.basin_cli.specs.Compared.{AreCompared}
use Rattle.basin_cli.proofs.comparing.compare_months.Given as goal
use Rattle.month_fold.specs.Works.{SolvesBoth}

abbrev pub invariant-loop-month : goal.invariant-loop-month
invariant-loop-month g l = record {
  series : l.first.series ≡ l.fn.first.series;
  other_series : l.second.series ≡ l.fn.second.series;
  done : l.first.done ≡ l._month;
  abreast : l.second.done ≡ l.first.done;
  compared : AreCompared l.basin l.other l.first l.second l.draft.bytes.items l.injured;
  work : SolvesBoth l._month l.basin l.other l.fn.work l.work;
}
