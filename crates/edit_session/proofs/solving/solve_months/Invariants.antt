use Rattle.std.proofs.Common.{◌≡◌, ◌-◌, take, vec_len}
use Rattle.month_fold.specs.Runs.{RunStandsFor, run_with}
use Rattle.month_fold.specs.Works.{Solves}
use Rattle.edit_session.specs.Sessions.{records_of}
use Rattle.edit_session.proofs.solving.solve_months.Given as goal

abbrev pub invariant-loop-index : goal.invariant-loop-index
invariant-loop-index g l = record {
  basin : l.engine.basin ≡ l.fn.engine.basin;
  stands : RunStandsFor (run_with l.engine l.series l.index) (records_of l.kept.items);
  count : vec_len l.kept ≡ l.index;
  stay : take (vec_len l.initial.kept) l.kept.items ≡ l.initial.kept.items;
  work : Solves (l.index - vec_len l.initial.kept) l.fn.engine.basin l.initial.work l.work;
}
