use Rattle.std.proofs.Common.{[]}
use Rattle.water_model.proofs.Histories.{nothing_is_partial}
use Rattle.month_fold.proofs.Resuming.{none_state, none_reach}
use Rattle.month_fold.proofs.run.Run.begin.Goals as goal

pub start_after-requires-clause-stated : goal.start_after-requires-clause-stated
start_after-requires-clause-stated c = none_state c.args.engine.basin

pub returns-clause-stands : goal.returns-clause-stands
returns-clause-stands c =
    c.start_after.ensures.stands c.args.series.now (rw c.start_after.ensures.basin c.requires)
    (nothing_is_partial c.start_after.new.self.basin c.args.series.now) (none_reach c.start_after.new.self.basin)

pub invariant_of-result : goal.invariant_of-result
invariant_of-result c = record {
  records = [];
  went = c.start_after.ensures.went c.args.series.now (rw c.start_after.ensures.basin c.requires)
      (nothing_is_partial c.start_after.new.self.basin c.args.series.now);
}
