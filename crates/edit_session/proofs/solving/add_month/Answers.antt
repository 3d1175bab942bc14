use Rattle.month_fold.proofs.Standing.{went_through}
use Rattle.edit_session.specs.Sessions.{records_of}
use Rattle.edit_session.proofs.solving.add_month.Goals as goal

pub step-requires-clause-months : goal.step-requires-clause-months
step-requires-clause-months g c = record {
  records = records_of c.args.kept.now.items;
  went = went_through _ _ c.requires.stands;
}
