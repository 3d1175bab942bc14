use Rattle.std.proofs.Common.{[]}
use Rattle.tests_basins.proofs.resumed.first_record.Goals as goal

pub returns-clause-stands : goal.returns-clause-stands
returns-clause-stands g c = c.step.ensures.month [] c.requires
