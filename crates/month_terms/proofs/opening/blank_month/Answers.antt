use Rattle.std.proofs.Common.{rules}
use Rattle.month_terms.proofs.BlankRecords.{blank_fits}
use Rattle.month_terms.proofs.opening.blank_month.Goals as goal

pub returns-clause-blank : goal.returns-clause-blank
returns-clause-blank c = search rules

pub returns-clause-fits : goal.returns-clause-fits
returns-clause-fits c = rw (returns-clause-blank c) (blank_fits c.args.basin.now 0 c.args.basin.now.first)
