use Rattle.cert_check.proofs.opening.context_of.Goals as goal

pub returns-clause-context : goal.returns-clause-context
returns-clause-context c = record {
  valid = c.requires.basin;
  series = c.requires.series;
  roll = c.in_ok-roll.ensures;
  rows = c.in_ok-rows.ensures;
  tables = c.in_ok-tables.ensures;
  last = c.last_outlet.ensures;
}
