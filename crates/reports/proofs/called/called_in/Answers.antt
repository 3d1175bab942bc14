use Rattle.reports.proofs.called.called_in.Goals as goal

pub called_once-count-requires-clause-basin : goal.called_once-count-requires-clause-basin
called_once-count-requires-clause-basin c = c.requires.basin

pub callers_by_node-callers-requires-clause-basin : goal.callers_by_node-callers-requires-clause-basin
callers_by_node-callers-requires-clause-basin c = c.requires.basin

pub callers_by_node-callers-requires-clause-roll : goal.callers_by_node-callers-requires-clause-roll
callers_by_node-callers-requires-clause-roll c = c.requires.roll
