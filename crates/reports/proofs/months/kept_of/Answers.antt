use Rattle.reports.proofs.months.kept_of.Goals as goal

pub keep_months-requires-clause-first : goal.keep_months-requires-clause-first
keep_months-requires-clause-first g c = c.in_ok-kept.ensures.first

pub keep_months-requires-clause-kept : goal.keep_months-requires-clause-kept
keep_months-requires-clause-kept g c = c.in_ok-kept.ensures.kept
