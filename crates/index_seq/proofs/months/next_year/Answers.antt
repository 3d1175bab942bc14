use Rattle.index_seq.proofs.Running.{year_more}
use Rattle.index_seq.proofs.months.next_year.Goals as goal

pub returns-clause-under_way : goal.returns-clause-under_way
returns-clause-under_way g c =
    year_more c.args.basin.now c.args.series.now c.args.trace c.args.years c.run_year.new.run c.args.sums.now
    c.end_year.new.sums c.run_year.new.year c.end_year.new.year
    c.run_year.ensures.under_way c.in_ok-end_year.ensures.count c.in_ok-end_year.ensures.each
    c.in_ok-end_year.ensures.begun c.in_ok-end_year.ensures.zeros

pub run_year-requires-clause-left : goal.run_year-requires-clause-left
run_year-requires-clause-left g c = c.requires.left

pub run_year-requires-clause-under_way : goal.run_year-requires-clause-under_way
run_year-requires-clause-under_way g c = c.requires.under_way
