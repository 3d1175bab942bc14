use Rattle.std.proofs.Common.{◌≡◌, arith}
use Rattle.index_seq.specs.Traces.{years_of}
use Rattle.index_seq.proofs.Running.{solves_run, within_parts}
use Rattle.index_seq.proofs.months.run_years.Goals as goal

pub returns-in_err-next_year-clause-work : goal.returns-in_err-next_year-clause-work
returns-in_err-next_year-clause-work g c =
    solves_run c.args.basin.now c.args.work.now c.next_year.new.work c.requires.whole
    (within_parts 12 c.loop-years.years (years_of c.args.basin.now) c.args.basin.now c.args.work.now c.loop-years.work
    c.next_year.new.work c.loop-years.invariant.work c.in_err-next_year.ensures.work c.loop-years-test.true)

pub returns-clause-work : goal.returns-clause-work
returns-clause-work g c =
    let all : c.loop-years.years ≡ years_of c.args.basin.now = omega arith in
    solves_run c.args.basin.now c.args.work.now c.loop-years.work c.requires.whole
    (rw all at c.loop-years.invariant.work)

pub returns-clause-under_way : goal.returns-clause-under_way
returns-clause-under_way g c =
    let all : c.loop-years.years ≡ years_of c.args.basin.now = omega arith in
    rw all at c.loop-years.invariant.under_way
