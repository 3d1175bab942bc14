use Rattle.std.proofs.Common.{◌+◌, arith}
use Rattle.month_fold.proofs.Works.{SolvesBoth-then, SolvesBoth-within}
use Rattle.basin_cli.proofs.comparing.compare_months.Goals as goal

pub returns-in_err-injured-clause-work : goal.returns-in_err-injured-clause-work
returns-in_err-injured-clause-work g c =
    SolvesBoth-within (c.loop-month._month + 1) c.args.basin.now.months c.args.basin.now c.args.other.now
    c.args.work.now c.compare_month.new.work (omega (arith, c.loop-month-test.true))
    (SolvesBoth-then c.loop-month._month c.args.basin.now c.args.other.now c.args.work.now c.loop-month.work
    c.compare_month.new.work c.loop-month.invariant.work c.in_err-injured.ensures.work)

pub returns-clause-work : goal.returns-clause-work
returns-clause-work g c =
    SolvesBoth-within c.loop-month._month c.args.basin.now.months c.args.basin.now c.args.other.now c.args.work.now
    c.loop-month.work (omega (arith, c.loop-month.auto._month-end)) c.loop-month.invariant.work
