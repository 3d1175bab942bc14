use Rattle.std.proofs.Common.{ap, arith}
use Rattle.water_model.specs.declared.types.Basin.{Basin}
use Rattle.month_fold.proofs.Works.{within_run}
use Rattle.basin_cli.proofs.Monthly.{stopped}
use Rattle.basin_cli.proofs.writing.write_months.Goals as goal

pub returns-in_err-write_month-clause-written : goal.returns-in_err-write_month-clause-written
returns-in_err-write_month-clause-written g c =
    stopped c.from_residual.result _ _ c.from_residual.ensures.0
    (rw (← c.loop-month.invariant.begun.basin, ← c.loop-month.invariant.series)
    (c.in_err-write_month.ensures.written c.args.work.now
    (rw (c.loop-month.invariant.done, c.loop-month.invariant.begun.basin) c.loop-month.invariant.work)))

pub returns-in_err-write_month-clause-work : goal.returns-in_err-write_month-clause-work
returns-in_err-write_month-clause-work g c =
    within_run c.args.run.now.basin c.args.work.now c.loop-month.work c.write_month.new.work
    c.loop-month._month
    c.loop-month.invariant.work (rw c.loop-month.invariant.begun.basin at c.in_err-write_month.ensures.work)
    (omega (arith, c.loop-month-test.true, ap (λ (b : Basin). b.months) c.basin.ensures.value))
