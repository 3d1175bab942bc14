use Rattle.std.proofs.Common.{◌≡◌, ◌∙◌, sym, ap, length}
use Rattle.senior_hold.specs.Solved.{IsSolved, FitsCuts}
use Rattle.month_fold.proofs.Following.{node_small, settled_given, planned_small, next_small, made_follows, begun_fits}
use Rattle.month_fold.proofs.Following.{run_begun}
use Rattle.month_fold.proofs.next.next_month.Goals as goal

pub write_returns-requires-clause-used : goal.write_returns-requires-clause-used
write_returns-requires-clause-used g c = c.requires.month.fits.used ∙ sym c.requires.months.went.used.count

pub settle-requires-clause-small : goal.settle-requires-clause-small
settle-requires-clause-small g c = λ evaporated n l.
    let months = c.requires.months in
    node_small c.args.basin.now c.args.series.now months.records c.write_returns.new.month c.args.index evaporated n
    months.went.valid months.went.fits
    (run_begun _ months.records c.write_returns.new.month months.went c.write_returns.ensures.rest
    (c.write_returns.ensures.each _ months.went.lags) c.write_returns.ensures.used)
    months.went.done l

pub solve_month-requires-clause-given : goal.solve_month-requires-clause-given
solve_month-requires-clause-given g c =
    let months = c.requires.months in
    let uses : length c.write_returns.new.month.used ≡ length c.args.month.now.used =
    ap length c.write_returns.ensures.used ∙ (months.went.used.count ∙ sym c.requires.month.fits.used) in
    rw (c.requires.solver, c.as_slice.ensures, c.as_slice-2.ensures)
    (settled_given c.args.basin.now c.args.series.now months.records c.args.index
    c.write_returns.new.month c.settle.new.month c.clear.new.self months.went.valid months.went.fits
    (run_begun _ months.records c.write_returns.new.month months.went c.write_returns.ensures.rest
    (c.write_returns.ensures.each _ months.went.lags) c.write_returns.ensures.used)
    months.went.done
    (begun_fits c.args.basin.now c.args.month.now c.write_returns.new.month c.requires.month
    c.write_returns.ensures.rest
    c.write_returns.ensures.length uses)
    c.settle.ensures c.clear.ensures)

pub conclude-requires-clause-small : goal.conclude-requires-clause-small
conclude-requires-clause-small g c =
    let solved : IsSolved c.args.basin.now c.settle.new.month.month c.settle.new.month.supply c.settle.new.month.want
    c.solve_month.new.plan c.solve_month.new.cuts =
    rw (c.requires.solver, c.as_slice.ensures, c.as_slice-2.ensures) at c.solve_month.ensures.solved in
    planned_small c.args.basin.now c.args.series.now c.args.index c.write_returns.new.month c.settle.new.month
    c.solve_month.new.plan c.solve_month.new.cuts
    c.requires.months.went.valid c.requires.months.went.fits c.settle.ensures solved

pub returns-clause-next : goal.returns-clause-next
returns-clause-next g c = λ records went.
    let uses : length c.write_returns.new.month.used ≡ length c.args.month.now.used =
    ap length c.write_returns.ensures.used ∙ (went.used.count ∙ sym c.requires.month.fits.used) in
    let solved : IsSolved c.args.basin.now c.settle.new.month.month c.settle.new.month.supply c.settle.new.month.want
    c.solve_month.new.plan c.solve_month.new.cuts =
    rw (c.requires.solver, c.as_slice.ensures, c.as_slice-2.ensures) at c.solve_month.ensures.solved in
    let cuts : FitsCuts c.args.basin.now c.solve_month.new.cuts = rw c.requires.solver at c.solve_month.ensures.cuts in
    made_follows c.args.basin.now c.args.series.now records c.args.index c.write_returns.new.month c.settle.new.month
    c.solve_month.new.plan c.solve_month.new.cuts c.conclude.new.month
    went.valid went.fits
    (run_begun _ records c.write_returns.new.month went c.write_returns.ensures.rest
    (c.write_returns.ensures.each _ went.lags) c.write_returns.ensures.used) went.done (record {
      fits = begun_fits c.args.basin.now c.args.month.now c.write_returns.new.month c.requires.month
          c.write_returns.ensures.rest c.write_returns.ensures.length uses;
      is_settled = c.settle.ensures;
      solved = solved;
      fits_cuts = cuts;
      is_concluded = c.conclude.ensures;
    })

pub returns-clause-small : goal.returns-clause-small
returns-clause-small g c =
    next_small c.args.basin.now c.args.series.now c.requires.months.records c.conclude.new.month
    c.requires.months.went.valid c.requires.months.went.fits
    (returns-clause-next g c c.requires.months.records c.requires.months.went)

pub write_returns-requires-clause-basin : goal.write_returns-requires-clause-basin
write_returns-requires-clause-basin g c = c.requires.months.went.valid

pub write_returns-requires-clause-returned : goal.write_returns-requires-clause-returned
write_returns-requires-clause-returned g c = c.requires.month.fits.returned

pub settle-requires-clause-calendar : goal.settle-requires-clause-calendar
settle-requires-clause-calendar g c = c.requires.calendar

pub settle-requires-clause-basin : goal.settle-requires-clause-basin
settle-requires-clause-basin g c = c.requires.months.went.valid

pub settle-requires-clause-series : goal.settle-requires-clause-series
settle-requires-clause-series g c = c.requires.months.went.fits

pub settle-requires-clause-tables : goal.settle-requires-clause-tables
settle-requires-clause-tables g c = c.requires.tables

pub settle-requires-clause-index : goal.settle-requires-clause-index
settle-requires-clause-index g c = c.requires.index

pub settle-requires-clause-month : goal.settle-requires-clause-month
settle-requires-clause-month g c =
    let uses : length c.write_returns.new.month.used ≡ length c.args.month.now.used =
    ap length c.write_returns.ensures.used ∙ (c.requires.months.went.used.count ∙ sym c.requires.month.fits.used) in
    begun_fits c.args.basin.now c.args.month.now c.write_returns.new.month c.requires.month c.write_returns.ensures.rest
    c.write_returns.ensures.length uses

pub conclude-requires-clause-calendar : goal.conclude-requires-clause-calendar
conclude-requires-clause-calendar g c = c.requires.calendar

pub conclude-requires-clause-basin : goal.conclude-requires-clause-basin
conclude-requires-clause-basin g c = c.requires.months.went.valid

pub returns-clause-solver : goal.returns-clause-solver
returns-clause-solver g c = c.solve_month.ensures.same

pub returns-clause-pushes : goal.returns-clause-pushes
returns-clause-pushes g c = rw c.requires.solver at c.solve_month.ensures.pushes
