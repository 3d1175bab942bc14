use Rattle.std.proofs.Common.{◌∙◌}
use Rattle.index_seq.proofs.Running.{trace_start, trace_over, year_over}
use Rattle.index_seq.proofs.Rotation.{begun_fits}
use Rattle.index_seq.proofs.months.run_trace.Goals as goal

pub begin-run-requires : goal.begin-run-requires
begin-run-requires g c =
    rw (c.requires.engine, c.rotate_series.ensures.value)
    (begun_fits c.args.basin.now c.args.series.now c.args.trace c.requires.series c.requires.trace)

pub run_years-requires-clause-first : goal.run_years-requires-clause-first
run_years-requires-clause-first g c = c.begin-run.ensures.stands.done

pub run_years-requires-clause-under_way : goal.run_years-requires-clause-under_way
run_years-requires-clause-under_way g c =
    trace_start c.args.basin.now c.args.series.now c.args.trace _ c.args.sums.now c.args.year.now c.requires.sums
    (c.begin-run.ensures.basin ∙ c.requires.engine) (c.begin-run.ensures.series ∙ c.rotate_series.ensures.value)
    c.begin-run.ensures.stands c.requires.year

pub returns-clause-engine : goal.returns-clause-engine
returns-clause-engine g c = c.close.ensures ∙ c.in_ok-run_years.ensures.under_way.basin

pub returns-clause-sums : goal.returns-clause-sums
returns-clause-sums g c =
    trace_over c.args.basin.now c.args.series.now c.args.trace _ c.run_years.new.sums _
    c.in_ok-run_years.ensures.under_way c.requires.whole

pub returns-clause-year : goal.returns-clause-year
returns-clause-year g c =
    year_over c.args.basin.now c.args.series.now c.args.trace _ c.run_years.new.sums _
    c.in_ok-run_years.ensures.under_way

pub rotate_series-requires-clause-basin : goal.rotate_series-requires-clause-basin
rotate_series-requires-clause-basin g c = c.requires.basin

pub rotate_series-requires-clause-whole : goal.rotate_series-requires-clause-whole
rotate_series-requires-clause-whole g c = c.requires.whole

pub rotate_series-requires-clause-series : goal.rotate_series-requires-clause-series
rotate_series-requires-clause-series g c = c.requires.series

pub rotate_series-requires-clause-begun : goal.rotate_series-requires-clause-begun
rotate_series-requires-clause-begun g c = c.requires.begun

pub rotate_series-requires-clause-years : goal.rotate_series-requires-clause-years
rotate_series-requires-clause-years g c = c.requires.trace

pub run_years-requires-clause-whole : goal.run_years-requires-clause-whole
run_years-requires-clause-whole g c = c.requires.whole
