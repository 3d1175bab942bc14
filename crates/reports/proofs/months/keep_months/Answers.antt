use Rattle.std.proofs.Common.{◌≡◌, ◌+◌, ◌∙◌, ap, arith, refl}
use Rattle.water_model.specs.declared.types.Basin.{Basin}
use Rattle.month_fold.proofs.Works.{Solves-none, Solves-then}
use Rattle.reports.proofs.Loops.{kept_whole}
use Rattle.reports.proofs.months.keep_months.Goals as goal

pub loop-month-init : goal.loop-month-init
loop-month-init g c = record {
  goes_on = record { basin = refl; series = refl };
  done = c.requires.first;
  kept = c.requires.kept;
  work = Solves-none c.args.run.now.basin c.args.work.now;
}

pub keep_month-requires-clause-kept : goal.keep_month-requires-clause-kept
keep_month-requires-clause-kept g c = c.loop-month.invariant.kept

pub loop-month-preserved : goal.loop-month-preserved
loop-month-preserved g c =
    let so_far = c.loop-month.invariant in
    record {
      goes_on = record {
        basin = c.keep_month.ensures.goes_on.basin ∙ so_far.goes_on.basin;
        series = c.keep_month.ensures.goes_on.series ∙ so_far.goes_on.series;
      };
      done = c.keep_month.ensures.done ∙ ap (λ n. n + 1) so_far.done;
      kept = c.keep_month.ensures.kept;
      work = Solves-then c.loop-month._month 1 c.args.run.now.basin c.args.work.now c.loop-month.work
          c.keep_month.new.work so_far.work (rw so_far.goes_on.basin at c.keep_month.ensures.work);
    }

pub returns-clause-goes_on : goal.returns-clause-goes_on
returns-clause-goes_on g c = c.loop-month.invariant.goes_on

pub returns-clause-kept : goal.returns-clause-kept
returns-clause-kept g c =
    let done : c.loop-month.run.done ≡ c.args.run.now.basin.months =
    omega (arith, c.loop-month.invariant.done, ap (λ (b : Basin). b.months) c.basin.ensures.value) in
    kept_whole g.T.Kept.is_of c.args.run.now c.loop-month.run c.loop-month.kept c.loop-month.invariant.goes_on done
    c.loop-month.invariant.kept

pub returns-clause-work : goal.returns-clause-work
returns-clause-work g c =
    let all : c.loop-month._month ≡ c.args.run.now.basin.months =
    omega (arith, ap (λ (b : Basin). b.months) c.basin.ensures.value) in
    rw all at c.loop-month.invariant.work
