use Rattle.std.proofs.Common.{◌≡◌, ◌∙◌}
use Rattle.basin_cli.proofs.Explained.{last_record}
use Rattle.basin_cli.proofs.Monthly.{last_month}
use Rattle.basin_cli.proofs.explaining.explain_by.Goals as goal

pub answer-ending-requires : goal.answer-ending-requires
answer-ending-requires g c =
    let solved = c.solve_up_to.ensures in
    let same : c.solve_up_to.new.run.basin ≡ c.args.basin.now = solved.basin ∙ c.in-Ok.ensures.basin in
    let can = last_month _ c.solve_up_to.new.run _ _ same solved.last.stands in
    rw (c.basin.ensures.value, same, c.month.ensures)
    (record {
      finds = c.requires.finder;
      valid = c.requires.basin;
      ranks = rw same at c.roll.ensures;
      fits = can.fits;
      plan = can.plan;
      reaches = can.reaches;
      within = c.requires.right;
    })

pub returns-clause-answers : goal.returns-clause-answers
returns-clause-answers g c = λ may.
    (let solved = c.solve_up_to.ensures in
    let same : c.solve_up_to.new.run.basin ≡ c.args.basin.now = solved.basin ∙ c.in-Ok.ensures.basin in
    let answered = rw (c.basin.ensures.value, same, c.month.ensures) at c.answer-ending.ensures.leaves in
    record {
      last = c.solve_up_to.new.run.last;
      of_month =
          last_record _ _ c.solve_up_to.new.run c.args.index same (solved.series ∙ c.in-Ok.ensures.series) solved.done
          solved.last;
      ends = rw c.month.ensures at c.answer-ending.ensures.ends;
      text = answered.0;
      explains = answered.1;
      written = answered.2;
    })
