use Rattle.basin_cli.proofs.Judged.{answer_ends, answer_leaves}
use Rattle.basin_cli.proofs.checking.check_file.Goals as goal

pub returns-in-Ok-answered-clause-ends : goal.returns-in-Ok-answered-clause-ends
returns-in-Ok-answered-clause-ends g c =
    let opened = c.in-Ok.ensures in
    answer_ends c.args.question _ _ _ c.in-Ok-answered.answer c.print_answer.result _ _
    (rw (opened.basin, opened.series) at c.in-Ok-answered.ensures.answer) c.print_answer.ensures.ends

pub returns-in-Ok-answered-clause-leaves : goal.returns-in-Ok-answered-clause-leaves
returns-in-Ok-answered-clause-leaves g c =
    let opened = c.in-Ok.ensures in
    answer_leaves c.args.question _ _ _ c.in-Ok-answered.answer c.print_answer.result _ _
    (rw (opened.basin, opened.series) at c.in-Ok-answered.ensures.answer) c.print_answer.ensures.leaves
