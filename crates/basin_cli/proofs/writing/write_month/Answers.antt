use Rattle.basin_cli.proofs.Monthly.{month_kept, month_put, stopped}
use Rattle.basin_cli.proofs.writing.write_month.Goals as goal

pub put_month-requires-clause-writer : goal.put_month-requires-clause-writer
put_month-requires-clause-writer g c = rw c.step.ensures.basin c.requires.1.1.1.1.1.0

pub put_month-requires-clause-last : goal.put_month-requires-clause-last
put_month-requires-clause-last g c =
    let so_far = c.requires.1.1.1.1.1.1 in
    let records = g.W.MonthlyWriter.text.records so_far.entries in
    record { before = records; stands = c.step.ensures.month records so_far.stands }

pub returns-in_err-put_month-clause-written : goal.returns-in_err-put_month-clause-written
returns-in_err-put_month-clause-written g c =
    let so_far = c.requires.1.1.1.1.1.1 in
    stopped c.from_residual.result _ _ c.from_residual.ensures.0
    (month_put g.W.MonthlyWriter.text g.met.W.MonthlyWriter.grows _ _ c.args.run.now c.step.new.self g.start _ _ so_far
    c.step.ensures.basin c.step.ensures.series (c.step.ensures.month _ so_far.stands) _ _ _
    (rw c.step.ensures.basin at c.in_err-put_month.ensures.month) tt c.step.ensures.work)

pub returns-clause-written : goal.returns-clause-written
returns-clause-written g c =
    let so_far = c.requires.1.1.1.1.1.1 in
    month_put g.W.MonthlyWriter.text g.met.W.MonthlyWriter.grows _ _ c.args.run.now c.step.new.self g.start _ _ so_far
    c.step.ensures.basin c.step.ensures.series (c.step.ensures.month _ so_far.stands) c.flush.result _ _
    (month_kept _ _ _ _ _ _ c.flush.result (rw c.step.ensures.basin at c.in_ok-put_month.ensures.month)
    c.flush.ensures.bytes) c.flush.ensures.all c.step.ensures.work

pub returns-in_err-put_month-clause-writer : goal.returns-in_err-put_month-clause-writer
returns-in_err-put_month-clause-writer g c = rw c.step.ensures.basin at c.in_err-put_month.ensures.writer

pub returns-clause-writer : goal.returns-clause-writer
returns-clause-writer g c = rw c.step.ensures.basin at c.in_ok-put_month.ensures.writer
