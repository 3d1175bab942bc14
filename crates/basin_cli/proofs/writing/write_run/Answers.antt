use Rattle.std.proofs.Common.{refl}
use Rattle.result_text.proofs.Monthly.{puts_kept}
use Rattle.basin_cli.proofs.Monthly.{head_begun, head_stops, stopped, tail_put, tail_stops}
use Rattle.basin_cli.proofs.writing.write_run.Goals as goal

pub returns-in_err-put_head-clause-written : goal.returns-in_err-put_head-clause-written
returns-in_err-put_head-clause-written g c =
    stopped c.from_residual.result _ _ c.from_residual.ensures.0
    (rw c.requires.1.1.1.1.1.1
    (head_stops g.W.MonthlyWriter.text g.met.W.MonthlyWriter.grows _ _ c.args.run.now _ _ c.args.work.now refl refl
    c.requires.1.1.1.1.0 (rw c.basin.ensures.value at c.in_err-put_head.ensures.lines)))

pub write_months-requires : goal.write_months-requires
write_months-requires g c = λ lifetimes lives. (
  lives.0,
  (
    lives.1.0,
    (
      lives.1.1.0,
      (
        lives.1.1.1,
        (
          c.requires.1.1.1.1.0.done,
          (
            c.requires.1.1.1.1.1.0,
            rw c.requires.1.1.1.1.1.1 (head_begun g.W.MonthlyWriter.text g.met.W.MonthlyWriter.grows _
                c.args.run.now.series c.args.run.now (g.K.Sink.output c.args.out.now)
                (g.K.Sink.output c.put_head.new.out) refl c.requires.1.1.1.1.0
                (rw c.basin.ensures.value at c.in_ok-put_head.ensures.lines)),
          ),
        ),
      ),
    ),
  ),
)

pub returns-in_err-put_tail-clause-written : goal.returns-in_err-put_tail-clause-written
returns-in_err-put_tail-clause-written g c =
    let put = c.in_ok-write_months.ensures in
    stopped c.from_residual-in_err-put_tail.result _ _ c.from_residual-in_err-put_tail.ensures.0
    (tail_stops g.W.MonthlyWriter.text g.met.W.MonthlyWriter.grows _ _ c.write_months.new.run g.start _ _ _ _ put.series
    put.done put.written (rw (c.basin-2.ensures.value, put.written.basin) at c.in_err-put_tail.ensures.lines) put.work)

pub returns-clause-written : goal.returns-clause-written
returns-clause-written g c =
    let put = c.in_ok-write_months.ensures in
    tail_put g.W.MonthlyWriter.text g.met.W.MonthlyWriter.grows _ _ c.write_months.new.run g.start _ _ c.flush.result _ _
    put.series put.done put.written
    (puts_kept _ _ _ c.flush.result _
    (rw (c.basin-2.ensures.value, put.written.basin) at c.in_ok-put_tail.ensures.lines) c.flush.ensures.bytes) put.work
