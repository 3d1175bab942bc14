use Rattle.std.proofs.Common.{arith}
use Rattle.std.proofs.lemmas.Bool.Decides.{nat_tests}
use Rattle.index_seq.proofs.Putting.{put_next, put_fails}
use Rattle.index_seq.proofs.writer.put_yearly.Goals as goal

pub returns-in_err-put_line-clause-text : goal.returns-in_err-put_line-clause-text
returns-in_err-put_line-clause-text g c =
    put_fails c.args.basin.now c.args.amounts.now c.loop-rest.rest.now c.run_length-count.result
    (g.K.Sink.output c.args.sink.now) (g.K.Sink.output c.loop-rest.sink) (g.K.Sink.output c.put_line.new.sink)
    (g.K.Sink.faults c.args.sink.now) (g.K.Sink.faults c.loop-rest.sink)
    c.from_residual.result c.loop-rest.invariant (grind (arith, nat_tests, c.is_empty.ensures, c.loop-rest-test.true))
    c.run_length-count.ensures.count c.in_err-put_line.ensures.text c.from_residual.ensures.0

pub loop-rest-preserved : goal.loop-rest-preserved
loop-rest-preserved g c =
    rw c.after-rest.ensures
    (put_next c.args.basin.now c.args.amounts.now c.loop-rest.rest.now c.run_length-count.result
    (g.K.Sink.output c.args.sink.now) (g.K.Sink.output c.loop-rest.sink) (g.K.Sink.output c.put_line.new.sink)
    (g.K.Sink.faults c.args.sink.now) (g.K.Sink.faults c.loop-rest.sink)
    (g.K.Sink.faults c.put_line.new.sink) c.loop-rest.invariant
    (grind (arith, nat_tests, c.is_empty.ensures, c.loop-rest-test.true)) c.run_length-count.ensures.count
    c.in_ok-put_line.ensures.text c.in_ok-put_line.ensures.cause.later)
