use Rattle.result_text.proofs.Monthly.{puts_kept}
use Rattle.basin_cli.proofs.flushing.put_whole.Goals as goal

pub returns-clause-text : goal.returns-clause-text
returns-clause-text g c =
    puts_kept (g.K.Sink.output c.args.out.now) (g.K.Sink.output c.put.new.self) (g.K.Sink.output c.flush.new.self)
    c.flush.result
    c.args.text.now c.in_ok-put.ensures.bytes c.flush.ensures.bytes
