use Rattle.index_seq.specs.Entries.{whole_line}
use Rattle.index_seq.specs.Text.{yearly_lines}
use Rattle.index_seq.specs.declared.entry.EnsembleLine.TheVariants as line
use Rattle.water_edge.proofs.Puts.{Puts-first}
use Rattle.index_seq.proofs.writer.put_right.Goals as goal

pub returns-clause-text : goal.returns-clause-text
returns-clause-text g c =
    Puts-first (whole_line c.args.basin.now) (line.Right c.args.right) (yearly_lines c.args.amounts.now)
    (g.K.Sink.output c.args.sink.now) (g.K.Sink.output c.put_line.new.sink) (g.K.Sink.output c.put_yearly.new.sink)
    c.put_yearly.result
    c.in_ok-put_line.ensures.text c.put_yearly.ensures.text

pub put_line-requires-clause-basin : goal.put_line-requires-clause-basin
put_line-requires-clause-basin g c = c.requires.basin

pub put_yearly-requires-clause-basin : goal.put_yearly-requires-clause-basin
put_yearly-requires-clause-basin g c = c.requires.basin

pub put_yearly-requires-clause-sorted : goal.put_yearly-requires-clause-sorted
put_yearly-requires-clause-sorted g c = c.requires.sorted
