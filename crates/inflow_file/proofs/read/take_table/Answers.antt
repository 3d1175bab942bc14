use Rattle.inflow_file.proofs.Words.{ap, arith, length}
use Rattle.inflow_file.proofs.RecordLaws.{bounded_records}
use Rattle.inflow_file.proofs.read.take_table.Goals as goal

pub take_records-requires-clause-bounded : goal.take_records-requires-clause-bounded
take_records-requires-clause-bounded c =
    omega (arith, bounded_records c.args.text.now, ap length c.reader_of-reader.ensures.all)

pub returns : goal.returns
returns c = rw c.reader_of-reader.ensures.all at c.take_records.ensures
