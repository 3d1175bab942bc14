use Rattle.inflow_file.proofs.Words.{fields_of}
use Rattle.inflow_file.proofs.RecordLaws.{reads_on, takes_first}
use Rattle.inflow_file.proofs.records.read_row.Goals as goal

pub returns-clause-reading : goal.returns-clause-reading
returns-clause-reading c = λ found.
    reads_on c.args.reader.now c.read_byte_record.new.self (fields_of c.read_byte_record.new.row) c.requires
    (rw found at (c.in-Ok.ensures.reads c.requires.trim c.requires.ready)) (c.in-Ok.ensures.ready c.requires.trim)

pub returns-clause-takes : goal.returns-clause-takes
returns-clause-takes c =
    takes_first c.args.reader.now c.read_byte_record.new.self c.in-Ok.found
    (fields_of c.read_byte_record.new.row) c.requires (c.in-Ok.ensures.reads c.requires.trim c.requires.ready)
