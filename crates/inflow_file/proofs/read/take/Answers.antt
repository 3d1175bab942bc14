use Rattle.inflow_file.proofs.Words.{fields_of, with_kind, entries_of}
use Rattle.inflow_file.proofs.TableLaws.{entry_taken}
use Rattle.inflow_file.proofs.read.take.Goals as goal

pub returns : goal.returns
returns c = λ before. entry_taken c.args.columns.now.basin.now
    before (with_kind c.args.kinds (fields_of c.args.row.now)) c.in-Ok.entry c.args.amounts.now c.enter.new.amounts
    c.enter.result c.in-Ok.ensures.reads (c.enter.ensures (entries_of c.args.columns.now.basin.now before))
