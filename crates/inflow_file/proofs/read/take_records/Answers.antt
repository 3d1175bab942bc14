use Rattle.inflow_file.proofs.Words.{ap, sym, arith, length}
use Rattle.inflow_file.proofs.TableLaws.{no_header, table_taken}
use Rattle.inflow_file.proofs.read.take_records.Goals as goal

pub take_all-requires-clause-bounded : goal.take_all-requires-clause-bounded
take_all-requires-clause-bounded c =
    let took = rw c.if-not-found.false at c.in_ok-found.ensures.takes in omega (arith, ap length took)

pub returns-then-not-has_header : goal.returns-then-not-has_header
returns-then-not-has_header c =
    let took = rw c.if-not-found.false at c.in_ok-found.ensures.takes in
    rw c.no_header-then-not-has_header.ensures (no_header _ _ _ _ _ took c.has_kinds-kinds.ensures
    (sym c.if-not-has_header.ensures))

pub returns : goal.returns
returns c =
    let took = rw c.if-not-found.false at c.in_ok-found.ensures.takes in
    table_taken _ _ _ _ _ _ _ took c.has_kinds-kinds.ensures (sym c.if-not-has_header.ensures) c.take_all.ensures
