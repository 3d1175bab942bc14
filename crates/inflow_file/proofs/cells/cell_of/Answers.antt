use Rattle.inflow_file.proofs.Words.{arith}
use Rattle.inflow_file.proofs.DueLaws.{small_index, small_table}
use Rattle.inflow_file.proofs.cells.cell_of.Goals as goal

pub overflow_mul-result : goal.overflow_mul-result
overflow_mul-result c =
    let small = small_index _ _ _ c.requires.basin.run.months.1 c.requires.basin.bounded c.requires.index
    c.requires.column in
    rw c.count.ensures (omega (arith, small.0))

pub overflow_add-result : goal.overflow_add-result
overflow_add-result c =
    let small = small_index _ _ _ c.requires.basin.run.months.1 c.requires.basin.bounded c.requires.index
    c.requires.column in
    let table = small_table _ c.requires.basin.run.months.1 c.requires.basin.bounded in
    rw (c.count.ensures, c.index_of.ensures) (omega (arith, small.1, table))

pub returns-clause-within : goal.returns-clause-within
returns-clause-within c =
    rw (c.count.ensures, c.index_of.ensures) (small_index _ _ _ c.requires.basin.run.months.1
    c.requires.basin.bounded c.requires.index c.requires.column).1
