use Rattle.std.proofs.Common.{arith}
use Rattle.std.proofs.lemmas.Slice.Eq.{bytes_eq-Decides}
use Rattle.result_reader.proofs.names.Names.has_name.Goals as goal

pub returns-then-at-count_in-clause-same : goal.returns-then-at-count_in-clause-same
returns-then-at-count_in-clause-same c =
    grind (arith, bytes_eq-Decides, c.eq.ensures, c.bytes.ensures.value, c.name_in.ensures)
