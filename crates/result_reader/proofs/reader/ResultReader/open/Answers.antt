use Rattle.std.proofs.Common.{ap, Some}
use Rattle.result_reader.proofs.StandingLaws.{all_due_first, reader_first}
use Rattle.result_reader.proofs.reader.ResultReader.open.Goals as goal

pub invariant_of-result : goal.invariant_of-result
invariant_of-result c =
    reader_first c.args.basin.now c.in_ok-names.names.basin.now c.in_ok-dues.dues.items c.max_lines-left.result
    c.in_ok-names.ensures c.requires.basin c.in_ok-dues.ensures
    c.max_lines-left.ensures.enough

pub returns-clause-none : goal.returns-clause-none
returns-clause-none c = ap (λ d. Some d) (all_due_first c.in_ok-names.names.basin.now c.in_ok-dues.dues.items)
