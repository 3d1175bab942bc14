use Rattle.index_seq.proofs.Lines.{sorted_lines}
use Rattle.index_seq.proofs.ensemble.put_in_order.Goals as goal

pub returns : goal.returns
returns c =
    sorted_lines c.args.basin.now c.args.series.now c.args.sums.now c.sort_sums.new.sums c.requires
    c.sort_sums.ensures.count c.sort_sums.ensures.permutation c.sort_sums.ensures.sorted
