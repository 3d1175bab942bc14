use Rattle.std.proofs.Common.{Some, arith}
use Rattle.water_model.specs.Basin.{is_at}
use Rattle.cut_cert.proofs.RowSums.{IsRowSum, chain_smaller, row_all, row_fits, row_more, row_start, sum_all}
use Rattle.cut_cert.proofs.bounding.sum_at.Goals as goal

pub loop-next-init : goal.loop-next-init
loop-next-init g c =
    row_start c.args.rows.now c.args.node (goal.F-post g c.args.term) c.first_of-next.result c.requires.rows
    c.first_of-next.ensures

pub term-sum-requires : goal.term-sum-requires
term-sum-requires g c =
    let so : IsRowSum c.args.rows.now c.args.node (goal.F-post g c.args.term) c.loop-next.sum (Some c.in-Some.index) =
    rw c.in-Some.is at c.loop-next.invariant in
    c.requires.terms c.in-Some.index so.so_far.at.1

pub overflow_add-sum : goal.overflow_add-sum
overflow_add-sum g c =
    let so : IsRowSum c.args.rows.now c.args.node (goal.F-post g c.args.term) c.loop-next.sum (Some c.in-Some.index) =
    rw c.in-Some.is at c.loop-next.invariant in
    omega (
      arith,
      c.requires.most c.in-Some.index c.term-sum.result so.so_far.at.1 c.term-sum.ensures,
      row_fits c.args.rows.now c.args.node (goal.F-post g c.args.term) c.loop-next.sum c.in-Some.index so
          c.requires.few,
    )

pub loop-next-smaller : goal.loop-next-smaller
loop-next-smaller g c =
    let so : IsRowSum c.args.rows.now c.args.node (goal.F-post g c.args.term) c.loop-next.sum (Some c.in-Some.index) =
    rw c.in-Some.is at c.loop-next.invariant in
    rw c.in-Some.is
    (chain_smaller so.node_of _ _ c.args.node c.args.rows.now _ so.most c.in-Some.index c.next_of-next.result so.all
    so.so_far c.next_of-next.ensures)

pub loop-next-preserved : goal.loop-next-preserved
loop-next-preserved g c =
    let so : IsRowSum c.args.rows.now c.args.node (goal.F-post g c.args.term) c.loop-next.sum (Some c.in-Some.index) =
    rw c.in-Some.is at c.loop-next.invariant in
    row_more c.args.rows.now c.args.node (goal.F-post g c.args.term) c.loop-next.sum c.in-Some.index c.term-sum.result
    c.next_of-next.result so c.term-sum.ensures
    (c.requires.most c.in-Some.index c.term-sum.result so.so_far.at.1 c.term-sum.ensures) c.next_of-next.ensures

pub returns : goal.returns
returns g c =
    let so = rw c.in_default.is at c.loop-next.invariant in
    record {
      sum = λ node_of count nodes f all terms.
          sum_all (λ s. is_at (node_of s) c.args.node) count f c.loop-next.sum
          (so.sums node_of count nodes f all terms);
      most = row_all c.args.rows.now c.args.node (goal.F-post g c.args.term) c.loop-next.sum so c.requires.few;
    }
