use Rattle.std.proofs.Common.{arith, rules}
use Rattle.plan_residual.specs.Rows.{starts_at}
use Rattle.plan_residual.proofs.ResidualSearch.open.Goals as goal

pub invariant_of-result : goal.invariant_of-result
invariant_of-result c =
    let rows = c.in_ok-rows.ensures (starts_at c.args.basin.now) (λ step node l is. search rules) in
    let one = rows.one_first in
    record {
      in_queue = c.in_ok-queue.ensures.in_queue;
      in_core = c.in_ok-core.ensures.in_queue;
      for_queue = omega (arith, one, c.len.ensures, c.len-3.ensures, c.in_ok-queue.ensures.count);
      for_core = omega (arith, one, c.len.ensures, c.len-4.ensures, c.in_ok-core.ensures.count);
    }

pub returns : goal.returns
returns c =
    let rows = c.in_ok-rows.ensures (starts_at c.args.basin.now) (λ step node l is. search rules) in
    rw (c.len.ensures, c.len-2.ensures) at rows
