use Rattle.std.proofs.Common.{length, arith, ap}
use Rattle.circulation.specs.Contents.{Contents}
use Rattle.augment.proofs.Searches.{planted}
use Rattle.augment.proofs.searching.plant.Goals as goal

pub returns-clause-tree : goal.returns-clause-tree
returns-clause-tree c =
    let rest = c.clear.ensures.rest in
    let nodes = ap (λ (x : Contents). x.nodes) rest in
    let arcs_same = ap (λ (x : Contents). length x.from) rest in
    let fresh = c.visit.ensures.fresh (c.clear.ensures.none c.ends-head.result.to
    (omega (
      arith,
      c.ends-head.ensures.to,
      c.clear.ensures.kept.ends.to_in c.args.arc
          (omega (arith, arcs_same, c.requires.arc)),
      nodes,
    ))) in
    planted c.clear.ensures.kept (omega (arith, arcs_same, c.requires.arc))
    (λ v b. c.clear.ensures.none v (omega (arith, nodes, b))) c.ends-head.ensures.to fresh.1
