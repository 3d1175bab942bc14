use Rattle.std.proofs.Common.{arith, sym, ◌∙◌}
use Rattle.river_net.specs.Search.{reaches_itself}
use Rattle.water_model.proofs.Finds.{find_first, find_none}
use Rattle.river_net.proofs.cycle.node_on_cycle.Goals as goal

pub returns-then-branch : goal.returns-then-branch
returns-then-branch c =
    sym (find_first (reaches_itself c.args.graph.now) 0 c.args.graph.now.nodes c.loop-node.node (omega arith)
    (omega (arith, c.loop-node-test.true, c.nodes-nodes.ensures.value))
    (sym c.in_ok-reaches_itself.ensures ∙ c.if-branch.true) (λ j _ below. c.loop-node.invariant j below))

pub returns : goal.returns
returns c =
    sym (find_none (reaches_itself c.args.graph.now) 0 c.args.graph.now.nodes
    (λ j _ below. c.loop-node.invariant j (omega (arith, c.loop-node-test.false, c.nodes-nodes.ensures.value))))
