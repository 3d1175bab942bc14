use Rattle.std.proofs.Common.{◌∙◌}
use Rattle.water_model.specs.declared.types.Node.{Node}
use Rattle.month_terms.specs.Calendars.{monthly_inflow}
use Rattle.month_terms.proofs.Mapped.{mapped_more, mapped_whole, inflow_of_node}
use Rattle.month_terms.proofs.calendar.inflows_in.Goals as goal

pub loop-node-init : goal.loop-node-init
loop-node-init c = c.in_ok-inflows.ensures.items

pub monthly_inflow-requires-clause-inflow : goal.monthly_inflow-requires-clause-inflow
monthly_inflow-requires-clause-inflow c =
    inflow_of_node c.args.basin.now c.as_slice-node-items.result.now c.loop-node.node-index c.node-item.result
    c.requires.basin c.as_slice-node-items.ensures c.loop-node-test.true c.node-item.is

pub loop-node-preserved : goal.loop-node-preserved
loop-node-preserved c =
    mapped_more (λ (n : Node). monthly_inflow n.inflow c.args.position) c.as_slice-node-items.result.now
    c.loop-node.node-index c.node-item.result c.loop-node.inflows.items c.push.new.self.items c.monthly_inflow.result
    c.loop-node-test.true c.node-item.is c.loop-node.invariant c.monthly_inflow.ensures c.in_ok-push.ensures.items

pub returns : goal.returns
returns c = c.from_vec.ensures ∙ mapped_whole (λ (n : Node). monthly_inflow n.inflow c.args.position)
    c.as_slice-node-items.result.now c.args.basin.now.nodes c.loop-node.node-index c.loop-node.inflows.items
    c.loop-node-test.false c.as_slice-node-items.ensures c.loop-node.invariant
