use Rattle.std.proofs.Common.{◌∙◌, sym, arith, length}
use Rattle.circulation.specs.Contents.{flow_of}
use Rattle.senior_hold.specs.Spilled.{spilled}
use Rattle.senior_hold.proofs.Numbers.{list_is}
use Rattle.senior_hold.proofs.SpilledArcs.{spilled_count}
use Rattle.senior_hold.proofs.Spilled.{spill_read}
use Rattle.senior_hold.proofs.amounts.read_spills.Goals as goal

pub returns : goal.returns
returns c =
    let count = spilled_count c.args.basin.now in
    list_is (length (spilled c.args.basin.now).nodes) (length (spilled c.args.basin.now).nodes) _ c.loop-node.into
    (c.loop-node.auto.into ∙ (c.requires.into ∙ sym count)) (omega arith)
    (λ n l. c.loop-node.invariant n (omega (arith, count, c.loop-node-test.false, c.len-node-end.ensures))
    ∙ sym (spill_read c.args.basin.now (flow_of c.args.circ.now) n (omega (arith, count))))
